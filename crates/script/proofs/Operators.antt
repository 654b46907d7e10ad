-- The text of an operator's word: what stands in front, the variables, and what stands behind.
use Rattle.std.proofs.Common.{◌≡◌, ℕ, ◌+◌, ◌≤◌, List, [], ◌∷◌, ◌++◌, length, refl, sym, ap, arith}
use Rattle.expr.specs.declared.word.Unary.{Unary}
use Rattle.expr.specs.declared.word.Unary.TheVariants.{Not, Neg, Zero}
use Rattle.expr.specs.declared.word.Binary.{Binary}
use Rattle.expr.specs.declared.word.Binary.TheVariants.{Add, Sub, Mul, Udiv, Urem, And, Or, Xor, Shl, Lshr, Equal, Ult, Ule, Slt}
use Rattle.expr.specs.declared.token.Token.TheVariants.{Un, Bin, Ite}
use Rattle.write.specs.Ascii.{ascii}
use Rattle.script.specs.Script.{token_term}
use Rattle.script.specs.ScriptText.{constant, slot_name, term_text}
use Rattle.script.specs.Shown.{unary_front, unary_back, binary_front, binary_back}

-- ---- their letters are few

unary-few : (o : Unary) → (length (ascii (unary_front o)) ≤ 8) × (length (ascii (unary_back o)) ≤ 35)
unary-few Not = (omega arith, omega arith)
unary-few Neg = (omega arith, omega arith)
unary-few Zero = (omega arith, omega arith)

pub unary_ahead : (o : Unary) → length (ascii (unary_front o)) ≤ 8
unary_ahead o = (unary-few o).0

pub unary_behind : (o : Unary) → length (ascii (unary_back o)) ≤ 35
unary_behind o = (unary-few o).1

binary-few : (o : Binary) → (length (ascii (binary_front o)) ≤ 12) × (length (ascii (binary_back o)) ≤ 24)
binary-few Add = (omega arith, omega arith)
binary-few Sub = (omega arith, omega arith)
binary-few Mul = (omega arith, omega arith)
binary-few Udiv = (omega arith, omega arith)
binary-few Urem = (omega arith, omega arith)
binary-few And = (omega arith, omega arith)
binary-few Or = (omega arith, omega arith)
binary-few Xor = (omega arith, omega arith)
binary-few Shl = (omega arith, omega arith)
binary-few Lshr = (omega arith, omega arith)
binary-few Equal = (omega arith, omega arith)
binary-few Ult = (omega arith, omega arith)
binary-few Ule = (omega arith, omega arith)
binary-few Slt = (omega arith, omega arith)

pub binary_ahead : (o : Binary) → length (ascii (binary_front o)) ≤ 12
binary_ahead o = (binary-few o).0

pub binary_behind : (o : Binary) → length (ascii (binary_back o)) ≤ 24
binary_behind o = (binary-few o).1

-- ---- parts of text that meet

zero_behind : (xs : List ℕ) → xs ++ ascii " " ++ constant 0 ++ ascii ")" ++ ascii " " ++ constant 1 ++ ascii " " ++ constant 0 ++ ascii ")"
    ≡ xs ++ ascii " #x00000000) #x00000001 #x00000000)"
unfolding constant
zero_behind [] = refl
zero_behind (x ∷ xs) = ap {B = List ℕ} (λ r. x ∷ r) (zero_behind xs)

test-behind : (xs : List ℕ) → xs ++ ascii ")" ++ ascii " " ++ constant 1 ++ ascii " " ++ constant 0 ++ ascii ")"
    ≡ xs ++ ascii ") #x00000001 #x00000000)"
unfolding constant
test-behind [] = refl
test-behind (x ∷ xs) = ap {B = List ℕ} (λ r. x ∷ r) (test-behind xs)

choice-behind : (xs : List ℕ) → xs ++ ascii " " ++ constant 0 ++ ascii ")" ++ ascii " " ≡ xs ++ ascii " #x00000000) "
unfolding constant
choice-behind [] = refl
choice-behind (x ∷ xs) = ap {B = List ℕ} (λ r. x ∷ r) (choice-behind xs)

-- ---- the whole word

module _ (k : ℕ) where
  pub unary-text : (o : Unary) → ascii (unary_front o) ++ slot_name k ++ ascii (unary_back o) ≡ term_text (token_term k (Un o))
  unary-text Not = refl
  unary-text Neg = refl
  unary-text Zero = sym (zero_behind (ascii "(ite (= " ++ slot_name k))

  pub binary-text : (o : Binary) → ascii (binary_front o) ++ slot_name k ++ ascii " " ++ slot_name (k + 1) ++ ascii (binary_back o)
      ≡ term_text (token_term k (Bin o))
  binary-text Add = refl
  binary-text Sub = refl
  binary-text Mul = refl
  binary-text Udiv = refl
  binary-text Urem = refl
  binary-text And = refl
  binary-text Or = refl
  binary-text Xor = refl
  binary-text Shl = refl
  binary-text Lshr = refl
  binary-text Equal = sym (test-behind (ascii "(ite (= " ++ slot_name k ++ ascii " " ++ slot_name (k + 1)))
  binary-text Ult = sym (test-behind (ascii "(ite (bvult " ++ slot_name k ++ ascii " " ++ slot_name (k + 1)))
  binary-text Ule = sym (test-behind (ascii "(ite (bvule " ++ slot_name k ++ ascii " " ++ slot_name (k + 1)))
  binary-text Slt = sym (test-behind (ascii "(ite (bvslt " ++ slot_name k ++ ascii " " ++ slot_name (k + 1)))

  pub ite-text : ascii "(ite (distinct " ++ slot_name k ++ ascii " #x00000000) " ++ slot_name (k + 1) ++ ascii " " ++ slot_name (k + 2)
      ++ ascii ")" ≡ term_text (token_term k Ite)
  ite-text =
      ap (λ r. r ++ slot_name (k + 1) ++ ascii " " ++ slot_name (k + 2) ++ ascii ")")
      (sym (choice-behind (ascii "(ite (distinct " ++ slot_name k)))
