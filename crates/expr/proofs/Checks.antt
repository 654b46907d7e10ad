-- The check of an expression, from an offset on: the token there breaks its rules, or the rest is checked from the depth that it leaves.
use Rattle.std.proofs.Common.{◌≡◌, ℕ, suc, ◌+◌, ◌-◌, ◌<◌, ◌≤◌, Bool, true, false, cond, eqb, List, [], length, drop, refl, sym, ap, ◌∙◌}
use Rattle.std.proofs.Common.{subst, arith, length-drop, None, Some, Result, Ok, Err}
use Rattle.expr.specs.declared.File.{File}
use Rattle.expr.specs.declared.token.Token.{Token}
use Rattle.expr.specs.Token.{operand_count, read_token}
use Rattle.expr.specs.Expr.{depth_limit, after, fits, Parsed, Whole, Breaks, also, on_token, parse_from}
use Rattle.expr.specs.Shown.{left_by, checked}
use Rattle.expr.proofs.ExprLaws.{fits-is, token-at, end-at}
use Rattle.expr.proofs.Reading.{token-inside}

checked_also : (n : ℕ) (t : Token) (p : Parsed) → checked n (also t p) ≡ checked n p
checked_also n t (Whole e) = refl
checked_also n t (Breaks bs) = refl

module _ (F : File) (may : ℕ → Bool) (d : ℕ) (s : List ℕ) (i : ℕ) (h : i < length s) where
  abbrev rest : ℕ → ℕ → Parsed
  rest c m = parse_from F may c 0 (drop (i + suc m) s)

  broken : parse_from F may d 0 (drop i s) ≡ Breaks (drop i s) → checked (length s) (parse_from F may d 0 (drop i s)) ≡ Err i
  broken q =
      ap (checked (length s)) q
      ∙ ap {B = Result (Unit {0}) ℕ} (λ n. Err n) (let o : length s - length (drop i s) ≡ i = omega (arith, length-drop i s) in o)

  pub no-token : read_token F (drop i s) ≡ None → checked (length s) (parse_from F may d 0 (drop i s)) ≡ Err i
  no-token q = broken (token-at F may d s i h ∙ ap (λ o. on_token F may d (drop i s) o rest) q)

  module _ (t : Token) (q : read_token F (drop i s) ≡ Some t) where
    at : parse_from F may d 0 (drop i s)
        ≡ cond (fits may (depth_limit F) d t) (also t (rest (after d t) (operand_count F t))) (Breaks (drop i s))
    at = token-at F may d s i h ∙ ap (λ o. on_token F may d (drop i s) o rest) q

    pub unfit-token : left_by may (depth_limit F) d t ≡ None → checked (length s) (parse_from F may d 0 (drop i s)) ≡ Err i
    unfit-token l = broken (at ∙ go (fits may (depth_limit F) d t) l)
      where
        go : (x : Bool) → cond x (Some (after d t)) None ≡ None
            → cond x (also t (rest (after d t) (operand_count F t))) (Breaks (drop i s)) ≡ Breaks (drop i s)
        go true e = absurd (let z : ◌≡◌ {A = ℕ} 0 1 = cc in omega arith)
        go false e = refl

    -- the token leaves the depth d', and its m bytes are inside
    pub record Fit (d' m : ℕ) : Type 0 where
      pub inside : i + m ≤ length s
      pub deep : d' ≤ depth_limit F
      pub same : checked (length s) (parse_from F may d' 0 (drop (i + m) s)) ≡ checked (length s) (parse_from F may d 0 (drop i s))

    pub fit-token : (d' m : ℕ) → left_by may (depth_limit F) d t ≡ Some d' → m ≡ 1 + operand_count F t → Fit d' m
    fit-token d' m l k = go (fits may (depth_limit F) d t) refl l
      where
        go : (x : Bool) → fits may (depth_limit F) d t ≡ x → cond x (Some (after d t)) None ≡ Some d' → Fit d' m
        go false f e = absurd (let z : ◌≡◌ {A = ℕ} 0 1 = cc in omega arith)
        go true f e =
            let p : after d t ≡ d' = cc in
            let n : suc (operand_count F t) ≡ m = omega arith in
            subst (λ c. Fit c m) p (record {
              inside = omega (arith, token-inside F (drop i s) t q, length-drop i s);
              deep = (fits-is may (depth_limit F) d t f).room;
              same =
                  ap (λ j. checked (length s) (parse_from F may (after d t) 0 (drop (i + j) s))) (sym n)
                  ∙ sym (ap (checked (length s)) (at
                  ∙ ap (λ x. cond x (also t (rest (after d t) (operand_count F t))) (Breaks (drop i s))) f)
                  ∙ checked_also (length s) t (rest (after d t) (operand_count F t)));
            })

pub checks-end : (F : File) (may : ℕ → Bool) (d : ℕ) (s : List ℕ) (i : ℕ) → length s ≤ i
    → checked (length s) (parse_from F may d 0 (drop i s)) ≡ cond (eqb d 1) (Ok tt) (Err (length s))
checks-end F may d s i h = ap (checked (length s)) (end-at F may d s i h) ∙ go (eqb d 1)
  where
    go : (x : Bool) → checked (length s) (cond x (Whole []) (Breaks [])) ≡ cond x (Ok tt) (Err (length s))
    go true = refl
    go false = ap {B = Result (Unit {0}) ℕ} (λ n. Err n) (let o : length s - 0 ≡ length s = omega arith in o)
