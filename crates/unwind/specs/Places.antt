-- Document 01, "The trace under bound K": the places of the unwound rule, K+1 copies of its instructions, each with its exit.
use Rattle.std.specs.Prelude.{ℕ, zero, suc, ◌*◌, cond, List, [], ◌∷◌, ◌++◌, length, leb, ltb}
use Rattle.expr.specs.declared.word.Unary.TheVariants.{Zero}
use Rattle.expr.specs.declared.token.Token.{Token}
use Rattle.expr.specs.declared.token.Token.TheVariants.{Un}
use Rattle.file.specs.Outcome.{Kind, Bound}
use Rattle.table.specs.Table.{Instr, Assign, Test, IfThenGoto}
use Rattle.table.specs.Run.{place_in}

-- what stands at a place; goals are places
pub data Action : Type 0 where
  Set : (symbol : ℕ) → List Token → Action
  Check : Kind → List Token → Action
  Jump : (goal : ℕ) → List Token → Action
  Exit : (goal : ℕ) → Action

pub data Place : Type 0 where
  At : (place : ℕ) → Action → Place

-- the first place after all copies
abbrev pub end_of : (n K : ℕ) → ℕ
end_of n K = suc K * suc n

-- a jump from i to t in copy r: forward in its copy; a back jump into the next one, and in copy K the test that its condition is zero
abbrev pub jump_in : (n K r i t : ℕ) → List Token → Action
jump_in n K r i t e =
    cond (leb t i) (cond (ltb r K) (Jump (place_in n (suc r) t) e) (Check Bound (e ++ Un Zero ∷ []))) (Jump (place_in n r t) e)

-- instruction i in copy r
abbrev pub action_in : (n K r i : ℕ) → Instr → Action
action_in n K r i (Assign s e) = Set s e
action_in n K r i (Test k e) = Check k e
action_in n K r i (IfThenGoto t e) = jump_in n K r i t e

-- copy r from instruction i on, and its exit, whose goal is the end
abbrev pub copy_from : (n K r i : ℕ) → List Instr → List Place
copy_from n K r i [] = At (place_in n r i) (Exit (end_of n K)) ∷ []
copy_from n K r i (x ∷ xs) = At (place_in n r i) (action_in n K r i x) ∷ copy_from n K r (suc i) xs

-- c copies, from copy r on
abbrev pub copies_from : List Instr → (K c r : ℕ) → List Place
copies_from is K zero r = []
copies_from is K (suc c) r = copy_from (length is) K r 0 is ++ copies_from is K c (suc r)

-- K+1 copies, numbered from 0
unfoldable pub places : List Instr → (K : ℕ) → List Place
places is K = copies_from is K (suc K) 0
