-- The order of the rows: no two rows that can hold have one rank, so that a file is cleared of its rows one rank after the other.
use Prim.Native.Nat.{ℕ, zero, suc, ◌+◌, ◌-◌, ◌*◌, ◌≤◌, ◌<◌}
use native.Mathlib.Omega.{arith}
use mathlib.Core.Path.{◌≡◌, refl, sym, ap, ap₂, ◌∙◌, subst}
use mathlib.Core.Bool.{Bool, true, false}
use lib.Dec.{eqb}
use borrow.Author.Tests.{eqb-true, eqb-false}
use Rattle.file.specs.File.{header_count}
use Rattle.demands.specs.Replies.{Call, bytes_of, Row, Short, Version, Total, Limits, Frame, Rule, Expression, Spare, Bound, Size}
use Rattle.demands.specs.Replies.{Room, Valuation, When, rank, FirstRow}

-- a record's row is of one of the n records
abbrev pub Inside : (n : ℕ) → Row → Type 0
Inside n Short = Unit {0}
Inside n Version = Unit {0}
Inside n Total = Unit {0}
Inside n Limits = Unit {0}
Inside n (Frame k) = k < n
Inside n (Rule k) = k < n
Inside n (Expression k) = k < n
Inside n Spare = Unit {0}
Inside n Bound = Unit {0}
Inside n Size = Unit {0}
Inside n Room = Unit {0}
Inside n Valuation = Unit {0}

-- ---- the row of a rank

-- p ranks after the first row of record k, with n records left
abbrev row_from : (n k p : ℕ) → Row
row_from zero k zero = Spare
row_from zero k (suc zero) = Bound
row_from zero k (suc (suc zero)) = Size
row_from zero k (suc (suc (suc zero))) = Room
row_from zero k (suc (suc (suc (suc p)))) = Valuation
row_from (suc n) k zero = Frame k
row_from (suc n) k (suc zero) = Rule k
row_from (suc n) k (suc (suc zero)) = Expression k
row_from (suc n) k (suc (suc (suc p))) = row_from n (suc k) p

abbrev row_at : (n p : ℕ) → Row
row_at n zero = Short
row_at n (suc zero) = Version
row_at n (suc (suc zero)) = Total
row_at n (suc (suc (suc zero))) = Limits
row_at n (suc (suc (suc (suc p)))) = row_from n 0 p

row_skip : (j n k p : ℕ) → row_from (j + n) k (3 * j + p) ≡ row_from n (k + j) p
row_skip zero n k p =
    ap₂ (λ m q. row_from m k q) (let e : 0 + n ≡ n = omega arith in e) (let e : 3 * 0 + p ≡ p = omega arith in e)
    ∙ ap (λ x. row_from n x p) (let e : k ≡ k + 0 = omega arith in e)
row_skip (suc j) n k p =
    ap₂ (λ m q. row_from m k q) (let e : suc j + n ≡ suc (j + n) = omega arith in e)
    (let e : 3 * suc j + p ≡ suc (suc (suc (3 * j + p))) = omega arith in e)
    ∙ row_skip j n (suc k) p
    ∙ ap (λ x. row_from n x p) (let e : suc k + j ≡ k + suc j = omega arith in e)

-- p ranks after the first row of record k of n, or after the first row behind the n records
row_of_record : (n k p r : ℕ) → k < n → r ≡ suc (suc (suc (suc (3 * k + p)))) → row_at n r ≡ row_from (suc (n - suc k)) k p
row_of_record n k p r h e =
    ap₂ row_at (let e : n ≡ k + suc (n - suc k) = omega arith in e) e
    ∙ row_skip k (suc (n - suc k)) 0 p
    ∙ ap (λ x. row_from (suc (n - suc k)) x p) (let e : 0 + k ≡ k = omega arith in e)

row_behind : (n p r : ℕ) → r ≡ suc (suc (suc (suc (3 * n + p)))) → row_at n r ≡ row_from 0 (0 + n) p
row_behind n p r e = ap₂ row_at (let e : n ≡ n + 0 = omega arith in e) e ∙ row_skip n 0 0 p

rank_row : (n : ℕ) (row : Row) → Inside n row → row_at n (rank n row) ≡ row
rank_row n Short h = refl
rank_row n Version h = refl
rank_row n Total h = refl
rank_row n Limits h = refl
rank_row n (Frame k) h = row_of_record n k 0 (4 + 3 * k) h (omega arith)
rank_row n (Rule k) h = row_of_record n k 1 (5 + 3 * k) h (omega arith)
rank_row n (Expression k) h = row_of_record n k 2 (6 + 3 * k) h (omega arith)
rank_row n Spare h = row_behind n 0 (4 + 3 * n) (omega arith)
rank_row n Bound h = row_behind n 1 (5 + 3 * n) (omega arith)
rank_row n Size h = row_behind n 2 (6 + 3 * n) (omega arith)
rank_row n Room h = row_behind n 3 (7 + 3 * n) (omega arith)
rank_row n Valuation h = row_behind n 4 (8 + 3 * n) (omega arith)

rank-last : (n : ℕ) (row : Row) → Inside n row → rank n row < 9 + 3 * n
rank-last n Short h = omega arith
rank-last n Version h = omega arith
rank-last n Total h = omega arith
rank-last n Limits h = omega arith
rank-last n (Frame k) h = omega arith
rank-last n (Rule k) h = omega arith
rank-last n (Expression k) h = omega arith
rank-last n Spare h = omega arith
rank-last n Bound h = omega arith
rank-last n Size h = omega arith
rank-last n Room h = omega arith
rank-last n Valuation h = omega arith

-- ---- of a call

module _ (c : Call) where
  abbrev n : ℕ
  n = header_count (bytes_of c)

  holds-inside : (row : Row) → When c row → Inside n row
  holds-inside Short h = tt
  holds-inside Version h = tt
  holds-inside Total h = tt
  holds-inside Limits h = tt
  holds-inside (Frame k) h = h.0
  holds-inside (Rule k) h = h.0
  holds-inside (Expression k) h = h.0
  holds-inside Spare h = tt
  holds-inside Bound h = tt
  holds-inside Size h = tt
  holds-inside Room h = tt
  holds-inside Valuation h = tt

  -- rows of one rank, of which one holds
  rank_same : (row other : Row) → Inside n row → When c other → rank n other ≡ rank n row → other ≡ row
  rank_same row other h w e = sym (rank_row n other (holds-inside other w)) ∙ ap (row_at n) e ∙ rank_row n row h

  -- two rows that are first are one
  pub first-same : (row other : Row) → FirstRow c row → FirstRow c other → other ≡ row
  first-same row other f g =
      rank_same row other (holds-inside row f.holds) g.holds
      (let a : rank n row < rank n other → ⊥ = λ l. g.none_before row l f.holds in
      let b : rank n other < rank n row → ⊥ = λ l. f.none_before other l g.holds in omega (arith, a, b))

  -- no row before the rank m holds
  abbrev pub Clear : (m : ℕ) → Type 0
  Clear m = (other : Row) → rank (header_count (bytes_of c)) other < m → When c other → ⊥

  -- nor the row at that rank
  pub clear-past : (row : Row) (m : ℕ) → Inside (header_count (bytes_of c)) row → m ≤ suc (rank (header_count (bytes_of c)) row)
      → Clear (rank (header_count (bytes_of c)) row) → (When c row → ⊥) → Clear m
  clear-past row m h l clear none other k w = go (eqb (rank n other) (rank n row)) refl
    where
      go : (x : Bool) → eqb (rank n other) (rank n row) ≡ x → ⊥
      go true e = none (subst (When c) (rank_same row other h w (eqb-true (rank n other) (rank n row) e)) w)
      go false e = let d : rank n other ≡ rank n row → ⊥ = eqb-false (rank n other) (rank n row) e in clear other (omega (arith, d)) w

  -- nor any
  pub clear-all : Clear (9 + 3 * header_count (bytes_of c)) → (row : Row) → When c row → ⊥
  clear-all clear row w = clear row (rank-last n row (holds-inside row w)) w
