-- The line of the record at an offset, by its kind, and the loop over the records: what is written and the lines of the statements that
-- are left make all the lines. No line has more letters than six for each of its record's bytes.
use Rattle.std.proofs.Common.{ℕ, ◌+◌, ◌*◌, ◌^◌, ◌≤◌, ◌<◌, arith, ◌≡◌, sym, ap, ap₂, ◌∙◌, true, List, [], ◌∷◌, ◌++◌, length, drop}
use lib.Seq.{append_snoc}
use Rattle.expr.specs.declared.File.TheVariants.{Trace}
use Rattle.expr.specs.Lists.{All}
use Rattle.expr.specs.Number.{Byte, number_of}
use Rattle.expr.specs.Expr.{below, parse}
use Rattle.expr.specs.Shown.{tokens_of}
use Rattle.file.specs.Outcome.{Kind}
use Rattle.file.specs.File.{input_room, header_version, header_size, header_inputs, header_count, Good}
use Rattle.file.specs.Shown.{is_good, is_accepted, listed, offsets_in}
use Rattle.file.proofs.FileLaws.{head-long}
use Rattle.trace.specs.Trace.{read_trace}
use Rattle.trace.specs.Shown.{symbol_room, loose, held, expr_part, action_at, expr_of}
use Rattle.trace.specs.declared.read.Action.TheVariants as A
use Rattle.trace.proofs.Held.{Held, acts-assign, acts-test}
use Rattle.trace.proofs.Passes.{tokens_are, known, pass-end}
use Rattle.trace.proofs.Standing.{Walking, walking-start, Turn, walking-turn, walking-end}
use Rattle.write.specs.Splice.{Wrote}
use Rattle.write.specs.SpliceLaws.{Ahead, ahead_start, ahead_step, ahead_end}
use Rattle.write.specs.Ascii.{ascii}
use Rattle.show.specs.Text.{first_line, kind_name, expr_text, stmt_lines, trace_text}
use Rattle.write.specs.Decimal.{decimal}
use Rattle.show.specs.Shown.{line_in}

-- ---- one record

module _ {s : List ℕ} {at : ℕ} (h : Held symbol_room loose s at) {e : List ℕ} (q : e ≡ expr_part s at) where
  abbrev there : List ℕ
  there = expr_text (tokens_of (parse Trace (below symbol_room) e))

  abbrev due : List ℕ
  due = expr_text (expr_of h.statement)

  same : there ≡ due
  same = ap expr_text (tokens_are h q)

  pub assign_line : (p y : ℕ) → p ≡ number_of 2 (drop (at + 3) s) → action_at s at ≡ A.Assign y
      → decimal p ++ ascii " assign s" ++ decimal y ++ there ++ ascii "\n" ≡ line_in (held (drop at s))
  assign_line p y a k =
      ap₂ (λ p t. decimal p ++ ascii " assign s" ++ decimal y ++ t ++ ascii "\n") a same
      ∙ sym (ap line_in (h.is ∙ ap Good (acts-assign h y k).0))

  pub test-line : (p : ℕ) (k : Kind) → p ≡ number_of 2 (drop (at + 3) s) → action_at s at ≡ A.Test k
      → decimal p ++ (ascii " " ++ ascii (kind_name k)) ++ there ++ ascii "\n" ≡ line_in (held (drop at s))
  test-line p k a z =
      let n = ascii (kind_name k) in
      ap (λ t. t ++ there ++ ascii "\n") (sym (append_snoc (decimal p) 32 n))
      ∙ ap₂ (λ p t. decimal p ++ ascii " " ++ n ++ t ++ ascii "\n") a same
      ∙ sym (ap line_in (h.is ∙ ap Good (acts-test h k z)))

-- ---- the loop

pub record Listing (s : List ℕ) (n : ℕ) (out₀ : List ℕ) (to : ℕ) (out : List ℕ) (k : ℕ) (left : List ℕ) (next : ℕ) : Type 0 where
  pub walking : Walking s n k left
  pub wrote : Ahead out next (stmt_lines (drop k (listed (read_trace s)))) out₀ to (stmt_lines (listed (read_trace s)))
  pub many : n ≡ header_count s
  pub little : next ≤ 6 * walking.at

-- with the code's own list of offsets
pub listing_start : (s out : List ℕ) (n to : ℕ) → All Byte s → is_accepted (read_trace s) ≡ true → n ≡ header_count s → to ≤ 36
    → {left : List ℕ} → left ≡ offsets_in n s → Listing s n out to out 0 left to
listing_start s out n to o h q l e = record {
  walking = walking-start s n o h e;
  wrote = ahead_start out to (stmt_lines (listed (read_trace s)));
  many = q;
  little = omega (arith, head-long (header_version s));
}

module _ {s : List ℕ} {n : ℕ} {out₀ : List ℕ} {to : ℕ} {out : List ℕ} {k : ℕ} {left : List ℕ} {next : ℕ}
    (v : Listing s n out₀ to out k left next) where
  -- the next offset is `at`
  module _ (at : ℕ) (behind : List ℕ) (e : left ≡ at ∷ behind) where
    here : Turn s n k v.walking.at at behind
    here = walking-turn v.walking (omega (arith, v.many)) at behind e

    pub listing_low : at < 65536
    listing_low = omega (arith, here.here.inside, here.here.few)

    pub listing_good : is_good (held (drop at s)) ≡ true
    listing_good = ap is_good here.passed.holds

    -- the letters of the line can be counted
    pub listing_room : next + 6 * (2 + number_of 2 (drop at s)) < 2 ^ 64
    listing_room = omega (arith, v.little, here.is, here.here.few, here.passed.here.whole)

    -- with the code's own count of the records
    pub listing_on : {k' : ℕ} → k' ≡ k + 1 → {out' : List ℕ} {next' : ℕ} → Wrote out next (line_in (held (drop at s))) out' next'
        × (next' ≤ next + 6 * (2 + number_of 2 (drop at s))) → Listing s n out₀ to out' k' behind next'
    listing_on q (w, l) = rw q (record {
      walking = here.then;
      wrote =
          ahead_step v.wrote
          (ap stmt_lines here.passed.split
          ∙ ap (λ b. line_in b ++ stmt_lines (drop (k + 1) (listed (read_trace s)))) (sym here.passed.holds)) w;
      many = v.many;
      little = omega (arith, v.little, here.is, here.on);
    })

  pub listing_end : left ≡ [] → Wrote out₀ to (stmt_lines (listed (read_trace s))) out next × (next ≤ 393210)
  listing_end e = (
    ahead_end v.wrote (ap stmt_lines (pass-end v.walking.passing (omega (arith, v.many, walking-end v.walking e)))),
    omega (arith, v.little, v.walking.passing.inside, v.walking.passing.few),
  )

-- ---- the whole text

pub record Told (s : List ℕ) : Type 0 where
  pub long : header_size s ≤ length s
  pub inputs : header_inputs s ≤ input_room
  pub count : header_count s ≤ 4096
  pub text : first_line (header_inputs s) (header_count s) ++ stmt_lines (listed (read_trace s)) ≡ trace_text (read_trace s)

pub told : (s : List ℕ) → is_accepted (read_trace s) ≡ true → Told s
told s h =
    let v = known s h in
    record {
      long = v.long;
      inputs = omega (arith, v.inputs, v.few-inputs);
      count = v.few;
      text =
          ap (λ x. first_line (header_inputs s) (header_count s) ++ stmt_lines (listed x)) v.is
          ∙ ap (λ S. first_line S (header_count s) ++ stmt_lines v.ts) v.inputs
          ∙ ap (λ n. first_line v.head.inputs n ++ stmt_lines v.ts) (sym v.count)
          ∙ sym (ap trace_text v.is);
    }

-- with the code's own numbers
pub told_text : (s : List ℕ) → Told s → (S n : ℕ) → S ≡ header_inputs s → n ≡ header_count s
    → first_line S n ++ stmt_lines (listed (read_trace s)) ≡ trace_text (read_trace s)
told_text s t S n p q =
    ap (λ S. first_line S n ++ stmt_lines (listed (read_trace s))) p
    ∙ ap (λ n. first_line (header_inputs s) n ++ stmt_lines (listed (read_trace s))) q
    ∙ t.text

-- what the header of an accepted trace says
module _ (s : List ℕ) (h : is_accepted (read_trace s) ≡ true) where
  pub told_long : header_size s ≤ length s
  told_long = (told s h).long

  pub told_inputs : header_inputs s ≤ input_room
  told_inputs = (told s h).inputs

  pub told_count : header_count s ≤ 4096
  told_count = (told s h).count
