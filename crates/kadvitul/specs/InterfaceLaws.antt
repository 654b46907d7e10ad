-- A valuation of bytes is the valuation of its words: in the definitions, and in the code that stores them.
use Rattle.std.specs.Prelude.{ℕ, suc, ◌+◌, ◌*◌, ◌≤◌, ◌≡◌, ◌↔◌, Bool, true, false, List, length, take, replicate, eqb, leb}
use Rattle.std.proofs.Common.{arith, sym, ◌∙◌, length-take-le, eqb-true, eq-eqb, ne_eqb}
use Rattle.std.proofs.Math.Decide.{dec_lt}
use Rattle.std.proofs.Math.Path.{refl, ap}
use Rattle.std.proofs.Math.Bool.{cond}
use Rattle.std.proofs.lemmas.List.{length-replicate}
use Rattle.std.proofs.Math.Seq.{length-sets}
use Rattle.std.proofs.lemmas.List.Edits.{sets}
use Rattle.std.proofs.lemmas.Bool.{eqb-false}
use Rattle.file.specs.File.{input_room, header_version, header_inputs, Input, Accepted, Refused}
use Rattle.file.proofs.FileLaws.{inputs-room, header_is, file-is}
use Rattle.file.specs.Words.{words_of}
use Rattle.file.proofs.WordsLaws.{words-length, words-front}
use Rattle.table.specs.Table.{Instr, instrs, is_table, read_table}
use Rattle.table.specs.TableLaws.{table-inputs}
use Rattle.table.specs.Run.{run}
use Rattle.table.specs.Answer.{refusal, answer_of, answered, run_answer}
use Rattle.expr.specs.Eval.{env_of}
use Rattle.trace.specs.Trace.{Stmt, stmts, is_trace, read_trace}
use Rattle.trace.specs.TraceLaws.{trace_inputs}
use Rattle.trace.specs.Judge.{judge}
use Rattle.trace.specs.Answer as Judging
use Rattle.trace.specs.Answer.{judge_answer}
use Rattle.kadvitul.specs.Interface.{answered_bytes, run_bytes, judged_bytes, judge_bytes}
use Rattle.kadvitul.specs.Shown.{Decoded}

-- ---- running and judging from bytes is running and judging from words

-- the words of a valuation of S inputs; for bytes of another length, words that no file of S inputs takes
abbrev pub as_words : (S : ℕ) (valuation : List ℕ) → List ℕ
as_words S valuation = cond (eqb (length valuation) (4 * S)) (words_of S valuation) (replicate (suc S) 0)

pub as_words-right : (S : ℕ) (valuation : List ℕ) → length valuation ≡ 4 * S → as_words S valuation ≡ words_of S valuation
as_words-right S valuation h = ap (λ b. cond b (words_of S valuation) (replicate (suc S) 0)) (eq-eqb (length valuation) (4 * S) h)

-- as many as S exactly if there are 4 × S bytes
pub as_words-length : (S : ℕ) (valuation : List ℕ) → (length (as_words S valuation) ≡ S) ↔ (length valuation ≡ 4 * S)
as_words-length S valuation =
    (λ e. go (eqb (length valuation) (4 * S)) refl e, λ h. ap length (as_words-right S valuation h) ∙ words-length S valuation)
  where
    go : (b : Bool) → eqb (length valuation) (4 * S) ≡ b → length (cond b (words_of S valuation) (replicate (suc S) 0)) ≡ S
        → length valuation ≡ 4 * S
    go true e h = eqb-true (length valuation) (4 * S) e
    go false e h = absurd (omega (arith, length-replicate {A = ℕ} (suc S) 0))

-- what is answered for S words is answered for 4 × S bytes
as_answered : {R : Type 0} (S : ℕ) (valuation : List ℕ) (answer : List ℕ → R) (refused : R)
    → cond (eqb (length valuation) (4 * S)) (answer (words_of S valuation)) refused
    ≡ cond (eqb (length (as_words S valuation)) S) (answer (as_words S valuation)) refused
as_answered S valuation answer refused = go (eqb (length valuation) (4 * S))
  where
    go : (b : Bool) → cond b (answer (words_of S valuation)) refused
        ≡ cond (eqb (length (cond b (words_of S valuation) (replicate (suc S) 0))) S)
        (answer (cond b (words_of S valuation) (replicate (suc S) 0))) refused
    go true =
        sym (ap (λ b. cond b (answer (words_of S valuation)) refused) (eq-eqb (length (words_of S valuation)) S (words-length S valuation)))
    go false =
        sym (ap (λ b. cond b (answer (replicate (suc S) 0)) refused)
        (ne_eqb (length (replicate {A = ℕ} (suc S) 0)) S (λ e. omega (arith, length-replicate {A = ℕ} (suc S) 0))))

pub run_as_words : (s : List ℕ) (K : ℕ) (valuation : List ℕ) → run_bytes s K valuation
    ≡ run_answer s K (as_words (header_inputs s) valuation)
unfolding run_answer run_bytes
run_as_words s K valuation = go (read_table s) refl
  where
    go : (x : Input Instr) → read_table s ≡ x → answered_bytes K valuation x ≡ answered K (as_words (header_inputs s) valuation) x
    go (Refused r o) e = refl
    go (Accepted head is) e =
        ap (λ a. cond (leb K 255) a (refusal 8 0)) (as_answered head.inputs valuation (λ ws. answer_of (run is K ws)) (refusal 11 0))
        ∙ ap (λ n. answered K (as_words n valuation) (Accepted head is)) (sym (table-inputs s head is e))

pub judge_as_words : (s valuation : List ℕ) → judge_bytes s valuation ≡ judge_answer s (as_words (header_inputs s) valuation)
unfolding judge_answer judge_bytes
judge_as_words s valuation = go (read_trace s) refl
  where
    go : (x : Input Stmt) → read_trace s ≡ x → judged_bytes valuation x ≡ Judging.answered (as_words (header_inputs s) valuation) x
    go (Refused r o) e = refl
    go (Accepted head ts) e =
        as_answered head.inputs valuation (λ ws. Judging.answer_of (judge ts (env_of ws))) (Judging.refusal 11 0)
        ∙ ap (λ n. Judging.answered (as_words n valuation) (Accepted head ts)) (sym (trace_inputs s head ts e))

-- ---- the words that the code stores

module _ {valuation words : List ℕ} {count : ℕ} (d : Decoded valuation words count) where
  same-words : {R : Type 0} (S : ℕ) → S ≤ input_room → (answer : List ℕ → R) (refused : R)
      → cond (eqb (length (take count words)) S) (answer (take count words)) refused ≡ cond (eqb (length valuation) (4 * S))
      (answer (words_of S valuation)) refused
  same-words {R = R} S few answer refused = go (eqb count S) refl
    where
      long : length (take count words) ≡ count
      long = length-take-le count words (omega (arith, d.room, d.most))

      other : (count ≡ S → ⊥) → length valuation ≡ 4 * S → ⊥
      other n e = elim (dec_lt input_room count) [ yes h ↦ d.none h S few e | no h ↦ n (omega (arith, (d.whole (omega arith)).0)) ]

      go : (b : Bool) → eqb count S ≡ b
          → cond (eqb (length (take count words)) S) (answer (take count words)) refused ≡ cond (eqb (length valuation) (4 * S))
          (answer (words_of S valuation)) refused
      go true e =
          let q = eqb-true count S e in
          let w = d.whole (omega arith) in
          ap (λ b. cond b (answer (take count words)) refused) (eq-eqb (length (take count words)) S (long ∙ q))
          ∙ ap answer (w.1 ∙ ap (λ c. words_of c valuation) q)
          ∙ sym (ap (λ b. cond b (answer (words_of S valuation)) refused) (eq-eqb (length valuation) (4 * S) (w.0 ∙ ap (λ c. 4 * c) q)))
      go false e =
          let q = eqb-false count S e in
          ap (λ b. cond b (answer (take count words)) refused) (ne_eqb (length (take count words)) S (λ z. q (sym long ∙ z)))
          ∙ sym (ap (λ b. cond b (answer (words_of S valuation)) refused) (ne_eqb (length valuation) (4 * S) (λ z. other q z)))

  pub run-words : (s : List ℕ) (K : ℕ) → run_answer s K (take count words) ≡ run_bytes s K valuation
  unfolding run_answer run_bytes read_table
  run-words s K = go (read_table s) refl
    where
      go : (x : Input Instr) → read_table s ≡ x → answered K (take count words) x ≡ answered_bytes K valuation x
      go (Refused r o) e = refl
      go (Accepted head is) e =
          let f = file-is is_table 1024 instrs s head is e in
          let g = header_is is_table 1024 s f.header in
          ap (λ a. cond (leb K 255) a (refusal 8 0))
          (same-words head.inputs (omega (arith, g.inputs, f.inputs, inputs-room (header_version s))) (λ ws. answer_of (run is K ws))
          (refusal 11 0))

  pub judge-words : (s : List ℕ) → judge_answer s (take count words) ≡ judge_bytes s valuation
  unfolding judge_answer judge_bytes read_trace
  judge-words s = go (read_trace s) refl
    where
      go : (x : Input Stmt) → read_trace s ≡ x → Judging.answered (take count words) x ≡ judged_bytes valuation x
      go (Refused r o) e = refl
      go (Accepted head ts) e =
          let f = file-is is_trace 4096 stmts s head ts e in
          let g = header_is is_trace 4096 s f.header in
          same-words head.inputs (omega (arith, g.inputs, f.inputs, inputs-room (header_version s)))
          (λ ws. Judging.answer_of (judge ts (env_of ws))) (Judging.refusal 11 0)

-- what the code stores
pub no_words : {valuation words : List ℕ} → length words ≡ input_room + 1 → ((c : ℕ) → c ≤ input_room → length valuation ≡ 4 * c → ⊥)
    → Decoded valuation words (input_room + 1)
no_words h n = record { room = h; most = omega arith; whole = λ l. absurd (omega arith); none = λ l. n }

pub all_words : {valuation words : List ℕ} (xs : List ℕ) → length xs ≡ input_room + 1 → (c : ℕ) → words ≡ sets xs 0 (words_of c valuation)
    → c ≤ input_room → length valuation ≡ 4 * c
    → Decoded valuation words c
all_words {valuation} xs h c e l v = record {
  room = ap length e ∙ length-sets xs 0 (words_of c valuation) ∙ h;
  most = omega arith;
  whole = λ z. (v, ap (take c) e ∙ words-front xs c valuation (omega arith));
  none = λ z. absurd (omega arith);
}
