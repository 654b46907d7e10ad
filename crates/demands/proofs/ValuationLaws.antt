-- However a valuation is handed, it is a list of words: what is proved of words holds of bytes.
use Prim.Native.Nat.{ℕ, ◌<◌}
use mathlib.Core.Path.{◌≡◌, refl, ap, ◌∙◌}
use mathlib.Core.Logic.{◌↔◌}
use mathlib.Core.List.{List}
use lib.ListN.{length, get_or}
use Rattle.file.specs.File.{header_inputs}
use Rattle.file.proofs.WordsLaws.{words-at}
use Rattle.table.specs.Answer.{run_answer}
use Rattle.trace.specs.Answer.{judge_answer}
use Rattle.kadvitul.specs.InterfaceLaws.{as_words, as_words-length, as_words-right, run_as_words, judge_as_words}
use Rattle.demands.specs.Valuation.{Handed, Words, Bytes, length_for, input_in, ran_with, judged_with}

-- the words of a valuation of S inputs; where its length is wrong, so is theirs
abbrev pub words_in : Handed → (S : ℕ) (valuation : List ℕ) → List ℕ
words_in Words S v = v
words_in Bytes S v = as_words S v

pub words-length : (h : Handed) (S : ℕ) (v : List ℕ) → (length (words_in h S v) ≡ S) ↔ (length v ≡ length_for h S)
words-length Words S v = (λ e. e, λ e. e)
words-length Bytes S v = as_words-length S v

pub words-input : (h : Handed) (S : ℕ) (v : List ℕ) → length v ≡ length_for h S → (s : ℕ) → s < S → get_or (words_in h S v) s 0
    ≡ input_in h v s
words-input Words S v e s l = refl
words-input Bytes S v e s l = ap (λ ws. get_or ws s 0) (as_words-right S v e) ∙ words-at S v s l

pub ran-words : (h : Handed) (b : List ℕ) (K : ℕ) (v : List ℕ) → ran_with h b K v ≡ run_answer b K (words_in h (header_inputs b) v)
ran-words Words b K v = refl
ran-words Bytes b K v = run_as_words b K v

pub judged-words : (h : Handed) (t v : List ℕ) → judged_with h t v ≡ judge_answer t (words_in h (header_inputs t) v)
judged-words Words t v = refl
judged-words Bytes t v = judge_as_words t v
