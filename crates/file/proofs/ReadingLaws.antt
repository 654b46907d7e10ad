-- What the code's reading of a file says of it: the file is refused with the reading's reply and offset, or accepted with the offsets of
-- all records stored.
use Rattle.std.specs.Prelude.{ℕ, ◌≤◌, ◌<◌, ◌≡◌, refl, Bool, true, false, List, length, drop, get_or, eqb}
use Rattle.std.proofs.Common.{arith, ap₂, ◌∙◌, subst, eqb-true, ne_eqb, le-leb}
use Rattle.std.proofs.Math.Path.{sym, ap}
use Rattle.std.proofs.Math.Bool.{cond}
use Rattle.std.proofs.Math.Seq.{sets, length-sets}
use Rattle.std.proofs.lemmas.Bool.{eqb-false}
use Rattle.expr.specs.Lists.{All, all_drop}
use Rattle.expr.specs.Number.{Byte}
use Rattle.expr.specs.NumberLaws.{number_lt}
use Rattle.file.specs.File.{Head, header_version, header_size, header_total, header_count, head_of, after_header, header_reply, Body}
use Rattle.file.specs.File.{Records, Read, Stop}
use Rattle.file.specs.File.{records, Input, Accepted, Refused, finish, read_file}
use Rattle.std.specs.Prelude.{Result, Ok, Err}
use Rattle.file.specs.Shown.{reply_of, read_count, reading_of, reading_in, offsets_from, offsets_in, ReadRecords, is_accepted, listed}
use Rattle.file.specs.Shown.{file_reading, file_count}
use Rattle.file.specs.Shown.{ReadFile, Ready}
use Rattle.file.proofs.FileLaws.{reply-some, head-short, reading_offset, records-chain, count-all, Header, header_is, file-refused}
use Rattle.file.proofs.FileLaws.{file-read, reading_count}
use Rattle.file.specs.File.{Low}
use Rattle.file.proofs.FileLaws.{file-is}
use Rattle.file.proofs.FileLaws.{file-refused-low, offsets_length, sets_at}
use Rattle.file.specs.declared.Reason.{Reason}
use Rattle.file.specs.declared.Unread.{Unread}

pub total-small : (s : List ℕ) → All Byte s → header_total s < 65536
total-small s o = number_lt 2 (drop 1 s) (all_drop Byte 1 s o)

-- a file whose length field is right is short
pub short : (known : ℕ → Bool) (limit : ℕ) (s : List ℕ) → All Byte s → header_reply known limit s ≡ 0 → length s < 65536
short known limit s o h = omega (arith, total-small s o, (header_is known limit s h).total)

-- a file that is too long for its length field is refused, 2 if its version is not known, else 3
pub too_long : (known : ℕ → Bool) (limit : ℕ) (s : List ℕ) → All Byte s → 65536 ≤ length s
    → header_reply known limit s ≡ cond (known (header_version s)) 3 2
unfolding header_reply
too_long known limit s o h =
    rw (
      le-leb (header_size s) (length s) (omega (arith, head-short (header_version s))),
      ne_eqb (header_total s) (length s) (λ e. omega (arith, total-small s o)),
    )

-- a reply is the file's
pub reply_refuses : {A : Type 0} {file : Input A} {count : ℕ} {s off off' : List ℕ} {r : Result ℕ Unread}
    → ReadFile file count s off off' r → ((reading_in r).reply ≡ 0 → ⊥) → file ≡ Refused (reading_in r).reply (reading_in r).offset
reply_refuses {A} {file} {count} {r = r} w h = go file refl w.answer
  where
    go : (x : Input A) → file ≡ x → reading_in r ≡ file_reading count x → file ≡ Refused (reading_in r).reply (reading_in r).offset
    go (Accepted head xs) e q = absurd (h (ap (λ r. r.reply) q))
    go (Refused k at) e q = e ∙ sym (ap₂ {C = Input A} Refused (ap (λ r. r.reply) q) (ap (λ r. r.offset) q))

-- so is a refusal
pub refuses : {A : Type 0} {file : Input A} {count : ℕ} {s off off' : List ℕ} {u : Unread} → ReadFile file count s off off' (Err u)
    → file ≡ Refused (reply_of u.why.reason) u.why.offset
refuses {u = u} w = reply_refuses w (λ z. omega (arith, z, reply-some u.why.reason))

module _ {A St : Type 0} (known : ℕ → Bool) (limit : ℕ) (one : (head : Head) (n : ℕ) → St → List ℕ → Body A) (next : St → A → St)
    (first : (head : Head) → St) (s : List ℕ) where
  abbrev head : Head
  head = head_of s

  abbrev n : ℕ
  n = header_count s

  abbrev body : (head : Head) (n : ℕ) → List ℕ → Records A
  body head n bs = records (one head n) next n (first head) bs

  abbrev all : Records A
  all = body head n (after_header s)

  abbrev file : Input A
  file = read_file known limit body s

  abbrev count : ℕ
  count = file_count known limit one next first s

  abbrev counted : ℕ
  counted = read_count (one head n) next n (first head) (after_header s)

  count-is : header_reply known limit s ≡ 0 → count ≡ counted
  count-is h = ap (λ x. cond (eqb x 0) counted 0) h

  as_file : (c : ℕ) (p : Records A) → reading_of (length s) c p ≡ file_reading c (finish (length s) head p)
  as_file c (Read xs) = refl
  as_file c (Stop r bs) = refl

  -- ---- the ways to a reading: the header refuses, or the records are read

  pub header_read : (reason : Reason) → reply_of reason ≡ header_reply known limit s → (off : List ℕ)
      → ReadFile file count s off off (Err (record { why = record { reason = reason; offset = 0 }; count = 0 }))
  unfolding offsets_from
  header_read reason e off =
      let h : reply_of reason ≡ 0 → ⊥ = λ z. omega (arith, reply-some reason) in
      let none : count ≡ 0 = ap (λ x. cond (eqb x 0) counted 0) (sym e) ∙ ap (λ b. cond b counted 0) (ne_eqb (reply_of reason) 0 h) in
      record {
        answer = sym (ap₂ (λ c x. file_reading c x) none (file-refused known limit body s (reply_of reason) (sym e) h));
        stored = sym (ap (λ c. sets off 0 (offsets_in c s)) none);
      }

  module _ (right : header_reply known limit s ≡ 0) {off off' : List ℕ} {r : Result ℕ Unread} where
    pub records-read : ReadRecords (one head n) next s n (first head) off off' r → ReadFile file count s off off' r
    records-read w = record {
      answer =
          w.answer
          ∙ as_file counted all
          ∙ sym (ap₂ (λ c x. file_reading c x) (count-is right) (file-read known limit body s right));
      stored = w.stored
          ∙ ap (λ c. sets off 0 (offsets_in c s))
          (ap (λ r. r.count) w.answer ∙ reading_count (length s) counted all ∙ sym (count-is right));
    }

  -- ---- what a reading says

  pub offset-small : {off off' : List ℕ} {u : Unread} → ReadFile file count s off off' (Err u) → All Byte s → u.why.offset < 65536
  offset-small {u = u} w o = go (eqb (header_reply known limit s) 0) refl
    where
      go : (b : Bool) → eqb (header_reply known limit s) 0 ≡ b → u.why.offset < 65536
      go true e =
          let h = eqb-true (header_reply known limit s) 0 e in
          let q : reading_in (Err u) ≡ reading_of (length s) count all = w.answer
          ∙ ap (file_reading count) (file-read known limit body s h)
          ∙ sym (as_file count all) in
          omega (arith, ap (λ r. r.offset) q, reading_offset (length s) count all, short known limit s o h)
      go false e =
          let h : header_reply known limit s ≡ 0 → ⊥ = eqb-false (header_reply known limit s) 0 e in
          let q : u.why.offset ≡ 0 = ap (λ r. r.offset)
          (w.answer ∙ ap (file_reading count) (file-refused known limit body s (header_reply known limit s) refl h)) in
          omega arith

  module _ {off off' : List ℕ} {m : ℕ} (w : ReadFile file count s off off' (Ok m)) where
    module _ (low : (head : Head) (n : ℕ) (σ : St) (bs : List ℕ) → Low (one head n σ bs)) where
      record Accepts : Type 0 where
        things : List A
        is : file ≡ Accepted head things
        complete : count ≡ n
        many : length things ≡ n

      accepts : Accepts
      accepts = go file refl w.answer
        where
          go : (x : Input A) → file ≡ x → reading_in (Ok m) ≡ file_reading count x → Accepts
          go (Refused k at) e q =
              absurd (let z : 0 ≡ k = ap (λ r. r.reply) q in
              omega (arith, file-refused-low known limit one next first low s k at e))
          go (Accepted other xs) e q =
              let f = file-is known limit body s other xs e in
              let i : other ≡ head = sym f.is in
              let g : all ≡ Read xs = subst (λ h. body h n (after_header s) ≡ Read xs) i f.read in
              record {
                things = xs;
                is = e ∙ ap {B = Input A} (λ h. Accepted h xs) i;
                complete = count-is f.header ∙ count-all (one head n) next s n (header_size s) (first head) xs g;
                many = (records-chain (one head n) next s (λ σ a. Unit {0}) (λ σ l m a q. tt) n (header_size s) (first head) xs g).1;
              }

      reads_all : m ≡ header_count s
      reads_all = ap (λ r. r.count) (w.answer ∙ ap (file_reading count) accepts.is) ∙ accepts.complete

      pub is-accepted : file ≡ Accepted (head_of s) (listed file)
      is-accepted = accepts.is ∙ ap {B = Input A} (Accepted head) (sym (ap listed accepts.is))

      pub right-header : Header known limit s
      right-header = header_is known limit s (file-is known limit body s head accepts.things accepts.is).header

      pub many : length (listed file) ≡ header_count s
      many = ap (λ x. length (listed x)) accepts.is ∙ accepts.many

      pub is-ready : limit ≤ length off → Ready file s off' m
      is-ready l =
          let stored : off' ≡ sets off 0 (offsets_in m s)
          = w.stored ∙ ap (λ c. sets off 0 (offsets_in c s)) (accepts.complete ∙ sym reads_all) in
          let long = offsets_length m (header_size s) (after_header s) in
          let few = right-header.count in
          record {
            accepted = ap is_accepted accepts.is;
            count = reads_all;
            room = omega (arith, ap length stored, length-sets off 0 (offsets_in m s), reads_all);
            stored =
                λ i k. ap (λ o. get_or o i 0) stored ∙ sets_at off (offsets_in m s) i (omega (arith, reads_all))
                (omega arith);
          }
