-- Reading and writing undo each other: a file that is read is written again as its bytes; one that is written, within the limits, is read
-- again.
use Prim.Native.Nat.{ℕ, zero, suc, ◌+◌, ◌^◌, ◌≤◌, ◌<◌}
use Rattle.std.proofs.Common.{arith, ◌∙◌, length-drop, take-append-drop, length-take-le, drop-drop, take_at}
use Rattle.std.proofs.Math.Path.{◌≡◌, refl, sym, ap, ap₂, subst}
use Rattle.std.specs.Prelude.{Bool, true, take}
use mathlib.Core.List.{List, [], ◌∷◌, ◌++◌, append_assoc}
use Rattle.std.proofs.Math.ListN.{length, drop, length-append}
use Rattle.std.proofs.Math.Seq.{drop_at}
use Rattle.expr.specs.Lists.{All, all_take, all_drop}
use Rattle.expr.specs.Number.{Byte, number_of, bytes_of}
use Rattle.expr.specs.NumberLaws.{bytes_of-length, number-written, bytes_read}
use Rattle.file.specs.File.{Head, head_size, inputs_limit, header_version, header_size, header_total, header_inputs, header_count, head_of}
use Rattle.file.specs.File.{after_header, Body, Good, field, frame, Records, Read, Accepted, record_of, before, on_record, records}
use Rattle.file.specs.File.{finish}
use Rattle.file.specs.File.{read_file, header, record_bytes, records_bytes, encode}
use Rattle.file.proofs.FileLaws.{field_there, frame-there, framed, record-framed, record-good, next-record, header-length}
use Rattle.file.specs.File.{Chain}
use Rattle.file.proofs.FileLaws.{version-written, inputs-written, total-written, count-written, header_is, header-right, file-read}
use Rattle.file.proofs.FileLaws.{file-is}

-- ---- read, then written

module _ {A St : Type 0} (bytes : A → List ℕ) (one : St → List ℕ → Body A) (next : St → A → St)
    (same : (σ : St) (body : List ℕ) (a : A) → All Byte body → one σ body ≡ Good a → bytes a ≡ body) where
  pub record_same : (σ : St) (bs : List ℕ) (a : A) → All Byte bs → record_of (one σ) bs ≡ Good a
      → record_bytes bytes a ++ drop (2 + frame bs) bs ≡ bs
  record_same σ bs a o h =
      let g = record-good (one σ) bs a h in
      let f = framed bs g.0 in
      let l = frame bs in
      let r = drop 2 bs in
      let m : length (take (frame bs) (drop 2 bs)) ≡ frame bs = length-take-le (frame bs) (drop 2 bs)
      (omega (arith, f.inside, length-drop 2 bs)) in
      let e : bytes a ≡ take (frame bs) (drop 2 bs) = same σ (take l r) a (all_take Byte l r (all_drop Byte 2 bs o)) g.1 in
      let n : bytes_of 2 (length (bytes a)) ≡ take 2 bs = ap (bytes_of 2) (ap length e ∙ m ∙ sym f.is)
      ∙ bytes_read 2 bs o (omega (arith, f.inside)) in
      append_assoc (bytes_of 2 (length (bytes a))) (bytes a) (drop (2 + l) bs)
      ∙ ap₂ (λ x y. x ++ (y ++ drop (2 + l) bs)) n e
      ∙ ap (λ y. take 2 bs ++ (take l r ++ y)) (sym (drop-drop l 2 bs))
      ∙ ap (λ y. take 2 bs ++ y) (take-append-drop l r)
      ∙ take-append-drop 2 bs

  records-same : (s : List ℕ) → All Byte s → (c at : ℕ) (σ : St) (xs : List A) → records one next c σ (drop at s) ≡ Read xs
      → (records_bytes bytes xs ≡ drop at s) × (length xs ≡ c)
  unfolding records
  records-same s o zero at σ xs h = go (drop at s) h
    where
      go : (bs : List ℕ) → records one next 0 σ bs ≡ Read xs → (records_bytes bytes xs ≡ bs) × (length xs ≡ 0)
      go [] h = let p : [] ≡ xs = cc in subst (λ ys. (records_bytes bytes ys ≡ []) × (length ys ≡ 0)) p (refl, refl)
      go (b ∷ bs) h = absurd (let z : ◌≡◌ {A = ℕ} 0 1 = cc in omega arith)
  records-same s o (suc c) at σ xs h =
      let k = next-record one next s at c σ xs h in
      let l = 2 + frame (drop at s) in
      let rest = records-same s o c (at + (2 + frame (drop at s))) (next σ k.head) k.tail k.on in
      subst (λ ys. (records_bytes bytes ys ≡ drop at s) × (length ys ≡ suc c)) (sym k.is) (
        ap (λ y. record_bytes bytes k.head ++ y) (rest.0 ∙ sym (drop-drop l at s))
            ∙ record_same σ (drop at s) k.head (all_drop Byte at s o) k.good,
        ap suc rest.1,
      )

-- the header of a file, written again
header-same : (s : List ℕ) → All Byte s → header_size s ≤ length s → header (head_of s) (header_total s) (header_count s) ++ after_header s
    ≡ s
unfolding header head_size header_inputs header_count
header-same [] o h = absurd (omega arith)
header-same (a ∷ []) o h = absurd (omega arith)
header-same (a ∷ b ∷ []) o h = absurd (omega arith)
header-same (a ∷ b ∷ c ∷ []) o h = absurd (omega arith)
header-same (a ∷ b ∷ c ∷ d ∷ []) o h = absurd (omega arith)
header-same (a ∷ b ∷ c ∷ d ∷ e ∷ []) o h = absurd (omega arith)
header-same (a ∷ b ∷ c ∷ d ∷ e ∷ f ∷ s) o h =
    let p : bytes_of 2 (number_of 2 (b ∷ c ∷ [])) ≡ b ∷ c ∷ [] = bytes_read 2 (b ∷ c ∷ []) (o.1.0, (o.1.1.0, tt)) (omega arith) in
    let q : bytes_of 2 (number_of 2 (e ∷ f ∷ [])) ≡ e ∷ f ∷ [] =
    bytes_read 2 (e ∷ f ∷ []) (o.1.1.1.1.0, (o.1.1.1.1.1.0, tt)) (omega arith) in
    λ j. (a ∷ p j ++ d ∷ q j) ++ s

-- a file that is read, written again, is its bytes
pub file-same : {A St : Type 0} (bytes : A → List ℕ) (one : Head → St → List ℕ → Body A) (next : St → A → St) (first : Head → St)
    → ((head : Head) (σ : St) (body : List ℕ) (a : A) → All Byte body → one head σ body ≡ Good a → bytes a ≡ body)
    → (known : ℕ → Bool) (limit : ℕ) (s : List ℕ) (head : Head) (xs : List A) → All Byte s
    → read_file known limit (λ head n. records (one head) next n (first head)) s ≡ Accepted head xs → encode bytes head xs ≡ s
unfolding encode
file-same bytes one next first same known limit s head xs o h =
    let f = file-is known limit (λ head n. records (one head) next n (first head)) s head xs h in
    let r = records-same bytes (one head) next (same head) s o (header_count s) (header_size s) (first head) xs f.read in
    let k = header_is known limit s f.header in
    let version : head_size head.version ≡ header_size s = ap (λ h. head_size h.version) (sym f.is) in
    let total : head_size head.version + length (records_bytes bytes xs) ≡ header_total s =
    omega (arith, ap length r.0, length-drop (header_size s) s, k.long, k.total) in
    ap₂ (λ t n. header head t n ++ records_bytes bytes xs) total r.1
    ∙ ap₂ (λ h b. header h (header_total s) (header_count s) ++ b) (sym f.is) r.0
    ∙ header-same s o k.long

-- ---- written, then read

module _ {A St : Type 0} (bytes : A → List ℕ) (one : St → List ℕ → Body A) (next : St → A → St) (Q : St → A → Type 0)
    (some : (a : A) → 0 < length (bytes a)) (complete : (σ : St) (a : A) → Q σ a → one σ (bytes a) ≡ Good a) where
  frame-written : (a : A) (rest : List ℕ) → length (bytes a) < 65536 → frame (record_bytes bytes a ++ rest) ≡ length (bytes a)
  frame-written a rest h =
      let l = length (bytes a) in
      let n : number_of 2 (record_bytes bytes a ++ rest) ≡ length (bytes a) = number-written 2 l (bytes a ++ rest) h in
      frame-there (record_bytes bytes a ++ rest) (omega (arith, length-append (bytes a) rest)) ∙ n

  record-written : (σ : St) (a : A) (rest : List ℕ) → Q σ a → length (bytes a) < 65536 → record_of (one σ) (record_bytes bytes a ++ rest)
      ≡ Good a
  record-written σ a rest q h =
      let f = frame-written a rest h in
      record-framed (one σ) (record_bytes bytes a ++ rest) (λ z. omega (arith, some a))
      ∙ ap (λ l. one σ (take l (bytes a ++ rest))) f
      ∙ ap (one σ) (take_at (bytes a) rest (length (bytes a)) refl)
      ∙ complete σ a q

  pub records-written : (σ : St) (xs : List A) → Chain one next [] Q σ xs → length (records_bytes bytes xs) < 65536
      → records one next (length xs) σ (records_bytes bytes xs) ≡ Read xs
  unfolding records
  records-written σ [] c h = refl
  records-written σ (a ∷ xs) c h =
      let rest = records_bytes bytes xs in
      let bs = record_bytes bytes a ++ records_bytes bytes xs in
      let l : length (records_bytes bytes (a ∷ xs)) ≡ 2 + length (bytes a) + length (records_bytes bytes xs) =
      omega (arith, length-append (bytes a) (records_bytes bytes xs)) in
      ap (λ p. on_record bs p (λ a. records one next (length xs) (next σ a) (drop (2 + frame bs) bs)))
      (record-written σ a rest c.0 (omega arith))
      ∙ ap (λ l. before a (records one next (length xs) (next σ a) (drop (2 + l) bs))) (frame-written a rest (omega arith))
      ∙ ap (λ r. before a (records one next (length xs) (next σ a) r)) (sym (drop-drop (length (bytes a)) 2 bs)
      ∙ drop_at (bytes a) rest (length (bytes a)) refl)
      ∙ ap (before a) (records-written (next σ a) xs c.1 (omega arith))

pub encode-length : {A : Type 0} (bytes : A → List ℕ) (head : Head) (xs : List A)
    → length (encode bytes head xs) ≡ head_size head.version + length (records_bytes bytes xs)
unfolding encode
encode-length bytes head xs =
    let r : List ℕ = records_bytes bytes xs in
    let t : ℕ = head_size head.version + length (records_bytes bytes xs) in
    length-append (header head t (length xs)) r ∙ ap (λ k. k + length r) (header-length head t (length xs))

-- what is read of a file that is written: its header, the number of its records, and they
module _ {A : Type 0} (bytes : A → List ℕ) (head : Head) (xs : List A) where
  abbrev rest : List ℕ
  rest = records_bytes bytes xs

  abbrev total : ℕ
  total = head_size head.version + length (records_bytes bytes xs)

  pub encode-head : head_of (encode bytes head xs) ≡ head
  unfolding encode
  encode-head = ap₂ (λ v S. record { version = v; inputs = S }) (version-written head total (length xs) rest)
      (inputs-written head total (length xs) rest)

  pub encode-count : length xs < 65536 → header_count (encode bytes head xs) ≡ length xs
  unfolding encode
  encode-count h = count-written head total (length xs) rest h

  pub encode-total : length (encode bytes head xs) < 65536 → header_total (encode bytes head xs) ≡ length (encode bytes head xs)
  unfolding encode
  encode-total h = let l = encode-length bytes head xs in total-written head total (length xs) rest (omega (arith, l)) ∙ sym l

  pub encode-after : after_header (encode bytes head xs) ≡ records_bytes bytes xs
  unfolding encode
  encode-after =
      ap (λ h. drop (head_size h.version) (encode bytes head xs)) encode-head
      ∙ drop_at (header head total (length xs)) rest (head_size head.version) (header-length head total (length xs))

-- a file that is written within the limits is read as what was written
pub file-written : {A : Type 0} (bytes : A → List ℕ) (known : ℕ → Bool) (limit : ℕ)
    (body : (head : Head) (n : ℕ) → List ℕ → Records A) (head : Head) (xs : List A)
    → known head.version ≡ true → head.inputs ≤ inputs_limit head.version → length xs ≤ limit → limit < 65536
    → length (encode bytes head xs) < 65536 → body head (length xs) (records_bytes bytes xs) ≡ Read xs
    → read_file known limit body (encode bytes head xs) ≡ Accepted head xs
file-written bytes known limit body head xs v s c m l h =
    let bs : List ℕ = encode bytes head xs in
    let is : head_of bs ≡ head = encode-head bytes head xs in
    let count : header_count bs ≡ length xs = encode-count bytes head xs (omega arith) in
    let version : header_version bs ≡ head.version = ap (λ h. h.version) is in
    file-read known limit body bs (header-right known limit bs record {
      long = omega (arith, ap head_size version, encode-length bytes head xs);
      right = ap known version ∙ v;
      total = encode-total bytes head xs l;
      inputs = omega (arith, ap (λ h. h.inputs) is, ap inputs_limit version);
      count = omega (arith, count);
    })
    ∙ ap₂ (λ h k. finish (length bs) h (body h k (after_header bs))) is count
    ∙ ap (λ q. finish (length bs) head (body head (length xs) q)) (encode-after bytes head xs)
    ∙ ap (finish (length bs) head) h

-- a field that is written is read again
pub field_written : {A : Type 0} (k n : ℕ) (rest : List ℕ) (f : ℕ → List ℕ → Body A) → n < 256 ^ k
    → field k (bytes_of k n ++ rest) f ≡ f n rest
field_written k n rest f h =
    field_there k (bytes_of k n ++ rest) f (omega (arith, length-append (bytes_of k n) rest, bytes_of-length k n))
    ∙ ap₂ f (number-written k n rest h) (drop_at (bytes_of k n) rest k (bytes_of-length k n))

pub records-append : {A : Type 0} (bytes : A → List ℕ) (xs ys : List A) → records_bytes bytes (xs ++ ys) ≡ records_bytes bytes xs
    ++ records_bytes bytes ys
records-append bytes [] ys = refl
records-append bytes (x ∷ xs) ys =
    ap (λ bs. record_bytes bytes x ++ bs) (records-append bytes xs ys)
    ∙ sym (append_assoc (record_bytes bytes x) (records_bytes bytes xs) (records_bytes bytes ys))
