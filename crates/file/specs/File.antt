-- Document 01, "Table and trace bytes" and "Numbered replies": headers, records and their refusals, for tables and traces alike.
use Rattle.std.specs.Prelude.{◌≤◌, ℕ, zero, suc, ◌+◌, ◌-◌, Bool, cond, ◌&&◌, List, [], ◌∷◌, ◌++◌, length, take, drop, get_or, eqb, leb}
use Rattle.expr.specs.Number.{number_of, bytes_of}
use Rattle.expr.specs.declared.token.Token.{Token}
use Rattle.expr.specs.Expr.{Parsed, Whole, Breaks}

-- ---- the header

-- what a header says of its file
pub record Head : Type 0 where
  pub version : ℕ
  pub inputs : ℕ

-- a header's bytes, by version
unfoldable pub head_size : (version : ℕ) → ℕ
head_size version = 6

-- the most inputs, by version, and in any
unfoldable pub input_room : ℕ
input_room = 64

unfoldable pub inputs_limit : (version : ℕ) → ℕ
inputs_limit version = input_room

-- where a file's bytes say it
abbrev pub header_version : List ℕ → ℕ
header_version bs = get_or bs 0 0

abbrev pub header_size : List ℕ → ℕ
header_size bs = head_size (header_version bs)

abbrev pub header_total : List ℕ → ℕ
header_total bs = number_of 2 (drop 1 bs)

unfoldable pub header_inputs : List ℕ → ℕ
header_inputs bs = get_or bs 3 0

unfoldable pub header_count : List ℕ → ℕ
header_count bs = number_of 2 (drop 4 bs)

abbrev pub head_of : List ℕ → Head
head_of bs = record { version = header_version bs; inputs = header_inputs bs }

abbrev pub after_header : List ℕ → List ℕ
after_header bs = drop (header_size bs) bs

-- the first of the replies 1 to 4 that a file of a known version with at most `limit` records gets, or 0
unfoldable pub header_reply : (known : ℕ → Bool) (limit : ℕ) → List ℕ → ℕ
header_reply known limit bs =
    cond (leb (header_size bs) (length bs))
    (cond (known (header_version bs))
    (cond (eqb (header_total bs) (length bs))
    (cond (leb (header_inputs bs) (inputs_limit (header_version bs)) && leb (header_count bs) limit) 0 4)
    3)
    2)
    1

-- ---- one record

-- why a record is refused, and where: 5 or 6, at its first byte; or 7, so many bytes before its end, at the first token at which its
-- expression breaks the rules, or at the expression's end
pub data Refusal : Type 0 where
  AtRecord : (reply : ℕ) → Refusal
  AtToken : (left : ℕ) → Refusal

-- what a record's bytes after its length come to: a thing, or a refusal
pub data Body (A : Type 0) : Type 0 where
  Good : A → Body A
  Bad : Refusal → Body A

module _ {A : Type 0} where
  -- a field of k bytes, or 5 where it is missing
  abbrev pub field : (k : ℕ) → List ℕ → (ℕ → List ℕ → Body A) → Body A
  field k bs then = cond (leb k (length bs)) (then (number_of k bs) (drop k bs)) (Bad (AtRecord 5))

  -- a target or an assigned symbol against its rule is 6
  abbrev pub rule : Bool → Body A → Body A
  rule b then = cond b then (Bad (AtRecord 6))

  -- an expression against its rules is 7
  abbrev pub holding : (List Token → A) → Parsed → Body A
  holding f (Whole e) = Good (f e)
  holding f (Breaks bs) = Bad (AtToken (length bs))

-- the length of a record's bytes after its length field; 0, which is refused too, where that is missing or passes the end
unfoldable pub frame : List ℕ → ℕ
frame bs = cond (leb 2 (length bs)) (cond (leb (2 + number_of 2 bs) (length bs)) (number_of 2 bs) 0) 0

-- ---- record after record

-- all records; or a reply with the bytes from the refused record or token, or the first spare byte, on
pub data Records (A : Type 0) : Type 0 where
  Read : List A → Records A
  Stop : (reply : ℕ) → List ℕ → Records A

-- what the header says and the records, or a reply with its offset
pub data Input (A : Type 0) : Type 0 where
  Accepted : (head : Head) → List A → Input A
  Refused : (reply offset : ℕ) → Input A

module _ {A : Type 0} where
  unfoldable pub record_of : (one : List ℕ → Body A) → List ℕ → Body A
  record_of one bs = cond (eqb (frame bs) 0) (Bad (AtRecord 5)) (one (take (frame bs) (drop 2 bs)))

  abbrev pub before : A → Records A → Records A
  before a (Read xs) = Read (a ∷ xs)
  before a (Stop r bs) = Stop r bs

  abbrev pub on_record : (here : List ℕ) → Body A → (A → Records A) → Records A
  on_record here (Good a) rest = before a (rest a)
  on_record here (Bad (AtRecord r)) rest = Stop r here
  on_record here (Bad (AtToken left)) rest = Stop 7 (drop (2 + frame here - left) here)

  -- c records and nothing after them; `one` reads a record in the state that the records before it leave
  unfoldable pub records : {St : Type 0} → (one : St → List ℕ → Body A) → (next : St → A → St) → (c : ℕ) → St → List ℕ → Records A
  records one next zero σ [] = Read []
  records one next zero σ (b ∷ bs) = Stop 5 (b ∷ bs)
  records one next (suc c) σ bs = on_record bs (record_of (one σ) bs) (λ a. records one next c (next σ a) (drop (2 + frame bs) bs))

  abbrev pub finish : (total : ℕ) (head : Head) → Records A → Input A
  finish total head (Read xs) = Accepted head xs
  finish total head (Stop r bs) = Refused r (total - length bs)

  -- a file, whose n records `body head n` reads off the bytes after the header
  unfoldable pub read_file : (known : ℕ → Bool) (limit : ℕ) → (body : (head : Head) (n : ℕ) → List ℕ → Records A) → List ℕ → Input A
  read_file known limit body bs =
      cond (eqb (header_reply known limit bs) 0)
      (finish (length bs) (head_of bs) (body (head_of bs) (header_count bs) (after_header bs)))
      (Refused (header_reply known limit bs) 0)

-- ---- what laws say of records

-- a record that is refused has the reply 5, 6 or 7
abbrev pub Low : {A : Type 0} → Body A → Type 0
Low (Good x) = Unit {0}
Low (Bad (AtRecord r)) = (5 ≤ r) × (r ≤ 7)
Low (Bad (AtToken left)) = Unit {0}

module _ {A St : Type 0} (one : St → List ℕ → Body A) (next : St → A → St) (s : List ℕ) where
  -- every record is right for the state that the records before it leave
  abbrev pub Chain : (Q : St → A → Type 0) → St → List A → Type 0
  Chain Q σ [] = Unit {0}
  Chain Q σ (a ∷ xs) = Q σ a × Chain Q (next σ a) xs

-- ---- writing

unfoldable pub header : (head : Head) (total n : ℕ) → List ℕ
header head total n = head.version ∷ bytes_of 2 total ++ head.inputs ∷ bytes_of 2 n

module _ {A : Type 0} (bytes : A → List ℕ) where
  abbrev pub record_bytes : A → List ℕ
  record_bytes a = bytes_of 2 (length (bytes a)) ++ bytes a

  abbrev pub records_bytes : List A → List ℕ
  records_bytes [] = []
  records_bytes (a ∷ xs) = record_bytes a ++ records_bytes xs

  unfoldable pub encode : (head : Head) → List A → List ℕ
  encode head xs = header head (head_size head.version + length (records_bytes xs)) (length xs) ++ records_bytes xs
