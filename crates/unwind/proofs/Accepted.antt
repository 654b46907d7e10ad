-- An accepted table whose records' offsets are stored: how large it is, and the instruction that stands at each offset.
use Prim.Native.Nat.{ℕ, ◌≤◌, ◌<◌}
use native.Mathlib.Omega.{arith}
use mathlib.Core.Path.{◌≡◌, sym, ◌∙◌}
use mathlib.Core.List.{List, [], ◌∷◌}
use lib.ListN.{length, drop, get_or}
use Rattle.expr.specs.Lists.{All, all-at}
use Rattle.expr.specs.Number.{Byte}
use Rattle.file.specs.File.{input_room, header_size, header_inputs, head_of, header_reply, Good, record_of}
use Rattle.file.specs.Shown.{listed}
use Rattle.file.proofs.FileLaws.{header_is, file-is}
use Rattle.file.proofs.ReadingLaws.{short}
use Rattle.table.specs.Table.{Instr, instr, instrs, is_table, read_table}
use Rattle.table.specs.TableLaws.{InstrOk}
use Rattle.table.specs.Shown.{Ready}
use Rattle.table.proofs.Running.{Loaded, loaded, here}
use Rattle.unwind.specs.declared.source.Source.{Source}

-- its numbers are bytes
pub bytes : (source : Source) → All Byte source.table.now
bytes source = all-at Byte source.table.now (λ i h. source.bytes i)

-- the instruction i, in a table of at most T symbols
pub record At (s off : List ℕ) (n T i : ℕ) : Type 0 where
  pub instruction : Instr
  pub after : List Instr
  pub is-here : drop i (listed (read_table s)) ≡ instruction ∷ after
  pub good : record_of (instr T n) (drop (get_or off i 0) s) ≡ Good instruction

module _ (s off : List ℕ) (n : ℕ) (o : All Byte s) (r : Ready s off n) where
  is-loaded : Loaded s (head_of s) (listed (read_table s))
  is-loaded = loaded s o r.accepted

  pub counted : length (listed (read_table s)) ≡ n
  counted = is-loaded.table.count ∙ sym r.count

  pub few : n ≤ 1024
  few = omega (arith, counted, is-loaded.table.few)

  header-right : header_reply is_table 1024 s ≡ 0
  unfolding read_table
  header-right = (file-is is_table 1024 instrs s (head_of s) (listed (read_table s)) is-loaded.accepted).header

  pub long : header_size s ≤ length s
  long = (header_is is_table 1024 s header-right).long

  pub few-inputs : header_inputs s ≤ input_room
  few-inputs = is-loaded.table.inputs

  pub small : length s < 65536
  small = short is_table 1024 s o header-right

  pub all-ok : All (InstrOk (header_inputs s) (length (listed (read_table s)))) (listed (read_table s))
  all-ok = is-loaded.table.ok

  pub instr-here : (T : ℕ) → header_inputs s ≤ T → (i : ℕ) → i < n → At s off n T i
  instr-here T l i h =
      let x = here s off n 0 T (head_of s) (listed (read_table s)) is-loaded counted l r.stored [] i h in
      record { instruction = x.instruction; after = x.after; is-here = x.is-here; good = x.good }
