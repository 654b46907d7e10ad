-- Document 01's printed slice of the small rule, letter by letter, and refusals: computed.
use Rattle.std.specs.Prelude.{◌≡◌, refl, [], ◌∷◌, ◌++◌}
use Rattle.expr.specs.declared.word.Unary.TheVariants.{Not, Neg, Zero}
use Rattle.expr.specs.declared.word.Binary.TheVariants.{Add, Sub, Mul, Udiv, Urem, And, Or, Xor, Shl, Lshr, Equal, Ult, Ule, Slt}
use Rattle.expr.specs.declared.token.Token.TheVariants.{Const, Symbol, Un, Bin, Ite}
use Rattle.expr.specs.Token.{operator, read_token}
use Rattle.expr.specs.Expr.{fits, parse_from}
use Rattle.file.specs.File.{header_reply, frame, record_of, records, read_file, encode}
use Rattle.table.specs.Table.{instr, read_table}
use Rattle.table.specs.Cases.{small_rule}
use Rattle.trace.specs.Trace.{stmt, read_trace}
use Rattle.unwind.specs.Places.{places}
use Rattle.unwind.specs.Unwind.{unwind}
use Rattle.unwind.specs.Answer.{trace_answer}
use Rattle.slice.specs.Slice.{slice}
use Rattle.slice.specs.Answer.{slice_answer}
use Rattle.write.specs.Ascii.{ascii}
use Rattle.show.specs.Text.{expr_text, printed}
use Rattle.write.specs.Decimal.{decimal}
use Rattle.show.specs.Answer.{refusal, show_answer}
use Rattle.file.specs.File.{head_size, header_inputs, header_count, inputs_limit, input_room, header}
use Rattle.table.specs.Table.{is_table}
use Rattle.trace.specs.Trace.{is_trace, trace_version, old_version, tells_bound}

-- the whole output for K = 0 and the small rule
pub small : printed (0 ∷ small_rule) ≡ ascii "inputs 1 statements 4\n"
    ++ ascii "65535 assign s1 0\n"
    ++ ascii "0 assign s2 s1 0 ule s0 zero 3 s1 ite s1 ite\n"
    ++ ascii "2 bound s2 2 ule 1 zero 1 ite\n"
    ++ ascii "3 assert s2 3 ule 0 1 ite\n"
unfolding printed decimal trace_answer trace_version slice_answer read_table is_table read_file header_reply head_size header_inputs
    header_count
    inputs_limit input_room records record_of frame instr parse_from read_token operator fits unwind places encode header
    read_trace is_trace old_version tells_bound stmt slice
small = refl

-- and for K = 1: nine of its eleven statements are kept
with_a_back-jump : printed (1 ∷ small_rule)
    ≡ ascii "inputs 1 statements 9\n"
    ++ ascii "65535 assign s1 0\n"
    ++ ascii "0 assign s2 s1 0 ule s0 zero 3 s1 ite s1 ite\n"
    ++ ascii "1 assign s3 s2 1 ule s0 1 sub s0 ite\n"
    ++ ascii "2 assign s4 s2 2 ule 1 5 s2 ite s2 ite\n"
    ++ ascii "3 assert s4 3 ule 0 1 ite\n"
    ++ ascii "4 assign s5 s4 4 ule 10 s4 ite\n"
    ++ ascii "5 assign s6 s5 5 ule s3 zero 8 s5 ite s5 ite\n"
    ++ ascii "7 bound s6 7 ule 1 zero 1 ite\n"
    ++ ascii "8 assert s6 8 ule 0 1 ite\n"
unfolding printed decimal trace_answer trace_version slice_answer read_table is_table read_file header_reply head_size header_inputs
    header_count
    inputs_limit input_room records record_of frame instr parse_from read_token operator fits unwind places encode header
    read_trace is_trace old_version tells_bound stmt slice
with_a_back-jump = refl

-- a buffer as long as the text gets it, one that is a byte shorter is refused 10
rooms : (show_answer [] 15 ≡ record { reply = 0; offset = 0; bytes = ascii "refused 1 at 0\n" }) × (show_answer [] 14 ≡ refusal 10 0)
    × (show_answer [] 0 ≡ refusal 10 0)
unfolding show_answer printed decimal
rooms = (refl, refl, refl)

-- no K; no table; a wrong version; a table whose length is not the field's; spare bytes
refusals : (printed [] ≡ ascii "refused 1 at 0\n") × (printed (0 ∷ []) ≡ ascii "refused 1 at 0\n")
    × (printed (0 ∷ 2 ∷ 0 ∷ 6 ∷ 0 ∷ 0 ∷ 0 ∷ []) ≡ ascii "refused 2 at 0\n")
    × (printed (255 ∷ 1 ∷ 0 ∷ 7 ∷ 0 ∷ 0 ∷ 0 ∷ []) ≡ ascii "refused 3 at 0\n")
    × (printed (0 ∷ 1 ∷ 0 ∷ 7 ∷ 0 ∷ 0 ∷ 0 ∷ 9 ∷ []) ≡ ascii "refused 5 at 6\n")
unfolding printed decimal trace_answer trace_version read_table is_table read_file header_reply head_size header_inputs header_count
    inputs_limit
    input_room records
refusals = (refl, refl, refl, refl, refl)

-- document 01's names of the tokens, in its order
names : expr_text (Const 10 ∷ Symbol 4159 ∷ Un Not ∷ Un Neg ∷ Un Zero ∷ Bin Add ∷ Bin Sub ∷ Bin Mul ∷ Bin Udiv ∷ Bin Urem ∷ Bin And ∷ Bin Or
    ∷ Bin Xor ∷ Bin Shl ∷ Bin Lshr ∷ Bin Equal
    ∷ Bin Ult ∷ Bin Ule ∷ Bin Slt ∷ Ite ∷ [])
    ≡ ascii " 10 s4159 not neg zero add sub mul udiv urem and or xor shl lshr equal ult ule slt ite"
unfolding decimal
names = refl
