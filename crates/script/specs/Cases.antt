-- Scripts letter by letter, and SMT-LIB's own operators: computed.
use Rattle.std.specs.Prelude.{◌≡◌, refl, true, false, List, [], ◌∷◌, ◌++◌}
use Rattle.expr.specs.declared.word.Unary.TheVariants.{Not, Neg, Zero}
use Rattle.expr.specs.declared.word.Binary.TheVariants.{Add, Sub, Mul, Udiv, Urem, And, Or, Xor, Shl, Lshr, Equal, Ult, Ule, Slt}
use Rattle.expr.specs.declared.token.Token.{Token}
use Rattle.expr.specs.declared.token.Token.TheVariants.{Const, Symbol, Un, Bin, Ite}
use Rattle.expr.specs.Token.{operator, read_token}
use Rattle.expr.specs.Expr.{fits, parse_from}
use Rattle.file.specs.Outcome.{Assume, Assert, Bound}
use Rattle.file.specs.File.{head_size, header_inputs, header_count, inputs_limit, input_room, header_reply, frame, record_of, records}
use Rattle.file.specs.File.{read_file}
use Rattle.file.specs.Shown.{listed}
use Rattle.trace.specs.Trace.{Assign, Test, is_trace, trace_version, old_version, tells_bound, stmt, read_trace}
use Rattle.trace.specs.Cases.{small_trace0}
use Rattle.write.specs.Ascii.{ascii}
use Rattle.write.specs.Decimal.{decimal}
use Rattle.script.specs.Smt.{bvneg, bvsub, bvudiv, bvurem, bvshl, bvlshr, bvslt, bv_unary, bv_binary, related}
use Rattle.script.specs.Smt.{hex, declared, slot, bind}
use Rattle.script.specs.Script.{expr_term, violation, script_of}
use Rattle.script.specs.Scope.{among, closed, rising}
use Rattle.script.specs.ScriptText.{constant, term_text, script_text}

-- the small rule's trace under K = 0: its last Assign, behind the Assert, is there too
small : script_text 1 (listed (read_trace small_trace0)) ≡
    ascii "(set-logic QF_BV)\n(declare-const s0 (_ BitVec 32))\n(declare-const s1 (_ BitVec 32))\n"
    ++ ascii "(declare-const s2 (_ BitVec 32))\n(declare-const s3 (_ BitVec 32))\n(declare-const s4 (_ BitVec 32))\n"
    ++ ascii "(assert (= s1 (let ((x0 #x00000000)) x0)))\n"
    ++ ascii "(assert (= s2 (let ((x0 s1)) (let ((x1 #x00000000)) (let ((x0 (ite (bvule x0 x1) #x00000001 #x00000000))) (let ((x1 "
    ++ ascii "s0)) (let ((x1 (ite (= x1 #x00000000) #x00000001 #x00000000))) (let ((x2 #x00000003)) (let ((x3 s1)) (let ((x1 (ite "
    ++ ascii "(distinct x1 #x00000000) x2 x3))) (let ((x2 s1)) (let ((x0 (ite (distinct x0 #x00000000) x1 x2))) x0))))))))))))\n"
    ++ ascii "(assert (= s3 (let ((x0 s2)) (let ((x1 #x00000001)) (let ((x0 (ite (bvule x0 x1) #x00000001 #x00000000))) (let ((x1 "
    ++ ascii "s0)) (let ((x2 #x00000001)) (let ((x1 (bvsub x1 x2))) (let ((x2 s0)) (let ((x0 (ite (distinct x0 #x00000000) x1 x2))) "
    ++ ascii "x0))))))))))\n"
    ++ ascii "(assert (= s4 (let ((x0 s2)) (let ((x1 #x00000004)) (let ((x0 (ite (bvule x0 x1) #x00000001 #x00000000))) (let ((x1 "
    ++ ascii "#x00000005)) (let ((x2 s2)) (let ((x0 (ite (distinct x0 #x00000000) x1 x2))) x0))))))))\n(assert\n"
    ++ ascii "(and (distinct #x00000000 (let ((x0 s2)) (let ((x1 #x00000002)) (let ((x0 (ite (bvule x0 x1) #x00000001 #x00000000))) "
    ++ ascii "(let ((x1 #x00000001)) (let ((x1 (ite (= x1 #x00000000) #x00000001 #x00000000))) (let ((x2 #x00000001)) (let ((x0 "
    ++ ascii "(ite (distinct x0 #x00000000) x1 x2))) x0))))))))\n"
    ++ ascii "(or (= #x00000000 (let ((x0 s2)) (let ((x1 #x00000003)) (let ((x0 (ite (bvule x0 x1) #x00000001 #x00000000))) (let "
    ++ ascii "((x1 #x00000000)) (let ((x2 #x00000001)) (let ((x0 (ite (distinct x0 #x00000000) x1 x2))) x0)))))))\nfalse)))\n"
    ++ ascii "(check-sat)\n"
unfolding read_trace is_trace trace_version old_version tells_bound read_file head_size header_inputs header_count inputs_limit input_room
    header_reply records record_of frame stmt parse_from read_token operator fits expr_term violation script_of decimal constant script_text
small = refl

-- a trace with no Assert: its Assume is not written; and a remainder
no_assert : script_text 2 (Assign 0 2 (Symbol 1 ∷ Const 7 ∷ Bin Urem ∷ []) ∷ Test Assume 1 (Symbol 2 ∷ []) ∷ []) ≡
    ascii "(set-logic QF_BV)\n(declare-const s0 (_ BitVec 32))\n(declare-const s1 (_ BitVec 32))\n"
    ++ ascii "(declare-const s2 (_ BitVec 32))\n"
    ++ ascii "(assert (= s2 (let ((x0 s1)) (let ((x1 #x00000007)) (let ((x0 (bvurem x0 x1))) "
    ++ ascii "x0)))))\n(assert\nfalse)\n(check-sat)\n"
unfolding expr_term violation script_of decimal constant script_text
no_assert = refl

-- no statement at all, and no input
empty : script_text 0 [] ≡ ascii "(set-logic QF_BV)\n(assert\nfalse)\n(check-sat)\n"
unfolding violation script_of script_text
empty = refl

-- slots above x9, and no s1 or s2; the test of the bound behind the last Assert is not written
abbrev deep : List Token
deep =
    Symbol 0 ∷ Symbol 0 ∷ Symbol 0 ∷ Symbol 0 ∷ Symbol 0 ∷ Symbol 0 ∷ Symbol 0 ∷ Symbol 0 ∷ Symbol 0
    ∷ Symbol 0 ∷ Symbol 0 ∷ Symbol 3 ∷ Bin Xor ∷ Bin Xor ∷ Bin Xor ∷ Bin Xor ∷ Bin Xor ∷ Bin Xor
    ∷ Bin Xor ∷ Bin Xor ∷ Bin Xor ∷ Bin Xor ∷ Bin Xor ∷ []

gap : script_text 1 (Assign 0 3 (Symbol 0 ∷ Un Not ∷ []) ∷ Test Assume 1 (Symbol 3 ∷ []) ∷ Assign 2 4096 deep
    ∷ Test Assert 3 (Symbol 4096 ∷ []) ∷ Test Bound 4 (Symbol 0 ∷ []) ∷ []) ≡
    ascii "(set-logic QF_BV)\n(declare-const s0 (_ BitVec 32))\n(declare-const s3 (_ BitVec 32))\n"
    ++ ascii "(declare-const s4096 (_ BitVec 32))\n(assert (= s3 (let ((x0 s0)) (let ((x0 (bvnot x0))) x0))))\n"
    ++ ascii "(assert (= s4096 (let ((x0 s0)) (let ((x1 s0)) (let ((x2 s0)) (let ((x3 s0)) (let ((x4 s0)) (let ((x5 s0)) (let ((x6 "
    ++ ascii "s0)) (let ((x7 s0)) (let ((x8 s0)) (let ((x9 s0)) (let ((x10 s0)) (let ((x11 s3)) (let ((x10 (bvxor x10 x11))) (let "
    ++ ascii "((x9 (bvxor x9 x10))) (let ((x8 (bvxor x8 x9))) (let ((x7 (bvxor x7 x8))) (let ((x6 (bvxor x6 x7))) (let ((x5 (bvxor "
    ++ ascii "x5 x6))) (let ((x4 (bvxor x4 x5))) (let ((x3 (bvxor x3 x4))) (let ((x2 (bvxor x2 x3))) (let ((x1 (bvxor x1 x2))) (let "
    ++ ascii "((x0 (bvxor x0 x1))) x0)))))))))))))))))))))))))\n(assert\n(and (distinct #x00000000 (let ((x0 s3)) x0))\n"
    ++ ascii "(or (= #x00000000 (let ((x0 s4096)) x0))\nfalse)))\n(check-sat)\n"
unfolding expr_term violation script_of decimal constant script_text
gap = refl

-- every operator, in document 01's order
operators : term_text (expr_term (Symbol 0 ∷ Un Not ∷ Symbol 0 ∷ Un Neg ∷ Bin Add ∷ Symbol 0 ∷ Un Zero ∷ Bin Sub ∷ Symbol 0 ∷ Bin Mul
    ∷ Symbol 0 ∷ Bin Udiv ∷ Symbol 0 ∷ Bin Urem ∷ Symbol 0 ∷ Bin And ∷ Symbol 0 ∷ Bin Or ∷ Symbol 0
    ∷ Bin Xor ∷ Symbol 0 ∷ Bin Shl ∷ Symbol 0 ∷ Bin Lshr ∷ Symbol 0 ∷ Bin Equal ∷ Symbol 0 ∷ Bin Ult
    ∷ Symbol 0 ∷ Bin Ule ∷ Symbol 0 ∷ Bin Slt ∷ Symbol 0 ∷ Const 1 ∷ Ite ∷ [])) ≡
    ascii "(let ((x0 s0)) (let ((x0 (bvnot x0))) (let ((x1 s0)) (let ((x1 (bvneg x1))) (let ((x0 (bvadd x0 x1))) (let ((x1 s0)) "
    ++ ascii "(let ((x1 (ite (= x1 #x00000000) #x00000001 #x00000000))) (let ((x0 (bvsub x0 x1))) (let ((x1 s0)) (let ((x0 (bvmul "
    ++ ascii "x0 x1))) (let ((x1 s0)) (let ((x0 (bvudiv x0 x1))) (let ((x1 s0)) (let ((x0 (bvurem "
    ++ ascii "x0 x1))) (let ((x1 s0)) (let ((x0 (bvand x0 x1))) (let ((x1 s0)) (let ((x0 (bvor x0 x1))) (let ((x1 s0)) (let ((x0 "
    ++ ascii "(bvxor x0 x1))) (let ((x1 s0)) (let ((x0 (bvshl x0 x1))) (let ((x1 s0)) (let ((x0 (bvlshr x0 x1))) (let ((x1 s0)) "
    ++ ascii "(let ((x0 (ite (= x0 x1) #x00000001 #x00000000))) (let ((x1 s0)) (let ((x0 (ite (bvult x0 x1) #x00000001 "
    ++ ascii "#x00000000))) (let ((x1 s0)) (let ((x0 (ite (bvule x0 x1) #x00000001 #x00000000))) (let ((x1 s0)) (let ((x0 (ite "
    ++ ascii "(bvslt x0 x1) #x00000001 #x00000000))) (let ((x1 s0)) (let ((x2 #x00000001)) (let ((x0 (ite (distinct x0 #x00000000) "
    ++ ascii "x1 x2))) x0)))))))))))))))))))))))))))))))))))"
unfolding expr_term decimal constant
operators = refl

-- digits in lower case, eight of them
constants : (constant 0 ≡ ascii "#x00000000") × (constant 4294967295 ≡ ascii "#xffffffff") × (constant 2596069104 ≡ ascii "#x9abcdef0")
unfolding constant
constants = (refl, refl, refl)

-- SMT-LIB's operators where others might differ: a remainder by 0 is the dividend, a quotient by 0 has all bits set
standard : (bv_binary 32 bvurem 7 0 ≡ 7) × (bv_binary 32 bvurem 7 4 ≡ 3) × (bv_binary 32 bvudiv 7 0 ≡ 4294967295)
    × (bv_binary 32 bvudiv 7 2 ≡ 3) × (bv_binary 32 bvsub 0 1 ≡ 4294967295) × (bv_unary 32 bvneg 0 ≡ 0)
unfolding bv_unary bv_binary
standard = (refl, refl, refl, refl, refl, refl)

-- a shift by 32 or more leaves nothing
shifts : (bv_binary 32 bvshl 1 31 ≡ 2147483648) × (bv_binary 32 bvshl 1 32 ≡ 0) × (bv_binary 32 bvshl 1 40 ≡ 0)
    × (bv_binary 32 bvlshr 4294967295 31 ≡ 1) × (bv_binary 32 bvlshr 4294967295 32 ≡ 0)
unfolding bv_binary
shifts = (refl, refl, refl, refl, refl)

signs : (related 32 bvslt 4294967295 0 ≡ true) × (related 32 bvslt 0 4294967295 ≡ false)
    × (related 32 bvslt 2147483647 2147483648 ≡ false)
unfolding related
signs = (refl, refl, refl)

-- a symbol that is not declared, or declared twice, and a variable outside its `let`'s body are told apart
scopes : (among 2 (0 ∷ 2 ∷ []) ≡ true) × (among 1 (0 ∷ 2 ∷ []) ≡ false) × (rising 0 (0 ∷ 2 ∷ 3 ∷ []) ≡ true)
    × (rising 0 (0 ∷ 2 ∷ 2 ∷ []) ≡ false) × (closed (λ s. among s (0 ∷ [])) (declared 1) ≡ false)
    × (closed (λ s. false) (bind 0 (hex 1) (slot 0)) ≡ true) × (closed (λ s. false) (bind 0 (slot 0) (slot 0)) ≡ false)
scopes = (refl, refl, refl, refl, refl, refl, refl)
