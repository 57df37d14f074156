-- Completeness of the parser for instructions and terminators: it gives what is spelled, if what follows may follow.
use Rattle.ir_instructions.proofs.Common.{◌≡◌, ℕ, Bool, true, false, not, List, [], ◌∷◌, Ok, refl, ◌∙◌, codes, Flags, Pred, no_flags, flags_of, flags_of_cast, flags_of_icmp, icmp_flags, Flag, predicate_keyword, AddsFlags, flag_keyword, with_flag, pred_in-of, flag_in-of, predicate_is_no_flag, Placed, Word, Mark, RawIncoming, RawInst, RawOp, RawTerminator, Jump, RawCase, SpellsType, SpellsFlags, SpellsIncoming, SpellsOp, SpellsInst, SpellsCase, SpellsCases, SpellsTerminator, is_register, is_flag, flag_at, flags_at, binary_at, pred_at, compare_at, select_at, convert_at, freeze_at, incoming_at, begins_incoming, further_incoming_at, incomings_at, phi_at, op_at, inst_at, insts_at, return_at, jump_at, conditional_at, branch_at, begins_case, case_at, cases_at, switch_at, terminator_at, Part, IsOn, Is, ◌⨾◌, Each, Comma, Separated, SpellsMarker, unmarked, tail, notail, call_word_at, marked_call_at, MayFollowItem, RawCall, repeat_at}
use Rattle.ir_tokens.specs.declared.raw.RawOp.TheVariants.{Binary, Compare, Call, Select, Convert, Freeze, Phi}
use Rattle.ir_tokens.specs.declared.raw.RawTerminator.TheVariants.{Return, Unreachable, Branch, Switch}
use Rattle.ir_instructions.specs.declared.word.Operation.TheVariants as operations
use Rattle.ir_instructions.specs.declared.word.Ending.TheVariants as endings
use Rattle.ir_instructions.specs.Grammar.{Tail}
use Rattle.ir_instructions.specs.InstructionReaders.{is_mark}
use Rattle.ir_instructions.specs.Punctuation as marks
use Rattle.ir_instructions.proofs.CallSpellings.{SpellsCalled, call_at-of}
use Rattle.ir_instructions.proofs.Loops.{ReadsEach, each-of, repeat-more, repeat-done}
use Rattle.ir_instructions.proofs.Spellings.{mark_at-of, keyword_at-of, register_at-of, target_at-of, type_at-of, type_begins_no_flag, type_is_no_keyword, operand_at-of, case_value_at-of, typed_at-of, tail_at-of}
use Rattle.ir_instructions.proofs.Takings.{flag-takes, incoming-takes, inst-takes, case-takes}
use Rattle.ir_instructions.proofs.WordLemmas.{operation_in-of, ending_in-of}

-- ---- flags

flags_are_read : (taken : Flags) (written : List Flag) (before after : Flags) (tokens rest : List Placed) → AddsFlags taken before written after → Each (λ flag. Is (Word (flag_keyword flag))) written tokens rest → is_flag taken rest ≡ false → repeat_at (is_flag taken) (flag_at taken) before tokens ≡ Ok (after, rest)
unfolding flag_at
flags_are_read taken [] before after tokens rest adds each none = rw (adds, each) (repeat-done (is_flag taken) (flag_at taken) after rest none)
flags_are_read taken (flag ∷ written) before after tokens rest (is_taken, new, adds) (middle, (line, is), each) none =
    let next : is_flag taken tokens ≡ true = rw (is, flag_in-of taken flag is_taken) refl in
    let one : flag_at taken before tokens ≡ Ok (with_flag before flag, middle) = rw (is, flag_in-of taken flag is_taken, new) refl in
    repeat-more (is_flag taken) (flag_at taken) (flag-takes taken) before tokens (with_flag before flag, middle) next one
    ∙ flags_are_read taken written (with_flag before flag) after middle rest adds each none

flags_at-of : (taken : Flags) (flags : Flags) (tokens rest : List Placed) → SpellsFlags taken flags tokens rest → is_flag taken rest ≡ false → flags_at taken tokens ≡ Ok (flags, rest)
unfolding flags_at
flags_at-of taken flags tokens rest (written, adds, each) none = flags_are_read taken written no_flags flags tokens rest adds each none

-- ---- instructions

pred_at-of : (pred : Pred) (tokens rest : List Placed) → Is (Word (predicate_keyword pred)) tokens rest → pred_at tokens ≡ Ok (pred, rest)
unfolding pred_at
pred_at-of pred tokens rest (line, is) = rw (is, pred_in-of pred) refl

incoming_at-of : (width : ℕ) (i : RawIncoming) (tokens rest : List Placed) → SpellsIncoming width i tokens rest → incoming_at width tokens ≡ Ok (i, rest)
unfolding incoming_at
incoming_at-of width i tokens rest (t1, opens, (t2, value, (t3, comma, (t4, block, closes)))) =
    rw (mark_at-of marks.open_bracket tokens t1 opens, operand_at-of width i.value t1 t2 value, mark_at-of marks.comma t2 t3 comma, register_at-of i.block t3 t4 block, mark_at-of marks.close_bracket t4 rest closes) refl

abbrev Further : ℕ → RawIncoming → Part
Further width i = Comma ⨾ SpellsIncoming width i

further_is_next : (width : ℕ) (i : RawIncoming) (tokens rest : List Placed) → Further width i tokens rest → begins_incoming tokens ≡ true
further_is_next width i tokens rest (t1, (line, is), (t2, (next, opens), behind)) = rw (is, opens) refl

further_is_read : (width : ℕ) (i : RawIncoming) (tokens rest : List Placed) → Further width i tokens rest → Unit {0} → further_incoming_at width tokens ≡ Ok (i, rest)
unfolding further_incoming_at
further_is_read width i tokens rest (t1, comma, incoming) may = rw (mark_at-of marks.comma tokens t1 comma) (incoming_at-of width i t1 rest incoming)

phi_at-of : (width : ℕ) (incomings : List RawIncoming) (tokens t1 rest : List Placed) → SpellsType width tokens t1 → Separated (SpellsIncoming width) incomings t1 rest → begins_incoming rest ≡ false → phi_at tokens ≡ Ok (Phi width incomings, rest)
unfolding phi_at
phi_at-of width [] tokens t1 rest type never none = absurd never
phi_at-of width (first ∷ others) tokens t1 rest type (t2, one, each) none =
    let more : incomings_at width (first ∷ []) t2 ≡ Ok (first ∷ others, rest) =
    each-of begins_incoming (further_incoming_at width) (Further width) (λ behind. Unit {0})
    (record { takes = incoming-takes width; next = further_is_next width; follows = λ x ts r h. tt; reads = further_is_read width }) others (first ∷ []) t2 rest each none tt in
    rw (type_at-of width tokens t1 type, incoming_at-of width first t1 t2 one, more) refl

predicate_begins_no_flag : (taken : Flags) (pred : Pred) (tokens rest : List Placed) → Is (Word (predicate_keyword pred)) tokens rest → is_flag taken tokens ≡ false
predicate_begins_no_flag taken pred tokens rest (line, is) = rw (is, predicate_is_no_flag taken pred) refl

not_so : {b : Bool} → b ≡ false → not b ≡ true
not_so e = rw e refl

-- a call behind `tail`, `notail` or neither
marked_call : (w : RawCall) (tokens t1 t2 rest : List Placed) → SpellsMarker tokens t1 → IsOn w.line (Word (codes "call")) t1 t2 → SpellsCalled w t2 rest → MayFollowItem rest → op_at tokens ≡ Ok (Call w, rest)
unfolding op_at marked_call_at call_word_at
marked_call w tokens t1 t2 rest (unmarked same) is call may = rw (same, is, operation_in-of operations.Call refl) (call_at-of w t2 rest call may)
marked_call w tokens t1 t2 rest (tail (line, one)) is call may = rw (one, operation_in-of operations.Tail refl, is) (call_at-of w t2 rest call may)
marked_call w tokens t1 t2 rest (notail (line, one)) is call may = rw (one, operation_in-of operations.NoTail refl, is) (call_at-of w t2 rest call may)

op_at-of : (o : RawOp) (tokens rest : List Placed) → SpellsOp o tokens rest → begins_incoming rest ≡ false → MayFollowItem rest → op_at tokens ≡ Ok (o, rest)
unfolding op_at binary_at compare_at select_at convert_at freeze_at
op_at-of (Binary op flags width a b) tokens rest (t1, (own, (line, is)), (t2, fs, (t3, type, (t4, left, (t5, comma, right))))) none may =
    rw (is, operation_in-of (operations.Binary op) (not_so own), flags_at-of (flags_of op) flags t1 t2 fs (type_begins_no_flag (flags_of op) width t2 t3 type), type_at-of width t2 t3 type, operand_at-of width a t3 t4 left, mark_at-of marks.comma t4 t5 comma, operand_at-of width b t5 rest right) refl
op_at-of (Compare pred samesign width a b) tokens rest (t1, (line, is), (t2, fs, (t3, p, (t4, type, (t5, left, (t6, comma, right)))))) none may =
    rw (is, operation_in-of operations.Compare refl, flags_at-of flags_of_icmp (icmp_flags samesign) t1 t2 fs (predicate_begins_no_flag flags_of_icmp pred t2 t3 p), pred_at-of pred t2 t3 p, type_at-of width t3 t4 type, operand_at-of width a t4 t5 left, mark_at-of marks.comma t5 t6 comma, operand_at-of width b t6 rest right) refl
op_at-of (Call w) tokens rest (t1, marker, (t2, is, call)) none may = marked_call w tokens t1 t2 rest marker is call may
op_at-of (Select condition if_true if_false) tokens rest (t1, (line, is), (t2, c, (t3, comma, (t4, yes_part, (t5, comma', no_part))))) none may =
    rw (is, operation_in-of operations.Select refl, typed_at-of condition t1 t2 c, mark_at-of marks.comma t2 t3 comma, typed_at-of if_true t3 t4 yes_part, mark_at-of marks.comma t4 t5 comma', typed_at-of if_false t5 rest no_part) refl
op_at-of (Convert cast flags from a to) tokens rest (t1, (line, is), (t2, fs, (t3, type, (t4, operand, (t5, keyword, type'))))) none may =
    rw (is, operation_in-of (operations.Convert cast) refl, flags_at-of (flags_of_cast cast) flags t1 t2 fs (type_begins_no_flag (flags_of_cast cast) from t2 t3 type), typed_at-of (record { width = from; operand = a }) t2 t4 (t3, type, operand), keyword_at-of (codes "to") t4 t5 keyword, type_at-of to t5 rest type') refl
op_at-of (Freeze width a) tokens rest (t1, (line, is), (t2, type, operand)) none may =
    rw (is, operation_in-of operations.Freeze refl, typed_at-of (record { width = width; operand = a }) t1 rest (t2, type, operand)) refl
op_at-of (Phi width incomings) tokens rest (t1, (line, is), (t2, type, separated)) none may =
    rw (is, operation_in-of operations.Phi refl) (phi_at-of width incomings t1 t2 rest type separated none)

-- without a `,` no further incoming value is next
no_comma_no_incoming : (tokens : List Placed) → is_mark marks.comma tokens ≡ false → begins_incoming tokens ≡ false
no_comma_no_incoming ((line, Mark mark) ∷ rest) none = rw none refl
no_comma_no_incoming tokens none = refl

tail_begins_no_incoming : (tokens rest : List Placed) → Tail tokens rest → is_mark marks.comma rest ≡ false → begins_incoming tokens ≡ false
tail_begins_no_incoming tokens rest ([], same) none = rw same (no_comma_no_incoming rest none)
tail_begins_no_incoming tokens rest (once ∷ times, (middle, (t1, (line, is), (name, number, plain, digits, (t2, (next, metadata), behind))), more)) none = rw (is, metadata) refl

tail_may_follow : (tokens rest : List Placed) → Tail tokens rest → MayFollowItem rest → MayFollowItem tokens
tail_may_follow tokens rest ([], same) may = rw same may
tail_may_follow tokens rest (once ∷ times, (middle, (t1, (line, is), attachment), more)) may = rw is refl

-- no `,` is next
abbrev pub HasNoTail : List Placed → Type 0
HasNoTail tokens = is_mark marks.comma tokens ≡ false

-- nor anything that would continue an item
abbrev pub MayFollowInst : List Placed → Type 0
MayFollowInst tokens = HasNoTail tokens × MayFollowItem tokens

inst_at-of : (i : RawInst) (tokens rest : List Placed) → SpellsInst i tokens rest → MayFollowInst rest → inst_at tokens ≡ Ok (i, rest)
unfolding inst_at
inst_at-of i tokens rest (t1, register, (t2, equals, (t3, op, behind))) may =
    rw (register_at-of i.result tokens t1 register, mark_at-of marks.equals t1 t2 equals, op_at-of i.op t2 t3 op (tail_begins_no_incoming t3 rest behind may.0) (tail_may_follow t3 rest behind may.1), tail_at-of t3 rest behind may.0) refl

pub inst_is_next : (i : RawInst) (tokens rest : List Placed) → SpellsInst i tokens rest → is_register tokens ≡ true
inst_is_next i tokens rest (t1, (written, same, is), behind) = rw is refl

inst_may_follow : (i : RawInst) (tokens rest : List Placed) → SpellsInst i tokens rest → MayFollowInst tokens
inst_may_follow i tokens rest (t1, (written, same, is), behind) = rw is (refl, tt)

pub insts_at-of : (insts : List RawInst) (tokens rest : List Placed) → Each SpellsInst insts tokens rest → is_register rest ≡ false → MayFollowInst rest → insts_at tokens ≡ Ok (insts, rest)
unfolding insts_at
insts_at-of insts tokens rest each none may =
    each-of is_register inst_at SpellsInst MayFollowInst (record { takes = inst-takes; next = inst_is_next; follows = inst_may_follow; reads = inst_at-of }) insts [] tokens rest each none may

-- ---- terminators

case_at-of : (c : RawCase) (tokens rest : List Placed) → SpellsCase c tokens rest → Unit {0} → case_at tokens ≡ Ok (c, rest)
unfolding case_at
case_at-of c tokens rest (case, (t1, type, (t2, value, (t3, comma, target)))) may =
    rw (type_at-of c.width tokens t1 type, case_value_at-of c.width c.value t1 t2 case value, mark_at-of marks.comma t2 t3 comma, target_at-of c.target t3 rest target) refl

case_is_next : (c : RawCase) (tokens rest : List Placed) → SpellsCase c tokens rest → begins_case tokens ≡ true
case_is_next c tokens rest (case, (t1, (word, type, (line, is)), behind)) = rw is refl

cases_at-of : (cases : List RawCase) (tokens rest : List Placed) → SpellsCases cases tokens rest → cases_at tokens ≡ Ok (cases, rest)
unfolding cases_at
cases_at-of cases tokens rest (t1, opens, (t2, each, (line, closes))) =
    let r : ReadsEach begins_case case_at SpellsCase (λ ts. Unit {0}) = record { takes = case-takes; next = case_is_next; follows = λ x ts r h. tt; reads = case_at-of } in
    rw (
      mark_at-of marks.open_bracket tokens t1 opens,
      each-of begins_case case_at SpellsCase (λ ts. Unit {0}) r cases [] t1 t2 each (rw closes refl) tt,
      mark_at-of marks.close_bracket t2 rest (line, closes),
    ) refl

pub terminator_at-of : (line : ℕ) (t : RawTerminator) (tokens rest : List Placed) → SpellsTerminator line t tokens rest → terminator_at tokens ≡ Ok ((line, t), rest)
unfolding terminator_at return_at jump_at conditional_at branch_at switch_at
terminator_at-of line (Return width a) tokens rest (t1, is, (t2, type, operand)) =
    rw (is, ending_in-of endings.Return, typed_at-of (record { width = width; operand = a }) t1 rest (t2, type, operand)) refl
terminator_at-of line Unreachable tokens rest is = rw (is, ending_in-of endings.Unreachable) refl
terminator_at-of line (Jump to) tokens rest (t1, is, (t2, (next, keyword), register)) =
    rw (is, ending_in-of endings.Branch, keyword, target_at-of to ((next, Word (codes "label")) ∷ t2) rest (t2, (next, refl), register)) refl
terminator_at-of line (Branch width a if_true if_false) tokens rest (t1, is, (t2, type, (t3, operand, (t4, comma, (t5, first, (t6, comma', second)))))) =
    rw (is, ending_in-of endings.Branch, type_is_no_keyword width t1 t2 type, typed_at-of (record { width = width; operand = a }) t1 t3 (t2, type, operand), mark_at-of marks.comma t3 t4 comma, target_at-of if_true t4 t5 first, mark_at-of marks.comma t5 t6 comma', target_at-of if_false t6 rest second) refl
terminator_at-of line (Switch width a default cases) tokens rest (t1, is, (t2, type, (t3, operand, (t4, comma, (t5, target, cs))))) =
    rw (is, ending_in-of endings.Switch, typed_at-of (record { width = width; operand = a }) t1 t3 (t2, type, operand), mark_at-of marks.comma t3 t4 comma, target_at-of default t4 t5 target, cases_at-of cases t5 rest cs) refl

-- a terminator begins with a word
pub terminator_begins : (line : ℕ) (t : RawTerminator) (tokens rest : List Placed) → SpellsTerminator line t tokens rest → (word : List ℕ) × (behind : List Placed) × (tokens ≡ (line, Word word) ∷ behind)
terminator_begins line (Return width a) tokens rest (t1, is, behind) = (codes "ret", t1, is)
terminator_begins line Unreachable tokens rest is = (codes "unreachable", rest, is)
terminator_begins line (Jump to) tokens rest (t1, is, behind) = (codes "br", t1, is)
terminator_begins line (Branch width a if_true if_false) tokens rest (t1, is, behind) = (codes "br", t1, is)
terminator_begins line (Switch width a default cases) tokens rest (t1, is, behind) = (codes "switch", t1, is)
