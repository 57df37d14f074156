-- Instructions: their printed text is read as the instruction.
use Rattle.ir_text.proofs.Common.{◌≡◌, ℕ, suc, ◌<◌, Bool, true, false, cond, ◌&&◌, List, [], ◌∷◌, ◌++◌, Some, codes, length, refl, sym, ap, subst, ◌∙◌, append_assoc, arith, slice_get, option_map, filter, join_by, AllZip, slice_get-map, begins_name, begins_word, is_letter, is_name_byte, is_word, Opcode, Add, Sub, Mul, UDiv, SDiv, URem, SRem, Shl, LShr, AShr, And, Or, Xor, UMin, UMax, SMin, SMax, Flags, Pred, Eq, Ne, Ugt, Uge, Ult, Ule, Sgt, Sge, Slt, Sle, Cast, Trunc, ZExt, SExt, Flag, Nuw, Nsw, Exact, NNeg, Disjoint, SameSign, is_intrinsic, AreWithin, no_flags, flags_of, flags_of_cast, flags_of_icmp, icmp_flags, flag_keyword, every_flag, has_flag, flags_in_order, icmp_flags-fit, opcode_keyword, cast_keyword, predicate_keyword, Word, Inst, Op, Operand, IsBlock, OperandHasWidth, IsTyped, place_of, Read, read, reads_of, end_of, RawInst, RawIncoming, SpellsType, SpellsOperand, SpellsFlags, SpellsIncoming, SpellsOp, SpellsInst, Part, Is, ◌⨾◌, Each, Comma, Separated, IncomingMeans, InstMeans, Value, IsWidth, ReadHasForms, register_text, operand_text, typed_text, flag_text, flags_text, incoming_text, callee_text, binary_text, op_text, inst_text, Identifies, TypesFit}
use Rattle.std.specs.List.{flat_map}
use Rattle.ir_core.specs.declared.function.Function.{Function}
use Rattle.ir_core.specs.declared.function.Block.{Block as CoreBlock}
use Rattle.ir_core.specs.declared.instruction.Op.TheVariants as core
use Rattle.ir_core.specs.declared.operand.Register.TheVariants as registers
use Rattle.ir_tokens.specs.declared.raw.RawOp.TheVariants as ops
use Rattle.ir_text.proofs.Placing.{space_stops, comma_stops}
use Rattle.ir_text.proofs.Prints.{Body, Prints, Reads, prints_as, prints_map, prints_nothing, prints_then, prints_next, prints_lines, behind_space, Opens, opens_with, opens_none, opens_each}
use Rattle.ir_text.proofs.Tokens.{in_body, word_in_body, equals_in_body, open_in_body, close_in_body, blank, indent, spaced, mark_spaced, line_ends, mark_line_ends, comma_space}
use Rattle.ir_text.proofs.Calls.{MeansOp, call_of_two, call_of_one}
use Rattle.ir_text.proofs.Calling.{IsPrintable, is_called, result_named}
use Rattle.ir_text.proofs.Operands.{type_prints, register_called, block_name_prints, MeansOperand, operand_prints, typed_prints}

-- ---- words

opcode_is_word : (op : Opcode) → is_word (opcode_keyword op) ≡ true
unfolding is_word begins_word begins_name is_letter is_name_byte
opcode_is_word Add = refl
opcode_is_word Sub = refl
opcode_is_word Mul = refl
opcode_is_word UDiv = refl
opcode_is_word SDiv = refl
opcode_is_word URem = refl
opcode_is_word SRem = refl
opcode_is_word Shl = refl
opcode_is_word LShr = refl
opcode_is_word AShr = refl
opcode_is_word And = refl
opcode_is_word Or = refl
opcode_is_word Xor = refl
opcode_is_word UMin = refl
opcode_is_word UMax = refl
opcode_is_word SMin = refl
opcode_is_word SMax = refl

pred_is_word : (pred : Pred) → is_word (predicate_keyword pred) ≡ true
unfolding is_word begins_word begins_name is_letter is_name_byte
pred_is_word Eq = refl
pred_is_word Ne = refl
pred_is_word Ugt = refl
pred_is_word Uge = refl
pred_is_word Ult = refl
pred_is_word Ule = refl
pred_is_word Sgt = refl
pred_is_word Sge = refl
pred_is_word Slt = refl
pred_is_word Sle = refl

cast_is_word : (cast : Cast) → is_word (cast_keyword cast) ≡ true
unfolding is_word begins_word begins_name is_letter is_name_byte
cast_is_word Trunc = refl
cast_is_word ZExt = refl
cast_is_word SExt = refl

-- a word with a space behind it
pub word_spaced : (word : List ℕ) → is_word word ≡ true → Prints Body Body true (Is (Word word)) (word ++ codes " ")
word_spaced word form = spaced tt (word_in_body word form)

pub opens_comma : {lone : Bool} → Opens lone (codes ", ")
opens_comma = opens_with 44 (codes " ") comma_stops

-- ---- flags

-- the keyword of a flag has the form of a word
flag_is_word : (flag : Flag) → is_word (flag_keyword flag) ≡ true
unfolding is_word begins_word begins_name is_letter is_name_byte
flag_is_word Nuw = refl
flag_is_word Nsw = refl
flag_is_word Exact = refl
flag_is_word NNeg = refl
flag_is_word Disjoint = refl
flag_is_word SameSign = refl

abbrev IsFlag : Flag → Part
IsFlag flag = Is (Word (flag_keyword flag))

flag_opens : (on : Bool) (word : List ℕ) → Opens false (cond on (32 ∷ word) [])
flag_opens true word = opens_with 32 word space_stops
flag_opens false word = opens_none

flags_among_open : (flags : Flags) (among : List Flag) → Opens false (flat_map (flag_text flags) among)
flags_among_open flags among = opens_each (flag_text flags) (λ flag. flag_opens (has_flag flags flag) (flag_keyword flag)) among

one_print : (on : Bool) (flag : Flag) (others : List Flag) (text : List ℕ) → Prints Body Body false (Each IsFlag others) text → Opens false text → Prints Body Body false (Each IsFlag (cond on (flag ∷ others) others)) (cond on (32 ∷ flag_keyword flag) [] ++ text)
one_print true flag others text prints opens = prints_then (behind_space (codes " ") blank tt (word_in_body (flag_keyword flag) (flag_is_word flag))) prints opens
one_print false flag others text prints opens = prints

flags_among_print : (flags : Flags) (among : List Flag) → Prints Body Body false (Each IsFlag (filter (has_flag flags) among)) (flat_map (flag_text flags) among)
flags_among_print flags [] = prints_nothing Body false
flags_among_print flags (flag ∷ among) =
    one_print (has_flag flags flag) flag (filter (has_flag flags) among) (flat_map (flag_text flags) among) (flags_among_print flags among) (flags_among_open flags among)

flags_print : (taken flags : Flags) → AreWithin flags taken → Prints Body Body false (SpellsFlags taken flags) (flags_text flags)
unfolding flags_text
flags_print taken flags fit =
    prints_map (SpellsFlags taken flags) (λ tokens rest each. (filter (has_flag flags) every_flag, flags_in_order taken flags fit, each)) (flags_among_print flags every_flag)

flags_open : (flags : Flags) → Opens false (flags_text flags)
unfolding flags_text
flags_open flags = flags_among_open flags every_flag

-- ---- operations

-- the operand of the read has the width, and its form
pub record ReadFits (f : Function) (r : Read) : Type 0 where
  pub has : OperandHasWidth f r.width r.operand
  pub form : ReadHasForms r

read_prints : (f : Function) → IsPrintable f → (r : Read) → ReadFits f r → Prints Body Body false (Reads (SpellsOperand r.width) (MeansOperand f) r.operand) (operand_text f r.operand)
read_prints f fits r ok = operand_prints f fits r.width r.operand ok.has ok.form.width ok.form.operand

pub read_typed : (f : Function) → IsPrintable f → (r : Read) → ReadFits f r → Prints Body Body false (SpellsType r.width ⨾ Reads (SpellsOperand r.width) (MeansOperand f) r.operand) (typed_text f r.width r.operand)
read_typed f fits r ok = typed_prints f fits r.width r.operand ok.has ok.form.width ok.form.operand

-- intrinsics take no flags
intrinsic_takes_none : (op : Opcode) → is_intrinsic op ≡ true → flags_of op ≡ no_flags
intrinsic_takes_none UMin own = refl
intrinsic_takes_none UMax own = refl
intrinsic_takes_none SMin own = refl
intrinsic_takes_none SMax own = refl
intrinsic_takes_none op own = absurd cc

never_both : (b : Bool) → (b && false) ≡ false
never_both true = refl
never_both false = refl

within_none : (flags : Flags) → AreWithin flags no_flags → flags ≡ no_flags
within_none flags fit = sym fit ∙ rw (never_both flags.nuw, never_both flags.nsw, never_both flags.exact, never_both flags.nneg, never_both flags.disjoint, never_both flags.samesign) refl

-- one entry of a phi
incoming_prints : (f : Function) → IsPrintable f → (b k width : ℕ) (entry : Operand × ℕ) (block : CoreBlock) → ReadFits f (read entry.1 (end_of f entry.1) width entry.0) → IsBlock f entry.1 block
    → Prints Body Body true (Reads (SpellsIncoming width) (IncomingMeans (Identifies f)) entry) (incoming_text f entry)
unfolding incoming_text
incoming_prints f fits b k width entry block ok at =
    let r = read entry.1 (end_of f entry.1) width entry.0 in
    prints_map _ (λ tokens rest (m1, (m2, (m3, (m4, open_is, (a, spells, means)), comma), (w, spell, is)), close). (record { value = a; block = w }, (m4, open_is, (m3, spells, (m2, comma, (m1, spell, close)))), (means, is)))
    (prints_then
    (prints_next (prints_then (prints_next (mark_spaced tt open_in_body) (read_prints f fits r ok)) comma_space opens_comma) (block_name_prints f fits entry.1 block at))
    (behind_space (codes " ") blank tt close_in_body)
    (opens_with 32 (codes "]") space_stops))

-- the further entries of a phi
incomings_print : (f : Function) → IsPrintable f → (b k width : ℕ) (entries : List (Operand × ℕ))
    → ((i : ℕ) (entry : Operand × ℕ) → slice_get entries i ≡ Some entry → ReadFits f (read entry.1 (end_of f entry.1) width entry.0) × ((block : CoreBlock) × IsBlock f entry.1 block))
    → 0 < length entries
    → Prints Body Body true (Reads (Separated (SpellsIncoming width)) (AllZip (IncomingMeans (Identifies f))) entries) (join_by (incoming_text f) (codes ", ") entries)
incomings_print f fits b k width [] each some = absurd (omega arith)
incomings_print f fits b k width (first ∷ entries) each some =
    let here = each 0 first refl in
    prints_map _ (λ tokens rest (m1, (a, spells, means), (others, spell, mean)). (a ∷ others, (m1, spells, spell), (means, mean)))
    (prints_next (incoming_prints f fits b k width first here.1.0 here.0 here.1.1)
    (prints_lines (λ (a : RawIncoming). Comma ⨾ SpellsIncoming width a) (IncomingMeans (Identifies f)) Body (λ (y : Operand × ℕ). codes ", " ++ incoming_text f y) entries (λ i entry at.
    let there = each (suc i) entry at in
    prints_map _ (λ tokens rest (m2, comma, (a, spells, means)). (a, (m2, comma, spells), means)) (prints_next comma_space (incoming_prints f fits b k width entry there.1.0 there.0 there.1.1)))))

-- ---- operations with two operands

plain_text : (f : Function) (width : ℕ) (op : Opcode) (flags : Flags) (x y : Operand) → is_intrinsic op ≡ false
    → binary_text f width op flags x y ≡ opcode_keyword op ++ flags_text flags ++ codes " " ++ typed_text f width x ++ codes ", " ++ operand_text f y
unfolding binary_text
plain_text f width op flags x y own = rw own refl

called_text : (f : Function) (width : ℕ) (op : Opcode) (flags : Flags) (x y : Operand) → is_intrinsic op ≡ true
    → binary_text f width op flags x y ≡ callee_text (opcode_keyword op) width ++ codes "(" ++ typed_text f width x ++ codes ", " ++ typed_text f width y ++ codes ")"
unfolding binary_text
called_text f width op flags x y own = rw own refl

binary_prints : (f : Function) → IsPrintable f → (b k width : ℕ) (op : Opcode) (flags : Flags) (x y : Operand) → IsWidth width → AreWithin flags (flags_of op) → ReadFits f (read b k width x) → ReadFits f (read b k width y)
    → Prints Body Body true (Reads SpellsOp (MeansOp f width) (core.Binary op flags x y)) (binary_text f width op flags x y ++ codes "\n")
binary_prints f fits b k width op flags x y ok typed left right = by (is_intrinsic op) refl
  where
    by : (called : Bool) → is_intrinsic op ≡ called → Prints Body Body true (Reads SpellsOp (MeansOp f width) (core.Binary op flags x y)) (binary_text f width op flags x y ++ codes "\n")
    by true own =
        let none : flags ≡ no_flags = within_none flags (subst (λ (taken : Flags). AreWithin flags taken) (intrinsic_takes_none op own) typed) in
        prints_as (ap (λ (t : List ℕ). t ++ codes "\n") (called_text f width op flags x y own))
        (call_of_two f width op flags x y own none ok (read_typed f fits (read b k width x) left) (read_typed f fits (read b k width y) right))
    by false own =
        prints_as (ap (λ (t : List ℕ). t ++ codes "\n") (plain_text f width op flags x y own))
        (prints_map (Reads SpellsOp (MeansOp f width) (core.Binary op flags x y)) (λ tokens rest (m1, (m2, (m3, (m4, word, flag), (m5, type, (a, spell, mean))), comma), (c, spells, means)).
        (ops.Binary op flags width a c, (m4, (own, word), (m3, flag, (m5, type, (m2, spell, (m1, comma, spells))))), ((refl, refl, mean, means), refl, tt)))
        (line_ends tt
        (prints_next
        (prints_then
        (prints_next (spaced tt (prints_then (word_in_body (opcode_keyword op) (opcode_is_word op)) (flags_print (flags_of op) flags typed) (flags_open flags))) (read_typed f fits (read b k width x) left))
        comma_space opens_comma)
        (read_prints f fits (read b k width y) right))))

-- an operation up to the end of its line, if its operands have their widths, its flags are ones that it takes, and the
-- blocks of a phi are defined
pub op_prints : (f : Function) → IsPrintable f → (b k width : ℕ) (op : Op) → IsWidth width → ((i : ℕ) (r : Read) → slice_get (reads_of f b k width op) i ≡ Some r → ReadFits f r) → IsTyped width op
    → ((entries : List (Operand × ℕ)) → op ≡ core.Phi entries → (0 < length entries) × ((i : ℕ) (entry : Operand × ℕ) → slice_get entries i ≡ Some entry → (block : CoreBlock) × IsBlock f entry.1 block))
    → Prints Body Body true (Reads SpellsOp (MeansOp f width) op) (op_text f width op ++ codes "\n")
unfolding op_text is_word begins_word begins_name is_letter is_name_byte
op_prints f fits b k width (core.Binary op flags x y) ok reads typed phi =
    binary_prints f fits b k width op flags x y ok typed (reads 0 (read b k width x) refl) (reads 1 (read b k width y) refl)
op_prints f fits b k width (core.Unary op truth x) ok reads typed phi =
    call_of_one f width op truth x typed ok (read_typed f fits (read b k width x) (reads 0 (read b k width x) refl))
op_prints f fits b k width (core.Compare pred samesign compared x y) ok reads typed phi =
    let icmp = spaced tt (prints_then (word_in_body (codes "icmp") refl) (flags_print flags_of_icmp (icmp_flags samesign) (icmp_flags-fit samesign)) (flags_open (icmp_flags samesign))) in
    prints_map _ (λ tokens rest (m1, (m2, (m3, (m4, (m5, word, flag), is), (m6, type, (a, spell, mean))), comma), (c, spells, means)).
    (ops.Compare pred samesign compared a c, (m5, word, (m4, flag, (m3, is, (m6, type, (m2, spell, (m1, comma, spells)))))), ((refl, refl, refl, mean, means), typed, tt)))
    (line_ends tt (prints_next
    (prints_then
    (prints_next (spaced tt (prints_next icmp (word_in_body (predicate_keyword pred) (pred_is_word pred)))) (read_typed f fits (read b k compared x) (reads 0 (read b k compared x) refl)))
    comma_space opens_comma)
    (read_prints f fits (read b k compared y) (reads 1 (read b k compared y) refl))))
op_prints f fits b k width (core.Select c x y) ok reads typed phi =
    prints_map _ (λ tokens rest (m1, (m2, (m3, (m4, (m5, word, (m6, type, (z, spell, mean))), comma), (m7, type_x, (u, spell_x, mean_x))), comma_y), (m8, type_y, (v, spell_y, mean_y))). (
      ops.Select (record { width = 1; operand = z }) (record { width = width; operand = u }) (record { width = width; operand = v }),
      (m5, word, (m4, (m6, type, spell), (m3, comma, (m2, (m7, type_x, spell_x), (m1, comma_y, (m8, type_y, spell_y)))))),
      ((mean, mean_x, mean_y), refl, (refl, refl)),
    ))
    (line_ends tt (prints_next
    (prints_then
    (prints_next
    (prints_then (prints_next (word_spaced (codes "select") refl) (read_typed f fits (read b k 1 c) (reads 0 (read b k 1 c) refl))) comma_space opens_comma)
    (read_typed f fits (read b k width x) (reads 1 (read b k width x) refl)))
    comma_space opens_comma)
    (read_typed f fits (read b k width y) (reads 2 (read b k width y) refl))))
op_prints f fits b k width (core.Convert cast flags from x) ok reads typed phi =
    prints_map _ (λ tokens rest (m1, (m2, (m3, (m4, word, flag), (m5, type, (a, spell, mean))), to), type_to).
    (ops.Convert cast flags from a width, (m4, word, (m3, flag, (m5, type, (m2, spell, (m1, to, type_to))))), ((refl, refl, refl, mean), refl, tt)))
    (line_ends tt (prints_next
    (prints_then
    (prints_next (spaced tt (prints_then (word_in_body (cast_keyword cast) (cast_is_word cast)) (flags_print (flags_of_cast cast) flags typed.0) (flags_open flags))) (read_typed f fits (read b k from x) (reads 0 (read b k from x) refl)))
    (behind_space (codes " ") blank tt (word_spaced (codes "to") refl)) (opens_with 32 (codes "to ") space_stops))
    (type_prints in_body width ok)))
op_prints f fits b k width (core.Freeze x) ok reads typed phi =
    prints_map _ (λ tokens rest (m1, word, (m2, type, (a, spell, mean))). (ops.Freeze width a, (m1, word, (m2, type, spell)), (mean, refl, tt)))
    (line_ends tt (prints_next (word_spaced (codes "freeze") refl) (read_typed f fits (read b k width x) (reads 0 (read b k width x) refl))))
op_prints f fits b k width (core.Phi entries) ok reads typed phi =
    let (some, blocks) = phi entries refl in
    prints_map _ (λ tokens rest (m1, (m2, word, type), (incoming, spell, mean)). (ops.Phi width incoming, (m2, word, (m1, type, spell)), (mean, refl, tt)))
    (mark_line_ends tt
    (prints_next (spaced tt (prints_next (word_spaced (codes "phi") refl) (type_prints in_body width ok)))
    (incomings_print f fits b k width entries (λ i entry at. (
      reads i (read entry.1 (end_of f entry.1) width entry.0) (slice_get-map (λ (e : Operand × ℕ). read e.1 (end_of f e.1) width e.0) entries i ∙ ap (option_map (λ (e : Operand × ℕ). read e.1 (end_of f e.1) width e.0)) at),
      blocks i entry at,
    )) some)))

-- ---- instructions

-- this is canonically written for instruction i.0 of block b
abbrev pub MeansInst : Function → ℕ → RawInst → ℕ × Inst → Type 0
MeansInst f b raw i = InstMeans (Identifies f) raw i.1 × Identifies f raw.result.identifier (Value (registers.Result b i.0)) × TypesFit raw.op

pub inst_prints : (f : Function) → IsPrintable f → (b k : ℕ) (block : CoreBlock) (inst : Inst) → IsBlock f b block → slice_get block.insts k ≡ Some inst
    → Prints Body Body true (Reads SpellsOp (MeansOp f inst.width) inst.op) (op_text f inst.width inst.op ++ codes "\n")
    → Prints Body Body true (Reads SpellsInst (MeansInst f b) (k, inst)) (inst_text f b (k, inst))
unfolding inst_text
inst_prints f fits b k block inst at here op =
    let r = registers.Result b k in
    prints_as (append_assoc (codes "  " ++ register_text f r ++ codes " = ") (op_text f inst.width inst.op) (codes "\n"))
    (prints_map (Reads SpellsInst (MeansInst f b) (k, inst))
    (λ tokens rest (m1, (m2, (w, spell, (is, name)), equals), (raw, spells, (means, width, types))). (record { result = w; op = raw }, (m2, spell, (m1, equals, (rest, spells, ([], refl)))), ((name, width, means), is, types)))
    (prints_next
    (prints_then
    (behind_space (codes "  ") indent tt (register_called in_body f r inst.name (is_called f fits (place_of f r) inst.name (result_named f b k block inst at here))))
    (behind_space (codes " ") blank tt (mark_spaced tt equals_in_body)) (opens_with 32 (codes "= ") space_stops))
    op))
