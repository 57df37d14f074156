-- Soundness of the parser for instructions: what it gives is spelled so.
use Rattle.ir_instructions.proofs.Common.{◌≡◌, ℕ, suc, length, Bool, true, false, cond, List, [], ◌∷◌, Option, Some, None, Ok, Err, refl, sym, ap, subst, ◌∙◌, codes, Opcode, Flags, Cast, no_flags, flags_of, flags_of_cast, flags_of_icmp, icmp_flags, Flag, predicate_keyword, pred_in, AddsFlags, flag_keyword, has_flag, with_flag, flag_in, pred_in-is, flag_in-is, flags_are_icmp, Placed, Word, Syntax, RawOp, Operation, SpellsFlags, SpellsIncoming, SpellsOp, SpellsInst, is_register, keyword_at, register_at, typed_at, tail_at, is_flag, add_flag, flag_at, flags_at, binary_at, pred_at, compare_at, select_at, convert_at, freeze_at, incoming_at, begins_incoming, further_incoming_at, incomings_at, phi_at, operation_at, op_at, inst_at, insts_at, Part, Is, ◌⨾◌, Each, Comma, Separated, or_left_out, fault, operation_word, operation_in, is_intrinsic, unmarked, tail, notail}
use Rattle.ir_tokens.specs.declared.raw.RawOp.TheVariants.{Binary, Compare, Call, Select, Convert, Freeze, Phi}
use Rattle.ir_instructions.specs.declared.word.Operation.TheVariants as operations
use Rattle.ir_instructions.specs.InstructionReaders.{mark_at, type_at, operand_at}
use Rattle.ir_instructions.proofs.Loops.{Adds, repeat-is, each-is, all_read}
use Rattle.ir_instructions.proofs.Readings.{mark_at-is, keyword_at-is, register_at-is, type_at-is, operand_at-is, typed_at-is, tail_at-is}
use Rattle.ir_instructions.proofs.Steps.{Reads, bind_ok, read_as, not_left_out, same_front}
use Rattle.ir_instructions.proofs.TakenFlags.{taken_flags}
use Rattle.ir_instructions.proofs.WordLemmas.{operation_in-is, operation_is_no_intrinsic}
use Rattle.ir_instructions.proofs.CallReadings.{call_at-is, marked_call_at-is}
use Rattle.ir_instructions.specs.Punctuation as marks

-- ---- flags

-- flags are read behind those before
abbrev AddsRead : Flags → Flags → List Placed → Flags → List Placed → Type 0
AddsRead taken before tokens after rest = (written : List Flag) × AddsFlags taken before written after × Each (λ flag. Is (Word (flag_keyword flag))) written tokens rest

add_flag-is : (taken : Flags) (before : Flags) (line : ℕ) (word : List ℕ) (found : Option Flag) (rest : List Placed) (x : Flags × List Placed) (after : Flags) (behind : List Placed) → flag_in taken word ≡ found → add_flag before line found rest ≡ Ok x → AddsRead taken x.0 x.1 after behind → AddsRead taken before ((line, Word word) ∷ rest) after behind
add_flag-is taken before line word (Some flag) rest x after behind f e = added (has_flag before flag) refl e
  where
    added : (b : Bool) → has_flag before flag ≡ b → cond b (Err (fault line Syntax)) (Ok (with_flag before flag, rest)) ≡ Ok x → AddsRead taken x.0 x.1 after behind → AddsRead taken before ((line, Word word) ∷ rest) after behind
    added true h e = absurd cc
    added false h e =
        let is = flag_in-is taken word flag f in
        read_as (λ y. AddsRead taken y.0 y.1 after behind → AddsRead taken before ((line, Word word) ∷ rest) after behind) (with_flag before flag, rest) x e
        (λ (written, adds, each). (flag ∷ written, (is.1, h, adds), (rest, (line, ap (λ (w : List ℕ). (line, Word w) ∷ rest) is.0), each)))
add_flag-is taken before line word None rest x after behind f e = absurd cc

flag_at-is : (taken : Flags) (before : Flags) (tokens : List Placed) (x : Flags × List Placed) (after : Flags) (rest : List Placed) → is_flag taken tokens ≡ true → flag_at taken before tokens ≡ Ok x → AddsRead taken x.0 x.1 after rest → AddsRead taken before tokens after rest
unfolding flag_at
flag_at-is taken before ((line, Word word) ∷ others) x after rest next e = add_flag-is taken before line word (flag_in taken word) others x after rest refl e
flag_at-is taken before tokens x after rest next e = absurd cc

flags_at-is : (taken : Flags) → Reads (flags_at taken) (SpellsFlags taken)
unfolding flags_at
flags_at-is taken tokens x e =
    let r = repeat-is (is_flag taken) (flag_at taken) (AddsRead taken) (λ a ts. ([], refl, refl)) (flag_at-is taken) (suc (length tokens)) no_flags tokens x e in
    r.0

-- ---- instructions

-- an operation that is read behind its first word is spelled with that word
abbrev ReadsOp : Operation → ℕ → List Placed → RawOp × List Placed → Type 0
ReadsOp operation line tokens x = SpellsOp x.0 ((line, Word (operation_word operation)) ∷ tokens) x.1

binary_at-is : (op : Opcode) (line : ℕ) (tokens : List Placed) (x : RawOp × List Placed) → is_intrinsic op ≡ false → binary_at op tokens ≡ Ok x → ReadsOp (operations.Binary op) line tokens x
unfolding binary_at
binary_at-is op line tokens x own e =
    let a = bind_ok (flags_at (flags_of op) tokens) _ _ e in
    let b = bind_ok (type_at a.0.1) _ _ a.2 in
    let c = bind_ok (operand_at b.0.0 b.0.1) _ _ b.2 in
    let d = bind_ok (mark_at marks.comma c.0.1) _ _ c.2 in
    let f = bind_ok (operand_at b.0.0 d.0.1) _ _ d.2 in
    read_as (ReadsOp (operations.Binary op) line tokens) (Binary op a.0.0 b.0.0 c.0.0 f.0.0, f.0.1) x f.2
    (tokens, (own, (line, refl)), (a.0.1, flags_at-is (flags_of op) tokens a.0 a.1, (b.0.1, type_at-is a.0.1 b.0 b.1, (c.0.1, operand_at-is b.0.0 b.0.1 c.0 c.1, (d.0.1, mark_at-is marks.comma c.0.1 d.0 d.1, operand_at-is b.0.0 d.0.1 f.0 f.1)))))

pred_at-is : Reads pred_at (λ pred. Is (Word (predicate_keyword pred)))
unfolding pred_at
pred_at-is ((line, Word word) ∷ rest) x e =
    let named = not_left_out line word (pred_in word) rest x e in
    (line, same_front line word (predicate_keyword x.0) rest x.1 (pred_in-is word x.0 named.0) named.1)
pred_at-is tokens x e = absurd cc

-- the flags that are read for an `icmp` are `samesign` or none
icmp_flags-are : (tokens : List Placed) (x : Flags × List Placed) → flags_at flags_of_icmp tokens ≡ Ok x → SpellsFlags flags_of_icmp (icmp_flags x.0.samesign) tokens x.1
icmp_flags-are tokens x e =
    let spelled = flags_at-is flags_of_icmp tokens x e in
    subst (λ (flags : Flags). SpellsFlags flags_of_icmp flags tokens x.1) (flags_are_icmp x.0 (taken_flags flags_of_icmp x.0 tokens x.1 spelled)) spelled

compare_at-is : (line : ℕ) (tokens : List Placed) (x : RawOp × List Placed) → compare_at tokens ≡ Ok x → ReadsOp operations.Compare line tokens x
unfolding compare_at
compare_at-is line tokens x e =
    let fs = bind_ok (flags_at flags_of_icmp tokens) _ _ e in
    let a = bind_ok (pred_at fs.0.1) _ _ fs.2 in
    let b = bind_ok (type_at a.0.1) _ _ a.2 in
    let c = bind_ok (operand_at b.0.0 b.0.1) _ _ b.2 in
    let d = bind_ok (mark_at marks.comma c.0.1) _ _ c.2 in
    let f = bind_ok (operand_at b.0.0 d.0.1) _ _ d.2 in
    read_as (ReadsOp operations.Compare line tokens) (Compare a.0.0 fs.0.0.samesign b.0.0 c.0.0 f.0.0, f.0.1) x f.2
    (tokens, (line, refl), (fs.0.1, icmp_flags-are tokens fs.0 fs.1, (a.0.1, pred_at-is fs.0.1 a.0 a.1, (b.0.1, type_at-is a.0.1 b.0 b.1, (c.0.1, operand_at-is b.0.0 b.0.1 c.0 c.1, (d.0.1, mark_at-is marks.comma c.0.1 d.0 d.1, operand_at-is b.0.0 d.0.1 f.0 f.1))))))

select_at-is : (line : ℕ) (tokens : List Placed) (x : RawOp × List Placed) → select_at tokens ≡ Ok x → ReadsOp operations.Select line tokens x
unfolding select_at
select_at-is line tokens x e =
    let a = bind_ok (typed_at tokens) _ _ e in
    let b = bind_ok (mark_at marks.comma a.0.1) _ _ a.2 in
    let c = bind_ok (typed_at b.0.1) _ _ b.2 in
    let d = bind_ok (mark_at marks.comma c.0.1) _ _ c.2 in
    let f = bind_ok (typed_at d.0.1) _ _ d.2 in
    read_as (ReadsOp operations.Select line tokens) (Select a.0.0 c.0.0 f.0.0, f.0.1) x f.2
    (tokens, (line, refl), (a.0.1, typed_at-is tokens a.0 a.1, (b.0.1, mark_at-is marks.comma a.0.1 b.0 b.1, (c.0.1, typed_at-is b.0.1 c.0 c.1, (d.0.1, mark_at-is marks.comma c.0.1 d.0 d.1, typed_at-is d.0.1 f.0 f.1)))))

convert_at-is : (cast : Cast) (line : ℕ) (tokens : List Placed) (x : RawOp × List Placed) → convert_at cast tokens ≡ Ok x → ReadsOp (operations.Convert cast) line tokens x
unfolding convert_at
convert_at-is cast line tokens x e =
    let fs = bind_ok (flags_at (flags_of_cast cast) tokens) _ _ e in
    let a = bind_ok (typed_at fs.0.1) _ _ fs.2 in
    let b = bind_ok (keyword_at (codes "to") a.0.1) _ _ a.2 in
    let c = bind_ok (type_at b.0.1) _ _ b.2 in
    let typed = typed_at-is fs.0.1 a.0 a.1 in
    read_as (ReadsOp (operations.Convert cast) line tokens) (Convert cast fs.0.0 a.0.0.width a.0.0.operand c.0.0, c.0.1) x c.2
    (tokens, (line, refl), (fs.0.1, flags_at-is (flags_of_cast cast) tokens fs.0 fs.1, (typed.0, typed.1, (a.0.1, typed.2, (b.0.1, keyword_at-is (codes "to") a.0.1 b.0 b.1, type_at-is b.0.1 c.0 c.1)))))

freeze_at-is : (line : ℕ) (tokens : List Placed) (x : RawOp × List Placed) → freeze_at tokens ≡ Ok x → ReadsOp operations.Freeze line tokens x
unfolding freeze_at
freeze_at-is line tokens x e =
    let a = bind_ok (typed_at tokens) _ _ e in
    read_as (ReadsOp operations.Freeze line tokens) (Freeze a.0.0.width a.0.0.operand, a.0.1) x a.2 (tokens, (line, refl), typed_at-is tokens a.0 a.1)

incoming_at-is : (width : ℕ) → Reads (incoming_at width) (SpellsIncoming width)
unfolding incoming_at
incoming_at-is width tokens x e =
    let a = bind_ok (mark_at marks.open_bracket tokens) _ _ e in
    let b = bind_ok (operand_at width a.0.1) _ _ a.2 in
    let c = bind_ok (mark_at marks.comma b.0.1) _ _ b.2 in
    let d = bind_ok (register_at c.0.1) _ _ c.2 in
    let f = bind_ok (mark_at marks.close_bracket d.0.1) _ _ d.2 in
    read_as (λ y. SpellsIncoming width y.0 tokens y.1) (record { value = b.0.0; block = d.0.0 }, f.0.1) x f.2
    (a.0.1, mark_at-is marks.open_bracket tokens a.0 a.1, (b.0.1, operand_at-is width a.0.1 b.0 b.1, (c.0.1, mark_at-is marks.comma b.0.1 c.0 c.1, (d.0.1, register_at-is c.0.1 d.0 d.1, mark_at-is marks.close_bracket d.0.1 f.0 f.1))))

pub further_incoming_at-is : (width : ℕ) → Reads (further_incoming_at width) (λ i. Comma ⨾ SpellsIncoming width i)
unfolding further_incoming_at
further_incoming_at-is width tokens x e =
    let a = bind_ok (mark_at marks.comma tokens) _ _ e in
    (a.0.1, mark_at-is marks.comma tokens a.0 a.1, incoming_at-is width a.0.1 x a.2)

-- the first item, and further ones behind a `,` each
pub separated : {A : Type 0} (P : A → Part) (first : A) (tokens middle : List Placed) (all : List A) (rest : List Placed) → P first tokens middle → Adds (λ y. Comma ⨾ P y) (first ∷ []) middle all rest → Separated P all tokens rest
separated P first tokens middle all rest one (others, same, each) = subst (λ xs. Separated P xs tokens rest) (sym same) (middle, one, each)

phi_at-is : (line : ℕ) (tokens : List Placed) (x : RawOp × List Placed) → phi_at tokens ≡ Ok x → ReadsOp operations.Phi line tokens x
unfolding phi_at
phi_at-is line tokens x e =
    let a = bind_ok (type_at tokens) _ _ e in
    let b = bind_ok (incoming_at a.0.0 a.0.1) _ _ a.2 in
    let c = bind_ok (incomings_at a.0.0 (b.0.0 ∷ []) b.0.1) _ _ b.2 in
    let each = each-is begins_incoming (further_incoming_at a.0.0) (λ i. Comma ⨾ SpellsIncoming a.0.0 i) (λ ts y next f. further_incoming_at-is a.0.0 ts y f) (b.0.0 ∷ []) b.0.1 c.0 c.1 in
    read_as (ReadsOp operations.Phi line tokens) (Phi a.0.0 c.0.0, c.0.1) x c.2
    (tokens, (line, refl), (a.0.1, type_at-is tokens a.0 a.1, separated (SpellsIncoming a.0.0) b.0.0 a.0.1 b.0.1 c.0.0 c.0.1 (incoming_at-is a.0.0 a.0.1 b.0 b.1) each.0))

operation_at-is : (operation : Operation) (line : ℕ) (tokens : List Placed) (x : RawOp × List Placed) → ((op : Opcode) → operation ≡ operations.Binary op → is_intrinsic op ≡ false)
    → operation_at line operation tokens ≡ Ok x → ReadsOp operation line tokens x
operation_at-is (operations.Binary op) line tokens x own e = binary_at-is op line tokens x (own op refl) e
operation_at-is operations.Compare line tokens x own e = compare_at-is line tokens x e
operation_at-is operations.Select line tokens x own e = select_at-is line tokens x e
operation_at-is (operations.Convert cast) line tokens x own e = convert_at-is cast line tokens x e
operation_at-is operations.Freeze line tokens x own e = freeze_at-is line tokens x e
operation_at-is operations.Phi line tokens x own e = phi_at-is line tokens x e
operation_at-is operations.Call line tokens x own e = call_at-is line ((line, Word (codes "call")) ∷ tokens) tokens x (unmarked refl) e
operation_at-is operations.Tail line tokens x own e = marked_call_at-is ((line, Word (codes "tail")) ∷ tokens) tokens x (λ rest same. tail (line, ap (λ ts. (line, Word (codes "tail")) ∷ ts) (sym same))) e
operation_at-is operations.NoTail line tokens x own e = marked_call_at-is ((line, Word (codes "notail")) ∷ tokens) tokens x (λ rest same. notail (line, ap (λ ts. (line, Word (codes "notail")) ∷ ts) (sym same))) e

op_at-is : Reads op_at SpellsOp
unfolding op_at
op_at-is ((line, Word word) ∷ rest) x e =
    let a = bind_ok (or_left_out line word (operation_in word) rest) _ _ e in
    let named = not_left_out line word (operation_in word) rest a.0 a.1 in
    subst (λ ts. SpellsOp x.0 ts x.1) (sym (same_front line word (operation_word a.0.0) rest a.0.1 (operation_in-is word a.0.0 named.0) named.1)) (operation_at-is a.0.0 line a.0.1 x (λ op is. operation_is_no_intrinsic word op (named.0 ∙ ap (λ o. Some o) is)) a.2)
op_at-is tokens x e = absurd cc

pub inst_at-is : Reads inst_at SpellsInst
unfolding inst_at
inst_at-is tokens x e =
    let a = bind_ok (register_at tokens) _ _ e in
    let b = bind_ok (mark_at marks.equals a.0.1) _ _ a.2 in
    let c = bind_ok (op_at b.0.1) _ _ b.2 in
    let d = bind_ok (tail_at c.0.1) _ _ c.2 in
    read_as (λ y. SpellsInst y.0 tokens y.1) (record { result = a.0.0; op = c.0.0 }, d.0.1) x d.2
    (a.0.1, register_at-is tokens a.0 a.1, (b.0.1, mark_at-is marks.equals a.0.1 b.0 b.1, (c.0.1, op_at-is b.0.1 c.0 c.1, tail_at-is c.0.1 d.0 d.1)))

pub insts_at-is : Reads insts_at (Each SpellsInst)
unfolding insts_at
insts_at-is tokens x e =
    let r = each-is is_register inst_at SpellsInst (λ ts y next f. inst_at-is ts y f) [] tokens x e in all_read SpellsInst tokens x.0 x.1 r.0
