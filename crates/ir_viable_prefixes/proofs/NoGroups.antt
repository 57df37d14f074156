-- Parsers that read no group of attributes on a line of its own.
use Rattle.ir_viable_prefixes.proofs.Common.{◌≡◌, ◌≢◌, ℕ, Bool, true, false, cond, List, [], ◌∷◌, ◌++◌, Ok, refl, sym, ap, subst, ◌∙◌, append_assoc, codes, AllByRecursion, Cast, Flags, flags_of, flags_of_cast, flags_of_icmp, pred_in, Token, Placed, Word, Number, Register, Group, Metadata, Mark, RawValue, Operation, begins_late_item, late_item_at, some_token_at, late_items_at, IsValueToken, ending_in, Reader, ◌>>=◌, done, or_left_out, repeat_at, another_at, each_at, late_item-is, repeat-is, mark_at-is, keyword_at-is, register_at-is, type_at-is, operand_at-is, case_value_at-is, attachment_at-is, bind_ok, read_as, not_left_out}
use Rattle.ops.specs.declared.opcode.Opcode.{Opcode}
use Rattle.ir_tokens.specs.declared.raw.RawValue.TheVariants as values
use Rattle.ir_instructions.specs.declared.word.Ending.{Ending}
use Rattle.ir_instructions.specs.declared.word.Ending.TheVariants as endings
use Rattle.ir_instructions.specs.declared.word.Operation.TheVariants as operations
use Rattle.ir_instructions.specs.InstructionReaders as parsing
use Rattle.ir_instructions.specs.Punctuation as marks
use Rattle.ir_viable_prefixes.proofs.FlagReaders.{AreOwn, flags_are}

-- ---- tokens among which no such group is

abbrev pub NoGroupAt : Placed → Type 0
NoGroupAt t = (text : List ℕ) → t ≡ (0, Group text) → ⊥

abbrev pub Free : List Placed → Type 0
Free [] = Unit {0}
Free (t ∷ tokens) = NoGroupAt t × Free tokens

pub not_free : (front : List Placed) (text : List ℕ) (more : List Placed) → Free (front ++ (0, Group text) ∷ more) → ⊥
not_free [] text more free = free.0 text refl
not_free (t ∷ front) text more free = not_free front text more free.1

free_both : (a b : List Placed) → Free a → Free b → Free (a ++ b)
free_both [] b one two = two
free_both (t ∷ a) b one two = (one.0, free_both a b one.1 two)

-- the rest stands behind tokens among which no such group is
abbrev pub Taken : List Placed → List Placed → Type 0
Taken tokens rest = (front : List Placed) × (tokens ≡ front ++ rest) × Free front

pub none_taken : (tokens rest : List Placed) → tokens ≡ rest → Taken tokens rest
none_taken tokens rest same = ([], same, tt)

abbrev pub is_a_group : Token → Bool
is_a_group (Group text) = true
is_a_group t = false

no_group : (l : ℕ) (t : Token) → is_a_group t ≡ false → NoGroupAt (l, t)
no_group l t none text same = let is : t ≡ Group text = ap (λ (p : Placed). p.1) same in let both : is_a_group (Group text) ≡ false = subst (λ (u : Token). is_a_group u ≡ false) is none in cc

pub one_taken : (l : ℕ) (t : Token) (tokens rest : List Placed) → tokens ≡ (l, t) ∷ rest → is_a_group t ≡ false → Taken tokens rest
one_taken l t tokens rest same none = ((l, t) ∷ [], same, (no_group l t none, tt))

taken_both : (tokens middle rest : List Placed) → Taken tokens middle → Taken middle rest → Taken tokens rest
taken_both tokens middle rest (a, one, free) (b, two, others) = (a ++ b, one ∙ ap (λ (ts : List Placed). a ++ ts) two ∙ sym (append_assoc a b rest), free_both a b free others)

-- ---- readers

abbrev pub Groupless : {A : Type 0} → Reader A → Type 0
Groupless {A} R = (tokens : List Placed) (x : A × List Placed) → R tokens ≡ Ok x → Taken tokens x.1

pub done_groupless : {A : Type 0} (x : A) → Groupless (done x)
done_groupless x tokens y is = read_as (λ z. Taken tokens z.1) (x, tokens) y is (none_taken tokens tokens refl)

pub both_groupless : {A B : Type 0} (R : Reader A) (S : A → Reader B) → Groupless R → ((x : A) → Groupless (S x)) → Groupless (R >>= S)
both_groupless R S r s tokens y is =
    let one = bind_ok (R tokens) S y is in
    taken_both tokens one.0.1 y.1 (r tokens one.0 one.1) (s one.0.0 one.0.1 y one.2)

made_groupless : {A B : Type 0} (R : Reader A) (f : A → B) → Groupless R → Groupless (R >>= λ x. done (f x))
made_groupless R f r = both_groupless R (λ x. done (f x)) r (λ x. done_groupless (f x))

either_groupless : {A : Type 0} (b : Bool) (R S : Reader A) → Groupless R → Groupless S → Groupless (λ tokens. cond b (R tokens) (S tokens))
either_groupless true R S r s = r
either_groupless false R S r s = s

loop_groupless : {A : Type 0} (is_next : List Placed → Bool) (step : A → Reader A) → ((a : A) (tokens : List Placed) (x : A × List Placed) → is_next tokens ≡ true → step a tokens ≡ Ok x → Taken tokens x.1) → (a : A) → Groupless (repeat_at is_next step a)
loop_groupless is_next step parts a tokens x is =
    (repeat-is is_next step (λ b ts c rest. Taken ts rest) (λ b ts. none_taken ts ts refl) (λ b ts y c rest next one more. taken_both ts y.1 rest (parts b ts y next one) more) _ a tokens x is).0

each_groupless : {A : Type 0} (is_next : List Placed → Bool) (part : Reader A) → Groupless part → (front : List A) → Groupless (each_at is_next part front)
each_groupless is_next part p front = loop_groupless is_next (another_at part) (λ a tokens x next one. made_groupless part (λ y. a ++ y ∷ []) p tokens x one) front

-- ---- marks, words, registers and values

pub mark_groupless : (wanted : ℕ) → Groupless (parsing.mark_at wanted)
mark_groupless wanted tokens x is = let (l, same) = mark_at-is wanted tokens x is in one_taken l (Mark wanted) tokens x.1 same refl

keyword_groupless : (wanted : List ℕ) → Groupless (parsing.keyword_at wanted)
keyword_groupless wanted tokens x is = let (l, same) = keyword_at-is wanted tokens x is in one_taken l (Word wanted) tokens x.1 same refl

pub register_groupless : Groupless parsing.register_at
register_groupless tokens x is = let (written, name, same) = register_at-is tokens x is in one_taken x.0.line (Register written) tokens x.1 same refl

pub type_groupless : Groupless parsing.type_at
type_groupless tokens x is = let (word, type, (l, same)) = type_at-is tokens x is in one_taken l (Word word) tokens x.1 same refl

pub value_is_no_group : (width : ℕ) (value : RawValue) (t : Token) (text : List ℕ) → IsValueToken width value t → t ≡ Group text → ⊥
value_is_no_group width (values.Register name) t text (written, same, is) other = let both : Register written ≡ Group text = sym is ∙ other in cc
value_is_no_group width (values.Number n) t text (digits, constant, is) other = let both : Number digits ≡ Group text = sym is ∙ other in cc
value_is_no_group width values.True t text is other = let both : Word (codes "true") ≡ Group text = sym is ∙ other in cc
value_is_no_group width values.False t text is other = let both : Word (codes "false") ≡ Group text = sym is ∙ other in cc
value_is_no_group width values.Undef t text is other = let both : Word (codes "undef") ≡ Group text = sym is ∙ other in cc
value_is_no_group width values.Poison t text is other = let both : Word (codes "poison") ≡ Group text = sym is ∙ other in cc

operand_groupless : (width : ℕ) → Groupless (parsing.operand_at width)
operand_groupless width tokens x is =
    let (t, value, same) = operand_at-is width tokens x is in
    ((x.0.line, t) ∷ [], same, (λ text other. value_is_no_group width x.0.value t text value (ap (λ (p : Placed). p.1) other), tt))

case_value_groupless : (width : ℕ) → Groupless (parsing.case_value_at width)
case_value_groupless width tokens x is =
    let (case, (t, value, same)) = case_value_at-is width tokens x is in
    ((x.0.line, t) ∷ [], same, (λ text other. value_is_no_group width x.0.value t text value (ap (λ (p : Placed). p.1) other), tt))

attachment_groupless : Groupless parsing.attachment_at
attachment_groupless tokens x is =
    let (name, number, plain, digits, (middle, (l, one), (k, two))) = attachment_at-is tokens x is in
    taken_both tokens middle x.1 (one_taken l (Metadata name) tokens middle one refl) (one_taken k (Metadata number) middle x.1 two refl)

pub attachments_groupless : Groupless parsing.attachments_at
unfolding parsing.attachments_at
attachments_groupless = loop_groupless parsing.is_metadata (λ before. parsing.attachment_at) (λ a tokens x next one. attachment_groupless tokens x one) tt

pub tail_groupless : Groupless parsing.tail_at
unfolding parsing.tail_at parsing.tail_attachment_at
tail_groupless =
    loop_groupless (parsing.is_mark marks.comma) (λ before. parsing.tail_attachment_at)
    (λ a tokens x next one. both_groupless (parsing.mark_at marks.comma) (λ u. parsing.attachment_at) (mark_groupless marks.comma) (λ u. attachment_groupless) tokens x one) tt

typed_groupless : Groupless parsing.typed_at
unfolding parsing.typed_at
typed_groupless = both_groupless parsing.type_at _ type_groupless (λ width. made_groupless (parsing.operand_at width) _ (operand_groupless width))

target_groupless : Groupless parsing.target_at
unfolding parsing.target_at
target_groupless = both_groupless (parsing.keyword_at (codes "label")) (λ u. parsing.register_at) (keyword_groupless (codes "label")) (λ u. register_groupless)

-- ---- operations

own_free : (set : Flags) (front : List Placed) → AreOwn set front → Free front
own_free set [] own = tt
own_free set (t ∷ front) own = (λ text same. no_flag text (subst (λ (u : Placed). parsing.is_flag set ((0, u.1) ∷ []) ≡ true) same own.0), own_free set front own.1)
  where
    no_flag : (text : List ℕ) → parsing.is_flag set ((0, Group text) ∷ []) ≡ true → ⊥
    no_flag text is = cc

flags_groupless : (set : Flags) → Groupless (parsing.flags_at set)
flags_groupless set tokens x is = let a = flags_are set tokens x is in (a.0.0, a.0.1, own_free set a.0.0 a.0.2)

-- `,` and another parser
comma_groupless : {B : Type 0} (S : Reader B) → Groupless S → Groupless (parsing.mark_at marks.comma >>= λ u. S)
comma_groupless S s = both_groupless (parsing.mark_at marks.comma) (λ u. S) (mark_groupless marks.comma) (λ u. s)

binary_groupless : (op : Opcode) → Groupless (parsing.binary_at op)
unfolding parsing.binary_at
binary_groupless op =
    both_groupless (parsing.flags_at (flags_of op)) _ (flags_groupless (flags_of op))
    (λ flags. both_groupless parsing.type_at _ type_groupless (λ width. both_groupless (parsing.operand_at width) _ (operand_groupless width) (λ left. comma_groupless _ (made_groupless (parsing.operand_at width) _ (operand_groupless width)))))

pred_groupless : Groupless parsing.pred_at
unfolding parsing.pred_at
pred_groupless [] x is = absurd cc
pred_groupless ((line, Word w) ∷ rest) x is =
    let named = not_left_out line w (pred_in w) rest x is in one_taken line (Word w) ((line, Word w) ∷ rest) x.1 (ap (λ (ts : List Placed). (line, Word w) ∷ ts) named.1) refl
pred_groupless ((line, t) ∷ rest) x is = absurd cc

compare_groupless : Groupless parsing.compare_at
unfolding parsing.compare_at
compare_groupless =
    both_groupless (parsing.flags_at flags_of_icmp) _ (flags_groupless flags_of_icmp)
    (λ flags. both_groupless parsing.pred_at _ pred_groupless
    (λ pred. both_groupless parsing.type_at _ type_groupless (λ width. both_groupless (parsing.operand_at width) _ (operand_groupless width) (λ left. comma_groupless _ (made_groupless (parsing.operand_at width) _ (operand_groupless width))))))

select_groupless : Groupless parsing.select_at
unfolding parsing.select_at
select_groupless = both_groupless parsing.typed_at _ typed_groupless (λ condition. comma_groupless _ (both_groupless parsing.typed_at _ typed_groupless (λ if_true. comma_groupless _ (made_groupless parsing.typed_at _ typed_groupless))))

convert_groupless : (cast : Cast) → Groupless (parsing.convert_at cast)
unfolding parsing.convert_at
convert_groupless cast =
    both_groupless (parsing.flags_at (flags_of_cast cast)) _ (flags_groupless (flags_of_cast cast))
    (λ flags. both_groupless parsing.typed_at _ typed_groupless (λ from. both_groupless (parsing.keyword_at (codes "to")) _ (keyword_groupless (codes "to")) (λ u. made_groupless parsing.type_at _ type_groupless)))

freeze_groupless : Groupless parsing.freeze_at
unfolding parsing.freeze_at
freeze_groupless = made_groupless parsing.typed_at _ typed_groupless

incoming_groupless : (width : ℕ) → Groupless (parsing.incoming_at width)
unfolding parsing.incoming_at
incoming_groupless width =
    both_groupless (parsing.mark_at marks.open_bracket) _ (mark_groupless marks.open_bracket)
    (λ u. both_groupless (parsing.operand_at width) _ (operand_groupless width) (λ value. comma_groupless _ (both_groupless parsing.register_at _ register_groupless (λ block. made_groupless (parsing.mark_at marks.close_bracket) _ (mark_groupless marks.close_bracket)))))

phi_groupless : Groupless parsing.phi_at
unfolding parsing.phi_at parsing.further_incoming_at
phi_groupless =
    both_groupless parsing.type_at _ type_groupless
    (λ width. both_groupless (parsing.incoming_at width) _ (incoming_groupless width)
    (λ first. made_groupless (parsing.incomings_at width (first ∷ [])) _ (each_groupless parsing.begins_incoming (parsing.further_incoming_at width) (comma_groupless (parsing.incoming_at width) (incoming_groupless width)) (first ∷ []))))

-- the operation is no call
abbrev pub Plain : Operation → Type 0
Plain operations.Call = ⊥
Plain operations.Tail = ⊥
Plain operations.NoTail = ⊥
Plain operation = Unit {0}

pub operation_groupless : (line : ℕ) (operation : Operation) → Plain operation → Groupless (parsing.operation_at line operation)
operation_groupless line (operations.Binary op) plain = binary_groupless op
operation_groupless line operations.Compare plain = compare_groupless
operation_groupless line operations.Select plain = select_groupless
operation_groupless line (operations.Convert cast) plain = convert_groupless cast
operation_groupless line operations.Freeze plain = freeze_groupless
operation_groupless line operations.Phi plain = phi_groupless
operation_groupless line operations.Call plain = absurd plain
operation_groupless line operations.Tail plain = absurd plain
operation_groupless line operations.NoTail plain = absurd plain

-- ---- terminators

conditional_groupless : Groupless parsing.conditional_at
unfolding parsing.conditional_at
conditional_groupless = both_groupless parsing.typed_at _ typed_groupless (λ typed. comma_groupless _ (both_groupless parsing.target_at _ target_groupless (λ if_true. comma_groupless _ (made_groupless parsing.target_at _ target_groupless))))

case_groupless : Groupless parsing.case_at
unfolding parsing.case_at
case_groupless = both_groupless parsing.type_at _ type_groupless (λ width. both_groupless (parsing.case_value_at width) _ (case_value_groupless width) (λ value. comma_groupless _ (made_groupless parsing.target_at _ target_groupless)))

cases_groupless : Groupless parsing.cases_at
unfolding parsing.cases_at
cases_groupless =
    both_groupless (parsing.mark_at marks.open_bracket) _ (mark_groupless marks.open_bracket)
    (λ u. both_groupless (each_at parsing.begins_case parsing.case_at []) _ (each_groupless parsing.begins_case parsing.case_at case_groupless []) (λ cases. made_groupless (parsing.mark_at marks.close_bracket) _ (mark_groupless marks.close_bracket)))

switch_groupless : Groupless parsing.switch_at
unfolding parsing.switch_at
switch_groupless = both_groupless parsing.typed_at _ typed_groupless (λ typed. comma_groupless _ (both_groupless parsing.target_at _ target_groupless (λ default. made_groupless parsing.cases_at _ cases_groupless)))

ending_groupless : (ending : Ending) → Groupless (parsing.ending_at ending)
unfolding parsing.return_at parsing.branch_at parsing.jump_at
ending_groupless endings.Return = made_groupless parsing.typed_at _ typed_groupless
ending_groupless endings.Unreachable = done_groupless _
ending_groupless endings.Branch = λ tokens. either_groupless (parsing.is_keyword (codes "label") tokens) parsing.jump_at parsing.conditional_at (made_groupless parsing.target_at _ target_groupless) conditional_groupless tokens
ending_groupless endings.Switch = switch_groupless

pub terminator_groupless : Groupless parsing.terminator_at
unfolding parsing.terminator_at
terminator_groupless [] x is = absurd cc
terminator_groupless ((line, Word w) ∷ rest) x is =
    taken_both ((line, Word w) ∷ rest) rest x.1 (one_taken line (Word w) ((line, Word w) ∷ rest) rest refl refl)
    (both_groupless (or_left_out line w (ending_in w) >>= parsing.ending_at) _
    (both_groupless (or_left_out line w (ending_in w)) parsing.ending_at (λ tokens y one. let named = not_left_out line w (ending_in w) tokens y one in none_taken tokens y.1 named.1) ending_groupless) (λ end. done_groupless (line, end)) rest x is)
terminator_groupless ((line, t) ∷ rest) x is = absurd cc

-- ---- items on a line

on_free : (line : ℕ) → line ≢ 0 → (tokens : List Placed) → AllByRecursion (λ (t : Placed). t.0 ≡ line) tokens → Free tokens
on_free line some [] all = tt
on_free line some (t ∷ tokens) all = (λ text same. some (sym all.0 ∙ ap (λ (p : Placed). p.0) same), on_free line some tokens all.1)

pub late_groupless : (line : ℕ) → line ≢ 0 → Groupless (late_items_at line)
unfolding late_items_at some_token_at
late_groupless line some =
    both_groupless (repeat_at (begins_late_item line) (λ before. late_item_at line) tt) (λ u. some_token_at)
    (loop_groupless (begins_late_item line) (λ before. late_item_at line) (λ a tokens x next one. let (item, taken, spelled, same, all) = late_item-is line tokens x next one in (taken, same, on_free line some taken all)) tt) (λ u. some_one)
  where
    some_one : Groupless some_token_at
    some_one [] x is = absurd cc
    some_one (t ∷ rest) x is = read_as (λ y. Taken (t ∷ rest) y.1) (tt, t ∷ rest) x is (none_taken (t ∷ rest) (t ∷ rest) refl)
