-- Soundness of the parser for calls: what it gives is spelled so.
use Rattle.ir_instructions.proofs.Common.{◌≡◌, ℕ, suc, Bool, true, false, cond, eqb, ◌&&◌, List, [], ◌∷◌, ◌++◌, length, Option, Some, None, Ok, refl, ap, sym, subst, ◌∙◌, append_assoc, codes, AllByRecursion, bytes_eq, eqb-true, Opcode, Unary, has_truth, Placed, KeptGroup, Word, Number, Function, Group, Quoted, Mark, identifier_of, Identifier, Named, Numbered, RawOp, constant_of, RawArguments, RawOperand, RawValue, TypedOperand, Intrinsic, Items, ItemsOn, StopsOn, SpellsCallee, SpellsMarker, SpellsArgument, SpellsTruth, SpellsTruthOf, SpellsArguments, intrinsic_of, is_on_line, begins_late_item, late_value_at, late_quoted_at, late_group_at, late_item_at, each_late_item_at, some_token_at, late_items_at, close_at, callee_named, or_no_callee, callee_at, call_at, call_word_at, marked_call_at, begins_inner_item, inner_items_at, argument_at, truth_of_word, truth_value_at, truth_argument_at, further_truth_at, truth_at, two_arguments_at, one_argument_at, arguments_at, SpellsItem, of_word, of_word_and_group, of_number, of_group, of_quoted, of_key_and_value, item_at, items_at, intrinsic_in, is_item_word, truth_in, SpellsCaseValue, IsOn, fault, ◌>>=◌, Syntax, LeftOut, SpellsOp, same_word}
use Rattle.ops.proofs.FlagSets.{both}
use Rattle.ir_tokens.specs.declared.raw.RawOp.TheVariants.{Call}
use Rattle.ir_tokens.specs.declared.raw.RawArguments.TheVariants as arguments
use Rattle.ir_instructions.specs.declared.intrinsic.Intrinsic.TheVariants as intrinsics
use Rattle.ir_instructions.specs.TokenReaders.{is_mark, mark_at, operand_at, type_at}
use Rattle.ir_instructions.specs.Punctuation as marks
use Rattle.ir_instructions.proofs.NameReadings.{intrinsic_in-is}
use Rattle.ir_instructions.proofs.ItemReadings.{item_at-is, items_at-is}
use Rattle.ir_instructions.proofs.Loops.{each-is, all_read, repeat-is}
use Rattle.ir_instructions.proofs.Readings.{mark_at-is, type_at-is, operand_at-is, number_value-is, number_case-is, truth_in-is}
use Rattle.ir_instructions.proofs.Steps.{Reads, bind_ok, read, read_as, tested}

-- ---- arguments

inner_item-is : (tokens : List Placed) (x : List ℕ × List Placed) → begins_inner_item tokens ≡ true → item_at tokens ≡ Ok x → SpellsItem x.0 tokens x.1
inner_item-is tokens x next e = let first = both _ _ next in item_at-is tokens x first.0 e

pub inner_items_at-is : Reads inner_items_at (λ items. Items)
unfolding inner_items_at
inner_items_at-is tokens x e =
    let r = each-is begins_inner_item item_at SpellsItem inner_item-is [] tokens x e in (x.0, all_read SpellsItem tokens x.0 x.1 r.0)

argument_at-is : Reads argument_at SpellsArgument
unfolding argument_at
argument_at-is tokens x e =
    let a = bind_ok (type_at tokens) _ _ e in
    let b = bind_ok (inner_items_at a.0.1) _ _ a.2 in
    let c = bind_ok (operand_at a.0.0 b.0.1) _ _ b.2 in
    read_as (λ y. SpellsArgument y.0 tokens y.1) (record { width = a.0.0; operand = c.0.0 }, c.0.1) x c.2
    (a.0.1, type_at-is tokens a.0 a.1, (b.0.1, inner_items_at-is a.0.1 b.0 b.1, operand_at-is a.0.0 b.0.1 c.0 c.1))

truth_word-is : (width line : ℕ) (word : List ℕ) (found : Option RawValue) (rest : List Placed) (x : RawOperand × List Placed) → truth_in word ≡ found → truth_of_word line word found rest ≡ Ok x → SpellsCaseValue width x.0 ((line, Word word) ∷ rest) x.1
truth_word-is width line word (Some value) rest x is e =
    let truth = truth_in-is word value is in
    read_as (λ y. SpellsCaseValue width y.0 ((line, Word word) ∷ rest) y.1) (record { line = line; value = value }, rest) x e (truth.0, (Word word, truth.1 width, refl))
truth_word-is width line word None rest x is e = absurd cc

pub truth_value_at-is : (width : ℕ) → Reads (truth_value_at width) (SpellsCaseValue width)
unfolding truth_value_at
truth_value_at-is width ((line, Number digits) ∷ rest) x e =
    (number_case-is width line digits (constant_of digits width) rest x e, number_value-is width line digits (constant_of digits width) rest x refl e)
truth_value_at-is width ((line, Word word) ∷ rest) x e = truth_word-is width line word (truth_in word) rest x refl e
truth_value_at-is width tokens x e = absurd cc

truth_argument_at-is : Reads truth_argument_at SpellsTruth
unfolding truth_argument_at
truth_argument_at-is tokens x e =
    let a = bind_ok (type_at tokens) _ _ e in
    let b = bind_ok (inner_items_at a.0.1) _ _ a.2 in
    let c = bind_ok (truth_value_at a.0.0 b.0.1) _ _ b.2 in
    let value = truth_value_at-is a.0.0 b.0.1 c.0 c.1 in
    read_as (λ y. SpellsTruth y.0 tokens y.1) (record { width = a.0.0; operand = c.0.0 }, c.0.1) x c.2
    (value.0, (a.0.1, type_at-is tokens a.0 a.1, (b.0.1, inner_items_at-is a.0.1 b.0 b.1, value.1)))

further_truth_at-is : (op : Unary) (tokens : List Placed) (x : Option TypedOperand × List Placed) → has_truth op ≡ true → further_truth_at tokens ≡ Ok x → SpellsTruthOf op x.0 tokens x.1
unfolding further_truth_at
further_truth_at-is op tokens x own e =
    let a = bind_ok (mark_at marks.comma tokens) _ _ e in
    let b = bind_ok (truth_argument_at a.0.1) _ _ a.2 in
    read_as (λ y. SpellsTruthOf op y.0 tokens y.1) (Some b.0.0, b.0.1) x b.2
    (own, (a.0.1, mark_at-is marks.comma tokens a.0 a.1, truth_argument_at-is a.0.1 b.0 b.1))

truth_at-is : (op : Unary) → Reads (truth_at op) (SpellsTruthOf op)
unfolding truth_at
truth_at-is op tokens x e = asked (has_truth op) refl e
  where
    asked : (b : Bool) → has_truth op ≡ b → cond b (further_truth_at tokens) (Ok (None, tokens)) ≡ Ok x → SpellsTruthOf op x.0 tokens x.1
    asked true own e = further_truth_at-is op tokens x own e
    asked false own e = read_as (λ y. SpellsTruthOf op y.0 tokens y.1) (None, tokens) x e (own, refl)

two_arguments_at-is : (op : Opcode) → Reads (two_arguments_at op) SpellsArguments
unfolding two_arguments_at
two_arguments_at-is op tokens x e =
    let a = bind_ok (argument_at tokens) _ _ e in
    let b = bind_ok (mark_at marks.comma a.0.1) _ _ a.2 in
    let c = bind_ok (argument_at b.0.1) _ _ b.2 in
    read_as (λ y. SpellsArguments y.0 tokens y.1) (arguments.Binary op a.0.0 c.0.0, c.0.1) x c.2
    (a.0.1, argument_at-is tokens a.0 a.1, (b.0.1, mark_at-is marks.comma a.0.1 b.0 b.1, argument_at-is b.0.1 c.0 c.1))

one_argument_at-is : (op : Unary) → Reads (one_argument_at op) SpellsArguments
unfolding one_argument_at
one_argument_at-is op tokens x e =
    let a = bind_ok (argument_at tokens) _ _ e in
    let b = bind_ok (truth_at op a.0.1) _ _ a.2 in
    read_as (λ y. SpellsArguments y.0 tokens y.1) (arguments.Unary op a.0.0 b.0.0, b.0.1) x b.2
    (a.0.1, argument_at-is tokens a.0 a.1, truth_at-is op a.0.1 b.0 b.1)

pub arguments_at-is : (what : Intrinsic) → Reads (arguments_at what) SpellsArguments
arguments_at-is (intrinsics.Binary op) = two_arguments_at-is op
arguments_at-is (intrinsics.Unary op) = one_argument_at-is op

-- ---- items behind a call

-- an item with all its tokens on the line
abbrev OneOn : ℕ → List Placed → List Placed → Type 0
OneOn line tokens rest =
    (item : List ℕ) × (taken : List Placed) × SpellsItem item tokens rest × (tokens ≡ taken ++ rest) × AllByRecursion (λ (t : Placed). t.0 ≡ line) taken

group-is : (line at : ℕ) (word : List ℕ) (tokens : List Placed) (x : Unit {0} × List Placed) → at ≡ line → is_item_word word ≡ true → late_group_at line tokens ≡ Ok x → OneOn line ((at, Word word) ∷ tokens) x.1
unfolding late_group_at
group-is line at word ((next, KeptGroup group) ∷ rest) x on item e = asked (eqb next line) refl e
  where
    asked : (b : Bool) → eqb next line ≡ b → cond b (read (tt, rest)) (read (tt, (next, KeptGroup group) ∷ rest)) ≡ Ok x → OneOn line ((at, Word word) ∷ (next, KeptGroup group) ∷ rest) x.1
    asked true same e =
        read_as (λ (y : Unit {0} × List Placed). OneOn line ((at, Word word) ∷ (next, KeptGroup group) ∷ rest) y.1) (tt, rest) x e
        (word ++ group, (at, Word word) ∷ (next, KeptGroup group) ∷ [], of_word_and_group word group item refl ((next, KeptGroup group) ∷ rest, (at, refl), (next, refl)), refl, (on, (eqb-true next line same, tt)))
    asked false same e =
        read_as (λ (y : Unit {0} × List Placed). OneOn line ((at, Word word) ∷ (next, KeptGroup group) ∷ rest) y.1) (tt, (next, KeptGroup group) ∷ rest) x e
        (word, (at, Word word) ∷ [], of_word item (at, refl), refl, (on, tt))
group-is line at word tokens x on item e =
    read_as (λ (y : Unit {0} × List Placed). OneOn line ((at, Word word) ∷ tokens) y.1) (tt, tokens) x e (word, (at, Word word) ∷ [], of_word item (at, refl), refl, (on, tt))

value-is : (line : ℕ) (tokens : List Placed) (x : Unit {0} × List Placed) → late_value_at line tokens ≡ Ok x → (value : List ℕ) × (tokens ≡ (line, Quoted value) ∷ x.1)
unfolding late_value_at
value-is line ((at, Quoted value) ∷ rest) x e =
    let t = tested (eqb at line) (tt, rest) x (fault at Syntax) e in
    (value, ap (λ (n : ℕ). (n, Quoted value) ∷ rest) (eqb-true at line t.0) ∙ ap (λ (y : Unit {0} × List Placed). (line, Quoted value) ∷ y.1) t.1)
value-is line tokens x e = absurd cc

-- the first token, which is on the line
first_on : (line : ℕ) (tokens : List Placed) → is_on_line line tokens ≡ true → (token : Placed) × (rest : List Placed) × (tokens ≡ token ∷ rest) × (token.0 ≡ line)
first_on line [] on = absurd cc
first_on line (t ∷ rest) on = (t, rest, refl, eqb-true t.0 line on)

quoted-is : (line at : ℕ) (key : List ℕ) (tokens : List Placed) (x : Unit {0} × List Placed) → at ≡ line → late_quoted_at line tokens ≡ Ok x → OneOn line ((at, Quoted key) ∷ tokens) x.1
unfolding late_quoted_at
quoted-is line at key tokens x on e = asked (is_on_line line tokens && is_mark marks.equals tokens) refl e
  where
    asked : (b : Bool) → (is_on_line line tokens && is_mark marks.equals tokens) ≡ b → cond b ((mark_at marks.equals >>= λ _. late_value_at line) tokens) (Ok (tt, tokens)) ≡ Ok x → OneOn line ((at, Quoted key) ∷ tokens) x.1
    asked true next e =
        let here = both _ _ next in
        let a = bind_ok (mark_at marks.equals tokens) _ _ e in
        let (mark_line, mark_is) = mark_at-is marks.equals tokens a.0 a.1 in
        let (value, value_is) = value-is line a.0.1 x a.2 in
        let (token, rest, same, there) = first_on line tokens here.0 in
        let line_is : mark_line ≡ line = cc in (
          key ++ marks.equals ∷ value,
          (at, Quoted key) ∷ (mark_line, Mark marks.equals) ∷ (line, Quoted value) ∷ [],
          of_key_and_value key value refl (tokens, (at, refl), (a.0.1, (mark_line, mark_is), (line, value_is))),
          ap (λ ts. (at, Quoted key) ∷ ts) (mark_is ∙ ap (λ ts. (mark_line, Mark marks.equals) ∷ ts) value_is),
          (on, (line_is, (refl, tt))),
        )
    asked false next e = read_as (λ (y : Unit {0} × List Placed). OneOn line ((at, Quoted key) ∷ tokens) y.1) (tt, tokens) x e (key, (at, Quoted key) ∷ [], of_quoted (at, refl), refl, (on, tt))

pub late_item-is : (line : ℕ) (tokens : List Placed) (x : Unit {0} × List Placed) → begins_late_item line tokens ≡ true → late_item_at line tokens ≡ Ok x → OneOn line tokens x.1
unfolding late_item_at
late_item-is line ((at, Word word) ∷ rest) x next e = let h = both _ _ next in group-is line at word rest x (eqb-true at line h.0) h.1 e
late_item-is line ((at, Number digits) ∷ rest) x next e =
    let h = both _ _ next in
    read_as (λ (y : Unit {0} × List Placed). OneOn line ((at, Number digits) ∷ rest) y.1) (tt, rest) x e (digits, (at, Number digits) ∷ [], of_number (at, refl), refl, (eqb-true at line h.0, tt))
late_item-is line ((at, Group text) ∷ rest) x next e =
    let h = both _ _ next in
    read_as (λ (y : Unit {0} × List Placed). OneOn line ((at, Group text) ∷ rest) y.1) (tt, rest) x e (text, (at, Group text) ∷ [], of_group (at, refl), refl, (eqb-true at line h.0, tt))
late_item-is line ((at, Quoted key) ∷ rest) x next e = let h = both _ _ next in quoted-is line at key rest x (eqb-true at line h.0) e
late_item-is line tokens x next e = absurd cc

all_on : (line : ℕ) (a b : List Placed) → AllByRecursion (λ (t : Placed). t.0 ≡ line) a → AllByRecursion (λ (t : Placed). t.0 ≡ line) b → AllByRecursion (λ (t : Placed). t.0 ≡ line) (a ++ b)
all_on line [] b first second = second
all_on line (t ∷ a) b first second = (first.0, all_on line a b first.1 second)

one_more : (line : ℕ) (tokens middle rest : List Placed) → OneOn line tokens middle → ItemsOn line middle rest → ItemsOn line tokens rest
one_more line tokens middle rest (item, taken, spelled, same, on) (items, more, each, others, all) =
    (item ∷ items, taken ++ more, (middle, spelled, each), same ∙ ap (λ ts. taken ++ ts) others ∙ sym (append_assoc taken more rest), all_on line taken more on all)

each_late_item_at-is : (line : ℕ) (tokens : List Placed) (x : Unit {0} × List Placed) → each_late_item_at line tokens ≡ Ok x → ItemsOn line tokens x.1 × (begins_late_item line x.1 ≡ false)
each_late_item_at-is line tokens x e =
    repeat-is (begins_late_item line) (λ before. late_item_at line) (λ before ts after rest. ItemsOn line ts rest) (λ before ts. ([], [], refl, refl, tt))
    (λ before ts y after rest next f more. one_more line ts y.1 rest (late_item-is line ts y next f) more) (suc (length tokens)) tt tokens x e

stops : (line : ℕ) (tokens : List Placed) (x : Unit {0} × List Placed) → begins_late_item line tokens ≡ false → some_token_at tokens ≡ Ok x → (tokens ≡ x.1) × StopsOn line x.1
unfolding some_token_at
stops line [] x none e = absurd cc
stops line (t ∷ rest) x none e = read_as (λ (y : Unit {0} × List Placed). ((t ∷ rest) ≡ y.1) × StopsOn line y.1) (tt, t ∷ rest) x e (refl, none)

late_items_at-is : (line : ℕ) (tokens : List Placed) (x : Unit {0} × List Placed) → late_items_at line tokens ≡ Ok x → ItemsOn line tokens x.1 × StopsOn line x.1
unfolding late_items_at
late_items_at-is line tokens x e =
    let a = bind_ok (each_late_item_at line tokens) _ _ e in
    let items = each_late_item_at-is line tokens a.0 a.1 in
    let behind = stops line a.0.1 x items.1 a.2 in
    (subst (ItemsOn line tokens) behind.0 items.0, behind.1)

-- ---- calls

close_at-is : (tokens : List Placed) (x : ℕ × List Placed) → close_at tokens ≡ Ok x → IsOn x.0 (Mark marks.close_paren) tokens x.1
unfolding close_at
close_at-is ((line, Mark mark) ∷ rest) x e =
    let t = tested (eqb mark marks.close_paren) (line, rest) x (fault line Syntax) e in
    ap (λ (m : ℕ). (line, Mark m) ∷ rest) (eqb-true mark marks.close_paren t.0) ∙ ap (λ (y : ℕ × List Placed). (y.0, Mark marks.close_paren) ∷ y.1) t.1
close_at-is tokens x e = absurd cc

callee-is : (line at : ℕ) (written : List ℕ) (called : Identifier) (rest : List Placed) (x : (Intrinsic × ℕ) × List Placed) → identifier_of written ≡ called → or_no_callee line (callee_named called) rest ≡ Ok x
    → SpellsCallee x.0 ((at, Function written) ∷ rest) x.1
callee-is line at written (Named name) rest x is e = found (intrinsic_in name) refl e
  where
    found : (named : Option (Intrinsic × ℕ)) → intrinsic_in name ≡ named → or_no_callee line named rest ≡ Ok x → SpellsCallee x.0 ((at, Function written) ∷ rest) x.1
    found (Some named) is_named e =
        read_as (λ (y : (Intrinsic × ℕ) × List Placed). SpellsCallee y.0 ((at, Function written) ∷ rest) y.1) (named, rest) x e
        (written, name, is, intrinsic_in-is name named is_named, (at, refl))
    found None is_named e = absurd cc
callee-is line at written (Numbered n) rest x is e = absurd cc

callee_at-is : (line : ℕ) → Reads (callee_at line) SpellsCallee
unfolding callee_at
callee_at-is line ((at, Function written) ∷ rest) x e = callee-is line at written (identifier_of written) rest x refl e
callee_at-is line tokens x e = absurd cc

-- the arguments are read for this intrinsic
same_intrinsic : (what : Intrinsic) (tokens : List Placed) (x : RawArguments × List Placed) → arguments_at what tokens ≡ Ok x → intrinsic_of x.0 ≡ what
unfolding two_arguments_at one_argument_at
same_intrinsic (intrinsics.Binary op) tokens x e =
    let a = bind_ok (argument_at tokens) _ _ e in
    let b = bind_ok (mark_at marks.comma a.0.1) _ _ a.2 in
    let c = bind_ok (argument_at b.0.1) _ _ b.2 in
    read_as (λ (y : RawArguments × List Placed). intrinsic_of y.0 ≡ intrinsics.Binary op) (arguments.Binary op a.0.0 c.0.0, c.0.1) x c.2 refl
same_intrinsic (intrinsics.Unary op) tokens x e =
    let a = bind_ok (argument_at tokens) _ _ e in
    let b = bind_ok (truth_at op a.0.1) _ _ a.2 in
    read_as (λ (y : RawArguments × List Placed). intrinsic_of y.0 ≡ intrinsics.Unary op) (arguments.Unary op a.0.0 b.0.0, b.0.1) x b.2 refl

-- a call behind the word `call` on the line, and what stands before that word
pub call_at-is : (line : ℕ) (marked tokens : List Placed) (x : RawOp × List Placed) → SpellsMarker marked ((line, Word (codes "call")) ∷ tokens) → call_at line tokens ≡ Ok x → SpellsOp x.0 marked x.1
unfolding call_at
call_at-is line marked tokens x marker e =
    let a = bind_ok (items_at tokens) _ _ e in
    let b = bind_ok (type_at a.0.1) _ _ a.2 in
    let c = bind_ok (callee_at line b.0.1) _ _ b.2 in
    let d = bind_ok (mark_at marks.open_paren c.0.1) _ _ c.2 in
    let f = bind_ok (arguments_at c.0.0.0 d.0.1) _ _ d.2 in
    let g = bind_ok (close_at f.0.1) _ _ f.2 in
    let h = bind_ok (late_items_at g.0.0 g.0.1) _ _ g.2 in
    let late = late_items_at-is g.0.0 g.0.1 h.0 h.1 in
    let callee = subst (λ (what : Intrinsic). SpellsCallee (what, c.0.0.1) b.0.1 c.0.1) (sym (same_intrinsic c.0.0.0 d.0.1 f.0 f.1)) (callee_at-is line b.0.1 c.0 c.1) in
    read_as (λ (y : RawOp × List Placed). SpellsOp y.0 marked y.1) (Call (record { line = line; width = b.0.0; named = c.0.0.1; arguments = f.0.0 }), h.0.1) x h.2 (
      (line, Word (codes "call")) ∷ tokens,
      marker,
      (
        tokens,
        refl,
        (
          a.0.1,
          (a.0.0, items_at-is tokens a.0 a.1),
          (
            b.0.1,
            type_at-is a.0.1 b.0 b.1,
            (
              c.0.1,
              callee,
              (d.0.1, mark_at-is marks.open_paren c.0.1 d.0 d.1, (f.0.1, arguments_at-is c.0.0.0 d.0.1 f.0 f.1, (g.0.0, late.1, (g.0.1, close_at-is f.0.1 g.0 g.1, late.0)))),
            ),
          ),
        ),
      ),
    )

call_word-is : (tokens : List Placed) (x : ℕ × List Placed) → call_word_at tokens ≡ Ok x → tokens ≡ (x.0, Word (codes "call")) ∷ x.1
unfolding call_word_at
call_word-is ((line, Word word) ∷ rest) x e =
    let t = tested (bytes_eq word (codes "call")) (line, rest) x (fault line (LeftOut word)) e in
    ap (λ (w : List ℕ). (line, Word w) ∷ rest) (same_word word (codes "call") t.0) ∙ ap (λ (y : ℕ × List Placed). (y.0, Word (codes "call")) ∷ y.1) t.1
call_word-is tokens x e = absurd cc

-- a call behind `tail` or `notail`
pub marked_call_at-is : (marked tokens : List Placed) (x : RawOp × List Placed) → ((rest : List Placed) → rest ≡ tokens → SpellsMarker marked rest) → marked_call_at tokens ≡ Ok x → SpellsOp x.0 marked x.1
unfolding marked_call_at
marked_call_at-is marked tokens x marker e =
    let a = bind_ok (call_word_at tokens) _ _ e in
    call_at-is a.0.0 marked a.0.1 x (marker ((a.0.0, Word (codes "call")) ∷ a.0.1) (sym (call_word-is tokens a.0 a.1))) a.2
