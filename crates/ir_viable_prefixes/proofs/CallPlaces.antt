-- Where instructions read items, they do so in calls.
use Rattle.ir_viable_prefixes.proofs.Common.{◌≡◌, ◌≢◌, ◌≤◌, ℕ, suc, Bool, true, false, cond, eqb, List, [], ◌∷◌, ◌++◌, length, Option, Some, None, Ok, Err, refl, sym, ap, subst, ◌∙◌, inr, append_assoc, arith, length-append, eqb-true, append-nil, append_cancel_right, codes, Unary, has_truth, identifier_of, Token, Placed, KeptGroup, Word, Number, Function, Group, Quoted, Mark, RawIdentifier, RawInst, RawOp, RawOperand, TypedOperand, Syntax, LeftOut, Fault, IrFaultKind, Intrinsic, Operation, begins_inner_item, ends_argument, inner_items_at, argument_at, truth_value_at, truth_argument_at, further_truth_at, truth_at, two_arguments_at, one_argument_at, arguments_at, callee_named, or_no_callee, callee_at, late_items_at, close_at, call_word_at, IsValueToken, SpellsOperand, SpellsItem, MayFollowItem, of_word_and_group, of_number, of_group, of_quoted, of_key_and_value, begins_item, item_at, items_at, no_word_at, last_items_at, is_item_word, operation_in, operation_word, type_in, Part, Each, Read, Reader, fault, unexpected, goes_on, ◌>>=◌, done, each_at, inner_items_at-is, truth_value_at-is, items_at-is, last_items_at-is, MayFollowItems, item_at-of, items_at-of, last_items_at-of, item_may_follow, each-done, type_at-is, operand_at-is, type_at-of, bind_ok, read_as, inst-takes, EndsArgument, comma, close}
use Rattle.scan.specs.Bytes as bytes
use Rattle.ir_instructions.specs.declared.intrinsic.Intrinsic.TheVariants as intrinsics
use Rattle.ir_instructions.specs.declared.place.Expected.TheVariants as places
use Rattle.ir_instructions.specs.declared.word.Operation.TheVariants as operations
use Rattle.ir_instructions.specs.ItemGrammar.{of_word}
use Rattle.ir_instructions.specs.InstructionReaders as parsing
use Rattle.ir_instructions.specs.Places.{misfit}
use Rattle.ir_instructions.specs.Punctuation as marks
use Rattle.ir_instructions.specs.TokenReaders.{mark_at, operand_at, type_at}
use Rattle.ir_viable_prefixes.proofs.Arguments.{operand_reads, truth_reads, operand_in-good, truth_in-good, typed, argument_from, truth_argument_from, argument-good, truth_argument-good, truth-good, arguments-good}
use Rattle.ir_viable_prefixes.proofs.Calls.{Typed, typed-good, Arguments, Called, callee_sample, callee_takes, called_sample, CalleeOr, call_word-good, call_word_read}
use Rattle.ir_viable_prefixes.proofs.Closed.{Closes, closes_behind, mark_closes}
use Rattle.ir_viable_prefixes.proofs.Endings.{Ending, Closing, closing-open}
use Rattle.ir_viable_prefixes.proofs.Instructions.{Behind, BehindWord, BehindWhy, behind_open, behind_sample, Opcode, equals_opcode-good, opcode_read, op-open, equals_ending, inst-open, register_is_no_comma, Step, Loop}
use Rattle.ir_viable_prefixes.proofs.ItemPlaces.{Faring, fares, good, good_open, Ready, RefusesWords, IsPlace, header, argument, place_second, the_group, Whole, Goes, Places, places_same, none_at_once, none_left, then_goes, later, closed, reads_first, places_then, Placing, placing_then, more_than_end, placing_done, last_is, goes_through, no_through, places_none, loop_places}
use Rattle.ir_viable_prefixes.proofs.Items.{FollowsItems, items-good, last_items-good, one_more}
use Rattle.ir_viable_prefixes.proofs.NoGroups.{Taken, is_a_group, Groupless, done_groupless, both_groupless, mark_groupless, register_groupless, type_groupless, value_is_no_group, tail_groupless, Plain, operation_groupless, late_groupless, one_taken}
use Rattle.ir_viable_prefixes.proofs.Outcomes.{Follow, Anything, Ended, Sample, sample_both, a_truth, Reasons, OutcomeIf, token_outcome, Good, done-good}
use Rattle.ir_viable_prefixes.proofs.Reasons.{a_type}
use Rattle.ir_viable_prefixes.proofs.Repeats.{Steps, steps_of, another}
use Rattle.ir_viable_prefixes.proofs.Statements.{NotComma, NotRegister, register_shut, register_open, register_records, register_next}
use Rattle.ir_viable_prefixes.proofs.TokenReaders.{mark-good, type-good, register-good, placed_operation, opcode_at}
use Rattle.ir_viable_prefixes.proofs.Values.{In, behind, here, ReadsValue}

-- ---- items that are spelled

each_both : {A : Type 0} (P : A → Part) (xs ys : List A) (tokens middle rest : List Placed) → Each P xs tokens middle → Each P ys middle rest → Each P (xs ++ ys) tokens rest
each_both P [] ys tokens middle rest same two = subst (λ (ts : List Placed). Each P ys ts rest) (sym same) two
each_both P (x ∷ xs) ys tokens middle rest (behind, one, more) two = (behind, one, each_both P xs ys behind middle rest more two)

-- the items before a group that is read as an item
group_in : (text : List ℕ) (items : List (List ℕ)) (front behind rest : List Placed) → Each SpellsItem items (front ++ the_group text ∷ behind) rest → length rest ≤ length behind
    → (before : List (List ℕ)) × ((tokens : List Placed) → Each SpellsItem before (front ++ tokens) tokens)
group_in text [] front behind rest same less = absurd (omega (arith, ap length same, length-append front (the_group text ∷ behind)))
group_in text (item ∷ items) [] behind rest each less = ([], λ ts. refl)
group_in text (item ∷ items) (v ∷ front) behind rest (middle, one, more) less = by (λ f same. group_in text items f behind rest (subst (λ (ts : List Placed). Each SpellsItem items ts rest) (sym same) more) less) one
  where
    Before : List Placed → Type 0
    Before f = (before : List (List ℕ)) × ((tokens : List Placed) → Each SpellsItem before (f ++ tokens) tokens)

    Again : Type 0
    Again = (f : List Placed) → f ++ the_group text ∷ behind ≡ middle → Before f

    no_group : (l : ℕ) (t : Token) → is_a_group t ≡ false → (l, t) ≡ the_group text → ⊥
    no_group l t none same = let is : t ≡ Group text = ap (λ (p : Placed). p.1) same in let both : is_a_group (Group text) ≡ false = subst (λ (u : Token). is_a_group u ≡ false) is none in cc

    alone : Again → (t : Placed) → v ≡ t → front ++ the_group text ∷ behind ≡ middle → ((others : List Placed) → SpellsItem item (t ∷ others) others) → Before (v ∷ front)
    alone again t head same is = let a = again front same in (item ∷ a.0, λ ts. (front ++ ts, subst (λ (u : Placed). SpellsItem item (u ∷ (front ++ ts)) (front ++ ts)) (sym head) (is (front ++ ts)), a.1 ts))

    two : Again → (f : List Placed) (t u : Placed) → v ≡ t → f ++ the_group text ∷ behind ≡ u ∷ middle → (u ≡ the_group text → ⊥) → ((others : List Placed) → SpellsItem item (t ∷ u ∷ others) others) → Before (v ∷ f)
    two again [] t u head same other is = let heads : the_group text ≡ u = cc in absurd (other (sym heads))
    two again (w ∷ f) t u head same other is =
        let next : w ≡ u = cc in
        let rest_is : f ++ the_group text ∷ behind ≡ middle = cc in
        let a = again f rest_is in
        (item ∷ a.0, λ ts. (f ++ ts, subst (λ (x : Placed). SpellsItem item (v ∷ x ∷ (f ++ ts)) (f ++ ts)) (sym next) (subst (λ (x : Placed). SpellsItem item (x ∷ u ∷ (f ++ ts)) (f ++ ts)) (sym head) (is (f ++ ts))), a.1 ts))

    three : Again → (f : List Placed) (t u s : Placed) → v ≡ t → f ++ the_group text ∷ behind ≡ u ∷ s ∷ middle → (u ≡ the_group text → ⊥) → (s ≡ the_group text → ⊥) → ((others : List Placed) → SpellsItem item (t ∷ u ∷ s ∷ others) others) → Before (v ∷ f)
    three again [] t u s head same other third is = let heads : the_group text ≡ u = cc in absurd (other (sym heads))
    three again (w ∷ []) t u s head same other third is = let heads : the_group text ≡ s = cc in absurd (third (sym heads))
    three again (w ∷ z ∷ f) t u s head same other third is =
        let next : w ≡ u = cc in
        let last : z ≡ s = cc in
        let rest_is : f ++ the_group text ∷ behind ≡ middle = cc in
        let a = again f rest_is in (
          item ∷ a.0,
          λ ts. (
            f ++ ts,
            subst (λ (x : Placed). SpellsItem item (v ∷ w ∷ x ∷ (f ++ ts)) (f ++ ts)) (sym last)
                (subst (λ (x : Placed). SpellsItem item (v ∷ x ∷ s ∷ (f ++ ts)) (f ++ ts)) (sym next) (subst (λ (x : Placed). SpellsItem item (x ∷ u ∷ s ∷ (f ++ ts)) (f ++ ts)) (sym head) (is (f ++ ts)))),
            a.1 ts,
          ),
        )

    by : Again → SpellsItem item (v ∷ (front ++ the_group text ∷ behind)) middle → Before (v ∷ front)
    by again (of_word is (l, same)) = alone again (l, Word item) (cc) (cc) (λ others. of_word is (l, refl))
    by again (of_word_and_group name group is same (next, (l, first), (k, second))) =
        let head : v ≡ (l, Word name) = cc in
        let rest_is : front ++ the_group text ∷ behind ≡ next = cc in
        two again front (l, Word name) (k, KeptGroup group) head (rest_is ∙ second) (no_group k (KeptGroup group) refl) (λ others. of_word_and_group name group is same ((k, KeptGroup group) ∷ others, (l, refl), (k, refl)))
    by again (of_number (l, same)) = alone again (l, Number item) (cc) (cc) (λ others. of_number (l, refl))
    by again (of_group (l, same)) = alone again (l, Group item) (cc) (cc) (λ others. of_group (l, refl))
    by again (of_quoted (l, same)) = alone again (l, Quoted item) (cc) (cc) (λ others. of_quoted (l, refl))
    by again (of_key_and_value key value same (next, (l, first), (last, (k, second), (m, third)))) =
        let head : v ≡ (l, Quoted key) = cc in
        let rest_is : front ++ the_group text ∷ behind ≡ next = cc in
        three again front (l, Quoted key) (k, Mark marks.equals) (m, Quoted value) head (rest_is ∙ second ∙ ap (λ (ts : List Placed). (k, Mark marks.equals) ∷ ts) third) (no_group k (Mark marks.equals) refl) (no_group m (Quoted value) refl)
        (λ others. of_key_and_value key value same ((k, Mark marks.equals) ∷ (m, Quoted value) ∷ others, (l, refl), ((m, Quoted value) ∷ others, (k, refl), (m, refl))))

-- a token that is an item by itself
abbrev pub item_of : Token → List ℕ
item_of (Word w) = w
item_of (Number digits) = digits
item_of (Group text) = text
item_of (Quoted text) = text
item_of t = []

pub token_item : (t : Placed) (rest : List Placed) → begins_item (t ∷ []) ≡ true → SpellsItem (item_of t.1) (t ∷ rest) rest
token_item (l, Word w) rest next = of_word next (l, refl)
token_item (l, Number digits) rest next = of_number (l, refl)
token_item (l, Group text) rest next = of_group (l, refl)
token_item (l, Quoted text) rest next = of_quoted (l, refl)
token_item (l, t) rest next = absurd cc

-- such a token behind items is one more item
one_behind : (before : List (List ℕ)) (front : List Placed) → ((tokens : List Placed) → Each SpellsItem before (front ++ tokens) tokens) → (t : Placed) (rest : List Placed) → begins_item (t ∷ []) ≡ true → Each SpellsItem (before ++ item_of t.1 ∷ []) (front ++ t ∷ rest) rest
one_behind before front each t rest next = each_both SpellsItem before (item_of t.1 ∷ []) (front ++ t ∷ rest) (t ∷ rest) rest (each (t ∷ rest)) (rest, token_item t rest next, refl)

end_no_item : {t : Token} → EndsArgument t → (l : ℕ) (more : List Placed) → begins_item ((l, t) ∷ more) ≡ false
end_no_item comma l more = refl
end_no_item close l more = refl

end_may : {t : Token} → EndsArgument t → (l : ℕ) (more : List Placed) → MayFollowItem ((l, t) ∷ more)
end_may comma l more = refl
end_may close l more = refl

pub truth_is_item : is_item_word (codes "true") ≡ true
unfolding is_item_word type_in
truth_is_item = refl

-- ---- items that are dropped

pub items_ready : (text : List ℕ) (front : List Placed) → Ended (Whole text front) → Goes text items_at front → Ready items_at front
items_ready text front e goes =
    let (x, more, rest, is) = goes_through text items_at front (good items-good (Whole text front) e) goes (Mark marks.open_paren) (refl, refl) in
    let b = group_in text x front (more ++ rest) rest (items_at-is (front ++ the_group text ∷ (more ++ rest)) (x, rest) is) (omega (arith, length-append more rest)) in
    λ t end next ends. (
      b.0 ++ item_of t.1 ∷ [],
      λ others. items_at-of (b.0 ++ item_of t.1 ∷ []) (front ++ t ∷ end ∷ others) (end ∷ others) (one_behind b.0 front b.1 t (end ∷ others) next) (end_no_item ends end.0 others) (end_may ends end.0 others),
    )

-- the last items of a header or of a parameter
last_before : (text : List ℕ) (front : List Placed) → Ended (Whole text front) → Goes text last_items_at front → (before : List (List ℕ)) × ((tokens : List Placed) → Each SpellsItem before (front ++ tokens) tokens)
last_before text front e goes =
    let (x, more, rest, is) = goes_through text last_items_at front (good last_items-good (Whole text front) e) goes (Mark marks.open_paren) ((refl, refl), refl) in
    group_in text x front (more ++ rest) rest (last_items_at-is (front ++ the_group text ∷ (more ++ rest)) (x, rest) is) (omega (arith, length-append more rest))

pub last_items_ready : (text : List ℕ) (front : List Placed) → Ended (Whole text front) → Goes text last_items_at front → Ready last_items_at front
last_items_ready text front e goes =
    let b = last_before text front e goes in
    λ t end next ends. (b.0 ++ item_of t.1 ∷ [], λ others. last_items_at-of (b.0 ++ item_of t.1 ∷ []) (front ++ t ∷ end ∷ others) (end ∷ others) (one_behind b.0 front b.1 t (end ∷ others) next) (may ends end.0 others))
  where
    may : {t : Token} → EndsArgument t → (l : ℕ) (more : List Placed) → MayFollowItems ((l, t) ∷ more)
    may comma l more = refl
    may close l more = refl

pub last_items_words : (text : List ℕ) (front : List Placed) → Ended (Whole text front) → Goes text last_items_at front → RefusesWords last_items_at front
unfolding last_items_at no_word_at
last_items_words text front e goes line w more none =
    let b = last_before text front e goes in
    (fault line (LeftOut w), rw (items_at-of b.0 (front ++ (line, Word w) ∷ more) ((line, Word w) ∷ more) (b.1 ((line, Word w) ∷ more)) none tt) refl)

-- items of a header, behind which the end of an argument is refused
pub header_then : {A B : Type 0} {E F G : Follow} {R : Reader A} {S : A → Reader B} (text : List ℕ) → Sample E R F → Faring R F
    → ((front : List Placed) → Ended (Whole text front) → Goes text R front → Ready R front) → ((x : A) (end : Placed) (more : List Placed) → EndsArgument end.1 → (e : Fault IrFaultKind) × (S x (end ∷ more) ≡ Err e))
    → ((x : A) → Placing text F (S x) G) → ((x : A) → Goes text (S x) [] → ⊥) → Placing text E (R >>= S) G
header_then {A} {B} {E} {F} {G} {R} {S} text sample outcome ready refused p none = record {
  sample = sample_both E F G R S sample (λ x. (p x).sample);
  places = λ front e goes.
      then_goes text R S front (outcome (Whole text front) e) goes
      (λ first. header (λ end more ends. let r = ready front e first (0, a_truth) end truth_is_item ends in let s = refused r.0 end more ends in (s.0, rw (r.1 more) s.1)))
      (λ x first f same is stopped ended second. subst (IsPlace (R >>= S) G) (sym same) (place_second G R S x first f (reads_first text R S (later none) front first f x same e is stopped second) ((p x).places f ended second)));
}

-- ---- types and marks

pub type_closes : Closes type_at
type_closes tokens x e is =
    let (word, type, (l, same)) = type_at-is tokens x is in
    ((l, Word word), [], same, λ others. type_at-of x.0 ((l, Word word) ∷ others) others (word, type, (l, refl)))

pub type_fares : Faring type_at Anything
type_fares = good (type-good {V = Unit {0}} {E = Anything} tt)

pub type_places : (text : List ℕ) → Places text type_at Anything
type_places text = places_none text type_fares type_groupless a_type tt

pub type_placing : {E : Follow} (text : List ℕ) → E a_type → Placing text E type_at Anything
type_placing {E} text e = record { sample = (type-good {V = Unit {0}} e).sample; places = type_places text }

-- items may stand before a type
pub type_follows : FollowsItems a_type
unfolding is_item_word type_in bytes.is_digit
type_follows = (refl, tt)

-- a type refuses the group
pub type_not_at_once : {B : Type 0} (text : List ℕ) (S : ℕ → Reader B) → Goes text (type_at >>= S) [] → ⊥
unfolding type_at unexpected
type_not_at_once text S = none_at_once text (type_at >>= S) (fault 0 (misfit places.Type (Group text))) (λ more. refl)

pub type_refuses_ends : (end : Placed) (more : List Placed) → EndsArgument end.1 → (e : Fault IrFaultKind) × (type_at (end ∷ more) ≡ Err e)
unfolding type_at unexpected
type_refuses_ends end more ends = by ends
  where
    by : {t : Token} → EndsArgument t → (e : Fault IrFaultKind) × (type_at ((end.0, t) ∷ more) ≡ Err e)
    by comma = (fault end.0 (misfit places.Type (Mark marks.comma)), refl)
    by close = (fault end.0 (misfit places.Type (Mark marks.close_paren)), refl)

pub mark_not_at_once : {B : Type 0} (text : List ℕ) (wanted : ℕ) (S : Unit {0} → Reader B) → Goes text (mark_at wanted >>= S) [] → ⊥
unfolding mark_at unexpected
mark_not_at_once text wanted S = none_at_once text (mark_at wanted >>= S) (fault 0 (misfit places.Fixed (Group text))) (λ more. refl)

-- a mark, and then another parser
pub mark_then : {B : Type 0} {E G : Follow} {S : Unit {0} → Reader B} (text : List ℕ) (wanted : ℕ) → E (Mark wanted) → ((u : Unit {0}) → Placing text Anything (S u) G) → Placing text E (mark_at wanted >>= S) G
mark_then {E = E} text wanted e p =
    let fares_so : Faring (mark_at wanted) Anything = good (mark-good {E = E} wanted e) in
    placing_then text (mark-good wanted e).sample fares_so (places_none text fares_so (mark_groupless wanted) a_type tt) p (closed (mark_closes wanted))

-- ---- arguments

item_ends_none : (item : List ℕ) (tokens rest : List Placed) → SpellsItem item tokens rest → ends_argument tokens ≡ false
item_ends_none item tokens rest (of_word is (line, one)) = rw one refl
item_ends_none item tokens rest (of_word_and_group name group is same (middle, (line, one), two)) = rw one refl
item_ends_none item tokens rest (of_number (line, one)) = rw one refl
item_ends_none item tokens rest (of_group (line, one)) = rw one refl
item_ends_none item tokens rest (of_quoted (line, one)) = rw one refl
item_ends_none item tokens rest (of_key_and_value key value same (middle, (line, one), two)) = rw one refl

items_end_none : (items : List (List ℕ)) (tokens rest : List Placed) → Each SpellsItem items tokens rest → ends_argument rest ≡ false → ends_argument tokens ≡ false
items_end_none [] tokens rest same going = rw same going
items_end_none (item ∷ items) tokens rest (middle, one, more) going = item_ends_none item tokens middle one

items_follow : (items : List (List ℕ)) (tokens rest : List Placed) → Each SpellsItem items tokens rest → MayFollowItem rest → MayFollowItem tokens
items_follow [] tokens rest same may = rw same may
items_follow (item ∷ items) tokens rest (middle, one, more) may = item_may_follow item tokens middle one

inner_is_next : (item : List ℕ) (tokens rest : List Placed) → SpellsItem item tokens rest → ends_argument rest ≡ false → begins_inner_item tokens ≡ true
inner_is_next item tokens rest (of_word is (line, one)) going = rw (one, is, going) refl
inner_is_next item tokens rest (of_word_and_group name group is same (middle, (line, one), (next, two))) going = rw (one, is, two) refl
inner_is_next item tokens rest (of_number (line, one)) going = rw (one, going) refl
inner_is_next item tokens rest (of_group (line, one)) going = rw (one, going) refl
inner_is_next item tokens rest (of_quoted (line, one)) going = rw (one, going) refl
inner_is_next item tokens rest (of_key_and_value key value same (middle, (line, one), (behind, (next, two), three))) going = rw (one, two) refl

-- items are read up to a token that is none
in_items : (Q : Reader RawOperand) (items before : List (List ℕ)) (tokens rest : List Placed) → Each SpellsItem items tokens rest → ends_argument rest ≡ false → MayFollowItem rest → In Q before tokens ≡ In Q (before ++ items) rest
in_items Q [] before tokens rest same going may = rw (same, append-nil before) refl
in_items Q (item ∷ items) before tokens rest (middle, one, more) going may =
    behind Q before tokens (item, middle) (inner_is_next item tokens middle one (items_end_none items middle rest more going)) (item_at-of item tokens middle one (items_follow items middle rest more may))
    ∙ in_items Q items (before ++ item ∷ []) middle rest more going may
    ∙ ap (λ (all : List (List ℕ)). In Q all rest) (append_assoc before (item ∷ []) items)

read_alone : {A : Type 0} (r : Read A) → r ≡ goes_on r (λ x. done x)
read_alone (Ok x) = refl
read_alone (Err e) = refl

in_places : (text : List ℕ) (Q : Reader RawOperand) (width : ℕ) → ReadsValue Q width → ((tokens : List Placed) (x : RawOperand × List Placed) → Q tokens ≡ Ok x → SpellsOperand width x.0 tokens x.1) → Good Anything (In Q []) EndsArgument → Places text (In Q []) EndsArgument
unfolding inner_items_at
in_places text Q width q spelled is_good front e goes =
    let (x, more, rest, is) = goes_through text (In Q []) front (good is_good (Whole text front) e) goes (Mark marks.comma) comma in
    let tokens : List Placed = front ++ the_group text ∷ (more ++ rest) in
    let one = bind_ok (each_at begins_inner_item item_at [] tokens) (λ before. Q) (x, rest) is in
    let items = inner_items_at-is tokens one.0 one.1 in
    let (t, value, same) = spelled one.0.1 (x, rest) one.2 in
    let b = group_in text items.0 front (more ++ rest) one.0.1 items.1 (short x t more rest one.0.1 same value (let m = one_more items.0 [] tokens one.0.1 items.1 in (m.0, m.1))) in
    argument Q width q (record {
      rest = λ y. done y;
      reads = λ others ts behind_items each none going may. items_read (b.0 ++ others) (front ++ ts) behind_items (each_both SpellsItem b.0 others (front ++ ts) ts behind_items (b.1 ts) each) none going may;
      ends = λ y. (y, [], λ ts n. (refl, n));
    })
  where
    items_read : (items : List (List ℕ)) (tokens rest : List Placed) → Each SpellsItem items tokens rest → begins_inner_item rest ≡ false → ends_argument rest ≡ false → MayFollowItem rest → In Q [] tokens ≡ goes_on (Q rest) (λ y. done y)
    items_read items tokens rest each none going may = in_items Q items [] tokens rest each going may ∙ here Q items rest none ∙ read_alone (Q rest)

    -- the value is not the group
    short : (x : RawOperand) (t : Token) (more rest value_on : List Placed) → value_on ≡ (x.line, t) ∷ rest → IsValueToken width x.value t
        → (taken : List Placed) × (front ++ the_group text ∷ (more ++ rest) ≡ taken ++ value_on) → length value_on ≤ length (more ++ rest)
    short x t [] rest value_on same value (taken, there) =
        let whole : (front ++ the_group text ∷ []) ++ rest ≡ (taken ++ (x.line, t) ∷ []) ++ rest =
        append_assoc front (the_group text ∷ []) rest ∙ there ∙ ap (λ (ts : List Placed). taken ++ ts) same ∙ sym (append_assoc taken ((x.line, t) ∷ []) rest) in
        let last = (last_is front taken (the_group text) (x.line, t) (append_cancel_right (front ++ the_group text ∷ []) (taken ++ (x.line, t) ∷ []) rest whole)).1 in
        absurd (value_is_no_group width x.value t text value (sym (ap (λ (p : Placed). p.1) last)))
    short x t (u ∷ more) rest value_on same value there = omega (arith, ap length same, length-append more rest)

pub done_not_at_once : {A : Type 0} (text : List ℕ) (x : A) → Goes text (done x) [] → ⊥
done_not_at_once text x goes = more_than_end text [] (goes.read (x, Whole text []) refl)

-- a type, and a value behind items
valued : {E : Follow} (text : List ℕ) (Q : ℕ → Reader RawOperand) → E a_type → ((width : ℕ) → Good Anything (In (Q width) []) EndsArgument) → ((width : ℕ) → Places text (In (Q width) []) EndsArgument)
    → Placing text E (type_at >>= λ width. In (Q width) [] >>= λ operand. done (typed width operand)) EndsArgument
valued {E} text Q e is_good p =
    placing_then text (type-good {V = Unit {0}} e).sample type_fares (type_places text)
    (λ width. placing_then text (is_good width).sample (good (is_good width)) (p width) (λ operand. placing_done text (λ t f. f) (typed width operand)) (later (λ operand. done_not_at_once text (typed width operand)))) (closed type_closes)

argument_placing : {E : Follow} (text : List ℕ) → E a_type → Placing text E argument_at EndsArgument
argument_placing text e = record {
  sample = (argument-good e).sample;
  places = places_same text argument_from (valued {E = Anything} text operand_at tt operand_in-good (λ width. in_places text (operand_at width) width (operand_reads width) (operand_at-is width) (operand_in-good width))).places;
}

truth_argument_placing : {E : Follow} (text : List ℕ) → E a_type → Placing text E truth_argument_at EndsArgument
truth_argument_placing text e = record {
  sample = (truth_argument-good e).sample;
  places =
      places_same text truth_argument_from
      (valued {E = Anything} text truth_value_at tt truth_in-good (λ width. in_places text (truth_value_at width) width (truth_reads width) (λ tokens x is. (truth_value_at-is width tokens x is).1) (truth_in-good width))).places;
}

further_truth_placing : (text : List ℕ) → Placing text EndsArgument further_truth_at EndsArgument
unfolding further_truth_at
further_truth_placing text =
    mark_then text marks.comma comma
    (λ u. placing_then text (truth_argument-good {E = Anything} tt).sample (good (truth_argument-good {E = Anything} tt)) (truth_argument_placing {E = Anything} text tt).places (λ truth. placing_done text (λ t f. f) (Some truth)) (later (λ truth. done_not_at_once text (Some truth))))

truth_places : (text : List ℕ) (op : Unary) → Places text (truth_at op) EndsArgument
unfolding truth_at
truth_places text op = by (has_truth op) refl
  where
    by : (b : Bool) → has_truth op ≡ b → Places text (λ tokens. cond (has_truth op) (further_truth_at tokens) (Ok (None, tokens))) EndsArgument
    by true h = places_same text (λ tokens. rw h refl) (further_truth_placing text).places
    by false h = places_same text (λ tokens. rw h refl) (placing_done {E = Anything} text (λ t f. tt) None).places

truth_not_at_once : {B : Type 0} (text : List ℕ) (op : Unary) (S : Option TypedOperand → Reader B) → ((x : Option TypedOperand) → Goes text (S x) [] → ⊥) → Goes text (truth_at op >>= S) [] → ⊥
unfolding truth_at further_truth_at mark_at unexpected
truth_not_at_once text op S none = by (has_truth op) refl
  where
    by : (b : Bool) → has_truth op ≡ b → Goes text (truth_at op >>= S) [] → ⊥
    by true h = none_at_once text (truth_at op >>= S) (fault 0 (misfit places.Fixed (Group text))) (λ more. rw h refl)
    by false h = none_left text (truth_at op) S None (λ more. rw h refl) (none None)

arguments_placing : (text : List ℕ) (what : Intrinsic) → Placing text Anything (arguments_at what) EndsArgument
unfolding two_arguments_at one_argument_at
arguments_placing text (intrinsics.Binary op) =
    placing_then text (argument-good tt).sample (good (argument-good {E = Anything} tt)) (argument_placing {E = Anything} text tt).places
    (λ left. mark_then text marks.comma comma
    (λ u. placing_then text (argument-good tt).sample (good (argument-good {E = Anything} tt)) (argument_placing {E = Anything} text tt).places (λ right. placing_done text (λ t f. f) _) (later (λ right. done_not_at_once text _))))
    (later (λ left. mark_not_at_once text marks.comma _))
arguments_placing text (intrinsics.Unary op) =
    placing_then text (argument-good tt).sample (good (argument-good {E = Anything} tt)) (argument_placing {E = Anything} text tt).places
    (λ operand. placing_then text (truth-good op).sample (good (truth-good op)) (truth_places text op) (λ truth. placing_done text (λ t f. f) _) (later (λ truth. done_not_at_once text _)))
    (later (λ operand. truth_not_at_once text op _ (λ truth. done_not_at_once text _)))

-- ---- items and attachments behind a call

close_read : (tokens : List Placed) (x : ℕ × List Placed) → close_at tokens ≡ Ok x → tokens ≡ (x.0, Mark marks.close_paren) ∷ x.1
unfolding close_at
close_read [] x is = absurd cc
close_read ((line, Mark m) ∷ rest) x is = by (eqb m marks.close_paren) refl is
  where
    the_read : Read ℕ → Read ℕ
    the_read r = r

    by : (b : Bool) → eqb m marks.close_paren ≡ b → cond b (the_read (Ok (line, rest))) (Err (fault line Syntax)) ≡ Ok x → (line, Mark m) ∷ rest ≡ (x.0, Mark marks.close_paren) ∷ x.1
    by true h read = read_as (λ z. (line, Mark m) ∷ rest ≡ (z.0, Mark marks.close_paren) ∷ z.1) (line, rest) x read (ap (λ (n : ℕ). (line, Mark n) ∷ rest) (eqb-true m marks.close_paren h))
    by false h read = absurd cc
close_read ((line, t) ∷ rest) x is = absurd cc

-- a mark before the group is not on line 0
mark_line : (text : List ℕ) (t : Placed) (front : List Placed) (mark : ℕ) → Ended (Whole text (t ∷ front)) → t.1 ≡ Mark mark → t.0 ≢ 0
mark_line text t [] mark e is = e.2 mark is
mark_line text t (u ∷ front) mark e is = e.2 mark is

-- items behind a call are on its line, and the group is not
closing_places : {A : Type 0} (text : List ℕ) (x : A) → Places text (Closing x) NotComma
closing_places {A} text x front e goes =
    let (y, more, rest, is) = goes_through text (Closing x) front (good_open (closing-open x) (Whole text front) e) goes (Mark marks.open_paren) refl in
    absurd (by front e y more rest is)
  where
    by : (front : List Placed) → Ended (Whole text front) → (y : A) (more rest : List Placed) → Closing x (front ++ the_group text ∷ (more ++ rest)) ≡ Ok (y, rest) → ⊥
    by [] e y more rest is =
        let one = bind_ok (close_at (the_group text ∷ (more ++ rest))) (λ line. late_items_at line >>= λ u. Ending x) (y, rest) is in
        let same = close_read (the_group text ∷ (more ++ rest)) one.0 one.1 in
        let head : the_group text ≡ (one.0.0, Mark marks.close_paren) = cc in
        let is_mark : Group text ≡ Mark marks.close_paren = ap (λ (p : Placed). p.1) head in cc
    by (t ∷ front) e y more rest is =
        let one = bind_ok (close_at (t ∷ (front ++ the_group text ∷ (more ++ rest)))) (λ line. late_items_at line >>= λ u. Ending x) (y, rest) is in
        let same = close_read (t ∷ (front ++ the_group text ∷ (more ++ rest))) one.0 one.1 in
        let head : t ≡ (one.0.0, Mark marks.close_paren) = cc in
        let behind : one.0.1 ≡ front ++ the_group text ∷ (more ++ rest) = cc in
        let some : one.0.0 ≢ 0 = λ zero. mark_line text t front marks.close_paren e (ap (λ (p : Placed). p.1) head) (ap (λ (p : Placed). p.0) head ∙ zero) in
        let late : Groupless (late_items_at one.0.0 >>= λ u. Ending x) = both_groupless (late_items_at one.0.0) _ (late_groupless one.0.0 some) (λ u. both_groupless parsing.tail_at _ tail_groupless (λ v. done_groupless x)) in
        no_through text (late_items_at one.0.0 >>= λ u. Ending x) front late (y, more, rest, ap (late_items_at one.0.0 >>= λ u. Ending x) (sym behind) ∙ one.2)

closing_placing : {A : Type 0} (text : List ℕ) (x : A) → Placing text EndsArgument (Closing x) NotComma
closing_placing text x = record { sample = (closing-open x).sample; places = closing_places text x }

closing_not_at_once : {A : Type 0} (text : List ℕ) (x : A) → Goes text (Closing x) [] → ⊥
unfolding close_at unexpected
closing_not_at_once text x = none_at_once text (Closing x) (fault 0 (misfit places.Fixed (Group text))) (λ more. refl)

-- ---- calls

callee_groupless : (line : ℕ) → Groupless (callee_at line)
unfolding callee_at
callee_groupless line [] x is = absurd cc
callee_groupless line ((at, Function written) ∷ rest) x is = by (callee_named (identifier_of written)) is
  where
    by : (named : Option (Intrinsic × ℕ)) → or_no_callee line named rest ≡ Ok x → Taken ((at, Function written) ∷ rest) x.1
    by (Some named) read = read_as (λ y. Taken ((at, Function written) ∷ rest) y.1) (named, rest) x read (one_taken at (Function written) ((at, Function written) ∷ rest) rest refl refl)
    by None read = absurd cc
callee_groupless line ((at, t) ∷ rest) x is = absurd cc

callee_not_at_once : {B : Type 0} (text : List ℕ) (line : ℕ) (S : Intrinsic × ℕ → Reader B) → Goes text (callee_at line >>= S) [] → ⊥
unfolding callee_at unexpected
callee_not_at_once text line S = none_at_once text (callee_at line >>= S) (fault 0 (misfit places.Fixed (Group text))) (λ more. refl)

call_word_closes : Closes call_word_at
unfolding call_word_at
call_word_closes tokens x e is = ((x.0, Word (codes "call")), [], call_word_read tokens x is, λ others. refl)

call_word_groupless : Groupless call_word_at
call_word_groupless tokens x is = one_taken x.0 (Word (codes "call")) tokens x.1 (call_word_read tokens x is) refl

type_alone_not_at_once : (text : List ℕ) → Goes text type_at [] → ⊥
unfolding type_at unexpected
type_alone_not_at_once text = none_at_once text type_at (fault 0 (misfit places.Type (Group text))) (λ more. refl)

typed_placing : (text : List ℕ) → Placing text Anything Typed Anything
typed_placing text =
    header_then text items-good.sample (good items-good) (items_ready text) (λ items. type_refuses_ends) (λ items. type_placing text type_follows) (λ items. type_alone_not_at_once text)

module _ {A : Type 0} (text : List ℕ) (f : RawOp → A) where
  callee_fares : (line : ℕ) → Faring (callee_at line) Anything
  callee_fares line tokens e =
      fares (Unit {0}) Anything (callee_at line) Anything (Unit {0}) (CalleeOr (callee_at line) Anything line (λ front. front ≡ [])) tokens
      (token_outcome (Unit {0}) Anything (callee_at line) Anything (Unit {0}) (CalleeOr (callee_at line) Anything line (λ front. front ≡ [])) (callee_takes line) tokens e)

  arguments_behind : (line width : ℕ) (named : Intrinsic × ℕ) → Placing text Anything (Arguments f line width named) NotComma
  arguments_behind line width named =
      mark_then text marks.open_paren tt
      (λ u. placing_then text (arguments-good named.0).sample (good (arguments-good named.0)) (arguments_placing text named.0).places (λ arguments. closing_placing text _) (later (λ arguments. closing_not_at_once text _)))

  called_places : (line : ℕ) → Places text (Called f line) NotComma
  called_places line =
      places_then text (good typed-good) (typed_placing text).places
      (λ width. places_then text (callee_fares line) (places_none text (callee_fares line) (callee_groupless line) a_type tt) (λ named. (arguments_behind line width named).places) (λ named. (arguments_behind line width named).sample) (later (λ named. mark_not_at_once text marks.open_paren _)))
      (callee_sample f line) (later (λ width. callee_not_at_once text line _))

  marked_places : Places text (call_word_at >>= Called f) NotComma
  marked_places = places_then text (good call_word-good) (places_none text (good call_word-good) call_word_groupless a_type tt) called_places (called_sample f) (closed call_word_closes)

  plain_places : (line : ℕ) (operation : Operation) → Plain operation → ((tokens : List Placed) → Ended tokens → OutcomeIf (Unit {0}) Anything (parsing.operation_at line operation >>= λ op. Ending (f op)) NotComma (Unit {0}) (BehindWhy f line operation) tokens ((parsing.operation_at line operation >>= λ op. Ending (f op)) tokens))
      → Places text (parsing.operation_at line operation >>= λ op. Ending (f op)) NotComma
  plain_places line operation plain outcome =
      places_none text (λ tokens e. fares (Unit {0}) Anything (parsing.operation_at line operation >>= λ op. Ending (f op)) NotComma (Unit {0}) (BehindWhy f line operation) tokens (outcome tokens e)) (both_groupless (parsing.operation_at line operation) _ (operation_groupless line operation plain) (λ op. both_groupless parsing.tail_at _ tail_groupless (λ v. done_groupless (f op)))) (Mark marks.open_paren) refl

  behind_places : (line : ℕ) (operation : Operation) → Places text (Behind f line operation) NotComma
  behind_places line operations.Call = called_places line
  behind_places line operations.Tail = marked_places
  behind_places line operations.NoTail = marked_places
  behind_places line (operations.Binary op) = plain_places line (operations.Binary op) tt (behind_open f line (operations.Binary op)).1
  behind_places line operations.Compare = plain_places line operations.Compare tt (behind_open f line operations.Compare).1
  behind_places line operations.Select = plain_places line operations.Select tt (behind_open f line operations.Select).1
  behind_places line (operations.Convert cast) = plain_places line (operations.Convert cast) tt (behind_open f line (operations.Convert cast)).1
  behind_places line operations.Freeze = plain_places line operations.Freeze tt (behind_open f line operations.Freeze).1
  behind_places line operations.Phi = plain_places line operations.Phi tt (behind_open f line operations.Phi).1

  -- ---- instructions

  opcode_closes : Closes opcode_at
  opcode_closes [] x e is = absurd e
  opcode_closes ((line, Word w) ∷ rest) x e is = by (operation_in w) refl is
    where
      by : (operation : Option Operation) → operation_in w ≡ operation → placed_operation line w operation rest ≡ Ok x → (t : Placed) × (front : List Placed) × ((line, Word w) ∷ rest ≡ t ∷ (front ++ x.1)) × ((others : List Placed) → opcode_at (t ∷ (front ++ others)) ≡ Ok (x.0, others))
      by (Some operation) h read =
          read_as (λ z. (t : Placed) × (front : List Placed) × ((line, Word w) ∷ rest ≡ t ∷ (front ++ z.1)) × ((others : List Placed) → opcode_at (t ∷ (front ++ others)) ≡ Ok (z.0, others)))
          ((line, operation), rest) x read ((line, Word w), [], refl, λ others. rw h refl)
      by None h read = absurd cc
  opcode_closes ((line, t) ∷ rest) x e is = absurd cc

  opcode_groupless : Groupless Opcode
  opcode_groupless = both_groupless (mark_at marks.equals) (λ u. opcode_at) (mark_groupless marks.equals) (λ u tokens x is. one_taken x.0.0 (Word (operation_word x.0.1)) tokens x.1 (opcode_read tokens x is) refl)

  op_places : Places text (Opcode >>= BehindWord f) NotComma
  op_places =
      places_then text (good equals_opcode-good) (places_none text (good equals_opcode-good) opcode_groupless a_type tt) (λ o. behind_places o.0 o.1) (behind_sample f)
      (closed (closes_behind (mark-good {E = Anything} marks.equals tt) (λ u. opcode_closes)))

abbrev inst_of : RawIdentifier → RawOp → RawInst
inst_of result op = record { result = result; op = op }

inst_sample : (result : RawIdentifier) → Sample Anything (mark_at marks.equals >>= λ u. parsing.op_at >>= λ op. Ending (inst_of result op)) NotComma
inst_sample result = let s = (op-open (inst_of result)).sample in (s.0, s.1, λ ts n. let h = s.2 ts n in (equals_ending (inst_of result) (s.1 ++ ts) ∙ h.0, h.1))

pub inst_places : (text : List ℕ) → Places text parsing.inst_at NotComma
unfolding parsing.inst_at
inst_places text =
    places_then text (good (register-good {E = Anything} tt)) (places_none text (good (register-good {E = Anything} tt)) register_groupless a_type tt)
    (λ result. places_same text (equals_ending (inst_of result)) (op_places text (inst_of result))) (λ result. inst_sample result) (later (λ result. mark_not_at_once text marks.equals _))

step_places : (text : List ℕ) (a : List RawInst) → Places text (Step a) NotComma
step_places text a = places_then text (good_open (inst-open {E = Anything} tt)) (inst_places text) (λ x. (placing_done {E = NotComma} text (λ t f. f) (a ++ x ∷ [])).places) (λ x. (done-good {V = Unit {0}} (λ t f. f) (a ++ x ∷ [])).sample) (later (λ x. done_not_at_once text (a ++ x ∷ [])))

-- where no instruction is next, the group is not read
insts_not_at_once : (text : List ℕ) (a : List RawInst) → Goes text (Loop a) [] → ⊥
insts_not_at_once text a goes = more_than_end text [] (goes.read (a, Whole text []) (each-done parsing.is_register parsing.inst_at a (Whole text []) refl))

pub insts_places : (text : List ℕ) {F : Follow} → ((t : Token) → F t → NotComma t) → ((t : Token) → F t → NotRegister t) → Places text parsing.insts_at F
unfolding parsing.insts_at
insts_places text {F} no_comma no_register front e goes =
    loop_places text (Unit {0}) NotComma F (Unit {0}) parsing.is_register Step steps
    (λ a ts ended. fares (Unit {0}) Anything (Step a) NotComma (Unit {0}) (Reasons Anything (Step a) NotComma) ts (another (Unit {0}) Anything NotComma parsing.inst_at a ts ((inst-open {E = Anything} tt).outcome ts ended))) (step_places text) (insts_not_at_once text) (suc (length front)) [] front (omega arith) e goes
  where
    steps : Steps (Unit {0}) NotComma F (Unit {0}) parsing.is_register Step
    steps = steps_of (record { asks = register_next; takes = inst-takes; ends = no_register; ends_part = no_comma; next_ends_part = register_is_no_comma; opens = register_open; shuts = register_shut; records = λ a b t begins h. let r = register_records b t begins h in (inr r.0, λ end. r.1) })
