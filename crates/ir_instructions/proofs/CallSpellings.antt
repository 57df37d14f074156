-- Completeness of the parser for calls: it gives what is spelled, if what follows may follow.
use Rattle.ir_instructions.proofs.Common.{◌≡◌, ℕ, Bool, true, false, ◌&&◌, not, List, [], ◌∷◌, ◌++◌, Option, Some, None, Ok, refl, ap, ◌∙◌, append_assoc, append-nil, Unary, Token, Placed, Number, Register, Mark, RawArguments, RawCall, RawOperand, RawValue, TypedOperand, Intrinsic, Items, SpellsArgument, SpellsTruth, SpellsTruthOf, SpellsArguments, SpellsCallee, SpellsClose, intrinsic_of, ends_argument, begins_inner_item, inner_items_at, argument_at, truth_value_at, truth_argument_at, further_truth_at, truth_at, two_arguments_at, one_argument_at, arguments_at, callee_at, close_at, call_at, SpellsType, SpellsOperand, IsValueToken, IsCaseValue, SpellsItem, MayFollowItem, of_word, of_word_and_group, of_number, of_group, of_quoted, of_key_and_value, item_at, truth_in, Part, IsOn, Is, ◌⨾◌, Each, each_at}
use Rattle.ir_tokens.specs.declared.raw.RawArguments.TheVariants as arguments
use Rattle.ir_tokens.specs.declared.raw.RawOp.TheVariants.{Call}
use Rattle.ir_tokens.specs.declared.raw.RawValue.TheVariants as values
use Rattle.ir_instructions.specs.TokenReaders.{mark_at}
use Rattle.ir_instructions.specs.Punctuation as marks
use Rattle.ir_instructions.proofs.ItemSpellings.{item_at-of, items_at-of, item_may_follow, type_begins_no_item}
use Rattle.ir_instructions.proofs.LateItemSpellings.{late_items_at-of}
use Rattle.ir_instructions.proofs.NameReadings.{intrinsic_in-of}
use Rattle.ir_instructions.proofs.Loops.{each-more, each-done}
use Rattle.ir_instructions.proofs.Spellings.{mark_at-of, type_at-of, operand_at-of}
use Rattle.ir_instructions.proofs.Takings.{inner-takes}

-- ---- items of an argument

-- the last token of an argument is next, its value: no inner item begins with it, it ends no argument, and it may
-- follow an item
record BeginsValue (tokens : List Placed) : Type 0 where
  none : begins_inner_item tokens ≡ false
  goes_on : ends_argument tokens ≡ false
  follows : MayFollowItem tokens

no_more : (b : Bool) → (b && not true) ≡ false
no_more true = refl
no_more false = refl

value_begins : (width line : ℕ) (value : RawValue) (token : Token) (rest : List Placed) → IsValueToken width value token → ends_argument rest ≡ true → BeginsValue ((line, token) ∷ rest)
value_begins width line (values.Register name) token rest (written, same, is) ends = rw is (record { none = refl; goes_on = refl; follows = tt })
value_begins width line (values.Number number) token rest (digits, constant, is) ends = rw is (record { none = rw ends (no_more true); goes_on = refl; follows = tt })
value_begins width line values.True token rest is ends = rw is (record { none = rw ends (no_more _); goes_on = refl; follows = tt })
value_begins width line values.False token rest is ends = rw is (record { none = rw ends (no_more _); goes_on = refl; follows = tt })
value_begins width line values.Undef token rest is ends = rw is (record { none = rw ends (no_more _); goes_on = refl; follows = tt })
value_begins width line values.Poison token rest is ends = rw is (record { none = rw ends (no_more _); goes_on = refl; follows = tt })

operand_begins : (width : ℕ) (a : RawOperand) (tokens rest : List Placed) → SpellsOperand width a tokens rest → ends_argument rest ≡ true → BeginsValue tokens
operand_begins width a tokens rest (token, value, is) ends = rw is (value_begins width a.line a.value token rest value ends)

item_ends_none : (item : List ℕ) (tokens rest : List Placed) → SpellsItem item tokens rest → ends_argument tokens ≡ false
item_ends_none item tokens rest (of_word is (line, one)) = rw one refl
item_ends_none item tokens rest (of_word_and_group name group is same (middle, (line, one), two)) = rw one refl
item_ends_none item tokens rest (of_number (line, one)) = rw one refl
item_ends_none item tokens rest (of_group (line, one)) = rw one refl
item_ends_none item tokens rest (of_quoted (line, one)) = rw one refl
item_ends_none item tokens rest (of_key_and_value key value same (middle, (line, one), two)) = rw one refl

items_end_none : (items : List (List ℕ)) (tokens rest : List Placed) → Each SpellsItem items tokens rest → BeginsValue rest → ends_argument tokens ≡ false
items_end_none [] tokens rest same value = rw same value.goes_on
items_end_none (item ∷ items) tokens rest (middle, one, more) value = item_ends_none item tokens middle one

items_follow : (items : List (List ℕ)) (tokens rest : List Placed) → Each SpellsItem items tokens rest → BeginsValue rest → MayFollowItem tokens
items_follow [] tokens rest same value = rw same value.follows
items_follow (item ∷ items) tokens rest (middle, one, more) value = item_may_follow item tokens middle one

inner_is_next : (item : List ℕ) (tokens rest : List Placed) → SpellsItem item tokens rest → ends_argument rest ≡ false → begins_inner_item tokens ≡ true
inner_is_next item tokens rest (of_word is (line, one)) goes_on = rw (one, is, goes_on) refl
inner_is_next item tokens rest (of_word_and_group name group is same (middle, (line, one), (next, two))) goes_on = rw (one, is, two) refl
inner_is_next item tokens rest (of_number (line, one)) goes_on = rw (one, goes_on) refl
inner_is_next item tokens rest (of_group (line, one)) goes_on = rw (one, goes_on) refl
inner_is_next item tokens rest (of_quoted (line, one)) goes_on = rw (one, goes_on) refl
inner_is_next item tokens rest (of_key_and_value key value same (middle, (line, one), (behind, (next, two), three))) goes_on = rw (one, two) refl

inner_items : (items front : List (List ℕ)) (tokens rest : List Placed) → Each SpellsItem items tokens rest → BeginsValue rest → each_at begins_inner_item item_at front tokens ≡ Ok (front ++ items, rest)
inner_items [] front tokens rest same value = rw (same, append-nil front) (each-done begins_inner_item item_at front rest value.none)
inner_items (item ∷ items) front tokens rest (middle, one, more) value =
    each-more begins_inner_item item_at inner-takes front tokens (item, middle) (inner_is_next item tokens middle one (items_end_none items middle rest more value)) (item_at-of item tokens middle one (items_follow items middle rest more value))
    ∙ inner_items items (front ++ item ∷ []) middle rest more value
    ∙ ap (λ (ys : List (List ℕ)). Ok (ys, rest)) (append_assoc front (item ∷ []) items)

inner_items_at-of : (items : List (List ℕ)) (tokens rest : List Placed) → Each SpellsItem items tokens rest → BeginsValue rest → inner_items_at tokens ≡ Ok (items, rest)
unfolding inner_items_at
inner_items_at-of items tokens rest each value = inner_items items [] tokens rest each value

-- ---- arguments

argument_at-of : (t : TypedOperand) (tokens rest : List Placed) → SpellsArgument t tokens rest → ends_argument rest ≡ true → argument_at tokens ≡ Ok (t, rest)
unfolding argument_at
argument_at-of t tokens rest (t1, type, (t2, (items, each), operand)) ends =
    rw (type_at-of t.width tokens t1 type, inner_items_at-of items t1 t2 each (operand_begins t.width t.operand t2 rest operand ends), operand_at-of t.width t.operand t2 rest operand) refl

truth_is_read : (width line : ℕ) (value : RawValue) (token : Token) (rest : List Placed) → IsCaseValue value → IsValueToken width value token → truth_value_at width ((line, token) ∷ rest) ≡ Ok (record { line = line; value = value }, rest)
unfolding truth_value_at truth_in
truth_is_read width line (values.Number number) token rest case (digits, constant, is) = rw (is, constant) refl
truth_is_read width line values.True token rest case is = rw is refl
truth_is_read width line values.False token rest case is = rw is refl
truth_is_read width line value token rest case is = absurd case

truth_argument_at-of : (t : TypedOperand) (tokens rest : List Placed) → SpellsTruth t tokens rest → ends_argument rest ≡ true → truth_argument_at tokens ≡ Ok (t, rest)
unfolding truth_argument_at
truth_argument_at-of t tokens rest (case, (t1, type, (t2, (items, each), (token, value, is)))) ends =
    let read : truth_value_at t.width t2 ≡ Ok (t.operand, rest) = rw is (truth_is_read t.width t.operand.line t.operand.value token rest case value) in
    rw (type_at-of t.width tokens t1 type, inner_items_at-of items t1 t2 each (operand_begins t.width t.operand t2 rest (token, value, is) ends), read) refl

truth_at-of : (op : Unary) (t : Option TypedOperand) (tokens rest : List Placed) → SpellsTruthOf op t tokens rest → ends_argument rest ≡ true → truth_at op tokens ≡ Ok (t, rest)
unfolding truth_at further_truth_at
truth_at-of op None tokens rest (own, same) ends = rw (own, same) refl
truth_at-of op (Some t) tokens rest (own, (t1, comma, truth)) ends = rw (own, mark_at-of marks.comma tokens t1 comma, truth_argument_at-of t t1 rest truth ends) refl

truth_ends : (op : Unary) (t : Option TypedOperand) (tokens rest : List Placed) → SpellsTruthOf op t tokens rest → ends_argument rest ≡ true → ends_argument tokens ≡ true
truth_ends op None tokens rest (own, same) ends = rw same ends
truth_ends op (Some t) tokens rest (own, (t1, (line, is), truth)) ends = rw is refl

pub arguments_at-of : (w : RawArguments) (tokens rest : List Placed) → SpellsArguments w tokens rest → ends_argument rest ≡ true → arguments_at (intrinsic_of w) tokens ≡ Ok (w, rest)
unfolding two_arguments_at one_argument_at
arguments_at-of (arguments.Binary op a b) tokens rest (t1, left, (t2, (line, is), right)) ends =
    let comma : ends_argument t1 ≡ true = rw is refl in
    rw (argument_at-of a tokens t1 left comma, mark_at-of marks.comma t1 t2 (line, is), argument_at-of b t2 rest right ends) refl
arguments_at-of (arguments.Unary op a t) tokens rest (t1, operand, truth) ends =
    rw (argument_at-of a tokens t1 operand (truth_ends op t t1 rest truth ends), truth_at-of op t t1 rest truth ends) refl

-- ---- calls

close_at-of : (line : ℕ) (tokens rest : List Placed) → IsOn line (Mark marks.close_paren) tokens rest → close_at tokens ≡ Ok (line, rest)
unfolding close_at
close_at-of line tokens rest is = rw is refl

callee_at-of : (line : ℕ) (named : Intrinsic × ℕ) (tokens rest : List Placed) → SpellsCallee named tokens rest → callee_at line tokens ≡ Ok (named, rest)
unfolding callee_at
callee_at-of line named tokens rest (written, name, has_name, intrinsic, (at, is)) = rw (is, has_name, intrinsic_in-of name named intrinsic) refl

type_may_follow : (width : ℕ) (tokens rest : List Placed) → SpellsType width tokens rest → MayFollowItem tokens
type_may_follow width tokens rest (word, type, (line, is)) = rw is tt

-- a call behind the word `call`
abbrev pub SpellsCalled : RawCall → Part
SpellsCalled w =
    Items ⨾ SpellsType w.width ⨾ SpellsCallee (intrinsic_of w.arguments, w.named) ⨾ Is (Mark marks.open_paren) ⨾ SpellsArguments w.arguments ⨾ SpellsClose

pub call_at-of : (w : RawCall) (tokens rest : List Placed) → SpellsCalled w tokens rest → MayFollowItem rest → call_at w.line tokens ≡ Ok (Call w, rest)
unfolding call_at
call_at-of w tokens rest (t1, (items, each), (t2, type, (t3, callee, (t4, opens, (t5, spelled, (line, stops, (t6, closes, late))))))) may =
    let ends : ends_argument t5 ≡ true = rw closes refl in
    rw (
      items_at-of items tokens t1 each (type_begins_no_item w.width t1 t2 type) (type_may_follow w.width t1 t2 type),
      type_at-of w.width t1 t2 type,
      callee_at-of w.line (intrinsic_of w.arguments, w.named) t2 t3 callee,
      mark_at-of marks.open_paren t3 t4 opens,
      arguments_at-of w.arguments t4 t5 spelled ends,
      close_at-of line t5 t6 closes,
      late_items_at-of line t6 rest late stops may,
    ) refl
