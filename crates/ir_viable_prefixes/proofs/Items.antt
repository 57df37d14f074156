-- Viable prefixes of items.
use Rattle.ir_viable_prefixes.proofs.Common.{◌≡◌, ℕ, suc, Bool, true, false, eqb, List, [], ◌∷◌, ◌++◌, length, Ok, Err, refl, sym, ap, subst, ◌∙◌, inl, inr, cond, append_assoc, arith, append-nil, append_cancel_right, codes, Token, Placed, End, Other, KeptGroup, Word, Number, Function, Group, Quoted, Mark, is_last, IrFaultKind, Syntax, LeftOut, Part, Each, is_word, leaves_out, Read, Reader, fault, unexpected, ◌>>=◌, done, another_at, each_at, Flag, Nuw, Nsw, Exact, NNeg, Disjoint, SameSign, flag_keyword, ending_word, type_in, SpellsItem, MayFollowItem, of_word_and_group, of_number, of_group, of_quoted, of_key_and_value, is_item_word, repeat-is, each-more, each-done, read_as, type_in-of, items_at-is, items_at-of, item-takes}
use Rattle.ir_tokens.specs.Tokens.{Bad as Bad_token}
use Rattle.ir_tokens.specs.declared.raw.RawValue.TheVariants as values
use Rattle.ir_instructions.specs.declared.place.Expected.TheVariants as places
use Rattle.ir_instructions.specs.InstructionReaders.{is_mark, mark_at}
use Rattle.ir_instructions.specs.Places.{misfit}
use Rattle.ir_instructions.specs.Punctuation as marks
use Rattle.ir_instructions.specs.ItemGrammar.{of_word}
use Rattle.ir_instructions.specs.ItemReaders as parsing
use Rattle.ir_viable_prefixes.specs.Misfits as nouns
use Rattle.ir_viable_prefixes.proofs.Choices.{AsksNext, Tested, tested_next, Opens, OpensRecords, either-good, reasons_transferred}
use Rattle.ir_viable_prefixes.proofs.Outcomes.{Again, Follow, Next, next_map, Anything, Ended, StopsEach, stops, stops_next, Sample, sample_both, Fit, RefusesAt, Bad, bad_second, Why, Reasons, ReasonsIf, Halts, OutcomeIf, Outcome, outcome_both, reasons_first, Takes, takes, refuses, one_token, MayTake, may_take, leaves, token_or_none, Good, GoodIf, done-good, ◌then◌, TakesNoFlag, LeavesFlags, apart_new, nothing_new, reasons_lift, token_outcome}
use Rattle.ir_viable_prefixes.proofs.FlagRuns.{NoFlagNext, none_repeated, ReadsApart, Leaves, leaves_all, done_apart, both_apart, IsLeft, LeavesNothingOut, fault_left, done_nothing, both_nothing, loop_nothing}
use Rattle.ir_viable_prefixes.proofs.Reasons.{a_group, Reason, Like, like_word, like_type, like_function, like_width, like_number, Widths, like_other, word_reason, fixed_reason}
use Rattle.ir_viable_prefixes.proofs.Repeats.{Steps, steps_of, loop_sample, loop_lifts, repeat_outcomes, another}
use Rattle.ir_viable_prefixes.proofs.Statements.{none_like, no_record, mark_next, mark_open, mark_shut, mark_records}
use Rattle.ir_viable_prefixes.proofs.TokenReaders.{all_bad, types_bad, mark-good}

-- ---- items

-- the parser of one token that the text does not end with
abbrev some_token_at : Reader Token
some_token_at [] = Err (fault 0 Syntax)
some_token_at ((line, t) ∷ rest) = cond (is_last t) (Err (fault line (misfit places.Fixed t))) (Ok (t, rest))

some_token_takes : (E F : Follow) (line : ℕ) (t : Token) → Takes some_token_at (ReasonsIf ⊥ E some_token_at F) line t
some_token_takes E F line t = by (is_last t) refl
  where
    by : (b : Bool) → is_last t ≡ b → Takes some_token_at (ReasonsIf ⊥ E some_token_at F) line t
    by true h =
        refuses (fault line (misfit places.Fixed t)) (inl (refl, (fixed_reason (Fit E some_token_at F []) (Bad ⊥ some_token_at []) (Again E some_token_at F []) (RefusesAt some_token_at []) t (λ u like. absurd (none_like like h), λ begins. absurd (no_record t begins h)))))
        (λ more. rw h refl)
    by false h = takes t h (λ more. rw h refl)

-- the parser of an item that begins with this token, behind it
abbrev behind_item : Token → Reader (List ℕ)
behind_item (Word word) = parsing.word_item_at word
behind_item (Number digits) = done digits
behind_item (Group text) = done text
behind_item (Quoted key) = parsing.quoted_item_at key
behind_item t = done []

item_from : (tokens : List Placed) → parsing.begins_item tokens ≡ true → parsing.item_at tokens ≡ (some_token_at >>= behind_item) tokens
unfolding parsing.item_at
item_from ((line, Word word) ∷ rest) next = refl
item_from ((line, Number digits) ∷ rest) next = refl
item_from ((line, Group text) ∷ rest) next = refl
item_from ((line, Quoted key) ∷ rest) next = refl
item_from tokens next = absurd cc

word_item_stops : (word : List ℕ) {t u : Token} → Like (Unit {0}) t u → StopsEach (parsing.word_item_at word) [] word u
unfolding parsing.word_item_at
word_item_stops word (like_word v w other noun) = λ l more. refl
word_item_stops word (like_type m other width begins is) = λ l more. refl
word_item_stops word (like_function written other) = λ l more. refl
word_item_stops word (like_width w other width out is) = λ l more. refl
word_item_stops word (like_number digits other) = λ l more. refl

word_item_takes : (W : Why) (word : List ℕ) (line : ℕ) (t : Token) → MayTake (parsing.word_item_at word) W word line t
unfolding parsing.word_item_at
word_item_takes W word line (KeptGroup group) = may_take (takes (word ++ group) refl (λ more. refl))
word_item_takes W word line t = leaves (λ l more. refl) (λ u like. word_item_stops word like) (λ begins. (λ ending l more. refl, λ text l more. refl))

-- a token that may follow an item
abbrev FollowsItem : Follow
FollowsItem t = MayFollowItem ((0, t) ∷ [])

word_alone : (word : List ℕ) (t : Token) → FollowsItem t → StopsEach (parsing.word_item_at word) [] word t
unfolding parsing.word_item_at
word_alone word (KeptGroup group) may = absurd may
word_alone word t may = λ l more. refl

no_equals : (t : Token) → FollowsItem t → Tested (is_mark marks.equals) false t
no_equals (Mark m) may = may
no_equals t may = refl

word_item_leaves_flags : (word : List ℕ) → LeavesFlags (parsing.word_item_at word) word
unfolding parsing.word_item_at
word_item_leaves_flags word = (refl, λ flag l more. refl)

word_item-good : (word : List ℕ) → Good Anything (parsing.word_item_at word) FollowsItem
word_item-good word = token_or_none word (word_alone word) (λ t is. tt) (word_item_leaves_flags word) (word_item_takes _ word)

quoted_value_bad : (key : List ℕ) {t u : Token} → Like (Unit {0}) t u → Bad (Unit {0}) (parsing.quoted_value_at key) [] t u
unfolding parsing.quoted_value_at unexpected
quoted_value_bad key like = all_bad (parsing.quoted_value_at key) (λ w line more. (fault line (misfit places.Fixed (Word w)), refl)) (λ f line more. (fault line (misfit places.Fixed (Function f)), refl)) (λ n line more. (fault line (misfit places.Fixed (Number n)), refl)) like

quoted_value_takes : (E F : Follow) (key : List ℕ) (line : ℕ) (t : Token) → Takes (parsing.quoted_value_at key) (Reasons E (parsing.quoted_value_at key) F) line t
unfolding parsing.quoted_value_at unexpected
quoted_value_takes E F key line (Quoted value) = takes _ refl (λ more. refl)
quoted_value_takes E F key line t = refuses (fault line (misfit places.Fixed t)) (inl (refl, (fixed_reason (Fit E (parsing.quoted_value_at key) F []) (Bad (Unit {0}) (parsing.quoted_value_at key) []) (Again E (parsing.quoted_value_at key) F []) (RefusesAt (parsing.quoted_value_at key) []) t (λ u like. quoted_value_bad key like, λ begins. inr (λ ending more. (fault 0 (misfit places.Fixed (Word (ending_word ending))), refl)))))) (λ more. refl)

quoted_value_flags : (key : List ℕ) → TakesNoFlag (parsing.quoted_value_at key)
unfolding parsing.quoted_value_at unexpected
quoted_value_flags key = ((unexpected places.Fixed [], refl), λ flag line more. (fault line (misfit places.Fixed (Word (flag_keyword flag))), refl))

quoted_value-good : {F : Follow} (key : List ℕ) → Good Anything (parsing.quoted_value_at key) F
unfolding parsing.quoted_value_at
quoted_value-good {F} key = one_token (Quoted (codes "\"\""), tt, _, λ more. refl) (quoted_value_flags key) (quoted_value_takes Anything F key)

quoted_item-good : (key : List ℕ) → Good Anything (parsing.quoted_item_at key) FollowsItem
unfolding parsing.quoted_item_at
quoted_item-good key = either-good (is_mark marks.equals) (mark_next marks.equals) (mark_open marks.equals refl) (mark_shut marks.equals) (mark_records marks.equals refl) (mark-good marks.equals (tt, refl) then (λ u. quoted_value-good key)) (done-good (λ t may. (tt, no_equals t may)) key)

behind_item-good : (t : Token) → Good Anything (behind_item t) FollowsItem
behind_item-good (Word word) = word_item-good word
behind_item-good (Quoted key) = quoted_item-good key
behind_item-good (Number digits) = done-good (λ t is. tt) digits
behind_item-good (Group text) = done-good (λ t is. tt) text
behind_item-good t = done-good (λ u is. tt) []

-- no fault of items is `LeftOut`
pub fixed_left : (t : Token) → ¬ IsLeft (misfit places.Fixed t)
unfolding misfit leaves_out
fixed_left Bad_token (text, left) = cc
fixed_left Other (text, left) = cc
fixed_left End (text, left) = cc
fixed_left t (text, left) = cc

pub choice_left : (t : Token) → is_word t ≡ false → ¬ IsLeft (misfit places.Choice t)
unfolding misfit leaves_out
choice_left Bad_token none (text, left) = cc
choice_left Other none (text, left) = cc
choice_left End none (text, left) = cc
choice_left (Word w) none left = absurd cc
choice_left t none (text, left) = cc

abbrev the_read : {A : Type 0} → Read A → Read A
the_read r = r

pub syntax_left : ¬ IsLeft Syntax
syntax_left (text, left) = cc

equals_nothing : LeavesNothingOut (mark_at marks.equals)
unfolding mark_at unexpected
equals_nothing [] found is = fault_left _ found is syntax_left
equals_nothing ((line, Mark m) ∷ rest) found is = by (eqb m marks.equals) is
  where
    nothing : Unit {0} × List Placed
    nothing = (tt, rest)

    by : (b : Bool) → cond b (the_read (Ok nothing)) (Err (fault line Syntax)) ≡ Err found → ¬ IsLeft found.kind
    by true is = absurd cc
    by false is = fault_left (fault line Syntax) found is syntax_left
equals_nothing ((line, t) ∷ rest) found is = fault_left (fault line (misfit places.Fixed t)) found is (fixed_left t)

quoted_value_nothing : (key : List ℕ) → LeavesNothingOut (parsing.quoted_value_at key)
unfolding parsing.quoted_value_at unexpected
quoted_value_nothing key [] found is = fault_left (fault 0 Syntax) found is syntax_left
quoted_value_nothing key ((line, Quoted value) ∷ rest) found is = absurd cc
quoted_value_nothing key ((line, t) ∷ rest) found is = fault_left (fault line (misfit places.Fixed t)) found is (fixed_left t)

word_item_nothing : (word : List ℕ) → LeavesNothingOut (parsing.word_item_at word)
unfolding parsing.word_item_at
word_item_nothing word [] found is = absurd cc
word_item_nothing word ((line, KeptGroup group) ∷ rest) found is = absurd cc
word_item_nothing word ((line, t) ∷ rest) found is = absurd cc

quoted_item_nothing : (key : List ℕ) → LeavesNothingOut (parsing.quoted_item_at key)
unfolding parsing.quoted_item_at
quoted_item_nothing key tokens found = by (is_mark marks.equals tokens)
  where
    by : (b : Bool) → cond b ((mark_at marks.equals >>= λ u. parsing.quoted_value_at key) tokens) (Ok (key, tokens)) ≡ Err found → ¬ IsLeft found.kind
    by true is = both_nothing (mark_at marks.equals) (λ u. parsing.quoted_value_at key) equals_nothing (λ u. quoted_value_nothing key) tokens found is
    by false is = absurd cc

behind_item_nothing : (t : Token) → LeavesNothingOut (behind_item t)
behind_item_nothing (Word word) = word_item_nothing word
behind_item_nothing (Quoted key) = quoted_item_nothing key
behind_item_nothing (Number digits) = done_nothing digits
behind_item_nothing (Group text) = done_nothing text
behind_item_nothing t = done_nothing []

item_nothing : LeavesNothingOut parsing.item_at
unfolding parsing.item_at unexpected
item_nothing [] found is = fault_left (fault 0 Syntax) found is syntax_left
item_nothing ((line, Word word) ∷ rest) found is = word_item_nothing word rest found is
item_nothing ((line, Number digits) ∷ rest) found is = absurd cc
item_nothing ((line, Group text) ∷ rest) found is = absurd cc
item_nothing ((line, Quoted key) ∷ rest) found is = quoted_item_nothing key rest found is
item_nothing ((line, t) ∷ rest) found is = fault_left (fault line (misfit places.Choice t)) found is (choice_left t refl)

items_nothing : (front : List (List ℕ)) → LeavesNothingOut (each_at parsing.begins_item parsing.item_at front)
items_nothing front tokens found is =
    loop_nothing parsing.begins_item (another_at parsing.item_at) (λ a. both_nothing parsing.item_at (λ x. done (a ++ x ∷ [])) item_nothing (λ x. done_nothing (a ++ x ∷ []))) _ front tokens found is

item_parts_outcome : (tokens : List Placed) → Ended tokens → OutcomeIf ⊥ (Tested parsing.begins_item true) (some_token_at >>= behind_item) FollowsItem (Unit {0}) (ReasonsIf ⊥ (Tested parsing.begins_item true) (some_token_at >>= behind_item) FollowsItem) tokens ((some_token_at >>= behind_item) tokens)
item_parts_outcome tokens e =
    outcome_both ⊥ (Unit {0}) (Unit {0}) (Tested parsing.begins_item true) Anything FollowsItem some_token_at behind_item (ReasonsIf ⊥ (Tested parsing.begins_item true) some_token_at Anything) (λ t. Reasons Anything (behind_item t) FollowsItem)
    (ReasonsIf ⊥ (Tested parsing.begins_item true) (some_token_at >>= behind_item) FollowsItem) tokens (reasons_lift ⊥ (Unit {0}) (Tested parsing.begins_item true) Anything FollowsItem some_token_at behind_item (λ t. (behind_item-good t).sample) tokens)
    (nothing_new ⊥ (Unit {0}) (Tested parsing.begins_item true) Anything FollowsItem some_token_at behind_item (λ t. Reasons Anything (behind_item t) FollowsItem) tokens behind_item_nothing)
    (λ t. (behind_item-good t).sample) (some_token_at tokens) refl (token_outcome ⊥ (Tested parsing.begins_item true) some_token_at Anything (Unit {0}) (ReasonsIf ⊥ (Tested parsing.begins_item true) some_token_at Anything) (some_token_takes (Tested parsing.begins_item true) Anything) tokens e)
    (λ x is ended. (behind_item-good x.0).outcome x.1 ended)

pub item_next : AsksNext parsing.begins_item
item_next l k (Word word) a b = refl
item_next l k (Number digits) a b = refl
item_next l k (Group text) a b = refl
item_next l k (Quoted text) a b = refl
item_next l k t a b = refl

item_follows_item : (t : Token) → Tested parsing.begins_item true t → FollowsItem t
item_follows_item (Word word) next = tt
item_follows_item (Number digits) next = tt
item_follows_item (Group text) next = tt
item_follows_item (Quoted text) next = tt
item_follows_item t next = absurd cc

-- a token that may follow items
abbrev pub FollowsItems : Follow
FollowsItems t = Tested parsing.begins_item false t × FollowsItem t

item_open : Opens parsing.begins_item true ⊥
unfolding is_item_word
item_open t u next (like_word v w other noun) = absurd v
item_open t u next (like_type m other width begins is) = absurd cc
item_open t u next (like_function written other) = absurd cc
item_open t u next (like_width w other width out is) = let no_item : is_item_word w ≡ false = rw out refl in absurd cc
item_open t u next (like_number digits other) = refl

item_shut : Opens parsing.begins_item false ⊥
unfolding is_item_word
item_shut t u none (like_word v w other noun) = absurd v
item_shut t u none (like_type m other width begins is) = rw (type_in-of other width is) refl
item_shut t u none (like_function written other) = refl
item_shut t u none (like_width w other width out is) = rw (type_in-of other width is) refl
item_shut t u none (like_number digits other) = absurd cc

-- behind items no mark begins a record, since a group would be one more item
item_records : (front : List (List ℕ)) (b : Bool) → OpensRecords parsing.begins_item b (Tested parsing.begins_item true) (each_at parsing.begins_item parsing.item_at front) FollowsItems
unfolding parsing.item_at is_item_word type_in
item_records front true (Mark m) begins next = absurd cc
item_records front false (Mark m) begins next = (inl ((front ++ codes "#0" ∷ [], [], λ tokens follows. read tokens follows), λ none. refl), λ end. absurd cc)
  where
    read : (tokens : List Placed) → Next FollowsItems tokens → each_at parsing.begins_item parsing.item_at front ((0, a_group) ∷ tokens) ≡ Ok (front ++ codes "#0" ∷ [], tokens)
    read tokens follows =
        each-more parsing.begins_item parsing.item_at item-takes front ((0, a_group) ∷ tokens) (codes "#0", tokens) refl refl
        ∙ each-done parsing.begins_item parsing.item_at (front ++ codes "#0" ∷ []) tokens (tested_next parsing.begins_item item_next false tokens (next_map FollowsItems (Tested parsing.begins_item false) tokens (λ t f. f.0) follows))
item_records front b t begins next = absurd cc

-- ---- which tokens items take

-- the part is spelled by a prefix of the tokens, whatever stands behind it
abbrev Local : Part → Type 0
Local P = (tokens rest : List Placed) → P tokens rest → (front : List Placed) × (tokens ≡ front ++ rest) × ((others : List Placed) → P (front ++ others) others)

pub item_is_local : (item : List ℕ) → Local (SpellsItem item)
item_is_local item tokens rest (of_word is (l, one)) = ((l, Word item) ∷ [], one, λ others. of_word is (l, refl))
item_is_local item tokens rest (of_word_and_group name group is same (middle, (l, one), (k, two))) =
    ((l, Word name) ∷ (k, KeptGroup group) ∷ [], one ∙ ap (λ (ts : List Placed). (l, Word name) ∷ ts) two, λ others. of_word_and_group name group is same ((k, KeptGroup group) ∷ others, (l, refl), (k, refl)))
item_is_local item tokens rest (of_number (l, one)) = ((l, Number item) ∷ [], one, λ others. of_number (l, refl))
item_is_local item tokens rest (of_group (l, one)) = ((l, Group item) ∷ [], one, λ others. of_group (l, refl))
item_is_local item tokens rest (of_quoted (l, one)) = ((l, Quoted item) ∷ [], one, λ others. of_quoted (l, refl))
item_is_local item tokens rest (of_key_and_value key value same (middle, (l, one), (behind, (k, two), (m, three)))) = (
  (l, Quoted key) ∷ (k, Mark marks.equals) ∷ (m, Quoted value) ∷ [],
  one ∙ ap (λ (ts : List Placed). (l, Quoted key) ∷ ts) (two ∙ ap (λ (ts : List Placed). (k, Mark marks.equals) ∷ ts) three),
  λ others. of_key_and_value key value same ((k, Mark marks.equals) ∷ (m, Quoted value) ∷ others, (l, refl), ((m, Quoted value) ∷ others, (k, refl), (m, refl))),
)

-- items, and one more item
pub one_more : (items : List (List ℕ)) (last : List ℕ) (tokens rest : List Placed) → Each SpellsItem items tokens rest → (front : List Placed) × (tokens ≡ front ++ rest) × ((middle others : List Placed) → SpellsItem last middle others → Each SpellsItem (items ++ last ∷ []) (front ++ middle) others)
one_more [] last tokens rest same = ([], same, λ middle others is. (others, is, refl))
one_more (item ∷ items) last tokens rest (between, one, more) =
    let a = item_is_local item tokens between one in
    let b = one_more items last between rest more in (
      a.0 ++ b.0,
      a.1 ∙ ap (λ (ts : List Placed). a.0 ++ ts) b.1 ∙ sym (append_assoc a.0 b.0 rest),
      λ middle others is. rw (append_assoc a.0 b.0 middle) (b.0 ++ middle, a.2 (b.0 ++ middle), b.2 middle others is),
    )

-- behind items no flag is next, since it would be one more item
items_apart : ReadsApart parsing.items_at
unfolding parsing.items_at is_item_word type_in
items_apart tokens x is =
    let m = one_more x.0 [] tokens x.1 (items_at-is tokens x is) in
    let none = (repeat-is parsing.begins_item (another_at parsing.item_at) (λ a ts b rest. Unit {0}) (λ a ts. tt) (λ a ts y b rest next one more. tt) _ [] tokens x is).1 in
    (m.0, m.1, inr (no_flag x.1 none))
  where
    item : (flag : Flag) → is_item_word (flag_keyword flag) ≡ true
    item Nuw = refl
    item Nsw = refl
    item Exact = refl
    item NNeg = refl
    item Disjoint = refl
    item SameSign = refl

    no_flag : (rest : List Placed) → parsing.begins_item rest ≡ false → NoFlagNext rest
    no_flag [] none = tt
    no_flag ((line, t) ∷ rest) none = λ flag same.
        let next : parsing.begins_item ((line, Word (flag_keyword flag)) ∷ rest) ≡ true = item flag in
        let other : parsing.begins_item ((line, Word (flag_keyword flag)) ∷ rest) ≡ false = subst (λ (u : Token). parsing.begins_item ((line, u) ∷ rest) ≡ false) same none in
        is_one (parsing.begins_item ((line, Word (flag_keyword flag)) ∷ rest)) next other
      where
        is_one : (b : Bool) → b ≡ true → b ≡ false → ⊥
        is_one b holds fails = cc

pub items-good : GoodIf (Unit {0}) Anything parsing.items_at FollowsItems ⊥
unfolding parsing.items_at
items-good = record {
  sample = loop_sample ⊥ FollowsItem FollowsItems ⊥ parsing.begins_item (another_at parsing.item_at) steps Anything (λ t f. tt) [];
  outcome = λ tokens e.
      repeat_outcomes ⊥ FollowsItem FollowsItems ⊥ parsing.begins_item (another_at parsing.item_at) steps (λ a. ReasonsIf ⊥ (Tested parsing.begins_item true) (another_at parsing.item_at a) FollowsItem) (λ E a. Reasons E (each_at parsing.begins_item parsing.item_at a) FollowsItems)
      (loop_lifts ⊥ FollowsItem FollowsItems ⊥ parsing.begins_item (another_at parsing.item_at) steps)
      (λ a ts. nothing_new ⊥ (Unit {0}) (Tested parsing.begins_item true) FollowsItem FollowsItems (another_at parsing.item_at a) (each_at parsing.begins_item parsing.item_at) (λ b. Reasons FollowsItem (each_at parsing.begins_item parsing.item_at b) FollowsItems) ts items_nothing)
      (λ a ts ended next. another ⊥ (Tested parsing.begins_item true) FollowsItem parsing.item_at a ts (item_outcome ts ended next)) (suc (length tokens)) Anything (λ t f. tt) (λ t n. tt) [] tokens (omega arith) e;
  apart = items_apart;
}
  where
    steps : Steps ⊥ FollowsItem FollowsItems ⊥ parsing.begins_item (another_at parsing.item_at)
    steps = steps_of (record { asks = item_next; takes = item-takes; ends = λ t f. f.0; ends_part = λ t f. f.1; next_ends_part = item_follows_item; opens = item_open; shuts = item_shut; records = item_records })

    item_begins : OpensRecords parsing.begins_item true (Tested parsing.begins_item true) parsing.item_at FollowsItem
    item_begins (Mark m) begins next = absurd cc
    item_begins t begins next = absurd cc

    item_outcome : (tokens : List Placed) → Ended tokens → parsing.begins_item tokens ≡ true → OutcomeIf ⊥ (Tested parsing.begins_item true) parsing.item_at FollowsItem (Unit {0}) (ReasonsIf ⊥ (Tested parsing.begins_item true) parsing.item_at FollowsItem) tokens (parsing.item_at tokens)
    item_outcome tokens e next =
        subst (OutcomeIf ⊥ (Tested parsing.begins_item true) parsing.item_at FollowsItem (Unit {0}) (ReasonsIf ⊥ (Tested parsing.begins_item true) parsing.item_at FollowsItem) tokens) (sym (item_from tokens next))
        (reasons_transferred parsing.begins_item item_next true (some_token_at >>= behind_item) parsing.item_at item_from ⊥ ⊥ (Unit {0}) (λ v. v) item_open (Tested parsing.begins_item true) (Tested parsing.begins_item true) FollowsItem item_begins (λ t d. d) (λ t d. d) tokens next ((some_token_at >>= behind_item) tokens) (item_parts_outcome tokens e))

-- ---- items behind which no word may stand

-- a word that is an item and a value
abbrev a_word : List ℕ
a_word = codes "true"

-- behind items, such a word is read as one more item
word_is_read : (tokens : List Placed) (x : List (List ℕ) × List Placed) (front : List Placed) → parsing.items_at tokens ≡ Ok x → tokens ≡ front ++ x.1 → (others : List Placed) → Next FollowsItems others
    → parsing.items_at (front ++ (0, Word a_word) ∷ others) ≡ Ok (x.0 ++ a_word ∷ [], others)
unfolding is_item_word type_in
word_is_read tokens x front is there others next =
    let m = one_more x.0 a_word tokens x.1 (items_at-is tokens x is) in
    let same : m.0 ≡ front = append_cancel_right m.0 front x.1 (sym m.1 ∙ there) in
    let each = m.2 ((0, Word a_word) ∷ others) others (of_word refl (0, refl)) in
    items_at-of (x.0 ++ a_word ∷ []) (front ++ (0, Word a_word) ∷ others) others (subst (λ (ts : List Placed). Each SpellsItem (x.0 ++ a_word ∷ []) (ts ++ (0, Word a_word) ∷ others) others) same each) (no_item others next) (may_follow others next)
  where
    no_item : (ts : List Placed) → Next FollowsItems ts → parsing.begins_item ts ≡ false
    no_item ts n = tested_next parsing.begins_item item_next false ts (next_map FollowsItems (Tested parsing.begins_item false) ts (λ t f. f.0) n)

    may_follow : (ts : List Placed) → Next FollowsItems ts → MayFollowItem ts
    may_follow [] n = absurd n
    may_follow ((l, KeptGroup group) ∷ ts) n = absurd n.1
    may_follow ((l, Mark mark) ∷ ts) n = n.1
    may_follow ((l, t) ∷ ts) n = tt

-- the refused token is a word, which may not stand behind these items
abbrev IsWordFirst : Why
IsWordFirst front t found = (front ≡ []) × (w : List ℕ) × (t.1 ≡ Word w) × (found.line ≡ t.0) × (found.kind ≡ LeftOut w)

-- tokens that are no words
abbrev NotWord : Follow
NotWord t = is_word t ≡ false

no_word_stops : (t : Token) → NotWord t → StopsEach parsing.no_word_at [] tt t
unfolding parsing.no_word_at
no_word_stops (Word word) none = absurd cc
no_word_stops t none = λ l more. refl

-- a token that may follow the last items
abbrev pub FollowsLast : Follow
FollowsLast t = FollowsItems t × NotWord t

-- the parser of what follows the items, where no word may stand
abbrev Behind : List (List ℕ) → Reader (List (List ℕ))
Behind items = parsing.no_word_at >>= λ u. done items

behind_sample : (items : List (List ℕ)) → Sample FollowsItems (Behind items) FollowsLast
behind_sample items =
    (items, [], λ tokens next. (ended tokens (next_map FollowsLast (StopsEach parsing.no_word_at [] tt) tokens (λ t f. no_word_stops t f.1) next), next_map FollowsLast FollowsItems tokens (λ t f. f.0) next))
  where
    ended : (tokens : List Placed) → Next (StopsEach parsing.no_word_at [] tt) tokens → Behind items tokens ≡ Ok (items, tokens)
    ended tokens next = rw (stops parsing.no_word_at [] tt tokens (stops_next parsing.no_word_at [] tt tokens next)) refl

behind_halts : (items : List (List ℕ)) {t u : Token} → is_word t ≡ false → Like (Unit {0}) t u → Halts (Behind items) [] items u
unfolding parsing.no_word_at
behind_halts items none (like_word v w other noun) = absurd cc
behind_halts items none (like_type m other width begins is) = λ more. inr (fault 0 (LeftOut other), refl)
behind_halts items none (like_function written other) = λ more. inl refl
behind_halts items none (like_width w other width out is) = absurd cc
behind_halts items none (like_number digits other) = λ more. inl refl

no_word_apart : ReadsApart parsing.no_word_at
unfolding parsing.no_word_at
no_word_apart [] x is = read_as (λ y. Leaves [] y.1) (tt, []) x is (leaves_all [])
no_word_apart ((line, Word w) ∷ rest) x is = absurd cc
no_word_apart ((line, t) ∷ rest) x is = read_as (λ y. Leaves ((line, t) ∷ rest) y.1) (tt, (line, t) ∷ rest) x is (leaves_all ((line, t) ∷ rest))

behind_apart : (items : List (List ℕ)) → ReadsApart (Behind items)
behind_apart items = both_apart parsing.no_word_at (λ u. done items) no_word_apart (λ u. done_apart items)

behind_outcome : (items : List (List ℕ)) (tokens : List Placed) → Ended tokens → OutcomeIf ⊥ FollowsItems (Behind items) FollowsLast (Unit {0}) IsWordFirst tokens (Behind items tokens)
unfolding parsing.no_word_at
behind_outcome items [] e = absurd e
behind_outcome items ((line, Word w) ∷ rest) e = record { front = []; token = (line, Word w); behind = rest; there = refl; refused = λ more. (fault line (LeftOut w), refl); completes = tt; why = (refl, w, refl, refl, refl); new = λ left. inl (none_repeated (Word w)) }
behind_outcome items ((line, t) ∷ rest) e = record { front = []; there = refl; ended = e; stopped = λ more. refl; follows = λ u f more. let s = no_word_stops u f.1 0 more in rw s refl; completes = tt; nothing = λ none u f. f.0; halts = λ u like. behind_halts items refl like; records = λ begins. inr (λ ending more. inr (fault 0 (LeftOut (ending_word ending)), refl)); groups = λ end begins text more. inl refl; words = λ none u like. like_other refl like }

abbrev three : List Placed → Token → IrFaultKind → List Placed × Token × IrFaultKind
three front t kind = (front, t, kind)

same_three : (f g : List Placed) (s t : Token) (k m : IrFaultKind) → f ≡ g → t ≡ s → m ≡ k → three g s k ≡ three f t m
same_three f g s t k m p q r = cc

-- behind items no word is taken, and so no type
no_type : (items : List (List ℕ)) (front : List Placed) (t u : Token) → front ≡ [] → Widths t u → Bad ⊥ (Behind items) front t u
unfolding parsing.no_word_at
no_type items front t u none ws = subst (λ (f : List Placed). Bad ⊥ (Behind items) f t u) (sym none) (types_bad (Behind items) (λ w n is line more. (fault line (LeftOut w), refl)) ws)

last_items_outcome : (tokens : List Placed) → Ended tokens → Outcome Anything parsing.last_items_at FollowsLast (Reasons Anything parsing.last_items_at FollowsLast) tokens (parsing.last_items_at tokens)
unfolding parsing.last_items_at behind_sample
last_items_outcome tokens e =
    outcome_both (Unit {0}) ⊥ (Unit {0}) Anything FollowsItems FollowsLast parsing.items_at Behind (Reasons Anything parsing.items_at FollowsItems) (λ items. IsWordFirst) (Reasons Anything parsing.last_items_at FollowsLast) tokens
    (record {
      first = λ front t behind there found why. reasons_first (Unit {0}) Anything FollowsItems FollowsLast parsing.items_at Behind behind_sample front t found why;
      second = λ x is o front t behind there found why.
          inl (why.3, second x is o.front o.there front t.1 found.kind (λ u ws. bad_second (Unit {0}) ⊥ Anything FollowsItems parsing.items_at Behind tokens x o front t.0 t.1 behind there u (no_type x.0 front t.1 u why.0 ws)) why.0 (why.1, why.2, why.4));
    })
    (apart_new (Unit {0}) ⊥ Anything FollowsItems FollowsLast parsing.items_at Behind (λ items. IsWordFirst) tokens items_apart)
    behind_sample (parsing.items_at tokens) refl (items-good.outcome tokens e) (λ x is ended. behind_outcome x.0 x.1 ended)
  where
    said : List Placed → Token → IrFaultKind → Type 0
    said front t kind = Reason (Fit Anything parsing.last_items_at FollowsLast front) (Bad (Unit {0}) parsing.last_items_at front) (Again Anything parsing.last_items_at FollowsLast front) (RefusesAt parsing.last_items_at front) t kind

    second : (x : List (List ℕ) × List Placed) → parsing.items_at tokens ≡ Ok x → (first : List Placed) → tokens ≡ first ++ x.1 → (front : List Placed) (t : Token) (kind : IrFaultKind) → ((u : Token) → Widths t u → Bad (Unit {0}) parsing.last_items_at (first ++ front) t u) → front ≡ [] → (w : List ℕ) × (t ≡ Word w) × (kind ≡ LeftOut w) → said (first ++ front) t kind
    second x is first there front t kind no_types none (w, is_one, is_left_out) =
        let whole : first ++ front ≡ first = ap (λ (ts : List Placed). first ++ ts) none ∙ append-nil first in
        let fit : Fit Anything parsing.last_items_at FollowsLast first (Word a_word) = (
          (
            x.0 ++ a_word ∷ [],
            [],
            λ ts next.
                let items = word_is_read tokens x first is there ts (next_map FollowsLast FollowsItems ts (λ v f. f.0) next) in
                let s = behind_sample (x.0 ++ a_word ∷ []) in rw items (s.2 ts next).0,
          ),
          λ v. tt,
        ) in
        let types : (u : Token) → Widths (Word w) u → Bad (Unit {0}) parsing.last_items_at first (Word w) u =
        subst (λ (p : List Placed × Token × IrFaultKind). (u : Token) → Widths p.1 u → Bad (Unit {0}) parsing.last_items_at p.0 p.1 u) (sym (same_three (first ++ front) first (Word w) t (LeftOut w) kind whole is_one is_left_out)) no_types in
        subst (λ (p : List Placed × Token × IrFaultKind). said p.0 p.1 p.2) (same_three (first ++ front) first (Word w) t (LeftOut w) kind whole is_one is_left_out)
        (word_reason (Fit Anything parsing.last_items_at FollowsLast first) (Bad (Unit {0}) parsing.last_items_at first) (Again Anything parsing.last_items_at FollowsLast first) (RefusesAt parsing.last_items_at first) w a_word (nouns.value 1 values.True refl) fit types)

pub last_items-good : Good Anything parsing.last_items_at FollowsLast
unfolding parsing.last_items_at
last_items-good = record { sample = sample_both Anything FollowsItems FollowsLast parsing.items_at Behind items-good.sample behind_sample; outcome = last_items_outcome; apart = both_apart parsing.items_at Behind items_apart behind_apart }
