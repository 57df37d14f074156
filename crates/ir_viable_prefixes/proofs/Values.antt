-- Viable prefixes of an argument's items and value: the value is what stands directly before the end.
use Rattle.ir_viable_prefixes.proofs.Common.{◌≡◌, ◌<◌, ◌≤◌, ℕ, zero, suc, Bool, true, false, not, ◌&&◌, ◌||◌, eqb, List, [], ◌∷◌, ◌++◌, length, Option, Some, None, Ok, Err, refl, sym, ap, subst, ◌∙◌, ◌⊎◌, inl, inr, arith, codes, eqb-true, flag_keyword, constant_of, Token, Placed, KeptGroup, Word, Number, Function, Group, Quoted, Mark, is_last, RawOperand, Fault, IrFaultKind, Syntax, LeftOut, ConstRange, begins_inner_item, ends_argument, no_truth_kind, begins_item, item_at, word_item_at, quoted_item_at, quoted_value_at, ending_word, begins_record, begins_type, Read, Reader, fault, unexpected, goes_on, ◌>>=◌, done, another_at, each_at, each-more, each-done, repeat-fault, repeat-is, bind_ok, inner-takes, EndsArgument, comma, close}
use Rattle.ops.specs.Number.{Number as Numeral}
use Rattle.ir_tokens.specs.declared.raw.RawValue.TheVariants as values
use Rattle.ir_instructions.specs.declared.place.Expected.TheVariants as places
use Rattle.ir_instructions.specs.Places.{misfit}
use Rattle.ir_instructions.specs.TokenReaders.{is_mark, mark_at}
use Rattle.ir_instructions.specs.Punctuation as marks
use Rattle.ir_viable_prefixes.specs.Misfits as nouns
use Rattle.ir_viable_prefixes.proofs.FlagRuns.{NoFlag, IsLeft}
use Rattle.ir_viable_prefixes.proofs.Items.{fixed_left, item_next}
use Rattle.ir_viable_prefixes.proofs.Outcomes.{Again, Follow, Next, Anything, Ended, Completes, Fit, FitsEnd, RefusesAt, RefusesEnd, Bad, a_truth, no_truth, NoValue, no_number, no_word, no_truth_value, no_group, no_quoted, of_value, Why, Reasons, OutcomeIf, Takes, taken}
use Rattle.ir_viable_prefixes.proofs.Prefixed.{is_plain, Prefixed, prefixed, reasons_behind}
use Rattle.ir_viable_prefixes.proofs.Reasons.{a_group, Like, like_word, like_type, like_function, like_width, like_number, fixed_reason}

-- ---- a parser of a value

-- items in front, and the value
abbrev pub In : Reader RawOperand → List (List ℕ) → Reader RawOperand
In Q items = each_at begins_inner_item item_at items >>= λ before. Q

-- the reader takes the token as a value
abbrev pub IsValue : Reader RawOperand → Token → Type 0
IsValue Q t = (line : ℕ) → (x : RawOperand) × ((more : List Placed) → Q ((line, t) ∷ more) ≡ Ok (x, more))

-- it refuses the token, with a kind of fault that may depend on what stands behind
abbrev pub IsNoneBy : Reader RawOperand → Token → (List Placed → IrFaultKind) → Type 0
IsNoneBy Q t kind = (line : ℕ) (more : List Placed) → Q ((line, t) ∷ more) ≡ Err (fault line (kind more))

abbrev pub IsNone : Reader RawOperand → Token → IrFaultKind → Type 0
IsNone Q t kind = IsNoneBy Q t (λ more. kind)

-- the same where the end of an argument stands behind it
abbrev pub IsNoneLast : Reader RawOperand → Token → IrFaultKind → Type 0
IsNoneLast Q t kind = (line : ℕ) (more : List Placed) → Next EndsArgument more → Q ((line, t) ∷ more) ≡ Err (fault line kind)

-- a word that is no value is refused as `LeftOut`, or, where a truth value is expected and the argument ends, as
-- `Syntax`
pub data WordsOf (Q : Reader RawOperand) : Type 0 where
  operands : IsValue Q no_truth → ((w : List ℕ) → IsValue Q (Word w) ⊎ IsNone Q (Word w) (LeftOut w)) → WordsOf Q
  truths : IsNoneBy Q no_truth (no_truth_kind (codes "undef")) → ((w : List ℕ) → IsValue Q (Word w) ⊎ IsNoneBy Q (Word w) (no_truth_kind w)) → WordsOf Q

-- What the parser makes of a token that stands last in an argument and may be an item; every other token it takes or
-- refuses by itself.
pub record ReadsValue (Q : Reader RawOperand) (width : ℕ) : Type 0 where
  pub truth : IsValue Q a_truth
  pub words : WordsOf Q
  pub number : (digits : List ℕ) (n : Numeral) → constant_of digits width ≡ Some n → IsValue Q (Number digits)
  pub no_number : (digits : List ℕ) → constant_of digits width ≡ None → IsNone Q (Number digits) ConstRange
  pub group : (text : List ℕ) → IsNone Q (Group text) Syntax
  pub quoted : (text : List ℕ) → IsNone Q (Quoted text) Syntax
  pub mark : (m : ℕ) → IsNone Q (Mark m) Syntax
  pub kept : (text : List ℕ) → IsNone Q (KeptGroup text) Syntax
  pub shorter : (tokens : List Placed) (x : RawOperand × List Placed) → Q tokens ≡ Ok x → length x.1 < length tokens

-- ---- items, and then the value

-- the end of an argument is next
pub ends_next : (tokens : List Placed) → Next EndsArgument tokens → ends_argument tokens ≡ true
ends_next [] ends = absurd ends
ends_next ((l, t) ∷ tokens) ends = by ends
  where
    by : {u : Token} → EndsArgument u → ends_argument ((l, u) ∷ tokens) ≡ true
    by comma = refl
    by close = refl

-- a word that is no truth value is refused as `Syntax` before the end of an argument
pub none_before : (Q : Reader RawOperand) (w : List ℕ) → IsNoneBy Q (Word w) (no_truth_kind w) → IsNoneLast Q (Word w) Syntax
none_before Q w none line more ends = none line more ∙ rw (ends_next more ends) refl

module _ (Q : Reader RawOperand) where
  -- where no item is next, the value is
  pub here : (items : List (List ℕ)) (tokens : List Placed) → begins_inner_item tokens ≡ false → In Q items tokens ≡ Q tokens
  here items tokens none = rw (each-done begins_inner_item item_at items tokens none) refl

  pub behind : (items : List (List ℕ)) (tokens : List Placed) (x : List ℕ × List Placed) → begins_inner_item tokens ≡ true → item_at tokens ≡ Ok x → In Q items tokens ≡ In Q (items ++ x.0 ∷ []) x.1
  behind items tokens x next one = ap (λ (r : Read (List (List ℕ))). goes_on r (λ before. Q)) (each-more begins_inner_item item_at inner-takes items tokens x next one)

  failed : (items : List (List ℕ)) (tokens : List Placed) (e : Fault IrFaultKind) → begins_inner_item tokens ≡ true → item_at tokens ≡ Err e → In Q items tokens ≡ Err e
  failed items tokens e next one = rw (repeat-fault begins_inner_item (another_at item_at) items tokens e next (rw one refl)) refl

  never : (b : Bool) → (b && not true) ≡ false
  never true = refl
  never false = refl

  -- what stands last is the value
  pub last : (items : List (List ℕ)) (t : Placed) (tokens : List Placed) → Next EndsArgument tokens → In Q items (t ∷ tokens) ≡ Q (t ∷ tokens)
  last items t tokens ends = here items (t ∷ tokens) (rw (ends_next tokens ends) (never (begins_item (t ∷ tokens))))

  pub no_item : (items : List (List ℕ)) (t : Placed) (more : List Placed) → begins_item (t ∷ more) ≡ false → In Q items (t ∷ more) ≡ Q (t ∷ more)
  no_item items t more none = here items (t ∷ more) (rw none refl)

  -- at least one token is taken
  in_shorter : ((tokens : List Placed) (x : RawOperand × List Placed) → Q tokens ≡ Ok x → length x.1 < length tokens) → (items : List (List ℕ)) (tokens : List Placed) (x : RawOperand × List Placed) → In Q items tokens ≡ Ok x → length x.1 < length tokens
  in_shorter shorter items tokens x is =
      let one = bind_ok (each_at begins_inner_item item_at items tokens) (λ before. Q) x is in
      let less : length one.0.1 ≤ length tokens =
      (repeat-is begins_inner_item (another_at item_at) (λ a ts b rest. length rest ≤ length ts) (λ a ts. omega arith) (λ a ts y b rest next step more. another a ts y rest next step more) _ items tokens one.0 one.1).0 in
      let fewer : length x.1 < length one.0.1 = shorter one.0.1 x one.2 in omega arith
    where
      another : (a : List (List ℕ)) (ts : List Placed) (y : List (List ℕ) × List Placed) (rest : List Placed) → begins_inner_item ts ≡ true → another_at item_at a ts ≡ Ok y → length rest ≤ length y.1 → length rest ≤ length ts
      another a ts y rest next step more =
          let one = bind_ok (item_at ts) (λ z. done (a ++ z ∷ [])) y step in
          let fewer : length one.0.1 < length ts = inner-takes ts one.0 next one.1 in
          let same : length one.0.1 ≡ length y.1 = let both : one.0.1 ≡ y.1 = cc in ap length both in omega arith

-- ---- tokens

is_marked : Token → Bool
is_marked (Mark m) = true
is_marked t = false

ends_mark : {t : Token} → EndsArgument t → is_marked t ≡ true
unfolding is_marked
ends_mark comma = refl
ends_mark close = refl

ends_no_type : {t : Token} → EndsArgument t → begins_type t ≡ false
ends_no_type comma = refl
ends_no_type close = refl

ends_no_record : {t : Token} → EndsArgument t → begins_record t ≡ false
ends_no_record comma = refl
ends_no_record close = refl

-- no other token is of the sort of an argument's end
no_like : {W : Type 0} {t u : Token} → EndsArgument t → Like W t u → ⊥
unfolding is_marked
no_like ends (like_word v w other noun) = let mark : is_marked (Word w) ≡ true = ends_mark ends in absurd cc
no_like ends (like_type m other width begins is) = let none : begins_type (Mark m) ≡ false = ends_no_type ends in absurd cc
no_like ends (like_function written other) = let mark : is_marked (Function written) ≡ true = ends_mark ends in absurd cc
no_like ends (like_width w other width out is) = let mark : is_marked (Word w) ≡ true = ends_mark ends in absurd cc
no_like ends (like_number digits other) = let mark : is_marked (Number digits) ≡ true = ends_mark ends in absurd cc

ends_no_flag : {t : Token} → EndsArgument t → NoFlag t
unfolding is_marked
ends_no_flag ends flag is = let mark : is_marked (Word (flag_keyword flag)) ≡ true = subst (λ (u : Token). is_marked u ≡ true) is (ends_mark ends) in absurd cc

is_one : (b : Bool) → b ≡ true → b ≡ false → ⊥
is_one b holds fails = cc

pub end_is : (l : ℕ) (t : Token) (more : List Placed) → ends_argument ((l, t) ∷ more) ≡ true → EndsArgument t
end_is l (Mark m) more ends = by (eqb m marks.comma) (eqb m marks.close_paren) refl refl ends
  where
    by : (b c : Bool) → eqb m marks.comma ≡ b → eqb m marks.close_paren ≡ c → (b || c) ≡ true → EndsArgument (Mark m)
    by true c h k both = subst (λ (n : ℕ). EndsArgument (Mark n)) (sym (eqb-true m marks.comma h)) comma
    by false true h k both = subst (λ (n : ℕ). EndsArgument (Mark n)) (sym (eqb-true m marks.close_paren k)) close
    by false false h k both = absurd cc
end_is l t more ends = absurd cc

-- the lookahead for the end of an argument, and that for an item, depend on the first token alone
same_end : (l : ℕ) (t : Token) (a b : List Placed) → ends_argument ((l, t) ∷ a) ≡ ends_argument ((l, t) ∷ b)
same_end l (Mark m) a b = refl
same_end l t a b = refl

plain_no_end : (l : ℕ) (t : Token) (more : List Placed) → is_plain t ≡ true → ends_argument ((l, t) ∷ more) ≡ false
plain_no_end l (Mark m) more plain = absurd cc
plain_no_end l t more plain = refl

abbrev is_group : Token → Bool
is_group (KeptGroup group) = true
is_group t = false

abbrev is_quoted : Token → Bool
is_quoted (Quoted text) = true
is_quoted t = false

plain_no_group : (t : Token) → is_plain t ≡ true → is_group t ≡ false
plain_no_group (KeptGroup group) plain = absurd cc
plain_no_group t plain = refl

word_alone : (word : List ℕ) (l : ℕ) (t : Token) (more : List Placed) → is_group t ≡ false → word_item_at word ((l, t) ∷ more) ≡ Ok (word, (l, t) ∷ more)
unfolding word_item_at
word_alone word l (KeptGroup group) more none = absurd cc
word_alone word l t more none = refl

plain_no_equals : (l : ℕ) (t : Token) (more : List Placed) → is_plain t ≡ true → is_mark marks.equals ((l, t) ∷ more) ≡ false
plain_no_equals l (Mark m) more plain = absurd cc
plain_no_equals l t more plain = refl

quoted_alone : (key : List ℕ) (tokens : List Placed) → is_mark marks.equals tokens ≡ false → quoted_item_at key tokens ≡ Ok (key, tokens)
unfolding quoted_item_at
quoted_alone key tokens none = rw none refl

-- ---- what the parser of items and a value does

module _ (Q : Reader RawOperand) (width : ℕ) (q : ReadsValue Q width) where
  abbrev pub ValueWhy : List (List ℕ) → Why
  ValueWhy items front t found = Reasons Anything (In Q items) EndsArgument front t found × (IsLeft found.kind → NoFlag t.1)

  pub value_end : (items : List (List ℕ)) (v : Token) → IsValue Q v → FitsEnd Anything (In Q items) EndsArgument [] v
  value_end items v value = let x = value 0 in ((x.0, [], λ ts ends. (last Q items (0, v) ts ends ∙ x.1 ts, ends)), λ none. tt)

  pub none_end : (items : List (List ℕ)) (t v : Token) (kind : IrFaultKind) → Like (Unit {0}) t v → IsNoneLast Q v kind → RefusesEnd (Unit {0}) (In Q items) [] t v
  none_end items t v kind like none = (λ end more ends. (fault 0 kind, last Q items (0, v) (end ∷ more) ends ∙ none 0 (end ∷ more) ends), λ empty. like)

  pub fit_truth : (items : List (List ℕ)) → Fit Anything (In Q items) EndsArgument [] a_truth
  fit_truth items = let v = value_end items a_truth q.truth in ((v.0.0, v.0.1, λ ts ends. (v.0.2 ts ends).0), λ none. tt)

  -- a group is an item
  pub fit_group : (items : List (List ℕ)) → Fit Anything (In Q items) EndsArgument [] a_group
  unfolding item_at
  fit_group items =
      let x = q.truth 0 in
      ((x.0, (0, a_truth) ∷ [], λ ts ends. behind Q items ((0, a_group) ∷ (0, a_truth) ∷ ts) (codes "#0", (0, a_truth) ∷ ts) refl refl ∙ last Q (items ++ codes "#0" ∷ []) (0, a_truth) ts ends ∙ x.1 ts), λ none. tt)

  -- behind an item, a truth value completes an argument
  completion : (items : List (List ℕ)) (before : List (List ℕ)) (first : Placed) (others : List Placed) → ((more : List Placed) → In Q before (first ∷ (others ++ (0, a_truth) ∷ more)) ≡ In Q items ((0, a_truth) ∷ more)) → Completes (In Q before) EndsArgument (first ∷ others)
  completion items before first others agree = let x = q.truth 0 in (x.0, (0, a_truth) ∷ [], λ ts ends. agree ts ∙ last Q items (0, a_truth) ts ends ∙ x.1 ts)

  -- ---- a token that stands last

  value_last : (items : List (List ℕ)) (l : ℕ) (t : Token) (k : ℕ) (u : Token) (rest : List Placed) → Ended ((l, t) ∷ (k, u) ∷ rest) → EndsArgument u → IsValue Q t
      → OutcomeIf (Unit {0}) Anything (In Q items) EndsArgument (Unit {0}) (ValueWhy items) ((l, t) ∷ (k, u) ∷ rest) (In Q items ((l, t) ∷ (k, u) ∷ rest))
  value_last items l t k u rest e ends value =
      let x = value l in
      subst (OutcomeIf (Unit {0}) Anything (In Q items) EndsArgument (Unit {0}) (ValueWhy items) ((l, t) ∷ (k, u) ∷ rest)) (sym (last Q items (l, t) ((k, u) ∷ rest) ends ∙ x.1 ((k, u) ∷ rest)))
      (record {
        front = (l, t) ∷ [];
        there = refl;
        ended = e.1;
        stopped = λ more. last Q items (l, t) ((k, u) ∷ more) ends ∙ x.1 ((k, u) ∷ more);
        halts = λ v like. absurd (no_like ends like);
        records = λ begins. absurd (is_one (begins_record u) begins (ends_no_record ends));
        groups = λ end begins. absurd (is_one (begins_record u) begins (ends_no_record ends));
        follows = λ v f more. last Q items (l, t) ((0, v) ∷ more) f ∙ x.1 ((0, v) ∷ more);
        completes = (x.0, [], λ ts f. last Q items (l, t) ts f ∙ x.1 ts);
        nothing = λ none. absurd cc;
        words = λ none. absurd cc;
      })

  none_last : (items : List (List ℕ)) (l : ℕ) (t : Token) (k : ℕ) (u : Token) (rest : List Placed) (kind : IrFaultKind) → EndsArgument u → IsNoneLast Q t kind → NoValue (Unit {0}) Anything (In Q items) EndsArgument [] t kind
      → (item : List ℕ) → begins_item ((l, t) ∷ []) ≡ true → ((more : List Placed) → item_at ((l, t) ∷ (0, a_truth) ∷ more) ≡ Ok (item, (0, a_truth) ∷ more))
      → OutcomeIf (Unit {0}) Anything (In Q items) EndsArgument (Unit {0}) (ValueWhy items) ((l, t) ∷ (k, u) ∷ rest) (In Q items ((l, t) ∷ (k, u) ∷ rest))
  none_last items l t k u rest kind ends none no_value item begins one =
      subst (OutcomeIf (Unit {0}) Anything (In Q items) EndsArgument (Unit {0}) (ValueWhy items) ((l, t) ∷ (k, u) ∷ rest)) (sym (last Q items (l, t) ((k, u) ∷ rest) ends ∙ none l ((k, u) ∷ rest) ends))
      (record {
        front = (l, t) ∷ [];
        token = (k, u);
        behind = rest;
        there = refl;
        refused = λ more. (fault l kind, last Q items (l, t) ((k, u) ∷ more) ends ∙ none l ((k, u) ∷ more) ends);
        completes = completion (items ++ item ∷ []) items (l, t) [] (λ more. behind Q items ((l, t) ∷ (0, a_truth) ∷ more) (item, (0, a_truth) ∷ more) (rw (same_item l t ((0, a_truth) ∷ more) [] ∙ begins) refl) (one more));
        why = (
          inr (of_value [] l t (k, u) kind refl ends (λ other is more. (fault l kind, last Q items (l, t) (other ∷ more) is ∙ none l (other ∷ more) is)) (fit_group items) (value_end items a_truth q.truth) no_value),
          λ left. ends_no_flag ends,
        );
        new = λ left. inl (λ again. ends_no_flag ends again.2.2 (again.1 ∙ ap Word again.2.5));
      })
    where
      same_item : (l : ℕ) (t : Token) (a b : List Placed) → begins_item ((l, t) ∷ a) ≡ begins_item ((l, t) ∷ b)
      same_item l t a b = item_next l l t a b

  last_outcome : (items : List (List ℕ)) (l : ℕ) (t : Token) (k : ℕ) (u : Token) (rest : List Placed) → Ended ((l, t) ∷ (k, u) ∷ rest) → EndsArgument u → begins_item ((l, t) ∷ []) ≡ true
      → OutcomeIf (Unit {0}) Anything (In Q items) EndsArgument (Unit {0}) (ValueWhy items) ((l, t) ∷ (k, u) ∷ rest) (In Q items ((l, t) ∷ (k, u) ∷ rest))
  unfolding item_at word_item_at quoted_item_at
  last_outcome items l (Word w) k u rest e ends begins = by q.words
    where
      by : WordsOf Q → OutcomeIf (Unit {0}) Anything (In Q items) EndsArgument (Unit {0}) (ValueWhy items) ((l, Word w) ∷ (k, u) ∷ rest) (In Q items ((l, Word w) ∷ (k, u) ∷ rest))
      by (operands undef others) = of (others w)
        where
          of : IsValue Q (Word w) ⊎ IsNone Q (Word w) (LeftOut w) → OutcomeIf (Unit {0}) Anything (In Q items) EndsArgument (Unit {0}) (ValueWhy items) ((l, Word w) ∷ (k, u) ∷ rest) (In Q items ((l, Word w) ∷ (k, u) ∷ rest))
          of (inl value) = value_last items l (Word w) k u rest e ends value
          of (inr none) = none_last items l (Word w) k u rest (LeftOut w) ends (λ line more last_end. none line more) (no_word w (value_end items no_truth undef)) w begins (λ more. refl)
      by (truths undef others) = of (others w)
        where
          of : IsValue Q (Word w) ⊎ IsNoneBy Q (Word w) (no_truth_kind w) → OutcomeIf (Unit {0}) Anything (In Q items) EndsArgument (Unit {0}) (ValueWhy items) ((l, Word w) ∷ (k, u) ∷ rest) (In Q items ((l, Word w) ∷ (k, u) ∷ rest))
          of (inl value) = value_last items l (Word w) k u rest e ends value
          of (inr none) =
              none_last items l (Word w) k u rest Syntax ends (none_before Q w none)
              (no_truth_value w (none_end items (Word w) no_truth Syntax (like_word tt w (codes "undef") (nouns.value 1 values.Undef refl)) (none_before Q (codes "undef") undef))) w begins (λ more. refl)
  last_outcome items l (Number digits) k u rest e ends begins = by (constant_of digits width) refl
    where
      by : (n : Option Numeral) → constant_of digits width ≡ n → OutcomeIf (Unit {0}) Anything (In Q items) EndsArgument (Unit {0}) (ValueWhy items) ((l, Number digits) ∷ (k, u) ∷ rest) (In Q items ((l, Number digits) ∷ (k, u) ∷ rest))
      by (Some n) h = value_last items l (Number digits) k u rest e ends (q.number digits n h)
      by None h =
          none_last items l (Number digits) k u rest ConstRange ends (λ line more last_end. q.no_number digits h line more)
          (no_number digits width h (λ other n is. value_end items (Number other) (q.number other n is)) (λ other is. none_end items (Number digits) (Number other) ConstRange (like_number digits other) (λ line more last_end. q.no_number other is line more))) digits refl (λ more. refl)
  last_outcome items l (Group text) k u rest e ends begins = none_last items l (Group text) k u rest Syntax ends (λ line more last_end. q.group text line more) (no_group text) text refl (λ more. refl)
  last_outcome items l (Quoted text) k u rest e ends begins = none_last items l (Quoted text) k u rest Syntax ends (λ line more last_end. q.quoted text line more) (no_quoted text) text refl (λ more. refl)
  last_outcome items l t k u rest e ends begins = absurd cc

  -- ---- an item first

  -- behind an item the rest is read as by itself
  item_first : (items next_items : List (List ℕ)) (first : Placed) (others : List Placed) (next : Placed) (rest : List Placed)
      → ((more : List Placed) → In Q items (first ∷ (others ++ next ∷ more)) ≡ In Q next_items (next ∷ more))
      → ((u : Token) → is_plain u ≡ true → (more : List Placed) → In Q items (first ∷ (others ++ (0, u) ∷ more)) ≡ In Q next_items ((0, u) ∷ more))
      → OutcomeIf (Unit {0}) Anything (In Q next_items) EndsArgument (Unit {0}) (ValueWhy next_items) (next ∷ rest) (In Q next_items (next ∷ rest))
      → OutcomeIf (Unit {0}) Anything (In Q items) EndsArgument (Unit {0}) (ValueWhy items) (first ∷ (others ++ next ∷ rest)) (In Q items (first ∷ (others ++ next ∷ rest)))
  item_first items next_items first others next rest agree agree_plain o =
      subst (OutcomeIf (Unit {0}) Anything (In Q items) EndsArgument (Unit {0}) (ValueWhy items) (first ∷ (others ++ next ∷ rest))) (sym (agree rest))
      (prefixed (In Q items) (In Q next_items) (Unit {0}) Anything EndsArgument plain first others next rest reads (Unit {0}) (ValueWhy next_items) (ValueWhy items)
      (λ front t tail there found why. (reasons_behind (In Q items) (In Q next_items) (Unit {0}) Anything EndsArgument plain first others next rest reads front t tail there found why.0, why.1))
      (λ found is r left. inl (λ again. r.why.1 left again.2.2 (again.1 ∙ ap Word again.2.5))) (In Q next_items (next ∷ rest)) refl o)
    where
      plain : Follow
      plain u = is_plain u ≡ true

      out : (u : Token) → plain u ⊎ RefusesAt (In Q next_items) [] u
      out (Mark m) = inr (λ more. (fault 0 Syntax, no_item Q next_items (0, Mark m) more refl ∙ q.mark m 0 more))
      out (KeptGroup group) = inr (λ more. (fault 0 Syntax, no_item Q next_items (0, KeptGroup group) more refl ∙ q.kept group 0 more))
      out u = inl refl

      reads : Prefixed (In Q items) (In Q next_items) EndsArgument plain first others next rest
      reads = record {
        agree = agree;
        agree_own = agree_plain;
        plain = λ u is. is;
        out = out;
        nothing = λ x is same. let fewer : length x.1 < length (next ∷ rest) = in_shorter Q q.shorter next_items (next ∷ rest) x is in absurd (omega (arith, ap length same));
        completes = completion next_items items first others (agree_plain a_truth refl);
        end = Mark marks.comma;
        may_end = comma;
      }

  -- a token that is an item by itself
  one_first : (items : List (List ℕ)) (item : List ℕ) (l : ℕ) (t : Token) (k : ℕ) (u : Token) (rest : List Placed) → begins_item ((l, t) ∷ []) ≡ true → ends_argument ((k, u) ∷ rest) ≡ false
      → ((more : List Placed) → item_at ((l, t) ∷ (k, u) ∷ more) ≡ Ok (item, (k, u) ∷ more)) → ((v : Token) → is_plain v ≡ true → (more : List Placed) → item_at ((l, t) ∷ (0, v) ∷ more) ≡ Ok (item, (0, v) ∷ more))
      → OutcomeIf (Unit {0}) Anything (In Q (items ++ item ∷ [])) EndsArgument (Unit {0}) (ValueWhy (items ++ item ∷ [])) ((k, u) ∷ rest) (In Q (items ++ item ∷ []) ((k, u) ∷ rest))
      → OutcomeIf (Unit {0}) Anything (In Q items) EndsArgument (Unit {0}) (ValueWhy items) ((l, t) ∷ (k, u) ∷ rest) (In Q items ((l, t) ∷ (k, u) ∷ rest))
  one_first items item l t k u rest begins going one one_plain o =
      item_first items (items ++ item ∷ []) (l, t) [] (k, u) rest
      (λ more. behind Q items ((l, t) ∷ (k, u) ∷ more) (item, (k, u) ∷ more) (rw (item_next l l t ((k, u) ∷ more) [] ∙ begins, same_end k u more rest ∙ going) refl) (one more))
      (λ v plain more. behind Q items ((l, t) ∷ (0, v) ∷ more) (item, (0, v) ∷ more) (rw (item_next l l t ((0, v) ∷ more) [] ∙ begins, plain_no_end 0 v more plain) refl) (one_plain v plain more))
      o

  -- ---- any tokens

  -- given what it does with a token that begins no item
  module _ (alone : (items : List (List ℕ)) (l : ℕ) (t : Token) → begins_item ((l, t) ∷ []) ≡ false → Takes (In Q items) (ValueWhy items) l t) where
    -- the induction hypothesis, for fewer tokens
    abbrev Shown : List Placed → Type 0
    Shown tokens = (items : List (List ℕ)) → OutcomeIf (Unit {0}) Anything (In Q items) EndsArgument (Unit {0}) (ValueWhy items) tokens (In Q items tokens)

    word_first : (items : List (List ℕ)) (l : ℕ) (w : List ℕ) (k : ℕ) (u : Token) (rest : List Placed) → Ended ((l, Word w) ∷ (k, u) ∷ rest) → begins_item ((l, Word w) ∷ []) ≡ true → ends_argument ((k, u) ∷ rest) ≡ false
        → ((tokens : List Placed) → length tokens ≤ length ((k, u) ∷ rest) → Ended tokens → Shown tokens) → OutcomeIf (Unit {0}) Anything (In Q items) EndsArgument (Unit {0}) (ValueWhy items) ((l, Word w) ∷ (k, u) ∷ rest) (In Q items ((l, Word w) ∷ (k, u) ∷ rest))
    unfolding item_at word_item_at
    word_first items l w k (KeptGroup group) [] e begins going fewer = absurd cc
    word_first items l w k (KeptGroup group) (next ∷ rest) e begins going fewer =
        item_first items (items ++ (w ++ group) ∷ []) (l, Word w) ((k, KeptGroup group) ∷ []) next rest
        (λ more. behind Q items ((l, Word w) ∷ (k, KeptGroup group) ∷ next ∷ more) (w ++ group, next ∷ more) (rw begins refl) refl)
        (λ v plain more. behind Q items ((l, Word w) ∷ (k, KeptGroup group) ∷ (0, v) ∷ more) (w ++ group, (0, v) ∷ more) (rw begins refl) refl)
        (fewer (next ∷ rest) (omega arith) e.1.1 (items ++ (w ++ group) ∷ []))
    word_first items l w k u rest e begins going fewer =
        one_first items w l (Word w) k u rest begins going (λ more. refl) (λ v plain more. word_alone w 0 v more (plain_no_group v plain)) (fewer ((k, u) ∷ rest) (omega arith) e.1 (items ++ w ∷ []))

    -- a key with its `=` and value behind it begins an inner item
    key_begins : (l : ℕ) (key : List ℕ) (k m : ℕ) (more : List Placed) → eqb m marks.equals ≡ true → begins_inner_item ((l, Quoted key) ∷ (k, Mark m) ∷ more) ≡ true
    key_begins l key k m more equals = subst (λ (n : ℕ). begins_inner_item ((l, Quoted key) ∷ (k, Mark n) ∷ more) ≡ true) (sym (eqb-true m marks.equals equals)) refl

    key_and_value : (l : ℕ) (key : List ℕ) (k m j : ℕ) (text : List ℕ) (more : List Placed) → eqb m marks.equals ≡ true → item_at ((l, Quoted key) ∷ (k, Mark m) ∷ (j, Quoted text) ∷ more) ≡ Ok (key ++ marks.equals ∷ text, more)
    unfolding item_at quoted_item_at mark_at quoted_value_at
    key_and_value l key k m j text more equals = rw equals refl

    no_key_value : (l : ℕ) (key : List ℕ) (k m j : ℕ) (t : Token) (more : List Placed) → eqb m marks.equals ≡ true → is_quoted t ≡ false → item_at ((l, Quoted key) ∷ (k, Mark m) ∷ (j, t) ∷ more) ≡ Err (fault j (misfit places.Fixed t))
    unfolding item_at quoted_item_at mark_at quoted_value_at unexpected
    no_key_value l key k m j (Quoted text) more equals none = absurd cc
    no_key_value l key k m j t more equals none = rw equals refl

    like_no_quoted : {W : Type 0} {t u : Token} → Like W t u → is_quoted u ≡ false
    like_no_quoted (like_word v w other noun) = refl
    like_no_quoted (like_type m other width begins is) = refl
    like_no_quoted (like_function written other) = refl
    like_no_quoted (like_width w other width out is) = refl
    like_no_quoted (like_number digits other) = refl

    no_value_behind : (items : List (List ℕ)) (l : ℕ) (key : List ℕ) (k m j : ℕ) (t : Token) (rest : List Placed) → eqb m marks.equals ≡ true → is_quoted t ≡ false
        → OutcomeIf (Unit {0}) Anything (In Q items) EndsArgument (Unit {0}) (ValueWhy items) ((l, Quoted key) ∷ (k, Mark m) ∷ (j, t) ∷ rest) (In Q items ((l, Quoted key) ∷ (k, Mark m) ∷ (j, t) ∷ rest))
    no_value_behind items l key k m j t rest equals none =
        subst (OutcomeIf (Unit {0}) Anything (In Q items) EndsArgument (Unit {0}) (ValueWhy items) ((l, Quoted key) ∷ (k, Mark m) ∷ (j, t) ∷ rest)) (sym (refused j t none rest))
        (record {
          front = (l, Quoted key) ∷ (k, Mark m) ∷ [];
          token = (j, t);
          behind = rest;
          there = refl;
          refused = λ more. (fault j (misfit places.Fixed t), refused j t none more);
          completes = (
            x.0,
            (0, Quoted (codes "\"\"")) ∷ (0, a_truth) ∷ [],
            λ ts ends.
                behind Q items ((l, Quoted key) ∷ (k, Mark m) ∷ (0, Quoted (codes "\"\"")) ∷ (0, a_truth) ∷ ts) (key ++ marks.equals ∷ codes "\"\"", (0, a_truth) ∷ ts) (key_begins l key k m ((0, Quoted (codes "\"\"")) ∷ (0, a_truth) ∷ ts) equals)
                (key_and_value l key k m 0 (codes "\"\"") ((0, a_truth) ∷ ts) equals)
                ∙ last Q (items ++ (key ++ marks.equals ∷ codes "\"\"") ∷ []) (0, a_truth) ts ends ∙ x.1 ts,
          );
          why = (
            inl (
              refl,
              fixed_reason (Fit Anything (In Q items) EndsArgument front) (Bad (Unit {0}) (In Q items) front) (Again Anything (In Q items) EndsArgument front) (RefusesAt (In Q items) front) t
                  (λ u like. (λ more. (fault 0 (misfit places.Fixed u), refused 0 u (like_no_quoted like) more), λ empty. absurd cc), λ begins. inr (λ ending more. (fault 0 (misfit places.Fixed (Word (ending_word ending))), refused 0 (Word (ending_word ending)) refl more))),
            ),
            λ left. absurd (fixed_left t left),
          );
          new = λ left. absurd (fixed_left t left);
        })
      where
        front : List Placed
        front = (l, Quoted key) ∷ (k, Mark m) ∷ []

        x : (x : RawOperand) × ((more : List Placed) → Q ((0, a_truth) ∷ more) ≡ Ok (x, more))
        x = q.truth 0

        refused : (i : ℕ) (u : Token) → is_quoted u ≡ false → (more : List Placed) → In Q items ((l, Quoted key) ∷ (k, Mark m) ∷ (i, u) ∷ more) ≡ Err (fault i (misfit places.Fixed u))
        refused i u other more =
            failed Q items ((l, Quoted key) ∷ (k, Mark m) ∷ (i, u) ∷ more) (fault i (misfit places.Fixed u)) (key_begins l key k m ((i, u) ∷ more) equals) (no_key_value l key k m i u more equals other)

    value_behind : (items : List (List ℕ)) (l : ℕ) (key : List ℕ) (k : ℕ) (m : ℕ) (rest : List Placed) → Ended ((l, Quoted key) ∷ (k, Mark m) ∷ rest) → eqb m marks.equals ≡ true
        → ((tokens : List Placed) → length tokens ≤ length rest → Ended tokens → Shown tokens) → OutcomeIf (Unit {0}) Anything (In Q items) EndsArgument (Unit {0}) (ValueWhy items) ((l, Quoted key) ∷ (k, Mark m) ∷ rest) (In Q items ((l, Quoted key) ∷ (k, Mark m) ∷ rest))
    value_behind items l key k m [] e equals fewer = absurd cc
    value_behind items l key k m ((j, Quoted text) ∷ []) e equals fewer = absurd cc
    value_behind items l key k m ((j, Quoted text) ∷ next ∷ rest) e equals fewer =
        item_first items (items ++ (key ++ marks.equals ∷ text) ∷ []) (l, Quoted key) ((k, Mark m) ∷ (j, Quoted text) ∷ []) next rest
        (λ more. behind Q items ((l, Quoted key) ∷ (k, Mark m) ∷ (j, Quoted text) ∷ next ∷ more) (key ++ marks.equals ∷ text, next ∷ more) (key_begins l key k m ((j, Quoted text) ∷ next ∷ more) equals) (key_and_value l key k m j text (next ∷ more) equals))
        (λ v plain more. behind Q items ((l, Quoted key) ∷ (k, Mark m) ∷ (j, Quoted text) ∷ (0, v) ∷ more) (key ++ marks.equals ∷ text, (0, v) ∷ more) (key_begins l key k m ((j, Quoted text) ∷ (0, v) ∷ more) equals) (key_and_value l key k m j text ((0, v) ∷ more) equals))
        (fewer (next ∷ rest) (omega arith) e.1.1.1 (items ++ (key ++ marks.equals ∷ text) ∷ []))
    value_behind items l key k m ((j, t) ∷ rest) e equals fewer = no_value_behind items l key k m j t rest equals refl

    key_first : (items : List (List ℕ)) (l : ℕ) (key : List ℕ) (k : ℕ) (u : Token) (rest : List Placed) → Ended ((l, Quoted key) ∷ (k, u) ∷ rest) → ends_argument ((k, u) ∷ rest) ≡ false
        → ((tokens : List Placed) → length tokens ≤ length ((k, u) ∷ rest) → Ended tokens → Shown tokens) → OutcomeIf (Unit {0}) Anything (In Q items) EndsArgument (Unit {0}) (ValueWhy items) ((l, Quoted key) ∷ (k, u) ∷ rest) (In Q items ((l, Quoted key) ∷ (k, u) ∷ rest))
    unfolding item_at
    key_first items l key k (Mark m) rest e going fewer = by (eqb m marks.equals) refl
      where
        by : (b : Bool) → eqb m marks.equals ≡ b → OutcomeIf (Unit {0}) Anything (In Q items) EndsArgument (Unit {0}) (ValueWhy items) ((l, Quoted key) ∷ (k, Mark m) ∷ rest) (In Q items ((l, Quoted key) ∷ (k, Mark m) ∷ rest))
        by true h = value_behind items l key k m rest e h (λ tokens less. fewer tokens (omega arith))
        by false h =
            one_first items key l (Quoted key) k (Mark m) rest refl going (λ more. quoted_alone key ((k, Mark m) ∷ more) h) (λ v plain more. quoted_alone key ((0, v) ∷ more) (plain_no_equals 0 v more plain))
            (fewer ((k, Mark m) ∷ rest) (omega arith) e.1 (items ++ key ∷ []))
    key_first items l key k u rest e going fewer =
        one_first items key l (Quoted key) k u rest refl going (λ more. quoted_alone key ((k, u) ∷ more) refl) (λ v plain more. quoted_alone key ((0, v) ∷ more) (plain_no_equals 0 v more plain)) (fewer ((k, u) ∷ rest) (omega arith) e.1 (items ++ key ∷ []))

    item_outcome : (items : List (List ℕ)) (l : ℕ) (t : Token) (k : ℕ) (u : Token) (rest : List Placed) → Ended ((l, t) ∷ (k, u) ∷ rest) → begins_item ((l, t) ∷ []) ≡ true → ends_argument ((k, u) ∷ rest) ≡ false
        → ((tokens : List Placed) → length tokens ≤ length ((k, u) ∷ rest) → Ended tokens → Shown tokens) → OutcomeIf (Unit {0}) Anything (In Q items) EndsArgument (Unit {0}) (ValueWhy items) ((l, t) ∷ (k, u) ∷ rest) (In Q items ((l, t) ∷ (k, u) ∷ rest))
    unfolding item_at
    item_outcome items l (Word w) k u rest e begins going fewer = word_first items l w k u rest e begins going fewer
    item_outcome items l (Number digits) k u rest e begins going fewer = one_first items digits l (Number digits) k u rest refl going (λ more. refl) (λ v plain more. refl) (fewer ((k, u) ∷ rest) (omega arith) e.1 (items ++ digits ∷ []))
    item_outcome items l (Group text) k u rest e begins going fewer = one_first items text l (Group text) k u rest refl going (λ more. refl) (λ v plain more. refl) (fewer ((k, u) ∷ rest) (omega arith) e.1 (items ++ text ∷ []))
    item_outcome items l (Quoted key) k u rest e begins going fewer = key_first items l key k u rest e going fewer
    item_outcome items l t k u rest e begins going fewer = absurd cc

    alone_outcome : (items : List (List ℕ)) (l : ℕ) (t : Token) (rest : List Placed) → Ended ((l, t) ∷ rest) → begins_item ((l, t) ∷ []) ≡ false → OutcomeIf (Unit {0}) Anything (In Q items) EndsArgument (Unit {0}) (ValueWhy items) ((l, t) ∷ rest) (In Q items ((l, t) ∷ rest))
    alone_outcome items l t rest e none = taken (Unit {0}) Anything (In Q items) EndsArgument (Unit {0}) (ValueWhy items) l t rest e (alone items l t none)

    last_no_item : (l : ℕ) (t : Token) → is_last t ≡ true → begins_item ((l, t) ∷ []) ≡ false
    last_no_item l (Word w) end = absurd cc
    last_no_item l (Number w) end = absurd cc
    last_no_item l (Group w) end = absurd cc
    last_no_item l (Quoted w) end = absurd cc
    last_no_item l t end = refl

    pub value_outcome : (n : ℕ) (items : List (List ℕ)) (tokens : List Placed) → length tokens < n → Ended tokens → OutcomeIf (Unit {0}) Anything (In Q items) EndsArgument (Unit {0}) (ValueWhy items) tokens (In Q items tokens)
    value_outcome zero items tokens short e = absurd (omega arith)
    value_outcome (suc n) items [] short e = absurd e
    value_outcome (suc n) items ((l, t) ∷ []) short e = alone_outcome items l t [] e (last_no_item l t e)
    value_outcome (suc n) items ((l, t) ∷ (k, u) ∷ rest) short e = by (λ ts less ended before. value_outcome n before ts (omega arith) ended) (begins_item ((l, t) ∷ [])) (ends_argument ((k, u) ∷ rest)) refl refl
      where
        by : ((ts : List Placed) → length ts ≤ length ((k, u) ∷ rest) → Ended ts → Shown ts) → (b c : Bool) → begins_item ((l, t) ∷ []) ≡ b → ends_argument ((k, u) ∷ rest) ≡ c
            → OutcomeIf (Unit {0}) Anything (In Q items) EndsArgument (Unit {0}) (ValueWhy items) ((l, t) ∷ (k, u) ∷ rest) (In Q items ((l, t) ∷ (k, u) ∷ rest))
        by fewer false c none ends = alone_outcome items l t ((k, u) ∷ rest) e none
        by fewer true true begins ends = last_outcome items l t k u rest e (end_is k u rest ends) begins
        by fewer true false begins going = item_outcome items l t k u rest e begins going fewer
