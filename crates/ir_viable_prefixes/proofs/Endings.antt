-- Viable prefixes of what stands behind a call: the items on the line of its `)`, and attachments.
use Rattle.ir_viable_prefixes.proofs.Common.{◌≡◌, ◌≢◌, ◌<◌, ℕ, zero, suc, Bool, true, false, ◌&&◌, cond, eqb, eq-eqb, List, [], ◌∷◌, ◌++◌, length, Ok, Err, refl, sym, ap, subst, ◌∙◌, inl, inr, append_assoc, arith, eqb-true, codes, is_plain_name, is_number, Token, Placed, KeptGroup, Word, Number, Function, Group, Metadata, Quoted, Mark, is_last, Fault, IrFaultKind, Syntax, is_on_line, begins_late_item, late_value_at, late_quoted_at, late_group_at, late_item_at, each_late_item_at, some_token_at, late_items_at, close_at, begins_item, ending_word, leaves_out, Read, Reader, fault, unexpected, goes_on, ◌>>=◌, done, tail_attachment_at, repeat-more, repeat-fault, repeat-done, read_as, tail-takes, late-takes, EndsArgument, close}
use Rattle.scan.specs.Bytes as bytes
use Rattle.ir_instructions.specs.declared.place.Expected.TheVariants as places
use Rattle.ir_instructions.specs.declared.word.Ending.{Ending as Word_ending}
use Rattle.ir_instructions.specs.Places.{misfit}
use Rattle.ir_instructions.specs.TokenReaders.{is_mark, mark_at, metadata_at, attachment_at, tail_at}
use Rattle.ir_instructions.specs.Punctuation as marks
use Rattle.ir_viable_prefixes.proofs.Choices.{tested_next}
use Rattle.ir_viable_prefixes.proofs.FlagRuns.{IsLeft, Splits, apart_splits, both_splits, loop_splits, LeavesNothingOut, fault_left, done_nothing, both_nothing, loop_nothing}
use Rattle.ir_viable_prefixes.proofs.Items.{fixed_left, syntax_left, item_next}
use Rattle.ir_viable_prefixes.proofs.Outcomes.{Again, Follow, Next, Anything, Ended, Completes, Fit, RefusesAt, Bad, bad_first, Reasons, OutcomeIf, Takes, refuses, taken, Good, GoodOpen, done-good, ◌then◌}
use Rattle.ir_viable_prefixes.proofs.Prefixed.{Prefixed, prefixed, reasons_behind}
use Rattle.ir_viable_prefixes.proofs.Reasons.{Like, like_word, like_type, like_function, like_width, like_number, fixed_reason}
use Rattle.ir_viable_prefixes.proofs.Statements.{NotComma, mark_next, tail-good}
use Rattle.ir_viable_prefixes.proofs.TokenReaders.{all_bad, mark-good}

-- ---- attachments, with the result mapped

abbrev pub Ending : {A : Type 0} → A → Reader A
Ending x = tail_at >>= λ u. done x

pub ending-good : {A : Type 0} (x : A) → Good Anything (Ending x) NotComma
ending-good x = tail-good then (λ u. done-good (λ t f. f) x)

-- no fault of attachments is `LeftOut`
abbrev the_read : {A : Type 0} → Read A → Read A
the_read r = r

abbrev Nothing : Unit {0} × List Placed → Unit {0} × List Placed
Nothing x = x

comma_nothing : LeavesNothingOut (mark_at marks.comma)
unfolding mark_at unexpected
comma_nothing [] found is = fault_left (fault 0 Syntax) found is syntax_left
comma_nothing ((line, Mark m) ∷ rest) found is = by (eqb m marks.comma) is
  where
    by : (b : Bool) → cond b (the_read (Ok (Nothing (tt, rest)))) (Err (fault line Syntax)) ≡ Err found → ¬ IsLeft found.kind
    by true is = absurd cc
    by false is = fault_left (fault line Syntax) found is syntax_left
comma_nothing ((line, t) ∷ rest) found is = fault_left (fault line (misfit places.Fixed t)) found is (fixed_left t)

metadata_nothing : (test : List ℕ → Bool) → LeavesNothingOut (metadata_at test)
unfolding metadata_at unexpected
metadata_nothing test [] found is = fault_left (fault 0 Syntax) found is syntax_left
metadata_nothing test ((line, Metadata text) ∷ rest) found is = by (test text) is
  where
    by : (b : Bool) → cond b (the_read (Ok (Nothing (tt, rest)))) (Err (fault line Syntax)) ≡ Err found → ¬ IsLeft found.kind
    by true is = absurd cc
    by false is = fault_left (fault line Syntax) found is syntax_left
metadata_nothing test ((line, t) ∷ rest) found is = fault_left (fault line (misfit places.Fixed t)) found is (fixed_left t)

tail_attachment_nothing : LeavesNothingOut tail_attachment_at
unfolding tail_attachment_at attachment_at
tail_attachment_nothing = both_nothing (mark_at marks.comma) (λ u. metadata_at is_plain_name >>= λ v. metadata_at is_number) comma_nothing (λ u. both_nothing (metadata_at is_plain_name) (λ v. metadata_at is_number) (metadata_nothing is_plain_name) (λ v. metadata_nothing is_number))

ending_nothing : {A : Type 0} (x : A) → LeavesNothingOut (Ending x)
unfolding tail_at
ending_nothing x =
    both_nothing tail_at (λ u. done x)
    (λ tokens found is. loop_nothing (is_mark marks.comma) (λ before. tail_attachment_at) (λ before. tail_attachment_nothing) _ tt tokens found is) (λ u. done_nothing x)

-- an attachment in front of other tokens
abbrev an_attachment : List Placed → List Placed
an_attachment tokens = (0, Mark marks.comma) ∷ (0, Metadata (codes "a")) ∷ (0, Metadata (codes "0")) ∷ tokens

attached : {A : Type 0} (x : A) (tokens : List Placed) → Next NotComma tokens → Ending x (an_attachment tokens) ≡ Ok (x, tokens)
unfolding tail_at tail_attachment_at attachment_at mark_at metadata_at is_plain_name is_number bytes.is_digit bytes.begins_name bytes.is_name_byte bytes.is_letter
attached x tokens next =
    rw (
      repeat-more (is_mark marks.comma) (λ before. tail_attachment_at) (λ before. tail-takes) tt (an_attachment tokens) (tt, tokens) refl refl,
      repeat-done (is_mark marks.comma) (λ before. tail_attachment_at) tt tokens (tested_next (is_mark marks.comma) (mark_next marks.comma) false tokens next),
    ) refl

-- ---- items on the line of a call

-- the parser of what stands behind a `)` on this line
abbrev Late : {A : Type 0} → A → ℕ → Reader A
Late x line = late_items_at line >>= λ u. Ending x

-- the parser of a call from the `)` on
abbrev pub Closing : {A : Type 0} → A → Reader A
Closing x = close_at >>= Late x

no_late : {A : Type 0} (x : A) (line : ℕ) (t : Placed) (more : List Placed) → begins_late_item line (t ∷ more) ≡ false → Late x line (t ∷ more) ≡ Ending x (t ∷ more)
unfolding late_items_at some_token_at
no_late x line t more none = rw (repeat-done (begins_late_item line) (λ before. late_item_at line) tt (t ∷ more) none) refl

one_late : {A : Type 0} (x : A) (line : ℕ) (tokens rest : List Placed) → begins_late_item line tokens ≡ true → late_item_at line tokens ≡ Ok (tt, rest) → Late x line tokens ≡ Late x line rest
unfolding late_items_at
one_late x line tokens rest next one =
    ap (λ (r : Read (Unit {0})). goes_on (goes_on r (λ u. some_token_at)) (λ u. Ending x))
    (repeat-more (begins_late_item line) (λ before. late_item_at line) (λ before. late-takes line) tt tokens (tt, rest) next one)

bad_late : {A : Type 0} (x : A) (line : ℕ) (tokens : List Placed) (e : Fault IrFaultKind) → begins_late_item line tokens ≡ true → late_item_at line tokens ≡ Err e → Late x line tokens ≡ Err e
unfolding late_items_at
bad_late x line tokens e next one = rw (repeat-fault (begins_late_item line) (λ before. late_item_at line) tt tokens e next one) refl

same_late : (line l : ℕ) (t : Token) (a b : List Placed) → begins_late_item line ((l, t) ∷ a) ≡ begins_late_item line ((l, t) ∷ b)
same_late line l t a b = ap (λ (c : Bool). eqb l line && c) (item_next l l t a b)

last_no_item : (l : ℕ) (t : Token) → is_last t ≡ true → begins_item ((l, t) ∷ []) ≡ false
last_no_item l (Word w) end = absurd cc
last_no_item l (Number w) end = absurd cc
last_no_item l (Group w) end = absurd cc
last_no_item l (Quoted w) end = absurd cc
last_no_item l t end = refl

abbrev a_close : Token
a_close = Mark marks.close_paren

abbrev is_quoted : Token → Bool
is_quoted (Quoted text) = true
is_quoted t = false

like_no_quoted : {W : Type 0} {t u : Token} → Like W t u → is_quoted u ≡ false
like_no_quoted (like_word v w other noun) = refl
like_no_quoted (like_type m other width begins is) = refl
like_no_quoted (like_function written other) = refl
like_no_quoted (like_width w other width out is) = refl
like_no_quoted (like_number digits other) = refl

module _ {A : Type 0} (x : A) (line : ℕ) (some_line : line ≢ 0) where
  -- a token on a line of its own is none of these items, and continues none
  own_off : eqb 0 line ≡ false
  own_off = by (eqb 0 line) refl
    where
      by : (b : Bool) → eqb 0 line ≡ b → eqb 0 line ≡ false
      by true h = absurd (some_line (sym (eqb-true 0 line h)))
      by false h = h

  own_none : (u : Token) (more : List Placed) → begins_late_item line ((0, u) ∷ more) ≡ false
  own_none u more = rw own_off refl

  own_no_group : (u : Token) (more : List Placed) → late_group_at line ((0, u) ∷ more) ≡ Ok (tt, (0, u) ∷ more)
  unfolding late_group_at
  own_no_group (KeptGroup group) more = rw own_off refl
  own_no_group u more = refl

  own_no_value : (u : Token) (more : List Placed) → late_quoted_at line ((0, u) ∷ more) ≡ Ok (tt, (0, u) ∷ more)
  unfolding late_quoted_at
  own_no_value u more = rw own_off refl

  -- ---- the `)`, items on its line, and the rest

  abbrev Behind : List Placed → List Placed
  Behind tokens = (line, a_close) ∷ tokens

  -- tokens behind the `)` are items on its line, before the next token and before each on a line of its own
  abbrev Agree : List Placed → Placed → Type 0
  Agree items next = (more : List Placed) → Closing x (Behind (items ++ next ∷ more)) ≡ Late x line (next ∷ more)

  abbrev AgreeOwn : List Placed → Type 0
  AgreeOwn items = (u : Token) (more : List Placed) → Closing x (Behind (items ++ (0, u) ∷ more)) ≡ Late x line ((0, u) ∷ more)

  -- one more item
  agree_more : (items : List Placed) (t : Placed) (others : List Placed) (next : Placed) → Agree items t → ((more : List Placed) → begins_late_item line (t ∷ (others ++ next ∷ more)) ≡ true) → ((more : List Placed) → late_item_at line (t ∷ (others ++ next ∷ more)) ≡ Ok (tt, next ∷ more))
      → Agree (items ++ t ∷ others) next
  agree_more items t others next agree begins one more =
      ap (λ (ts : List Placed). Closing x (Behind ts)) (append_assoc items (t ∷ others) (next ∷ more)) ∙ agree (others ++ next ∷ more) ∙ one_late x line (t ∷ (others ++ next ∷ more)) (next ∷ more) (begins more) (one more)

  own_more : (items : List Placed) (t : Placed) (others : List Placed) → Agree items t → ((u : Token) (more : List Placed) → begins_late_item line (t ∷ (others ++ (0, u) ∷ more)) ≡ true) → ((u : Token) (more : List Placed) → late_item_at line (t ∷ (others ++ (0, u) ∷ more)) ≡ Ok (tt, (0, u) ∷ more))
      → AgreeOwn (items ++ t ∷ others)
  own_more items t others agree begins one u more =
      ap (λ (ts : List Placed). Closing x (Behind ts)) (append_assoc items (t ∷ others) ((0, u) ∷ more)) ∙ agree (others ++ (0, u) ∷ more) ∙ one_late x line (t ∷ (others ++ (0, u) ∷ more)) ((0, u) ∷ more) (begins u more) (one u more)

  completion : (items : List Placed) → AgreeOwn items → Completes (Closing x) NotComma (Behind items)
  completion items own =
      (x, an_attachment [], λ ts next. own (Mark marks.comma) ((0, Metadata (codes "a")) ∷ (0, Metadata (codes "0")) ∷ ts) ∙ no_late x line (0, Mark marks.comma) ((0, Metadata (codes "a")) ∷ (0, Metadata (codes "0")) ∷ ts) (own_none (Mark marks.comma) ((0, Metadata (codes "a")) ∷ (0, Metadata (codes "0")) ∷ ts)) ∙ attached x ts next)

  module _ (E : Follow) where
    abbrev Shown : List Placed → List Placed → Type 0
    Shown items tokens = OutcomeIf (Unit {0}) E (Closing x) NotComma (Unit {0}) (Reasons E (Closing x) NotComma) (Behind (items ++ tokens)) (Closing x (Behind (items ++ tokens)))

    -- where no item is next, only attachments may follow
    attachments_shown : (items : List Placed) (next : Placed) (rest : List Placed) → Ended (next ∷ rest) → Agree items next → AgreeOwn items → begins_late_item line (next ∷ rest) ≡ false → Shown items (next ∷ rest)
    attachments_shown items next rest e agree own none =
        subst (OutcomeIf (Unit {0}) E (Closing x) NotComma (Unit {0}) (Reasons E (Closing x) NotComma) (Behind (items ++ next ∷ rest))) (sym (agree rest ∙ no_late x line next rest none))
        (prefixed (Closing x) (Ending x) (Unit {0}) E NotComma (λ u. Unit {0}) (line, a_close) items next rest reads (Unit {0}) (Reasons Anything (Ending x) NotComma) (Reasons E (Closing x) NotComma)
        (λ front t tail there found why. reasons_behind (Closing x) (Ending x) (Unit {0}) E NotComma (λ u. Unit {0}) (line, a_close) items next rest reads front t tail there found why)
        (λ found is o left. absurd (ending_nothing x (next ∷ rest) found is left)) (Ending x (next ∷ rest)) refl ((ending-good x).outcome (next ∷ rest) e))
      where
        reads : Prefixed (Closing x) (Ending x) NotComma (λ u. Unit {0}) (line, a_close) items next rest
        reads = record {
          agree = λ more. agree more ∙ no_late x line next more (same_late line next.0 next.1 more rest ∙ none);
          agree_own = λ u any more. own u more ∙ no_late x line (0, u) more (own_none u more);
          plain = λ u is. tt;
          out = λ u. inl tt;
          nothing = λ y is same u f. tt;
          completes = completion items own;
          end = Mark marks.open_paren;
          may_end = refl;
        }

    more_shown : (items taken tokens : List Placed) → Shown (items ++ taken) tokens → Shown items (taken ++ tokens)
    more_shown items taken tokens o = subst (λ (ts : List Placed). OutcomeIf (Unit {0}) E (Closing x) NotComma (Unit {0}) (Reasons E (Closing x) NotComma) (Behind ts) (Closing x (Behind ts))) (append_assoc items taken tokens) o

    -- the induction hypothesis, for fewer tokens
    abbrev Fewer : List Placed → Type 0
    Fewer rest = (items : List Placed) (next : Placed) (tokens : List Placed) → length tokens < length rest → Ended (next ∷ tokens) → Agree items next → AgreeOwn items → Shown items (next ∷ tokens)

    -- one more token, which is an item by itself
    one_shown : (items : List Placed) (l : ℕ) (t : Token) (next : Placed) (rest : List Placed) → Ended ((l, t) ∷ next ∷ rest) → Agree items (l, t) → begins_late_item line ((l, t) ∷ []) ≡ true → ((more : List Placed) → late_item_at line ((l, t) ∷ next ∷ more) ≡ Ok (tt, next ∷ more))
        → ((u : Token) (more : List Placed) → late_item_at line ((l, t) ∷ (0, u) ∷ more) ≡ Ok (tt, (0, u) ∷ more)) → Fewer (next ∷ rest) → Shown items ((l, t) ∷ next ∷ rest)
    one_shown items l t next rest e agree begins one one_own fewer =
        more_shown items ((l, t) ∷ []) (next ∷ rest)
        (fewer (items ++ (l, t) ∷ []) next rest (omega arith) e.1 (agree_more items (l, t) [] next agree (λ more. same_late line l t (next ∷ more) [] ∙ begins) one)
        (own_more items (l, t) [] agree (λ u more. same_late line l t ((0, u) ∷ more) [] ∙ begins) one_own))

    -- a word and its kept group on the line
    group_shown : (items : List Placed) (l : ℕ) (w : List ℕ) (k : ℕ) (group : List ℕ) (rest : List Placed) → Ended ((l, Word w) ∷ (k, KeptGroup group) ∷ rest) → Agree items (l, Word w) → begins_late_item line ((l, Word w) ∷ []) ≡ true → eqb k line ≡ true
        → Fewer ((k, KeptGroup group) ∷ rest) → Shown items ((l, Word w) ∷ (k, KeptGroup group) ∷ rest)
    unfolding late_item_at late_group_at
    group_shown items l w k group [] e agree begins here fewer = absurd cc
    group_shown items l w k group (next ∷ rest) e agree begins here fewer =
        more_shown items ((l, Word w) ∷ (k, KeptGroup group) ∷ []) (next ∷ rest)
        (fewer (items ++ (l, Word w) ∷ (k, KeptGroup group) ∷ []) next rest (omega arith) e.1.1
        (agree_more items (l, Word w) ((k, KeptGroup group) ∷ []) next agree (λ more. same_late line l (Word w) ((k, KeptGroup group) ∷ next ∷ more) [] ∙ begins) (λ more. rw here refl))
        (own_more items (l, Word w) ((k, KeptGroup group) ∷ []) agree (λ u more. same_late line l (Word w) ((k, KeptGroup group) ∷ (0, u) ∷ more) [] ∙ begins) (λ u more. rw here refl)))

    word_shown : (items : List Placed) (l : ℕ) (w : List ℕ) (k : ℕ) (u : Token) (rest : List Placed) → Ended ((l, Word w) ∷ (k, u) ∷ rest) → Agree items (l, Word w) → begins_late_item line ((l, Word w) ∷ []) ≡ true → Fewer ((k, u) ∷ rest) → Shown items ((l, Word w) ∷ (k, u) ∷ rest)
    unfolding late_item_at late_group_at
    word_shown items l w k (KeptGroup group) rest e agree begins fewer = by (eqb k line) refl
      where
        by : (b : Bool) → eqb k line ≡ b → Shown items ((l, Word w) ∷ (k, KeptGroup group) ∷ rest)
        by true here = group_shown items l w k group rest e agree begins here fewer
        by false off = one_shown items l (Word w) (k, KeptGroup group) rest e agree begins (λ more. rw off refl) (λ v more. own_no_group v more) fewer
    word_shown items l w k u rest e agree begins fewer = one_shown items l (Word w) (k, u) rest e agree begins (λ more. refl) (λ v more. own_no_group v more) fewer

    -- ---- a key, and its value on the line

    -- the value behind a key and its `=` on the line
    value_read : (l k m : ℕ) (key : List ℕ) (tokens : List Placed) → eqb k line ≡ true → eqb m marks.equals ≡ true → late_item_at line ((l, Quoted key) ∷ (k, Mark m) ∷ tokens) ≡ late_value_at line tokens
    unfolding late_item_at late_quoted_at mark_at
    value_read l k m key tokens here equals = rw (here, equals) refl

    no_value_read : (j : ℕ) (t : Token) (more : List Placed) → (is_quoted t && eqb j line) ≡ false → late_value_at line ((j, t) ∷ more) ≡ Err (fault j (misfit places.Fixed t))
    unfolding late_value_at unexpected misfit leaves_out
    no_value_read j (Quoted text) more none = rw none refl
    no_value_read j t more none = refl

    value_is_read : (j : ℕ) (text : List ℕ) (more : List Placed) → eqb j line ≡ true → late_value_at line ((j, Quoted text) ∷ more) ≡ Ok (tt, more)
    unfolding late_value_at
    value_is_read j text more here = rw here refl

    no_value_shown : (items : List Placed) (l : ℕ) (key : List ℕ) (k m j : ℕ) (t : Token) (rest : List Placed) → Agree items (l, Quoted key) → begins_late_item line ((l, Quoted key) ∷ []) ≡ true → eqb k line ≡ true → eqb m marks.equals ≡ true → (is_quoted t && eqb j line) ≡ false
        → Shown items ((l, Quoted key) ∷ (k, Mark m) ∷ (j, t) ∷ rest)
    no_value_shown items l key k m j t rest agree begins here equals none =
        subst (OutcomeIf (Unit {0}) E (Closing x) NotComma (Unit {0}) (Reasons E (Closing x) NotComma) (Behind (items ++ (l, Quoted key) ∷ (k, Mark m) ∷ (j, t) ∷ rest))) (sym (refused j t none rest))
        (record {
          front = front;
          token = (j, t);
          behind = rest;
          there = ap Behind (sym (append_assoc items ((l, Quoted key) ∷ (k, Mark m) ∷ []) ((j, t) ∷ rest)));
          refused = λ more. (fault j (misfit places.Fixed t), regrouped ((j, t) ∷ more) ∙ refused j t none more);
          completes = (
            x,
            (line, Quoted (codes "\"\"")) ∷ an_attachment [],
            λ ts next.
                regrouped ((line, Quoted (codes "\"\"")) ∷ an_attachment ts)
                ∙ agree ((k, Mark m) ∷ (line, Quoted (codes "\"\"")) ∷ an_attachment ts)
                ∙ one_late x line ((l, Quoted key) ∷ (k, Mark m) ∷ (line, Quoted (codes "\"\"")) ∷ an_attachment ts) (an_attachment ts) (same_late line l (Quoted key) ((k, Mark m) ∷ (line, Quoted (codes "\"\"")) ∷ an_attachment ts) [] ∙ begins)
                (value_read l k m key ((line, Quoted (codes "\"\"")) ∷ an_attachment ts) here equals ∙ value_is_read line (codes "\"\"") (an_attachment ts) (eq-eqb line line refl))
                ∙ no_late x line (0, Mark marks.comma) ((0, Metadata (codes "a")) ∷ (0, Metadata (codes "0")) ∷ ts) (own_none (Mark marks.comma) ((0, Metadata (codes "a")) ∷ (0, Metadata (codes "0")) ∷ ts)) ∙ attached x ts next,
          );
          why =
              inl (
                refl,
                fixed_reason (Fit E (Closing x) NotComma front) (Bad (Unit {0}) (Closing x) front) (Again E (Closing x) NotComma front) (RefusesAt (Closing x) front) t (
                  λ u like. (λ more. (fault 0 (misfit places.Fixed u), regrouped ((0, u) ∷ more) ∙ refused 0 u (rw (like_no_quoted like) refl) more), λ empty. absurd cc),
                  λ starts. inr (λ ending more. (fault 0 (misfit places.Fixed (Word (ending_word ending))), regrouped ((0, Word (ending_word ending)) ∷ more) ∙ refused 0 (Word (ending_word ending)) refl more)),
                ),
              );
          new = λ left. absurd (fixed_left t left);
        })
      where
        front : List Placed
        front = Behind (items ++ (l, Quoted key) ∷ (k, Mark m) ∷ [])

        regrouped : (ts : List Placed) → Closing x (front ++ ts) ≡ Closing x (Behind (items ++ (l, Quoted key) ∷ (k, Mark m) ∷ ts))
        regrouped ts = ap (λ (us : List Placed). Closing x (Behind us)) (append_assoc items ((l, Quoted key) ∷ (k, Mark m) ∷ []) ts)

        refused : (i : ℕ) (u : Token) → (is_quoted u && eqb i line) ≡ false → (more : List Placed) → Closing x (Behind (items ++ (l, Quoted key) ∷ (k, Mark m) ∷ (i, u) ∷ more)) ≡ Err (fault i (misfit places.Fixed u))
        refused i u other more =
            agree ((k, Mark m) ∷ (i, u) ∷ more)
            ∙ bad_late x line ((l, Quoted key) ∷ (k, Mark m) ∷ (i, u) ∷ more) (fault i (misfit places.Fixed u)) (same_late line l (Quoted key) ((k, Mark m) ∷ (i, u) ∷ more) [] ∙ begins) (value_read l k m key ((i, u) ∷ more) here equals ∙ no_value_read i u more other)

    value_shown : (items : List Placed) (l : ℕ) (key : List ℕ) (k m : ℕ) (rest : List Placed) → Ended ((l, Quoted key) ∷ (k, Mark m) ∷ rest) → Agree items (l, Quoted key) → begins_late_item line ((l, Quoted key) ∷ []) ≡ true → eqb k line ≡ true → eqb m marks.equals ≡ true → Fewer ((k, Mark m) ∷ rest)
        → Shown items ((l, Quoted key) ∷ (k, Mark m) ∷ rest)
    value_shown items l key k m [] e agree begins here equals fewer = absurd cc
    value_shown items l key k m ((j, Quoted text) ∷ rest) e agree begins here equals fewer = by (eqb j line) refl
      where
        last : (rest : List Placed) → Ended ((j, Quoted text) ∷ rest) → eqb j line ≡ true → Fewer ((k, Mark m) ∷ (j, Quoted text) ∷ rest) → Shown items ((l, Quoted key) ∷ (k, Mark m) ∷ (j, Quoted text) ∷ rest)
        last [] end there fewer = absurd cc
        last (next ∷ rest) end there fewer =
            more_shown items ((l, Quoted key) ∷ (k, Mark m) ∷ (j, Quoted text) ∷ []) (next ∷ rest)
            (fewer (items ++ (l, Quoted key) ∷ (k, Mark m) ∷ (j, Quoted text) ∷ []) next rest (omega arith) end.1
            (agree_more items (l, Quoted key) ((k, Mark m) ∷ (j, Quoted text) ∷ []) next agree (λ more. same_late line l (Quoted key) ((k, Mark m) ∷ (j, Quoted text) ∷ next ∷ more) [] ∙ begins) (λ more. value_read l k m key ((j, Quoted text) ∷ next ∷ more) here equals ∙ value_is_read j text (next ∷ more) there))
            (own_more items (l, Quoted key) ((k, Mark m) ∷ (j, Quoted text) ∷ []) agree (λ u more. same_late line l (Quoted key) ((k, Mark m) ∷ (j, Quoted text) ∷ (0, u) ∷ more) [] ∙ begins)
            (λ u more. value_read l k m key ((j, Quoted text) ∷ (0, u) ∷ more) here equals ∙ value_is_read j text ((0, u) ∷ more) there)))

        by : (b : Bool) → eqb j line ≡ b → Shown items ((l, Quoted key) ∷ (k, Mark m) ∷ (j, Quoted text) ∷ rest)
        by true there = last rest e.1.1 there fewer
        by false off = no_value_shown items l key k m j (Quoted text) rest agree begins here equals off
    value_shown items l key k m ((j, t) ∷ rest) e agree begins here equals fewer = no_value_shown items l key k m j t rest agree begins here equals refl

    key_shown : (items : List Placed) (l : ℕ) (key : List ℕ) (k : ℕ) (u : Token) (rest : List Placed) → Ended ((l, Quoted key) ∷ (k, u) ∷ rest) → Agree items (l, Quoted key) → begins_late_item line ((l, Quoted key) ∷ []) ≡ true → Fewer ((k, u) ∷ rest) → Shown items ((l, Quoted key) ∷ (k, u) ∷ rest)
    unfolding late_item_at late_quoted_at
    key_shown items l key k (Mark m) rest e agree begins fewer = by (eqb k line) (eqb m marks.equals) refl refl
      where
        by : (b c : Bool) → eqb k line ≡ b → eqb m marks.equals ≡ c → Shown items ((l, Quoted key) ∷ (k, Mark m) ∷ rest)
        by true true here equals = value_shown items l key k m rest e agree begins here equals fewer
        by true false here other = one_shown items l (Quoted key) (k, Mark m) rest e agree begins (λ more. rw (here, other) refl) (λ v more. own_no_value v more) fewer
        by false c off h = one_shown items l (Quoted key) (k, Mark m) rest e agree begins (λ more. rw off refl) (λ v more. own_no_value v more) fewer
    key_shown items l key k u rest e agree begins fewer = one_shown items l (Quoted key) (k, u) rest e agree begins (λ more. rw (off (eqb k line)) refl) (λ v more. own_no_value v more) fewer
      where
        off : (b : Bool) → (b && false) ≡ false
        off true = refl
        off false = refl

    item_shown : (items : List Placed) (l : ℕ) (t : Token) (rest : List Placed) → Ended ((l, t) ∷ rest) → Agree items (l, t) → AgreeOwn items → begins_late_item line ((l, t) ∷ []) ≡ true → Fewer rest → Shown items ((l, t) ∷ rest)
    unfolding late_item_at
    item_shown items l t [] e agree own begins fewer = absurd (never (eqb l line) (begins_item ((l, t) ∷ [])) begins (last_no_item l t e))
      where
        never : (b c : Bool) → (b && c) ≡ true → c ≡ false → ⊥
        never true true h none = cc
        never true false h none = cc
        never false c h none = cc
    item_shown items l (Word w) ((k, u) ∷ rest) e agree own begins fewer = word_shown items l w k u rest e agree begins fewer
    item_shown items l (Number digits) (next ∷ rest) e agree own begins fewer = one_shown items l (Number digits) next rest e agree begins (λ more. refl) (λ u more. refl) fewer
    item_shown items l (Group text) (next ∷ rest) e agree own begins fewer = one_shown items l (Group text) next rest e agree begins (λ more. refl) (λ u more. refl) fewer
    item_shown items l (Quoted key) ((k, u) ∷ rest) e agree own begins fewer = key_shown items l key k u rest e agree begins fewer
    item_shown items l t (next ∷ rest) e agree own begins fewer = absurd (never (eqb l line) begins)
      where
        never : (b : Bool) → (b && false) ≡ true → ⊥
        never true h = cc
        never false h = cc

    pub late_shown : (n : ℕ) (items : List Placed) (next : Placed) (rest : List Placed) → length rest < n → Ended (next ∷ rest) → Agree items next → AgreeOwn items → Shown items (next ∷ rest)
    late_shown zero items next rest short e agree own = absurd (omega arith)
    late_shown (suc n) items next rest short e agree own = by (λ more u tokens less ended a o. late_shown n more u tokens (omega arith) ended a o) (begins_late_item line (next ∷ [])) refl
      where
        by : Fewer rest → (b : Bool) → begins_late_item line (next ∷ []) ≡ b → Shown items (next ∷ rest)
        by fewer true begins = item_shown items next.0 next.1 rest e agree own begins fewer
        by fewer false none = attachments_shown items next rest e agree own (same_late line next.0 next.1 rest [] ∙ none)

-- ---- from the `)` on

close_bad : {t u : Token} → Like (Unit {0}) t u → Bad (Unit {0}) close_at [] t u
unfolding close_at unexpected
close_bad like = all_bad close_at (λ w line more. (fault line (misfit places.Fixed (Word w)), refl)) (λ f line more. (fault line (misfit places.Fixed (Function f)), refl)) (λ n line more. (fault line (misfit places.Fixed (Number n)), refl)) like

closing_bad : {A : Type 0} (x : A) {t u : Token} → Like (Unit {0}) t u → Bad (Unit {0}) (Closing x) [] t u
closing_bad x {t} {u} like = bad_first (Unit {0}) close_at (Late x) [] t u (close_bad like)

closing_refuses : {A : Type 0} (x : A) (ending : Word_ending) → RefusesAt (Closing x) [] (Word (ending_word ending))
unfolding close_at unexpected
closing_refuses x ending more = (fault 0 (misfit places.Fixed (Word (ending_word ending))), refl)

closed : {A : Type 0} (x : A) (line : ℕ) (tokens : List Placed) → Closing x ((line, a_close) ∷ tokens) ≡ Late x line tokens
unfolding close_at
closed x line tokens = refl

module _ {A : Type 0} (x : A) (E : Follow) where
  refused_here : (l : ℕ) (t : Token) (rest : List Placed) → Ended ((l, t) ∷ rest) → Takes (Closing x) (Reasons E (Closing x) NotComma) l t → OutcomeIf (Unit {0}) E (Closing x) NotComma (Unit {0}) (Reasons E (Closing x) NotComma) ((l, t) ∷ rest) (Closing x ((l, t) ∷ rest))
  refused_here l t rest e taking = taken (Unit {0}) E (Closing x) NotComma (Unit {0}) (Reasons E (Closing x) NotComma) l t rest e taking

  closing_outcome : (tokens : List Placed) → Ended tokens → OutcomeIf (Unit {0}) E (Closing x) NotComma (Unit {0}) (Reasons E (Closing x) NotComma) tokens (Closing x tokens)
  unfolding close_at unexpected
  closing_outcome [] e = absurd e
  closing_outcome ((l, Mark m) ∷ rest) e = by (eqb m marks.close_paren) refl
    where
      shown : (rest : List Placed) → Ended ((l, a_close) ∷ rest) → OutcomeIf (Unit {0}) E (Closing x) NotComma (Unit {0}) (Reasons E (Closing x) NotComma) ((l, a_close) ∷ rest) (Closing x ((l, a_close) ∷ rest))
      shown [] ended = absurd cc
      shown (next ∷ rest) ended = late_shown x l (ended.2 marks.close_paren refl) E (suc (length rest)) [] next rest (omega arith) ended.1 (λ more. refl) (λ u more. refl)

      by : (b : Bool) → eqb m marks.close_paren ≡ b → OutcomeIf (Unit {0}) E (Closing x) NotComma (Unit {0}) (Reasons E (Closing x) NotComma) ((l, Mark m) ∷ rest) (Closing x ((l, Mark m) ∷ rest))
      by true h =
          let same : m ≡ marks.close_paren = eqb-true m marks.close_paren h in
          subst (λ (n : ℕ). OutcomeIf (Unit {0}) E (Closing x) NotComma (Unit {0}) (Reasons E (Closing x) NotComma) ((l, Mark n) ∷ rest) (Closing x ((l, Mark n) ∷ rest))) (sym same)
          (shown rest (subst (λ (n : ℕ). Ended ((l, Mark n) ∷ rest)) same e))
      by false h = refused_here l (Mark m) rest e (refuses (fault l Syntax) (inl (refl, (λ u like. inl (closing_bad x like), λ begins. inr (closing_refuses x), λ bad. cc))) (λ more. rw h refl))
  closing_outcome ((l, t) ∷ rest) e =
      refused_here l t rest e
      (refuses (fault l (misfit places.Fixed t))
      (inl (refl, fixed_reason (Fit E (Closing x) NotComma []) (Bad (Unit {0}) (Closing x) []) (Again E (Closing x) NotComma []) (RefusesAt (Closing x) []) t (λ u like. closing_bad x like, λ begins. inr (closing_refuses x)))) (λ more. refl))

-- ---- what is read is a prefix of the tokens

abbrev Ends : List Placed → Unit {0} × List Placed → Type 0
Ends tokens y = (front : List Placed) × (tokens ≡ front ++ y.1)

close_splits : Splits close_at
unfolding close_at
close_splits [] y is = absurd cc
close_splits ((line, Mark m) ∷ rest) y is = by (eqb m marks.close_paren) is
  where
    by : (b : Bool) → cond b (the_read (Ok (line, rest))) (Err (fault line Syntax)) ≡ Ok y → (front : List Placed) × ((line, Mark m) ∷ rest ≡ front ++ y.1)
    by true read = read_as (λ z. (front : List Placed) × ((line, Mark m) ∷ rest ≡ front ++ z.1)) (line, rest) y read ((line, Mark m) ∷ [], refl)
    by false read = absurd cc
close_splits ((line, t) ∷ rest) y is = absurd cc

equals_splits : Splits (mark_at marks.equals)
equals_splits = apart_splits (mark-good {E = Anything} marks.equals tt).apart

group_splits : (line : ℕ) → Splits (late_group_at line)
unfolding late_group_at
group_splits line [] y is = read_as (Ends []) (tt, []) y is ([], refl)
group_splits line ((at, KeptGroup group) ∷ rest) y is = by (eqb at line) is
  where
    by : (b : Bool) → cond b (the_read (Ok (Nothing (tt, rest)))) (Ok (Nothing (tt, (at, KeptGroup group) ∷ rest))) ≡ Ok y → Ends ((at, KeptGroup group) ∷ rest) y
    by true read = read_as (Ends ((at, KeptGroup group) ∷ rest)) (tt, rest) y read ((at, KeptGroup group) ∷ [], refl)
    by false read = read_as (Ends ((at, KeptGroup group) ∷ rest)) (tt, (at, KeptGroup group) ∷ rest) y read ([], refl)
group_splits line ((at, t) ∷ rest) y is = read_as (Ends ((at, t) ∷ rest)) (tt, (at, t) ∷ rest) y is ([], refl)

late_value_splits : (line : ℕ) → Splits (late_value_at line)
unfolding late_value_at
late_value_splits line [] y is = absurd cc
late_value_splits line ((at, Quoted text) ∷ rest) y is = by (eqb at line) is
  where
    by : (b : Bool) → cond b (the_read (Ok (Nothing (tt, rest)))) (Err (fault at Syntax)) ≡ Ok y → Ends ((at, Quoted text) ∷ rest) y
    by true read = read_as (Ends ((at, Quoted text) ∷ rest)) (tt, rest) y read ((at, Quoted text) ∷ [], refl)
    by false read = absurd cc
late_value_splits line ((at, t) ∷ rest) y is = absurd cc

quoted_splits : (line : ℕ) → Splits (late_quoted_at line)
unfolding late_quoted_at
quoted_splits line tokens y is = by (is_on_line line tokens && is_mark marks.equals tokens) is
  where
    by : (b : Bool) → cond b ((mark_at marks.equals >>= λ u. late_value_at line) tokens) (Ok (Nothing (tt, tokens))) ≡ Ok y → Ends tokens y
    by true read = both_splits (mark_at marks.equals) (λ u. late_value_at line) equals_splits (λ u. late_value_splits line) tokens y read
    by false read = read_as (Ends tokens) (tt, tokens) y read ([], refl)

behind_one : (t : Placed) (rest : List Placed) (y : Unit {0} × List Placed) → Ends rest y → Ends (t ∷ rest) y
behind_one t rest y (front, there) = (t ∷ front, ap (λ (ts : List Placed). t ∷ ts) there)

late_item_splits : (line : ℕ) → Splits (late_item_at line)
unfolding late_item_at
late_item_splits line [] y is = absurd cc
late_item_splits line ((at, Word word) ∷ rest) y is = behind_one (at, Word word) rest y (group_splits line rest y is)
late_item_splits line ((at, Number digits) ∷ rest) y is = read_as (Ends ((at, Number digits) ∷ rest)) (tt, rest) y is ((at, Number digits) ∷ [], refl)
late_item_splits line ((at, Group text) ∷ rest) y is = read_as (Ends ((at, Group text) ∷ rest)) (tt, rest) y is ((at, Group text) ∷ [], refl)
late_item_splits line ((at, Quoted key) ∷ rest) y is = behind_one (at, Quoted key) rest y (quoted_splits line rest y is)
late_item_splits line ((at, t) ∷ rest) y is = absurd cc

some_splits : Splits some_token_at
unfolding some_token_at
some_splits [] y is = absurd cc
some_splits (t ∷ rest) y is = read_as (Ends (t ∷ rest)) (tt, t ∷ rest) y is ([], refl)

closing_splits : {A : Type 0} (x : A) → Splits (Closing x)
unfolding late_items_at
closing_splits x =
    both_splits close_at (Late x) close_splits
    (λ line. both_splits (late_items_at line) (λ u. Ending x)
    (both_splits (each_late_item_at line) (λ u. some_token_at) (loop_splits (begins_late_item line) (λ before. late_item_at line) (λ before. late_item_splits line) tt) (λ u. some_splits)) (λ u. apart_splits (ending-good x).apart))

pub closing-open : {A : Type 0} (x : A) → GoodOpen EndsArgument (Closing x) NotComma
closing-open x = record {
  sample = (x, (0, a_close) ∷ an_attachment [], λ ts next. (closed x 0 (an_attachment ts) ∙ no_late x 0 (0, Mark marks.comma) ((0, Metadata (codes "a")) ∷ (0, Metadata (codes "0")) ∷ ts) refl ∙ attached x ts next, close));
  outcome = closing_outcome x EndsArgument;
  splits = closing_splits x;
}
