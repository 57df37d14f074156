-- Viable prefixes of calls. The fault of a callee that is no intrinsic is at the word `call`.
use Rattle.ir_viable_prefixes.proofs.Common.{◌≡◌, ℕ, Bool, true, false, cond, List, [], ◌∷◌, ◌++◌, Option, Some, None, Ok, Err, refl, sym, ap, subst, ◌∙◌, ◌⊎◌, inl, inr, append_assoc, append-nil, append_cancel_right, codes, bytes_eq, bytes_eq-Decides, Flag, Nuw, Nsw, Exact, NNeg, Disjoint, SameSign, flag_keyword, identifier_of, name_of, Token, Placed, Word, Number, Function, RawOp, Call, Fault, IrFaultKind, LeftOut, Intrinsic, Items, arguments_at, callee_named, callee_at, late_items_at, close_at, call_at, call_word_at, marked_call_at, intrinsic_in, named_in, keyword_in, plain_width_in, SpellsItem, items_at, is_item_word, IsTypeWord, ending_word, type_in, Each, ◌⨾◌, SpellsType, is_word, Read, Reader, fault, unexpected, goes_on, ◌>>=◌, items_at-is, same_behind, type_at-is, bind_ok, read_as, CallStands}
use Rattle.scan.specs.Bytes as bytes
use Rattle.ir_instructions.specs.declared.place.Expected.TheVariants as places
use Rattle.ir_instructions.specs.declared.word.Ending.{Ending as Word_ending}
use Rattle.ir_instructions.specs.declared.word.Ending.TheVariants as endings
use Rattle.ir_instructions.specs.declared.word.Operation.TheVariants as operations
use Rattle.ir_instructions.specs.Places.{misfit}
use Rattle.ir_instructions.specs.TokenReaders.{mark_at, type_at}
use Rattle.ir_instructions.specs.Punctuation as marks
use Rattle.ir_viable_prefixes.specs.Misfits as nouns
use Rattle.ir_viable_prefixes.proofs.Arguments.{arguments-good}
use Rattle.ir_viable_prefixes.proofs.Endings.{Ending, Closing, closing-open}
use Rattle.ir_viable_prefixes.proofs.FlagRuns.{Splits, apart_splits, both_splits}
use Rattle.ir_viable_prefixes.proofs.Items.{item_is_local, items-good}
use Rattle.ir_viable_prefixes.proofs.Outcomes.{Again, Follow, Anything, Ended, Sample, Fit, fits_alone, fits_first, fits_second, RefusesAt, RefusesEach, Bad, bad_first, bad_second, of_callee, Why, Reasons, reasons_first, reasons_second, IsReadIf, OutcomeIf, outcome_both, apart_new, sample_both, Takes, takes, refuses, token_apart, token_outcome, one_token, TakesNoFlag, Good, GoodOpen, ◌then◌, ◌then_open◌}
use Rattle.ir_viable_prefixes.proofs.Reasons.{Like, like_word, like_type, like_function, like_width, like_number, fixed_reason, choice_reason, word_reason}
use Rattle.ir_viable_prefixes.proofs.Statements.{NotComma}
use Rattle.ir_viable_prefixes.proofs.TokenReaders.{other_bad, types_bad, mark-good, type-good}

assoc : {A B C : Type 0} (r : Read A) (f : A → Reader B) (g : B → Reader C) → goes_on (goes_on r f) g ≡ goes_on r (λ x. f x >>= g)
assoc (Ok x) f g = refl
assoc (Err e) f g = refl

-- ---- a callee

-- A function is refused since it is no intrinsic, in a call whose word is on the line, behind tokens of which Stands
-- holds.
pub record IsCallee {A : Type 0} (R : Reader A) (F : Follow) (line : ℕ) (Stands : List Placed → Type 0) (front : List Placed) (t : Placed) (found : Fault IrFaultKind) : Type 0 where
  pub written : List ℕ
  pub one : List ℕ
  pub is : t.1 ≡ Function written
  pub told : found ≡ fault line (LeftOut (codes "call"))
  pub stands : Stands front
  pub fit : Fit Anything R F front (Function one)
  pub others : (other : List ℕ) → callee_named (identifier_of other) ≡ None → Bad (Unit {0}) R front t.1 (Function other)

abbrev pub CalleeOr : {A : Type 0} → Reader A → Follow → ℕ → (List Placed → Type 0) → Why
CalleeOr R F line Stands front t found = Reasons Anything R F front t found ⊎ IsCallee R F line Stands front t found

callee_first : {A B : Type 0} (F G : Follow) (R : Reader A) (S : A → Reader B) → ((x : A) → Sample F (S x) G) → (line : ℕ) (Stands : List Placed → Type 0) (front : List Placed) (t : Placed) (found : Fault IrFaultKind) → CalleeOr R F line Stands front t found → CalleeOr (R >>= S) G line Stands front t found
callee_first F G R S s line Stands front t found (inl why) = inl (reasons_first (Unit {0}) Anything F G R S s front t found why)
callee_first F G R S s line Stands front t found (inr c) = inr (record {
  written = c.written;
  one = c.one;
  is = c.is;
  told = c.told;
  stands = c.stands;
  fit = fits_first Anything F G R S s front (Function c.one) c.fit;
  others = λ other none. bad_first (Unit {0}) R S front t.1 (Function other) (c.others other none);
})

pub callee_second : {A B : Type 0} (G : Follow) (R : Reader A) (S : A → Reader B) → ((x : A) → Sample Anything (S x) G) → (line : ℕ) (Stands Wider : List Placed → Type 0) (tokens : List Placed) (x : A × List Placed) (o : IsReadIf (Unit {0}) Anything R Anything (Unit {0}) tokens x.0 x.1)
    → ((front : List Placed) → Stands front → Wider (o.front ++ front)) → (front : List Placed) (t : Placed) (behind : List Placed) → x.1 ≡ front ++ t ∷ behind → (found : Fault IrFaultKind) → CalleeOr (S x.0) G line Stands front t found → CalleeOr (R >>= S) G line Wider (o.front ++ front) t found
callee_second G R S s line Stands Wider tokens x o wider front t behind there found (inl why) = inl (reasons_second (Unit {0}) (Unit {0}) Anything Anything G R S s tokens x o front t behind there found why)
callee_second G R S s line Stands Wider tokens x o wider front t behind there found (inr c) = inr (record {
  written = c.written;
  one = c.one;
  is = c.is;
  told = c.told;
  stands = wider front c.stands;
  fit = fits_second (Unit {0}) (Unit {0}) Anything Anything G R S tokens x o front t behind there (Function c.one) c.fit;
  others = λ other none. bad_second (Unit {0}) (Unit {0}) Anything Anything R S tokens x o front t.0 t.1 behind there (Function other) (c.others other none);
})

-- the fault of a callee behind the word `call`
pub callee_told : {A : Type 0} (R : Reader A) (F : Follow) (line : ℕ) (front : List Placed) (t : Placed) (found : Fault IrFaultKind) → CalleeOr R F line (CallStands line) front t found → Reasons Anything R F front t found
callee_told R F line front t found (inl why) = why
callee_told R F line front t found (inr c) =
    subst (λ (e : Fault IrFaultKind). Reasons Anything R F front t e) (sym c.told)
    (subst (λ (u : Token). Reasons Anything R F front (t.0, u) (fault line (LeftOut (codes "call")))) (sym c.is)
    (inr (of_callee line t.0 c.written c.one c.stands c.fit (λ other none. subst (λ (u : Token). Bad (Unit {0}) R front u (Function other)) c.is (c.others other none)))))

abbrev the_read : {A : Type 0} → Read A → Read A
the_read r = r

abbrev is_function : Token → Bool
is_function (Function written) = true
is_function t = false

callee_bad : (line : ℕ) {t u : Token} → is_function t ≡ false → Like (Unit {0}) t u → Bad (Unit {0}) (callee_at line) [] t u
unfolding callee_at unexpected
callee_bad line none (like_word v w other noun) = (λ more. (fault 0 (misfit places.Fixed (Word other)), refl), λ empty. like_word v w other noun)
callee_bad line none (like_type m other width begins is) = (λ more. (fault 0 (misfit places.Fixed (Word other)), refl), λ empty. like_type m other width begins is)
callee_bad line none (like_function written other) = absurd cc
callee_bad line none (like_width w other width out is) = (λ more. (fault 0 (misfit places.Fixed (Word other)), refl), λ empty. like_width w other width out is)
callee_bad line none (like_number digits other) = (λ more. (fault 0 (misfit places.Fixed (Number other)), refl), λ empty. like_number digits other)

-- a name of an intrinsic
abbrev ctpop : List ℕ
ctpop = codes "llvm.ctpop.i8"

ctpop_is : (n : Intrinsic × ℕ) × (callee_named (identifier_of ctpop) ≡ Some n)
unfolding identifier_of name_of bytes.is_digit intrinsic_in named_in keyword_in plain_width_in type_in
ctpop_is = (_, refl)

callee_fits : (line : ℕ) → Fit Anything (callee_at line) Anything [] (Function ctpop)
unfolding callee_at
callee_fits line = fits_alone Anything (callee_at line) Anything (Function ctpop) ctpop_is.0 tt (λ more. rw ctpop_is.1 refl)

pub callee_takes : (line at : ℕ) (t : Token) → Takes (callee_at line) (CalleeOr (callee_at line) Anything line (λ front. front ≡ [])) at t
unfolding callee_at unexpected
callee_takes line at (Function written) = by (callee_named (identifier_of written)) refl
  where
    by : (named : Option (Intrinsic × ℕ)) → callee_named (identifier_of written) ≡ named → Takes (callee_at line) (CalleeOr (callee_at line) Anything line (λ front. front ≡ [])) at (Function written)
    by (Some named) h = takes named refl (λ more. rw h refl)
    by None h =
        refuses (fault line (LeftOut (codes "call")))
        (inr (record {
          written = written;
          one = ctpop;
          is = refl;
          told = refl;
          stands = refl;
          fit = callee_fits line;
          others = λ other none. (λ more. (fault line (LeftOut (codes "call")), rw none refl), λ empty. like_function written other);
        }))
        (λ more. rw h refl)
callee_takes line at t =
    refuses (fault at (misfit places.Fixed t))
    (inl (inl (
      refl,
      fixed_reason (Fit Anything (callee_at line) Anything []) (Bad (Unit {0}) (callee_at line) []) (Again Anything (callee_at line) Anything []) (RefusesAt (callee_at line) []) t
          (λ u like. callee_bad line refl like, λ begins. inr (λ ending more. (fault 0 (misfit places.Fixed (Word (ending_word ending))), refl))),
    )))
    (λ more. refl)

callee_flags : (line : ℕ) → TakesNoFlag (callee_at line)
unfolding callee_at unexpected
callee_flags line = ((unexpected places.Fixed [], refl), λ flag at more. (fault at (misfit places.Fixed (Word (flag_keyword flag))), refl))

-- ---- a call behind the word `call`

-- items and a type
abbrev pub Typed : Reader ℕ
Typed = items_at >>= λ items. type_at

pub typed-good : Good Anything Typed Anything
unfolding is_item_word type_in bytes.is_digit
typed-good = items-good then (λ items. type-good (refl, tt))

items_local : (items : List (List ℕ)) (tokens rest : List Placed) → Each SpellsItem items tokens rest → (front : List Placed) × (tokens ≡ front ++ rest) × ((others : List Placed) → Each SpellsItem items (front ++ others) others)
items_local [] tokens rest same = ([], same, λ others. refl)
items_local (item ∷ items) tokens rest (between, one, more) =
    let a = item_is_local item tokens between one in
    let b = items_local items between rest more in
    (a.0 ++ b.0, a.1 ∙ ap (λ (ts : List Placed). a.0 ++ ts) b.1 ∙ sym (append_assoc a.0 b.0 rest), λ others. rw (append_assoc a.0 b.0 others) (b.0 ++ others, a.2 (b.0 ++ others), b.2 others))

-- the tokens are items and a type, and no more
abbrev pub StandsTyped : List Placed → Type 0
StandsTyped front = (width : ℕ) × (Items ⨾ SpellsType width) front []

typed_stands : (tokens : List Placed) (x : ℕ × List Placed) → Typed tokens ≡ Ok x → (front : List Placed) × (tokens ≡ front ++ x.1) × StandsTyped front
typed_stands tokens x is =
    let one = bind_ok (items_at tokens) (λ items. type_at) x is in
    let items = items_local one.0.0 tokens one.0.1 (items_at-is tokens one.0 one.1) in
    let (word, type, (l, same)) = type_at-is one.0.1 x one.2 in (
      items.0 ++ (l, Word word) ∷ [],
      items.1 ∙ ap (λ (ts : List Placed). items.0 ++ ts) same ∙ sym (append_assoc items.0 ((l, Word word) ∷ []) x.1),
      (x.0, ((l, Word word) ∷ [], (one.0.0, items.2 ((l, Word word) ∷ [])), (word, type, (l, refl)))),
    )

module _ {A : Type 0} (f : RawOp → A) where
  -- what is read behind the callee
  abbrev pub Arguments : ℕ → ℕ → Intrinsic × ℕ → Reader A
  Arguments line width named = mark_at marks.open_paren >>= λ u. arguments_at named.0 >>= λ arguments. Closing (f (Call (record { line = line; width = width; named = named.1; arguments = arguments })))

  pub arguments-open : (line width : ℕ) (named : Intrinsic × ℕ) → GoodOpen Anything (Arguments line width named) NotComma
  arguments-open line width named = mark-good marks.open_paren tt then_open (λ u. arguments-good named.0 then_open (λ arguments. closing-open _))

  abbrev pub Callee : ℕ → ℕ → Reader A
  Callee line width = callee_at line >>= Arguments line width

  abbrev pub Called : ℕ → Reader A
  Called line = Typed >>= Callee line

  pub callee_sample : (line width : ℕ) → Sample Anything (Callee line width) NotComma
  unfolding callee_at
  callee_sample line width =
      let s = (arguments-open line width ctpop_is.0).sample in
      (s.0, (0, Function ctpop) ∷ s.1, λ ts next. (rw ctpop_is.1 (s.2 ts next).0, tt))

  callee_outcome : (line width : ℕ) (tokens : List Placed) → Ended tokens → OutcomeIf (Unit {0}) Anything (Callee line width) NotComma (Unit {0}) (CalleeOr (Callee line width) NotComma line (λ front. front ≡ [])) tokens (Callee line width tokens)
  callee_outcome line width tokens e =
      outcome_both (Unit {0}) (Unit {0}) (Unit {0}) Anything Anything NotComma (callee_at line) (Arguments line width) (CalleeOr (callee_at line) Anything line (λ front. front ≡ [])) (λ named. Reasons Anything (Arguments line width named) NotComma) (CalleeOr (Callee line width) NotComma line (λ front. front ≡ [])) tokens
      (record {
        first = λ front t behind there found why. callee_first Anything NotComma (callee_at line) (Arguments line width) (λ named. (arguments-open line width named).sample) line (λ front. front ≡ []) front t found why;
        second = λ x is o front t behind there found why. inl (reasons_second (Unit {0}) (Unit {0}) Anything Anything NotComma (callee_at line) (Arguments line width) (λ named. (arguments-open line width named).sample) tokens x o front t behind there found why);
      })
      (apart_new (Unit {0}) (Unit {0}) Anything Anything NotComma (callee_at line) (Arguments line width) (λ named. Reasons Anything (Arguments line width named) NotComma) tokens (token_apart (callee_at line) (CalleeOr (callee_at line) Anything line (λ front. front ≡ [])) (callee_flags line) (callee_takes line)))
      (λ named. (arguments-open line width named).sample) (callee_at line tokens) refl
      (token_outcome (Unit {0}) Anything (callee_at line) Anything (Unit {0}) (CalleeOr (callee_at line) Anything line (λ front. front ≡ [])) (callee_takes line) tokens e) (λ x is ended. (arguments-open line width x.0).outcome x.1 ended)

  pub called_sample : (line : ℕ) → Sample Anything (Called line) NotComma
  called_sample line = sample_of (typed-good.sample) (callee_sample line)
    where
      sample_of : Sample Anything Typed Anything → ((width : ℕ) → Sample Anything (Callee line width) NotComma) → Sample Anything (Called line) NotComma
      sample_of r s = sample_both Anything Anything NotComma Typed (Callee line) r s

  pub called_outcome : (line : ℕ) (tokens : List Placed) → Ended tokens → OutcomeIf (Unit {0}) Anything (Called line) NotComma (Unit {0}) (CalleeOr (Called line) NotComma line StandsTyped) tokens (Called line tokens)
  called_outcome line tokens e =
      outcome_both (Unit {0}) (Unit {0}) (Unit {0}) Anything Anything NotComma Typed (Callee line) (Reasons Anything Typed Anything) (λ width. CalleeOr (Callee line width) NotComma line (λ front. front ≡ [])) (CalleeOr (Called line) NotComma line StandsTyped) tokens
      (record {
        first = λ front t behind there found why. inl (reasons_first (Unit {0}) Anything Anything NotComma Typed (Callee line) (callee_sample line) front t found why);
        second = λ x is o front t behind there found why. callee_second NotComma Typed (Callee line) (callee_sample line) line (λ front. front ≡ []) StandsTyped tokens x o (wider x is o) front t behind there found why;
      })
      (apart_new (Unit {0}) (Unit {0}) Anything Anything NotComma Typed (Callee line) (λ width. CalleeOr (Callee line width) NotComma line (λ front. front ≡ [])) tokens typed-good.apart)
      (callee_sample line) (Typed tokens) refl (typed-good.outcome tokens e) (λ x is ended. callee_outcome line x.0 x.1 ended)
    where
      wider : (x : ℕ × List Placed) → Typed tokens ≡ Ok x → (o : IsReadIf (Unit {0}) Anything Typed Anything (Unit {0}) tokens x.0 x.1) → (front : List Placed) → front ≡ [] → StandsTyped (o.front ++ front)
      wider x is o front none =
          let s = typed_stands tokens x is in
          let same : s.0 ≡ o.front = append_cancel_right s.0 o.front x.1 (sym s.1 ∙ o.there) in
          subst StandsTyped (same ∙ sym (append-nil o.front) ∙ ap (λ (ts : List Placed). o.front ++ ts) (sym none)) s.2

  pub called_splits : (line : ℕ) → Splits (Called line)
  called_splits line =
      both_splits Typed (Callee line) (apart_splits typed-good.apart)
      (λ width. both_splits (callee_at line) (Arguments line width) (apart_splits (token_apart (callee_at line) (CalleeOr (callee_at line) Anything line (λ front. front ≡ [])) (callee_flags line) (callee_takes line))) (λ named. (arguments-open line width named).splits))

  -- ---- a call as the parser reads it

  pub call_from : (line : ℕ) (tokens : List Placed) → (call_at line >>= λ op. Ending (f op)) tokens ≡ Called line tokens
  unfolding call_at
  call_from line tokens =
      assoc (items_at tokens) _ _
      ∙ same_behind (items_at tokens) _ _ (λ x is.
      assoc (type_at x.1) _ _ ∙ same_behind (type_at x.1) _ _ (λ w is_w.
      assoc (callee_at line w.1) _ _ ∙ same_behind (callee_at line w.1) _ _ (λ c is_c.
      assoc (mark_at marks.open_paren c.1) _ _ ∙ same_behind (mark_at marks.open_paren c.1) _ _ (λ u is_u.
      assoc (arguments_at c.0.0 u.1) _ _ ∙ same_behind (arguments_at c.0.0 u.1) _ _ (λ a is_a.
      assoc (close_at a.1) _ _ ∙ same_behind (close_at a.1) _ _ (λ l is_l. assoc (late_items_at l.0 l.1) _ _))))))
      ∙ sym (assoc (items_at tokens) (λ items. type_at) (Callee line))

-- ---- `call` behind `tail` or `notail`

call_word : (w : List ℕ) → bytes_eq w (codes "call") ≡ true → w ≡ codes "call"
call_word w is = (bytes_eq-Decides w (codes "call")).0 is

call_word_no_type : (w : List ℕ) (n : ℕ) → IsTypeWord w n → (line : ℕ) (more : List Placed) → (e : Fault IrFaultKind) × (call_word_at ((line, Word w) ∷ more) ≡ Err e)
unfolding call_word_at
call_word_no_type w n is line more = (fault line (LeftOut w), rw (no_call w n is) refl)
  where
    no_call : (w : List ℕ) (n : ℕ) → IsTypeWord w n → bytes_eq w (codes "call") ≡ false
    no_call w n is = rw is.1 refl

call_word_bad : {t u : Token} → is_word t ≡ false → Like (Unit {0}) t u → Bad (Unit {0}) call_word_at [] t u
unfolding call_word_at unexpected
call_word_bad none like = other_bad call_word_at none call_word_no_type (λ f line more. (fault line (misfit places.Choice (Function f)), refl)) (λ digits n is line more. (fault line (misfit places.Choice (Number n)), refl)) like

call_word_refuses : (ending : Word_ending) → RefusesAt call_word_at [] (Word (ending_word ending))
unfolding call_word_at
call_word_refuses endings.Return more = (fault 0 (LeftOut (codes "ret")), refl)
call_word_refuses endings.Unreachable more = (fault 0 (LeftOut (codes "unreachable")), refl)
call_word_refuses endings.Branch more = (fault 0 (LeftOut (codes "br")), refl)
call_word_refuses endings.Switch more = (fault 0 (LeftOut (codes "switch")), refl)

call_word_takes : Fit Anything call_word_at Anything [] (Word (codes "call")) → (line : ℕ) (t : Token) → Takes call_word_at (Reasons Anything call_word_at Anything) line t
unfolding call_word_at unexpected
call_word_takes fit line (Word w) = by (bytes_eq w (codes "call")) refl
  where
    by : (b : Bool) → bytes_eq w (codes "call") ≡ b → Takes call_word_at (Reasons Anything call_word_at Anything) line (Word w)
    by true h = takes line refl (λ more. rw h refl)
    by false h =
        refuses (fault line (LeftOut w))
        (inl (refl, word_reason (Fit Anything call_word_at Anything []) (Bad (Unit {0}) call_word_at []) (Again Anything call_word_at Anything []) (RefusesAt call_word_at []) w (codes "call") (nouns.opcode operations.Call refl) fit (λ u ws. types_bad call_word_at call_word_no_type ws)))
        (λ more. rw h refl)
call_word_takes fit line t =
    refuses (fault line (misfit places.Choice t))
    (inl (refl, choice_reason (Fit Anything call_word_at Anything []) (Bad (Unit {0}) call_word_at []) (Again Anything call_word_at Anything []) (RefusesAt call_word_at []) t refl (λ u like. call_word_bad refl like, λ begins. inr call_word_refuses)))
    (λ more. refl)

call_word_flags : TakesNoFlag call_word_at
unfolding call_word_at
call_word_flags = ((unexpected places.Choice [], refl), by)
  where
    by : (flag : Flag) → RefusesEach call_word_at (Word (flag_keyword flag))
    by Nuw line more = (fault line (LeftOut (codes "nuw")), refl)
    by Nsw line more = (fault line (LeftOut (codes "nsw")), refl)
    by Exact line more = (fault line (LeftOut (codes "exact")), refl)
    by NNeg line more = (fault line (LeftOut (codes "nneg")), refl)
    by Disjoint line more = (fault line (LeftOut (codes "disjoint")), refl)
    by SameSign line more = (fault line (LeftOut (codes "samesign")), refl)

pub call_word-good : Good Anything call_word_at Anything
unfolding call_word_at
call_word-good = one_token (Word (codes "call"), tt, 0, λ more. refl) call_word_flags (call_word_takes (fits_alone Anything call_word_at Anything (Word (codes "call")) 0 tt (λ more. refl)))

pub call_word_read : (tokens : List Placed) (x : ℕ × List Placed) → call_word_at tokens ≡ Ok x → tokens ≡ (x.0, Word (codes "call")) ∷ x.1
unfolding call_word_at
call_word_read [] x is = absurd cc
call_word_read ((line, Word w) ∷ rest) x is = by (bytes_eq w (codes "call")) refl is
  where
    by : (b : Bool) → bytes_eq w (codes "call") ≡ b → cond b (the_read (Ok (line, rest))) (Err (fault line (LeftOut w))) ≡ Ok x → (line, Word w) ∷ rest ≡ (x.0, Word (codes "call")) ∷ x.1
    by true h read = read_as (λ z. (line, Word w) ∷ rest ≡ (z.0, Word (codes "call")) ∷ z.1) (line, rest) x read (ap (λ (v : List ℕ). (line, Word v) ∷ rest) (call_word w h))
    by false h read = absurd cc
call_word_read ((line, t) ∷ rest) x is = absurd cc

-- the tokens are `call`, items and a type
abbrev pub StandsMarked : ℕ → List Placed → Type 0
StandsMarked line front = (behind : List Placed) × (front ≡ (line, Word (codes "call")) ∷ behind) × StandsTyped behind

abbrev pub MarkedWhy : {A : Type 0} → (RawOp → A) → Why
MarkedWhy f front t found = (line : ℕ) × CalleeOr (call_word_at >>= Called f) NotComma line (StandsMarked line) front t found

pub marked_sample : {A : Type 0} (f : RawOp → A) → Sample Anything (call_word_at >>= Called f) NotComma
marked_sample f = sample_both Anything Anything NotComma call_word_at (Called f) call_word-good.sample (called_sample f)

pub marked_outcome : {A : Type 0} (f : RawOp → A) (tokens : List Placed) → Ended tokens → OutcomeIf (Unit {0}) Anything (call_word_at >>= Called f) NotComma (Unit {0}) (MarkedWhy f) tokens ((call_word_at >>= Called f) tokens)
marked_outcome f tokens e =
    outcome_both (Unit {0}) (Unit {0}) (Unit {0}) Anything Anything NotComma call_word_at (Called f) (Reasons Anything call_word_at Anything) (λ line. CalleeOr (Called f line) NotComma line StandsTyped) (MarkedWhy f) tokens
    (record {
      first = λ front t behind there found why. (0, inl (reasons_first (Unit {0}) Anything Anything NotComma call_word_at (Called f) (called_sample f) front t found why));
      second = λ x is o front t behind there found why. (
        x.0,
        callee_second NotComma call_word_at (Called f) (called_sample f) x.0 StandsTyped (StandsMarked x.0) tokens x o
            (λ ts stands.
            let same : (x.0, Word (codes "call")) ∷ [] ≡ o.front = append_cancel_right ((x.0, Word (codes "call")) ∷ []) o.front x.1 (sym (call_word_read tokens x is) ∙ o.there) in
            subst (λ (first : List Placed). StandsMarked x.0 (first ++ ts)) same (ts, refl, stands))
            front t behind there found why,
      );
    })
    (apart_new (Unit {0}) (Unit {0}) Anything Anything NotComma call_word_at (Called f) (λ line. CalleeOr (Called f line) NotComma line StandsTyped) tokens call_word-good.apart)
    (called_sample f) (call_word_at tokens) refl (call_word-good.outcome tokens e) (λ x is ended. called_outcome f x.0 x.1 ended)

pub marked_splits : {A : Type 0} (f : RawOp → A) → Splits (call_word_at >>= Called f)
marked_splits f = both_splits call_word_at (Called f) (apart_splits call_word-good.apart) (called_splits f)

pub marked_from : {A : Type 0} (f : RawOp → A) (tokens : List Placed) → (marked_call_at >>= λ op. Ending (f op)) tokens ≡ (call_word_at >>= Called f) tokens
unfolding marked_call_at
marked_from f tokens = assoc (call_word_at tokens) call_at (λ op. Ending (f op)) ∙ same_behind (call_word_at tokens) _ _ (λ x is. call_from f x.0 x.1)
