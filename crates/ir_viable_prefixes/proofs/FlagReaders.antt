-- Viable prefixes of flags. A flag that is refused is among those before it.
use Rattle.ir_viable_prefixes.proofs.Common.{◌≡◌, ℕ, suc, Bool, true, false, List, [], ◌∷◌, ◌++◌, length, Option, Some, None, Ok, Err, refl, sym, ap, subst, ◌∙◌, ◌⊎◌, inl, inr, is_some, arith, append-nil, append_cancel_right, Flags, no_flags, Token, Placed, Word, Mark, Fault, IrFaultKind, Syntax, LeftOut, OutOfRange, Flag, Nuw, Nsw, Exact, NNeg, Disjoint, SameSign, Is, Each, begins_record, Read, Reader, fault, ◌>>=◌, repeat_at, repeat-is, repeat-more, repeat-done, ending_word, type_in, bind_ok, read_as, same_front, flag_in, flag_keyword, has_flag, with_flag, flag-takes, type_is_no_flag, flag_in-is}
use Rattle.ir_instructions.specs.declared.word.Ending.{Ending}
use Rattle.ir_instructions.specs.declared.word.Ending.TheVariants as endings
use Rattle.ir_instructions.specs.InstructionReaders as parsing
use Rattle.ir_viable_prefixes.proofs.Choices.{AsksNext, Tested, Opens, SaysOfRecords}
use Rattle.ir_viable_prefixes.proofs.Outcomes.{Follow, Anything, Ended, Why, Reasons, Lifts, IsReadIf, IsRefused, New, free_second, OutcomeIf, Takes, takes, refuses, taken, repeats_behind, GoodIf, Sample, sample_both, Fit, Bad, Again, RefusesAt, RefusesEach, CompletesBegun, ReasonsIf, reasons_second, fits_first, ◌then◌, outcome_both}
use Rattle.ir_viable_prefixes.proofs.FlagRuns.{FollowsFlag, IsAgain, NoFlag, NoFlagNext, IsLeft, leaves_both, new_behind}
use Rattle.ir_viable_prefixes.proofs.Reasons.{a_type, a_pred, Reason, like_word, like_type, like_function, like_width, like_number}
use Rattle.ir_viable_prefixes.proofs.Repeats.{Steps, loop_sample, repeat_outcomes}

abbrev pub NotFlag : Flags → Follow
NotFlag set = Tested (parsing.is_flag set) false

abbrev pub IsFlag : Flags → Follow
IsFlag set = Tested (parsing.is_flag set) true

flag_next : (set : Flags) → AsksNext (parsing.is_flag set)
flag_next set l k (Word w) a b = refl
flag_next set l k t a b = refl

-- the keyword of a flag is no integer type of a wrong width
flag_is_no_width : (set : Flags) (w : List ℕ) → type_in w ≡ OutOfRange → is_some (flag_in set w) ≡ true → ⊥
unfolding type_in
flag_is_no_width set w out next = by (flag_in set w) refl
  where
    no_width : (flag : Flag) → type_in (flag_keyword flag) ≡ OutOfRange → ⊥
    no_width Nuw is = cc
    no_width Nsw is = cc
    no_width Exact is = cc
    no_width NNeg is = cc
    no_width Disjoint is = cc
    no_width SameSign is = cc

    by : (flag : Option Flag) → flag_in set w ≡ flag → ⊥
    by (Some flag) h = no_width flag (subst (λ (v : List ℕ). type_in v ≡ OutOfRange) (flag_in-is set w flag h).0 out)
    by None h = let no_flag : is_some (flag_in set w) ≡ false = rw h refl in cc

flag_open : (set : Flags) → Opens (parsing.is_flag set) true ⊥
flag_open set t u next (like_word v w other noun) = absurd v
flag_open set t u next (like_type m other width begins is) = absurd cc
flag_open set t u next (like_function written other) = absurd cc
flag_open set t u next (like_width w other width out is) = absurd (flag_is_no_width set w out next)
flag_open set t u next (like_number digits other) = absurd cc

flag_shut : (set : Flags) → Opens (parsing.is_flag set) false ⊥
flag_shut set t u none (like_word v w other noun) = absurd v
flag_shut set t u none (like_type m other width begins is) = rw (type_is_no_flag set other width is) refl
flag_shut set t u none (like_function written other) = refl
flag_shut set t u none (like_width w other width out is) = rw (type_is_no_flag set other width is) refl
flag_shut set t u none (like_number digits other) = refl

-- the word of a terminator is no flag
ending_is_no_flag : (set : Flags) (ending : Ending) → Tested (parsing.is_flag set) false (Word (ending_word ending))
unfolding flag_in
ending_is_no_flag set endings.Return = refl
ending_is_no_flag set endings.Unreachable = refl
ending_is_no_flag set endings.Branch = refl
ending_is_no_flag set endings.Switch = refl

flag_records : (set : Flags) → SaysOfRecords (parsing.is_flag set)
flag_records set b (Mark m) begins says = (λ ending. ending_is_no_flag set ending ∙ says, λ text. says)
flag_records set b t begins says = absurd cc

flag_steps : (set : Flags) → Steps ⊥ Anything (NotFlag set) ⊥ (parsing.is_flag set) (parsing.flag_at set)
flag_steps set = record { asks = flag_next set; takes = flag-takes set; ends = λ t f. f; ends_step = λ t f. tt; next_ends_step = λ t n. tt; opens = flag_open set; shuts = flag_shut set; records = λ a b t begins h. let r = flag_records set b t begins h in (inr r.0, λ end. r.1) }

-- ---- one flag

-- the token is a flag that is among those before
abbrev IsThere : Flags → Why
IsThere before front t found = (front ≡ []) × (w : List ℕ) × (flag : Flag) × (t.1 ≡ Word w) × (w ≡ flag_keyword flag) × (has_flag before flag ≡ true) × (found.line ≡ t.0) × (found.kind ≡ Syntax)

flag_outcome : (set : Flags) (before : Flags) (tokens : List Placed) → Ended tokens → parsing.is_flag set tokens ≡ true → OutcomeIf ⊥ (IsFlag set) (parsing.flag_at set before) Anything (Unit {0}) (IsThere before) tokens (parsing.flag_at set before tokens)
unfolding parsing.flag_at
flag_outcome set before [] e next = absurd e
flag_outcome set before ((line, Word w) ∷ rest) e next = by (flag_in set w) refl
  where
    one : (flag : Flag) (b : Bool) → flag_in set w ≡ Some flag → has_flag before flag ≡ b → Takes (parsing.flag_at set before) (IsThere before) line (Word w)
    one flag true h k = refuses (fault line Syntax) (refl, w, flag, refl, (flag_in-is set w flag h).0, k, refl, refl) (λ more. rw (h, k) refl)
    one flag false h k = takes (with_flag before flag) refl (λ more. rw (h, k) refl)

    by : (flag : Option Flag) → flag_in set w ≡ flag → OutcomeIf ⊥ (IsFlag set) (parsing.flag_at set before) Anything (Unit {0}) (IsThere before) ((line, Word w) ∷ rest) (parsing.flag_at set before ((line, Word w) ∷ rest))
    by (Some flag) h = taken ⊥ (IsFlag set) (parsing.flag_at set before) Anything (Unit {0}) (IsThere before) line (Word w) rest e (one flag (has_flag before flag) h refl)
    by None h = let no_flag : is_some (flag_in set w) ≡ false = rw h refl in absurd cc
flag_outcome set before ((line, t) ∷ rest) e next = absurd cc

abbrev the_read : {A : Type 0} → A × List Placed → Read A
the_read x = Ok x

-- a step reads a flag the same whatever stands behind it
flag_step : (set : Flags) (before : Flags) (tokens : List Placed) (x : Flags × List Placed) → parsing.flag_at set before tokens ≡ Ok x
    → (l : ℕ) × (f : Flag) × (tokens ≡ (l, Word (flag_keyword f)) ∷ x.1) × (x.0 ≡ with_flag before f) × ((more : List Placed) → parsing.flag_at set before ((l, Word (flag_keyword f)) ∷ more) ≡ Ok (x.0, more))
unfolding parsing.flag_at
flag_step set before ((line, Word w) ∷ rest) x is = by (flag_in set w) refl
  where
    Stepped : List ℕ → Type 0
    Stepped v = (l : ℕ) × (f : Flag) × ((line, Word v) ∷ rest ≡ (l, Word (flag_keyword f)) ∷ x.1) × (x.0 ≡ with_flag before f) × ((more : List Placed) → parsing.flag_at set before ((l, Word (flag_keyword f)) ∷ more) ≡ Ok (x.0, more))

    one : (flag : Flag) (b : Bool) → flag_in set w ≡ Some flag → has_flag before flag ≡ b → Stepped w
    one flag true h k = let none : parsing.flag_at set before ((line, Word w) ∷ rest) ≡ Err (fault line Syntax) = rw (h, k) refl in absurd cc
    one flag false h k =
        let reads : (more : List Placed) → parsing.flag_at set before ((line, Word w) ∷ more) ≡ Ok (with_flag before flag, more) = (λ more. rw (h, k) refl) in
        let same : the_read (with_flag before flag, rest) ≡ the_read x = sym (reads rest) ∙ is in
        let keyword : w ≡ flag_keyword flag = (flag_in-is set w flag h).0 in (
          line,
          flag,
          same_front line w (flag_keyword flag) rest x.1 keyword (read_as (λ y. rest ≡ y.1) (with_flag before flag, rest) x same refl),
          read_as (λ y. y.0 ≡ with_flag before flag) (with_flag before flag, rest) x same refl,
          subst (λ (v : List ℕ). (more : List Placed) → parsing.flag_at set before ((line, Word v) ∷ more) ≡ Ok (x.0, more)) keyword
              (read_as (λ y. (more : List Placed) → parsing.flag_at set before ((line, Word w) ∷ more) ≡ Ok (y.0, more)) (with_flag before flag, rest) x same reads),
        )

    by : (flag : Option Flag) → flag_in set w ≡ flag → Stepped w
    by (Some flag) h = one flag (has_flag before flag) h refl
    by None h = let none : parsing.flag_at set before ((line, Word w) ∷ rest) ≡ Err (fault line Syntax) = rw h refl in absurd cc
flag_step set before tokens x is = absurd cc

has_with : (before : Flags) (new flag : Flag) → has_flag (with_flag before new) flag ≡ true → (has_flag before flag ≡ true) ⊎ (new ≡ flag)
has_with before Nuw Nuw h = inr refl
has_with before Nuw Nsw h = inl h
has_with before Nuw Exact h = inl h
has_with before Nuw NNeg h = inl h
has_with before Nuw Disjoint h = inl h
has_with before Nuw SameSign h = inl h
has_with before Nsw Nuw h = inl h
has_with before Nsw Nsw h = inr refl
has_with before Nsw Exact h = inl h
has_with before Nsw NNeg h = inl h
has_with before Nsw Disjoint h = inl h
has_with before Nsw SameSign h = inl h
has_with before Exact Nuw h = inl h
has_with before Exact Nsw h = inl h
has_with before Exact Exact h = inr refl
has_with before Exact NNeg h = inl h
has_with before Exact Disjoint h = inl h
has_with before Exact SameSign h = inl h
has_with before NNeg Nuw h = inl h
has_with before NNeg Nsw h = inl h
has_with before NNeg Exact h = inl h
has_with before NNeg NNeg h = inr refl
has_with before NNeg Disjoint h = inl h
has_with before NNeg SameSign h = inl h
has_with before Disjoint Nuw h = inl h
has_with before Disjoint Nsw h = inl h
has_with before Disjoint Exact h = inl h
has_with before Disjoint NNeg h = inl h
has_with before Disjoint Disjoint h = inr refl
has_with before Disjoint SameSign h = inl h
has_with before SameSign Nuw h = inl h
has_with before SameSign Nsw h = inl h
has_with before SameSign Exact h = inl h
has_with before SameSign NNeg h = inl h
has_with before SameSign Disjoint h = inl h
has_with before SameSign SameSign h = inr refl

-- ---- flags

abbrev AreFlags : List Placed → Type 0
AreFlags front = (flags : List Flag) × Each (λ f. Is (Word (flag_keyword f))) flags front []

-- the parser of flags behind those before
abbrev FlagsFrom : Flags → Flags → Reader Flags
FlagsFrom set = repeat_at (parsing.is_flag set) (parsing.flag_at set)

-- behind these flags it stops at a token that is none
abbrev StopsAtNone : Flags → Flags → List Placed → Type 0
StopsAtNone set before front = (u : Token) → NotFlag set u → (after : Flags) × ((more : List Placed) → FlagsFrom set before (front ++ (0, u) ∷ more) ≡ Ok (after, (0, u) ∷ more))

stops_at_once : (set before : Flags) → StopsAtNone set before []
stops_at_once set before u none = (before, λ more. repeat-done (parsing.is_flag set) (parsing.flag_at set) before ((0, u) ∷ more) (flag_next set 0 0 u more [] ∙ none))

stops_behind : (set before after : Flags) (line : ℕ) (new : Flag) (front : List Placed) → ((more : List Placed) → parsing.flag_at set before ((line, Word (flag_keyword new)) ∷ more) ≡ Ok (after, more)) → IsFlag set (Word (flag_keyword new))
    → StopsAtNone set after front → StopsAtNone set before ((line, Word (flag_keyword new)) ∷ front)
stops_behind set before after line new front one next stops u none =
    let s = stops u none in
    (s.0, λ more. repeat-more (parsing.is_flag set) (parsing.flag_at set) (flag-takes set) before ((line, Word (flag_keyword new)) ∷ (front ++ (0, u) ∷ more)) (after, front ++ (0, u) ∷ more) (flag_next set line 0 (Word (flag_keyword new)) (front ++ (0, u) ∷ more) [] ∙ next) (one (front ++ (0, u) ∷ more)) ∙ s.1 more)

-- the token is a flag that is among those before, or among these
abbrev IsThereOrRead : Flags → Flags → Why
IsThereOrRead set before front t found =
    ((w : List ℕ) × (flag : Flag) × (t.1 ≡ Word w) × (w ≡ flag_keyword flag) × (found.line ≡ t.0) × (found.kind ≡ Syntax) × (FollowsFlag front w ⊎ ((has_flag before flag ≡ true) × AreFlags front))) × StopsAtNone set before front

read_behind : (set before after : Flags) (line : ℕ) (new : Flag) (front : List Placed) (t : Placed) (found : Fault IrFaultKind) → after ≡ with_flag before new
    → ((more : List Placed) → parsing.flag_at set before ((line, Word (flag_keyword new)) ∷ more) ≡ Ok (after, more)) → IsFlag set (Word (flag_keyword new)) → IsThereOrRead set after front t found → IsThereOrRead set before ((line, Word (flag_keyword new)) ∷ front) t found
read_behind set before after line new front t found is one next ((w, flag, token, same, place, syntax, r), stops) =
    ((w, flag, token, same, place, syntax, by r), stops_behind set before after line new front one next stops)
  where
    old_or_new : (flags : List Flag) → Each (λ f. Is (Word (flag_keyword f))) flags front [] → (has_flag before flag ≡ true) ⊎ (new ≡ flag) → FollowsFlag ((line, Word (flag_keyword new)) ∷ front) w ⊎ ((has_flag before flag ≡ true) × AreFlags ((line, Word (flag_keyword new)) ∷ front))
    old_or_new flags each (inl old) = inr (old, (new ∷ flags, (front, (line, refl), each)))
    old_or_new flags each (inr now) = inl ([], (line, Word (flag_keyword new)) ∷ front, new, flags, refl, same ∙ ap flag_keyword (sym now), (front, (line, refl), each))

    by : FollowsFlag front w ⊎ ((has_flag after flag ≡ true) × AreFlags front) → FollowsFlag ((line, Word (flag_keyword new)) ∷ front) w ⊎ ((has_flag before flag ≡ true) × AreFlags ((line, Word (flag_keyword new)) ∷ front))
    by (inl repeats) = inl (repeats_behind ((line, Word (flag_keyword new)) ∷ []) front w repeats)
    by (inr (has, (flags, each))) = old_or_new flags each (has_with before new flag (subst (λ (f : Flags). has_flag f flag ≡ true) is has))

flag_lifts : (set : Flags) (E : Follow) → ((t : Token) → IsFlag set t → E t) → (a : Flags) (tokens : List Placed) → parsing.is_flag set tokens ≡ true
    → Lifts ⊥ (Unit {0}) (IsFlag set) Anything (NotFlag set) (parsing.flag_at set a) (FlagsFrom set) (IsThere a) (IsThereOrRead set) (IsThereOrRead set a) tokens
flag_lifts set E enters a tokens next = record {
  first = λ front t behind there found why.
      ((why.1, why.2, why.3, why.4, why.6, why.7, inr (why.5, subst AreFlags (sym why.0) ([], refl))), subst (StopsAtNone set a) (sym why.0) (stops_at_once set a));
  second = λ x is o front t behind there found why.
      let s = flag_step set a tokens x is in
      let first : o.front ≡ (s.0, Word (flag_keyword s.1)) ∷ [] = append_cancel_right o.front ((s.0, Word (flag_keyword s.1)) ∷ []) x.1 (sym o.there ∙ s.2) in
      let flag : IsFlag set (Word (flag_keyword s.1)) = flag_next set 0 s.0 (Word (flag_keyword s.1)) [] x.1 ∙ subst (λ (us : List Placed). parsing.is_flag set us ≡ true) s.2 next in
      subst (λ (ts : List Placed). IsThereOrRead set a (ts ++ front) t found) (sym first) (read_behind set a x.0 s.0 s.1 front t found s.3 s.4 flag why);
}

-- a token that fits the next parser fits behind the flags
fits_behind : {A : Type 0} (set : Flags) (S : Flags → Reader A) (front : List Placed) (u : Token) → StopsAtNone set no_flags front → ((x : Flags) → Fit (NotFlag set) (S x) Anything [] u) → Fit Anything (parsing.flags_at set >>= S) Anything front u
unfolding parsing.flags_at
fits_behind set S front u stops fits =
    let s = stops u ((fits no_flags).1 refl) in
    let fit = fits s.0 in
    ((fit.0.0, fit.0.1, λ ts f. rw (s.1 (fit.0.1 ++ ts)) (fit.0.2 ts f)), λ none. tt)

-- the parser behind flags takes a type or a predicate first
abbrev pub TakesNoun : {A : Type 0} → Flags → Reader A → Type 0
TakesNoun set R = Fit (NotFlag set) R Anything [] a_type ⊎ Fit (NotFlag set) R Anything [] a_pred

there_again : {A : Type 0} (set : Flags) (S : Flags → Reader A) → ((x : Flags) → Fit (NotFlag set) (S x) Anything [] a_type) ⊎ ((x : Flags) → Fit (NotFlag set) (S x) Anything [] a_pred)
    → (front : List Placed) (t : Placed) (found : Fault IrFaultKind) → IsThereOrRead set no_flags front t found → Reasons Anything (parsing.flags_at set >>= S) Anything front t found
there_again set S nouns front t found ((w, flag, token, same, place, syntax, r), stops) =
    inl (place, subst said (sym syntax) (λ u like. inr (w, token, (by flag r, noun nouns)), λ begins. absurd (is_no_record t.1 w token begins), λ bad. cc))
  where
    said : IrFaultKind → Type 0
    said =
        Reason (Fit Anything (parsing.flags_at set >>= S) Anything front) (Bad (Unit {0}) (parsing.flags_at set >>= S) front) (Again Anything (parsing.flags_at set >>= S) Anything front)
        (RefusesAt (parsing.flags_at set >>= S) front) t.1

    noun : ((x : Flags) → Fit (NotFlag set) (S x) Anything [] a_type) ⊎ ((x : Flags) → Fit (NotFlag set) (S x) Anything [] a_pred)
        → Fit Anything (parsing.flags_at set >>= S) Anything front a_type ⊎ Fit Anything (parsing.flags_at set >>= S) Anything front a_pred
    noun (inl fits) = inl (fits_behind set S front a_type stops fits)
    noun (inr fits) = inr (fits_behind set S front a_pred stops fits)

    is_no_record : (u : Token) (v : List ℕ) → u ≡ Word v → begins_record u ≡ true → ⊥
    is_no_record u v is begins = let no : begins_record u ≡ false = rw is refl in cc

    by : (flag : Flag) → FollowsFlag front w ⊎ ((has_flag no_flags flag ≡ true) × AreFlags front) → FollowsFlag front w
    by flag (inl repeats) = repeats
    by Nuw (inr h) = let no = h.0 in absurd cc
    by Nsw (inr h) = let no = h.0 in absurd cc
    by Exact (inr h) = let no = h.0 in absurd cc
    by NNeg (inr h) = let no = h.0 in absurd cc
    by Disjoint (inr h) = let no = h.0 in absurd cc
    by SameSign (inr h) = let no = h.0 in absurd cc

flags_sample : (set : Flags) → Sample Anything (parsing.flags_at set) (NotFlag set)
unfolding parsing.flags_at
flags_sample set = loop_sample ⊥ Anything (NotFlag set) ⊥ (parsing.is_flag set) (parsing.flag_at set) (flag_steps set) Anything (λ t f. tt) no_flags

flags_outcome : (set : Flags) (tokens : List Placed) → Ended tokens → OutcomeIf (Unit {0}) Anything (parsing.flags_at set) (NotFlag set) ⊥ (IsThereOrRead set no_flags) tokens (parsing.flags_at set tokens)
unfolding parsing.flags_at
flags_outcome set tokens e =
    repeat_outcomes ⊥ Anything (NotFlag set) ⊥ (parsing.is_flag set) (parsing.flag_at set) (flag_steps set) IsThere (λ E a. IsThereOrRead set a) (flag_lifts set) (λ a ts x is o found p failed left. absurd (syntax_left p.why.0.5 left)) (flag_outcome set) (suc (length tokens)) Anything (λ t f. tt) (λ t n. tt) no_flags tokens (omega arith) e
  where
    syntax_left : {kind : IrFaultKind} → kind ≡ Syntax → IsLeft kind → ⊥
    syntax_left syntax (text, left) = let both : Syntax ≡ LeftOut text = sym syntax ∙ left in cc

-- ---- what stands behind flags

abbrev pub AreOwn : Flags → List Placed → Type 0
AreOwn set [] = Unit {0}
AreOwn set (t ∷ tokens) = IsFlag set t.1 × AreOwn set tokens

own_flag : (set : Flags) (before : List Placed) (t : Placed) (behind : List Placed) → AreOwn set (before ++ t ∷ behind) → IsFlag set t.1
own_flag set [] t behind own = own.0
own_flag set (u ∷ before) t behind own = own_flag set before t behind own.1

-- all flags of the operation that stand there are read
pub flags_are : (set : Flags) (tokens : List Placed) (x : Flags × List Placed) → parsing.flags_at set tokens ≡ Ok x → ((front : List Placed) × (tokens ≡ front ++ x.1) × AreOwn set front) × (parsing.is_flag set x.1 ≡ false)
unfolding parsing.flags_at
flags_are set tokens x is =
    repeat-is (parsing.is_flag set) (parsing.flag_at set) (λ a ts b rest. (front : List Placed) × (ts ≡ front ++ rest) × AreOwn set front) (λ a ts. ([], refl, tt)) (λ a ts y b rest next one more. another a ts y rest next one more) _ no_flags tokens x is
  where
    another : (a : Flags) (ts : List Placed) (y : Flags × List Placed) (rest : List Placed) → parsing.is_flag set ts ≡ true → parsing.flag_at set a ts ≡ Ok y → (front : List Placed) × (y.1 ≡ front ++ rest) × AreOwn set front → (front : List Placed) × (ts ≡ front ++ rest) × AreOwn set front
    another a ts y rest next one (front, there, own) =
        let s = flag_step set a ts y one in
        let flag : IsFlag set (Word (flag_keyword s.1)) = flag_next set 0 s.0 (Word (flag_keyword s.1)) [] y.1 ∙ subst (λ (us : List Placed). parsing.is_flag set us ≡ true) s.2 next in
        ((s.0, Word (flag_keyword s.1)) ∷ front, s.2 ∙ ap (λ (us : List Placed). (s.0, Word (flag_keyword s.1)) ∷ us) there, (flag, own))

-- so the next token repeats none of them
next_new : (set : Flags) (front : List Placed) (l : ℕ) (t : Token) (rest : List Placed) → AreOwn set front → parsing.is_flag set ((l, t) ∷ rest) ≡ false → ¬ IsAgain front t
next_new set front l t rest own none (w, is, (before, run, flag, flags, same, word, (between, (k, one), each))) =
    let there : front ≡ before ++ (k, Word (flag_keyword flag)) ∷ between = same ∙ ap (λ (ts : List Placed). before ++ ts) one in
    let next : IsFlag set (Word (flag_keyword flag)) = own_flag set before (k, Word (flag_keyword flag)) between (subst (AreOwn set) there own) in
    let other : Tested (parsing.is_flag set) false (Word (flag_keyword flag)) = flag_next set 0 l (Word (flag_keyword flag)) [] rest ∙ subst (λ (u : Token). parsing.is_flag set ((l, u) ∷ rest) ≡ false) (is ∙ ap Word word) none in
    is_one (parsing.is_flag set ((0, Word (flag_keyword flag)) ∷ [])) next other
  where
    is_one : (b : Bool) → b ≡ true → b ≡ false → ⊥
    is_one b holds fails = cc

-- flags, and then a parser that takes no flag first, but a type or a predicate
pub flags_then : {A B : Type 0} {V W : Type 0} (set : Flags) {R : Reader B} {S : Flags → B → Reader A} → GoodIf ⊥ (NotFlag set) R Anything V → ((x : Flags) (y : B) → GoodIf V Anything (S x y) Anything W) → ((flag : Flag) → RefusesEach R (Word (flag_keyword flag))) → TakesNoun set R
    → GoodIf (Unit {0}) Anything (parsing.flags_at set >>= λ x. R >>= S x) Anything W
flags_then {A} {B} {V} {W} set {R} {S} r s no_flags_at nouns = record {
  sample = sample_both Anything (NotFlag set) Anything (parsing.flags_at set) Rest (flags_sample set) (λ x. (rest x).sample);
  outcome = λ tokens e.
      outcome_both (Unit {0}) ⊥ W Anything (NotFlag set) Anything (parsing.flags_at set) Rest (IsThereOrRead set no_flags) (λ x. ReasonsIf ⊥ (NotFlag set) (Rest x) Anything) (Reasons Anything (parsing.flags_at set >>= Rest) Anything) tokens
      (record {
        first = λ front t behind there found why. there_again set Rest (noun nouns) front t found why;
        second = λ x is o front t behind there found why. reasons_second (Unit {0}) ⊥ Anything (NotFlag set) Anything (parsing.flags_at set) Rest (λ x. (rest x).sample) tokens x o front t behind there found why;
      })
      (λ x is o found p failed left. either tokens x is o found p (p.new left)) (λ x. (rest x).sample) (parsing.flags_at set tokens) refl (flags_outcome set tokens e) (λ x is ended. (rest x.0).outcome x.1 ended);
  apart = λ tokens y is.
      let one = bind_ok (parsing.flags_at set tokens) Rest y is in
      let a = flags_are set tokens one.0 one.1 in
      leaves_both tokens one.0.1 y.1 (a.0.0, a.0.1, inr (next one.0.0 one.0.1 y one.2)) ((rest one.0.0).apart one.0.1 y one.2);
}
  where
    Rest : Flags → Reader A
    Rest x = R >>= S x

    rest : (x : Flags) → GoodIf ⊥ (NotFlag set) (Rest x) Anything W
    rest x = r then s x

    noun : TakesNoun set R → ((x : Flags) → Fit (NotFlag set) (Rest x) Anything [] a_type) ⊎ ((x : Flags) → Fit (NotFlag set) (Rest x) Anything [] a_pred)
    noun (inl fit) = inl (λ x. fits_first (NotFlag set) Anything Anything R (S x) (λ y. (s x y).sample) [] a_type fit)
    noun (inr fit) = inr (λ x. fits_first (NotFlag set) Anything Anything R (S x) (λ y. (s x y).sample) [] a_pred fit)

    no_flag : (x : Flags) (l : ℕ) (t : Token) (more : List Placed) (y : A × List Placed) → Rest x ((l, t) ∷ more) ≡ Ok y → NoFlag t
    no_flag x l t more y read flag same =
        let one = bind_ok (R ((l, t) ∷ more)) (S x) y read in
        let none = no_flags_at flag l more in
        let both : the_result (Err none.0) ≡ Ok one.0 = sym none.1 ∙ ap (λ (u : Token). R ((l, u) ∷ more)) (sym same) ∙ one.1 in absurd cc
      where
        the_result : Read B → Read B
        the_result q = q

    next : (x : Flags) (tokens : List Placed) (y : A × List Placed) → Rest x tokens ≡ Ok y → NoFlagNext tokens
    next x [] y read = tt
    next x ((l, t) ∷ more) y read = no_flag x l t more y read

    new : (tokens : List Placed) (x : Flags × List Placed) → parsing.flags_at set tokens ≡ Ok x → (first : List Placed) → tokens ≡ first ++ x.1 → (front : List Placed) (l : ℕ) (t : Token) (behind : List Placed) → x.1 ≡ front ++ (l, t) ∷ behind
        → ¬ IsAgain front t → CompletesBegun (Rest x.0) Anything front → ¬ IsAgain (first ++ front) t
    new tokens x is first whole [] l t behind there none c =
        let a = flags_are set tokens x is in
        let same : a.0.0 ≡ first = append_cancel_right a.0.0 first x.1 (sym a.0.1 ∙ whole) in
        subst (λ (f : List Placed). ¬ IsAgain f t) (sym (append-nil first)) (next_new set first l t behind (subst (AreOwn set) same a.0.2) (subst (λ (ts : List Placed). parsing.is_flag set ts ≡ false) there a.1))
    new tokens x is first whole ((k, u) ∷ front) l t behind there none c =
        new_behind first ((k, u) ∷ front) l t behind (inr (no_flag x.0 k u (front ++ (c.1 ++ (k, u) ∷ [])) (c.0, (k, u) ∷ []) (c.2 ((k, u) ∷ []) tt))) none

    either : (tokens : List Placed) (x : Flags × List Placed) → parsing.flags_at set tokens ≡ Ok x → (o : IsReadIf (Unit {0}) Anything (parsing.flags_at set) (NotFlag set) ⊥ tokens x.0 x.1) (found : Fault IrFaultKind) (p : IsRefused ⊥ (Rest x.0) Anything (ReasonsIf ⊥ (NotFlag set) (Rest x.0) Anything) x.1 found)
        → New ⊥ (Rest x.0) p.front p.token.1 → New (Unit {0}) (parsing.flags_at set >>= Rest) (o.front ++ p.front) p.token.1
    either tokens x is o found p (inl none) = inl (new tokens x is o.front o.there p.front p.token.0 p.token.1 p.behind p.there none p.completes)
    either tokens x is o found p (inr free) = inr (free_second (Unit {0}) ⊥ Anything (NotFlag set) (parsing.flags_at set) Rest tokens x o p.front p.token p.behind p.there free)
