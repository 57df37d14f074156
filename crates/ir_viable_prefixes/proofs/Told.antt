-- A fault in a call that is told of a token is the one that the parser of modules finds there.
use Rattle.ir_viable_prefixes.proofs.Common.{◌≡◌, ℕ, Bool, true, false, not, ◌&&◌, List, [], ◌∷◌, ◌++◌, Option, Some, None, Result, Ok, Err, refl, sym, ap, subst, ◌∙◌, ◌⊎◌, inl, inr, append_assoc, codes, bytes_eq, constant_of, Token, Placed, End, KeptGroup, Word, Number, Function, Group, Quoted, Mark, is_last, RawEntry, RawModule, RawOperand, Fault, IrFaultKind, Syntax, LeftOut, ConstRange, Items, ends_argument, no_truth_kind, SpellsItem, MayFollowItem, of_word_and_group, of_number, of_group, of_quoted, of_key_and_value, begins_item, is_item_word, type_in, Each, ◌⨾◌, SpellsType, is_word, Read, Reader, fault, goes_on, another_at, repeat-is, SpellsModule, ModulesAreReadAsSpelled, BeginsCall, plain, tail, no_tail, CallStands, CalleeFits, EndsArgument, comma, close, BeginsWithEnd, ValueFits, IsNoValue, IsToldInCall, Fits, FitsBehind, AttributesFit}
use Rattle.ops.specs.Number.{Number as Numeral}
use Rattle.ir_instructions.specs.ItemGrammar.{of_word}
use Rattle.ir_instructions.specs.Punctuation as marks
use Rattle.ir_parse.specs.ModuleReaders as parsing
use Rattle.ir_viable_prefixes.specs.Calls as calls
use Rattle.ir_viable_prefixes.proofs.Entries.{EndsText, OrEnds, entries_outcome}
use Rattle.ir_viable_prefixes.proofs.FunctionPlaces.{entries_places}
use Rattle.ir_viable_prefixes.proofs.ItemPlaces.{RefusesEnds, ReadsEnds, Argument, IsPlace, header, parameter, argument, the_group, the_end, Whole, Goes, left_of}
use Rattle.ir_viable_prefixes.proofs.Outcomes.{Next, Anything, Ended, RefusesPlaced, a_truth, no_truth, Outcome}
use Rattle.ir_viable_prefixes.proofs.Prefixed.{is_plain}
use Rattle.ir_viable_prefixes.proofs.Values.{IsValue, IsNone, IsNoneBy, IsNoneLast, operands, truths, WordsOf, ReadsValue, ends_next, none_before, end_is}

-- ---- tokens that are read are a viable prefix

abbrev the_module : Result RawModule (Fault IrFaultKind) → Result RawModule (Fault IrFaultKind)
the_module r = r

unfit : ModulesAreReadAsSpelled → (tokens : List Placed) → ((more : List Placed) → (e : Fault IrFaultKind) × (parsing.entries_at (tokens ++ more) ≡ Err e)) → ¬ Fits tokens
unfit law tokens refused (more, m, spelled) =
    let read : parsing.module_of (tokens ++ more) ≡ Ok m = (law (tokens ++ more) m).1 spelled in
    let r = refused more in
    let refusal : parsing.module_of (tokens ++ more) ≡ Err r.0 = ap parsing.module_from r.1 in
    let both : the_module (Ok m) ≡ Err r.0 = sym read ∙ refusal in absurd cc

fit : ModulesAreReadAsSpelled → (tokens more : List Placed) (x : List RawEntry × List Placed) → parsing.entries_at (tokens ++ more) ≡ Ok x → Fits tokens
fit law tokens more x read = (more, record { entries = x.0 }, (law (tokens ++ more) (record { entries = x.0 })).0 (ap parsing.module_from read))

-- each prefix of a viable prefix is one
pub begun_fits : (front rest : List Placed) → Fits (front ++ rest) → Fits front
begun_fits front rest (more, m, spelled) = (rest ++ more, m, subst (SpellsModule m) (append_assoc front rest more) spelled)

-- ---- where items are read

ended_whole : (text : List ℕ) (front : List Placed) (t : Placed) (behind : List Placed) → Ended (front ++ t ∷ behind) → Ended (Whole text front)
ended_whole text [] t behind e = (refl, refl, λ mark is. absurd cc)
ended_whole text (u ∷ []) t behind e = (e.0, (refl, refl, λ mark is. absurd cc), e.2)
ended_whole text (u ∷ v ∷ front) t behind e = (e.0, ended_whole text (v ∷ front) t behind e.1, e.2)

begins : (l : ℕ) (t : Token) (more : List Placed) → is_last t ≡ false → parsing.begins_entry ((l, t) ∷ more) ≡ true
begins l End more goes = absurd cc
begins l t more goes = refl

-- entries stop only before the end of the text
entries_end : (text : List ℕ) (f : List Placed) → Ended (Whole text f) → parsing.begins_entry (Whole text f) ≡ false → ⊥
entries_end text [] e none = let next : parsing.begins_entry (Whole text []) ≡ true = refl in cc
entries_end text (u ∷ []) e none = let next : parsing.begins_entry (Whole text (u ∷ [])) ≡ true = begins u.0 u.1 (Whole text []) e.0 in cc
entries_end text (u ∷ v ∷ f) e none = let next : parsing.begins_entry (Whole text (u ∷ v ∷ f)) ≡ true = begins u.0 u.1 (Whole text (v ∷ f)) e.0 in cc

none_begins : (tokens : List Placed) (x : List RawEntry × List Placed) → parsing.entries_at tokens ≡ Ok x → parsing.begins_entry x.1 ≡ false
unfolding parsing.entries_at
none_begins tokens x is = (repeat-is parsing.begins_entry (another_at parsing.entry_at) (λ a ts b rest. Unit {0}) (λ a ts. tt) (λ a ts y b rest next one more. tt) _ [] tokens x is).1

-- a token that is refused stands behind the group, if that fits
behind_group : (front first : List Placed) (g e t u : Placed) (behind : List Placed) → front ++ g ∷ e ∷ [] ≡ first ++ t ∷ u ∷ behind → (others : List Placed) × (front ++ g ∷ [] ≡ first ++ t ∷ others)
behind_group [] [] g e t u behind same = ([], let heads : g ≡ t = cc in ap (λ (w : Placed). w ∷ []) heads)
behind_group [] (v ∷ []) g e t u behind same = absurd cc
behind_group [] (v ∷ w ∷ first) g e t u behind same = absurd (none first cc)
  where
    none : (first : List Placed) → [] ≡ first ++ t ∷ u ∷ behind → ⊥
    none [] same_ends = cc
    none (x ∷ first) same_ends = cc
behind_group (v ∷ front) [] g e t u behind same = (front ++ g ∷ [], let heads : v ≡ t = cc in ap (λ (w : Placed). w ∷ (front ++ g ∷ [])) heads)
behind_group (v ∷ front) (w ∷ first) g e t u behind same =
    let heads : v ≡ w = cc in
    let (others, rest) = behind_group front first g e t u behind cc in
    (others, ap (λ (x : Placed). x ∷ (front ++ g ∷ [])) heads ∙ ap (λ (ts : List Placed). w ∷ ts) rest)

goes_there : ModulesAreReadAsSpelled → (text : List ℕ) (front : List Placed) → FitsBehind front (Group text) → Ended (Whole text front) → Goes text parsing.entries_at front
goes_there law text front fits e = record {
  read = λ x is. by (parsing.entries_at (Whole text front)) refl (entries_outcome (Whole text front) e) x is;
  refused = last;
}
  where
    the_read : Read (List RawEntry) → Read (List RawEntry)
    the_read r = r

    by : (r : Read (List RawEntry)) → parsing.entries_at (Whole text front) ≡ r → Outcome Anything parsing.entries_at EndsText (OrEnds Anything parsing.entries_at EndsText) (Whole text front) r → (x : List RawEntry × List Placed) → parsing.entries_at (Whole text front) ≡ Ok x → x.1 ≡ the_end ∷ []
    by (Err f) is o x read = let both : the_read (Err f) ≡ Ok x = sym is ∙ read in absurd cc
    by (Ok y) is o x read = let same : y.1 ≡ x.1 = let both : the_read (Ok y) ≡ Ok x = sym is ∙ read in cc in sym same ∙ of (left_of text front o.front y.1 o.there o.ended)
      where
        of : (y.1 ≡ the_end ∷ []) ⊎ ((f : List Placed) × (front ≡ o.front ++ f) × (y.1 ≡ Whole text f)) → y.1 ≡ the_end ∷ []
        of (inl ended) = ended
        of (inr (f, same, whole)) = absurd (entries_end text f (subst Ended whole o.ended) (subst (λ (ts : List Placed). parsing.begins_entry ts ≡ false) whole (none_begins (Whole text front) y is)))

    last : (first : List Placed) (t : Placed) (behind : List Placed) → Whole text front ≡ first ++ t ∷ behind → RefusesPlaced parsing.entries_at first t → behind ≡ []
    last first t [] same refused = refl
    last first t (u ∷ behind) same refused =
        let (others, there) = behind_group front first (the_group text) the_end t u behind same in
        let whole : Fits ((first ++ t ∷ []) ++ others) = subst Fits (there ∙ sym (append_assoc first (t ∷ []) others)) fits in
        absurd (unfit law (first ++ t ∷ []) (λ more. let r = refused more in (r.0, ap parsing.entries_at (append_assoc first (t ∷ []) more) ∙ r.1)) (begun_fits (first ++ t ∷ []) others whole))

-- ---- values

no_last : {t : Token} → EndsArgument t → t ≡ End → ⊥
no_last comma is = cc
no_last close is = cc

no_inner : (b : Bool) → (b && not true) ≡ false
no_inner true = refl
no_inner false = refl

plain_next : (l : ℕ) (t : Token) (more : List Placed) → is_plain t ≡ true → (ends_argument ((l, t) ∷ more) ≡ false) × MayFollowItem ((l, t) ∷ more)
plain_next l (KeptGroup group) more is = absurd cc
plain_next l (Mark m) more is = absurd cc
plain_next l t more is = (refl, tt)

-- no value fits before the end of an argument where each such end is refused
no_truth_fits : ModulesAreReadAsSpelled → (front : List Placed) → RefusesEnds parsing.entries_at front → ¬ ValueFits front a_truth
no_truth_fits law front refused (end, ends, fits) =
    unfit law (front ++ (0, a_truth) ∷ end ∷ []) (λ more. let r = refused end more ends in (r.0, ap parsing.entries_at (append_assoc front ((0, a_truth) ∷ end ∷ []) more) ∙ r.1)) fits

-- behind an item of a parameter, each end fits
item_end_fits : ModulesAreReadAsSpelled → (front : List Placed) → ReadsEnds parsing.entries_at EndsText front → (t : Placed) → begins_item (t ∷ []) ≡ true → Fits (front ++ t ∷ (0, Mark marks.comma) ∷ [])
item_end_fits law front reads t next =
    let c = reads t (Mark marks.comma) next comma in
    fit law (front ++ t ∷ (0, Mark marks.comma) ∷ []) (c.1 ++ the_end ∷ []) (c.0, the_end ∷ []) (ap parsing.entries_at (append_assoc front (t ∷ (0, Mark marks.comma) ∷ []) (c.1 ++ the_end ∷ [])) ∙ c.2 (the_end ∷ []) refl)

module _ (law : ModulesAreReadAsSpelled) (front : List Placed) (Q : Reader RawOperand) (width : ℕ) (q : ReadsValue Q width) (a : Argument Q parsing.entries_at EndsText front) where
  -- the token before the end of an argument is read as its value
  value_read : (l : ℕ) (t : Token) (tokens : List Placed) → is_plain t ≡ true → Next EndsArgument tokens → parsing.entries_at (front ++ (l, t) ∷ tokens) ≡ goes_on (Q ((l, t) ∷ tokens)) a.rest
  value_read l t tokens is ends =
      let next = plain_next l t tokens is in a.reads [] ((l, t) ∷ tokens) ((l, t) ∷ tokens) refl (rw (ends_next tokens ends) (no_inner (begins_item ((l, t) ∷ tokens)))) next.0 next.1

  -- tokens of which the last is read as a value fit with the end of an argument behind them
  ends_fit : (before : List Placed) (x : RawOperand) → ((tokens : List Placed) → Next EndsArgument tokens → parsing.entries_at (front ++ (before ++ tokens)) ≡ a.rest x tokens) → (end : Placed) × EndsArgument end.1 × Fits (front ++ (before ++ end ∷ []))
  ends_fit before x read = by (a.ends x).1 ((a.ends x).2 (the_end ∷ []) refl)
    where
      by : (more : List Placed) → (a.rest x (more ++ the_end ∷ []) ≡ Ok ((a.ends x).0, the_end ∷ [])) × Next EndsArgument (more ++ the_end ∷ []) → (end : Placed) × EndsArgument end.1 × Fits (front ++ (before ++ end ∷ []))
      by [] (one, ends) = absurd (no_last ends refl)
      by (end ∷ more) (one, ends) = (
        end,
        ends,
        fit law (front ++ (before ++ end ∷ [])) (more ++ the_end ∷ []) ((a.ends x).0, the_end ∷ [])
            (ap parsing.entries_at (append_assoc front (before ++ end ∷ []) (more ++ the_end ∷ []) ∙ ap (λ (ts : List Placed). front ++ ts) (append_assoc before (end ∷ []) (more ++ the_end ∷ [])))
            ∙ read (end ∷ (more ++ the_end ∷ [])) ends ∙ one),
      )

  value_ends_fit : (l : ℕ) (t : Token) → is_plain t ≡ true → IsValue Q t → (end : Placed) × EndsArgument end.1 × Fits (front ++ (l, t) ∷ end ∷ [])
  value_ends_fit l t is value = let x = value l in ends_fit ((l, t) ∷ []) x.0 (λ ts ends. value_read l t ts is ends ∙ ap (λ (r : Read RawOperand). goes_on r a.rest) (x.1 ts))

  -- a token that is no value is refused on its line
  none_found : (l : ℕ) (t : Token) (end : Placed) (more : List Placed) (kind : IrFaultKind) → is_plain t ≡ true → EndsArgument end.1 → IsNoneLast Q t kind → parsing.entries_at (front ++ (l, t) ∷ end ∷ more) ≡ Err (fault l kind)
  none_found l t end more kind is ends none = value_read l t (end ∷ more) is ends ∙ ap (λ (r : Read RawOperand). goes_on r a.rest) (none l (end ∷ more) ends)

  -- no end of an argument fits behind the token
  abbrev NoEnd : ℕ → Token → Type 0
  NoEnd l t = (other : Placed) → EndsArgument other.1 → ¬ Fits ((front ++ (l, t) ∷ []) ++ other ∷ [])

  no_value : (l : ℕ) (t : Token) → is_plain t ≡ true → NoEnd l t → ¬ IsValue Q t
  no_value l t is none value = let (end, ends, fits) = value_ends_fit l t is value in none end ends (subst Fits (sym (append_assoc front ((l, t) ∷ []) (end ∷ []))) fits)

  undef_fits : IsNoneLast Q no_truth Syntax → ¬ ValueFits front no_truth
  undef_fits none (end, ends, fits) =
      unfit law (front ++ (0, no_truth) ∷ end ∷ []) (λ more. (fault 0 Syntax, ap parsing.entries_at (append_assoc front ((0, no_truth) ∷ end ∷ []) more) ∙ none_found 0 no_truth end more Syntax refl ends none)) fits

  -- the fault that is told of the value is the one that the parser finds
  value_found : (l : ℕ) {t : Token} (end : Placed) (more : List Placed) {kind : IrFaultKind} → EndsArgument end.1 → NoEnd l t → IsNoValue front t kind → parsing.entries_at (front ++ (l, t) ∷ end ∷ more) ≡ Err (fault l kind)
  value_found l end more ends none (calls.number digits w out exact) = by (constant_of digits width) refl
    where
      by : (number : Option Numeral) → constant_of digits width ≡ number → parsing.entries_at (front ++ (l, Number digits) ∷ end ∷ more) ≡ Err (fault l ConstRange)
      by (Some n) h = absurd (no_value l (Number digits) refl none (q.number digits n h))
      by None h = none_found l (Number digits) end more ConstRange refl ends (λ line ts last_end. q.no_number digits h line ts)
  value_found l end more ends none (calls.word w fits) = by q.words
    where
      of : IsValue Q (Word w) ⊎ IsNone Q (Word w) (LeftOut w) → parsing.entries_at (front ++ (l, Word w) ∷ end ∷ more) ≡ Err (fault l (LeftOut w))
      of (inl value) = absurd (no_value l (Word w) refl none value)
      of (inr refused) = none_found l (Word w) end more (LeftOut w) refl ends (λ line ts last_end. refused line ts)

      by : WordsOf Q → parsing.entries_at (front ++ (l, Word w) ∷ end ∷ more) ≡ Err (fault l (LeftOut w))
      by (operands undef words) = of (words w)
      by (truths undef words) = absurd (undef_fits (none_before Q (codes "undef") undef) fits)
  value_found l end more ends none (calls.truth w misfits) = by q.words
    where
      of : IsValue Q (Word w) ⊎ IsNoneBy Q (Word w) (no_truth_kind w) → parsing.entries_at (front ++ (l, Word w) ∷ end ∷ more) ≡ Err (fault l Syntax)
      of (inl value) = absurd (no_value l (Word w) refl none value)
      of (inr refused) = none_found l (Word w) end more Syntax refl ends (none_before Q w refused)

      by : WordsOf Q → parsing.entries_at (front ++ (l, Word w) ∷ end ∷ more) ≡ Err (fault l Syntax)
      by (operands undef words) = absurd (misfits (value_ends_fit 0 no_truth refl undef))
      by (truths undef words) = of (words w)
  value_found l end more ends none (calls.group text) = none_found l (Group text) end more Syntax refl ends (λ line ts last_end. q.group text line ts)
  value_found l end more ends none (calls.quoted text) = none_found l (Quoted text) end more Syntax refl ends (λ line ts last_end. q.quoted text line ts)

  -- and so is the one that is told of a word where a truth value is expected
  truth_found : (l : ℕ) (w : List ℕ) (more : List Placed) → ¬ Fits (front ++ (l, Word w) ∷ []) → ¬ ValueFits front no_truth → parsing.entries_at (front ++ (l, Word w) ∷ more) ≡ Err (fault l (no_truth_kind w more))
  truth_found l w more misfit no_undef = by q.words
    where
      fits_none : (rest : List Placed) → ¬ Fits (front ++ (l, Word w) ∷ rest)
      fits_none rest fits = misfit (begun_fits (front ++ (l, Word w) ∷ []) rest (subst Fits (sym (append_assoc front ((l, Word w) ∷ []) rest)) fits))

      value : ¬ IsValue Q (Word w)
      value is = let c = value_ends_fit l (Word w) refl is in fits_none (c.0 ∷ []) c.2

      item : ¬ (is_item_word w ≡ true)
      item is =
          let x = q.truth 0 in
          let c = ends_fit ((l, Word w) ∷ (0, a_truth) ∷ []) x.0
          (λ ts ends.
          a.reads (w ∷ []) ((l, Word w) ∷ (0, a_truth) ∷ ts) ((0, a_truth) ∷ ts) ((0, a_truth) ∷ ts, of_word is (l, refl), refl) (rw (ends_next ts ends) (no_inner (begins_item ((0, a_truth) ∷ ts)))) refl tt
          ∙ ap (λ (r : Read RawOperand). goes_on r a.rest) (x.1 ts)) in
          fits_none ((0, a_truth) ∷ c.0 ∷ []) c.2

      of : (b : Bool) → is_item_word w ≡ b → IsValue Q (Word w) ⊎ IsNoneBy Q (Word w) (no_truth_kind w) → parsing.entries_at (front ++ (l, Word w) ∷ more) ≡ Err (fault l (no_truth_kind w more))
      of true h found = absurd (item h)
      of false h (inl is) = absurd (value is)
      of false h (inr none) = a.reads [] ((l, Word w) ∷ more) ((l, Word w) ∷ more) refl (rw h refl) refl tt ∙ ap (λ (r : Read RawOperand). goes_on r a.rest) (none l more)

      by : WordsOf Q → parsing.entries_at (front ++ (l, Word w) ∷ more) ≡ Err (fault l (no_truth_kind w more))
      by (operands undef words) = absurd (no_undef (value_ends_fit 0 no_truth refl undef))
      by (truths undef words) = of (is_item_word w) refl (words w)

-- ---- by the kind of place

undef_is_item : is_item_word (codes "undef") ≡ true
unfolding is_item_word type_in
undef_is_item = refl

-- a token that is no value is an item by itself, or a word that is no item
no_value_item : {front : List Placed} {t : Token} {kind : IrFaultKind} → IsNoValue front t kind → (l : ℕ) → (begins_item ((l, t) ∷ []) ≡ true) ⊎ ((w : List ℕ) × (t ≡ Word w) × (is_item_word w ≡ false))
no_value_item (calls.number digits w out exact) l = inl refl
no_value_item (calls.word w fits) l = by (is_item_word w) refl
  where
    by : (b : Bool) → is_item_word w ≡ b → (is_item_word w ≡ true) ⊎ ((v : List ℕ) × (Word w ≡ Word v) × (is_item_word v ≡ false))
    by true h = inl h
    by false h = inr (w, refl, h)
no_value_item (calls.truth w misfits) l = by (is_item_word w) refl
  where
    by : (b : Bool) → is_item_word w ≡ b → (is_item_word w ≡ true) ⊎ ((v : List ℕ) × (Word w ≡ Word v) × (is_item_word v ≡ false))
    by true h = inl h
    by false h = inr (w, refl, h)
no_value_item (calls.group text) l = inl refl
no_value_item (calls.quoted text) l = inl refl

value_told : ModulesAreReadAsSpelled → (before : List Placed) (l : ℕ) (last : Token) (end : Placed) (more : List Placed) (kind : IrFaultKind) → IsPlace parsing.entries_at EndsText before → Fits (before ++ (l, last) ∷ []) → EndsArgument end.1
    → ((other : Placed) → EndsArgument other.1 → ¬ Fits ((before ++ (l, last) ∷ []) ++ other ∷ [])) → ValueFits before a_truth → IsNoValue before last kind → parsing.entries_at (before ++ (l, last) ∷ end ∷ more) ≡ Err (fault l kind)
value_told law before l last end more kind (header refused) fits ends none truth why = absurd (no_truth_fits law before refused truth)
value_told law before l last end more kind (parameter words reads) fits ends none truth why = absurd (by (no_value_item why l))
  where
    by : (begins_item ((l, last) ∷ []) ≡ true) ⊎ ((w : List ℕ) × (last ≡ Word w) × (is_item_word w ≡ false)) → ⊥
    by (inl item) = none (0, Mark marks.comma) comma (subst Fits (sym (append_assoc before ((l, last) ∷ []) ((0, Mark marks.comma) ∷ []))) (item_end_fits law before reads (l, last) item))
    by (inr (w, is, no_item)) =
        unfit law (before ++ (l, Word w) ∷ []) (λ ts. let r = words l w ts no_item in (r.0, ap parsing.entries_at (append_assoc before ((l, Word w) ∷ []) ts) ∙ r.1))
        (subst (λ (t : Token). Fits (before ++ (l, t) ∷ [])) is fits)
value_told law before l last end more kind (argument Q width q a) fits ends none truth why = value_found law before Q width q a l end more ends none why

truth_told : ModulesAreReadAsSpelled → (front : List Placed) (l : ℕ) (w : List ℕ) (more : List Placed) → IsPlace parsing.entries_at EndsText front → ¬ Fits (front ++ (l, Word w) ∷ []) → ValueFits front a_truth → ¬ ValueFits front no_truth → parsing.entries_at (front ++ (l, Word w) ∷ more) ≡ Err (fault l (no_truth_kind w more))
truth_told law front l w more (header refused) misfit truth no_undef = absurd (no_truth_fits law front refused truth)
truth_told law front l w more (parameter words reads) misfit truth no_undef = absurd (no_undef ((0, Mark marks.comma), comma, item_end_fits law front reads (0, no_truth) undef_is_item))
truth_told law front l w more (argument Q width q a) misfit truth no_undef = truth_found law front Q width q a l w more misfit no_undef

-- ---- the line of a call

-- no word stands directly behind a `=`
abbrev Clean : List Placed → Type 0
Clean [] = Unit {0}
Clean (t ∷ []) = Unit {0}
Clean (t ∷ u ∷ tokens) = (t.1 ≡ Mark marks.equals → is_word u.1 ≡ false) × Clean (u ∷ tokens)

clean_behind : (t : Placed) (tokens : List Placed) → (t.1 ≡ Mark marks.equals → ⊥) → Clean tokens → Clean (t ∷ tokens)
clean_behind t [] none clean = tt
clean_behind t (u ∷ tokens) none clean = (λ is. absurd (none is), clean)

-- so no call begins in such tokens
clean_none : (before : List Placed) (at l : ℕ) (w : List ℕ) (rest : List Placed) → Clean (before ++ (at, Mark marks.equals) ∷ (l, Word w) ∷ rest) → ⊥
clean_none [] at l w rest clean = let other : true ≡ false = clean.0 refl in cc
clean_none (t ∷ []) at l w rest clean = clean_none [] at l w rest clean.1
clean_none (t ∷ u ∷ before) at l w rest clean = clean_none (u ∷ before) at l w rest clean.1

item_clean : (item : List ℕ) (tokens rest : List Placed) → SpellsItem item tokens rest → Clean rest → Clean tokens
item_clean item tokens rest (of_word is (l, one)) clean = subst Clean (sym one) (clean_behind (l, Word item) rest (λ other. cc) clean)
item_clean item tokens rest (of_word_and_group name group is same (middle, (l, one), (k, two))) clean =
    subst Clean (sym (one ∙ ap (λ (ts : List Placed). (l, Word name) ∷ ts) two)) (clean_behind (l, Word name) ((k, KeptGroup group) ∷ rest) (λ other. cc) (clean_behind (k, KeptGroup group) rest (λ other. cc) clean))
item_clean item tokens rest (of_number (l, one)) clean = subst Clean (sym one) (clean_behind (l, Number item) rest (λ other. cc) clean)
item_clean item tokens rest (of_group (l, one)) clean = subst Clean (sym one) (clean_behind (l, Group item) rest (λ other. cc) clean)
item_clean item tokens rest (of_quoted (l, one)) clean = subst Clean (sym one) (clean_behind (l, Quoted item) rest (λ other. cc) clean)
item_clean item tokens rest (of_key_and_value key value same (middle, (l, one), (last, (k, two), (m, three)))) clean =
    subst Clean (sym (one ∙ ap (λ (ts : List Placed). (l, Quoted key) ∷ ts) (two ∙ ap (λ (ts : List Placed). (k, Mark marks.equals) ∷ ts) three)))
    (clean_behind (l, Quoted key) ((k, Mark marks.equals) ∷ (m, Quoted value) ∷ rest) (λ other. cc) (λ is. refl, clean_behind (m, Quoted value) rest (λ other. cc) clean))

items_clean : (items : List (List ℕ)) (tokens rest : List Placed) → Each SpellsItem items tokens rest → Clean rest → Clean tokens
items_clean [] tokens rest same clean = subst Clean (sym same) clean
items_clean (item ∷ items) tokens rest (middle, one, more) clean = item_clean item tokens middle one (items_clean items middle rest more clean)

typed_clean : (width : ℕ) (tokens : List Placed) → (Items ⨾ SpellsType width) tokens [] → Clean tokens
typed_clean width tokens (middle, (items, each), (word, type, (l, one))) = items_clean items tokens middle each (subst Clean (sym one) tt)

-- the tokens of a call behind its first one are such
call_clean : {line : ℕ} {call : List Placed} → BeginsCall line call → (behind : List Placed) → Clean behind → (t : Placed) (rest : List Placed) → call ++ behind ≡ t ∷ rest → Clean rest
call_clean {line} (plain at) behind clean t rest same = let is : (line, Word (codes "call")) ∷ behind ≡ rest = cc in subst Clean is (clean_behind (line, Word (codes "call")) behind (λ other. cc) clean)
call_clean {line} (tail at on) behind clean t rest same =
    let is : (on, Word (codes "tail")) ∷ (line, Word (codes "call")) ∷ behind ≡ rest = cc in
    subst Clean is (clean_behind (on, Word (codes "tail")) ((line, Word (codes "call")) ∷ behind) (λ other. cc) (clean_behind (line, Word (codes "call")) behind (λ other. cc) clean))
call_clean {line} (no_tail at on) behind clean t rest same =
    let is : (on, Word (codes "notail")) ∷ (line, Word (codes "call")) ∷ behind ≡ rest = cc in
    subst Clean is (clean_behind (on, Word (codes "notail")) ((line, Word (codes "call")) ∷ behind) (λ other. cc) (clean_behind (line, Word (codes "call")) behind (λ other. cc) clean))

call_begins : {line : ℕ} {call : List Placed} → BeginsCall line call → (at l : ℕ) × (w : List ℕ) × (rest : List Placed) × (call ≡ (at, Mark marks.equals) ∷ (l, Word w) ∷ rest)
call_begins {line} (plain at) = (at, line, codes "call", [], refl)
call_begins {line} (tail at on) = (at, on, codes "tail", (line, Word (codes "call")) ∷ [], refl)
call_begins {line} (no_tail at on) = (at, on, codes "notail", (line, Word (codes "call")) ∷ [], refl)

no_later : {line other : ℕ} {call late : List Placed} → BeginsCall line call → (behind : List Placed) → Clean behind → BeginsCall other late → (t : Placed) (before rest : List Placed) → call ++ behind ≡ t ∷ (before ++ (late ++ rest)) → ⊥
no_later begins behind clean begun t before rest same =
    let (at, l, w, more, is) = call_begins begun in
    clean_none before at l w (more ++ rest) (subst (λ (ts : List Placed). Clean (before ++ (ts ++ rest))) is (call_clean begins behind clean t _ same))

second_is : (p q r s : Placed) (x y : List Placed) → p ∷ q ∷ x ≡ r ∷ s ∷ y → (q ≡ s) × (x ≡ y)
second_is p q r s x y same = (cc, cc)

word_is : (v w : List ℕ) → Word v ≡ Word w → v ≡ w
word_is v w same = cc

one_word : (a b c d : ℕ) (v w : List ℕ) (x y : List Placed) → (a, Mark marks.equals) ∷ (b, Word v) ∷ x ≡ (c, Mark marks.equals) ∷ (d, Word w) ∷ y → (v ≡ w) × (b ≡ d) × (x ≡ y)
one_word a b c d v w x y same =
    let (words, rest) = second_is (a, Mark marks.equals) (b, Word v) (c, Mark marks.equals) (d, Word w) x y same in
    (word_is v w (ap (λ (p : Placed). p.1) words), ap (λ (p : Placed). p.0) words, rest)

differ : (v w : List ℕ) → bytes_eq v w ≡ false → bytes_eq w w ≡ true → v ≡ w → ⊥
differ v w apart agree same = let both : bytes_eq w w ≡ false = subst (λ (u : List ℕ). bytes_eq u w ≡ false) same apart in cc

same_call : {line other : ℕ} {call late : List Placed} → BeginsCall line call → BeginsCall other late → (a b : List Placed) → call ++ a ≡ late ++ b → line ≡ other
same_call {line} {other} (plain at) (plain to) a b same = (one_word at line to other (codes "call") (codes "call") a b same).1
same_call {line} {other} (plain at) (tail to on) a b same = absurd (differ (codes "call") (codes "tail") refl refl (one_word at line to on (codes "call") (codes "tail") a ((other, Word (codes "call")) ∷ b) same).0)
same_call {line} {other} (plain at) (no_tail to on) a b same = absurd (differ (codes "call") (codes "notail") refl refl (one_word at line to on (codes "call") (codes "notail") a ((other, Word (codes "call")) ∷ b) same).0)
same_call {line} {other} (tail at on) (plain to) a b same = absurd (differ (codes "tail") (codes "call") refl refl (one_word at on to other (codes "tail") (codes "call") ((line, Word (codes "call")) ∷ a) b same).0)
same_call {line} {other} (tail at on) (tail to off) a b same =
    let rest : (line, Word (codes "call")) ∷ a ≡ (other, Word (codes "call")) ∷ b = (one_word at on to off (codes "tail") (codes "tail") ((line, Word (codes "call")) ∷ a) ((other, Word (codes "call")) ∷ b) same).2 in let words : (line, Word (codes "call")) ≡ (other, Word (codes "call")) = cc in ap (λ (p : Placed). p.0) words
same_call {line} {other} (tail at on) (no_tail to off) a b same = absurd (differ (codes "tail") (codes "notail") refl refl (one_word at on to off (codes "tail") (codes "notail") ((line, Word (codes "call")) ∷ a) ((other, Word (codes "call")) ∷ b) same).0)
same_call {line} {other} (no_tail at on) (plain to) a b same = absurd (differ (codes "notail") (codes "call") refl refl (one_word at on to other (codes "notail") (codes "call") ((line, Word (codes "call")) ∷ a) b same).0)
same_call {line} {other} (no_tail at on) (tail to off) a b same = absurd (differ (codes "notail") (codes "tail") refl refl (one_word at on to off (codes "notail") (codes "tail") ((line, Word (codes "call")) ∷ a) ((other, Word (codes "call")) ∷ b) same).0)
same_call {line} {other} (no_tail at on) (no_tail to off) a b same =
    let rest : (line, Word (codes "call")) ∷ a ≡ (other, Word (codes "call")) ∷ b = (one_word at on to off (codes "notail") (codes "notail") ((line, Word (codes "call")) ∷ a) ((other, Word (codes "call")) ∷ b) same).2 in let words : (line, Word (codes "call")) ≡ (other, Word (codes "call")) = cc in ap (λ (p : Placed). p.0) words

one_line : {line other : ℕ} {call late : List Placed} (before after a b : List Placed) → BeginsCall line call → BeginsCall other late → Clean a → Clean b → before ++ (call ++ a) ≡ after ++ (late ++ b) → line ≡ other
one_line [] [] a b begins begun one two same = same_call begins begun a b same
one_line [] (t ∷ after) a b begins begun one two same = absurd (no_later begins a one begun t after b same)
one_line (t ∷ before) [] a b begins begun one two same = absurd (no_later begun b two begins t before a (sym same))
one_line (t ∷ before) (u ∷ after) a b begins begun one two same = one_line before after a b begins begun one two cc

-- if the last tokens are those of a call, they determine the line of its word `call`
calls_stand_once : (front : List Placed) (line other : ℕ) → CallStands line front → CallStands other front → line ≡ other
calls_stand_once front line other (before, call, a, width, begins, same, spelled) (after, late, b, size, begun, there, spelled_too) =
    one_line before after a b begins begun (typed_clean width a spelled) (typed_clean size b spelled_too) (sym same ∙ there)

-- ---- the fault that is found

function_no_end : {t : Token} → EndsArgument t → (written : List ℕ) → t ≡ Function written → ⊥
function_no_end comma written is = cc
function_no_end close written is = cc

callee_alone : (front behind : List Placed) {t : Placed} {found : Fault IrFaultKind} → IsToldInCall front behind t found → (line at : ℕ) (written : List ℕ) → t ≡ (at, Function written) → CallStands line front → found ≡ fault line (LeftOut (codes "call"))
callee_alone front behind (calls.callee l a w fits stands) line at written is stood = ap (λ (n : ℕ). fault n (LeftOut (codes "call"))) (calls_stand_once front l line stands stood)
callee_alone front behind (calls.value before l last end kind same ends none item fits why) line at written is stood = absurd (function_no_end ends written (ap (λ (p : Placed). p.1) is))
callee_alone front behind (calls.truth l word item fits none ends) line at written is stood = let both : Word word ≡ Function written = ap (λ (p : Placed). p.1) is in absurd cc

-- a fault that is told of a callee in a call is the one that is found
abbrev pub CalleeAlone : List Placed → Placed → Fault IrFaultKind → Type 0
CalleeAlone front t found = (line at : ℕ) (written : List ℕ) → t ≡ (at, Function written) → CalleeFits front → CallStands line front → found ≡ fault line (LeftOut (codes "call"))

pub told_alone : (front behind : List Placed) (t : Placed) (found : Fault IrFaultKind) → IsToldInCall front behind t found → CalleeAlone front t found
told_alone front behind t found told line at written is callee stands = callee_alone front behind told line at written is stands

err_is : (a b : Fault IrFaultKind) (r : Read (List RawEntry)) → r ≡ Err a → r ≡ Err b → a ≡ b
err_is a b r one two = of a b (sym one ∙ two)
  where
    the_fault : Fault IrFaultKind → Read (List RawEntry)
    the_fault f = Err f

    of : (a b : Fault IrFaultKind) → the_fault a ≡ the_fault b → a ≡ b
    of a b same = cc

-- a word that is `Syntax` where a truth value is expected stands before the end of its argument
begins_with_end : (behind : List Placed) → ends_argument behind ≡ true → BeginsWithEnd behind
begins_with_end [] ends = absurd cc
begins_with_end ((l, t) ∷ more) ends = ((l, t), more, refl, end_is l t more ends)

pub truth_stands : ModulesAreReadAsSpelled → (front : List Placed) (l : ℕ) (w : List ℕ) (behind : List Placed) → Ended (front ++ (l, Word w) ∷ behind) → AttributesFit front → ¬ Fits (front ++ (l, Word w) ∷ []) → ValueFits front a_truth → ¬ ValueFits front no_truth
    → parsing.entries_at (front ++ (l, Word w) ∷ behind) ≡ Err (fault l Syntax) → BeginsWithEnd behind
truth_stands law front l w behind e (text, item) misfit truth no_undef is = by (ends_argument behind) refl
  where
    ended : Ended (Whole text front)
    ended = ended_whole text front (l, Word w) behind e

    told : parsing.entries_at (front ++ (l, Word w) ∷ behind) ≡ Err (fault l (no_truth_kind w behind))
    told = truth_told law front l w behind (entries_places text front ended (goes_there law text front item ended)) misfit truth no_undef

    by : (b : Bool) → ends_argument behind ≡ b → BeginsWithEnd behind
    by true h = begins_with_end behind h
    by false h =
        let same : fault l Syntax ≡ fault l (LeftOut w) = err_is (fault l Syntax) (fault l (LeftOut w)) (parsing.entries_at (front ++ (l, Word w) ∷ behind)) is (told ∙ rw h refl) in
        let kinds : Syntax ≡ LeftOut w = ap (λ (f : Fault IrFaultKind). f.kind) same in absurd cc

alone_of : ModulesAreReadAsSpelled → (front behind : List Placed) {t : Placed} {other : Fault IrFaultKind} → IsToldInCall front behind t other → (found : Fault IrFaultKind) → Ended (front ++ t ∷ behind) → Fits front → ¬ Fits (front ++ t ∷ [])
    → parsing.entries_at (front ++ t ∷ behind) ≡ Err found → CalleeAlone front t found → found ≡ other
alone_of law front behind (calls.callee line at written callee_fits stands) found e fits misfit is callee = callee line at written refl callee_fits stands
alone_of law front behind (calls.value before line last end kind same ends none (text, item) truth why) found e fits misfit is callee =
    let whole : front ++ end ∷ behind ≡ before ++ (line, last) ∷ end ∷ behind = ap (λ (ts : List Placed). ts ++ end ∷ behind) same ∙ append_assoc before ((line, last) ∷ []) (end ∷ behind) in
    let ended : Ended (Whole text before) = ended_whole text before (line, last) (end ∷ behind) (subst Ended whole e) in
    let place = entries_places text before ended (goes_there law text before item ended) in
    err_is found (fault line kind) (parsing.entries_at (before ++ (line, last) ∷ end ∷ behind)) (ap parsing.entries_at (sym whole) ∙ is)
    (value_told law before line last end behind kind place (subst Fits same fits) ends (λ u other fit. none u other (subst (λ (ts : List Placed). Fits (ts ++ u ∷ [])) (sym same) fit)) truth why)
alone_of law front behind (calls.truth line word (text, item) truth no_undef (end, more, stands, ends)) found e fits misfit is callee =
    let ended : Ended (Whole text front) = ended_whole text front (line, Word word) behind e in
    let place = entries_places text front ended (goes_there law text front item ended) in
    let at_end : ends_argument behind ≡ true = subst (λ (ts : List Placed). ends_argument ts ≡ true) (sym stands) (ends_next (end ∷ more) ends) in
    err_is found (fault line Syntax) (parsing.entries_at (front ++ (line, Word word) ∷ behind)) is (truth_told law front line word behind place misfit truth no_undef ∙ rw at_end refl)

-- a fault in a call that is told of the token is the one that is found
pub alone : ModulesAreReadAsSpelled → (front : List Placed) (t : Placed) (behind : List Placed) (found : Fault IrFaultKind) → Ended (front ++ t ∷ behind) → Fits front → ¬ Fits (front ++ t ∷ []) → parsing.entries_at (front ++ t ∷ behind) ≡ Err found
    → CalleeAlone front t found → (other : Fault IrFaultKind) → IsToldInCall front behind t other → found ≡ other
alone law front t behind found e fits misfit is callee other told = alone_of law front behind told found e fits misfit is callee
