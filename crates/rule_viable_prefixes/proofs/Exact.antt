-- The law of refusals: where a text is refused, and by which kind.
use Rattle.rule_viable_prefixes.proofs.Common.{◌≡◌, ◌≢◌, ℕ, ◌+◌, ◌≤◌, Bool, true, false, List, [], ◌∷◌, ◌++◌, length, Result, Ok, Err, refl, sym, ap, subst, ◌∙◌, append_assoc, ◌⊎◌, inl, inr, arith, codes, append-nil, OneTokenAtAPlace, RuleFaultKind, BadByte, Syntax, LeftOut, TooMany, Limits, AreWithin, fault, RuleFault, Token, Line, Head, Word, Number, Bad, Excess, AreTokens, EndsLine, RawRule, limited, SpellsFile, most_nodes, IsCut, all_rules, IsFaultWithin, kept_up_to_the_limit, AreOfText, of_both, all_rules-is, all_rules-of, SpellsWithoutLimits, Fits, FitsBehind, LineFits, IsOneTooMany, DoesNotFit, IsAtToken, IsAtEnd, RefusalsAreExact, NounFits, RepeatsFlag, IsLeftOut, word, version, IsKindOf, StaysWithin, AllStayWithin, TextsAreRefusedByLimitsAsTooMany}
use Rattle.rule_viable_prefixes.specs.Fits.{line_of}
use Rattle.rule_viable_prefixes.proofs.FitsWithin.{FitsWithin, FitsBehindWithin, LineFitsWithin, fits_before}
use Rattle.rule_viable_prefixes.proofs.FlagRuns.{IsNew}
use Rattle.rule_viable_prefixes.proofs.LimitLaws.{fault_is, spelled_wider, fits_wider}
use Rattle.rule_viable_prefixes.proofs.Lines.{NamesEndLines}
use Rattle.rule_viable_prefixes.proofs.Placed.{start, KeptAlong, bytes_in}
use Rattle.rule_viable_prefixes.proofs.Reasons.{openings_on_line, IsExcused, one_use, repeated, nested, IsMisfit, itself, read_on, IsOtherVersion}
use Rattle.rule_viable_prefixes.proofs.Refusals.{fault_of, kept_whole, no_mark, split, one_place}
use Rattle.rule_viable_prefixes.proofs.Room.{levels_in, halves_in, kept_wide, kept_before, kept_line, names_swapped, ends_swapped, stays_unfit}
use Rattle.rule_viable_prefixes.proofs.Roomy.{roomy}
use Rattle.rule_viable_prefixes.proofs.Texts.{names_in, of_text, text_begins, limited_begins, limited_names, AreProper, proper}
use Rattle.rule_viable_prefixes.proofs.Versions.{AtToken, AtEnd, where_refused, version_told}
use Rattle.rule_viable_prefixes.proofs.WherePassed.{few_opened, length_front, of_front, one_misfit, FirstPassed, first_passed, IsPassedOn, told_where, passed_told}
use Rattle.rule_viable_prefixes.proofs.Wider.{Below, same_answer, too_many}
use Rattle.rule_viable_prefixes.proofs.WiderRules.{all_rules_below}

-- ---- kinds

abbrev is_too_many : RuleFaultKind → Bool
is_too_many TooMany = true
is_too_many kind = false

-- the kind is `TooMany` or another
told_or_other : (kind : RuleFaultKind) → (kind ≡ TooMany) ⊎ (kind ≢ TooMany)
told_or_other kind = by (is_too_many kind) refl
  where
    is_it : (k : RuleFaultKind) → is_too_many k ≡ true → k ≡ TooMany
    is_it TooMany e = refl
    is_it k e = absurd cc

    by : (b : Bool) → is_too_many kind ≡ b → (kind ≡ TooMany) ⊎ (kind ≢ TooMany)
    by true e = inl (is_it kind e)
    by false e = inr (λ is. let both = sym (ap is_too_many is) ∙ e in absurd cc)

left_bad : (front : List Token) (token : Token) (left : List ℕ) → IsLeftOut front token left → token ≡ Bad → ⊥
left_bad front token left (word is noun other new) e = let both = sym is ∙ e in absurd cc
left_bad front token left (version line is there) e = let both = sym is ∙ e in absurd cc

left_one : (front : List Token) (token : Token) (left more : List ℕ) → IsLeftOut front token left → IsLeftOut front token more → left ≡ more
left_one front token left more (word is noun other new) (word also noun_ other_ new_) = let both = sym is ∙ also in cc
left_one front token left more (word is noun other new) (version line also there) = let both = sym is ∙ also in absurd cc
left_one front token left more (version line is there) (word also noun other new) = let both = sym is ∙ also in absurd cc
left_one front token left more (version line is there) (version number also place) = let both = sym is ∙ also in cc

-- a token has at most one kind
one_kind : (front : List Token) (token : Token) (k j : RuleFaultKind) → IsKindOf front token k → IsKindOf front token j → k ≡ j
one_kind front token BadByte BadByte is also = refl
one_kind front token BadByte (LeftOut more) is also = absurd (left_bad front token more also is)
one_kind front token BadByte Syntax is also = absurd (also.0 is)
one_kind front token (LeftOut left) BadByte is also = absurd (left_bad front token left is also)
one_kind front token (LeftOut left) (LeftOut more) is also = ap (λ (w : List ℕ). LeftOut w) (left_one front token left more is also)
one_kind front token (LeftOut left) Syntax is also = absurd (also.1 left is)
one_kind front token Syntax BadByte is also = absurd (is.0 also)
one_kind front token Syntax (LeftOut more) is also = absurd (is.1 more also)
one_kind front token Syntax Syntax is also = refl
one_kind front token BadByte j is also = absurd also
one_kind front token (LeftOut left) j is also = absurd also
one_kind front token Syntax j is also = absurd also
one_kind front token k j is also = absurd is

same_fault : (d e : RuleFault) → d.line ≡ e.line → d.kind ≡ e.kind → d ≡ e
same_fault d e line kind = ap (λ (l : ℕ). fault l d.kind) line ∙ ap (λ (k : RuleFaultKind). fault e.line k) kind

-- ---- there is one fault

front_fits : (tokens front : List Token) (token : Token) (behind : List Token) → tokens ≡ front ++ token ∷ behind → Fits tokens → FitsBehind front token
front_fits tokens front token behind is (rules, more, (limits, spelled)) =
    let whole = fits_before limits tokens front token behind is (rules, more, spelled) in
    (whole.0, whole.1, (limits, whole.2))

-- the token fits and passes no limit
abbrev GoesOn : Limits → List Token → Token → Type 0
GoesOn limits front token = FitsBehind front token × StaysWithin limits front token

module _ (limits : Limits) (tokens : List Token) (last : ℕ) where
  abbrev IsRefused : RuleFault → Type 0
  IsRefused found = IsAtToken limits tokens found ⊎ IsAtEnd limits tokens last found

  all_go_on : (front : List Token) → Fits front → AllStayWithin limits front → (before : List Token) (earlier : Token) (more : List Token) → front ≡ before ++ earlier ∷ more → GoesOn limits before earlier
  all_go_on front fits within before earlier more is = (front_fits front before earlier more is fits, within before earlier more is)

  stops : (found : RuleFault) (at : IsAtToken limits tokens found) → ¬ GoesOn limits at.front at.token
  stops found at goes = by at.kind
    where
      by : IsOneTooMany limits at.front at.token found.kind ⊎ DoesNotFit at.front at.token found.kind → ⊥
      by (inl many) = many.passed goes.1
      by (inr misfit) = misfit.misfit goes.0

  kind_there : (front : List Token) (token : Token) (k j : RuleFaultKind) → IsOneTooMany limits front token k ⊎ DoesNotFit front token k → IsOneTooMany limits front token j ⊎ DoesNotFit front token j → k ≡ j
  kind_there front token k j (inl a) (inl b) = a.told ∙ sym b.told
  kind_there front token k j (inl a) (inr b) = absurd (b.misfit a.fits)
  kind_there front token k j (inr a) (inl b) = absurd (a.misfit b.fits)
  kind_there front token k j (inr a) (inr b) = one_kind front token k j a.told b.told

  not_both : (d e : RuleFault) → IsAtToken limits tokens d → IsAtEnd limits tokens last e → ⊥
  not_both d e at end = stops d at (all_go_on tokens end.fits end.within at.front at.token at.behind at.stands)

  end_line : (d e : RuleFault) → (LineFits tokens × (d.line ≡ last)) ⊎ ((¬ LineFits tokens) × (d.line ≡ line_of tokens)) → (LineFits tokens × (e.line ≡ last)) ⊎ ((¬ LineFits tokens) × (e.line ≡ line_of tokens)) → d.line ≡ e.line
  end_line d e (inl a) (inl b) = a.1 ∙ sym b.1
  end_line d e (inl a) (inr b) = absurd (b.0 a.0)
  end_line d e (inr a) (inl b) = absurd (a.0 b.0)
  end_line d e (inr a) (inr b) = a.1 ∙ sym b.1

  one_fault : (d e : RuleFault) → IsRefused d → IsRefused e → d ≡ e
  one_fault d e (inl a) (inr b) = absurd (not_both d e a b)
  one_fault d e (inr a) (inl b) = absurd (not_both e d b a)
  one_fault d e (inr a) (inr b) = same_fault d e (end_line d e a.line b.line) (a.kind ∙ sym b.kind)
  one_fault d e (inl a) (inl b) =
      let there = one_place (GoesOn limits) tokens a.front b.front a.token b.token a.behind b.behind a.stands b.stands (all_go_on a.front a.fits a.within) (stops d a) (all_go_on b.front b.fits b.within) (stops e b) in
      same_fault d e (a.line ∙ ap line_of there.0 ∙ sym b.line)
      (kind_there a.front a.token d.kind e.kind a.kind
      (subst (λ (f : List Token). IsOneTooMany limits f a.token e.kind ⊎ DoesNotFit f a.token e.kind) (sym there.0)
      (subst (λ (t : Token). IsOneTooMany limits b.front t e.kind ⊎ DoesNotFit b.front t e.kind) (sym there.1) b.kind)))

-- ---- tokens up to the limit of nodes

-- a token of the text that comes before `Excess` is at the same place of the text
stands_in : (tokens front : List Token) (token : Token) (behind : List Token) → limited tokens ≡ front ++ token ∷ behind → token ≢ Excess → (others : List Token) × (tokens ≡ front ++ token ∷ others)
stands_in tokens front token behind stands other = elim (kept_up_to_the_limit tokens) [
  | inl (within, same) ↦ (behind, sym same ∙ stands)
  | inr c ↦ by_cut c (split (c.front ++ c.token ∷ []) (Excess ∷ []) front (token ∷ behind) (append_assoc c.front (c.token ∷ []) (Excess ∷ []) ∙ sym c.cut ∙ stands))
]
  where
    by_cut : (c : IsCut tokens (limited tokens))
        → ((g : List Token) × (front ≡ (c.front ++ c.token ∷ []) ++ g) × (Excess ∷ [] ≡ g ++ token ∷ behind)) ⊎ ((t : Token) × (g : List Token) × (c.front ++ c.token ∷ [] ≡ front ++ t ∷ g) × (token ∷ behind ≡ t ∷ g ++ Excess ∷ []))
        → (others : List Token) × (tokens ≡ front ++ token ∷ others)
    by_cut c (inl ([], p, q)) = let is : token ≡ Excess = cc in absurd (other is)
    by_cut c (inl (t ∷ [], p, q)) = absurd cc
    by_cut c (inl (t ∷ u ∷ g, p, q)) = absurd cc
    by_cut c (inr (t, g, p, q)) =
        let same : t ≡ token = cc in (
          g ++ c.rest,
          c.whole ∙ sym (append_assoc c.front (c.token ∷ []) c.rest) ∙ ap (λ (ts : List Token). ts ++ c.rest) p ∙ append_assoc front (t ∷ g) c.rest ∙ ap (λ (u : Token). front ++ u ∷ (g ++ c.rest)) same,
        )

-- where the tokens with the limit are a viable prefix, they are all tokens of the text
whole_fits : (limits : Limits) (tokens : List Token) → FitsWithin limits (limited tokens) → limited tokens ≡ tokens
whole_fits limits tokens fits = elim (kept_up_to_the_limit tokens) [
  | inl (within, same) ↦ same
  | inr c ↦ absurd (by c fits)
]
  where
    by : (c : IsCut tokens (limited tokens)) → FitsWithin limits (limited tokens) → ⊥
    by c (rules, more, is) =
        let kept : limited tokens ≡ (c.front ++ c.token ∷ []) ++ Excess ∷ [] = c.cut ∙ sym (append_assoc c.front (c.token ∷ []) (Excess ∷ [])) in
        no_mark limits (c.front ++ c.token ∷ []) more rules
        (subst (SpellsFile limits rules) (ap (λ (ts : List Token). ts ++ more) kept ∙ append_assoc (c.front ++ c.token ∷ []) (Excess ∷ []) more) is)

-- ---- texts

abbrev none : Limits
none = record { name_bytes = 0; nested = 0; statements = 0 }

module _ (one : OneTokenAtAPlace) (limits : Limits) (text : List ℕ) (tokens : List Token) (last : ℕ) (are : AreTokens text tokens last) where
  abbrev kept : List Token
  kept = limited tokens

  names : NamesEndLines kept
  names = limited_names most_nodes false tokens (names_in text are (λ wrong. absurd wrong))

  ended : EndsLine kept
  ended = limited_begins most_nodes false tokens (text_begins text tokens last are)

  of : AreOfText tokens
  of = of_text text are

  -- ---- faults of other kinds than `TooMany`

  module _ (found : RuleFault) (other : found.kind ≢ TooMany) (err : all_rules limits last kept ≡ Err found) where
    -- limits wide enough for all tokens of the text, and for the others
    abbrev bytes : Limits → ℕ
    bytes e = limits.name_bytes + bytes_in kept + e.name_bytes

    abbrev levels : Limits → ℕ
    levels e = limits.nested + levels_in start kept + length kept + 6 + e.nested

    abbrev halves : Limits → ℕ
    halves e = limits.statements + halves_in start kept + e.statements

    abbrev wide : Limits → Limits
    wide e = roomy (bytes e) (levels e) (halves e)

    as_wide : (e : Limits) → AreWithin (wide e) e
    as_wide e = record { name_bytes = omega arith; nested = omega arith; statements = omega arith }

    wider_still : (e : Limits) → AreWithin (wide e) (wide none)
    wider_still e = record { name_bytes = omega arith; nested = omega arith; statements = omega arith }

    told : (e : Limits) → all_rules (wide e) last kept ≡ Err found
    told e = by (all_rules_below limits (wide e) (record { name_bytes = omega arith; nested = omega arith; statements = omega arith }) last kept)
      where
        by : Below (all_rules limits last kept) (all_rules (wide e) last kept) → all_rules (wide e) last kept ≡ Err found
        by (too_many line is) = absurd (other (ap (λ (f : RuleFault). f.kind) (fault_is found (fault line TooMany) (sym err ∙ is))))
        by (same_answer same) = sym same ∙ err

    abbrev AtTokenOf : Limits → Type 0
    AtTokenOf e = AtToken (bytes e) (levels e) (halves e) kept found

    abbrev AtEndOf : Limits → Type 0
    AtEndOf e = AtEnd (bytes e) (levels e) (halves e) kept last found

    refused : (e : Limits) → AtTokenOf e ⊎ AtEndOf e
    refused e = where_refused (bytes e) (levels e) (halves e) last kept found ended names (told e)

    along : KeptAlong (wide none) start kept
    along = kept_wide (wide none) start kept (omega arith) (omega arith) (omega arith)

    no_rules : (rules : List RawRule) → SpellsWithoutLimits rules kept → ⊥
    no_rules rules (e, is) = let both = sym (told e) ∙ all_rules-of (wide e) last rules kept (spelled_wider e (wide e) (as_wide e) rules kept is) in absurd cc

    -- a token that does not fit within limits that are wide enough for the tokens fits within none
    never : (front : List Token) (token : Token) (behind : List Token) → EndsLine (front ++ token ∷ behind) → NamesEndLines (front ++ token ∷ behind) → AreOfText (front ++ token ∷ [])
        → KeptAlong (wide none) start (front ++ token ∷ []) → length front ≤ length kept → FitsWithin (wide none) front → ¬ FitsBehindWithin (wide none) front token → ¬ FitsBehind front token
    never front token behind ended_ names_ of_ along_ small fits misfit (rules, more, (e, is)) =
        stays_unfit (bytes none) (levels none) (halves none) (bytes e) (levels e) (halves e) (omega arith) (wider_still e) last front token behind ended_ names_ of_ along_ (omega (arith, small)) fits misfit
        (rules, more, spelled_wider e (wide e) (as_wide e) rules ((front ++ token ∷ []) ++ more) is)

    -- tokens that spell rules have no such fault
    unspelled : (rules : List RawRule) → SpellsWithoutLimits rules tokens → ⊥
    unspelled rules (e, is) = by (refused e)
      where
        spelled : SpellsFile (wide e) rules tokens
        spelled = spelled_wider e (wide e) (as_wide e) rules tokens is

        by : AtTokenOf e ⊎ AtEndOf e → ⊥
        by (inr end) = end.no_rules rules (subst (SpellsFile (wide e) rules) (sym (whole_fits (wide e) tokens end.fits)) spelled)
        by (inl at) =
            let stands = stands_in tokens at.front at.token at.behind at.stands (λ is_excess. other (at.excess is_excess)) in
            at.misfit (fits_before (wide e) tokens at.front at.token stands.0 stands.1 (rules, [], subst (SpellsFile (wide e) rules) (sym (append-nil tokens)) spelled))

    -- ---- at a token

    module _ (at : AtTokenOf none) where
      stands : (others : List Token) × (tokens ≡ at.front ++ at.token ∷ others)
      stands = stands_in tokens at.front at.token at.behind at.stands (λ is. other (at.excess is))

      short : length at.front ≤ length kept
      short = length_front kept at.front (at.token ∷ at.behind) at.stands

      misfit : ¬ FitsBehind at.front at.token
      misfit = never at.front at.token at.behind (subst EndsLine at.stands ended) (subst NamesEndLines at.stands names) of_text_here along_here short at.fits at.misfit
        where
          of_text_here : AreOfText (at.front ++ at.token ∷ [])
          of_text_here = of_front (at.front ++ at.token ∷ []) stands.0 (subst AreOfText (stands.1 ∙ sym (append_assoc at.front (at.token ∷ []) stands.0)) of)

          along_here : KeptAlong (wide none) start (at.front ++ at.token ∷ [])
          along_here = kept_before (wide none) start (at.front ++ at.token ∷ []) at.behind (subst (KeptAlong (wide none) start) (at.stands ∙ sym (append_assoc at.front (at.token ∷ []) at.behind)) along)

      not_deep : (e : Limits) → levels e ≤ openings_on_line at.front → ⊥
      not_deep e far = let few = few_opened 0 at.front in omega (arith, far, few, short)

      -- the fault within such limits is at the same token
      again : (e : Limits) → (a : AtTokenOf e) × (a.front ≡ at.front) × (a.token ≡ at.token)
      again e = by (refused e)
        where
          by : AtTokenOf e ⊎ AtEndOf e → (a : AtTokenOf e) × (a.front ≡ at.front) × (a.token ≡ at.token)
          by (inr end) = let fits = fits_before (wide e) kept at.front at.token at.behind at.stands end.fits in absurd (misfit (fits.0, fits.1, (wide e, fits.2)))
          by (inl a) =
              let same = one_misfit (bytes e) (levels e) (halves e) kept a.front at.front a.token at.token a.behind at.behind a.stands at.stands a.fits a.misfit
              (fits_wider (wide none) (wide e) (wider_still e) at.front at.fits) (λ fits. misfit (fits.0, fits.1, (wide e, fits.2))) in
              (a, same.0, same.1)

      no_noun : found.kind ≡ Syntax → (left : List ℕ) → at.token ≡ Word left → NounFits (FitsBehind at.front) → left ≢ codes "hasOneUse" → ¬ RepeatsFlag at.front left → ⊥
      no_noun syntax_ left is (noun, is_noun, (rules, more, (e, spelled))) apart new = by (again e)
        where
          excused : (front : List Token) → front ≡ at.front → IsExcused (wide e) (FitsBehindWithin (wide e) front) front left → ⊥
          excused front same (one_use is) = apart is
          excused front same (repeated flag) = new (subst (λ (f : List Token). RepeatsFlag f left) same flag)
          excused front same (nested (far, nests, fits)) = not_deep e (subst (λ (f : List Token). levels e ≤ openings_on_line f) same far)

          by : (a : AtTokenOf e) × (a.front ≡ at.front) × (a.token ≡ at.token) → ⊥
          by (a, front, token) =
              excused a.front front (a.no_noun syntax_ left (token ∙ is)
              (noun, is_noun, subst (λ (f : List Token). FitsBehindWithin (wide e) f (Word noun)) (sym front) (rules, more, spelled_wider e (wide e) (as_wide e) rules ((at.front ++ Word noun ∷ []) ++ more) spelled)))

      no_version : found.kind ≡ Syntax → (line : ℕ) (left : List ℕ) → at.token ≡ Number left → at.front ≡ Line line ∷ Head (codes "Version:") ∷ [] → ⊥
      no_version syntax_ line left is there =
          let front : List Token = Line line ∷ Head (codes "Version:") ∷ [] in
          let so : (ts : List Token) → at.front ++ at.token ∷ ts ≡ front ++ Number left ∷ ts = λ ts. ap (λ (f : List Token). f ++ at.token ∷ ts) there ∙ ap (λ (t : Token). front ++ t ∷ ts) is in
          let unfit : ¬ FitsBehindWithin (wide none) front (Number left) = λ fits. at.misfit (subst (FitsWithin (wide none)) (sym (so [])) fits) in
          let read : all_rules (wide none) last (front ++ Number left ∷ at.behind) ≡ Err found = subst (λ (ts : List Token). all_rules (wide none) last ts ≡ Err found) (at.stands ∙ so at.behind) (told none) in
          let all : AreProper (front ++ Number left ∷ stands.0) = subst AreProper (stands.1 ∙ so stands.0) (proper text are) in
          all.1.1.0 (version_told (bytes none) (levels none) (halves none) last line left at.behind found read syntax_ unfit)

      is_kind : IsKindOf at.front at.token found.kind
      is_kind = by found.kind refl other at.new (at.told (λ is. other (at.excess is)))
        where
          by : (k : RuleFaultKind) → found.kind ≡ k → k ≢ TooMany → IsNew at.front k → IsMisfit (wide none) (openings_on_line at.front) (FitsBehindWithin (wide none) at.front) at.token at.behind k ⊎ IsOtherVersion at.front at.token k → IsKindOf at.front at.token k
          by k same apart new (inl (read_on (applied, (far, nests, fits), missed, how))) = absurd (not_deep none far)
          by k same apart new (inr (line, left, there, is, how)) = subst (IsKindOf at.front at.token) (sym how) (version line is there)
          by BadByte same apart new (inl (itself is)) = is
          by (LeftOut left) same apart new (inl (itself (is, no_use, (noun, is_noun, (rules, more, spelled))))) = word is (noun, is_noun, (rules, more, (wide none, spelled))) no_use (new left refl)
          by Syntax same apart new (inl (itself is)) = (is, λ left out. kept_in same left out)
            where
              kept_in : found.kind ≡ Syntax → (left : List ℕ) → IsLeftOut at.front at.token left → ⊥
              kept_in same left (word is noun apart new) = no_noun same left is noun apart new
              kept_in same left (version line is there) = no_version same line left is there
          by TooMany same apart new (inl (itself is)) = absurd (apart refl)
          by k same apart new (inl (itself is)) = absurd is

  -- ---- the token and the kind of any fault

  module _ (some : 1 ≤ limits.nested) where
    passed : (line : ℕ) → IsPassedOn limits tokens line → IsAtToken limits tokens (fault line TooMany)
    passed line q =
        let (e, (rules, more, spelled)) = q.fits in
        record {
          front = q.front;
          token = q.token;
          behind = q.behind;
          stands = q.stands;
          fits = (rules, q.token ∷ more, (e, subst (SpellsFile e rules) (append_assoc q.front (q.token ∷ []) more) spelled));
          within = q.within;
          line = q.ends_on;
          kind = inl (record { fits = (rules, more, (e, spelled)); passed = q.passed; told = refl });
        }

    module _ (found : RuleFault) (other : found.kind ≢ TooMany) (is : IsFaultWithin limits text found) where
      err : all_rules limits last kept ≡ Err found
      err = fault_of limits one text tokens last found are is

      abbrev base : Limits
      base = wide found other err none

      -- with tokens that are a viable prefix within the limits no limit is passed
      within : (front back : List Token) → tokens ≡ front ++ back → FitsWithin base front → AllStayWithin limits front
      within front back stands fits = by (first_passed limits tokens of)
        where
          unfit : (first : List Token) (token : Token) → FirstPassed limits tokens first token → FitsBehindWithin base first token → ⊥
          unfit first token p fits_there =
              let passed_on : IsPassedOn limits tokens (line_of first) = record { front = first; token = token; behind = p.behind; stands = p.stands; within = p.within; passed = p.passed; fits = (base, fits_there); ends_on = refl } in
              let many = fault_of limits one text tokens last (fault (line_of first) TooMany) are (passed_told one limits some text tokens last are (line_of first) passed_on) in
              other (ap (λ (f : RuleFault). f.kind) (fault_is found (fault (line_of first) TooMany) (sym err ∙ many)))

          among : (first : List Token) (token : Token) (p : FirstPassed limits tokens first token)
              → ((g : List Token) × (front ≡ first ++ g) × (token ∷ p.behind ≡ g ++ back)) ⊎ ((u : Token) × (g : List Token) × (first ≡ front ++ u ∷ g) × (back ≡ u ∷ g ++ token ∷ p.behind)) → AllStayWithin limits front
          among first token p (inl ([], a, b)) = subst (AllStayWithin limits) (sym (a ∙ append-nil first)) p.within
          among first token p (inl (u ∷ g, a, b)) = let same : u ≡ token = cc in absurd (unfit first token p (fits_before base front first token g (a ∙ ap (λ (t : Token). first ++ t ∷ g) same) fits))
          among first token p (inr (u, g, a, b)) = λ before earlier more at. p.within before earlier (more ++ u ∷ g) (a ∙ ap (λ (ts : List Token). ts ++ u ∷ g) at ∙ append_assoc before (earlier ∷ more) (u ∷ g))

          by : AllStayWithin limits tokens ⊎ ((first : List Token) × (token : Token) × FirstPassed limits tokens first token) → AllStayWithin limits front
          by (inl all) = λ before earlier more at. all before earlier (more ++ back) (stands ∙ ap (λ (ts : List Token). ts ++ back) at ∙ append_assoc before (earlier ∷ more) back)
          by (inr (first, token, p)) = among first token p (split first (token ∷ p.behind) front back (sym p.stands ∙ stands))

      at_token : AtTokenOf found other err none → IsAtToken limits tokens found
      at_token at =
          let there = stands found other err at in
          record {
            front = at.front;
            token = at.token;
            behind = there.0;
            stands = there.1;
            fits = (at.fits.0, at.fits.1, (base, at.fits.2));
            within = within at.front (at.token ∷ there.0) there.1 at.fits;
            line = at.line;
            kind = inr (record { misfit = misfit found other err at; told = is_kind found other err at });
          }

      at_end : AtEndOf found other err none → IsAtEnd limits tokens last found
      at_end end = subst (λ (ts : List Token). IsAtEnd limits ts last found) whole (record {
        fits = (end.fits.0, end.fits.1, (base, end.fits.2));
        within = within kept [] (sym (append-nil kept ∙ whole)) end.fits;
        no_rules = no_rules found other err;
        kind = end.kind;
        line = on_line end.line;
      })
        where
          whole : kept ≡ tokens
          whole = whole_fits base tokens end.fits

          no_line : ¬ LineFitsWithin base kept → ¬ LineFits kept
          no_line none_fits (number, fits) =
              never found other err kept (Line number) []
              (ends_swapped kept [] (Line number ∷ []) (λ e. tt) (subst EndsLine (sym (append-nil kept)) ended))
              (names_swapped kept [] (Line number ∷ []) (λ e. tt) tt (subst NamesEndLines (sym (append-nil kept)) names))
              (of_both kept (Line number ∷ []) (subst AreOfText (sym whole) of) (tt, tt))
              (kept_line base kept (along found other err) number) (omega arith) end.fits (λ fit. none_fits (number, fit)) fits

          on_line : (LineFitsWithin base kept × (found.line ≡ last)) ⊎ ((¬ LineFitsWithin base kept) × (found.line ≡ line_of kept)) → (LineFits kept × (found.line ≡ last)) ⊎ ((¬ LineFits kept) × (found.line ≡ line_of kept))
          on_line (inl ((number, (rules, more, spelled)), here)) = inl ((number, (rules, more, (base, spelled))), here)
          on_line (inr (none_fits, here)) = inr (no_line none_fits, here)

    abbrev IsFirst : RuleFault → Type 0
    IsFirst found = IsAtToken limits tokens found ⊎ IsAtEnd limits tokens last found

    where_it_is : (found : RuleFault) → IsFaultWithin limits text found → IsFirst found
    where_it_is found is = by (told_or_other found.kind)
      where
        by : (found.kind ≡ TooMany) ⊎ (found.kind ≢ TooMany) → IsFirst found
        by (inl many) =
            let same : found ≡ fault found.line TooMany = ap (λ (k : RuleFaultKind). fault found.line k) many in
            inl (subst (IsAtToken limits tokens) (sym same) (passed found.line (told_where one limits some text tokens last are found.line (subst (IsFaultWithin limits text) same is))))
        by (inr other) = elim (refused found other (err found other is) none) [
          | inl at ↦ inl (at_token found other is at)
          | inr end ↦ inr (at_end found other is end)
        ]

    -- ---- and the other way round

    read_as : (found : RuleFault) → IsFirst found → ((rules : List RawRule) → SpellsFile limits rules tokens → ⊥) → IsFaultWithin limits text found
    read_as found first unread = by (all_rules limits last kept) refl
      where
        by : (r : Result (List RawRule) RuleFault) → all_rules limits last kept ≡ r → IsFaultWithin limits text found
        by (Ok rules) e =
            let spelled : SpellsFile limits rules kept = all_rules-is limits last kept rules e in
            absurd (unread rules (subst (SpellsFile limits rules) (whole_fits limits tokens (rules, [], subst (SpellsFile limits rules) (sym (append-nil kept)) spelled)) spelled))
        by (Err f) e =
            let is : IsFaultWithin limits text f = record { tokens = tokens; last = last; are_tokens = are; found = e } in
            subst (IsFaultWithin limits text) (one_fault limits tokens last f found (where_it_is f is) first) is

    it_is : (found : RuleFault) → IsFirst found → IsFaultWithin limits text found
    it_is found (inr end) = read_as found (inr end) (λ rules spelled. end.no_rules rules (limits, spelled))
    it_is found (inl at) = by at.kind
      where
        by : IsOneTooMany limits at.front at.token found.kind ⊎ DoesNotFit at.front at.token found.kind → IsFaultWithin limits text found
        by (inr misfit) = read_as found (inl at) (λ rules spelled. misfit.misfit (front_fits tokens at.front at.token at.behind at.stands (rules, [], (limits, subst (SpellsFile limits rules) (sym (append-nil tokens)) spelled))))
        by (inl many) =
            let (rules, more, (e, spelled)) = many.fits in
            let there : IsPassedOn limits tokens found.line = record { front = at.front; token = at.token; behind = at.behind; stands = at.stands; within = at.within; passed = many.passed; fits = (e, (rules, more, spelled)); ends_on = at.line } in
            subst (IsFaultWithin limits text) (ap (λ (k : RuleFaultKind). fault found.line k) (sym many.told)) (passed_told one limits some text tokens last are found.line there)

-- ---- the laws

pub exact : OneTokenAtAPlace → RefusalsAreExact
exact one = record {
  refused = λ limits some text tokens last found are. (where_it_is one limits text tokens last are some found, it_is one limits text tokens last are some found);
  read = λ limits text tokens last rules found are spelled within fault_.
      let ok : all_rules limits last tokens ≡ Ok rules = all_rules-of limits last rules tokens spelled in
      let err_ = fault_of limits one text tokens last found are fault_ in
      let both = sym ok ∙ ap (all_rules limits last) (sym (kept_whole tokens within)) ∙ err_ in
      absurd cc;
}

pub texts_refused : OneTokenAtAPlace → TextsAreRefusedByLimitsAsTooMany
texts_refused one limits text tokens last rules found are spelled is = by (told_or_other found.kind)
  where
    by : (found.kind ≡ TooMany) ⊎ (found.kind ≢ TooMany) → found.kind ≡ TooMany
    by (inl many) = many
    by (inr other) = absurd (unspelled one limits text tokens last are found other (fault_of limits one text tokens last found are is) rules spelled)
