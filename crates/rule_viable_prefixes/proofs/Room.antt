-- What fits within limits that are wide enough for the tokens; and what then fits within none.
use Rattle.rule_viable_prefixes.proofs.Common.{◌≡◌, ℕ, suc, ◌+◌, ◌<◌, ◌≤◌, List, [], ◌∷◌, ◌++◌, length, Result, Ok, Err, refl, sym, ap, subst, ◌∙◌, append_assoc, length-append, ◌⊎◌, inl, inr, arith, RuleFaultKind, BadByte, TooMany, Limits, AreWithin, fault, RuleFault, Token, Line, Name, Bad, Excess, EndsLine, RawRule, all_rules, AreOfText, of_both, all_rules-is}
use Rattle.rule_viable_prefixes.proofs.FitsWithin.{FitsWithin, FitsBehindWithin, fits_front, fits_before}
use Rattle.rule_viable_prefixes.proofs.LimitLaws.{fits_wider}
use Rattle.rule_viable_prefixes.proofs.Lines.{NamesEndLines}
use Rattle.rule_viable_prefixes.proofs.Marks.{IsMark, bad, excess, Marking, State, step, cut}
use Rattle.rule_viable_prefixes.proofs.MarkedRules.{file_same}
use Rattle.rule_viable_prefixes.proofs.Placed.{run, start, KeptAlong, bytes_in, gap, marked_behind, kept_run}
use Rattle.rule_viable_prefixes.proofs.Reasons.{openings_on_line}
use Rattle.rule_viable_prefixes.proofs.Refusals.{no_mark}
use Rattle.rule_viable_prefixes.proofs.Roomy.{roomy}
use Rattle.rule_viable_prefixes.proofs.Versions.{AtToken, AtEnd, where_refused}
use Rattle.rule_viable_prefixes.proofs.WherePassed.{only_bad, few_opened, length_front, mark_names, not_marked, at_excess, one_misfit, of_front, told_marked, none_told, fits_lined}
use Rattle.rule_viable_prefixes.proofs.Wider.{Below, same_answer, too_many}
use Rattle.rule_viable_prefixes.proofs.WiderRules.{all_rules_below}

-- ---- limits that are wide enough

-- the most nesting and statements behind any of the tokens
abbrev pub levels_in : State → List Token → ℕ
levels_in s [] = 0
levels_in s (token ∷ tokens) = length (step s token).pending + levels_in (step s token) tokens

abbrev pub halves_in : State → List Token → ℕ
halves_in s [] = 0
halves_in s (token ∷ tokens) = (step s token).statements + halves_in (step s token) tokens

pub kept_wide : (wide : Limits) (s : State) (tokens : List Token) → bytes_in tokens ≤ wide.name_bytes → levels_in s tokens ≤ wide.nested → halves_in s tokens ≤ wide.statements → KeptAlong wide s tokens
kept_wide wide s [] bytes levels halves = tt
kept_wide wide s (token ∷ tokens) bytes levels halves = (
  record { bytes = omega (arith, bytes); levels = omega (arith, levels); half = omega (arith, halves) },
  kept_wide wide (step s token) tokens (omega (arith, bytes)) (omega (arith, levels)) (omega (arith, halves)),
)

kept_wider : (limits wider : Limits) → AreWithin wider limits → (s : State) (tokens : List Token) → KeptAlong limits s tokens → KeptAlong wider s tokens
kept_wider limits wider within s [] kept = tt
kept_wider limits wider within s (token ∷ tokens) (here, kept) =
    let b = here.bytes in
    let l = here.levels in
    let h = here.half in
    let wb = within.name_bytes in
    let wl = within.nested in
    let wh = within.statements in
    (record { bytes = omega (arith, b, wb); levels = omega (arith, l, wl); half = omega (arith, h, wh) }, kept_wider limits wider within (step s token) tokens kept)

pub kept_both : (limits : Limits) (s : State) (front back : List Token) → KeptAlong limits s front → KeptAlong limits (run s front) back → KeptAlong limits s (front ++ back)
kept_both limits s [] back one two = two
kept_both limits s (token ∷ front) back one two = (one.0, kept_both limits (step s token) front back one.1 two)

pub kept_before : (limits : Limits) (s : State) (front back : List Token) → KeptAlong limits s (front ++ back) → KeptAlong limits s front
kept_before limits s [] back kept = tt
kept_before limits s (token ∷ front) back kept = (kept.0, kept_before limits (step s token) front back kept.1)

-- no limit is passed with a line's number, nor with the sentinel
module _ (limits : Limits) (front : List Token) (kept : KeptAlong limits start front) where
  room : (length (run start front).pending ≤ limits.nested) × ((run start front).statements ≤ limits.statements)
  room = kept_run limits start front (omega arith) (omega arith) kept

  pub kept_line : (number : ℕ) → KeptAlong limits start (front ++ Line number ∷ [])
  kept_line number = let r = room in kept_both limits start front (Line number ∷ []) kept (record { bytes = omega arith; levels = omega arith; half = omega (arith, r.1) }, tt)

  kept_bad : KeptAlong limits start (front ++ Bad ∷ [])
  kept_bad = let r = room in kept_both limits start front (Bad ∷ []) kept (record { bytes = omega arith; levels = omega (arith, r.0); half = omega (arith, r.1) }, tt)

-- ---- other tokens behind the same prefix

pub ends_swapped : (front a b : List Token) → (EndsLine a → EndsLine b) → EndsLine (front ++ a) → EndsLine (front ++ b)
ends_swapped [] a b h ended = h ended
ends_swapped (Line number ∷ front) a b h ended = tt
ends_swapped (token ∷ front) a b h ended = absurd ended

pub names_swapped : (front a b : List Token) → (EndsLine a → EndsLine b) → NamesEndLines b → NamesEndLines (front ++ a) → NamesEndLines (front ++ b)
names_swapped [] a b h new names = new
names_swapped (Name text ∷ front) a b h new names = (ends_swapped front a b h names.0, names_swapped front a b h new names.1)
names_swapped (token ∷ front) a b h new names = names_swapped front a b h new names

same_first : (token : Token) (a b : List Token) → EndsLine (token ∷ a) → EndsLine (token ∷ b)
same_first (Line number) a b ended = tt
same_first token a b ended = absurd ended

gap_names : (n : ℕ) (token m : Token) (kind : RuleFaultKind) → IsMark m kind → NamesEndLines (token ∷ (gap n token ++ m ∷ []))
gap_names n (Name text) m kind is = (tt, mark_names m kind is [] tt)
gap_names n token m kind is = mark_names m kind is [] tt

-- ---- a byte that may not stand, behind a viable prefix

module _ (b n s : ℕ) (some : 1 ≤ n) (last : ℕ) where
  abbrev wide : Limits
  wide = roomy b n s

  abbrev wider : Limits
  wider = roomy b (suc n) (suc s)

  abbrev marking : Marking
  marking = record { limits = wide; wider = wider; mark = Bad; kind = BadByte; is_mark = bad; name_bytes = omega arith; nested = omega arith; statements = omega arith; anew = λ k. k }

  within : AreWithin wider wide
  within = record { name_bytes = omega arith; nested = omega arith; statements = omega arith }

  -- it is told as `BadByte`
  bad_told : (front : List Token) → EndsLine (front ++ Excess ∷ []) → NamesEndLines (front ++ Excess ∷ []) → AreOfText front → KeptAlong wide start front → FitsWithin wide front
      → (line : ℕ) × (all_rules wider last (front ++ Bad ∷ []) ≡ Err (fault line BadByte))
  bad_told front ended names of kept fits = by (all_rules wide last (front ++ Excess ∷ [])) refl
    where
      many : (found : RuleFault) → AtToken b n s (front ++ Excess ∷ []) found ⊎ AtEnd b n s (front ++ Excess ∷ []) last found → found.kind ≡ TooMany
      many found (inr end) = absurd (not_marked b n s front [] end.fits)
      many found (inl at) = elim (at_excess b n s front [] (front ++ Excess ∷ []) found refl at) [
        | inl (f, line, kind) ↦ kind
        | inr (others, is) ↦ absurd (at.misfit (fits_before wide front at.front at.token others is fits))
      ]

      by : (r : Result (List RawRule) RuleFault) → all_rules wide last (front ++ Excess ∷ []) ≡ r → (line : ℕ) × (all_rules wider last (front ++ Bad ∷ []) ≡ Err (fault line BadByte))
      by (Ok rules) e = absurd (no_mark wide front [] rules (all_rules-is wide last (front ++ Excess ∷ []) rules e))
      by (Err found) e =
          let kind = many found (where_refused b n s last (front ++ Excess ∷ []) found ended names e) in
          let told : all_rules wide last (front ++ Excess ∷ []) ≡ Err (fault found.line TooMany) = e ∙ ap (λ (k : RuleFaultKind). Err (fault found.line k)) kind in
          let marked = told_marked marking found.line (all_rules wide last (front ++ Excess ∷ [])) (all_rules wider last (front ++ Bad ∷ [])) (file_same marking some last (front ++ Excess ∷ []) (front ++ Bad ∷ []) ended (marked_behind marking start front (Excess ∷ []) (Bad ∷ []) kept of names cut)) told in
          (marked.0, marked.1)

  -- and it does not fit
  pub bad_unfit : (front : List Token) → EndsLine (front ++ Bad ∷ []) → NamesEndLines (front ++ Bad ∷ []) → AreOfText front → KeptAlong wide start front → FitsBehindWithin wide front Bad → ⊥
  bad_unfit front ended names of kept fits =
      let told = bad_told front (ends_swapped front (Bad ∷ []) (Excess ∷ []) (λ e. absurd e) ended) (names_swapped front (Bad ∷ []) (Excess ∷ []) (λ e. absurd e) tt names) of kept (fits_front wide front (Bad ∷ []) fits) in
      absurd (by told.0 (where_refused b (suc n) (suc s) last (front ++ Bad ∷ []) (fault told.0 BadByte) ended names told.1))
    where
      by : (line : ℕ) → AtToken b (suc n) (suc s) (front ++ Bad ∷ []) (fault line BadByte) ⊎ AtEnd b (suc n) (suc s) (front ++ Bad ∷ []) last (fault line BadByte) → ⊥
      by line (inr end) = let kind = end.kind in absurd cc
      by line (inl at) = at.misfit (fits_before wider (front ++ Bad ∷ []) at.front at.token at.behind at.stands (fits_wider wide wider within (front ++ Bad ∷ []) fits))

-- ---- a token that does not fit within limits that are wide enough for it

module _ (b n s x y z : ℕ) (some : 1 ≤ n) (wider_is : AreWithin (roomy x y z) (roomy b n s)) (last : ℕ) where
  abbrev narrow : Limits
  narrow = roomy b n s

  abbrev broad : Limits
  broad = roomy x y z

  abbrev broader : Limits
  broader = roomy x (suc y) (suc z)

  broader_is : AreWithin broader narrow
  broader_is = let w = wider_is.name_bytes in let v = wider_is.nested in let u = wider_is.statements in record { name_bytes = omega (arith, w); nested = omega (arith, v); statements = omega (arith, u) }

  some_broad : 1 ≤ y
  some_broad = let v = wider_is.nested in omega (arith, some, v)

  -- where all tokens fit within the wider limits, the first one that does not fit within the narrower ones is such a
  -- byte
  module _ (all front : List Token) (token : Token) (others : List Token) (stands : all ≡ front ++ token ∷ others) (of : AreOfText all) (kept : KeptAlong narrow start all) (small : length all + 1 < n)
      (fits : FitsWithin narrow front) (misfit : ¬ FitsBehindWithin narrow front token) (ended : EndsLine (all ++ Bad ∷ [])) (names : NamesEndLines (all ++ Bad ∷ [])) where
    at_bad : (line : ℕ) → AtToken b n s (all ++ Bad ∷ []) (fault line BadByte) ⊎ AtEnd b n s (all ++ Bad ∷ []) last (fault line BadByte) → token ≡ Bad
    at_bad line (inr end) = let kind = end.kind in absurd cc
    at_bad line (inl at) =
        let opened : openings_on_line at.front < n = let few = few_opened 0 at.front in let short = length_front (all ++ Bad ∷ []) at.front (at.token ∷ at.behind) at.stands in omega (arith, few, short, small, length-append all (Bad ∷ [])) in
        let is_bad : at.token ≡ Bad = only_bad narrow (openings_on_line at.front) at.front (FitsBehindWithin narrow at.front) at.token at.behind BadByte opened (at.told (λ is. let kind = at.excess is in absurd cc)) refl in
        let stood : all ++ Bad ∷ [] ≡ front ++ token ∷ (others ++ Bad ∷ []) = ap (λ (ts : List Token). ts ++ Bad ∷ []) stands ∙ append_assoc front (token ∷ others) (Bad ∷ []) in
        (one_misfit b n s (all ++ Bad ∷ []) front at.front token at.token (others ++ Bad ∷ []) at.behind stood at.stands fits misfit at.fits at.misfit).1 ∙ is_bad

    only_bad_fits : EndsLine (all ++ Excess ∷ []) → NamesEndLines (all ++ Excess ∷ []) → FitsWithin broad all → token ≡ Bad
    only_bad_fits ended_e names_e broad_fits =
        let told = bad_told x y z some_broad last all ended_e names_e of (kept_wider narrow broad wider_is start all kept) broad_fits in
        by told.0 told.1 (all_rules_below narrow broader broader_is last (all ++ Bad ∷ []))
      where
        by : (line : ℕ) → all_rules broader last (all ++ Bad ∷ []) ≡ Err (fault line BadByte) → Below (all_rules narrow last (all ++ Bad ∷ [])) (all_rules broader last (all ++ Bad ∷ [])) → token ≡ Bad
        by line told (too_many k is) = absurd (none_told narrow some last (all ++ Bad ∷ []) ended names (of_both all (Bad ∷ []) of (tt, tt)) (kept_bad narrow all kept) k is)
        by line told (same_answer same) = at_bad line (where_refused b n s last (all ++ Bad ∷ []) (fault line BadByte) ended names (same ∙ told))

  -- behind a rule's name, on a line of its own
  gap_short : (line : ℕ) (token : Token) → length (gap line token) ≤ 1
  gap_short line (Name text) = omega arith
  gap_short line token = omega arith

  module _ (front : List Token) (token : Token) (behind : List Token) (ended : EndsLine (front ++ token ∷ behind)) (names : NamesEndLines (front ++ token ∷ behind)) (line : ℕ) where
    ended_with : (m : Token) → EndsLine ((front ++ token ∷ gap line token) ++ m ∷ [])
    ended_with m = subst EndsLine (sym (append_assoc front (token ∷ gap line token) (m ∷ []))) (ends_swapped front (token ∷ behind) (token ∷ (gap line token ++ m ∷ [])) (same_first token behind (gap line token ++ m ∷ [])) ended)

    names_with : (m : Token) (kind : RuleFaultKind) → IsMark m kind → NamesEndLines ((front ++ token ∷ gap line token) ++ m ∷ [])
    names_with m kind is = subst NamesEndLines (sym (append_assoc front (token ∷ gap line token) (m ∷ []))) (names_swapped front (token ∷ behind) (token ∷ (gap line token ++ m ∷ [])) (same_first token behind (gap line token ++ m ∷ [])) (gap_names line token m kind is) names)

  of_gap : (front : List Token) (token : Token) (line : ℕ) → AreOfText (front ++ token ∷ []) → AreOfText (front ++ token ∷ gap line token)
  of_gap front (Name text) line are = subst AreOfText (append_assoc front (Name text ∷ []) (Line line ∷ [])) (of_both (front ++ Name text ∷ []) (Line line ∷ []) are (tt, tt))
  of_gap front token line are = are

  kept_gap : (front : List Token) (token : Token) (line : ℕ) → KeptAlong narrow start (front ++ token ∷ []) → KeptAlong narrow start (front ++ token ∷ gap line token)
  kept_gap front (Name text) line along = subst (KeptAlong narrow start) (append_assoc front (Name text ∷ []) (Line line ∷ [])) (kept_line narrow (front ++ Name text ∷ []) along line)
  kept_gap front token line along = along

  pub stays_unfit : (front : List Token) (token : Token) (behind : List Token) → EndsLine (front ++ token ∷ behind) → NamesEndLines (front ++ token ∷ behind) → AreOfText (front ++ token ∷ [])
      → KeptAlong narrow start (front ++ token ∷ []) → length front + 4 < n → FitsWithin narrow front → ¬ FitsBehindWithin narrow front token → ¬ FitsBehindWithin broad front token
  stays_unfit front token behind ended names of kept small fits misfit broad_fits = not_bad (is_bad (fits_lined broad front token broad_fits))
    where
      is_bad : (line : ℕ) × FitsWithin broad (front ++ token ∷ gap line token) → token ≡ Bad
      is_bad (line, all_fit) =
          only_bad_fits (front ++ token ∷ gap line token) front token (gap line token) refl (of_gap front token line of) (kept_gap front token line kept) (omega (arith, small, gap_short line token, length-append front (token ∷ gap line token)))
          fits misfit (ended_with front token behind ended names line Bad) (names_with front token behind ended names line Bad BadByte bad)
          (ended_with front token behind ended names line Excess) (names_with front token behind ended names line Excess TooMany excess) all_fit

      -- a byte that may not stand does not fit
      not_bad : token ≡ Bad → ⊥
      not_bad is =
          let no_line : EndsLine (token ∷ behind) → EndsLine (Bad ∷ []) = λ e. subst (λ (t : Token). EndsLine (t ∷ behind)) is e in
          bad_unfit x y z some_broad last front (ends_swapped front (token ∷ behind) (Bad ∷ []) no_line ended) (names_swapped front (token ∷ behind) (Bad ∷ []) no_line tt names)
          (of_front front (token ∷ []) of) (kept_wider narrow broad wider_is start front (kept_before narrow start front (token ∷ []) kept)) (subst (λ (t : Token). FitsBehindWithin broad front t) is broad_fits)
