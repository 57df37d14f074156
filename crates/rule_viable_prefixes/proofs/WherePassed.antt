-- `TooMany` is told exactly at the first token with which a limit is passed.
use Rattle.rule_viable_prefixes.proofs.Common.{◌≡◌, ◌≢◌, ℕ, ◌+◌, ◌<◌, ◌≤◌, Bool, true, false, List, [], ◌∷◌, ◌++◌, length, Result, Err, refl, sym, ap, subst, ◌∙◌, append_assoc, length-append, ◌⊎◌, inl, inr, arith, if◌then◌else◌, append-nil, OneTokenAtAPlace, is_among, RuleFaultKind, BadByte, Syntax, LeftOut, TooMany, Limits, fault, RuleFault, Token, Line, Name, Mark, Bad, Excess, AreTokens, EndsLine, RawRule, limited, SpellsFile, most_nodes, counted_at_end, IsWithinLimit, IsCut, all_rules, IsFaultWithin, kept_up_to_the_limit, passed_by_no_line, IsOfText, AreOfText, of_both, of_back, all_rules-is, Fitting, StaysWithin, AllStayWithin}
use Rattle.rule_viable_prefixes.specs.Fits.{line_of}
use Rattle.rule_viable_prefixes.proofs.FitsWithin.{FitsWithin, FitsBehindWithin, fits_front, fits_before}
use Rattle.rule_viable_prefixes.proofs.Reasons as kinds
use Rattle.rule_viable_prefixes.proofs.Reasons.{openings, openings_behind, openings_on_line, opening_marks, IsTooMany, IsMisfit, itself, read_on, IsOtherVersion}
use Rattle.rule_viable_prefixes.proofs.LimitLaws.{fault_is, fits_wider}
use Rattle.rule_viable_prefixes.proofs.Lines.{NamesEndLines}
use Rattle.rule_viable_prefixes.proofs.Marks.{IsMark, bad, excess, Marking, State, step, Passed, bytes, levels, half, Kept, Marked, none, cut, over, over_name, later}
use Rattle.rule_viable_prefixes.proofs.MarkedRules.{Agrees, agreed, both_failed, marked, file_same}
use Rattle.rule_viable_prefixes.proofs.Names.{line_behind_name}
use Rattle.rule_viable_prefixes.proofs.Placed.{run, run_both, start, line_is, within_kept, kept_within, AreLimited, KeptAlong, Placed, place, bytes_in, gap, behind_mark, marks, unmarked, kept_run, marked_at}
use Rattle.rule_viable_prefixes.proofs.Refusals.{fault_of, split, one_place, no_mark}
use Rattle.rule_viable_prefixes.proofs.Roomy.{roomy}
use Rattle.rule_viable_prefixes.proofs.Texts.{names_in, of_text, text_begins, limited_begins, limited_names}
use Rattle.rule_viable_prefixes.proofs.Versions.{AtToken, AtEnd, where_refused}

-- ---- tokens with the sentinel end lines as those without do

pub ends_marked : (c : Marking) (s : State) (a b : List Token) → Marked c s a b → EndsLine a → EndsLine b
ends_marked c s a b none ended = tt
ends_marked c s a b cut ended = absurd ended
ends_marked c s a b (over (Line number) rest text no_name is le) ended = tt
ends_marked c s a b (over token rest text no_name is le) ended = absurd ended
ends_marked c s a b (over_name text rest over_ long le) ended = absurd ended
ends_marked c s a b (later (Line number) x y text kept more) ended = tt
ends_marked c s a b (later token x y text kept more) ended = absurd ended

pub mark_names : (m : Token) (kind : RuleFaultKind) → IsMark m kind → (rest : List Token) → NamesEndLines rest → NamesEndLines (m ∷ rest)
mark_names m kind bad rest names = names
mark_names m kind excess rest names = names

names_marked : (c : Marking) (s : State) (a b : List Token) → Marked c s a b → NamesEndLines a → NamesEndLines b
names_marked c s a b none names = tt
names_marked c s a b cut names = mark_names c.mark c.kind c.is_mark [] tt
names_marked c s a b (over (Name text) rest of no_name is le) names = absurd no_name
names_marked c s a b (over token rest of no_name is le) names = mark_names c.mark c.kind c.is_mark rest names
names_marked c s a b (over_name text rest ended long le) names = (tt, mark_names c.mark c.kind c.is_mark rest names.1)
names_marked c s a b (later (Name text) x y of kept more) names = (ends_marked c (step s (Name text)) x y more names.0, names_marked c (step s (Name text)) x y more names.1)
names_marked c s a b (later token x y of kept more) names = names_marked c (step s token) x y more names

-- ---- a token opens at most one level of nesting

one_opened : (token : Token) → openings token ≤ 1
one_opened (Mark mark) = by (is_among opening_marks mark)
  where
    by : (b : Bool) → (if b then 1 else 0) ≤ 1
    by true = omega arith
    by false = omega arith
one_opened token = omega arith

pub few_opened : (n : ℕ) (tokens : List Token) → openings_behind n tokens ≤ n + length tokens
few_opened n [] = omega arith
few_opened n (Line number ∷ tokens) = let less = few_opened 0 tokens in omega (arith, less)
few_opened n (token ∷ tokens) = let less = few_opened (n + openings token) tokens in let most = one_opened token in omega (arith, less, most)

pub length_front : (tokens front back : List Token) → tokens ≡ front ++ back → length front ≤ length tokens
length_front tokens [] back is = omega arith
length_front [] (t ∷ front) back is = absurd cc
length_front (u ∷ tokens) (t ∷ front) back is = let rest : tokens ≡ front ++ back = cc in let less = length_front tokens front back rest in omega (arith, less)

-- ---- the sentinel's fault, where no level is too deep

-- a byte that may not stand is told as `BadByte`, and nothing else is
pub only_bad : (limits : Limits) (n : ℕ) (front : List Token) (fits : Fitting) (token : Token) (behind : List Token) (kind : RuleFaultKind) → n < limits.nested → IsMisfit limits n fits token behind kind ⊎ IsOtherVersion front token kind → kind ≡ BadByte → token ≡ Bad
only_bad limits n front fits token behind kind less (inl (read_on (applied, (far, nests, more), missed, told))) e = absurd (omega (arith, far, less))
only_bad limits n front fits token behind kind less (inr (line, left, there, is, told)) e = let both = sym told ∙ e in absurd cc
only_bad limits n front fits token behind BadByte less (inl (itself is)) e = is
only_bad limits n front fits token behind TooMany less (inl (itself is)) e = absurd cc
only_bad limits n front fits token behind (LeftOut left) less (inl (itself is)) e = absurd cc
only_bad limits n front fits token behind Syntax less (inl (itself is)) e = absurd cc
only_bad limits n front fits token behind kind less (inl (itself is)) e = absurd is

-- and never as `TooMany`
no_bad_too_many : (limits : Limits) (n : ℕ) (fits : Fitting) (token : Token) → n < limits.nested → IsTooMany limits n fits token → token ≡ Bad → ⊥
no_bad_too_many limits n fits token less (kinds.name name is) e = absurd cc
no_bad_too_many limits n fits token less (kinds.register name is) e = absurd cc
no_bad_too_many limits n fits token less (kinds.constant name is) e = absurd cc
no_bad_too_many limits n fits token less (kinds.choice name is) e = absurd cc
no_bad_too_many limits n fits token less (kinds.statement name is) e = absurd cc
no_bad_too_many limits n fits token less (kinds.nesting t (far, nests, more)) e = absurd (omega (arith, far, less))

pub no_bad : (limits : Limits) (n : ℕ) (front : List Token) (fits : Fitting) (token : Token) (behind : List Token) (kind : RuleFaultKind) → n < limits.nested → IsMisfit limits n fits token behind kind ⊎ IsOtherVersion front token kind → kind ≡ TooMany → token ≡ Bad → ⊥
no_bad limits n front fits token behind kind less (inl (read_on (applied, (far, nests, more), missed, told))) e b = absurd (omega (arith, far, less))
no_bad limits n front fits token behind kind less (inr (line, left, there, is, told)) e b = let both = sym told ∙ e in absurd cc
no_bad limits n front fits token behind TooMany less (inl (itself is)) e b = no_bad_too_many limits n fits token less is b
no_bad limits n front fits token behind BadByte less (inl (itself is)) e b = absurd cc
no_bad limits n front fits token behind (LeftOut left) less (inl (itself is)) e b = absurd cc
no_bad limits n front fits token behind Syntax less (inl (itself is)) e b = absurd cc
no_bad limits n front fits token behind kind less (inl (itself is)) e b = absurd is

-- ---- the two sentinels behind the same tokens

module _ (sb sn ss : ℕ) where
  abbrev wide : Limits
  wide = roomy sb sn ss

  pub not_marked : (front more : List Token) → FitsWithin wide (front ++ Excess ∷ more) → ⊥
  not_marked front more (rules, rest, is) = no_mark wide front (more ++ rest) rules (subst (SpellsFile wide rules) (append_assoc front (Excess ∷ more) rest) is)

  -- all tokens before `Excess` fit, or one of them does not
  pub at_excess : (pre rest all : List Token) (found : RuleFault) → all ≡ pre ++ Excess ∷ rest → (at : AtToken sb sn ss all found) → (FitsWithin wide pre × (found.line ≡ line_of pre) × (found.kind ≡ TooMany)) ⊎ ((others : List Token) × (pre ≡ at.front ++ at.token ∷ others))
  at_excess pre rest all found is at = by (split pre (Excess ∷ rest) at.front (at.token ∷ at.behind) (sym is ∙ at.stands))
    where
      behind : (g : List Token) → at.front ≡ pre ++ g → Excess ∷ rest ≡ g ++ at.token ∷ at.behind → FitsWithin wide pre × (found.line ≡ line_of pre) × (found.kind ≡ TooMany)
      behind [] p q =
          let same : at.front ≡ pre = p ∙ append-nil pre in
          let mark : at.token ≡ Excess = cc in
          (subst (FitsWithin wide) same at.fits, at.line ∙ ap line_of same, at.excess mark)
      behind (t ∷ g) p q =
          let first : t ≡ Excess = cc in
          absurd (not_marked pre g (subst (λ (u : Token). FitsWithin wide (pre ++ u ∷ g)) first (subst (FitsWithin wide) p at.fits)))

      by : ((g : List Token) × (at.front ≡ pre ++ g) × (Excess ∷ rest ≡ g ++ at.token ∷ at.behind)) ⊎ ((t : Token) × (g : List Token) × (pre ≡ at.front ++ t ∷ g) × (at.token ∷ at.behind ≡ t ∷ g ++ Excess ∷ rest))
          → (FitsWithin wide pre × (found.line ≡ line_of pre) × (found.kind ≡ TooMany)) ⊎ ((others : List Token) × (pre ≡ at.front ++ at.token ∷ others))
      by (inl (g, p, q)) = inl (behind g p q)
      by (inr (t, g, p, q)) = let same : t ≡ at.token = cc in inr (g, p ∙ ap (λ (u : Token). at.front ++ u ∷ g) same)

  -- the first token that doesn't fit is one
  pub one_misfit : (pre f g : List Token) (t u : Token) (x y : List Token) → pre ≡ f ++ t ∷ x → pre ≡ g ++ u ∷ y → FitsWithin wide f → ¬ FitsBehindWithin wide f t → FitsWithin wide g → ¬ FitsBehindWithin wide g u → (f ≡ g) × (t ≡ u)
  one_misfit pre f g t u x y p q fits_f misfit_f fits_g misfit_g =
      one_place (FitsBehindWithin wide) pre f g t u x y p q (λ before earlier more is. fits_before wide f before earlier more is fits_f) misfit_f (λ before earlier more is. fits_before wide g before earlier more is fits_g) misfit_g

  -- with `Bad` the fault is `BadByte`, and with `Excess` `TooMany`, so it is at the sentinel, and all tokens before it
  -- fit
  fits_marked : (pre rest others b e : List Token) (found_b found_e : RuleFault) → length e < sn → length b < sn → AreOfText pre → e ≡ pre ++ Excess ∷ rest → b ≡ pre ++ Bad ∷ others → AtToken sb sn ss e found_e → AtToken sb sn ss b found_b → found_e.kind ≡ TooMany → found_b.kind ≡ BadByte
      → FitsWithin wide pre × (found_e.line ≡ line_of pre)
  fits_marked pre rest others b e found_b found_e small less of is_e is_b at_e at_b many bad_byte = by (at_excess pre rest e found_e is_e at_e)
    where
      opened_e : openings_on_line at_e.front < sn
      opened_e = let few = few_opened 0 at_e.front in let short = length_front e at_e.front (at_e.token ∷ at_e.behind) at_e.stands in omega (arith, few, short, small)

      opened_b : openings_on_line at_b.front < sn
      opened_b = let few = few_opened 0 at_b.front in let short = length_front b at_b.front (at_b.token ∷ at_b.behind) at_b.stands in omega (arith, few, short, less)

      bad_there : at_b.token ≡ Bad
      bad_there = only_bad wide (openings_on_line at_b.front) at_b.front (FitsBehindWithin wide at_b.front) at_b.token at_b.behind found_b.kind opened_b (at_b.told (λ is. let both = sym (at_b.excess is) ∙ bad_byte in absurd cc)) bad_byte

      no_excess : (x : List Token) → pre ≡ at_e.front ++ at_e.token ∷ x → at_e.token ≢ Excess
      no_excess x is same = let back : AreOfText (at_e.token ∷ x) = of_back at_e.front (at_e.token ∷ x) (subst AreOfText is of) in subst IsOfText same back.0

      both_before : (x : List Token) → pre ≡ at_e.front ++ at_e.token ∷ x → (y : List Token) → pre ≡ at_b.front ++ at_b.token ∷ y → ⊥
      both_before x p y q =
          let same : at_e.token ≡ at_b.token = (one_misfit pre at_e.front at_b.front at_e.token at_b.token x y p q at_e.fits at_e.misfit at_b.fits at_b.misfit).1 in
          no_bad wide (openings_on_line at_e.front) at_e.front (FitsBehindWithin wide at_e.front) at_e.token at_e.behind found_e.kind opened_e (at_e.told (no_excess x p)) many (same ∙ bad_there)

      by : (FitsWithin wide pre × (found_e.line ≡ line_of pre) × (found_e.kind ≡ TooMany)) ⊎ ((x : List Token) × (pre ≡ at_e.front ++ at_e.token ∷ x)) → FitsWithin wide pre × (found_e.line ≡ line_of pre)
      by (inl (fits, line, kind)) = (fits, line)
      by (inr (x, p)) = absurd (behind (split pre (Bad ∷ others) at_b.front (at_b.token ∷ at_b.behind) (sym is_b ∙ at_b.stands)))
        where
          behind : ((g : List Token) × (at_b.front ≡ pre ++ g) × (Bad ∷ others ≡ g ++ at_b.token ∷ at_b.behind)) ⊎ ((t : Token) × (g : List Token) × (pre ≡ at_b.front ++ t ∷ g) × (at_b.token ∷ at_b.behind ≡ t ∷ g ++ Bad ∷ others)) → ⊥
          behind (inl (g, a, h)) = at_e.misfit (fits_before wide pre at_e.front at_e.token x p (fits_front wide pre g (subst (FitsWithin wide) a at_b.fits)))
          behind (inr (t, g, a, h)) = let same : t ≡ at_b.token = cc in both_before x p g (a ∙ ap (λ (u : Token). at_b.front ++ u ∷ g) same)

-- behind a rule's name another line fits
pub fits_lined : (limits : Limits) (front : List Token) (token : Token) → FitsBehindWithin limits front token → (line : ℕ) × FitsWithin limits (front ++ token ∷ gap line token)
fits_lined limits front token (rules, more, is) = by token (subst (SpellsFile limits rules) (append_assoc front (token ∷ []) more) is)
  where
    by : (t : Token) → SpellsFile limits rules (front ++ t ∷ more) → (line : ℕ) × FitsWithin limits (front ++ t ∷ gap line t)
    by (Name text) spelled =
        let line = line_behind_name limits rules front text more spelled in
        (line.0, (rules, line.1.0, subst (SpellsFile limits rules) (ap (λ (us : List Token). front ++ Name text ∷ us) line.1.1 ∙ sym (append_assoc front (Name text ∷ Line line.0 ∷ []) line.1.0)) spelled))
    by t spelled = (0, (rules, more, subst (SpellsFile limits rules) (sym (append_assoc front (t ∷ []) more)) spelled))

-- ---- what is told with the sentinel

-- where `TooMany` is told within the limits, the sentinel's fault is told within the wider ones
pub told_marked : (c : Marking) (line : ℕ) (r q : Result (List RawRule) RuleFault) → Agrees c {X = List RawRule} (λ x y. x ≡ y) r q → r ≡ Err (fault line TooMany) → (other : ℕ) × (q ≡ Err (fault other c.kind)) × ((other ≡ line) ⊎ (other ≡ c.anew line))
told_marked c line r q (agreed x y is) e = absurd cc
told_marked c line r q (both_failed g other) e = absurd (other (ap (λ (f : RuleFault). f.kind) (fault_is g (fault line TooMany) e)))
told_marked c line r q (marked at other here) e = let same : at ≡ line = ap (λ (f : RuleFault). f.line) (fault_is (fault at TooMany) (fault line TooMany) e) in (other, refl, subst (λ (l : ℕ). (other ≡ l) ⊎ (other ≡ c.anew l)) same here)

abbrev one_wider : Limits → Limits
one_wider limits = record { name_bytes = limits.name_bytes; nested = limits.nested + 1; statements = limits.statements + 1 }

abbrev one_marking : Limits → (m : Token) (kind : RuleFaultKind) → IsMark m kind → Marking
one_marking limits m kind is_mark = record { limits = limits; wider = one_wider limits; mark = m; kind = kind; is_mark = is_mark; name_bytes = omega arith; nested = omega arith; statements = omega arith; anew = λ n. n }

-- where no limit is passed, `TooMany` is not told
pub none_told : (limits : Limits) → 1 ≤ limits.nested → (last : ℕ) (tokens : List Token) → EndsLine tokens → NamesEndLines tokens → AreOfText tokens → KeptAlong limits start tokens
    → (line : ℕ) → all_rules limits last tokens ≡ Err (fault line TooMany) → ⊥
none_told limits some last tokens ended names all along line err =
    let b = told Bad BadByte bad in
    let e = told Excess TooMany excess in
    let kinds_ : BadByte ≡ TooMany = ap (λ (f : RuleFault). f.kind) (fault_is (fault b.0 BadByte) (fault e.0 TooMany) (sym b.1 ∙ e.1)) in
    absurd cc
  where
    told : (m : Token) (kind : RuleFaultKind) → IsMark m kind → (other : ℕ) × (all_rules (one_wider limits) last tokens ≡ Err (fault other kind)) × ((other ≡ line) ⊎ (other ≡ line))
    told m kind is_mark =
        let c : Marking = one_marking limits m kind is_mark in
        told_marked c line (all_rules limits last tokens) (all_rules (one_wider limits) last tokens) (file_same c some last tokens tokens ended (unmarked c start tokens along all names)) err

-- ---- the first token with which a limit is passed

pub kept_at : (limits : Limits) (s : State) (before : List Token) (token : Token) (more : List Token) → KeptAlong limits s (before ++ token ∷ more) → Kept limits (run s before) token
kept_at limits s [] token more kept = kept.0
kept_at limits s (t ∷ before) token more kept = kept_at limits (step s t) before token more kept.1

-- the first token with which a limit is passed is at this place
pub record FirstPassed (limits : Limits) (tokens front : List Token) (token : Token) : Type 0 where
  pub behind : List Token
  pub stands : tokens ≡ front ++ token ∷ behind
  pub within : AllStayWithin limits front
  pub passed : ¬ StaysWithin limits front token

-- there is one such place at most
no_two : (limits : Limits) (tokens f g : List Token) (t u : Token) → FirstPassed limits tokens f t → FirstPassed limits tokens g u → (f ≡ g) × (t ≡ u)
no_two limits tokens f g t u p q = one_place (StaysWithin limits) tokens f g t u p.behind q.behind p.stands q.stands p.within p.passed q.within q.passed

pub of_front : (front back : List Token) → AreOfText (front ++ back) → AreOfText front
of_front [] back all = tt
of_front (t ∷ front) back all = (all.0, of_front front back all.1)

module _ (limits : Limits) (tokens : List Token) (of : AreOfText tokens) where
  -- the tokens with the limit of nodes
  abbrev kept : List Token
  kept = limited tokens

  limited_so : (front : List Token) (token : Token) → AreOfText front → IsOfText token → AreLimited (front ++ token ∷ Excess ∷ [])
  limited_so [] token all is = (is, inl (refl, refl))
  limited_so (t ∷ []) token all is = (all.0, inr (limited_so [] token tt is))
  limited_so (t ∷ u ∷ front) token all is = (all.0, inr (limited_so (u ∷ front) token all.1 is))

  limited_whole : (ts : List Token) → AreOfText ts → AreLimited ts
  limited_whole [] all = tt
  limited_whole (t ∷ []) all = all.0
  limited_whole (t ∷ u ∷ ts) all = (all.0, inr (limited_whole (u ∷ ts) all.1))

  cut_of : (c : IsCut tokens kept) → AreOfText c.front × IsOfText c.token
  cut_of c =
      let whole : AreOfText (c.front ++ c.token ∷ c.rest) = subst AreOfText c.whole of in
      (of_front c.front (c.token ∷ c.rest) whole, (of_back c.front (c.token ∷ c.rest) whole).0)

  kept_limited : AreLimited kept
  kept_limited = elim (kept_up_to_the_limit tokens) [
    | inl (within, same) ↦ subst AreLimited (sym same) (limited_whole tokens of)
    | inr c ↦ subst AreLimited (sym c.cut) (let o = cut_of c in limited_so c.front c.token o.0 o.1)
  ]

  -- tokens before `Excess` stay within the limit of nodes
  nodes_within : (all front : List Token) (token : Token) (rest before : List Token) (earlier : Token) (more : List Token) → all ≡ front ++ token ∷ rest → IsWithinLimit all → front ≡ before ++ earlier ∷ more → counted_at_end (before ++ earlier ∷ []) ≤ most_nodes
  nodes_within all front token rest before earlier more stands within is =
      within (before ++ earlier ∷ []) (more ++ token ∷ rest)
      (stands ∙ ap (λ (ts : List Token). ts ++ token ∷ rest) is ∙ append_assoc before (earlier ∷ more) (token ∷ rest) ∙ sym (append_assoc before (earlier ∷ []) (more ++ token ∷ rest)))

  within_placed : (p : Placed limits start kept) (all rest : List Token) → all ≡ p.front ++ p.token ∷ rest → IsWithinLimit all → (before : List Token) (earlier : Token) (more : List Token) → p.front ≡ before ++ earlier ∷ more → StaysWithin limits before earlier
  within_placed p all rest stands within before earlier more is = record {
    room = kept_within limits before earlier (kept_at limits start before earlier more (subst (KeptAlong limits start) is p.kept));
    nodes = nodes_within all p.front p.token rest before earlier more stands within is;
  }

  passed_breaks : (front : List Token) (token : Token) → Passed limits (run start front) token → ¬ StaysWithin limits front token
  passed_breaks front token passed stays = by (within_kept limits front token stays.room) passed
    where
      by : Kept limits (run start front) token → Passed limits (run start front) token → ⊥
      by k (bytes more) = let b = k.bytes in omega (arith, b, more)
      by k (levels more) = let l = k.levels in omega (arith, l, more)
      by k (half more) = let h = k.half in omega (arith, h, more)

  -- with a line's number no limit is passed
  no_line_passes : (p : Placed limits start kept) → Passed limits (run start p.front) p.token → (n : ℕ) → p.token ≡ Line n → ⊥
  no_line_passes p passed n is = by (subst (Passed limits (run start p.front)) is passed)
    where
      room : (run start p.front).statements ≤ limits.statements
      room = (kept_run limits start p.front (omega arith) (omega arith) p.kept).1

      by : Passed limits (run start p.front) (Line n) → ⊥
      by (bytes more) = omega (arith, more)
      by (levels more) = omega (arith, more)
      by (half more) = omega (arith, more, room)

  record PlacedSo (p : Placed limits start kept) : Type 0 where
    first : FirstPassed limits tokens p.front p.token
    no_line : (n : ℕ) → p.token ≡ Line n → ⊥

  placed_whole : (p : Placed limits start kept) → IsWithinLimit tokens → kept ≡ tokens → PlacedSo p
  placed_whole p within same = by p.passes
    where
      stands : tokens ≡ p.front ++ p.token ∷ p.rest
      stands = sym same ∙ p.stands

      by : Passed limits (run start p.front) p.token ⊎ (Kept limits (run start p.front) p.token × (p.rest ≡ Excess ∷ [])) → PlacedSo p
      by (inl passed) = record { first = record { behind = p.rest; stands = stands; within = within_placed p tokens p.rest stands within; passed = passed_breaks p.front p.token passed }; no_line = no_line_passes p passed }
      by (inr (k, full)) =
          let back : AreOfText (p.token ∷ p.rest) = of_back p.front (p.token ∷ p.rest) (subst AreOfText stands of) in
          let more : AreOfText (Excess ∷ []) = subst AreOfText full back.1 in
          absurd more.0

  placed_cut : (p : Placed limits start kept) → IsCut tokens kept → PlacedSo p
  placed_cut p c = by (split p.front (p.token ∷ p.rest) c.front (c.token ∷ Excess ∷ []) (sym p.stands ∙ c.cut))
    where
      last : p.front ≡ c.front → p.token ≡ c.token → PlacedSo p
      last f t =
          let stands : tokens ≡ p.front ++ p.token ∷ c.rest = c.whole ∙ ap (λ (ts : List Token). ts ++ c.token ∷ c.rest) (sym f) ∙ ap (λ (u : Token). p.front ++ u ∷ c.rest) (sym t) in
          let passed : counted_at_end (p.front ++ p.token ∷ []) ≡ most_nodes + 1 = ap (λ (ts : List Token). counted_at_end (ts ++ p.token ∷ [])) f ∙ ap (λ (u : Token). counted_at_end (c.front ++ u ∷ [])) t ∙ c.passed in
          record {
            first = record {
              behind = c.rest;
              stands = stands;
              within = λ before earlier more is. record {
                room = kept_within limits before earlier (kept_at limits start before earlier more (subst (KeptAlong limits start) is p.kept));
                nodes = c.within (before ++ earlier ∷ []) more (sym f ∙ is ∙ sym (append_assoc before (earlier ∷ []) more));
              };
              passed = λ stays. let few = stays.nodes in omega (arith, few, passed);
            };
            no_line = λ n is. passed_by_no_line tokens kept c n (sym t ∙ is);
          }

      -- a limit is passed before `Excess`
      earlier_one : (g : List Token) → c.front ≡ p.front ++ p.token ∷ g → p.rest ≡ g ++ c.token ∷ Excess ∷ [] → PlacedSo p
      earlier_one g f r = how p.passes
        where
          stands : tokens ≡ p.front ++ p.token ∷ (g ++ c.token ∷ c.rest)
          stands = c.whole ∙ ap (λ (ts : List Token). ts ++ c.token ∷ c.rest) f ∙ append_assoc p.front (p.token ∷ g) (c.token ∷ c.rest)

          too_short : (h : List Token) → Excess ∷ [] ≡ h ++ c.token ∷ Excess ∷ [] → ⊥
          too_short [] e = absurd cc
          too_short (u ∷ []) e = absurd cc
          too_short (u ∷ v ∷ h) e = absurd cc

          how : Passed limits (run start p.front) p.token ⊎ (Kept limits (run start p.front) p.token × (p.rest ≡ Excess ∷ [])) → PlacedSo p
          how (inr (k, full)) = absurd (too_short g (sym full ∙ r))
          how (inl passed) = record { first = record { behind = g ++ c.token ∷ c.rest; stands = stands; within = within_placed p c.front g f c.within; passed = passed_breaks p.front p.token passed }; no_line = no_line_passes p passed }

      shorter : (g : List Token) → c.front ≡ p.front ++ g → p.token ∷ p.rest ≡ g ++ c.token ∷ Excess ∷ [] → PlacedSo p
      shorter [] a b = last (sym (a ∙ append-nil p.front)) cc
      shorter (u ∷ g) a b = let first : u ≡ p.token = cc in let rest : p.rest ≡ g ++ c.token ∷ Excess ∷ [] = cc in earlier_one g (a ∙ ap (λ (w : Token). p.front ++ w ∷ g) first) rest

      longer : (g : List Token) → Excess ∷ [] ≡ g ++ p.token ∷ p.rest → PlacedSo p
      longer [] e = let is : p.token ≡ Excess = cc in absurd (subst IsOfText is p.of_text.1)
      longer (u ∷ []) e = absurd cc
      longer (u ∷ v ∷ g) e = absurd cc

      by : ((g : List Token) × (c.front ≡ p.front ++ g) × (p.token ∷ p.rest ≡ g ++ c.token ∷ Excess ∷ [])) ⊎ ((u : Token) × (g : List Token) × (p.front ≡ c.front ++ u ∷ g) × (c.token ∷ Excess ∷ [] ≡ u ∷ g ++ p.token ∷ p.rest)) → PlacedSo p
      by (inl (g, a, b)) = shorter g a b
      by (inr (u, g, a, b)) = let rest : Excess ∷ [] ≡ g ++ p.token ∷ p.rest = cc in longer g rest

  placed_so : (p : Placed limits start kept) → PlacedSo p
  placed_so p = elim (kept_up_to_the_limit tokens) [
    | inl (within, same) ↦ placed_whole p within same
    | inr c ↦ placed_cut p c
  ]

  -- where no limit is passed, all tokens are kept
  kept_so : KeptAlong limits start kept → AreOfText kept → AllStayWithin limits tokens
  kept_so along all front token behind stands = elim (kept_up_to_the_limit tokens) [
    | inl (within, same) ↦ record {
      room = kept_within limits front token (kept_at limits start front token behind (subst (KeptAlong limits start) (same ∙ stands) along));
      nodes = within (front ++ token ∷ []) behind (stands ∙ sym (append_assoc front (token ∷ []) behind));
    }
    | inr c ↦ let back : AreOfText (c.token ∷ Excess ∷ []) = of_back c.front (c.token ∷ Excess ∷ []) (subst AreOfText c.cut all) in absurd back.1.0
  ]

  -- a limit is passed at some first token, or at none
  pub first_passed : AllStayWithin limits tokens ⊎ ((front : List Token) × (token : Token) × FirstPassed limits tokens front token)
  first_passed = elim (place limits start kept kept_limited) [
    | inl (along, all) ↦ inl (kept_so along all)
    | inr p ↦ inr (p.front, p.token, (placed_so p).first)
  ]

-- ---- the law

-- With the token a limit is passed, and with none before it. Within some limits the token fits, and the tokens before
-- it end on this line.
pub record IsPassedOn (limits : Limits) (tokens : List Token) (line : ℕ) : Type 0 where
  pub front : List Token
  pub token : Token
  pub behind : List Token
  pub stands : tokens ≡ front ++ token ∷ behind
  pub within : AllStayWithin limits front
  pub passed : ¬ StaysWithin limits front token
  pub fits : (wide : Limits) × FitsBehindWithin wide front token
  pub ends_on : line ≡ line_of front

module _ (one : OneTokenAtAPlace) (limits : Limits) (some : 1 ≤ limits.nested) (text : List ℕ) (tokens : List Token) (last : ℕ) (are : AreTokens text tokens last) where
  of : AreOfText tokens
  of = of_text text are

  abbrev ts : List Token
  ts = limited tokens

  names : NamesEndLines ts
  names = limited_names most_nodes false tokens (names_in text are (λ wrong. absurd wrong))

  ended : EndsLine ts
  ended = limited_begins most_nodes false tokens (text_begins text tokens last are)

  -- limits that are wide enough for these tokens and for the others
  abbrev sb : Limits → ℕ
  sb e = limits.name_bytes + bytes_in ts + e.name_bytes

  abbrev sn : Limits → ℕ
  sn e = limits.nested + length ts + e.nested + 4

  abbrev ss : Limits → ℕ
  ss e = limits.statements + e.statements

  abbrev wider : Limits → Limits
  wider e = wide (sb e) (sn e) (ss e)

  abbrev marking : Limits → (m : Token) (kind : RuleFaultKind) → IsMark m kind → (ℕ → ℕ) → Marking
  marking e m kind is_mark anew = record { limits = limits; wider = wider e; mark = m; kind = kind; is_mark = is_mark; name_bytes = omega arith; nested = omega arith; statements = omega arith; anew = anew }

  -- what is read with the sentinel, and where that is refused
  module _ (e : Limits) (m : Token) (kind : RuleFaultKind) (is_mark : IsMark m kind) (anew : ℕ → ℕ) (p : Placed limits start ts) where
    abbrev marked_tokens : List Token
    marked_tokens = marks (marking e m kind is_mark anew) start ts p

    are_marked : Marked (marking e m kind is_mark anew) start ts marked_tokens
    are_marked = marked_at (marking e m kind is_mark anew) start ts names (omega arith) (omega arith) (omega arith) p

    answers : Agrees (marking e m kind is_mark anew) {X = List RawRule} (λ x y. x ≡ y) (all_rules limits last ts) (all_rules (wider e) last marked_tokens)
    answers = file_same (marking e m kind is_mark anew) some last ts marked_tokens ended are_marked

    refused_where : (found : RuleFault) → all_rules (wider e) last marked_tokens ≡ Err found → AtToken (sb e) (sn e) (ss e) marked_tokens found ⊎ AtEnd (sb e) (sn e) (ss e) marked_tokens last found
    refused_where found is =
        where_refused (sb e) (sn e) (ss e) last marked_tokens found (ends_marked (marking e m kind is_mark anew) start ts marked_tokens are_marked ended) (names_marked (marking e m kind is_mark anew) start ts marked_tokens are_marked names) is

  -- the tokens before the sentinel
  abbrev pre : (ℕ → ℕ) → Placed limits start ts → List Token
  pre anew p = p.front ++ p.token ∷ gap (anew (run start p.front).line) p.token

  marked_is : (e : Limits) (m : Token) (kind : RuleFaultKind) (is_mark : IsMark m kind) (anew : ℕ → ℕ) (p : Placed limits start ts) → marked_tokens e m kind is_mark anew p ≡ pre anew p ++ m ∷ behind_mark p.passes p.rest
  marked_is e m kind is_mark anew p = sym (append_assoc p.front (p.token ∷ gap (anew (run start p.front).line) p.token) (m ∷ behind_mark p.passes p.rest))

  gap_of_text : (n : ℕ) (token : Token) → AreOfText (gap n token)
  gap_of_text n (Name text_) = (tt, tt)
  gap_of_text n token = tt

  pre_of_text : (anew : ℕ → ℕ) (p : Placed limits start ts) → AreOfText (pre anew p)
  pre_of_text anew p = of_both p.front (p.token ∷ gap (anew (run start p.front).line) p.token) p.of_text.0 (p.of_text.1, gap_of_text (anew (run start p.front).line) p.token)

  gap_short : (n : ℕ) (token : Token) → length (gap n token) ≤ 1
  gap_short n (Name text_) = omega arith
  gap_short n token = omega arith

  behind_short : {A B : Type 0} (how : A ⊎ B) (rest : List Token) → length (behind_mark how rest) ≤ length rest
  behind_short (inl passed) rest = omega arith
  behind_short (inr full) rest = omega arith

  few_marked : (e : Limits) (m : Token) (kind : RuleFaultKind) (is_mark : IsMark m kind) (anew : ℕ → ℕ) (p : Placed limits start ts) → length (marked_tokens e m kind is_mark anew p) < sn e
  few_marked e m kind is_mark anew p =
      let g : List Token = gap (anew (run start p.front).line) p.token in
      let b : List Token = behind_mark p.passes p.rest in
      omega (arith, length-append p.front (p.token ∷ (g ++ m ∷ b)), length-append g (m ∷ b), gap_short (anew (run start p.front).line) p.token, behind_short p.passes p.rest, ap length p.stands, length-append p.front (p.token ∷ p.rest))

  -- ---- `TooMany` is told where a limit is passed

  line_step : (s : State) (token : Token) → ((n : ℕ) → token ≡ Line n → ⊥) → (run s (token ∷ gap s.line token)).line ≡ s.line
  line_step s (Line n) never = absurd (never n refl)
  line_step s (Name text_) never = refl
  line_step s token never = refl

  line_pre : (p : Placed limits start ts) → ((n : ℕ) → p.token ≡ Line n → ⊥) → line_of (pre (λ n. n) p) ≡ line_of p.front
  line_pre p never =
      line_is start (pre (λ n. n) p) ∙ ap (λ (s : State). s.line) (run_both start p.front (p.token ∷ gap (run start p.front).line p.token)) ∙ line_step (run start p.front) p.token never ∙ sym (line_is start p.front)

  placed_told : (line : ℕ) → all_rules limits last ts ≡ Err (fault line TooMany) → Placed limits start ts → IsPassedOn limits tokens line
  placed_told line err p =
      let b = told_marked (marking limits Bad BadByte bad (λ n. n)) line _ _ (answers limits Bad BadByte bad (λ n. n) p) err in
      let e = told_marked (marking limits Excess TooMany excess (λ n. n)) line _ _ (answers limits Excess TooMany excess (λ n. n) p) err in
      both b.0 e.0 (same_line e.0 e.2) (refused_where limits Bad BadByte bad (λ n. n) p (fault b.0 BadByte) b.1) (refused_where limits Excess TooMany excess (λ n. n) p (fault e.0 TooMany) e.1)
    where
      same_line : (other : ℕ) → (other ≡ line) ⊎ (other ≡ line) → other ≡ line
      same_line other (inl is) = is
      same_line other (inr is) = is

      so : PlacedSo limits tokens of p
      so = placed_so limits tokens of p

      both : (x y : ℕ) → y ≡ line
          → AtToken (sb limits) (sn limits) (ss limits) (marked_tokens limits Bad BadByte bad (λ n. n) p) (fault x BadByte) ⊎ AtEnd (sb limits) (sn limits) (ss limits) (marked_tokens limits Bad BadByte bad (λ n. n) p) last (fault x BadByte)
          → AtToken (sb limits) (sn limits) (ss limits) (marked_tokens limits Excess TooMany excess (λ n. n) p) (fault y TooMany) ⊎ AtEnd (sb limits) (sn limits) (ss limits) (marked_tokens limits Excess TooMany excess (λ n. n) p) last (fault y TooMany)
          → IsPassedOn limits tokens line
      both x y same (inr end) other = let k = end.kind in absurd cc
      both x y same (inl at_b) (inr end) = let k = end.kind in absurd cc
      both x y same (inl at_b) (inl at_e) =
          let f = fits_marked (sb limits) (sn limits) (ss limits) (pre (λ n. n) p) (behind_mark p.passes p.rest) (behind_mark p.passes p.rest) (marked_tokens limits Bad BadByte bad (λ n. n) p) (marked_tokens limits Excess TooMany excess (λ n. n) p)
          (fault x BadByte) (fault y TooMany) (few_marked limits Excess TooMany excess (λ n. n) p) (few_marked limits Bad BadByte bad (λ n. n) p) (pre_of_text (λ n. n) p)
          (marked_is limits Excess TooMany excess (λ n. n) p) (marked_is limits Bad BadByte bad (λ n. n) p) at_e at_b refl refl in
          let first = so.first in
          record {
            front = p.front;
            token = p.token;
            behind = first.behind;
            stands = first.stands;
            within = first.within;
            passed = first.passed;
            fits = (wider limits, fits_front (wider limits) (p.front ++ p.token ∷ []) (gap (run start p.front).line p.token) (subst (FitsWithin (wider limits)) (sym (append_assoc p.front (p.token ∷ []) (gap (run start p.front).line p.token))) f.0));
            ends_on = sym same ∙ f.1 ∙ line_pre p so.no_line;
          }

  pub told_where : (line : ℕ) → IsFaultWithin limits text (fault line TooMany) → IsPassedOn limits tokens line
  told_where line is =
      let err : all_rules limits last ts ≡ Err (fault line TooMany) = fault_of limits one text tokens last (fault line TooMany) are is in
      elim (place limits start ts (kept_limited limits tokens of)) [
        | inl (along, all) ↦ absurd (none_told limits some last ts ended names all along line err)
        | inr p ↦ placed_told line err p
      ]

  -- ---- and a limit is passed where it is told

  first_of : (line : ℕ) (q : IsPassedOn limits tokens line) → FirstPassed limits tokens q.front q.token
  first_of line q = record { behind = q.behind; stands = q.stands; within = q.within; passed = q.passed }

  -- the tokens before the sentinel are a viable prefix, where the token fits
  pre_fits : (e : Limits) (p : Placed limits start ts) → FitsBehindWithin e p.front p.token → (anew : ℕ → ℕ) × FitsWithin e (pre anew p)
  pre_fits e p fits = let line = fits_lined e p.front p.token fits in ((λ n. line.0), line.1)

  told_there : (e : Limits) (p : Placed limits start ts) → FitsBehindWithin e p.front p.token → (line : ℕ) × (all_rules limits last ts ≡ Err (fault line TooMany))
  told_there e p fits = by (pre_fits e p fits)
    where
      by : (anew : ℕ → ℕ) × FitsWithin e (pre anew p) → (line : ℕ) × (all_rules limits last ts ≡ Err (fault line TooMany))
      by (anew, fits_pre) = answered (all_rules limits last ts) (all_rules (wider e) last (marked_tokens e Excess TooMany excess anew p)) refl refl (answers e Excess TooMany excess anew p)
        where
          all_fit : FitsWithin (wider e) (pre anew p)
          all_fit = fits_wider e (wider e) (record { name_bytes = omega arith; nested = omega arith; statements = omega arith }) (pre anew p) fits_pre

          not_read : FitsWithin (wider e) (marked_tokens e Excess TooMany excess anew p) → ⊥
          not_read f = not_marked (sb e) (sn e) (ss e) (pre anew p) (behind_mark p.passes p.rest) (subst (FitsWithin (wider e)) (marked_is e Excess TooMany excess anew p) f)

          refused : (g : RuleFault) → g.kind ≢ TooMany → AtToken (sb e) (sn e) (ss e) (marked_tokens e Excess TooMany excess anew p) g ⊎ AtEnd (sb e) (sn e) (ss e) (marked_tokens e Excess TooMany excess anew p) last g → ⊥
          refused g other (inr end) = not_read end.fits
          refused g other (inl at) = elim (at_excess (sb e) (sn e) (ss e) (pre anew p) (behind_mark p.passes p.rest) (marked_tokens e Excess TooMany excess anew p) g (marked_is e Excess TooMany excess anew p) at) [
            | inl (f, line, kind) ↦ other kind
            | inr (others, is) ↦ at.misfit (fits_before (wider e) (pre anew p) at.front at.token others is all_fit)
          ]

          answered : (r q : Result (List RawRule) RuleFault) → all_rules limits last ts ≡ r → all_rules (wider e) last (marked_tokens e Excess TooMany excess anew p) ≡ q → Agrees (marking e Excess TooMany excess anew) {X = List RawRule} (λ x y. x ≡ y) r q → (line : ℕ) × (r ≡ Err (fault line TooMany))
          answered r q n w (agreed x y is) = absurd (not_read (y, [], subst (SpellsFile (wider e) y) (sym (append-nil (marked_tokens e Excess TooMany excess anew p))) (all_rules-is (wider e) last (marked_tokens e Excess TooMany excess anew p) y w)))
          answered r q n w (both_failed g other) = absurd (refused g other (refused_where e Excess TooMany excess anew p g w))
          answered r q n w (marked line other here) = (line, refl)

  pub passed_told : (line : ℕ) → IsPassedOn limits tokens line → IsFaultWithin limits text (fault line TooMany)
  passed_told line q = elim (place limits start ts (kept_limited limits tokens of)) [
    | inl (along, all) ↦ absurd (q.passed (kept_so limits tokens of along all q.front q.token q.behind q.stands))
    | inr p ↦ by p (no_two limits tokens p.front q.front p.token q.token (placed_so limits tokens of p).first (first_of line q))
  ]
    where
      on_it : (p : Placed limits start ts) → p.front ≡ q.front → (l : ℕ) → all_rules limits last ts ≡ Err (fault l TooMany) → IsFaultWithin limits text (fault line TooMany)
      on_it p f l err =
          let told : IsFaultWithin limits text (fault l TooMany) = record { tokens = tokens; last = last; are_tokens = are; found = err } in
          let there : IsPassedOn limits tokens l = told_where l told in
          let one_ = no_two limits tokens there.front q.front there.token q.token (first_of l there) (first_of line q) in
          let same_line : l ≡ line = there.ends_on ∙ ap line_of one_.0 ∙ sym q.ends_on in
          subst (λ (n : ℕ). IsFaultWithin limits text (fault n TooMany)) same_line told

      by : (p : Placed limits start ts) → (p.front ≡ q.front) × (p.token ≡ q.token) → IsFaultWithin limits text (fault line TooMany)
      by p (f, t) =
          let fits : FitsBehindWithin q.fits.0 p.front p.token = subst (λ (x : List Token). FitsBehindWithin q.fits.0 x p.token) (sym f) (subst (λ (u : Token). FitsBehindWithin q.fits.0 q.front u) (sym t) q.fits.1) in
          let told = told_there q.fits.0 p fits in
          on_it p f told.0 told.1
