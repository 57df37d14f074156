-- When the width of one class is below that of another, in numbers; and which statements the casts of a rule are.
use Rattle.rule_typing.proofs.Common.{◌≡◌, ◌↔◌, Bool, true, false, not, IsTrue, inl, inr, ℕ, ◌<◌, List, ◌++◌, length, Option, None, Some, refl, subst, arith, slice_index, Contains, IfSome, IfNone, is_some, map_dec, dec_lt, cases_lt, Contains-append_left, Contains-append_right, slice_get-get_or, slice_get_within, get_or_from_slice_get, some_pair_parts, Rule, Statement, Smaller, smaller_line, IsBelow, IsBroken, MeetsCastLine, MeetsSmaller}
use Rattle.rule_typing.proofs.Among.{each_half}
use Rattle.rule_typing.proofs.Deciding.{dec_each}
use Rattle.rule_typing.proofs.FixedLines.{at_cast, each_cast}

pub below_from : (widths : List ℕ) (c d : ℕ) → slice_index widths c < slice_index widths d → IsBelow widths c d
below_from widths c d less N M at at' =
    let low : slice_index widths c ≡ N = get_or_from_slice_get widths c N 0 at in
    let high : slice_index widths d ≡ M = get_or_from_slice_get widths d M 0 at' in
    omega arith

pub of_below : (widths : List ℕ) (c d : ℕ) → c < length widths → d < length widths → IsBelow widths c d → slice_index widths c < slice_index widths d
of_below widths c d within within' below = below (slice_index widths c) (slice_index widths d) (slice_get-get_or widths c 0 within) (slice_get-get_or widths d 0 within')

-- where one width isn't below the other, both are there, and a cast between their classes is broken
pub broken_from : (widths : List ℕ) (c d : ℕ) → ¬ IsBelow widths c d → IsBroken widths c d
broken_from widths c d broken = (
  elim (cases_lt c (length widths)) [ inl within ↦ within | inr past ↦ absurd (broken (λ N M at at'. let h = slice_get_within widths c N at in absurd (omega arith))) ],
  elim (cases_lt d (length widths)) [ inl within ↦ within | inr past ↦ absurd (broken (λ N M at at'. let h = slice_get_within widths d M at' in absurd (omega arith))) ],
  elim (cases_lt (slice_index widths c) (slice_index widths d)) [ inl less ↦ absurd (broken (below_from widths c d less)) | inr most ↦ most ],
)

not_met : (rule : Rule) (widths : List ℕ) (c d : ℕ) → Smaller rule c d → IsBroken widths c d → ¬ MeetsSmaller rule widths
not_met rule widths c d line (within, within', most) meets = let h = of_below widths c d within within' (λ N M. meets c d N M line) in omega arith

-- a cast of the rule is one of the source or of the target
pub in_source : (rule : Rule) (line : ℕ × ℕ) → (s : Statement) × Contains rule.source s × (smaller_line s.class s.op ≡ Some line) → Smaller rule line.0 line.1
in_source rule line (s, among, is) = at_cast rule s s.op line.0 line.1 (Contains-append_left rule.source rule.target s among) refl is

pub in_target : (rule : Rule) (line : ℕ × ℕ) → (s : Statement) × Contains rule.target s × (smaller_line s.class s.op ≡ Some line) → Smaller rule line.0 line.1
in_target rule line (s, among, is) = at_cast rule s s.op line.0 line.1 (Contains-append_right rule.source rule.target s among) refl is

pub none_broken : (rule : Rule) (widths : List ℕ) (answer : Option (ℕ × ℕ)) → ((s : Statement) → Contains rule.source s → MeetsCastLine widths s) → IfNone answer ((s : Statement) → Contains rule.target s → MeetsCastLine widths s) → IfNone answer (MeetsSmaller rule widths)
none_broken rule widths (Some line) source target = tt
none_broken rule widths None source target = (each_cast rule widths).0 ((each_half (MeetsCastLine widths) rule).0 (source, target))

-- whether widths meet casts is decided
dec_below : (widths : List ℕ) (c d : ℕ) → Dec (IsBelow widths c d)
dec_below widths c d = elim (dec_lt (slice_index widths c) (slice_index widths d)) [
  | yes less ↦ yes (below_from widths c d less)
  | no most ↦ elim (cases_lt c (length widths)) [
    | inr past ↦ yes (λ N M at at'. let h = slice_get_within widths c N at in absurd (omega arith))
    | inl within ↦ elim (cases_lt d (length widths)) [
      | inr past ↦ yes (λ N M at at'. let h = slice_get_within widths d M at' in absurd (omega arith))
      | inl within' ↦ no (λ below. most (of_below widths c d within within' below))
    ]
  ]
]

dec_line : (widths : List ℕ) (line : Option (ℕ × ℕ)) → Dec ((c d : ℕ) → line ≡ Some (c, d) → IsBelow widths c d)
dec_line widths None = yes (λ c d e. cc)
dec_line widths (Some line) = map_dec
    (λ below c d e. let (first, second) = some_pair_parts line.0 c line.1 d e in subst (IsBelow widths c) second (subst (λ k. IsBelow widths k line.1) first below))
    (λ all. all line.0 line.1 refl)
    (dec_below widths line.0 line.1)

pub dec_lines : (rule : Rule) (widths : List ℕ) → Dec (MeetsSmaller rule widths)
dec_lines rule widths = map_dec (each_cast rule widths).0 (each_cast rule widths).1 (dec_each (MeetsCastLine widths) (rule.source ++ rule.target) (λ s. dec_line widths (smaller_line s.class s.op)))

-- the search for a broken cast finds none exactly where all are met
pub all_met : (rule : Rule) (widths : List ℕ) (line : Option (ℕ × ℕ)) (answer : Bool) → is_some line ≡ not answer → IfSome line (λ l. Smaller rule l.0 l.1 × IsBroken widths l.0 l.1) → IfNone line (MeetsSmaller rule widths) → IsTrue answer ↔ MeetsSmaller rule widths
all_met rule widths None true is some meets = (λ h. meets, λ h. refl)
all_met rule widths None false is some meets = cc
all_met rule widths (Some line) true is (stands, broken) none = cc
all_met rule widths (Some line) false is (stands, broken) none = (λ h. cc, λ meets. absurd (not_met rule widths line.0 line.1 stands broken meets))
