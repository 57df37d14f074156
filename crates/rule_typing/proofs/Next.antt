-- The next typing in lexicographic order, by the first place at which it differs.
use Rattle.rule_typing.proofs.Common.{◌≡◌, ◌⊎◌, inl, inr, ℕ, ◌<◌, List, length, take, Some, sym, subst, ◌∙◌, arith, length-take, get_or-take, slice_get, slice_index, cases_eq, cases_lt, Rule, Widths, ComesBefore, Has, Solves, SolvesBehind, AreLeast}
use Rattle.rule_typing.proofs.Order.{DifferAt, before_from, differ_from, same_or_before}

module _ (rule : Rule) (sets : List Widths) (typing : List ℕ) (solves : Solves rule sets typing) where
  -- the solutions that equal the typing before place p and are larger at p
  abbrev pub Behind : ℕ → List ℕ → Type 0
  Behind p other = SolvesBehind rule sets (take p typing) (slice_index typing p) other

  same_count : (other : List ℕ) → Solves rule sets other → length typing ≡ length other
  same_count other solves' = solves.chosen.count ∙ sym solves'.chosen.count

  behind_from : (other : List ℕ) (p : ℕ) → Solves rule sets other → DifferAt p typing other → Behind p other
  behind_from other p solves' (within, alike, less) =
      let count : length (take p typing) ≡ p = omega (arith, length-take p typing) in
      record {
        solves = solves';
        goes_on = λ c place. (
          λ below. let first : c < p = omega arith in sym (get_or-take p typing c 0 first ∙ alike c first),
          λ here. let same : c ≡ p = omega arith in rw same less,
        );
      }

  differ_behind : (other : List ℕ) (p : ℕ) → p < length typing → Behind p other → DifferAt p typing other
  differ_behind other p within behind =
      let count : length (take p typing) ≡ p = omega (arith, length-take p typing) in
      let counts : length typing ≡ length other = same_count other behind.solves in (
        within,
        λ c less. sym ((behind.goes_on c (omega arith)).0 (omega arith) ∙ get_or-take p typing c 0 less),
        (behind.goes_on p (omega arith)).1 (sym count),
      )

  pub beginning_has : (p c : ℕ) (set : Widths) → c < length (take p typing) → slice_get sets c ≡ Some set → Has set (slice_index (take p typing) c)
  beginning_has p c set less at = let first : c < p = omega (arith, length-take p typing) in rw (get_or-take p typing c 0 first) (solves.chosen.each c set at)

  -- the least of these is the next one, where for no later place there are any
  pub next_at : (p : ℕ) (next : List ℕ) → p < length typing → AreLeast (Behind p) next → ((q : ℕ) (other : List ℕ) → p < q → q < length typing → ¬ Behind q other)
      → (Solves rule sets next × ComesBefore typing next) × ((other : List ℕ) → Solves rule sets other × ComesBefore typing other → (next ≡ other) ⊎ ComesBefore next other)
  next_at p next within found none_later =
      let found_solves : Solves rule sets next = found.holds.solves in
      let differ : DifferAt p typing next = differ_behind next p within found.holds in (
        (found_solves, before_from typing next p (same_count next found_solves) differ),
        λ other (solves', before).
            let counts : length next ≡ length other = sym (same_count next found_solves) ∙ same_count other solves' in
            let (q, differ') = differ_from typing other (same_count other solves') before in
            elim (cases_eq q p) [
              | inl same ↦ same_or_before next other counts (found.least other (behind_from other p solves' (subst (λ k. DifferAt k typing other) same differ')))
              | inr apart ↦ elim (cases_lt q p) [
                | inl earlier ↦ inr (before_from next other q counts (
                  omega (arith, same_count next found_solves),
                  λ c less. sym (differ.1 c (omega arith)) ∙ differ'.1 c less,
                  let here : slice_index typing q ≡ slice_index next q = differ.1 q earlier in let larger = differ'.2 in omega arith,
                ))
                | inr later ↦ absurd (none_later q other (omega arith) differ'.0 (behind_from other q solves' differ'))
              ]
            ],
      )

  pub none_next : ((q : ℕ) (other : List ℕ) → q < length typing → ¬ Behind q other) → (other : List ℕ) → ¬ (Solves rule sets other × ComesBefore typing other)
  none_next none other (solves', before) = let (q, differ) = differ_from typing other (same_count other solves') before in none q other differ.0 (behind_from other q solves' differ)
