-- What `settle` keeps when it raises a width to a later one of its set.
use Rattle.rule_typing.proofs.Common.{◌≡◌, ◌≢◌, inl, inr, ℕ, ◌<◌, ◌≤◌, List, length, get_or, slice_set, Some, sym, subst, ◌∙◌, arith, get_or-set_other, get_or-set_same, slice_get, slice_index, cases_eq, length-set, get_or_default, slice_get-get_or, slice_get_within, same_Some, Rule, Smaller, Widths, Has, IsLeast, AreOf, AtMost, SolvesFrom}
use Rattle.rule_typing.proofs.CastLines.{of_below}

-- where a width is replaced by another of its set, each width is still of its set
pub still_of : (sets : List Widths) (widths : List ℕ) (d w : ℕ) (wide : Widths) → AreOf sets widths → slice_get sets d ≡ Some wide → Has wide w → d < length widths → AreOf sets (slice_set widths d w)
still_of sets widths d w wide chosen at has within = record {
  count = length-set widths d w ∙ chosen.count;
  each = λ c other at'. elim (cases_eq c d) [
    | inl same ↦ rw (same, get_or-set_same widths d w 0 within)
        (subst (λ s. Has s w) (same_Some wide other (sym at ∙ subst (λ k. slice_get sets k ≡ Some other) same at')) has)
    | inr other_place ↦ rw (get_or-set_other widths d c w 0 other_place) (chosen.each c other at')
  ];
}

pub kept_below : (widths first : List ℕ) (kept d w : ℕ) → kept ≤ d → ((c : ℕ) → c < kept → slice_index widths c ≡ slice_index first c) → (c : ℕ) → c < kept → slice_index (slice_set widths d w) c ≡ slice_index first c
kept_below widths first kept d w past keeps c less = let apart : c ≢ d = omega arith in get_or-set_other widths d c w 0 apart ∙ keeps c less

pub still_rises : (first widths : List ℕ) (d w : ℕ) → d < length widths → AtMost first widths → slice_index widths d ≤ w → AtMost first (slice_set widths d w)
still_rises first widths d w within rises up c = elim (cases_eq c d) [
  | inl same ↦ let h = rises d in rw (same, get_or-set_same widths d w 0 within) (omega arith)
  | inr other ↦ rw (get_or-set_other widths d c w 0 other) (rises c)
]

pub still_least : (widths others : List ℕ) (d w : ℕ) → d < length widths → AtMost widths others → w ≤ slice_index others d → AtMost (slice_set widths d w) others
still_least widths others d w within least low c = elim (cases_eq c d) [
  | inl same ↦ rw (same, get_or-set_same widths d w 0 within) low
  | inr other ↦ rw (get_or-set_other widths d c w 0 other) (least c)
]

-- in each solution the wider class of a cast has a width of its set that is above the one that the narrower class has
-- so far
pub is_above : (rule : Rule) (sets : List Widths) (kept : ℕ) (first widths others : List ℕ) (c d : ℕ) (wide : Widths) → SolvesFrom rule sets kept first others → AtMost widths others → Smaller rule c d → c < length sets → slice_get sets d ≡ Some wide
    → Has wide (slice_index others d) × (slice_index widths c < slice_index others d)
is_above rule sets kept first widths others c d wide from least line within at =
    let count = from.solves.chosen.count in
    let below : slice_index others c < slice_index others d = of_below others c d (omega arith) (omega (arith, slice_get_within sets d wide at)) (λ N M. from.solves.smaller c d N M line) in
    let h = least c in
    (from.solves.chosen.each d wide at, omega arith)

module _ (rule : Rule) (sets : List Widths) (kept : ℕ) (first widths : List ℕ) (c d : ℕ) (empty : Widths) (line : Smaller rule c d) (low_within : c < length sets) (within : d < length sets)
    (least : (others : List ℕ) → SolvesFrom rule sets kept first others → AtMost widths others) where
  wide_at : slice_get sets d ≡ Some (get_or sets d empty)
  wide_at = slice_get-get_or sets d empty within

  -- there is no solution where a kept width would have to be raised
  pub none_kept : d < kept → ((k : ℕ) → k < kept → slice_index widths k ≡ slice_index first k) → slice_index widths d ≤ slice_index widths c → (others : List ℕ) → ¬ SolvesFrom rule sets kept first others
  none_kept less keeps most others from =
      let above = is_above rule sets kept first widths others c d (get_or sets d empty) from (least others from) line low_within wide_at in
      omega (arith, above.1, keeps d less, from.keeps d less)

  -- there is no solution where the set has no width above
  pub none_above : ((N : ℕ) → ¬ (Has (get_or sets d empty) N × (slice_index widths c < N))) → (others : List ℕ) → ¬ SolvesFrom rule sets kept first others
  none_above none others from = none (slice_index others d) (is_above rule sets kept first widths others c d (get_or sets d empty) from (least others from) line low_within wide_at)

  -- raising to the least width above loses no solution
  pub raised : (w : ℕ) → AreOf sets widths → ((k : ℕ) → k < kept → slice_index widths k ≡ slice_index first k) → AtMost first widths → kept ≤ d → slice_index widths d ≤ slice_index widths c
      → IsLeast (λ N. Has (get_or sets d empty) N × (slice_index widths c < N)) (Some w)
      → record {
        chosen : AreOf sets (slice_set widths d w);
        keeps : (k : ℕ) → k < kept → slice_index (slice_set widths d w) k ≡ slice_index first k;
        rises : AtMost first (slice_set widths d w);
        least : (others : List ℕ) → SolvesFrom rule sets kept first others → AtMost (slice_set widths d w) others;
      }
  raised w chosen keeps rises past up (above, lowest) =
      let place : d < length widths = omega (arith, chosen.count) in record {
        chosen = still_of sets widths d w (get_or sets d empty) chosen wide_at above.0 place;
        keeps = kept_below widths first kept d w past keeps;
        rises = still_rises first widths d w place rises (omega arith);
        least = λ others from. still_least widths others d w place (least others from) (lowest (slice_index others d) (is_above rule sets kept first widths others c d (get_or sets d empty) from (least others from) line low_within wide_at));
      }

pub same_bound : (widths : List ℕ) (c bits w : ℕ) → c < length widths → bits ≡ w → w ≡ get_or widths c w → bits ≡ slice_index widths c
same_bound widths c bits w within counts is = counts ∙ is ∙ get_or_default widths c w 0 within
