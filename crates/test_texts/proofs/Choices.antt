-- Where the source of a rule has no choices, the empty list of numbers fits them.
use Rattle.test_texts.proofs.Common.{◌≡◌, ℕ, zero, suc, ◌<◌, List, [], length, refl, arith, Rule, choices_among, SourceChoicesFit, HasSourceChoice}

none_of : (n : ℕ) → ¬ (0 < n) → 0 ≡ n
none_of zero none = refl
none_of (suc n) none = absurd (none (omega arith))

pub no_source_choices : (rule : Rule) (typing : List ℕ) → ¬ (HasSourceChoice rule) → SourceChoicesFit rule typing []
no_source_choices rule typing none = record {
  count = none_of (length (choices_among rule.source)) none;
  widths = λ k c N n opens width at. absurd cc;
}
