-- What the limits of names, nesting and statements change.
use Rattle.std.specs.Prelude.{◌≡◌, ◌⊎◌, ℕ, List, Err}
use Rattle.rule_tokens.specs.declared.fault.RuleFaultKind.TheVariants.{TooMany}
use Rattle.rule_tokens.specs.Limits.{Limits, AreWithin}
use Rattle.rule_tokens.specs.PartReaders.{fault}
use Rattle.rule_tokens.specs.RuleFaults.{RuleFault}
use Rattle.rule_tokens.specs.Tokens.{Token, AreTokens}
use Rattle.rule_parse.specs.declared.raw.RawRule.{RawRule}
use Rattle.rule_parse.specs.RuleReaders.{all_rules}
use Rattle.rule_parse.specs.Text.{IsFaultWithin}
use Rattle.rule_viable_prefixes.specs.Fits.{SpellsWithoutLimits}

-- Wider limits change nothing but `TooMany`: of the same tokens the parser gives the same rules or the same fault,
-- unless the narrower limits give `TooMany`.
abbrev pub WiderLimitsChangeTooManyAlone : Type 0
WiderLimitsChangeTooManyAlone = (limits wider : Limits) → AreWithin wider limits → (last : ℕ) (tokens : List Token)
    → (all_rules limits last tokens ≡ all_rules wider last tokens) ⊎ ((line : ℕ) × (all_rules limits last tokens ≡ Err (fault line TooMany)))

-- A text that spells rules within some limits has no fault but `TooMany`, whatever the limits are.
abbrev pub TextsAreRefusedByLimitsAsTooMany : Type 0
TextsAreRefusedByLimitsAsTooMany = (limits : Limits) (text : List ℕ) (tokens : List Token) (last : ℕ) (rules : List RawRule) (found : RuleFault)
    → AreTokens text tokens last → SpellsWithoutLimits rules tokens → IsFaultWithin limits text found → found.kind ≡ TooMany
