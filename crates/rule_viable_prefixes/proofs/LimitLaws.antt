-- The parser within narrower and wider limits.
use Rattle.rule_viable_prefixes.proofs.Common.{◌≡◌, ℕ, List, ◌++◌, Result, Ok, Err, sym, ◌∙◌, ◌⊎◌, inl, inr, TooMany, Limits, AreWithin, fault, RuleFault, Token, RawRule, SpellsFile, all_rules, all_rules-is, all_rules-of, WiderLimitsChangeTooManyAlone}
use Rattle.rule_viable_prefixes.proofs.FitsWithin.{FitsWithin}
use Rattle.rule_viable_prefixes.proofs.Wider.{Below, same_answer, too_many}
use Rattle.rule_viable_prefixes.proofs.WiderRules.{all_rules_below}

pub wider_change : WiderLimitsChangeTooManyAlone
wider_change limits wider within last tokens = by (all_rules_below limits wider within last tokens)
  where
    by : Below (all_rules limits last tokens) (all_rules wider last tokens) → (all_rules limits last tokens ≡ all_rules wider last tokens) ⊎ ((line : ℕ) × (all_rules limits last tokens ≡ Err (fault line TooMany)))
    by (same_answer same) = inl same
    by (too_many line is) = inr (line, is)

pub fault_is : (d e : RuleFault) → ◌≡◌ {A = Result (List RawRule) RuleFault} (Err d) (Err e) → d ≡ e
fault_is d e is = let equal = is in cc

-- what is spelled within some limits is so within wider ones
pub spelled_wider : (limits wider : Limits) → AreWithin wider limits → (rules : List RawRule) (tokens : List Token) → SpellsFile limits rules tokens → SpellsFile wider rules tokens
spelled_wider limits wider within rules tokens is = by (all_rules_below limits wider within 0 tokens)
  where
    read : all_rules limits 0 tokens ≡ Ok rules
    read = all_rules-of limits 0 rules tokens is

    by : Below (all_rules limits 0 tokens) (all_rules wider 0 tokens) → SpellsFile wider rules tokens
    by (same_answer same) = all_rules-is wider 0 tokens rules (sym same ∙ read)
    by (too_many line told) = let both = sym read ∙ told in absurd cc

pub fits_wider : (limits wider : Limits) → AreWithin wider limits → (front : List Token) → FitsWithin limits front → FitsWithin wider front
fits_wider limits wider within front (rules, more, is) = (rules, more, spelled_wider limits wider within rules (front ++ more) is)
