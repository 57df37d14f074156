-- Laws of all texts.
use Rattle.std.specs.Prelude.{◌≡◌, ◌↔◌, ◌⊎◌, ℕ, ◌≤◌, List, Some, Ok, slice_get}
use Rattle.rule_tokens.specs.RuleFaults.{RuleFault}
use Rattle.rule_parse.specs.declared.raw.RawRule.{RawRule}
use Rattle.rule_parse.specs.NodeCounts.{IsWithinLimit, IsCut}
use Rattle.rule_parse.specs.Grammar.{SpellsFile}
use Rattle.rule_parse.specs.CutTokens.{limited}
use Rattle.rule_parse.specs.Limits.{most_nodes}
use Rattle.rule_parse.specs.RuleReaders.{all_rules}
use Rattle.rule_parse.specs.Text.{IsWritten, IsTextFault}
use Rattle.rule_parse.specs.Weight.{raw_weight}
use Rattle.rule_tokens.specs.Limits.{Limits}
use Rattle.rule_tokens.specs.Tokens.{Token}

-- the parser gives these rules exactly where the grammar spells them, within any limits
abbrev pub RulesAreReadAsSpelled : Type 0
RulesAreReadAsSpelled = (limits : Limits) (last : ℕ) (tokens : List Token) (raws : List RawRule) → (all_rules limits last tokens ≡ Ok raws) ↔ SpellsFile limits raws tokens

-- a text has one list of rules or one fault, and never both
pub record TextsHaveOneReadingOrFault : Type 0 where
  pub some : (text : List ℕ) → ((raws : List RawRule) × IsWritten text raws) ⊎ ((fault : RuleFault) × IsTextFault text fault)
  pub one_reading : (text : List ℕ) (a b : List RawRule) → IsWritten text a → IsWritten text b → a ≡ b
  pub one_fault : (text : List ℕ) (a b : RuleFault) → IsTextFault text a → IsTextFault text b → a ≡ b
  pub not_both : (text : List ℕ) (raws : List RawRule) (fault : RuleFault) → IsWritten text raws → IsTextFault text fault → ⊥

-- no rule has more operands, literals, names, operators and functions than the limit
abbrev pub WrittenRulesAreSmall : Type 0
WrittenRulesAreSmall = (text : List ℕ) (raws : List RawRule) → IsWritten text raws → (k : ℕ) (raw : RawRule) → slice_get raws k ≡ Some raw → raw_weight raw ≤ most_nodes

-- what the parser is given: all tokens, where no rule passes the limit, or else those up to and with the first token
-- with which one does
abbrev pub TokensAreKeptUpToTheLimit : Type 0
TokensAreKeptUpToTheLimit = (tokens : List Token) → (IsWithinLimit tokens × (limited tokens ≡ tokens)) ⊎ IsCut tokens (limited tokens)
