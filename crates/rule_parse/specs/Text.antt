-- Rule files as texts: the rules that they spell, or their first fault.
use Rattle.std.specs.Prelude.{◌≡◌, ℕ, List, Err}
use Rattle.rule_tokens.specs.RuleFaults.{RuleFault}
use Rattle.rule_parse.specs.declared.raw.RawRule.{RawRule}
use Rattle.rule_parse.specs.Grammar.{SpellsFile}
use Rattle.rule_parse.specs.CutTokens.{limited}
use Rattle.rule_parse.specs.RuleReaders.{all_rules}
use Rattle.rule_tokens.specs.Limits.{Limits, rule_limits}
use Rattle.rule_tokens.specs.Tokens.{Token, AreTokens}

-- the text spells these rules
pub record IsWritten (text : List ℕ) (raws : List RawRule) : Type 0 where
  pub tokens : List Token
  pub last : ℕ
  pub are_tokens : AreTokens text tokens last
  -- no rule passes the limit of operands, literals, names, operators and functions
  pub few : limited tokens ≡ tokens
  pub spelled : SpellsFile rule_limits raws tokens

-- the first fault of a text within these limits: the line and the kind that the parser gives of its tokens
pub record IsFaultWithin (limits : Limits) (text : List ℕ) (fault : RuleFault) : Type 0 where
  pub tokens : List Token
  pub last : ℕ
  pub are_tokens : AreTokens text tokens last
  pub found : all_rules limits last (limited tokens) ≡ Err fault

-- the first fault within the limits of this reader
abbrev pub IsTextFault : List ℕ → RuleFault → Type 0
IsTextFault text fault = IsFaultWithin rule_limits text fault
