-- Why a text is no rule file.
use Rattle.refusal.specs.declared.fault.Fault.{Fault}
use Rattle.refusal.specs.declared.refusal.Refusal.{Refusal}
use Rattle.rule_tokens.specs.declared.fault.RuleFaultKind.{RuleFaultKind}

-- the first fault of a text
abbrev pub RuleFault : Type 0
RuleFault = Fault RuleFaultKind

-- the fault, or want of memory
abbrev pub RuleError : Type 0
RuleError = Refusal RuleFault
