-- Which texts are rule files, with which rules, and what the first fault of any other text is.
use Rattle.std.specs.Prelude.{◌≡◌, ℕ, ◌<◌, ◌≤◌, List, length, take, Option, None, Some, slice_get}
use Rattle.rule_parse.specs.declared.raw.RawRule.{RawRule}
use Rattle.rule_tokens.specs.RuleFaults.{RuleFault}
use Rattle.rule_parse.specs.Text.{IsWritten, IsTextFault}
use Rattle.rule_core.specs.declared.rule.Rule.{Rule}
use Rattle.rule_typing.specs.declared.classes.ClassFault.{ClassFault}
use Rattle.rule_typing.specs.declared.classes.ClassFault.TheVariants as class_faults
use Rattle.rule_typing.specs.Classes.{IsClassified}
use Rattle.rule_typing.specs.Faults.{HasTooManyClasses, HasNoTyping, HasOpenClass}
use Rattle.rule_tokens.specs.declared.fault.RuleFaultKind.{RuleFaultKind}
use Rattle.rule_tokens.specs.declared.fault.RuleFaultKind.TheVariants as kinds
use Rattle.rule_reader.specs.Limits.{most_bytes}
use Rattle.rule_reader.specs.Meaning.{Means}
use Rattle.rule_reader.specs.FaultKinds.{DuplicateAt, UnboundAt, RootMissingAt, RedefinesAt, UnusedTempAt, UndefInsideAt, WitnessCountAt, ClassesAt}

-- the checks of a rule, in their order
pub data Check : Type 0 where
  Duplicate : Check
  Unbound : Check
  RootMissing : Check
  Redefines : Check
  UnusedTemp : Check
  UndefInside : Check
  WitnessCount : Check
  ManyClasses : Check
  NoType : Check
  OpenType : Check

-- how many checks are made before this one
abbrev pub rank : Check → ℕ
rank Duplicate = 0
rank Unbound = 1
rank RootMissing = 2
rank Redefines = 3
rank UnusedTemp = 4
rank UndefInside = 5
rank WitnessCount = 6
rank ManyClasses = 7
rank NoType = 8
rank OpenType = 9

-- the kind of the fault where a check fails
abbrev pub kind_of : Check → RuleFaultKind
kind_of Duplicate = kinds.Duplicate
kind_of Unbound = kinds.Unbound
kind_of RootMissing = kinds.RootMissing
kind_of Redefines = kinds.Redefines
kind_of UnusedTemp = kinds.UnusedTemp
kind_of UndefInside = kinds.UndefInside
kind_of WitnessCount = kinds.WitnessCount
kind_of ManyClasses = kinds.TooMany
kind_of NoType = kinds.NoType
kind_of OpenType = kinds.OpenType

-- the check that a fault of classes fails
abbrev pub class_check : ClassFault → Check
class_check class_faults.TooMany = ManyClasses
class_check class_faults.NoType = NoType
class_check class_faults.OpenType = OpenType

-- the check of a rule, with these rules before it in the file, fails at the line
abbrev pub FailsAt : List RawRule → RawRule → Check → ℕ → Type 0
FailsAt earlier raw Duplicate = DuplicateAt earlier raw
FailsAt earlier raw Unbound = UnboundAt raw
FailsAt earlier raw RootMissing = RootMissingAt raw
FailsAt earlier raw Redefines = RedefinesAt raw
FailsAt earlier raw UnusedTemp = UnusedTempAt raw.source
FailsAt earlier raw UndefInside = UndefInsideAt raw
FailsAt earlier raw WitnessCount = WitnessCountAt raw
FailsAt earlier raw ManyClasses = ClassesAt raw HasTooManyClasses
FailsAt earlier raw NoType = ClassesAt raw HasNoTyping
FailsAt earlier raw OpenType = ClassesAt raw HasOpenClass

-- no check fails
abbrev pub Passes : List RawRule → RawRule → Type 0
Passes earlier raw = (check : Check) (line : ℕ) → ¬ FailsAt earlier raw check line

-- no check before this one fails
abbrev pub PassesBefore : List RawRule → RawRule → Check → Type 0
PassesBefore earlier raw check = (other : Check) (line : ℕ) → rank other < rank check → ¬ FailsAt earlier raw other line

-- the least line at which something holds
abbrev pub IsFirstLine : (ℕ → Type 0) → ℕ → Type 0
IsFirstLine Holds line = Holds line × ((other : ℕ) → Holds other → line ≤ other)

-- the first line at which something holds, if there is one
abbrev pub IsFirst : (ℕ → Type 0) → Option ℕ → Type 0
IsFirst Holds None = (line : ℕ) → ¬ Holds line
IsFirst Holds (Some line) = IsFirstLine Holds line

-- the first fault of a rule: that of the first check that fails, at the first line
pub record IsFirstRuleFault (earlier : List RawRule) (raw : RawRule) (fault : RuleFault) : Type 0 where
  pub check : Check
  pub kind : fault.kind ≡ kind_of check
  pub line : IsFirstLine (FailsAt earlier raw check) fault.line
  pub first : (other : Check) (line : ℕ) → rank other < rank check → ¬ FailsAt earlier raw other line

-- a rule as written, with these before it in the file, passes all checks and means the rule, in which the numbers of
-- classes are written
pub record IsRuleOf (earlier : List RawRule) (raw : RawRule) (rule : Rule) : Type 0 where
  pub passes : Passes earlier raw
  pub means : Means raw rule
  pub classes : IsClassified rule

-- each rule as written is the rule at its place
pub record AreRulesOf (raws : List RawRule) (rules : List Rule) : Type 0 where
  pub count : length rules ≡ length raws
  pub each : (k : ℕ) (raw : RawRule) (rule : Rule) → slice_get raws k ≡ Some raw → slice_get rules k ≡ Some rule → IsRuleOf (take k raws) raw rule

-- The text is a rule file of these rules, whatever its length.
pub record IsRuleFile (text : List ℕ) (rules : List Rule) : Type 0 where
  pub raws : List RawRule
  pub written : IsWritten text raws
  pub read : AreRulesOf raws rules

-- The first fault of a text: that it is too long; else the first token that does not fit; else the first fault of the
-- first rule that has one.
pub data IsFault (text : List ℕ) : RuleFault → Type 0 where
  too_long : most_bytes < length text → IsFault text (record { line = 1; kind = kinds.TooLong })
  of_text : {fault : RuleFault} → length text ≤ most_bytes → IsTextFault text fault → IsFault text fault
  of_rule : {fault : RuleFault} (raws : List RawRule) (k : ℕ) (raw : RawRule)
      → length text ≤ most_bytes → IsWritten text raws → slice_get raws k ≡ Some raw
      → ((j : ℕ) (earlier : RawRule) → j < k → slice_get raws j ≡ Some earlier → Passes (take j raws) earlier)
      → IsFirstRuleFault (take k raws) raw fault → IsFault text fault
