-- What is asked of statements and a typing so that widths are told: some operand reads each input and constant, and the
-- classes of operands have widths.
use Rattle.std.specs.Prelude.{◌≡◌, ℕ, ◌<◌, List, length}
use Rattle.std.specs.List.{All}
use Rattle.rule_core.specs.declared.rule.Statement.{Statement}
use Rattle.rule_core.specs.declared.rule.Operand.{Operand}
use Rattle.rule_core.specs.declared.rule.Choice.{Choice}
use Rattle.rule_core.specs.Positions.{IsOperandAmong}
use Rattle.blast_setting.specs.declared.named.Kind.{Kind}
use Rattle.blast_setting.specs.Inputs.{argument_of}

-- some operand of the statements reads the k-th of the kind, and the class of each operand has a width
pub record IsNamed (typing : List ℕ) (statements : List Statement) (kind : Kind) (k : ℕ) : Type 0 where
  pub operand : (o : Operand) × IsOperandAmong statements o × (o.value ≡ argument_of kind k)
  pub classes : (o : Operand) → IsOperandAmong statements o → o.class < length typing

-- some operand reads each of the first `count` of the kind
abbrev pub AreNamed : List ℕ → List Statement → Kind → ℕ → Type 0
AreNamed typing statements kind count = (k : ℕ) → k < count → IsNamed typing statements kind k

-- the classes of these choices have widths
abbrev pub HaveWidths : List ℕ → List Choice → Type 0
HaveWidths typing choices = All (λ c. c.class < length typing) choices
