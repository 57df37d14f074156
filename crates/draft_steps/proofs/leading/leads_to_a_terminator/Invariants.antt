use Rattle.draft_steps.proofs.Common.{IsKnown, IsNeeded}
use Rattle.ir_core.specs.declared.operand.Operand.TheVariants as operands
use Rattle.draft_steps.proofs.leading.leads_to_a_terminator.Given as goal

-- if this register is live, the first one is
abbrev pub invariant-loop-reader : goal.invariant-loop-reader
invariant-loop-reader l =
    record {
      known : IsKnown l.draft.arena (operands.Register l.here);
      leads : IsNeeded l.draft.arena l.here → IsNeeded l.draft.arena l.fn.register;
    }
