use Rattle.strategy.proofs.Common.{take, OptimisesEntries}
use Rattle.strategy.proofs.module.optimise_entries.Given as goal

abbrev pub invariant-loop-entry : goal.invariant-loop-entry
invariant-loop-entry l = OptimisesEntries l.options.fold l.rules.across l.rules.all.now l.options.conflicts l.options.steps (take l.entry-index l.entries) l.made l.fn.verdicts l.verdicts l.fn.all l.all
