-- some steps are made, and there are enough free numbers for the others
use Rattle.strategy.proofs.Common.{◌-◌, HasRoomFor, function_of, IsFrontier}
use Rattle.strategy.proofs.Stepping.{Along}
use Rattle.strategy.proofs.frontier.rewrite_tidied.Given as goal

abbrev pub invariant-loop-count : goal.invariant-loop-count
invariant-loop-count l = record {
  along : Along l.options.fold l.rules.across l.rules.all.now l.options.conflicts l.options.steps l.count l.fn.f (function_of l.frontier.draft) l.fn.verdicts l.verdicts;
  frontier : IsFrontier l.rules.across l.rules.all.now l.verdicts.table l.frontier;
  room : HasRoomFor (l.options.steps - l.count) l.frontier.draft;
}
