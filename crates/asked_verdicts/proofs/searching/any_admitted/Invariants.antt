-- the matches in the blocks so far are asked
use Rattle.asked_verdicts.proofs.Common.{AsksAll}
use Rattle.asked_verdicts.proofs.Parts.{IsInEarlierBlock}
use Rattle.asked_verdicts.proofs.searching.any_admitted.Given as goal

abbrev pub invariant-loop-block : goal.invariant-loop-block
invariant-loop-block l = AsksAll l.rules.across l.rules.all.now l.conflicts l.f (IsInEarlierBlock l.block) l.fn.verdicts l.verdicts l.any
