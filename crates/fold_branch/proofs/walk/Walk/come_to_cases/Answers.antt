use Rattle.fold_branch.proofs.Walking.{come_next, case_within}
use Rattle.fold_branch.proofs.walk.Walk.come_to_cases.Goals as goal

pub come_to-requires : goal.come_to-requires
come_to-requires c = case_within c.args.cases.now c.loop-case.case-index c.case-item.result _ _ c.requires c.loop-case.invariant.count c.loop-case-test.true c.case-item.is

pub loop-case-preserved : goal.loop-case-preserved
loop-case-preserved c = come_next c.args.cases.now c.loop-case.case-index c.case-item.result c.args.self.now c.loop-case.self c.come_to.new.self c.loop-case.invariant c.loop-case-test.true c.case-item.is c.in_ok-come_to.ensures
