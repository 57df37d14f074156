use Rattle.verdict.proofs.Common.{List, subst, sym, Step, IsFound, IsHonestBudget}
use Rattle.verdict.proofs.Chain.{honest_budget}
use Rattle.verdict.proofs.decision.searched.Goals as goal

pub returns-in_ok-pack-in-Limit : goal.returns-in_ok-pack-in-Limit
returns-in_ok-pack-in-Limit c =
    subst (λ (log : List Step). IsHonestBudget c.args.rule.now c.args.typing.now c.args.limit (record { set = c.args.set.now; log = log })) (sym c.in_ok-pack-in-Limit.ensures)
    (honest_budget c.args.rule.now c.args.typing.now c.args.set.now c.requires.stands c.args.limit c.in-Limit.log (subst (IsFound c.args.set.now c.args.limit) c.in-Limit.is c.in_ok-model.ensures))
