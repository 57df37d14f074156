use Rattle.fold_branch.proofs.Common.{refl}
use Rattle.fold_branch.proofs.Walking.{come_again, come_anew}
use Rattle.fold_branch.proofs.walk.Walk.come_to.Goals as goal

pub returns-in_ok-push : goal.returns-in_ok-push
returns-in_ok-push c = come_anew c.args.block c.index.result.now c.args.self.now _ c.requires c.index.ensures c.if-not-index.true refl c.in_ok-push.ensures.items

pub returns-else-not-index : goal.returns-else-not-index
returns-else-not-index c = come_again c.args.block c.index.result.now c.args.self.now c.requires c.index.ensures c.if-not-index.false
