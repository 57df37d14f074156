use Rattle.fold_branch.proofs.Walking.{walked_ends}
use Rattle.fold_branch.proofs.walk.reached_blocks.Goals as goal

pub returns : goal.returns
returns c = walked_ends c.args.f.now c.follow.new.self c.in_ok-follow.ensures.walked c.in_ok-follow.ensures.done
