use Rattle.places.proofs.Common.{get_or_default}
use Rattle.places.proofs.node.node_at.Goals as goal

pub returns : goal.returns
returns c = get_or_default c.args.nodes.now c.args.number _ _ c.requires
