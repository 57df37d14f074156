use Rattle.ir_resolve.proofs.Common.{known_by}
use Rattle.ir_resolve.proofs.Unknowns.{block_unknown}
use Rattle.ir_resolve.proofs.unknown.is_unknown_block.Goals as goal

pub returns : goal.returns
returns c = block_unknown (known_by c.args.names.now) c.args.identifier.now _ _ c.block.ensures c.is_none.ensures
