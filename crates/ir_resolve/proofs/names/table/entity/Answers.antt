use Rattle.ir_resolve.proofs.Common.{◌∙◌}
use Rattle.ir_resolve.proofs.Lookups.{entity_found}
use Rattle.ir_resolve.proofs.names.table.entity.Goals as goal

pub returns : goal.returns
returns c = c.copied.ensures ∙ c.get.ensures.value ∙ entity_found c.args.names.now.entries c.of.result c.args.identifier.now c.of.ensures
