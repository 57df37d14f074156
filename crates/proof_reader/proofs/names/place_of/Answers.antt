use Rattle.proof_reader.proofs.Common.{◌∙◌}
use Rattle.proof_reader.proofs.names.place_of.Goals as goal

pub returns : goal.returns
returns c = rw (c.copied.ensures ∙ c.get.ensures.value) (c.requires c.args.name)
