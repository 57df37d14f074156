use Rattle.readers.proofs.Common.{[], ◌∙◌, get_or_default}
use Rattle.readers.proofs.uses.exchange_in.Goals as goal

pub returns-clause-was : goal.returns-clause-was
returns-clause-was c = c.replace.ensures.value ∙ c.get_mut.ensures.value ∙ get_or_default c.args.rows.now c.args.index c.get_mut.result.now [] c.requires
