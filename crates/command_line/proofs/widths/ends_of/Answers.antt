use Rattle.command_line.proofs.Common.{rules}
use Rattle.command_line.proofs.WidthLemmas.{no_hyphen}
use Rattle.command_line.proofs.widths.ends_of.Goals as goal

pub returns-in-None-clause-last : goal.returns-in-None-clause-last
returns-in-None-clause-last c = no_hyphen c.args.item.now (search rules)
