use Rattle.command_line.proofs.Common.{digits}
use Rattle.command_line.proofs.definition.definition.Goals as goal

pub returns : goal.returns
unfolding digits
returns c = c.described_program.ensures
