use Rattle.ir_meaning.proofs.Widths.{held_widths}
use Rattle.ir_meaning.proofs.histories.registers_hold_their_widths.Goals as goal

pub returns : goal.returns
returns c = held_widths
