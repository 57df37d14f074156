use Rattle.draft_bits.proofs.Positions.{bits_are_known}
use Rattle.draft_bits.proofs.laws.draft_bits_are_known_bits.Goals as goal

pub returns : goal.returns
returns c = bits_are_known c.reads_of_a_block_stand_before.ensures
