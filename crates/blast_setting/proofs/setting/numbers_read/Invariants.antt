use Rattle.blast_setting.proofs.Common.{number_bits, number_read}
use Rattle.blast_setting.proofs.ReadOn.{ReadSoFar}
use Rattle.blast_setting.proofs.setting.numbers_read.Given as goal

abbrev pub invariant-loop-width : goal.invariant-loop-width
invariant-loop-width l = ReadSoFar number_read number_bits l.widths l.bits l.numbers l.width-index l.rest
