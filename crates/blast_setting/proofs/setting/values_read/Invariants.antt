use Rattle.blast_setting.proofs.Common.{value_bits, value_read}
use Rattle.blast_setting.proofs.ReadOn.{ReadSoFar}
use Rattle.blast_setting.proofs.setting.values_read.Given as goal

abbrev pub invariant-loop-width : goal.invariant-loop-width
invariant-loop-width l = ReadSoFar value_read value_bits l.widths l.bits l.values l.width-index l.rest
