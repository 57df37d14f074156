use Rattle.known_bits.proofs.Common.{◌≡◌, ◌++◌, drop, gate_of, bit_by_bit}
use Rattle.known_bits.proofs.bits.bit_by_bit.Given as goal

abbrev pub invariant-loop-i : goal.invariant-loop-i
invariant-loop-i l = l.bits ++ bit_by_bit (gate_of l.gate) (drop l.i l.a) (drop l.i l.b) ≡ bit_by_bit (gate_of l.gate) l.a l.b
