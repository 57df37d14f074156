use Rattle.known_bits.proofs.Common.{◌≡◌, ◌-◌, ◌++◌, map, binary_digits, certain}
use Rattle.known_bits.proofs.bits.digits.Given as goal

abbrev pub invariant-loop-i : goal.invariant-loop-i
invariant-loop-i l = l.bits ++ map certain (binary_digits (l.fn.number.width - l._i) l.rest) ≡ map certain (binary_digits l.fn.number.width l.fn.number.number)
