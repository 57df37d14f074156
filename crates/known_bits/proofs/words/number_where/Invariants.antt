use Rattle.known_bits.proofs.Common.{◌≡◌, ◌-◌, map, length, drop, number, is_known_as}
use Rattle.known_bits.proofs.words.number_where.Given as goal

abbrev pub invariant-loop-i : goal.invariant-loop-i
invariant-loop-i l = l.number ≡ number (map (is_known_as l.value) (drop (length l.bits - l.i) l.bits))
