use Rattle.scan.proofs.Common.{map, take, IsLongest, is_among}
use Rattle.scan.proofs.length.longest_among.Given as goal

abbrev pub invariant-loop-word : goal.invariant-loop-word
invariant-loop-word l = IsLongest (λ bytes rest. is_among (map (λ w. w.now) (take l.word-index l.words)) bytes) l.text l.longest
