use Rattle.verdict_core.proofs.Common.{◌≡◌, ◌+◌, ◌++◌, drop, decimal, flat_map, enumerate_from, Bits, line_text, choices_text}
use Rattle.verdict_core.proofs.example.push_choices.Given as goal

-- what is left of the list is still to be printed
abbrev pub invariant-loop-place : goal.invariant-loop-place
invariant-loop-place l =
    l.out.items ++ flat_map (λ line. line_text (l.letter ++ decimal line.0) (Bits line.1)) (enumerate_from (l.place + 1) (drop l.place l.numbers))
    ≡ l.fn.out.items ++ choices_text l.letter l.numbers
