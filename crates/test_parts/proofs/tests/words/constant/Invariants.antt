use Rattle.test_parts.proofs.Common.{◌≡◌, length}
use Rattle.std.specs.List.{All}
use Rattle.test_parts.proofs.tests.words.constant.Given as goal

abbrev pub invariant-loop-i : goal.invariant-loop-i
invariant-loop-i g l =
    let m = g.C.State in
    All (m.has_literal l.circuit) l.word × (length l.word ≡ l.i)
