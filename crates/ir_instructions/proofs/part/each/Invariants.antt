use Rattle.ir_instructions.proofs.Common.{◌≡◌, length, seen, each_at}
use Rattle.ir_instructions.proofs.part.each.Given as goal

abbrev pub invariant-parts : goal.invariant-parts
invariant-parts g l = each_at g.P.Part.begins g.P.Part.reader l.parts (seen l.rest) ≡ each_at g.P.Part.begins g.P.Part.reader l.fn.front (seen l.fn.tokens.now)

abbrev pub decreases-parts : goal.decreases-parts
decreases-parts g l = length (seen l.rest)
