use Rattle.command_line.proofs.Common.{take, AllZip, shape_described, IsLeaf}
use Rattle.command_line.proofs.definition.described_commands.Given as goal

-- the commands so far
abbrev pub invariant-loop-one : goal.invariant-loop-one
invariant-loop-one l = AllZip (λ one. IsLeaf (shape_described one)) (take l.one-index l.described) l.commands
