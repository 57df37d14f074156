use Rattle.command_line.proofs.Common.{take, AllZip, IsDescribedArgument}
use Rattle.command_line.proofs.definition.described_arguments.Given as goal

-- the arguments so far
abbrev pub invariant-loop-argument : goal.invariant-loop-argument
invariant-loop-argument l = AllZip IsDescribedArgument (take l.argument-index l.described) l.arguments
