use Rattle.rewriter.proofs.Counting.{ArePut}
use Rattle.rewriter.proofs.insts.results_put.Given as goal

-- the operands for the registers of the statements before the index, and how many of these become instructions
abbrev pub invariant-loop-statement : goal.invariant-loop-statement
invariant-loop-statement l = ArePut l.fn.rule l.fn.binding l.statement-index l.results.items l.count
