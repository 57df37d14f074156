-- none of the statements so far copies or freezes an `undef`
use Rattle.rule_reader.proofs.Common.{ReadsUndefAlone}
use Rattle.rule_reader.proofs.Firsts.{NoneBefore}
use Rattle.rule_reader.proofs.undefs.undef_alone.Given as goal

abbrev pub invariant-loop-statement : goal.invariant-loop-statement
invariant-loop-statement l = NoneBefore l.target (λ k s. ReadsUndefAlone s.op) l.statement-index
