use Rattle.blast_rule.proofs.Common.{sym, subst, Refutes, fitting_are_read}
use Rattle.blast_rule.proofs.laws.rules_without_counterexample_read_are_valid.Goals as goal

pub returns : goal.returns
returns c = λ rule typing checked typed none.
    c.rules_without_counterexample_are_valid.ensures rule typing (λ setting choices source target counter.
    let read = fitting_are_read rule typing setting checked typed counter.counts.fits in
    none read.0 read.1.count (subst (Refutes rule typing) (sym read.1.is) (choices, source, target, counter)))
