use Rattle.blast_term.proofs.Common.{term_widths}
use Rattle.blast_term.proofs.Said.{nothing-gates}
use Rattle.blast_term.proofs.term_gates.fact_gates.Goals as goal

pub returns-in_default-clause-value : goal.returns-in_default-clause-value
returns-in_default-clause-value c = nothing-gates (term_widths c.args.typing.now c.args.terms.now) c.args.formula c.in_default.not-MaskedValueIsZero c.in_default.not-IsKnownNonZero
