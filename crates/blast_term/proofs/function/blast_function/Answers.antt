use Rattle.blast_term.proofs.Common.{ap, sym, ◌∙◌, IfOk-weaker, no_flags, bits, instruction, Xor, value_given, function_value, held_value}
use Rattle.blast_term.proofs.Functions.{negate-held, not-held}
use Rattle.blast_term.proofs.function.blast_function.Goals as goal

pub returns-in-Negate-clause-value : goal.returns-in-Negate-clause-value
returns-in-Negate-clause-value g c = IfOk-weaker c.blast_with.result _ _ (λ made known inputs admitted.
    let start = g.C.State.value c.args.c.now inputs in
    known inputs admitted ∙ negate-held start c.args.operand.now c.args.width c.requires.width
    ∙ ap (λ f. function_value f c.args.width (held_value start c.args.operand.now)) (sym c.in-Negate.is))
    c.blast_with.ensures.value

pub returns-in-Not-clause-value : goal.returns-in-Not-clause-value
returns-in-Not-clause-value g c = IfOk-weaker c.blast_with-in-Not.result _ _ (λ made known inputs admitted.
    let start = g.C.State.value c.args.c.now inputs in
    known inputs admitted
    ∙ ap (λ n. value_given (instruction Xor no_flags c.args.width (bits c.args.width n) (held_value start c.args.operand.now))) c.minus_one.ensures
    ∙ not-held start c.args.operand.now c.args.width c.requires.width
    ∙ ap (λ f. function_value f c.args.width (held_value start c.args.operand.now)) (sym c.in-Not.is))
    c.blast_with-in-Not.ensures.value

pub returns-in-Negate-clause-width : goal.returns-in-Negate-clause-width
returns-in-Negate-clause-width g c = c.blast_with.ensures.width

pub returns-in-Not-clause-width : goal.returns-in-Not-clause-width
returns-in-Not-clause-width g c = c.blast_with-in-Not.ensures.width

pub returns-in-Abs-clause-width : goal.returns-in-Abs-clause-width
returns-in-Abs-clause-width g c = c.absolute.ensures.width

pub returns-in-Negate-clause-own : goal.returns-in-Negate-clause-own
returns-in-Negate-clause-own g c = c.blast_with.ensures.own

pub returns-in-Not-clause-own : goal.returns-in-Not-clause-own
returns-in-Not-clause-own g c = c.blast_with-in-Not.ensures.own

pub returns-in-Log2-clause-own : goal.returns-in-Log2-clause-own
returns-in-Log2-clause-own g c = c.logarithm.ensures.own

pub returns-in-Abs-clause-own : goal.returns-in-Abs-clause-own
returns-in-Abs-clause-own g c = c.absolute.ensures.own

pub returns-in-Negate-clause-adds : goal.returns-in-Negate-clause-adds
returns-in-Negate-clause-adds g c = rw c.in-Negate.is c.blast_with.ensures.adds

pub returns-in-Not-clause-adds : goal.returns-in-Not-clause-adds
returns-in-Not-clause-adds g c = rw c.in-Not.is c.blast_with-in-Not.ensures.adds

pub returns-in-Abs-clause-adds : goal.returns-in-Abs-clause-adds
returns-in-Abs-clause-adds g c = rw c.in-Abs.is c.absolute.ensures.adds

pub returns-in-Log2-clause-adds : goal.returns-in-Log2-clause-adds
returns-in-Log2-clause-adds g c = rw (c.in-Log2.is, ← c.requires.width) c.logarithm.ensures.adds
