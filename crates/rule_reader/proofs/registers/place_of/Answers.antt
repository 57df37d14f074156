use Rattle.rule_reader.proofs.Common.{ap, sym, ◌∙◌, arith, Some}
use Rattle.rule_reader.proofs.Looking.{equal_names, unequal_names, not_more, not_there}
use Rattle.rule_reader.proofs.Places.{read_at}
use Rattle.rule_reader.proofs.registers.place_of.Goals as goal

pub returns-then-eq-clause-some : goal.returns-then-eq-clause-some
returns-then-eq-clause-some c =
    read_at c.args.names.now c.loop-place.place c.index-names-place.result (omega arith) c.index-names-place.is
    ∙ ap (λ n. Some n) (sym c.as_slice.ensures ∙ equal_names _ _ _ c.eq.ensures c.if-eq.true)

pub loop-place-preserved : goal.loop-place-preserved
loop-place-preserved c =
    not_more c.args.names.now c.loop-place.place c.index-names-place.result c.args.name.now
    (read_at c.args.names.now c.loop-place.place c.index-names-place.result (omega arith) c.index-names-place.is)
    (λ e. unequal_names _ _ _ c.eq.ensures c.if-eq.false (c.as_slice.ensures ∙ e))
    c.loop-place.invariant

pub returns-clause-none : goal.returns-clause-none
returns-clause-none c = not_there c.args.names.now c.args.name.now (λ k within. c.loop-place.invariant k (omega arith))
