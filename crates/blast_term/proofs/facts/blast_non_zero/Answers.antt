use Rattle.blast_term.proofs.Common.{length, ◌∙◌, arith, IfOk-weaker, number_of, Adds-trans, Adds-weaken, any-number}
use Rattle.blast_term.proofs.Said.{non_zero-holds}
use Rattle.blast_term.proofs.facts.blast_non_zero.Goals as goal

pub any-requires : goal.any-requires
any-requires g c = rw c.as_slice.ensures c.requires.own.bits

pub or-requires-clause-own_a : goal.or-requires-clause-own_a
or-requires-clause-own_a g c = c.any.ensures.adds.keeps.literals c.args.value.now.poison c.requires.own.poison

pub or-requires-clause-own_b : goal.or-requires-clause-own_b
or-requires-clause-own_b g c = c.in_ok-some.ensures.own

pub returns-clause-value : goal.returns-clause-value
returns-clause-value g c = IfOk-weaker c.or.result _ _
    (λ made known inputs admitted.
    let v = g.C.State.value in
    let value = c.args.value.now in
    let keeps = c.any.ensures.adds.keeps in
    let start = v c.args.c.now inputs in
    let now = keeps.admitted inputs admitted in
    let some = rw c.as_slice.ensures at (c.in_ok-some.ensures.value inputs admitted) ∙ any-number start value.bits in
    non_zero-holds (start value.poison) _ _ (length value.bits) (number_of start value.bits) some (rw (keeps.values inputs value.poison admitted c.requires.own.poison) at (known inputs now)))
    c.or.ensures.value

pub returns-clause-own : goal.returns-clause-own
returns-clause-own g c = c.or.ensures.own

pub returns-in_err-some-clause-adds : goal.returns-in_err-some-clause-adds
returns-in_err-some-clause-adds g c = Adds-weaken c.any.ensures.adds (rw c.as_slice.ensures (omega arith))

pub returns-clause-adds : goal.returns-clause-adds
returns-clause-adds g c = Adds-weaken (Adds-trans c.any.ensures.adds c.or.ensures.adds) (rw c.as_slice.ensures (omega arith))
