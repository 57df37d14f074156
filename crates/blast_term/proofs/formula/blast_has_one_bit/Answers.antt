use Rattle.blast_term.proofs.Common.{length, ◌∙◌, IfOk-weaker, number_of, Adds-trans}
use Rattle.blast_term.proofs.Tests.{one_bit-held}
use Rattle.blast_term.proofs.formula.blast_has_one_bit.Goals as goal

pub blast_exponent-requires-clause-least : goal.blast_exponent-requires-clause-least
blast_exponent-requires-clause-least g c = c.requires.least

pub blast_exponent-requires-clause-most : goal.blast_exponent-requires-clause-most
blast_exponent-requires-clause-most g c = c.requires.most

pub blast_exponent-requires-clause-own : goal.blast_exponent-requires-clause-own
blast_exponent-requires-clause-own g c = c.requires.own.bits

pub not-requires : goal.not-requires
not-requires g c = c.blast_exponent.ensures.adds.keeps.literals c.args.value.now.poison c.requires.own.poison

pub and-requires-clause-own_a : goal.and-requires-clause-own_a
and-requires-clause-own_a g c = c.in_ok-found.ensures.own_exists

pub and-requires-clause-own_b : goal.and-requires-clause-own_b
and-requires-clause-own_b g c = c.not.ensures.own

pub returns-clause-value : goal.returns-clause-value
returns-clause-value g c = IfOk-weaker c.and.result _ _
    (λ made known inputs admitted.
    let v = g.C.State.value in
    let value = c.args.value.now in
    let found = c.in_ok-found.found in
    let keeps = c.blast_exponent.ensures.adds.keeps in
    let start = v c.args.c.now inputs in
    let mid = v c.blast_exponent.new.c inputs in
    let now = keeps.admitted inputs admitted in
    rw (c.not.ensures.value inputs now, keeps.values inputs value.poison admitted c.requires.own.poison) at (known inputs now)
    ∙ one_bit-held (start value.poison) (mid found.exists) (length value.bits) (number_of start value.bits) (number_of mid found.bits) (c.in_ok-found.ensures.value inputs admitted))
    c.and.ensures.value

pub returns-clause-own : goal.returns-clause-own
returns-clause-own g c = c.and.ensures.own

pub returns-clause-adds : goal.returns-clause-adds
returns-clause-adds g c = Adds-trans c.blast_exponent.ensures.adds c.and.ensures.adds
