use Rattle.blast_term.proofs.Common.{◌==◌, ◌-◌, ◌^◌, length, ap, ◌∙◌, arith, IfOk-weaker, number_of, Adds-trans, shifted}
use Rattle.blast_term.proofs.Tests.{sign_bit-held}
use Rattle.blast_term.proofs.formula.blast_is_sign_bit.Goals as goal

pub equals-requires-clause-own : goal.equals-requires-clause-own
equals-requires-clause-own g c = c.requires.own.bits

pub not-requires : goal.not-requires
not-requires g c = c.equals.ensures.adds.keeps.literals c.args.value.now.poison c.requires.own.poison

pub and-requires-clause-own_a : goal.and-requires-clause-own_a
and-requires-clause-own_a g c = c.in_ok-least.ensures.own

pub and-requires-clause-own_b : goal.and-requires-clause-own_b
and-requires-clause-own_b g c = c.not.ensures.own

pub returns-clause-value : goal.returns-clause-value
returns-clause-value g c = IfOk-weaker c.and.result _ _
    (λ made known inputs admitted.
    let v = g.C.State.value in
    let value = c.args.value.now in
    let keeps = c.equals.ensures.adds.keeps in
    let start = v c.args.c.now inputs in
    let now = keeps.admitted inputs admitted in
    let least_is = shifted (c.len.result - 1) (omega (arith, c.len.ensures, c.requires.most)) ∙ ap (λ n. 2 ^ (n - 1)) c.len.ensures in
    let is_least = c.in_ok-least.ensures.value inputs admitted ∙ ap (λ n. number_of start value.bits == n) least_is in
    rw (c.not.ensures.value inputs now, keeps.values inputs value.poison admitted c.requires.own.poison, is_least) at (known inputs now)
    ∙ sign_bit-held (start value.poison) (length value.bits) (number_of start value.bits))
    c.and.ensures.value

pub returns-clause-own : goal.returns-clause-own
returns-clause-own g c = c.and.ensures.own

pub returns-clause-adds : goal.returns-clause-adds
returns-clause-adds g c = Adds-trans c.equals.ensures.adds c.and.ensures.adds
