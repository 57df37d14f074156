use Rattle.blast_term.proofs.Common.{length, arith, IfOk-weaker, number_of, Adds-trans, Adds-weaken}
use Rattle.blast_term.proofs.Said.{masked-holds}
use Rattle.blast_term.proofs.facts.blast_masked.Goals as goal

pub share_bits-requires-clause-own_a : goal.share_bits-requires-clause-own_a
share_bits-requires-clause-own_a g c = c.requires.own.bits

pub not-requires : goal.not-requires
not-requires g c = c.in_ok-share.ensures.own

pub or-requires-clause-own_a : goal.or-requires-clause-own_a
or-requires-clause-own_a g c = c.share_bits.ensures.adds.keeps.literals c.args.value.now.poison c.requires.own.poison

pub or-requires-clause-own_b : goal.or-requires-clause-own_b
or-requires-clause-own_b g c = c.not.ensures.own

pub returns-clause-value : goal.returns-clause-value
returns-clause-value g c = IfOk-weaker c.or.result _ _
    (λ made known inputs admitted.
    let v = g.C.State.value in
    let value = c.args.value.now in
    let keeps = c.share_bits.ensures.adds.keeps in
    let start = v c.args.c.now inputs in
    let now = keeps.admitted inputs admitted in
    masked-holds (start value.poison) _ _ (length value.bits) (number_of start value.bits) (number_of start c.args.mask.now) (c.in_ok-share.ensures.value inputs admitted)
    (rw (c.not.ensures.value inputs now, keeps.values inputs value.poison admitted c.requires.own.poison) at (known inputs now)))
    c.or.ensures.value

pub returns-clause-own : goal.returns-clause-own
returns-clause-own g c = c.or.ensures.own

pub returns-in_err-share-clause-adds : goal.returns-in_err-share-clause-adds
returns-in_err-share-clause-adds g c = Adds-weaken c.share_bits.ensures.adds (omega (arith, c.requires.same_width))

pub returns-clause-adds : goal.returns-clause-adds
returns-clause-adds g c = Adds-weaken (Adds-trans c.share_bits.ensures.adds c.or.ensures.adds) (omega (arith, c.requires.same_width))
