use Rattle.blast_term.proofs.Common.{length, ap, ◌∙◌, bits, number_of}
use Rattle.blast_term.proofs.term.of_register.Goals as goal

pub number_or_zero-requires : goal.number_or_zero-requires
number_or_zero-requires g c = c.requires

pub valued-requires : goal.valued-requires
valued-requires g c = c.in_ok-bits.ensures.own

pub returns-in_err-bits-clause-adds : goal.returns-in_err-bits-clause-adds
returns-in_err-bits-clause-adds g c = c.number_or_zero.ensures.adds

pub returns-clause-value : goal.returns-clause-value
returns-clause-value g c = λ inputs admitted.
    let end = g.C.State.value c.number_or_zero.new.c inputs in
    c.valued.ensures.value inputs (c.number_or_zero.ensures.adds.keeps.admitted inputs admitted)
    ∙ ap (λ N. bits N (number_of end c.in_ok-bits.bits)) c.in_ok-bits.ensures.width
    ∙ ap (λ n. bits (length c.args.held.now.bits) n) (c.in_ok-bits.ensures.number inputs admitted)

pub returns-clause-width : goal.returns-clause-width
returns-clause-width g c = ap length c.valued.ensures.bits ∙ c.in_ok-bits.ensures.width

pub returns-clause-own : goal.returns-clause-own
returns-clause-own g c = c.valued.ensures.own

pub returns-clause-adds : goal.returns-clause-adds
returns-clause-adds g c = c.number_or_zero.ensures.adds
