use Rattle.blast_term.proofs.Common.{◌≡◌, not, ◌||◌, if◌then◌else◌, length, Some, None, ap, sym, ◌∙◌, arith, number, number_of, Adds-trans, Adds-weaken, All-kept, map-kept, exponent}
use Rattle.blast_term.proofs.Functions.{value_or_poison, log-value}
use Rattle.blast_term.proofs.function.logarithm.Goals as goal

pub blast_exponent-requires-clause-least : goal.blast_exponent-requires-clause-least
blast_exponent-requires-clause-least g c = c.requires.least

pub blast_exponent-requires-clause-most : goal.blast_exponent-requires-clause-most
blast_exponent-requires-clause-most g c = c.requires.most

pub blast_exponent-requires-clause-own : goal.blast_exponent-requires-clause-own
blast_exponent-requires-clause-own g c = c.requires.own.bits

pub not-requires : goal.not-requires
not-requires g c = c.in_ok-found.ensures.own_exists

pub or-requires-clause-own_a : goal.or-requires-clause-own_a
or-requires-clause-own_a g c = c.blast_exponent.ensures.adds.keeps.literals c.args.operand.now.poison c.requires.own.poison

pub or-requires-clause-own_b : goal.or-requires-clause-own_b
or-requires-clause-own_b g c = c.not.ensures.own

pub returns-in_err-found-clause-adds : goal.returns-in_err-found-clause-adds
returns-in_err-found-clause-adds g c = Adds-weaken c.blast_exponent.ensures.adds (omega arith)

pub returns-in_err-poison-clause-adds : goal.returns-in_err-poison-clause-adds
returns-in_err-poison-clause-adds g c = Adds-trans c.blast_exponent.ensures.adds c.or.ensures.adds

pub returns-clause-value : goal.returns-clause-value
returns-clause-value g c = λ inputs admitted.
    let m = g.C.State in
    let start = m.value c.args.c.now inputs in
    let mid = m.value c.blast_exponent.new.c inputs in
    let end = m.value c.or.new.c inputs in
    let found = c.in_ok-found.found in
    let poison = c.in_ok-poison.poison in
    let operand = c.args.operand.now in
    let keeps = c.blast_exponent.ensures.adds.keeps in
    let now = keeps.admitted inputs admitted in
    let same : number_of end found.bits ≡ number_of mid found.bits = ap number (map-kept c.or.ensures.adds.keeps inputs now found.bits c.in_ok-found.ensures.own_bits) in
    let power : exponent (length operand.bits) (number_of start operand.bits) ≡ (if mid found.exists then Some (number_of end found.bits) else None) =
    c.in_ok-found.ensures.value inputs admitted ∙ ap (λ k. if mid found.exists then Some k else None) (sym same) in
    let either : end poison ≡ (start operand.poison || not (mid found.exists)) =
    rw (keeps.values inputs operand.poison admitted c.requires.own.poison, c.not.ensures.value inputs now) at (c.in_ok-poison.ensures.value inputs now) in
    ap (λ N. value_or_poison (end poison) N (number_of end found.bits)) c.in_ok-found.ensures.width
    ∙ log-value (start operand.poison) (mid found.exists) (end poison) (length operand.bits) (number_of start operand.bits) (number_of end found.bits) power either

pub returns-clause-width : goal.returns-clause-width
returns-clause-width g c = c.in_ok-found.ensures.width

pub returns-clause-own : goal.returns-clause-own
returns-clause-own g c = record { bits = All-kept c.or.ensures.adds.keeps c.in_ok-found.found.bits c.in_ok-found.ensures.own_bits; poison = c.in_ok-poison.ensures.own }

pub returns-clause-adds : goal.returns-clause-adds
returns-clause-adds g c = Adds-trans c.blast_exponent.ensures.adds c.or.ensures.adds
