use Rattle.blast_term.proofs.Common.{◌≡◌, ◌||◌, length, refl, ap, ◌∙◌, arith, no_flags, instruction, number, number_of, All-kept, map-kept, Adds-trans, Adds-weaken, value_given, held_value, effect_of}
use Rattle.blast_term.proofs.Functions.{value_or_poison, given-value}
use Rattle.blast_term.proofs.function.blast_operator.Goals as goal

pub returns-clause-value : goal.returns-clause-value
returns-clause-value g c = λ inputs admitted.
    let m = g.C.State in
    let start = m.value c.args.c.now inputs in
    let mid = m.value c.blast_pair.new.c inputs in
    let end = m.value c.or.new.c inputs in
    let made = c.in_ok-bits.field-0 in
    let poison = c.in_ok-poison.poison in
    let now = c.blast_pair.ensures.adds.keeps.admitted inputs admitted in
    let same : number_of end made.bits ≡ number_of mid made.bits = ap number (map-kept c.or.ensures.adds.keeps inputs now made.bits c.in_ok-bits.ensures.own.bits) in
    let either : end poison ≡ (mid made.poison || mid made.undefined) = c.in_ok-poison.ensures.value inputs now in
    let effect : effect_of mid made ≡ instruction c.args.op no_flags c.args.width (held_value start c.args.left.now) (held_value start c.args.right.now) = c.in_ok-bits.ensures.effect inputs admitted in
    ap (λ k. value_or_poison (end poison) (length made.bits) k) same
    ∙ given-value (mid made.poison) (mid made.undefined) (end poison) (length made.bits) (number_of mid made.bits) either
    ∙ ap value_given effect

pub blast_pair-requires-clause-operands : goal.blast_pair-requires-clause-operands
blast_pair-requires-clause-operands g c = rw (c.requires.width_left, c.requires.width_right) refl

pub blast_pair-requires-clause-own_left : goal.blast_pair-requires-clause-own_left
blast_pair-requires-clause-own_left g c = c.requires.own_left

pub blast_pair-requires-clause-own_right : goal.blast_pair-requires-clause-own_right
blast_pair-requires-clause-own_right g c = c.requires.own_right

pub or-requires-clause-own_a : goal.or-requires-clause-own_a
or-requires-clause-own_a g c = c.in_ok-bits.ensures.own.poison

pub or-requires-clause-own_b : goal.or-requires-clause-own_b
or-requires-clause-own_b g c = c.in_ok-bits.ensures.own.undefined

pub returns-in_err-bits-clause-adds : goal.returns-in_err-bits-clause-adds
returns-in_err-bits-clause-adds g c = Adds-weaken c.blast_pair.ensures.adds (omega arith)

pub returns-in_err-poison-clause-adds : goal.returns-in_err-poison-clause-adds
returns-in_err-poison-clause-adds g c = Adds-trans c.blast_pair.ensures.adds c.or.ensures.adds

pub returns-clause-adds : goal.returns-clause-adds
returns-clause-adds g c = Adds-trans c.blast_pair.ensures.adds c.or.ensures.adds

pub returns-clause-width : goal.returns-clause-width
returns-clause-width g c = c.in_ok-bits.ensures.width

pub returns-clause-own : goal.returns-clause-own
returns-clause-own g c = record { bits = All-kept c.or.ensures.adds.keeps c.in_ok-bits.field-0.bits c.in_ok-bits.ensures.own.bits; poison = c.in_ok-poison.ensures.own }
