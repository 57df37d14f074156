use Rattle.circ_muldiv.proofs.Common.{◌<◌, ◌-◌, length, sym, ap, subst, ◌∙◌, arith, All, own_at, All-kept, Adds-trans, Adds-weaken, Keeps-trans}
use Rattle.circ_muldiv.proofs.Rows.{multiplied_init, multiplied_more, multiplied_within, multiplied_adds, multiplied_product, multiplied_overflows}
use Rattle.circ_muldiv.proofs.product.multiply_with_overflow.Goals as goal

pub loop-i-init : goal.loop-i-init
loop-i-init g c =
    multiplied_init c.args.a.now c.args.b.now c.in_ok-bits.bits c.index-b-0.result c.zero-overflow.result c.index-a-top.result c.requires.width c.requires.same_width c.requires.own_a c.index-b-0.is c.index-a-top.is c.masked.ensures.adds c.in_ok-bits.ensures.own c.in_ok-bits.ensures.width c.in_ok-bits.ensures.number c.zero-overflow.ensures.own c.zero-overflow.ensures.value

pub loop-i-preserved : goal.loop-i-preserved
loop-i-preserved g c =
    multiplied_more c.in_ok-row.row.bits c.index-b-i.result c.index-a-top-in-loop-i.result c.in_ok-row.row.carry c.in_ok-overflow.overflow c.in_ok-past.past c.loop-i.invariant (omega arith) (omega arith) c.requires.same_width c.requires.own_a c.requires.own_b c.index-b-i.is c.index-a-top-in-loop-i.is c.add_row.ensures.adds c.loses.ensures.adds c.or.ensures.adds c.in_ok-row.ensures.own_bits c.in_ok-row.ensures.own_carry c.in_ok-row.ensures.width c.in_ok-overflow.ensures.own c.in_ok-past.ensures.own (rw c.as_slice.ensures at c.in_ok-row.ensures.number) c.in_ok-overflow.ensures.value c.in_ok-past.ensures.value

pub or-requires-clause-own_b : goal.or-requires-clause-own_b
or-requires-clause-own_b g c =
    let m = g.C.State in
    let inside : length c.args.a.now - 1 - c.loop-i.i < length c.args.a.now = omega arith in
    let own = own_at (m.has_literal c.args.c.now) c.args.a.now (length c.args.a.now - 1 - c.loop-i.i) c.index-a-top-in-loop-i.result c.requires.own_a inside c.index-a-top-in-loop-i.is in
    (Keeps-trans (Keeps-trans c.loop-i.invariant.adds.keeps c.add_row.ensures.adds.keeps) c.loses.ensures.adds.keeps).literals c.index-a-top-in-loop-i.result own

pub returns-in_err-row-clause-adds : goal.returns-in_err-row-clause-adds
returns-in_err-row-clause-adds g c = multiplied_within c.loop-i.invariant (omega arith) (omega arith) c.add_row.ensures.adds (omega arith)

pub returns-in_err-overflow-clause-adds : goal.returns-in_err-overflow-clause-adds
returns-in_err-overflow-clause-adds g c = multiplied_within c.loop-i.invariant (omega arith) (omega arith) (Adds-trans c.add_row.ensures.adds c.loses.ensures.adds) (omega arith)

pub returns-in_err-past-clause-adds : goal.returns-in_err-past-clause-adds
returns-in_err-past-clause-adds g c = multiplied_within c.loop-i.invariant (omega arith) (omega arith) (Adds-trans (Adds-trans c.add_row.ensures.adds c.loses.ensures.adds) c.or.ensures.adds) (omega arith)

pub returns-clause-number : goal.returns-clause-number
returns-clause-number g c = multiplied_product c.loop-i.invariant (omega arith)

pub returns-clause-overflow : goal.returns-clause-overflow
returns-clause-overflow g c = multiplied_overflows c.loop-i.invariant (omega arith)

pub returns-clause-adds : goal.returns-clause-adds
returns-clause-adds g c = multiplied_adds c.loop-i.invariant

pub returns-in_err-bits-clause-adds : goal.returns-in_err-bits-clause-adds
returns-in_err-bits-clause-adds g c = Adds-weaken c.masked.ensures.adds (omega arith)

pub add_row-requires-clause-own_a : goal.add_row-requires-clause-own_a
add_row-requires-clause-own_a g c = All-kept c.loop-i.invariant.adds.keeps c.args.a.now c.requires.own_a

pub add_row-requires-clause-own_digit : goal.add_row-requires-clause-own_digit
add_row-requires-clause-own_digit g c =
    let inside : c.loop-i.i < length c.args.b.now = omega arith in
    c.loop-i.invariant.adds.keeps.literals c.index-b-i.result (own_at (g.C.State.has_literal c.args.c.now) c.args.b.now c.loop-i.i c.index-b-i.result c.requires.own_b inside c.index-b-i.is)

pub loses-requires-clause-own_digit : goal.loses-requires-clause-own_digit
loses-requires-clause-own_digit g c =
    let inside : c.loop-i.i < length c.args.b.now = omega arith in
    (Keeps-trans c.loop-i.invariant.adds.keeps c.add_row.ensures.adds.keeps).literals c.index-b-i.result (own_at (g.C.State.has_literal c.args.c.now) c.args.b.now c.loop-i.i c.index-b-i.result c.requires.own_b inside c.index-b-i.is)

pub masked-requires-clause-own_digit : goal.masked-requires-clause-own_digit
masked-requires-clause-own_digit g c =
    let some : 0 < length c.args.b.now = omega arith in
    own_at (g.C.State.has_literal c.args.c.now) c.args.b.now 0 c.index-b-0.result c.requires.own_b some c.index-b-0.is

pub add_row-requires-clause-same_width : goal.add_row-requires-clause-same_width
add_row-requires-clause-same_width g c = ap length c.as_slice.ensures ∙ c.loop-i.invariant.width

pub add_row-requires-clause-own_word : goal.add_row-requires-clause-own_word
add_row-requires-clause-own_word g c = subst (All (g.C.State.has_literal c.loop-i.c)) (sym c.as_slice.ensures) c.loop-i.invariant.own_bits

pub loses-requires-clause-own_before : goal.loses-requires-clause-own_before
loses-requires-clause-own_before g c = c.add_row.ensures.adds.keeps.literals c.loop-i.overflow c.loop-i.invariant.own_overflow

pub loses-requires-clause-own_past : goal.loses-requires-clause-own_past
loses-requires-clause-own_past g c = c.add_row.ensures.adds.keeps.literals c.loop-i.past c.loop-i.invariant.own_past

pub or-requires-clause-own_a : goal.or-requires-clause-own_a
or-requires-clause-own_a g c = (Keeps-trans c.add_row.ensures.adds.keeps c.loses.ensures.adds.keeps).literals c.loop-i.past c.loop-i.invariant.own_past

pub returns-clause-own_bits : goal.returns-clause-own_bits
returns-clause-own_bits g c = c.loop-i.invariant.own_bits

pub returns-clause-own_overflow : goal.returns-clause-own_overflow
returns-clause-own_overflow g c = c.loop-i.invariant.own_overflow

pub returns-clause-width : goal.returns-clause-width
returns-clause-width g c = c.loop-i.invariant.width
