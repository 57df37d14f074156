use Rattle.blast_term.proofs.Common.{◌≤◌, ◌∙◌, sym, subst, length, arith, IfOk-weaker, Adds-refl, Adds-weaken, widths_of, IsOwn, comparing_gates, power_test_gates, sign_test_gates, formula_gates, FormulaIsHeld}
use Rattle.blast_term.proofs.Formulas.{width_read, compare-holds, power-holds, sign-holds, not-holds, and-holds, or-holds}
use Rattle.blast_term.proofs.Turns.{own_from_get, held_there, width_chosen}
use Rattle.blast_term.proofs.formula.blast_formula.Goals as goal

pub at-requires : goal.at-requires
at-requires g c =
    let need = subst (FormulaIsHeld (widths_of c.args.terms.now) (length c.args.before.now)) c.in-Compare.is c.requires.ready in
    held_there c.args.terms.now c.in-Compare.a need.0 need.2

pub at-requires-in-Compare : goal.at-requires-in-Compare
at-requires-in-Compare g c =
    let need = subst (FormulaIsHeld (widths_of c.args.terms.now) (length c.args.before.now)) c.in-Compare.is c.requires.ready in
    held_there c.args.terms.now c.in-Compare.b need.0 need.3

pub at-requires-in-IsPowerOfTwo : goal.at-requires-in-IsPowerOfTwo
at-requires-in-IsPowerOfTwo g c =
    let need = subst (FormulaIsHeld (widths_of c.args.terms.now) (length c.args.before.now)) c.in-IsPowerOfTwo.is c.requires.ready in
    held_there c.args.terms.now c.in-IsPowerOfTwo.a need.0 need.3

pub at-requires-in-IsSignBit : goal.at-requires-in-IsSignBit
at-requires-in-IsSignBit g c =
    let need = subst (FormulaIsHeld (widths_of c.args.terms.now) (length c.args.before.now)) c.in-IsSignBit.is c.requires.ready in
    held_there c.args.terms.now c.in-IsSignBit.a need.0 need.3

pub at-requires-in-Not : goal.at-requires-in-Not
at-requires-in-Not g c =
    let need = subst (FormulaIsHeld (widths_of c.args.terms.now) (length c.args.before.now)) c.in-Not.is c.requires.ready in
    need

pub at-requires-in-And : goal.at-requires-in-And
at-requires-in-And g c =
    let need = subst (FormulaIsHeld (widths_of c.args.terms.now) (length c.args.before.now)) c.in-And.is c.requires.ready in
    need.0

pub at-requires-in-And-2 : goal.at-requires-in-And-2
at-requires-in-And-2 g c =
    let need = subst (FormulaIsHeld (widths_of c.args.terms.now) (length c.args.before.now)) c.in-And.is c.requires.ready in
    need.1

pub at-requires-in-Or : goal.at-requires-in-Or
at-requires-in-Or g c =
    let need = subst (FormulaIsHeld (widths_of c.args.terms.now) (length c.args.before.now)) c.in-Or.is c.requires.ready in
    need.0

pub at-requires-in-Or-2 : goal.at-requires-in-Or-2
at-requires-in-Or-2 g c =
    let need = subst (FormulaIsHeld (widths_of c.args.terms.now) (length c.args.before.now)) c.in-Or.is c.requires.ready in
    need.1

pub not-requires : goal.not-requires
not-requires g c =
    own_from_get (g.C.State.has_literal c.args.c.now) c.args.before.now c.in-Not.a c.at-in-Not.result.now c.requires.own_before c.at-in-Not.ensures

pub blast_compares-requires-clause-some : goal.blast_compares-requires-clause-some
blast_compares-requires-clause-some g c =
    let need = subst (FormulaIsHeld (widths_of c.args.terms.now) (length c.args.before.now)) c.in-Compare.is c.requires.ready in
    rw (width_read c.args.terms.now c.in-Compare.a need.0 c.at.result.now need.2 c.at.ensures) need.1

pub blast_compares-requires-clause-same_width : goal.blast_compares-requires-clause-same_width
blast_compares-requires-clause-same_width g c =
    let need = subst (FormulaIsHeld (widths_of c.args.terms.now) (length c.args.before.now)) c.in-Compare.is c.requires.ready in
    width_read c.args.terms.now c.in-Compare.b need.0 c.at-in-Compare.result.now need.3 c.at-in-Compare.ensures ∙ sym (width_read c.args.terms.now c.in-Compare.a need.0 c.at.result.now need.2 c.at.ensures)

pub blast_compares-requires-clause-own_left : goal.blast_compares-requires-clause-own_left
blast_compares-requires-clause-own_left g c =
    own_from_get (IsOwn (g.C.State.has_literal c.args.c.now)) c.args.terms.now c.in-Compare.a c.at.result.now c.requires.own c.at.ensures

pub blast_compares-requires-clause-own_right : goal.blast_compares-requires-clause-own_right
blast_compares-requires-clause-own_right g c =
    own_from_get (IsOwn (g.C.State.has_literal c.args.c.now)) c.args.terms.now c.in-Compare.b c.at-in-Compare.result.now c.requires.own c.at-in-Compare.ensures

pub blast_has_one_bit-requires-clause-least : goal.blast_has_one_bit-requires-clause-least
blast_has_one_bit-requires-clause-least g c =
    let need = subst (FormulaIsHeld (widths_of c.args.terms.now) (length c.args.before.now)) c.in-IsPowerOfTwo.is c.requires.ready in
    rw (width_read c.args.terms.now c.in-IsPowerOfTwo.a need.0 c.at-in-IsPowerOfTwo.result.now need.3 c.at-in-IsPowerOfTwo.ensures) need.1

pub blast_has_one_bit-requires-clause-most : goal.blast_has_one_bit-requires-clause-most
blast_has_one_bit-requires-clause-most g c =
    let need = subst (FormulaIsHeld (widths_of c.args.terms.now) (length c.args.before.now)) c.in-IsPowerOfTwo.is c.requires.ready in
    rw (width_read c.args.terms.now c.in-IsPowerOfTwo.a need.0 c.at-in-IsPowerOfTwo.result.now need.3 c.at-in-IsPowerOfTwo.ensures) need.2

pub blast_has_one_bit-requires-clause-own : goal.blast_has_one_bit-requires-clause-own
blast_has_one_bit-requires-clause-own g c =
    own_from_get (IsOwn (g.C.State.has_literal c.args.c.now)) c.args.terms.now c.in-IsPowerOfTwo.a c.at-in-IsPowerOfTwo.result.now c.requires.own c.at-in-IsPowerOfTwo.ensures

pub blast_is_sign_bit-requires-clause-least : goal.blast_is_sign_bit-requires-clause-least
blast_is_sign_bit-requires-clause-least g c =
    let need = subst (FormulaIsHeld (widths_of c.args.terms.now) (length c.args.before.now)) c.in-IsSignBit.is c.requires.ready in
    rw (width_read c.args.terms.now c.in-IsSignBit.a need.0 c.at-in-IsSignBit.result.now need.3 c.at-in-IsSignBit.ensures) need.1

pub blast_is_sign_bit-requires-clause-most : goal.blast_is_sign_bit-requires-clause-most
blast_is_sign_bit-requires-clause-most g c =
    let need = subst (FormulaIsHeld (widths_of c.args.terms.now) (length c.args.before.now)) c.in-IsSignBit.is c.requires.ready in
    rw (width_read c.args.terms.now c.in-IsSignBit.a need.0 c.at-in-IsSignBit.result.now need.3 c.at-in-IsSignBit.ensures) need.2

pub blast_is_sign_bit-requires-clause-own : goal.blast_is_sign_bit-requires-clause-own
blast_is_sign_bit-requires-clause-own g c =
    own_from_get (IsOwn (g.C.State.has_literal c.args.c.now)) c.args.terms.now c.in-IsSignBit.a c.at-in-IsSignBit.result.now c.requires.own c.at-in-IsSignBit.ensures

pub and-requires-clause-own_a : goal.and-requires-clause-own_a
and-requires-clause-own_a g c =
    own_from_get (g.C.State.has_literal c.args.c.now) c.args.before.now c.in-And.a c.at-in-And.result.now c.requires.own_before c.at-in-And.ensures

pub and-requires-clause-own_b : goal.and-requires-clause-own_b
and-requires-clause-own_b g c =
    own_from_get (g.C.State.has_literal c.args.c.now) c.args.before.now c.in-And.b c.at-in-And-2.result.now c.requires.own_before c.at-in-And-2.ensures

pub or-requires-clause-own_a : goal.or-requires-clause-own_a
or-requires-clause-own_a g c =
    own_from_get (g.C.State.has_literal c.args.c.now) c.args.before.now c.in-Or.a c.at-in-Or.result.now c.requires.own_before c.at-in-Or.ensures

pub or-requires-clause-own_b : goal.or-requires-clause-own_b
or-requires-clause-own_b g c =
    own_from_get (g.C.State.has_literal c.args.c.now) c.args.before.now c.in-Or.b c.at-in-Or-2.result.now c.requires.own_before c.at-in-Or-2.ensures

pub returns-in-Compare-clause-value : goal.returns-in-Compare-clause-value
returns-in-Compare-clause-value g c = IfOk-weaker c.blast_compares.result _ _ (λ made known inputs admitted.
    known inputs admitted ∙ compare-holds (g.C.State.value c.args.c.now inputs) c.args.terms.now c.args.before.now c.args.formula c.in-Compare.pred c.in-Compare.a c.in-Compare.b c.at.result.now c.at-in-Compare.result.now c.in-Compare.is c.at.ensures c.at-in-Compare.ensures)
    c.blast_compares.ensures.value

pub returns-in-IsPowerOfTwo-clause-value : goal.returns-in-IsPowerOfTwo-clause-value
returns-in-IsPowerOfTwo-clause-value g c = IfOk-weaker c.blast_has_one_bit.result _ _ (λ made known inputs admitted.
    known inputs admitted ∙ power-holds (g.C.State.value c.args.c.now inputs) c.args.terms.now c.args.before.now c.args.formula c.in-IsPowerOfTwo.a c.at-in-IsPowerOfTwo.result.now c.in-IsPowerOfTwo.is c.at-in-IsPowerOfTwo.ensures)
    c.blast_has_one_bit.ensures.value

pub returns-in-IsSignBit-clause-value : goal.returns-in-IsSignBit-clause-value
returns-in-IsSignBit-clause-value g c = IfOk-weaker c.blast_is_sign_bit.result _ _ (λ made known inputs admitted.
    known inputs admitted ∙ sign-holds (g.C.State.value c.args.c.now inputs) c.args.terms.now c.args.before.now c.args.formula c.in-IsSignBit.a c.at-in-IsSignBit.result.now c.in-IsSignBit.is c.at-in-IsSignBit.ensures)
    c.blast_is_sign_bit.ensures.value

pub returns-in-Not-clause-value : goal.returns-in-Not-clause-value
returns-in-Not-clause-value g c inputs admitted =
    c.not.ensures.value inputs admitted ∙ not-holds (g.C.State.value c.args.c.now inputs) c.args.terms.now c.args.before.now c.args.formula c.in-Not.a c.at-in-Not.result.now c.in-Not.is c.at-in-Not.ensures

pub returns-in-And-clause-value : goal.returns-in-And-clause-value
returns-in-And-clause-value g c = IfOk-weaker c.and.result _ _ (λ made known inputs admitted.
    known inputs admitted ∙ and-holds (g.C.State.value c.args.c.now inputs) c.args.terms.now c.args.before.now c.args.formula c.in-And.a c.in-And.b c.at-in-And.result.now c.at-in-And-2.result.now c.in-And.is c.at-in-And.ensures c.at-in-And-2.ensures)
    c.and.ensures.value

pub returns-in-Or-clause-value : goal.returns-in-Or-clause-value
returns-in-Or-clause-value g c = IfOk-weaker c.or.result _ _ (λ made known inputs admitted.
    known inputs admitted ∙ or-holds (g.C.State.value c.args.c.now inputs) c.args.terms.now c.args.before.now c.args.formula c.in-Or.a c.in-Or.b c.at-in-Or.result.now c.at-in-Or-2.result.now c.in-Or.is c.at-in-Or.ensures c.at-in-Or-2.ensures)
    c.or.ensures.value

pub returns-in-Compare-clause-adds : goal.returns-in-Compare-clause-adds
returns-in-Compare-clause-adds g c =
    let few : comparing_gates (length c.at.result.now.bits) ≤ formula_gates (widths_of c.args.terms.now) c.args.formula = rw (c.in-Compare.is, width_chosen c.args.terms.now c.in-Compare.a c.at.result.now c.at.ensures) (omega arith) in
    Adds-weaken c.blast_compares.ensures.adds few

pub returns-in-IsPowerOfTwo-clause-adds : goal.returns-in-IsPowerOfTwo-clause-adds
returns-in-IsPowerOfTwo-clause-adds g c =
    let few : power_test_gates (length c.at-in-IsPowerOfTwo.result.now.bits) ≤ formula_gates (widths_of c.args.terms.now) c.args.formula = rw (c.in-IsPowerOfTwo.is, width_chosen c.args.terms.now c.in-IsPowerOfTwo.a c.at-in-IsPowerOfTwo.result.now c.at-in-IsPowerOfTwo.ensures) (omega arith) in
    Adds-weaken c.blast_has_one_bit.ensures.adds few

pub returns-in-IsSignBit-clause-adds : goal.returns-in-IsSignBit-clause-adds
returns-in-IsSignBit-clause-adds g c =
    let few : sign_test_gates (length c.at-in-IsSignBit.result.now.bits) ≤ formula_gates (widths_of c.args.terms.now) c.args.formula = rw (c.in-IsSignBit.is, width_chosen c.args.terms.now c.in-IsSignBit.a c.at-in-IsSignBit.result.now c.at-in-IsSignBit.ensures) (omega arith) in
    Adds-weaken c.blast_is_sign_bit.ensures.adds few

pub returns-in-HasOneUse-clause-adds : goal.returns-in-HasOneUse-clause-adds
returns-in-HasOneUse-clause-adds g c = Adds-weaken Adds-refl (omega arith)

pub returns-in-MaskedValueIsZero-clause-adds : goal.returns-in-MaskedValueIsZero-clause-adds
returns-in-MaskedValueIsZero-clause-adds g c = Adds-weaken Adds-refl (omega arith)

pub returns-in-IsKnownNonZero-clause-adds : goal.returns-in-IsKnownNonZero-clause-adds
returns-in-IsKnownNonZero-clause-adds g c = Adds-weaken Adds-refl (omega arith)

pub returns-in-Not-clause-adds : goal.returns-in-Not-clause-adds
returns-in-Not-clause-adds g c = Adds-weaken Adds-refl (omega arith)

pub returns-in-And-clause-adds : goal.returns-in-And-clause-adds
returns-in-And-clause-adds g c = rw c.in-And.is c.and.ensures.adds

pub returns-in-Or-clause-adds : goal.returns-in-Or-clause-adds
returns-in-Or-clause-adds g c = rw c.in-Or.is c.or.ensures.adds
