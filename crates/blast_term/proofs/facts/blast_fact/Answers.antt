use Rattle.blast_term.proofs.Common.{length, map, refl, sym, subst, ◌∙◌, arith, All, slice_get_within, IfOk-weaker, number_of, Adds-none, Adds-trans, Adds-weaken, FactIsHeld, seen}
use Rattle.blast_term.proofs.Said.{masked-said, non_zero-said, nothing-said, kept-none, mask-gates, non_zero-gates}
use Rattle.blast_term.proofs.Nodes.{width_of_word, width_of_register, register_own}
use Rattle.blast_term.proofs.Turns.{own_from_get}
use Rattle.blast_term.proofs.facts.blast_fact.Goals as goal

pub register_held-value-requires : goal.register_held-value-requires
register_held-value-requires g c =
    let need = subst (FactIsHeld c.args.scope) c.in-MaskedValueIsZero.is c.requires.ready in
    rw need.1 refl

pub at-requires : goal.at-requires
at-requires g c =
    let need = subst (FactIsHeld c.args.scope) c.in-MaskedValueIsZero.is c.requires.ready in
    slice_get_within c.args.scope.terms.now c.in-MaskedValueIsZero.mask need.2.0 need.2.1

pub blast_masked-requires-clause-same_width : goal.blast_masked-requires-clause-same_width
blast_masked-requires-clause-same_width g c =
    let need = subst (FactIsHeld c.args.scope) c.in-MaskedValueIsZero.is c.requires.ready in
    width_of_word c.args.scope.terms.now c.in-MaskedValueIsZero.mask (length need.0.bits) c.at.result.now need.2 c.at.ensures
    ∙ sym (width_of_register c.args.scope c.in-MaskedValueIsZero.register (length need.0.bits) c.register_held-value.result.now (need.0, need.1, refl) c.register_held-value.ensures)

pub blast_masked-requires-clause-own : goal.blast_masked-requires-clause-own
blast_masked-requires-clause-own g c = register_own (g.C.State.has_literal c.args.c.now) c.args.scope c.in-MaskedValueIsZero.register c.register_held-value.result.now c.requires.own c.register_held-value.ensures

pub blast_masked-requires-clause-own_mask : goal.blast_masked-requires-clause-own_mask
blast_masked-requires-clause-own_mask g c =
    own_from_get (All (g.C.State.has_literal c.args.c.now)) c.args.scope.terms.now c.in-MaskedValueIsZero.mask c.at.result.now c.requires.own.terms c.at.ensures

pub and_unless-requires-clause-own_met : goal.and_unless-requires-clause-own_met
and_unless-requires-clause-own_met g c = c.blast_masked.ensures.adds.keeps.literals c.args.met c.requires.own_met

pub and_unless-requires-clause-own_excuse : goal.and_unless-requires-clause-own_excuse
and_unless-requires-clause-own_excuse g c = c.blast_masked.ensures.adds.keeps.literals c.args.undefined c.requires.own_undefined

pub and_unless-requires-clause-own_holds : goal.and_unless-requires-clause-own_holds
and_unless-requires-clause-own_holds g c = c.in_ok-holds-in-MaskedValueIsZero.ensures.own

pub returns-in_ok-holds-in-MaskedValueIsZero-clause-value : goal.returns-in_ok-holds-in-MaskedValueIsZero-clause-value
returns-in_ok-holds-in-MaskedValueIsZero-clause-value g c = IfOk-weaker c.and_unless.result _ _
    (λ kept known inputs admitted.
    let keeps = c.blast_masked.ensures.adds.keeps in
    let start = g.C.State.value c.args.c.now inputs in
    let said = c.in_ok-holds-in-MaskedValueIsZero.ensures.value inputs admitted ∙ masked-said start c.args.scope c.args.formula c.in-MaskedValueIsZero.register c.in-MaskedValueIsZero.mask c.register_held-value.result.now c.at.result.now c.in-MaskedValueIsZero.is c.register_held-value.ensures c.at.ensures in
    rw (keeps.values inputs c.args.met admitted c.requires.own_met, keeps.values inputs c.args.undefined admitted c.requires.own_undefined, said) at (known inputs (keeps.admitted inputs admitted)))
    c.and_unless.ensures.value

pub returns-in_ok-holds-in-MaskedValueIsZero-clause-own : goal.returns-in_ok-holds-in-MaskedValueIsZero-clause-own
returns-in_ok-holds-in-MaskedValueIsZero-clause-own g c = c.and_unless.ensures.own

pub returns-in_ok-holds-in-MaskedValueIsZero-clause-adds : goal.returns-in_ok-holds-in-MaskedValueIsZero-clause-adds
returns-in_ok-holds-in-MaskedValueIsZero-clause-adds g c =
    Adds-weaken (Adds-trans c.blast_masked.ensures.adds c.and_unless.ensures.adds) (omega (arith, mask-gates c.args.scope.terms.now c.in-MaskedValueIsZero.register c.in-MaskedValueIsZero.mask c.at.result.now c.args.formula c.in-MaskedValueIsZero.is c.at.ensures))

pub returns-in_err-holds-in-MaskedValueIsZero-clause-adds : goal.returns-in_err-holds-in-MaskedValueIsZero-clause-adds
returns-in_err-holds-in-MaskedValueIsZero-clause-adds g c =
    Adds-weaken c.blast_masked.ensures.adds (omega (arith, mask-gates c.args.scope.terms.now c.in-MaskedValueIsZero.register c.in-MaskedValueIsZero.mask c.at.result.now c.args.formula c.in-MaskedValueIsZero.is c.at.ensures))

pub register_held-requires : goal.register_held-requires
register_held-requires g c =
    let need = subst (FactIsHeld c.args.scope) c.in-IsKnownNonZero.is c.requires.ready in
    rw need.1 refl

pub blast_non_zero-requires : goal.blast_non_zero-requires
blast_non_zero-requires g c = record { own = register_own (g.C.State.has_literal c.args.c.now) c.args.scope c.in-IsKnownNonZero.register c.register_held.result.now c.requires.own c.register_held.ensures }

pub and_unless-requires-in-IsKnownNonZero-clause-own_met : goal.and_unless-requires-in-IsKnownNonZero-clause-own_met
and_unless-requires-in-IsKnownNonZero-clause-own_met g c = c.blast_non_zero.ensures.adds.keeps.literals c.args.met c.requires.own_met

pub and_unless-requires-in-IsKnownNonZero-clause-own_excuse : goal.and_unless-requires-in-IsKnownNonZero-clause-own_excuse
and_unless-requires-in-IsKnownNonZero-clause-own_excuse g c = c.blast_non_zero.ensures.adds.keeps.literals c.args.undefined c.requires.own_undefined

pub and_unless-requires-in-IsKnownNonZero-clause-own_holds : goal.and_unless-requires-in-IsKnownNonZero-clause-own_holds
and_unless-requires-in-IsKnownNonZero-clause-own_holds g c = c.in_ok-holds-in-IsKnownNonZero.ensures.own

pub returns-in_ok-holds-in-IsKnownNonZero-clause-value : goal.returns-in_ok-holds-in-IsKnownNonZero-clause-value
returns-in_ok-holds-in-IsKnownNonZero-clause-value g c = IfOk-weaker c.and_unless-in-IsKnownNonZero.result _ _
    (λ kept known inputs admitted.
    let keeps = c.blast_non_zero.ensures.adds.keeps in
    let start = g.C.State.value c.args.c.now inputs in
    let said = c.in_ok-holds-in-IsKnownNonZero.ensures.value inputs admitted ∙ non_zero-said start c.args.scope c.args.formula c.in-IsKnownNonZero.register c.register_held.result.now c.in-IsKnownNonZero.is c.register_held.ensures in
    rw (keeps.values inputs c.args.met admitted c.requires.own_met, keeps.values inputs c.args.undefined admitted c.requires.own_undefined, said) at (known inputs (keeps.admitted inputs admitted)))
    c.and_unless-in-IsKnownNonZero.ensures.value

pub returns-in_ok-holds-in-IsKnownNonZero-clause-own : goal.returns-in_ok-holds-in-IsKnownNonZero-clause-own
returns-in_ok-holds-in-IsKnownNonZero-clause-own g c = c.and_unless-in-IsKnownNonZero.ensures.own

pub returns-in_ok-holds-in-IsKnownNonZero-clause-adds : goal.returns-in_ok-holds-in-IsKnownNonZero-clause-adds
returns-in_ok-holds-in-IsKnownNonZero-clause-adds g c =
    let need = subst (FactIsHeld c.args.scope) c.in-IsKnownNonZero.is c.requires.ready in
    let same = width_of_register c.args.scope c.in-IsKnownNonZero.register (length need.0.bits) c.register_held.result.now (need.0, need.1, refl) c.register_held.ensures in
    Adds-weaken (Adds-trans c.blast_non_zero.ensures.adds c.and_unless-in-IsKnownNonZero.ensures.adds)
    (omega (arith, same, non_zero-gates (map length c.args.scope.terms.now) c.in-IsKnownNonZero.register c.args.formula (length need.0.bits) c.in-IsKnownNonZero.is need.2))

pub returns-in_err-holds-in-IsKnownNonZero-clause-adds : goal.returns-in_err-holds-in-IsKnownNonZero-clause-adds
returns-in_err-holds-in-IsKnownNonZero-clause-adds g c =
    let need = subst (FactIsHeld c.args.scope) c.in-IsKnownNonZero.is c.requires.ready in
    let same = width_of_register c.args.scope c.in-IsKnownNonZero.register (length need.0.bits) c.register_held.result.now (need.0, need.1, refl) c.register_held.ensures in
    Adds-weaken c.blast_non_zero.ensures.adds
    (omega (arith, same, non_zero-gates (map length c.args.scope.terms.now) c.in-IsKnownNonZero.register c.args.formula (length need.0.bits) c.in-IsKnownNonZero.is need.2))

pub returns-in_default-clause-value : goal.returns-in_default-clause-value
returns-in_default-clause-value g c = λ inputs admitted.
    let start = g.C.State.value c.args.c.now inputs in
    rw (nothing-said (seen start c.args.scope) (map (number_of start) c.args.scope.terms.now) c.args.formula c.in_default.not-MaskedValueIsZero c.in_default.not-IsKnownNonZero) (kept-none (start c.args.met) (start c.args.undefined))

pub returns-in_default-clause-own : goal.returns-in_default-clause-own
returns-in_default-clause-own g c = c.requires.own_met

pub returns-in_default-clause-adds : goal.returns-in_default-clause-adds
returns-in_default-clause-adds g c = Adds-none
