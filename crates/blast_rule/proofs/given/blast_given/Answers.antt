use Rattle.blast_rule.proofs.Common.{◌≡◌, [], map, refl, ap, ◌∙◌, arith, All, Adds-trans, Adds-weaken, of_constants, number_or_zero, constant_values, held_value, widths_of, IsOwn, Scope, widths_of_terms, number_held, AllAll-kept, AllOwn-kept, numbers_of-kept, values-kept, precondition_holds, nothing_held}
use Rattle.blast_rule.proofs.Ready.{constant_terms_held, precondition_held}
use Rattle.blast_rule.proofs.Runs.{own_none}
use Rattle.blast_rule.proofs.given.blast_given.Goals as goal

pub blast_terms-requires-clause-ready : goal.blast_terms-requires-clause-ready
blast_terms-requires-clause-ready g c =
    let scope : Scope _ = record {
      inputs = record { ref_ptr = (c.scope-1.given.0, 0); now = [] };
      source = record { ref_ptr = (c.scope-2-1.given.0, 0); now = [] };
      target = record { ref_ptr = (c.scope-3-1.given.0, 0); now = [] };
      constants = c.args.constants;
      choices = record { ref_ptr = (c.scope-4-1.given.0, 0); now = [] };
      terms = record { ref_ptr = (c.scope-5-1.given.0, 0); now = [] };
    } in
    rw c.as_slice.ensures (constant_terms_held c.args.rule.now c.args.typing.now c.requires.rule c.requires.typing scope c.requires.widths)

pub blast_terms-requires-clause-own : goal.blast_terms-requires-clause-own
blast_terms-requires-clause-own g c =
    let has_literal = g.C.State.has_literal c.args.c.now in record {
      inputs = own_none (IsOwn has_literal);
      source = own_none (IsOwn has_literal);
      target = own_none (IsOwn has_literal);
      constants = c.requires.own;
      choices = own_none (All has_literal);
      terms = own_none (All has_literal);
    }

pub numbers_or_zeros-requires : goal.numbers_or_zeros-requires
numbers_or_zeros-requires g c = rw c.deref.ensures.value c.in_ok-values.ensures.own

pub blast_precondition-requires-clause-own : goal.blast_precondition-requires-clause-own
blast_precondition-requires-clause-own g c =
    rw c.deref-2.ensures.value (AllOwn-kept c.numbers_or_zeros.ensures.adds.keeps c.in_ok-values.values.items c.in_ok-values.ensures.own)

pub blast_precondition-requires-clause-ready : goal.blast_precondition-requires-clause-ready
blast_precondition-requires-clause-ready g c =
    let widths : widths_of c.in_ok-values.values.items ≡ widths_of_terms c.args.rule.now c.args.typing.now = rw c.as_slice.ensures at c.in_ok-values.ensures.widths in
    rw (c.deref-2.ensures.value, c.as_slice-2.ensures, widths) (precondition_held c.args.rule.now c.args.typing.now c.requires.rule c.requires.typing)

pub returns-in_err-values-clause-adds : goal.returns-in_err-values-clause-adds
returns-in_err-values-clause-adds g c = Adds-weaken (rw c.as_slice.ensures at c.blast_terms.ensures.adds) (omega arith)

pub returns-in_err-terms-clause-adds : goal.returns-in_err-terms-clause-adds
returns-in_err-terms-clause-adds g c =
    let widths : widths_of c.in_ok-values.values.items ≡ widths_of_terms c.args.rule.now c.args.typing.now = rw c.as_slice.ensures at c.in_ok-values.ensures.widths in
    Adds-weaken (Adds-trans (rw c.as_slice.ensures at c.blast_terms.ensures.adds) (rw (c.deref.ensures.value, widths) at c.numbers_or_zeros.ensures.adds)) (omega arith)

pub returns-in_err-met-clause-adds : goal.returns-in_err-met-clause-adds
returns-in_err-met-clause-adds g c =
    let widths : widths_of c.in_ok-values.values.items ≡ widths_of_terms c.args.rule.now c.args.typing.now = rw c.as_slice.ensures at c.in_ok-values.ensures.widths in
    let first = Adds-trans (rw c.as_slice.ensures at c.blast_terms.ensures.adds) (rw (c.deref.ensures.value, widths) at c.numbers_or_zeros.ensures.adds) in
    Adds-weaken (Adds-trans first (rw (c.deref-2.ensures.value, c.as_slice-2.ensures, widths) at c.blast_precondition.ensures.adds)) (omega arith)

pub returns-clause-terms : goal.returns-clause-terms
returns-clause-terms g c = λ inputs admitted.
    let m = g.C.State in
    let start = m.value c.args.c.now inputs in
    let constants = map (number_held start) c.args.constants.now in
    let first = c.blast_terms.ensures.adds.keeps.admitted inputs admitted in
    let second = c.numbers_or_zeros.ensures.adds.keeps.admitted inputs first in
    let words = c.in_ok-terms.terms.items in
    let values : map (held_value (m.value c.blast_terms.new.c inputs)) c.in_ok-values.values.items ≡ constant_values c.args.typing.now constants c.args.rule.now =
    rw c.as_slice.ensures at (c.in_ok-values.ensures.values inputs (of_constants constants) admitted (record { constants = refl; choices = refl; registers = nothing_held })) in
    rw c.from_vec.ensures
    (numbers_of-kept c.blast_precondition.ensures.adds.keeps inputs second words c.in_ok-terms.ensures.own
    ∙ rw c.deref.ensures.value at (c.in_ok-terms.ensures.numbers inputs first)
    ∙ ap (map number_or_zero) values)

pub returns-clause-met : goal.returns-clause-met
returns-clause-met g c = λ inputs admitted.
    let m = g.C.State in
    let start = m.value c.args.c.now inputs in
    let constants = map (number_held start) c.args.constants.now in
    let first = c.blast_terms.ensures.adds.keeps.admitted inputs admitted in
    let second = c.numbers_or_zeros.ensures.adds.keeps.admitted inputs first in
    let items = c.in_ok-values.values.items in
    let values : map (held_value (m.value c.blast_terms.new.c inputs)) items ≡ constant_values c.args.typing.now constants c.args.rule.now =
    rw c.as_slice.ensures at (c.in_ok-values.ensures.values inputs (of_constants constants) admitted (record { constants = refl; choices = refl; registers = nothing_held })) in
    let now = values-kept c.numbers_or_zeros.ensures.adds.keeps inputs first items c.in_ok-values.ensures.own ∙ values in
    precondition_holds c.args.rule.now c.args.typing.now constants (map (held_value (m.value c.numbers_or_zeros.new.c inputs)) items) (m.value c.blast_precondition.new.c inputs c.in_ok-met.met) now
    (rw (c.deref-2.ensures.value, c.as_slice-2.ensures) at (c.in_ok-met.ensures.value inputs second))

pub returns-clause-adds : goal.returns-clause-adds
returns-clause-adds g c =
    let widths : widths_of c.in_ok-values.values.items ≡ widths_of_terms c.args.rule.now c.args.typing.now = rw c.as_slice.ensures at c.in_ok-values.ensures.widths in
    let first = Adds-trans (rw c.as_slice.ensures at c.blast_terms.ensures.adds) (rw (c.deref.ensures.value, widths) at c.numbers_or_zeros.ensures.adds) in
    Adds-weaken (Adds-trans first (rw (c.deref-2.ensures.value, c.as_slice-2.ensures, widths) at c.blast_precondition.ensures.adds)) (omega arith)

pub returns-clause-widths : goal.returns-clause-widths
returns-clause-widths g c =
    let widths : widths_of c.in_ok-values.values.items ≡ widths_of_terms c.args.rule.now c.args.typing.now = rw c.as_slice.ensures at c.in_ok-values.ensures.widths in
    rw c.from_vec.ensures (rw c.deref.ensures.value at c.in_ok-terms.ensures.widths ∙ widths)

pub returns-clause-own_terms : goal.returns-clause-own_terms
returns-clause-own_terms g c = rw c.from_vec.ensures (AllAll-kept c.blast_precondition.ensures.adds.keeps c.in_ok-terms.terms.items c.in_ok-terms.ensures.own)

pub returns-clause-own_met : goal.returns-clause-own_met
returns-clause-own_met g c = c.in_ok-met.ensures.own
