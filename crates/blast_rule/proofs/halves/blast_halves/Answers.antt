use Rattle.blast_rule.proofs.Common.{◌≡◌, ◌↔◌, ◌&&◌, ◌||◌, [], map, refl, sym, ap, subst, ◌∙◌, All, IsTrue, number_of, Adds-trans, Adds-weaken, facts_hold, KeepsFacts, Setting, temporaries_of, given_by, IsOwn, AllOwn-kept, AllAll-kept, IsOwnEffect-kept, numbers_of-kept, Scope, holds, ScopeIsOwn, scope_own-kept, seen-kept, setting_held, setting-kept, run_gates, root_gates, witness_gates, said_gates, setting_seen, AreTerms, IsGiven, TemporariesRan}
use Rattle.blast_rule.proofs.Scopes.{given_shape_of}
use Rattle.blast_rule.proofs.Shapes.{inputs_stand, before_root_stands}
use Rattle.blast_rule.proofs.Runs.{own_none}
use Rattle.blast_rule.proofs.Sharing.{first, unsaid, all, source_shared}
use Rattle.blast_rule.proofs.Facts.{facts_held}
use Rattle.blast_rule.proofs.Joined.{keeps_facts}
use Rattle.blast_rule.proofs.Whole.{effects-kept}
use Rattle.blast_rule.proofs.halves.blast_halves.Goals as goal

pub blast_temporaries-requires-clause-rule : goal.blast_temporaries-requires-clause-rule
blast_temporaries-requires-clause-rule g c = c.requires.rule

pub blast_temporaries-requires-clause-typing : goal.blast_temporaries-requires-clause-typing
blast_temporaries-requires-clause-typing g c = c.requires.typing

pub blast_temporaries-requires-clause-inputs : goal.blast_temporaries-requires-clause-inputs
blast_temporaries-requires-clause-inputs g c =
    rw c.scope_of-start.ensures.inputs (inputs_stand c.args.rule.now c.args.typing.now c.requires.rule c.requires.typing c.args.setting.now.inputs c.requires.widths.inputs)

pub blast_temporaries-requires-clause-given : goal.blast_temporaries-requires-clause-given
blast_temporaries-requires-clause-given g c =
    let setting = c.args.setting.now in
    let start = c.scope_of-start.ensures in
    rw (given_shape_of c.scope_of-start.result setting.inputs [] [] setting.constants [] c.args.terms.now
    (record { inputs_are = start.inputs; source_are = start.source; target_are = start.target; constants_are = start.constants; choices_are = start.choices; terms_are = start.terms }))
    (before_root_stands c.args.rule.now c.args.typing.now c.requires.rule c.requires.typing setting.inputs setting.constants setting.target_choices c.args.terms.now
    c.requires.widths.inputs c.requires.widths.constants c.requires.widths.target_choices c.requires.widths_of_terms [])

pub blast_temporaries-requires-clause-own : goal.blast_temporaries-requires-clause-own
blast_temporaries-requires-clause-own g c =
    let literals = g.C.State.has_literal c.args.c.now in
    let own = c.requires.own in
    let start = c.scope_of-start.ensures in
    record {
      inputs = rw start.inputs own.inputs;
      source = rw start.source (own_none (IsOwn literals));
      target = rw start.target (own_none (IsOwn literals));
      constants = rw start.constants own.constants;
      choices = rw start.choices (own_none (All literals));
      terms = rw start.terms c.requires.own_terms;
    }

pub returns-in_err-temporaries-clause-adds : goal.returns-in_err-temporaries-clause-adds
returns-in_err-temporaries-clause-adds g c =
    let rule = c.args.rule.now in
    let typing = c.args.typing.now in
    Adds-weaken c.blast_temporaries.ensures.adds
    (first (witness_gates rule typing) (run_gates typing (temporaries_of rule)) (root_gates rule typing) (run_gates typing rule.source) (run_gates typing rule.target) (said_gates rule typing) (source_shared rule typing c.requires.rule.source_root))

pub after_temporaries-requires-clause-rule : goal.after_temporaries-requires-clause-rule
after_temporaries-requires-clause-rule g c = c.requires.rule

pub after_temporaries-requires-clause-typing : goal.after_temporaries-requires-clause-typing
after_temporaries-requires-clause-typing g c = c.requires.typing

pub after_temporaries-requires-clause-inputs : goal.after_temporaries-requires-clause-inputs
after_temporaries-requires-clause-inputs g c = rw c.scope_of-start.ensures.inputs c.requires.widths.inputs

pub after_temporaries-requires-clause-constants : goal.after_temporaries-requires-clause-constants
after_temporaries-requires-clause-constants g c = rw c.scope_of-start.ensures.constants c.requires.widths.constants

pub after_temporaries-requires-clause-choices : goal.after_temporaries-requires-clause-choices
after_temporaries-requires-clause-choices g c = rw c.as_slice.ensures c.requires.widths.target_choices

pub after_temporaries-requires-clause-terms : goal.after_temporaries-requires-clause-terms
after_temporaries-requires-clause-terms g c = rw c.scope_of-start.ensures.terms c.requires.widths_of_terms

pub after_temporaries-requires-clause-target : goal.after_temporaries-requires-clause-target
after_temporaries-requires-clause-target g c = c.scope_of-start.ensures.target

pub after_temporaries-requires-clause-source : goal.after_temporaries-requires-clause-source
after_temporaries-requires-clause-source g c = rw c.deref.ensures.value c.in_ok-temporaries.ensures.fit

pub after_temporaries-requires-clause-count : goal.after_temporaries-requires-clause-count
after_temporaries-requires-clause-count g c = rw c.deref.ensures.value c.in_ok-temporaries.ensures.count

pub after_temporaries-requires-clause-own : goal.after_temporaries-requires-clause-own
after_temporaries-requires-clause-own g c =
    let own = c.requires.own in
    let setting = c.args.setting.now in
    let start = c.scope_of-start.ensures in
    let keeps = c.blast_temporaries.ensures.adds.keeps in
    record {
      inputs = rw start.inputs (AllOwn-kept keeps setting.inputs own.inputs);
      source = rw c.deref.ensures.value c.in_ok-temporaries.ensures.own;
      target = rw start.target (own_none (IsOwn (g.C.State.has_literal c.blast_temporaries.new.c)));
      constants = rw start.constants (AllAll-kept keeps setting.constants own.constants);
      choices = rw c.as_slice.ensures (AllAll-kept keeps setting.target_choices own.target_choices);
      terms = rw start.terms (AllAll-kept keeps c.args.terms.now c.requires.own_terms);
    }

pub after_temporaries-requires-clause-own_undefined : goal.after_temporaries-requires-clause-own_undefined
after_temporaries-requires-clause-own_undefined g c = c.in_ok-temporaries.ensures.own_undefined

pub returns-in_err-halves-clause-adds : goal.returns-in_err-halves-clause-adds
returns-in_err-halves-clause-adds g c =
    let rule = c.args.rule.now in
    let typing = c.args.typing.now in
    Adds-weaken (Adds-trans c.blast_temporaries.ensures.adds c.after_temporaries.ensures.adds)
    (unsaid (witness_gates rule typing) (run_gates typing (temporaries_of rule)) (root_gates rule typing) (run_gates typing rule.source) (run_gates typing rule.target) (said_gates rule typing) (source_shared rule typing c.requires.rule.source_root))

pub blast_facts-requires-clause-ready : goal.blast_facts-requires-clause-ready
blast_facts-requires-clause-ready g c =
    let rule = c.args.rule.now in
    let typing = c.args.typing.now in
    let start = c.scope_of-start.ensures in
    let before : Scope _ = record { inputs = c.scope_of-start.result.inputs; source = c.deref.result; target = c.scope_of-start.result.target; constants = c.scope_of-start.result.constants; choices = c.as_slice.result; terms = c.scope_of-start.result.terms } in
    rw c.as_slice-formulas.ensures
    (facts_held rule typing c.requires.rule c.requires.typing before
    (rw start.inputs (inputs_stand rule typing c.requires.rule c.requires.typing c.args.setting.now.inputs c.requires.widths.inputs))
    (rw c.deref.ensures.value c.in_ok-temporaries.ensures.fit) (rw c.deref.ensures.value c.in_ok-temporaries.ensures.count) (rw start.terms c.requires.widths_of_terms))

pub blast_facts-requires-clause-own : goal.blast_facts-requires-clause-own
blast_facts-requires-clause-own g c =
    let own = c.requires.own in
    let setting = c.args.setting.now in
    let start = c.scope_of-start.ensures in
    let keeps = c.blast_temporaries.ensures.adds.keeps in
    let before : Scope _ = record { inputs = c.scope_of-start.result.inputs; source = c.deref.result; target = c.scope_of-start.result.target; constants = c.scope_of-start.result.constants; choices = c.as_slice.result; terms = c.scope_of-start.result.terms } in
    scope_own-kept c.after_temporaries.ensures.adds.keeps before
    (record {
      inputs = rw start.inputs (AllOwn-kept keeps setting.inputs own.inputs);
      source = rw c.deref.ensures.value c.in_ok-temporaries.ensures.own;
      target = rw start.target (own_none (IsOwn (g.C.State.has_literal c.blast_temporaries.new.c)));
      constants = rw start.constants (AllAll-kept keeps setting.constants own.constants);
      choices = rw c.as_slice.ensures (AllAll-kept keeps setting.target_choices own.target_choices);
      terms = rw start.terms (AllAll-kept keeps c.args.terms.now c.requires.own_terms);
    })

pub blast_facts-requires-clause-own_undefined : goal.blast_facts-requires-clause-own_undefined
blast_facts-requires-clause-own_undefined g c = c.after_temporaries.ensures.adds.keeps.literals c.in_ok-temporaries.temporaries.undefined c.in_ok-temporaries.ensures.own_undefined

pub blast_facts-requires-clause-own_met : goal.blast_facts-requires-clause-own_met
blast_facts-requires-clause-own_met g c = c.after_temporaries.ensures.adds.keeps.literals c.args.met (c.blast_temporaries.ensures.adds.keeps.literals c.args.met c.requires.own_met)

pub returns-in_err-met-clause-adds : goal.returns-in_err-met-clause-adds
returns-in_err-met-clause-adds g c =
    let rule = c.args.rule.now in
    let typing = c.args.typing.now in
    let facts = rw (c.as_slice-formulas.ensures, c.scope_of-start.ensures.terms, c.requires.widths_of_terms) at c.blast_facts.ensures.adds in
    Adds-weaken (Adds-trans (Adds-trans c.blast_temporaries.ensures.adds c.after_temporaries.ensures.adds) facts)
    (all (witness_gates rule typing) (run_gates typing (temporaries_of rule)) (root_gates rule typing) (run_gates typing rule.source) (run_gates typing rule.target) (said_gates rule typing) (source_shared rule typing c.requires.rule.source_root))

pub returns-clause-met : goal.returns-clause-met
returns-clause-met g c = λ inputs at admitted is.
    let v = g.C.State.value in
    let rule = c.args.rule.now in
    let typing = c.args.typing.now in
    let terms = c.args.terms.now in
    let setting = c.args.setting.now in
    let own = c.requires.own in
    let start = c.scope_of-start.ensures in
    let made = c.in_ok-temporaries.temporaries in
    let first_keeps = c.blast_temporaries.ensures.adds.keeps in
    let second_keeps = c.after_temporaries.ensures.adds.keeps in
    let one = first_keeps.admitted inputs admitted in
    let two = second_keeps.admitted inputs one in
    let mid = v c.blast_temporaries.new.c inputs in
    let before : Scope _ = record { inputs = c.scope_of-start.result.inputs; source = c.deref.result; target = c.scope_of-start.result.target; constants = c.scope_of-start.result.constants; choices = c.as_slice.result; terms = c.scope_of-start.result.terms } in
    let own_before : ScopeIsOwn (g.C.State.has_literal c.blast_temporaries.new.c) before =
    record {
      inputs = rw start.inputs (AllOwn-kept first_keeps setting.inputs own.inputs);
      source = rw c.deref.ensures.value c.in_ok-temporaries.ensures.own;
      target = rw start.target (own_none (IsOwn (g.C.State.has_literal c.blast_temporaries.new.c)));
      constants = rw start.constants (AllAll-kept first_keeps setting.constants own.constants);
      choices = rw c.as_slice.ensures (AllAll-kept first_keeps setting.target_choices own.target_choices);
      terms = rw start.terms (AllAll-kept first_keeps terms c.requires.own_terms);
    } in
    let met_kept : v c.after_temporaries.new.c inputs c.args.met ≡ v c.args.c.now inputs c.args.met = second_keeps.values inputs c.args.met one (first_keeps.literals c.args.met c.requires.own_met) ∙ first_keeps.values inputs c.args.met admitted c.requires.own_met in
    let undefined_kept : v c.after_temporaries.new.c inputs made.undefined ≡ mid made.undefined = second_keeps.values inputs made.undefined one c.in_ok-temporaries.ensures.own_undefined in
    let said : v c.blast_facts.new.c inputs c.in_ok-met.met ≡ (v c.args.c.now inputs c.args.met && (mid made.undefined || facts_hold (holds mid setting.inputs made.held.items []) (map (number_of mid) terms) rule.precondition)) =
    rw (met_kept, undefined_kept, seen-kept second_keeps inputs one before own_before, numbers_of-kept second_keeps inputs one before.terms.now own_before.terms, c.as_slice-formulas.ensures, start.inputs, start.target, start.terms, c.deref.ensures.value) at (c.in_ok-met.ensures.value inputs two) in
    subst (λ (s : Setting). AreTerms (v c.args.c.now inputs) rule typing s.constants terms → IsTrue (v c.blast_facts.new.c inputs c.in_ok-met.met) ↔ (IsTrue (v c.args.c.now inputs c.args.met) × KeepsFacts rule typing s.constants s.inputs)) is
    (λ terms_are.
    let constants = (setting_held (v c.args.c.now inputs) setting).constants in
    let given : IsGiven (v c.args.c.now inputs) c.scope_of-start.result (given_by typing constants [] rule) = record { constants = rw start.constants refl; choices = rw start.choices refl; terms = rw start.terms (sym terms_are) } in
    let ran : TemporariesRan mid rule typing (given_by typing constants [] rule) setting.inputs made.held.items made.undefined =
    rw start.inputs at (c.in_ok-temporaries.ensures.ran inputs (given_by typing constants [] rule) admitted given) in
    keeps_facts first_keeps inputs admitted rule typing c.requires.rule setting.inputs made.held.items setting.constants setting.target_choices terms made.undefined own.inputs own.constants own.target_choices
    ran terms (numbers_of-kept first_keeps inputs admitted terms c.requires.own_terms ∙ terms_are) (v c.args.c.now inputs c.args.met) (v c.blast_facts.new.c inputs c.in_ok-met.met) said)

pub returns-clause-effects : goal.returns-clause-effects
returns-clause-effects g c = λ inputs at admitted is terms_are.
    let v = g.C.State.value in
    let rule = c.args.rule.now in
    let typing = c.args.typing.now in
    let terms = c.args.terms.now in
    let start = c.scope_of-start.ensures in
    let made = c.in_ok-temporaries.temporaries in
    let halves = c.in_ok-halves.halves in
    let keeps = c.blast_temporaries.ensures.adds.keeps in
    let one = keeps.admitted inputs admitted in
    let two = c.after_temporaries.ensures.adds.keeps.admitted inputs one in
    let before : Scope _ = record { inputs = c.scope_of-start.result.inputs; source = c.deref.result; target = c.scope_of-start.result.target; constants = c.scope_of-start.result.constants; choices = c.as_slice.result; terms = c.scope_of-start.result.terms } in
    let now = v c.blast_temporaries.new.c inputs in
    let same : setting_seen now before ≡ at = rw (start.inputs, start.constants, c.as_slice.ensures) (setting-kept keeps inputs admitted c.args.setting.now c.requires.own ∙ is) in
    let terms_now : AreTerms now rule typing at.constants before.terms.now = rw start.terms (numbers_of-kept keeps inputs admitted terms c.requires.own_terms ∙ terms_are) in
    let given : IsGiven (v c.args.c.now inputs) c.scope_of-start.result (given_by typing at.constants [] rule) =
    record { constants = rw start.constants (ap (λ s. s.constants) (sym is)); choices = rw start.choices refl; terms = rw start.terms (sym terms_are) } in
    let ran : TemporariesRan now rule typing (given_by typing at.constants [] rule) before.inputs.now before.source.now made.undefined =
    rw c.deref.ensures.value (c.in_ok-temporaries.ensures.ran inputs (given_by typing at.constants [] rule) admitted given) in
    effects-kept c.blast_facts.ensures.adds.keeps inputs two rule typing at halves.choices halves.source halves.target
    c.in_ok-halves.ensures.own_choices c.in_ok-halves.ensures.own_source c.in_ok-halves.ensures.own_target (c.in_ok-halves.ensures.effects inputs at one same terms_now ran)

pub returns-clause-source_width : goal.returns-clause-source_width
returns-clause-source_width g c = c.in_ok-halves.ensures.source_width

pub returns-clause-target_width : goal.returns-clause-target_width
returns-clause-target_width g c = c.in_ok-halves.ensures.target_width

pub returns-clause-own_met : goal.returns-clause-own_met
returns-clause-own_met g c = c.in_ok-met.ensures.own

pub returns-clause-own_choices : goal.returns-clause-own_choices
returns-clause-own_choices g c = AllAll-kept c.blast_facts.ensures.adds.keeps c.in_ok-halves.halves.choices c.in_ok-halves.ensures.own_choices

pub returns-clause-own_source : goal.returns-clause-own_source
returns-clause-own_source g c = IsOwnEffect-kept c.blast_facts.ensures.adds.keeps c.in_ok-halves.halves.source c.in_ok-halves.ensures.own_source

pub returns-clause-own_target : goal.returns-clause-own_target
returns-clause-own_target g c = IsOwnEffect-kept c.blast_facts.ensures.adds.keeps c.in_ok-halves.halves.target c.in_ok-halves.ensures.own_target

pub returns-clause-adds : goal.returns-clause-adds
returns-clause-adds g c =
    let rule = c.args.rule.now in
    let typing = c.args.typing.now in
    let facts = rw (c.as_slice-formulas.ensures, c.scope_of-start.ensures.terms, c.requires.widths_of_terms) at c.blast_facts.ensures.adds in
    Adds-weaken (Adds-trans (Adds-trans c.blast_temporaries.ensures.adds c.after_temporaries.ensures.adds) facts)
    (all (witness_gates rule typing) (run_gates typing (temporaries_of rule)) (root_gates rule typing) (run_gates typing rule.source) (run_gates typing rule.target) (said_gates rule typing) (source_shared rule typing c.requires.rule.source_root))
