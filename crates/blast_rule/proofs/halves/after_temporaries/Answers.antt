use Rattle.blast_rule.proofs.Common.{◌≡◌, ◌-◌, [], length, map, take, refl, sym, ap, subst, ◌∙◌, arith, get_or, length-map, slice_get-get_or, Keeps, Keeps-refl, Keeps-trans, Adds-trans, Adds-weaken, given_by, StatementGives, Setting, HaveEffects, source_next, Contains-take, effect_of, number_held, AllAll-kept, IsOwnEffect-kept, numbers_held-kept, Scope, scope_own-kept, run_gates, root_gates, statement_gates, witness_gates, shape, setting_seen, AreTerms, TemporariesRan}
use Rattle.blast_rule.proofs.Scopes.{Reads, seen_of}
use Rattle.blast_rule.proofs.Shapes.{inputs_stand, constants_stand, target_choices_stand, source_stands, target_stands}
use Rattle.blast_rule.proofs.Chosen.{witness_terms_held}
use Rattle.blast_rule.proofs.Runs.{stands}
use Rattle.blast_rule.proofs.Effects.{parts, source_width}
use Rattle.blast_rule.proofs.Joined.{chooses, is_given, source_effect, target_effect}
use Rattle.blast_rule.proofs.Sharing.{early, middle, late, whole, root_gates-are}
use Rattle.blast_rule.proofs.halves.after_temporaries.Goals as goal

pub blast_witness-requires-clause-ready : goal.blast_witness-requires-clause-ready
blast_witness-requires-clause-ready g c =
    let rule = c.args.rule.now in
    let typing = c.args.typing.now in
    let before = c.args.before in
    witness_terms_held rule typing c.requires.rule c.requires.typing before
    (inputs_stand rule typing c.requires.rule c.requires.typing before.inputs.now c.requires.inputs) c.requires.source c.requires.count
    (constants_stand rule typing c.requires.rule c.requires.typing before.constants.now c.requires.constants)
    (target_choices_stand rule typing c.requires.rule c.requires.typing before.choices.now c.requires.choices)

pub blast_witness-requires-clause-there : goal.blast_witness-requires-clause-there
blast_witness-requires-clause-there g c = λ k d below.
    let places = c.args.rule.now.witnesses in
    c.requires.rule.witnesses_there k (get_or places k d) (slice_get-get_or places k d below)

pub blast_witness-requires-clause-own : goal.blast_witness-requires-clause-own
blast_witness-requires-clause-own g c = c.requires.own

pub returns-in_err-choices-clause-adds : goal.returns-in_err-choices-clause-adds
returns-in_err-choices-clause-adds g c =
    let rule = c.args.rule.now in
    let typing = c.args.typing.now in
    Adds-weaken c.blast_witness.ensures.adds (early (witness_gates rule typing) (root_gates rule typing) (run_gates typing rule.target))

pub blast_next-requires-clause-ready : goal.blast_next-requires-clause-ready
blast_next-requires-clause-ready g c =
    let rule = c.args.rule.now in
    let typing = c.args.typing.now in
    let before = c.args.before in
    let k = length rule.source - 1 in
    let root = c.index-as_slice-len.result in
    let place = rw c.len.ensures at c.index-as_slice-len.is in
    let at = stands rule.source c.as_slice-2.result.now k root c.as_slice-2.ensures (omega (arith, c.requires.rule.source_root)) place in
    let is = Contains-take rule.source (length rule.source) k root (omega (arith, c.requires.rule.source_root)) at in
    rw (c.requires.target, c.as_slice.ensures)
    (source_next rule typing (take (length rule.source) rule.source) _ (map shape before.inputs.now) (map shape before.source.now) k root c.requires.rule c.requires.typing
    (source_stands rule typing c.requires.rule c.requires.typing before.inputs.now before.constants.now before.choices.now before.terms.now
    c.requires.inputs c.requires.constants c.requires.choices c.requires.terms c.in_ok-choices.choices c.in_ok-choices.ensures.widths)
    (inputs_stand rule typing c.requires.rule c.requires.typing before.inputs.now c.requires.inputs) c.requires.source
    (omega (arith, length-map before.source.now shape, c.requires.count)) at is)

pub blast_next-requires-clause-own : goal.blast_next-requires-clause-own
blast_next-requires-clause-own g c =
    let own = scope_own-kept c.blast_witness.ensures.adds.keeps c.args.before c.requires.own in
    record {
      inputs = own.inputs;
      source = own.source;
      target = own.target;
      constants = own.constants;
      choices = rw c.as_slice.ensures c.in_ok-choices.ensures.own;
      terms = own.terms;
    }

pub blast_next-requires-clause-own_undefined : goal.blast_next-requires-clause-own_undefined
blast_next-requires-clause-own_undefined g c = c.blast_witness.ensures.adds.keeps.literals c.args.undefined c.requires.own_undefined

pub returns-in_err-source-clause-adds : goal.returns-in_err-source-clause-adds
returns-in_err-source-clause-adds g c =
    let rule = c.args.rule.now in
    let typing = c.args.typing.now in
    let root = c.index-as_slice-len.result in
    let is = rw (c.len.ensures, c.as_slice-2.ensures) at c.index-as_slice-len.is in
    Adds-weaken (Adds-trans c.blast_witness.ensures.adds c.blast_next.ensures.adds)
    (middle (witness_gates rule typing) (root_gates rule typing) (statement_gates typing root) (run_gates typing rule.target) (root_gates-are rule typing root c.requires.rule.source_root is))

pub blast_target-requires-clause-rule : goal.blast_target-requires-clause-rule
blast_target-requires-clause-rule g c = c.requires.rule

pub blast_target-requires-clause-typing : goal.blast_target-requires-clause-typing
blast_target-requires-clause-typing g c = c.requires.typing

pub blast_target-requires-clause-inputs : goal.blast_target-requires-clause-inputs
blast_target-requires-clause-inputs g c = inputs_stand c.args.rule.now c.args.typing.now c.requires.rule c.requires.typing c.args.before.inputs.now c.requires.inputs

pub blast_target-requires-clause-source : goal.blast_target-requires-clause-source
blast_target-requires-clause-source g c = c.requires.source

pub blast_target-requires-clause-count : goal.blast_target-requires-clause-count
blast_target-requires-clause-count g c = c.requires.count

pub blast_target-requires-clause-given : goal.blast_target-requires-clause-given
blast_target-requires-clause-given g c =
    let before = c.args.before in
    target_stands c.args.rule.now c.args.typing.now c.requires.rule c.requires.typing before.inputs.now before.constants.now before.choices.now before.terms.now
    c.requires.inputs c.requires.constants c.requires.choices c.requires.terms

pub blast_target-requires-clause-own : goal.blast_target-requires-clause-own
blast_target-requires-clause-own g c = scope_own-kept (Keeps-trans c.blast_witness.ensures.adds.keeps c.blast_next.ensures.adds.keeps) c.args.before c.requires.own

pub returns-in_err-target-clause-adds : goal.returns-in_err-target-clause-adds
returns-in_err-target-clause-adds g c =
    let rule = c.args.rule.now in
    let typing = c.args.typing.now in
    let root = c.index-as_slice-len.result in
    let is = rw (c.len.ensures, c.as_slice-2.ensures) at c.index-as_slice-len.is in
    Adds-weaken (Adds-trans (Adds-trans c.blast_witness.ensures.adds c.blast_next.ensures.adds) c.blast_target.ensures.adds)
    (late (witness_gates rule typing) (root_gates rule typing) (statement_gates typing root) (run_gates typing rule.target) (root_gates-are rule typing root c.requires.rule.source_root is))

pub after-requires-clause-own_before : goal.after-requires-clause-own_before
after-requires-clause-own_before g c =
    (Keeps-trans c.blast_witness.ensures.adds.keeps (Keeps-trans c.blast_next.ensures.adds.keeps c.blast_target.ensures.adds.keeps)).literals c.args.undefined c.requires.own_undefined

pub after-requires-clause-own : goal.after-requires-clause-own
after-requires-clause-own g c = c.in_ok-target.ensures.own

pub returns-in_err-target-2-clause-adds : goal.returns-in_err-target-2-clause-adds
returns-in_err-target-2-clause-adds g c =
    let rule = c.args.rule.now in
    let typing = c.args.typing.now in
    let root = c.index-as_slice-len.result in
    let is = rw (c.len.ensures, c.as_slice-2.ensures) at c.index-as_slice-len.is in
    Adds-weaken (Adds-trans (Adds-trans (Adds-trans c.blast_witness.ensures.adds c.blast_next.ensures.adds) c.blast_target.ensures.adds) c.after.ensures.adds)
    (whole (witness_gates rule typing) (root_gates rule typing) (statement_gates typing root) (run_gates typing rule.target) (root_gates-are rule typing root c.requires.rule.source_root is))

pub returns-clause-adds : goal.returns-clause-adds
returns-clause-adds g c =
    let rule = c.args.rule.now in
    let typing = c.args.typing.now in
    let root = c.index-as_slice-len.result in
    let is = rw (c.len.ensures, c.as_slice-2.ensures) at c.index-as_slice-len.is in
    Adds-weaken (Adds-trans (Adds-trans (Adds-trans c.blast_witness.ensures.adds c.blast_next.ensures.adds) c.blast_target.ensures.adds) c.after.ensures.adds)
    (whole (witness_gates rule typing) (root_gates rule typing) (statement_gates typing root) (run_gates typing rule.target) (root_gates-are rule typing root c.requires.rule.source_root is))

pub returns-clause-effects : goal.returns-clause-effects
returns-clause-effects g c = λ inputs at admitted is terms_are ran_at.
    let m = g.C.State in
    let v = m.value in
    let rule = c.args.rule.now in
    let typing = c.args.typing.now in
    let before = c.args.before in
    let held_inputs = before.inputs.now in
    let held_source = before.source.now in
    let constants = before.constants.now in
    let left_open = before.choices.now in
    let terms = before.terms.now in
    let own = c.requires.own in
    let words = c.in_ok-choices.choices in
    let u = c.args.undefined in
    let second = c.blast_witness.ensures.adds.keeps in
    let third = c.blast_next.ensures.adds.keeps in
    let fourth = c.blast_target.ensures.adds.keeps in
    let last = c.after.ensures.adds.keeps in
    let end = Keeps-trans fourth last in
    let two_admitted = second.admitted inputs admitted in
    let three_admitted = third.admitted inputs two_admitted in
    let four_admitted = fourth.admitted inputs three_admitted in
    let start = v c.args.c.now inputs in
    let now = setting_seen start before in
    let terms_now = subst (λ (s : Setting). AreTerms start rule typing s.constants terms) (sym is) terms_are in
    let ran = subst (λ (s : Setting). TemporariesRan start rule typing (given_by typing s.constants [] rule) held_inputs held_source u) (sym is) ran_at in
    let choices = map (number_held (v c.after.new.c inputs)) words in
    let chosen = numbers_held-kept (Keeps-trans third end) inputs two_admitted words c.in_ok-choices.ensures.own in
    let root = c.index-as_slice-len.result in
    let place = rw (c.len.ensures, c.as_slice-2.ensures) at c.index-as_slice-len.is in
    let still : Keeps m c.args.c.now c.args.c.now = Keeps-refl in
    let after : Scope _ = record { inputs = before.inputs; source = before.source; target = before.target; constants = before.constants; choices = c.as_slice.result; terms = before.terms } in
    let reads_before : Reads before held_inputs held_source [] constants left_open terms =
    record { inputs_are = refl; source_are = refl; target_are = c.requires.target; constants_are = refl; choices_are = refl; terms_are = refl } in
    let reads_after : Reads after held_inputs held_source [] constants words terms =
    record { inputs_are = refl; source_are = refl; target_are = c.requires.target; constants_are = refl; choices_are = c.as_slice.ensures; terms_are = refl } in
    let given_root = is_given second inputs admitted rule typing c.requires.rule held_inputs held_source constants left_open terms u own.inputs own.constants own.choices
    after held_inputs held_source [] words reads_after choices chosen terms_now own.terms in
    let to_target = Keeps-trans second third in
    let given_target = is_given to_target inputs admitted rule typing c.requires.rule held_inputs held_source constants left_open terms u own.inputs own.constants own.choices
    before held_inputs held_source [] left_open reads_before now.target_choices (sym (numbers_held-kept to_target inputs admitted left_open own.choices)) terms_now own.terms in
    let halves : HaveEffects rule typing now choices (effect_of (v c.after.new.c inputs) c.in_ok-source.source) (effect_of (v c.after.new.c inputs) c.in_ok-target-2.target) =
    record {
      chosen = chooses still inputs admitted rule typing c.requires.rule held_inputs held_source constants left_open terms u own.inputs own.constants own.choices
          ran before reads_before choices (λ names means. chosen ∙ c.in_ok-choices.ensures.numbers inputs names admitted means);
      of_source = source_effect still inputs admitted rule typing c.requires.rule held_inputs held_source constants left_open terms u own.inputs own.constants own.choices
          second third end own.source c.requires.own_undefined ran choices root c.in_ok-source.source (parts rule root c.requires.rule.source_root place) c.in_ok-source.ensures.own
          (c.in_ok-source.ensures.stays inputs two_admitted)
          (λ none. subst (λ held. StatementGives typing (given_by typing now.constants choices rule) held root (effect_of (v c.blast_next.new.c inputs) c.in_ok-source.source))
          (seen_of after held_inputs held_source [] constants words terms reads_after (v c.blast_next.new.c inputs)) (c.in_ok-source.ensures.gives inputs (given_by typing now.constants choices rule) two_admitted given_root none));
      of_target = target_effect still inputs admitted rule typing c.requires.rule held_inputs held_source constants left_open terms u own.inputs own.constants own.choices
          to_target fourth last own.source c.requires.own_undefined ran (effect_of (v c.blast_target.new.c inputs) c.in_ok-target.target) c.in_ok-target-2.target
          (c.in_ok-target.ensures.gives inputs now.constants now.target_choices three_admitted given_target) (c.in_ok-target-2.ensures.effect inputs four_admitted);
    } in
    subst (λ (s : Setting). HaveEffects rule typing s choices (effect_of (v c.after.new.c inputs) c.in_ok-source.source) (effect_of (v c.after.new.c inputs) c.in_ok-target-2.target)) is halves

pub returns-clause-source_width : goal.returns-clause-source_width
returns-clause-source_width g c =
    let is = rw (c.len.ensures, c.as_slice-2.ensures) at c.index-as_slice-len.is in
    source_width c.args.rule.now c.args.typing.now c.index-as_slice-len.result _ c.requires.rule.source_root is c.in_ok-source.ensures.width

pub returns-clause-target_width : goal.returns-clause-target_width
returns-clause-target_width g c = ap length c.in_ok-target-2.ensures.bits ∙ c.in_ok-target.ensures.width

pub returns-clause-own_choices : goal.returns-clause-own_choices
returns-clause-own_choices g c =
    AllAll-kept (Keeps-trans c.blast_next.ensures.adds.keeps (Keeps-trans c.blast_target.ensures.adds.keeps c.after.ensures.adds.keeps)) c.in_ok-choices.choices c.in_ok-choices.ensures.own

pub returns-clause-own_source : goal.returns-clause-own_source
returns-clause-own_source g c = IsOwnEffect-kept (Keeps-trans c.blast_target.ensures.adds.keeps c.after.ensures.adds.keeps) c.in_ok-source.source c.in_ok-source.ensures.own

pub returns-clause-own_target : goal.returns-clause-own_target
returns-clause-own_target g c = c.in_ok-target-2.ensures.own
