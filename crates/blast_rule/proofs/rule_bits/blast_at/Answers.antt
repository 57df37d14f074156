use Rattle.blast_rule.proofs.Common.{◌≡◌, sym, ◌∙◌, Adds-trans, Adds-weaken, AllAll-kept, IsOwnEffect-kept, effect_of-kept, setting_held, setting-kept, setting_own-kept, given_gates, witness_gates, halves_gates, said_gates, refusal_gates, root_width, AreTerms}
use Rattle.blast_rule.proofs.Whole.{refutes, effects-kept, first_within, second_within, third_within}
use Rattle.blast_rule.proofs.rule_bits.blast_at.Goals as goal

pub blast_given-requires-clause-rule : goal.blast_given-requires-clause-rule
blast_given-requires-clause-rule g c = c.requires.rule

pub blast_given-requires-clause-typing : goal.blast_given-requires-clause-typing
blast_given-requires-clause-typing g c = c.requires.typing

pub blast_given-requires-clause-widths : goal.blast_given-requires-clause-widths
blast_given-requires-clause-widths g c = rw c.as_slice.ensures c.requires.widths.constants

pub blast_given-requires-clause-own : goal.blast_given-requires-clause-own
blast_given-requires-clause-own g c = rw c.as_slice.ensures c.requires.own.constants

pub blast_halves-requires-clause-rule : goal.blast_halves-requires-clause-rule
blast_halves-requires-clause-rule g c = c.requires.rule

pub blast_halves-requires-clause-typing : goal.blast_halves-requires-clause-typing
blast_halves-requires-clause-typing g c = c.requires.typing

pub blast_halves-requires-clause-widths : goal.blast_halves-requires-clause-widths
blast_halves-requires-clause-widths g c = c.requires.widths

pub blast_halves-requires-clause-widths_of_terms : goal.blast_halves-requires-clause-widths_of_terms
blast_halves-requires-clause-widths_of_terms g c = rw c.as_slice-terms.ensures c.in_ok-given.ensures.widths

pub blast_halves-requires-clause-own : goal.blast_halves-requires-clause-own
blast_halves-requires-clause-own g c = setting_own-kept c.blast_given.ensures.adds.keeps c.args.setting.now c.requires.own

pub blast_halves-requires-clause-own_terms : goal.blast_halves-requires-clause-own_terms
blast_halves-requires-clause-own_terms g c = rw c.as_slice-terms.ensures c.in_ok-given.ensures.own_terms

pub blast_halves-requires-clause-own_met : goal.blast_halves-requires-clause-own_met
blast_halves-requires-clause-own_met g c = c.in_ok-given.ensures.own_met

pub refusal_where-requires-clause-same_width : goal.refusal_where-requires-clause-same_width
refusal_where-requires-clause-same_width g c = c.in_ok-met.ensures.target_width ∙ sym c.in_ok-met.ensures.source_width

pub refusal_where-requires-clause-own_met : goal.refusal_where-requires-clause-own_met
refusal_where-requires-clause-own_met g c = c.in_ok-met.ensures.own_met

pub refusal_where-requires-clause-own_source : goal.refusal_where-requires-clause-own_source
refusal_where-requires-clause-own_source g c = c.in_ok-met.ensures.own_source

pub refusal_where-requires-clause-own_target : goal.refusal_where-requires-clause-own_target
refusal_where-requires-clause-own_target g c = c.in_ok-met.ensures.own_target

pub returns-in_err-given-clause-adds : goal.returns-in_err-given-clause-adds
returns-in_err-given-clause-adds g c =
    let rule = c.args.rule.now in
    let typing = c.args.typing.now in
    Adds-weaken c.blast_given.ensures.adds (first_within (given_gates rule typing) (witness_gates rule typing) (halves_gates rule typing) (said_gates rule typing) (refusal_gates (root_width rule typing)))

pub returns-in_err-met-clause-adds : goal.returns-in_err-met-clause-adds
returns-in_err-met-clause-adds g c =
    let rule = c.args.rule.now in
    let typing = c.args.typing.now in
    Adds-weaken (Adds-trans c.blast_given.ensures.adds c.blast_halves.ensures.adds) (second_within (given_gates rule typing) (witness_gates rule typing) (halves_gates rule typing) (said_gates rule typing) (refusal_gates (root_width rule typing)))

pub returns-in_err-bad-clause-adds : goal.returns-in_err-bad-clause-adds
returns-in_err-bad-clause-adds g c =
    let rule = c.args.rule.now in
    let typing = c.args.typing.now in
    Adds-weaken (Adds-trans (Adds-trans c.blast_given.ensures.adds c.blast_halves.ensures.adds) (rw c.in_ok-met.ensures.source_width at c.refusal_where.ensures.adds))
    (third_within (given_gates rule typing) (witness_gates rule typing) (halves_gates rule typing) (said_gates rule typing) (refusal_gates (root_width rule typing)))

pub returns-clause-adds : goal.returns-clause-adds
returns-clause-adds g c =
    let rule = c.args.rule.now in
    let typing = c.args.typing.now in
    Adds-weaken (Adds-trans (Adds-trans c.blast_given.ensures.adds c.blast_halves.ensures.adds) (rw c.in_ok-met.ensures.source_width at c.refusal_where.ensures.adds))
    (third_within (given_gates rule typing) (witness_gates rule typing) (halves_gates rule typing) (said_gates rule typing) (refusal_gates (root_width rule typing)))

pub returns-clause-effects : goal.returns-clause-effects
returns-clause-effects g c = λ inputs admitted.
    let v = g.C.State.value in
    let rule = c.args.rule.now in
    let typing = c.args.typing.now in
    let setting = c.args.setting.now in
    let halves = c.in_ok-met.halves in
    let given = c.blast_given.ensures.adds.keeps in
    let one = given.admitted inputs admitted in
    let two = c.blast_halves.ensures.adds.keeps.admitted inputs one in
    let now = setting_held (v c.args.c.now inputs) setting in
    let kept : setting_held (v c.blast_given.new.c inputs) setting ≡ now = setting-kept given inputs admitted setting c.requires.own in
    let terms : AreTerms (v c.blast_given.new.c inputs) rule typing now.constants c.as_slice-terms.result.now = rw c.as_slice-terms.ensures (rw c.as_slice.ensures at (c.in_ok-given.ensures.terms inputs admitted)) in
    effects-kept c.refusal_where.ensures.adds.keeps inputs two rule typing now halves.choices halves.source halves.target
    c.in_ok-met.ensures.own_choices c.in_ok-met.ensures.own_source c.in_ok-met.ensures.own_target (c.in_ok-met.ensures.effects inputs now one kept terms)

pub returns-clause-bad : goal.returns-clause-bad
returns-clause-bad g c = λ inputs admitted fits.
    let v = g.C.State.value in
    let rule = c.args.rule.now in
    let typing = c.args.typing.now in
    let setting = c.args.setting.now in
    let halves = c.in_ok-met.halves in
    let given = c.blast_given.ensures.adds.keeps in
    let one = given.admitted inputs admitted in
    let two = c.blast_halves.ensures.adds.keeps.admitted inputs one in
    let end = c.refusal_where.ensures.adds.keeps in
    let now = setting_held (v c.args.c.now inputs) setting in
    let kept : setting_held (v c.blast_given.new.c inputs) setting ≡ now = setting-kept given inputs admitted setting c.requires.own in
    let terms : AreTerms (v c.blast_given.new.c inputs) rule typing now.constants c.as_slice-terms.result.now = rw c.as_slice-terms.ensures (rw c.as_slice.ensures at (c.in_ok-given.ensures.terms inputs admitted)) in
    let holds = rw c.as_slice.ensures at (c.in_ok-given.ensures.met inputs admitted) in
    let told = c.in_ok-met.ensures.met inputs now one kept terms in
    let source = effect_of-kept end inputs two halves.source c.in_ok-met.ensures.own_source in
    let target = effect_of-kept end inputs two halves.target c.in_ok-met.ensures.own_target in
    refutes c.every_rule_has_one_outcome.ensures rule typing now _ _ _ (v c.blast_halves.new.c inputs c.in_ok-met.met) (v c.refusal_where.new.c inputs c.in_ok-bad.bad) c.requires.rule c.requires.typing
    fits (returns-clause-effects g c inputs admitted) (λ h. let both = told.0 h in (holds.0 both.0, both.1), λ both. told.1 (holds.1 both.0, both.1)) (rw (source, target) (c.in_ok-bad.ensures.value inputs two))

pub returns-clause-width : goal.returns-clause-width
returns-clause-width g c = record { source = c.in_ok-met.ensures.source_width; target = c.in_ok-met.ensures.target_width }

pub returns-clause-own : goal.returns-clause-own
returns-clause-own g c =
    let end = c.refusal_where.ensures.adds.keeps in
    let halves = c.in_ok-met.halves in
    record {
      bad = c.in_ok-bad.ensures.own;
      choices = AllAll-kept end halves.choices c.in_ok-met.ensures.own_choices;
      source = IsOwnEffect-kept end halves.source c.in_ok-met.ensures.own_source;
      target = IsOwnEffect-kept end halves.target c.in_ok-met.ensures.own_target;
    }
