use Rattle.blast_rule.proofs.Common.{[], subst, given_by, TargetGoesOn, held_value, IsOwn, holds}
use Rattle.blast_rule.proofs.Runs.{own_last, own_none, holds-kept}
use Rattle.blast_rule.proofs.Steps.{target-goes-on, effect}
use Rattle.blast_rule.proofs.Effects.{last_value, target_width}
use Rattle.blast_rule.proofs.target.blast_target.Goals as goal

pub returns-clause-gives : goal.returns-clause-gives
returns-clause-gives g c = λ inputs constants choices admitted is_given.
    let m = g.C.State in
    let now = m.value c.blast_statements.new.c inputs in
    let keeps = c.blast_statements.ensures.adds.keeps in
    let scope = c.args.scope in
    let rule = c.args.rule.now in
    let typing = c.args.typing.now in
    let before = holds-kept keeps inputs admitted scope.inputs.now scope.source.now c.requires.own.inputs c.requires.own.source [] (own_none (IsOwn (m.has_literal c.args.c.now))) in
    let ran = c.in_ok-held.ensures.ran inputs (given_by typing constants choices rule) admitted is_given in
    let u = now c.in_ok-held.field-0.undefined in
    let v = held_value now c.last-bits.result in
    subst (λ held. TargetGoesOn typing constants choices rule held (effect u v)) before
    (target-goes-on typing constants choices rule (holds now scope.inputs.now scope.source.now []) (holds now scope.inputs.now scope.source.now c.in_ok-held.field-0.held.items) u v ran
    (last_value now c.in_ok-held.field-0.held.items c.last-bits.result c.last-bits.ensures))

pub returns-clause-width : goal.returns-clause-width
returns-clause-width g c =
    target_width c.args.rule.now c.args.typing.now c.in_ok-held.field-0.held.items c.last-bits.result c.requires.rule c.requires.typing c.in_ok-held.ensures.count c.in_ok-held.ensures.fit c.last-bits.ensures

pub returns-clause-own : goal.returns-clause-own
returns-clause-own g c =
    let last = own_last (IsOwn (g.C.State.has_literal c.blast_statements.new.c)) c.in_ok-held.field-0.held.items c.last-bits.result c.in_ok-held.ensures.own c.last-bits.ensures in
    record { bits = last.bits; poison = last.poison; undefined = c.in_ok-held.ensures.own_undefined }
