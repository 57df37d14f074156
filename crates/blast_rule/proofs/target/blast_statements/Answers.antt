use Rattle.blast_rule.proofs.Common.{◌≡◌, ◌<◌, ◌+◌, [], length, map, take, refl, ap, subst, ◌∙◌, arith, length-map, length_push, take_all, All-push, Adds-none, Adds-trans, Adds-weaken, Follows, holding_target, ValuesFit-none, target_next, IsOwn, shape, given_shape, ending, AllOwn-kept, holds, scope_own-kept}
use Rattle.blast_rule.proofs.Kept.{given-kept}
use Rattle.blast_rule.proofs.Runs.{run_gates-more, run_gates-turn_of_all, shapes_fit-push, stands, own_none, target_more, held_after}
use Rattle.blast_rule.proofs.target.blast_statements.Goals as goal

pub blast_next-requires-clause-ready : goal.blast_next-requires-clause-ready
blast_next-requires-clause-ready g c =
    let at = stands c.args.rule.now.target c.as_slice-statement-items.result.now c.loop-statement.statement-index c.statement-item.result c.as_slice-statement-items.ensures (omega (arith, ap length c.as_slice-statement-items.ensures)) c.statement-item.is in
    rw c.deref.ensures.value
    (target_next c.args.rule.now c.args.typing.now (given_shape c.args.scope) (map shape c.args.scope.inputs.now) (map shape c.args.scope.source.now) (map shape c.loop-statement.held.items) c.loop-statement.statement-index c.statement-item.result
    c.requires.rule c.requires.typing c.requires.given c.requires.inputs c.requires.source c.loop-statement.invariant.fit (omega (arith, length-map c.args.scope.source.now shape, c.requires.count)) (length-map c.loop-statement.held.items shape ∙ c.loop-statement.invariant.count) at)

pub blast_next-requires-clause-own : goal.blast_next-requires-clause-own
blast_next-requires-clause-own g c =
    let own = scope_own-kept c.loop-statement.invariant.adds.keeps c.args.scope c.requires.own in
    record {
      inputs = own.inputs;
      source = own.source;
      target = rw c.deref.ensures.value c.loop-statement.invariant.own;
      constants = own.constants;
      choices = own.choices;
      terms = own.terms;
    }

pub blast_next-requires-clause-own_undefined : goal.blast_next-requires-clause-own_undefined
blast_next-requires-clause-own_undefined g c = c.loop-statement.invariant.own_undefined

pub loop-statement-init : goal.loop-statement-init
loop-statement-init g c = rw c.new-held.ensures.items record {
  ran = λ read given admitted is_given. rw (c.zero-undefined.ensures.value read admitted) refl;
  count = refl;
  fit = ValuesFit-none c.args.typing.now c.args.rule.now.target;
  own = own_none (IsOwn (g.C.State.has_literal c.args.c.now));
  own_undefined = c.zero-undefined.ensures.own;
  adds = Adds-none;
}

pub returns-in_err-made-clause-adds : goal.returns-in_err-made-clause-adds
returns-in_err-made-clause-adds g c =
    let is = rw c.as_slice-statement-items.ensures at c.statement-item.is in
    Adds-weaken (Adds-trans c.loop-statement.invariant.adds c.blast_next.ensures.adds)
    (run_gates-turn_of_all c.args.typing.now c.args.rule.now.target c.loop-statement.statement-index c.statement-item.result (omega (arith, ap length c.as_slice-statement-items.ensures)) is)

pub returns-in_err-push-clause-adds : goal.returns-in_err-push-clause-adds
returns-in_err-push-clause-adds g c =
    let is = rw c.as_slice-statement-items.ensures at c.statement-item.is in
    Adds-weaken (Adds-trans c.loop-statement.invariant.adds c.blast_next.ensures.adds)
    (run_gates-turn_of_all c.args.typing.now c.args.rule.now.target c.loop-statement.statement-index c.statement-item.result (omega (arith, ap length c.as_slice-statement-items.ensures)) is)

pub loop-statement-preserved : goal.loop-statement-preserved
loop-statement-preserved g c =
    let m = g.C.State in
    let before = c.loop-statement.invariant in
    let target = c.args.rule.now.target in
    let within : c.loop-statement.statement-index < length target = omega (arith, ap length c.as_slice-statement-items.ensures) in
    let is = rw c.as_slice-statement-items.ensures at c.statement-item.is in
    let at = stands target c.as_slice-statement-items.result.now c.loop-statement.statement-index c.statement-item.result c.as_slice-statement-items.ensures within c.statement-item.is in
    let keeps = c.blast_next.ensures.adds.keeps in
    let made = c.in_ok-made.made in
    let own_inputs = AllOwn-kept before.adds.keeps c.args.scope.inputs.now c.requires.own.inputs in
    let own_source = AllOwn-kept before.adds.keeps c.args.scope.source.now c.requires.own.source in
    rw (c.in_ok-push.ensures.items, c.held_of.ensures) record {
      ran = λ read given admitted is_given.
          let now_admitted = before.adds.keeps.admitted read admitted in
          let now_given = given-kept before.adds.keeps read admitted c.args.scope given c.requires.own is_given in
          target_more keeps read now_admitted c.args.typing.now given target c.loop-statement.statement-index c.statement-item.result within is c.args.scope.inputs.now c.loop-statement.held.items c.loop-statement.undefined made
          own_inputs before.own (c.in_ok-made.ensures.stays read now_admitted) c.args.scope.source.now own_source (before.ran read given admitted is_given)
          (rw c.deref.ensures.value at (c.in_ok-made.ensures.gives read given now_admitted (record { constants = now_given.constants; choices = now_given.choices; terms = now_given.terms })));
      count = length_push c.loop-statement.held.items (held_after made) ∙ ap (λ n. n + 1) before.count;
      fit = shapes_fit-push c.args.typing.now target c.loop-statement.held.items c.loop-statement.statement-index c.statement-item.result (held_after made) before.fit before.count at c.in_ok-made.ensures.width;
      own = All-push (IsOwn (m.has_literal c.blast_next.new.c)) c.loop-statement.held.items (held_after made) (AllOwn-kept keeps c.loop-statement.held.items before.own) (record { bits = c.in_ok-made.ensures.own.bits; poison = c.in_ok-made.ensures.own.poison });
      own_undefined = c.in_ok-made.ensures.own.undefined;
      adds = Adds-weaken (Adds-trans before.adds c.blast_next.ensures.adds) (omega (arith, run_gates-more c.args.typing.now target c.loop-statement.statement-index c.statement-item.result within is));
    }

pub returns-clause-ran : goal.returns-clause-ran
returns-clause-ran g c = λ inputs given admitted is_given.
    let now = g.C.State.value c.loop-statement.c inputs in
    let target = c.args.rule.now.target in
    let scope = c.args.scope in
    subst (λ statements. Follows c.args.typing.now given holding_target statements (holds now scope.inputs.now scope.source.now []) (ending (now c.loop-statement.undefined) (holds now scope.inputs.now scope.source.now c.loop-statement.held.items)))
    (take_all c.loop-statement.statement-index target (omega (arith, c.loop-statement-test.false, ap length c.as_slice-statement-items.ensures)))
    (c.loop-statement.invariant.ran inputs given admitted is_given)

pub returns-clause-fit : goal.returns-clause-fit
returns-clause-fit g c = c.loop-statement.invariant.fit

pub returns-clause-own : goal.returns-clause-own
returns-clause-own g c = c.loop-statement.invariant.own

pub returns-clause-own_undefined : goal.returns-clause-own_undefined
returns-clause-own_undefined g c = c.loop-statement.invariant.own_undefined

pub returns-clause-adds : goal.returns-clause-adds
returns-clause-adds g c =
    let target = c.args.rule.now.target in
    let whole : take c.loop-statement.statement-index target ≡ target =
    take_all c.loop-statement.statement-index target (omega (arith, c.loop-statement-test.false, ap length c.as_slice-statement-items.ensures)) in
    rw whole at c.loop-statement.invariant.adds
