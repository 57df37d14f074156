use Rattle.blast_rule.proofs.Common.{◌≡◌, ◌<◌, ◌-◌, ◌+◌, [], length, map, take, refl, ap, subst, ◌∙◌, arith, length-map, length_push, All-push, Adds-none, Adds-trans, Adds-weaken, Follows, holding_source, temporaries_of, ValuesFit-none, source_next, Contains-take, IsOwn, shape, given_shape, ending, AllOwn-kept, holds, scope_own-kept}
use Rattle.blast_rule.proofs.Kept.{given-kept}
use Rattle.blast_rule.proofs.Runs.{run_gates-more, run_gates-turn, shapes_fit-push, stands, own_none, source_more, held_after}
use Rattle.blast_rule.proofs.temporaries.blast_temporaries.Goals as goal

pub blast_next-requires-clause-ready : goal.blast_next-requires-clause-ready
blast_next-requires-clause-ready g c =
    let at = stands c.args.rule.now.source c.as_slice.result.now c.loop-place.place c.index-as_slice-place.result c.as_slice.ensures (omega arith) c.index-as_slice-place.is in
    rw c.deref.ensures.value
    (source_next c.args.rule.now c.args.typing.now (temporaries_of c.args.rule.now) (given_shape c.args.scope) (map shape c.args.scope.inputs.now) (map shape c.loop-place.held.items) c.loop-place.place c.index-as_slice-place.result
    c.requires.rule c.requires.typing c.requires.given c.requires.inputs c.loop-place.invariant.fit (length-map c.loop-place.held.items shape ∙ c.loop-place.invariant.count) at
    (Contains-take c.args.rule.now.source (length c.args.rule.now.source - 1) c.loop-place.place c.index-as_slice-place.result (omega arith) at))

pub blast_next-requires-clause-own : goal.blast_next-requires-clause-own
blast_next-requires-clause-own g c =
    let own = scope_own-kept c.loop-place.invariant.adds.keeps c.args.scope c.requires.own in
    record {
      inputs = own.inputs;
      source = rw c.deref.ensures.value c.loop-place.invariant.own;
      target = own_none (IsOwn (g.C.State.has_literal c.loop-place.c));
      constants = own.constants;
      choices = own.choices;
      terms = own.terms;
    }

pub blast_next-requires-clause-own_undefined : goal.blast_next-requires-clause-own_undefined
blast_next-requires-clause-own_undefined g c = c.loop-place.invariant.own_undefined

pub loop-place-init : goal.loop-place-init
loop-place-init g c = rw c.new-held.ensures.items record {
  ran = λ read given admitted is_given. rw (c.zero-undefined.ensures.value read admitted) refl;
  count = refl;
  fit = ValuesFit-none c.args.typing.now c.args.rule.now.source;
  own = own_none (IsOwn (g.C.State.has_literal c.args.c.now));
  own_undefined = c.zero-undefined.ensures.own;
  adds = Adds-none;
}

pub returns-in_err-made-clause-adds : goal.returns-in_err-made-clause-adds
returns-in_err-made-clause-adds g c =
    let source = c.args.rule.now.source in
    let is = rw c.as_slice.ensures at c.index-as_slice-place.is in
    Adds-weaken (Adds-trans c.loop-place.invariant.adds c.blast_next.ensures.adds) (run_gates-turn c.args.typing.now source c.loop-place.place (length source - 1) c.index-as_slice-place.result (omega arith) (omega arith) is)

pub returns-in_err-push-clause-adds : goal.returns-in_err-push-clause-adds
returns-in_err-push-clause-adds g c =
    let source = c.args.rule.now.source in
    let is = rw c.as_slice.ensures at c.index-as_slice-place.is in
    Adds-weaken (Adds-trans c.loop-place.invariant.adds c.blast_next.ensures.adds) (run_gates-turn c.args.typing.now source c.loop-place.place (length source - 1) c.index-as_slice-place.result (omega arith) (omega arith) is)

pub loop-place-preserved : goal.loop-place-preserved
loop-place-preserved g c =
    let m = g.C.State in
    let before = c.loop-place.invariant in
    let source = c.args.rule.now.source in
    let within : c.loop-place.place < length source = omega arith in
    let is = rw c.as_slice.ensures at c.index-as_slice-place.is in
    let at = stands source c.as_slice.result.now c.loop-place.place c.index-as_slice-place.result c.as_slice.ensures within c.index-as_slice-place.is in
    let keeps = c.blast_next.ensures.adds.keeps in
    let made = c.in_ok-made.made in
    let own_inputs = AllOwn-kept before.adds.keeps c.args.scope.inputs.now c.requires.own.inputs in
    rw (c.in_ok-push.ensures.items, c.held_of.ensures) record {
      ran = λ read given admitted is_given.
          let now_admitted = before.adds.keeps.admitted read admitted in
          let now_given = given-kept before.adds.keeps read admitted c.args.scope given c.requires.own is_given in
          source_more keeps read now_admitted c.args.typing.now given source c.loop-place.place c.index-as_slice-place.result within is c.args.scope.inputs.now c.loop-place.held.items c.loop-place.undefined made
          own_inputs before.own (c.in_ok-made.ensures.stays read now_admitted) (before.ran read given admitted is_given)
          (rw c.deref.ensures.value at (c.in_ok-made.ensures.gives read given now_admitted (record { constants = now_given.constants; choices = now_given.choices; terms = now_given.terms })));
      count = length_push c.loop-place.held.items (held_after made) ∙ ap (λ n. n + 1) before.count;
      fit = shapes_fit-push c.args.typing.now source c.loop-place.held.items c.loop-place.place c.index-as_slice-place.result (held_after made) before.fit before.count at c.in_ok-made.ensures.width;
      own = All-push (IsOwn (m.has_literal c.blast_next.new.c)) c.loop-place.held.items (held_after made) (AllOwn-kept keeps c.loop-place.held.items before.own) (record { bits = c.in_ok-made.ensures.own.bits; poison = c.in_ok-made.ensures.own.poison });
      own_undefined = c.in_ok-made.ensures.own.undefined;
      adds = Adds-weaken (Adds-trans before.adds c.blast_next.ensures.adds) (omega (arith, run_gates-more c.args.typing.now source c.loop-place.place c.index-as_slice-place.result within is));
    }

pub returns-clause-ran : goal.returns-clause-ran
returns-clause-ran g c = λ inputs given admitted is_given.
    let now = g.C.State.value c.loop-place.c inputs in
    let source = c.args.rule.now.source in
    let before = c.args.scope.inputs.now in
    let last : c.loop-place.place ≡ length source - 1 = omega arith in
    subst (λ n. Follows c.args.typing.now given holding_source (take n source) (holds now before [] []) (ending (now c.loop-place.undefined) (holds now before c.loop-place.held.items []))) last
    (c.loop-place.invariant.ran inputs given admitted is_given)

pub returns-clause-fit : goal.returns-clause-fit
returns-clause-fit g c = c.loop-place.invariant.fit

pub returns-clause-own : goal.returns-clause-own
returns-clause-own g c = c.loop-place.invariant.own

pub returns-clause-own_undefined : goal.returns-clause-own_undefined
returns-clause-own_undefined g c = c.loop-place.invariant.own_undefined

pub returns-clause-adds : goal.returns-clause-adds
returns-clause-adds g c =
    let last : c.loop-place.place ≡ length c.args.rule.now.source - 1 = omega arith in
    rw last at c.loop-place.invariant.adds
