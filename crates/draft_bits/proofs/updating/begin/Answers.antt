use Rattle.draft_bits.proofs.Common.{IfSome, ℕ, sym, subst, ◌∙◌, arith, All-get_or, slice_get_within, IsIdle, IsPlaceIn, arena_of}
use Rattle.places.specs.Heaps.{nowhere, place_at}
use Rattle.draft_bits.proofs.Beginning.{all_begun, empty_worklist, grown_itself, one_begun}
use Rattle.draft_bits.proofs.Updates.{begun}
use Rattle.draft_bits.proofs.updating.begin.Goals as goal

pub idle_worklist-requires : goal.idle_worklist-requires
idle_worklist-requires c = subst (λ (blocks : ℕ). IfSome c.args.bits.now.waiting (IsIdle blocks)) (c.requires.before.as_many ∙ sym c.blocks-2.ensures) c.requires.before.idle

pub loop-place-init : goal.loop-place-init
loop-place-init c = record {
  grown = grown_itself c.args.bits.now c.idle_worklist.new.kept;
  room = λ k below. absurd (omega arith);
  worklist = empty_worklist c.args.draft.now.orders.items c.in_ok-waiting.waiting (subst (λ (blocks : ℕ). IsIdle blocks c.in_ok-waiting.waiting) (c.blocks-2.ensures ∙ sym c.requires.whole.ordered) c.in_ok-waiting.ensures);
  added = λ k below. absurd (omega arith);
  only = λ b n has. absurd (c.in_ok-waiting.ensures.unmarked b n has);
}

pub grow-requires-clause-block : goal.grow-requires-clause-block
grow-requires-clause-block c =
    let place = All-get_or (IsPlaceIn (arena_of c.args.draft.now)) c.args.touched.now c.loop-place.place-index nowhere c.loop-place-test.true c.requires.places in
    slice_get_within (arena_of c.args.draft.now).blocks (place_at c.args.touched.now c.loop-place.place-index).block place.0 place.1

pub grow-requires-clause-known : goal.grow-requires-clause-known
grow-requires-clause-known c =
    let place = All-get_or (IsPlaceIn (arena_of c.args.draft.now)) c.args.touched.now c.loop-place.place-index nowhere c.loop-place-test.true c.requires.places in
    let within = slice_get_within (arena_of c.args.draft.now).blocks (place_at c.args.touched.now c.loop-place.place-index).block place.0 place.1 in
    omega (arith, within, c.loop-place.invariant.grown.as_many, c.requires.before.as_many)

pub wait_for-requires-clause-place : goal.wait_for-requires-clause-place
wait_for-requires-clause-place c = All-get_or (IsPlaceIn (arena_of c.args.draft.now)) c.args.touched.now c.loop-place.place-index nowhere c.loop-place-test.true c.requires.places

pub wait_for-requires-clause-worklist : goal.wait_for-requires-clause-worklist
wait_for-requires-clause-worklist c = c.loop-place.invariant.worklist

pub loop-place-preserved : goal.loop-place-preserved
loop-place-preserved c =
    let waits = c.in_ok-wait_for.ensures in
    one_begun c.args.draft.now c.args.touched.now c.loop-place.place-index c.args.bits.now c.loop-place.bits c.grow.new.bits c.loop-place.waiting c.wait_for.new.waiting c.loop-place-test.true c.loop-place.invariant
    c.in_ok-grow.ensures.grown c.in_ok-grow.ensures.room waits.worklist waits.stay waits.added waits.only

pub returns-clause-grown : goal.returns-clause-grown
returns-clause-grown c = c.loop-place.invariant.grown

pub returns-clause-worklist : goal.returns-clause-worklist
returns-clause-worklist c = c.loop-place.invariant.worklist

pub returns-clause-updating : goal.returns-clause-updating
returns-clause-updating c =
    let d = c.args.draft.now in
    let l = c.loop-place in
    let all = all_begun d c.args.touched.now l.place-index c.args.bits.now l.bits l.waiting (omega arith) l.invariant in
    begun d c.args.touched.now l.waiting.marks c.args.bits.now l.bits c.requires.whole c.requires.before l.invariant.grown (λ b n has. (all b n has).0) l.invariant.only (λ b n stands has. (all b n has).1 stands)
