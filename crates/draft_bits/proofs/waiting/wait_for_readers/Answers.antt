use Rattle.draft_bits.proofs.Common.{◌≡◌, ℕ, ◌+◌, ◌<◌, List, length, inl, inr, sym, subst, ◌∙◌, arith, Contains, fails, get_or_default, place-among, stands_there, Place, Has, StandsReached, Takes, arena_of}
use Rattle.places.specs.Heaps.{nowhere, place_at}
use Rattle.draft_bits.proofs.Readers.{ReadersWait, none_wait, one_waits}
use Rattle.draft_bits.proofs.waiting.wait_for_readers.Goals as goal
use Rattle.draft_bits.proofs.waiting.wait_for_readers.Goals.{then-takes+in_ok-wait_for, else-takes}

pub loop-reader-init : goal.loop-reader-init
loop-reader-init c = none_wait c.args.draft.now c.args.place c.readers_of-reader-items.result.now c.args.waiting.now c.requires.worklist

pub takes-requires-clause-reader : goal.takes-requires-clause-reader
takes-requires-clause-reader c =
    let places : List Place = c.readers_of-reader-items.result.now in
    let within : c.loop-reader.reader-index < length places = omega arith in
    c.readers_of-reader-items.ensures.places (place_at places c.loop-reader.reader-index) (place-among places c.loop-reader.reader-index within)

pub wait_for-requires-clause-place : goal.wait_for-requires-clause-place
wait_for-requires-clause-place c =
    let places : List Place = c.readers_of-reader-items.result.now in
    let within : c.loop-reader.reader-index < length places = omega arith in
    c.readers_of-reader-items.ensures.places (place_at places c.loop-reader.reader-index) (place-among places c.loop-reader.reader-index within)

pub wait_for-requires-clause-worklist : goal.wait_for-requires-clause-worklist
wait_for-requires-clause-worklist c = c.loop-reader.invariant.worklist

pub loop-reader-preserved : goal.loop-reader-preserved
loop-reader-preserved c =
    let d = c.args.draft.now in
    let l = c.loop-reader in
    let first = c.args.waiting.now in
    let places : List Place = c.readers_of-reader-items.result.now in
    elim c.if-takes.branch [
      | then-takes+in_ok-wait_for w ↦
          let on = w.in_ok-wait_for.ensures in
          let taken = c.takes.ensures.0 w.if-takes.true in
          subst (ReadersWait d c.args.place places (l.reader-index + 1) first) (sym w.waiting-is)
          (one_waits d c.args.place places l.reader-index first l.waiting w.wait_for.new.waiting l.invariant on.worklist on.stay (λ stands takes. on.added stands)
          (λ b n has. elim (on.only b n has) [
            | inl before ↦ inl before
            | inr (stands, is) ↦ inr (stands, subst (λ (q : Place). Takes (arena_of d) c.args.place q.block q.number) is taken.1)
          ]))
      | else-takes w ↦
          subst (ReadersWait d c.args.place places (l.reader-index + 1) first) (sym w.waiting-is)
          (one_waits d c.args.place places l.reader-index first l.waiting l.waiting l.invariant l.invariant.worklist (λ b n has. has)
          (λ stands takes. absurd (fails c.takes.result c.takes.ensures w.if-takes.false (stands, takes))) (λ b n has. inl has))
    ]

pub returns-clause-worklist : goal.returns-clause-worklist
returns-clause-worklist c = c.loop-reader.invariant.worklist

pub returns-clause-stay : goal.returns-clause-stay
returns-clause-stay c = c.loop-reader.invariant.stay

pub returns-clause-readers : goal.returns-clause-readers
returns-clause-readers c = λ n stands takes.
    let d = c.args.draft.now in
    let b : ℕ = c.args.place.block in
    let p : Place = record { block = b; number = n } in
    let places : List Place = c.readers_of-reader-items.result.now in
    let (block, at, within) = stands_there d c.requires.whole b n stands.1 in
    let there : Contains places p = c.readers_of-reader-items.ensures.readers p (block, at, inl within) takes.reads in
    let is : place_at places there.0 ≡ p = get_or_default places there.0 nowhere p there.1 ∙ there.2 in
    let inside = there.1 in
    subst (λ (q : Place). StandsReached d q.block q.number → Takes (arena_of d) c.args.place q.block q.number → Has c.loop-reader.waiting.marks q.block q.number) is
    (c.loop-reader.invariant.readers there.0 (omega arith)) stands takes

pub returns-clause-only : goal.returns-clause-only
returns-clause-only c = c.loop-reader.invariant.only
