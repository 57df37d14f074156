use Rattle.draft_bits.proofs.Common.{List, [], ◌∷◌, inl, inr, sym, subst, arith, All, All-push, Contains, Contains-append_left, Contains-push, same_place, slice_get_within, stands_there, IsPlaceIn, Place, arena_of}
use Rattle.draft_bits.proofs.Taking.{reads_takes, taken_behind}
use Rattle.draft_bits.proofs.Turns.{none_earlier, reads_other}
use Rattle.draft_bits.proofs.Updates.{none_differs, updated}
use Rattle.draft_bits.proofs.updating.set_right.Goals as goal

pub write_result-requires-clause-stands : goal.write_result-requires-clause-stands
write_result-requires-clause-stands c =
    let (marks, first, removed, updating) = c.requires.taken in
    updating.stand c.args.place.block c.args.place.number first.there

pub write_result-requires-clause-block : goal.write_result-requires-clause-block
write_result-requires-clause-block c =
    let (marks, first, removed, updating) = c.requires.taken in
    let stands = updating.stand c.args.place.block c.args.place.number first.there in
    let (block, at, within) = stands_there c.args.draft.now c.requires.settled.whole c.args.place.block c.args.place.number stands.1 in
    updating.blocks c.args.place.block (slice_get_within (arena_of c.args.draft.now).blocks c.args.place.block block at)

pub write_result-requires-clause-known : goal.write_result-requires-clause-known
write_result-requires-clause-known c =
    let (marks, first, removed, updating) = c.requires.taken in
    let stands = updating.stand c.args.place.block c.args.place.number first.there in
    let (block, at, within) = stands_there c.args.draft.now c.requires.settled.whole c.args.place.block c.args.place.number stands.1 in
    let inside = slice_get_within (arena_of c.args.draft.now).blocks c.args.place.block block at in
    omega (arith, inside, updating.as_many)

pub write_result-requires-clause-room : goal.write_result-requires-clause-room
write_result-requires-clause-room c =
    let (marks, first, removed, updating) = c.requires.taken in
    updating.room c.args.place.block c.args.place.number (updating.stand c.args.place.block c.args.place.number first.there)

pub write_result-requires-clause-before : goal.write_result-requires-clause-before
write_result-requires-clause-before c n inst has less is =
    let (marks, first, removed, updating) = c.requires.taken in
    let stands = updating.stand c.args.place.block c.args.place.number first.there in
    updating.right c.args.place.block n inst (stands.0, has) (none_earlier c.args.draft.now marks c.args.place c.requires.settled.whole first stands.1 n has less) is

pub returns-then-not-differs-clause-behind : goal.returns-then-not-differs-clause-behind
returns-then-not-differs-clause-behind c b n has = inl has

pub returns-then-not-differs-clause-updating : goal.returns-then-not-differs-clause-updating
returns-then-not-differs-clause-updating c =
    let d = c.args.draft.now in
    let p = c.args.place in
    let (marks, first, removed, updating) = c.requires.taken in
    let stands = updating.stand p.block p.number first.there in
    let e = c.in_ok-differs.ensures in
    updated d marks c.args.waiting.now.marks p c.args.bits.now c.write_result.new.bits updating e.as_many e.blocks e.rows e.others e.right
    (λ inst is. reads_other c.reads_of_a_block_stand_before.ensures d c.requires.settled c.requires.checks p.block p.number inst stands is)
    (λ b n has. updating.stand b n ((removed b n).0 has).1)
    (λ b n other has. (removed b n).1 ((λ is. other (sym is.0, sym is.1)), has))
    (inl (e.same c.if-not-differs.true))

pub returns-then-not-differs-clause-more : goal.returns-then-not-differs-clause-more
returns-then-not-differs-clause-more c p has = has

pub returns-then-not-differs-clause-same : goal.returns-then-not-differs-clause-same
returns-then-not-differs-clause-same c b n free =
    none_differs c.args.place c.args.bits.now c.write_result.new.bits c.in_ok-differs.ensures.others (c.in_ok-differs.ensures.same c.if-not-differs.true) b n

pub wait_for_readers-requires-clause-whole : goal.wait_for_readers-requires-clause-whole
wait_for_readers-requires-clause-whole c = c.requires.settled.whole

pub wait_for_readers-requires-clause-place : goal.wait_for_readers-requires-clause-place
wait_for_readers-requires-clause-place c =
    let (marks, first, removed, updating) = c.requires.taken in
    stands_there c.args.draft.now c.requires.settled.whole c.args.place.block c.args.place.number (updating.stand c.args.place.block c.args.place.number first.there).1

pub returns-clause-behind : goal.returns-clause-behind
returns-clause-behind c b n has = elim (c.in_ok-wait_for_readers.ensures.only b n has) [
  | inl before ↦ inl before
  | inr (stands, takes) ↦ inr (taken_behind c.reads_of_a_block_stand_before.ensures c.args.draft.now c.requires.settled c.requires.checks c.args.place b n stands takes)
]

pub returns-clause-updating : goal.returns-clause-updating
returns-clause-updating c =
    let d = c.args.draft.now in
    let p = c.args.place in
    let (marks, first, removed, updating) = c.requires.taken in
    let stands = updating.stand p.block p.number first.there in
    let e = c.in_ok-differs.ensures in
    let waits = c.in_ok-wait_for_readers.ensures in
    updated d marks c.wait_for_readers.new.waiting.marks p c.args.bits.now c.write_result.new.bits updating e.as_many e.blocks e.rows e.others e.right
    (λ inst is. reads_other c.reads_of_a_block_stand_before.ensures d c.requires.settled c.requires.checks p.block p.number inst stands is)
    (λ b n has. elim (waits.only b n has) [
      | inl before ↦ updating.stand b n ((removed b n).0 before).1
      | inr (here, takes) ↦ here
    ])
    (λ b n other has. waits.stay b n ((removed b n).1 ((λ is. other (sym is.0, sym is.1)), has)))
    (inr (λ n inst here is reads. waits.readers n here (reads_takes d c.requires.settled.whole p n inst is reads)))

pub returns-clause-few : goal.returns-clause-few
returns-clause-few c = c.in_ok-differs.ensures.few

pub returns-clause-more : goal.returns-clause-more
returns-clause-more c p has =
    subst (λ (l : List Place). Contains l p) (sym c.in_ok-push.ensures.items) (Contains-append_left c.args.changed.now.items (c.args.place ∷ []) p has)

pub returns-clause-places : goal.returns-clause-places
returns-clause-places c =
    let d = c.args.draft.now in
    let p = c.args.place in
    let (marks, first, removed, updating) = c.requires.taken in
    let (block, at, within) = stands_there d c.requires.settled.whole p.block p.number (updating.stand p.block p.number first.there).1 in
    subst (All (IsPlaceIn (arena_of d))) (sym c.in_ok-push.ensures.items) (All-push (IsPlaceIn (arena_of d)) c.args.changed.now.items p c.requires.places (block, at, inl within))

pub returns-clause-same : goal.returns-clause-same
returns-clause-same c b n free =
    let p = c.args.place in
    let told : Contains c.push.new.self.items p = subst (λ (l : List Place). Contains l p) (sym c.in_ok-push.ensures.items) (Contains-push c.args.changed.now.items p) in
    c.in_ok-differs.ensures.others b n (λ here. free (subst (Contains c.push.new.self.items) (sym (same_place (record { block = b; number = n }) p here.0 here.1)) told))
