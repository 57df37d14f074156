use Rattle.draft_steps.proofs.Common.{get_or, refl, subst, IsNeeded, nowhere}
use Rattle.draft_steps.proofs.Clearing.{read_needed}
use Rattle.draft_steps.proofs.ToEnds.{standing_known}
use Rattle.draft_steps.proofs.dead_code.is_seen_needed.Goals as goal
use Rattle.draft_steps.proofs.dead_code.is_seen_needed.Goals.{then-reads, else-reads}

pub loop-place-init : goal.loop-place-init
loop-place-init c = λ need. need

pub returns-then-is : goal.returns-then-is
returns-then-is c = λ same b n e stands. c.loop-place.invariant (c.requires.result c.loop-place.here (c.if-is.ensures.0 refl))

pub loop-place-preserved : goal.loop-place-preserved
loop-place-preserved c =
    let d = c.args.draft.now in
    let p = get_or c.deref-place-items.result.now c.loop-place.place-index nowhere in
    elim c.if-reads.branch [
      | then-reads w ↦ λ need. c.loop-place.invariant (read_needed d.arena p c.loop-place.here (w.if-reads.ensures.0 refl) (subst (IsNeeded d.arena) w.here-is need))
      | else-reads w ↦ λ need. c.loop-place.invariant (subst (IsNeeded d.arena) w.here-is need)
    ]

pub returns-then-is-2 : goal.returns-then-is-2
returns-then-is-2 c = λ same b n e stands. c.loop-place.invariant (c.requires.result c.loop-place.here (c.if-is-2.ensures.0 refl))

pub leads_to_a_terminator-requires-clause-known : goal.leads_to_a_terminator-requires-clause-known
leads_to_a_terminator-requires-clause-known c =
    let standing = c.if-not-is_standing.ensures in
    standing_known c.args.draft.now c.args.register c.requires.whole (λ b n e. (standing.result b n e).0 refl) (λ p e. let other = standing.parameter p e in cc)

pub returns : goal.returns
returns c = λ same b n e stands. c.leads_to_a_terminator.ensures same
