use Rattle.draft_steps.proofs.Clearing.{end_needed, read_needed}
use Rattle.draft_steps.proofs.ToEnds.{inst_known}
use Rattle.draft_steps.proofs.leading.leads_to_a_terminator.Goals as goal

pub loop-reader-init : goal.loop-reader-init
loop-reader-init c = record { known = c.requires.known; leads = λ need. need }

pub returns-then-place : goal.returns-then-place
returns-then-place c = λ same.
    c.loop-reader.invariant.leads (end_needed c.args.draft.now.arena c.in-Some.place c.loop-reader.here c.in-Some.ensures.reads c.if-place.true)

pub loop-reader-preserved : goal.loop-reader-preserved
loop-reader-preserved c =
    let f = c.args.draft.now.arena in
    let place = c.in-Some.place in
    record {
      known = inst_known f place c.in-Some.ensures.place c.if-place.false;
      leads = λ need. c.loop-reader.invariant.leads (read_needed f place c.loop-reader.here c.in-Some.ensures.reads need);
    }
