use Rattle.draft_steps.proofs.Common.{IsWhole, arena_place}
use Rattle.draft_steps.proofs.OneStep.{bound, good_then, is_rewritten, readable, result_readable, root_inst, root_is, root_stands}
use Rattle.draft_steps.proofs.stepping.applied_draft.Goals as goal

pub rewrite_draft-requires-clause-bound : goal.rewrite_draft-requires-clause-bound
rewrite_draft-requires-clause-bound c =
    bound c.args.draft c.requires.settled c.args.rule.now c.args.binding.now c.requires.checks c.requires.rule c.requires.matches.1

pub rewrite_draft-requires-clause-root : goal.rewrite_draft-requires-clause-root
rewrite_draft-requires-clause-root c =
    root_stands c.args.draft c.requires.settled c.args.rule.now c.args.binding.now c.requires.checks c.requires.rule c.requires.matches.1

pub rewrite_draft-requires-clause-readable : goal.rewrite_draft-requires-clause-readable
rewrite_draft-requires-clause-readable c =
    readable c.args.draft c.requires.settled c.args.rule.now c.args.binding.now c.requires.checks c.requires.rule c.requires.matches.1

pub rewrite_draft-requires-clause-result : goal.rewrite_draft-requires-clause-result
rewrite_draft-requires-clause-result c =
    result_readable c.args.draft c.requires.settled c.args.rule.now c.args.binding.now c.requires.checks c.requires.rule c.requires.matches.1

pub returns-clause-settled : goal.returns-clause-settled
returns-clause-settled c =
    let r = root_is c.args.draft c.requires.settled c.args.rule.now c.args.binding.now c.requires.checks c.requires.rule c.requires.matches.1 in
    let p = c.in_ok-told.ensures.rewritten (root_inst c.args.draft c.requires.settled c.args.rule.now c.args.binding.now c.requires.checks c.requires.rule c.requires.matches.1) r in
    let w : IsWhole c.rewrite_draft.new.draft = c.in_ok-told.ensures.whole in
    record {
      whole = record { few = w.few; ordered = w.ordered; marked = w.marked; rows = w.rows; known = w.known; facts = w.facts; readers = w.readers; cycles = w.cycles };
      read_stands = λ b n at inside reads. (good_then c.args.draft c.requires.settled c.args.rule.now c.args.binding.now c.requires.checks c.requires.rule c.requires.matches.1 c.rewrite_draft.new.draft c.in_ok-told.ensures.whole c.in_ok-told.told p).read at.block (arena_place c.rewrite_draft.new.draft.arena at) b n reads;
      none_fell = c.new-none.ensures.items;
    }

pub returns-clause-applied : goal.returns-clause-applied
returns-clause-applied c =
    let r = root_is c.args.draft c.requires.settled c.args.rule.now c.args.binding.now c.requires.checks c.requires.rule c.requires.matches.1 in
    let p = c.in_ok-told.ensures.rewritten (root_inst c.args.draft c.requires.settled c.args.rule.now c.args.binding.now c.requires.checks c.requires.rule c.requires.matches.1) r in
    is_rewritten c.args.draft c.requires.settled c.args.rule.now c.args.binding.now c.requires.checks c.requires.rule c.requires.matches.1 c.rewrite_draft.new.draft c.in_ok-told.ensures.whole c.in_ok-told.told p
