use Rattle.matcher.proofs.Common.{refl, fails, known_by, matched_operation}
use Rattle.matcher.proofs.Ordered.{found_in_order, none_in_order}
use Rattle.matcher.proofs.matching.match_at.Goals as goal

pub returns-then-not-is_root_operation-clause-none : goal.returns-then-not-is_root_operation-clause-none
returns-then-not-is_root_operation-clause-none c m is =
    fails c.is_root_operation.result c.is_root_operation.ensures c.if-not-is_root_operation.true
    (matched_operation c.args.f.now c.args.block c.args.place c.args.rule.now m c.requires.rule is)

pub returns-clause-ok : goal.returns-clause-ok
returns-clause-ok c =
    found_in_order c.args.across (known_by c.in_ok-known.known) c.args.f.now c.args.block c.args.place (λ x. rw (c.in_ok-known.ensures.block, c.in_ok-known.ensures.results) refl)
    c.temporaries_stand_before_roots.ensures c.args.rule.now c.requires.checks c.requires.rule c.match_in.result c.match_in.ensures.ok

pub returns-clause-none : goal.returns-clause-none
returns-clause-none c =
    none_in_order c.args.across (known_by c.in_ok-known.known) c.args.f.now c.args.block c.args.place (λ x. rw (c.in_ok-known.ensures.block, c.in_ok-known.ensures.results) refl)
    c.args.rule.now c.match_in.result c.match_in.ensures.none
