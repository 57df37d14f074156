use Rattle.rule_matches.proofs.Common.{IsAt, known_by}
use Rattle.rule_matches.proofs.Ordered.{found_in_order}
use Rattle.rule_matches.proofs.matches.matches_at.Goals as goal

pub returns : goal.returns
returns c =
    found_in_order c.args.rules.now.across (known_by c.args.known.now) c.args.rules.now.all.now c.args.f.now (IsAt c.args.block c.args.place)
    (λ asks m of x. rw (of.0, of.1) (c.requires.known asks x))
    c.temporaries_stand_before_roots.ensures c.requires.checks c.requires.ready c.matches_in_any_order.result c.matches_in_any_order.ensures
