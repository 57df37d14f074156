use Rattle.matcher.proofs.Common.{◌≡◌, ◌∙◌, sym, same_Some, known_by, holds, fails, match_here, match_there, matched_operation}
use Rattle.matcher.proofs.matching.match_in.Goals as goal
use Rattle.matcher.proofs.matching.match_in.Goals.{then-not-reached-via-then-not-reached, then-not-reached-via-else-not-reached+then-not-is_root_operation}

pub returns-then-not-reached-clause-none : goal.returns-then-not-reached-clause-none
returns-then-not-reached-clause-none c m is = elim c.then-not-reached.branch [
  | then-not-reached-via-then-not-reached w ↦
      fails c.reached.result (c.reached.ensures c.args.f.now (sym c.requires.facts.flow)) w.if-not-reached.true is.reached
  | then-not-reached-via-else-not-reached+then-not-is_root_operation w ↦
      fails w.is_root_operation.result w.is_root_operation.ensures w.if-not-is_root_operation.true
      (matched_operation c.args.f.now c.args.block c.args.place c.args.rule.now m c.requires.rule is)
]

pub returns-in_default-clause-none : goal.returns-in_default-clause-none
returns-in_default-clause-none c m is = let forced = c.in_ok-binding.ensures.forced c.args.across (known_by c.args.known.now) m is in absurd cc

pub returns-then-is_match-clause-ok : goal.returns-then-is_match-clause-ok
returns-then-is_match-clause-ok c =
    let there = rw c.in-Some.is at c.in_ok-binding.ensures.place in
    let found = holds c.is_match.result c.is_match.ensures c.if-is_match.true in
    match_here c.args.f.now c.args.block c.args.place c.args.rule.now c.in-Some.binding there found

pub returns-else-is_match-clause-none : goal.returns-else-is_match-clause-none
returns-else-is_match-clause-none c m is =
    let same : c.in-Some.binding ≡ m = same_Some c.in-Some.binding m (sym c.in-Some.is ∙ c.in_ok-binding.ensures.forced c.args.across (known_by c.args.known.now) m is) in
    fails c.is_match.result c.is_match.ensures c.if-is_match.false (match_there c.args.f.now c.args.block c.args.place c.args.rule.now m c.in-Some.binding is same)
