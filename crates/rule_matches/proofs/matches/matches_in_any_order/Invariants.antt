-- the matches of the rules so far are found
use Rattle.rule_matches.proofs.Common.{take, AreMatchesInAnyOrder, known_by}
use Rattle.rule_matches.proofs.Matching.{IsAtAmong}
use Rattle.rule_matches.proofs.matches.matches_in_any_order.Given as goal

abbrev pub invariant-loop-rule : goal.invariant-loop-rule
invariant-loop-rule l = AreMatchesInAnyOrder l.rules.across (known_by l.known) l.rules.all.now l.f (IsAtAmong l.block l.place (take l.rule-index l.rule-items)) l.found
