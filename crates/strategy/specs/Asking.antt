-- When verdicts may be asked for.
use Rattle.std.specs.Prelude.{ℕ, ◌≤◌}
use Rattle.bindings.specs.Ready.{AreReady}
use Rattle.rule_matches.specs.Roots.{AreByRoot}
use Rattle.rule_matches.specs.declared.matches.Rules.{Rules}
use Rattle.asked_verdicts.specs.declared.verdicts.Verdicts.{Verdicts}
use Rattle.asked_verdicts.specs.Asks.{AreVerdicts}
use Rattle.verdict.specs.Found.{most_conflicts}

-- the verdicts of matches of these rules may be asked for, within this limit on learned clauses: the rules are read
-- ones, and the verdicts so far are kept as they should be
pub record MayAsk (rules : Rules) (limit : ℕ) (kept : Verdicts) : Type 0 where
  pub ready : AreReady rules.all.now
  pub by_root : AreByRoot rules.all.now rules.by_root.now
  pub conflicts : limit ≤ most_conflicts
  pub verdicts : AreVerdicts rules.all.now limit kept
