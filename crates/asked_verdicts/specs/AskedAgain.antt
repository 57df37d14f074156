-- The law that asking again changes nothing.
use Rattle.std.specs.Prelude.{ℕ, List, map, All, Contains}
use Rattle.rule_core.specs.declared.rule.Rule.{Rule}
use Rattle.asked_verdicts.specs.declared.verdicts.Verdicts.{Verdicts}
use Rattle.strategy_core.specs.Asked.{Pair, pair_in}
use Rattle.asked_verdicts.specs.Asks.{Asks}

-- pairs that have rows may be asked once more, whatever was asked before: the verdicts stay as they are
abbrev pub PairsWithRowsChangeNothing : Type 0
PairsWithRowsChangeNothing = (rules : List Rule) (conflicts : ℕ) (pairs : List Pair) (verdicts : Verdicts)
    → All (Contains (map pair_in verdicts.table)) pairs → Asks rules conflicts pairs verdicts verdicts
