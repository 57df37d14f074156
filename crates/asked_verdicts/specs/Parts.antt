-- What the search in a part of a function asks.
use Rattle.std.specs.Prelude.{◌≡◌, ℕ, List, [], ◌∷◌, ◌++◌, map, take, All, Option, None, Some, slice_get}
use Rattle.rule_core.specs.declared.rule.Rule.{Rule}
use Rattle.bindings.specs.declared.rule_match.Match.{Match}
use Rattle.asked_verdicts.specs.declared.verdicts.Verdicts.{Verdicts}
use Rattle.strategy_core.specs.Asked.{pair_of, IsAdmitted, IsTurnedDown}
use Rattle.asked_verdicts.specs.Asks.{Asks}

-- of these matches the verdicts up to the first that is admitted are asked, or all, if none is
abbrev pub AsksToPlace : List Rule → ℕ → List Match → Verdicts → Verdicts → Option ℕ → Type 0
AsksToPlace rules conflicts matches old new None = Asks rules conflicts (map pair_of matches) old new × All (IsTurnedDown new.table) matches
AsksToPlace rules conflicts matches old new (Some place) = (chosen : Match) × (slice_get matches place ≡ Some chosen)
    × Asks rules conflicts (map pair_of (take place matches ++ chosen ∷ [])) old new
    × All (IsTurnedDown new.table) (take place matches) × IsAdmitted new.table chosen

-- the match stands in the block
abbrev pub IsInBlock : ℕ → Match → Type 0
IsInBlock b m = m.binding.block ≡ b
