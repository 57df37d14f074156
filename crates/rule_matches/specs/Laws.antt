-- The law of the order of matches.
use Rattle.std.specs.Prelude.{◌≡◌, Bool, List, ◌∷◌, ◌++◌}
use Rattle.ir_core.specs.declared.function.Function.{Function}
use Rattle.rule_core.specs.declared.rule.Rule.{Rule}
use Rattle.bindings.specs.declared.rule_match.Match.{Match}
use Rattle.bindings.specs.Matches.{IsMatchAmong, AreMatches, AreMatchesBefore}

-- every list of all matches begins with those that come before one of them, followed by that one
abbrev pub MatchesBeforeStandFirst : Type 0
MatchesBeforeStandFirst = (across : Bool) (rules : List Rule) (f : Function) (chosen : Match) (passed all : List Match)
    → IsMatchAmong across rules f chosen → AreMatchesBefore across rules f chosen passed → AreMatches across rules f all
    → (later : List Match) × (all ≡ passed ++ chosen ∷ later)
