-- That no match is left that should have been rewritten.
use Rattle.std.specs.Prelude.{Bool, List, [], ◌∷◌, IsTrue}
use Rattle.std.specs.List.{AllZip, flat_map}
use Rattle.ir_core.specs.declared.module.Module.{Module}
use Rattle.ir_core.specs.declared.module.Entry.{Entry}
use Rattle.ir_core.specs.declared.module.Entry.TheVariants as entries
use Rattle.ir_core.specs.declared.function.Function.{Function}
use Rattle.rule_core.specs.declared.rule.Rule.{Rule}
use Rattle.verdict_core.specs.declared.verdicts.Row.{Row}
use Rattle.bindings.specs.declared.rule_match.Match.{Match}
use Rattle.bindings.specs.Matches.{IsMatchAmong}
use Rattle.strategy_core.specs.Asked.{pair_of, HasVerdict, IsAdmitted}

-- every match in the function has a verdict in the table, and none is admitted, unless the function ran out of steps
pub record IsDecided (across : Bool) (rules : List Rule) (table : List Row) (f : Function) (limited : Bool) : Type 0 where
  pub verdicts : (m : Match) → IsMatchAmong across rules f m → HasVerdict table (λ verdict. Unit {0}) (pair_of m)
  pub none_admitted : ¬ IsTrue limited → (m : Match) → IsMatchAmong across rules f m → ¬ IsAdmitted table m

-- an entry's function, if it is one
abbrev pub function_in : Entry → List Function
function_in (entries.Kept line) = []
function_in (entries.Function f) = f ∷ []

-- the same of each function of the module, `limited` telling which ran out of steps
abbrev pub MatchesAreDecided : Bool → List Rule → List Row → Module → List Bool → Type 0
MatchesAreDecided across rules table m limited = AllZip (IsDecided across rules table) (flat_map function_in m.entries) limited
