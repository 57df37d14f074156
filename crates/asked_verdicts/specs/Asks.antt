-- The verdicts that are kept, each pair's from when it is first asked, and what one search asks.
use Rattle.std.specs.Prelude.{◌≡◌, ℕ, Bool, List, [], ◌∷◌, ◌++◌, map, All, Any, MatchBool}
use Rattle.ir_core.specs.declared.function.Function.{Function}
use Rattle.rule_core.specs.declared.rule.Rule.{Rule}
use Rattle.verdict_core.specs.declared.verdicts.Row.{Row}
use Rattle.verdict.specs.Table.{IsHonestTable}
use Rattle.bindings.specs.declared.rule_match.Match.{Match}
use Rattle.bindings.specs.Matches.{IsMatchAmong, ComesBefore, AreMatchesWhere}
use Rattle.asked_verdicts.specs.Stored.{IsUnrefutedIn}
use Rattle.asked_verdicts.specs.declared.verdicts.Verdicts.{Verdicts}
use Rattle.strategy_core.specs.Asked.{Pair, pair_of, pair_in, IsAdmitted, IsTurnedDown, AreFirstAsked}

-- The kept verdicts after exactly these pairs were asked: honest ones on these, in the order in which they were first
-- asked.
pub record AreVerdictsOn (rules : List Rule) (conflicts : ℕ) (asked : List Pair) (verdicts : Verdicts) : Type 0 where
  pub rows : AreFirstAsked asked (map pair_in verdicts.table)
  pub honest : IsHonestTable rules conflicts verdicts.table
  -- where a search ended as a `Budget`, the log that is stored for its pair doesn't refute its clauses
  pub unrefuted : All (IsUnrefutedIn verdicts.logs) verdicts.table
  -- the set of pairs is that of the rows, in their order
  pub pairs : map (λ key. (key.0, key.1.items)) verdicts.pairs.keys ≡ map pair_in verdicts.table

-- the kept verdicts after some pairs were asked
abbrev pub AreVerdicts : List Rule → ℕ → Verdicts → Type 0
AreVerdicts rules conflicts verdicts = (asked : List Pair) × AreVerdictsOn rules conflicts asked verdicts

-- These pairs are asked, whatever was asked before: rows are only appended, and the stored logs stay.
pub record Asks (rules : List Rule) (conflicts : ℕ) (pairs : List Pair) (old new : Verdicts) : Type 0 where
  pub more : List Row
  pub rows : new.table ≡ old.table ++ more
  pub logs : new.logs ≡ old.logs
  pub asked : (before : List Pair) → AreVerdictsOn rules conflicts before old → AreVerdictsOn rules conflicts (before ++ pairs) new

-- Nothing was asked: the verdicts and the stored logs are the same.
pub record IsUnasked (old new : Verdicts) : Type 0 where
  pub table : new.table ≡ old.table
  pub pairs : new.pairs.keys ≡ old.pairs.keys
  pub logs : new.logs ≡ old.logs

-- ---- searches through those matches of a function, inside blocks or across blocks, of which P holds

-- any match of the function
abbrev pub IsAnywhere : Match → Type 0
IsAnywhere m = Unit {0}

-- the verdicts of all are asked, in order; `any` says whether one of them is admitted
pub record AsksAll (across : Bool) (rules : List Rule) (conflicts : ℕ) (f : Function) (P : Match → Type 0) (old new : Verdicts) (any : Bool) : Type 0 where
  pub matches : List Match
  pub are_matches : AreMatchesWhere across rules f P matches
  pub asks : Asks rules conflicts (map pair_of matches) old new
  pub answer : MatchBool any (Any (IsAdmitted new.table) matches) (All (IsTurnedDown new.table) matches)

-- the verdicts of those before this match are asked, in order, and are turned down; then that of this one, which is
-- admitted
pub record AsksUpTo (across : Bool) (rules : List Rule) (conflicts : ℕ) (f : Function) (P : Match → Type 0) (old new : Verdicts) (chosen : Match) : Type 0 where
  pub is_match : IsMatchAmong across rules f chosen
  pub holds : P chosen
  pub passed : List Match
  pub are_before : AreMatchesWhere across rules f (λ m. P m × ComesBefore m chosen) passed
  pub asks : Asks rules conflicts (map pair_of (passed ++ chosen ∷ [])) old new
  pub turned_down : All (IsTurnedDown new.table) passed
  pub admitted : IsAdmitted new.table chosen
