-- The plain strategy: what rules make of a module by a table of verdicts, function by function in text order.
--
-- First a function's dead code is eliminated (it is cleaned). Then a search goes through its matches in order, asks for
-- the verdict of each, and ends at the first that is admitted. There the function is rewritten and cleaned, which is a
-- step, and the search begins again. The last search finds no admitted match, or has no step left; it goes through all
-- matches. Where folding of branches is asked for, a function is folded each time before it is cleaned; where matching
-- across blocks is, its matches are those across blocks.
use Rattle.std.specs.Prelude.{◌≡◌, ℕ, suc, ◌-◌, ◌≤◌, Bool, true, false, List, [], ◌∷◌, ◌++◌, map, All, Any, MatchBool}
use Rattle.ir_core.specs.declared.module.Module.{Module}
use Rattle.ir_core.specs.declared.module.Entry.{Entry}
use Rattle.ir_core.specs.declared.module.Entry.TheVariants as entries
use Rattle.ir_core.specs.declared.function.Function.{Function}
use Rattle.rule_core.specs.declared.rule.Rule.{Rule}
use Rattle.verdict_core.specs.declared.verdicts.Row.{Row}
use Rattle.needed.specs.Cleaned.{IsCleaned}
use Rattle.fold_branch.specs.Folded.{IsFolded}
use Rattle.rewriter.specs.Applied.{IsRewritten}
use Rattle.bindings.specs.declared.rule_match.Match.{Match}
use Rattle.bindings.specs.Matches.{IsMatchAmong, AreMatches, AreMatchesBefore}
use Rattle.strategy_core.specs.Asked.{Pair, pair_of, pair_in, IsAdmitted, IsTurnedDown, AreFirstAsked}

-- the old function cleaned; where folding is asked for, after it is folded
abbrev pub IsTidied : Bool → Function → Function → Type 0
IsTidied true old new = (folded : Function) × IsFolded old folded × IsCleaned folded new
IsTidied false old new = IsCleaned old new

-- The last search of a function, with `left` steps left, asks for the verdicts of all matches. Either all are turned
-- down, or no step is left and one is admitted: then the function is limited.
pub record IsLastSearch (across : Bool) (rules : List Rule) (table : List Row) (left : ℕ) (f : Function) (limited : Bool) (asked : List Pair) : Type 0 where
  pub matches : List Match
  pub are_matches : AreMatches across rules f matches
  pub asks : asked ≡ map pair_of matches
  pub ends : MatchBool limited ((left ≡ 0) × Any (IsAdmitted table) matches) (All (IsTurnedDown table) matches)

module _ (fold across : Bool) (rules : List Rule) (table : List Row) where
  -- One step: the search asks for the verdicts of the matches before some match, which are all turned down, and then of
  -- that match, which is admitted. There the function is rewritten, and then tidied.
  pub record IsStep (f new : Function) (asked : List Pair) : Type 0 where
    pub chosen : Match
    pub is_match : IsMatchAmong across rules f chosen
    pub passed : List Match
    pub are_before : AreMatchesBefore across rules f chosen passed
    pub turned_down : All (IsTurnedDown table) passed
    pub admitted : IsAdmitted table chosen
    pub asks : asked ≡ map pair_of (passed ++ chosen ∷ [])
    pub rewritten : Function
    pub is_rewritten : IsRewritten f chosen.binding is_match.rule rewritten
    pub is_tidied : IsTidied fold rewritten new

  -- one function comes of another by this many steps, in which these pairs are asked
  pub data ComesOf : ℕ → Function → Function → List Pair → Type 0 where
    itself : (f : Function) → ComesOf 0 f f []
    by_step : (count : ℕ) (f g h : Function) (asked more : List Pair) → ComesOf count f g asked → IsStep g h more
        → ComesOf (suc count) f h (asked ++ more)

  -- what becomes of a function within `steps` steps: it is rewritten `count` times, is limited or not, and these pairs
  -- are asked
  pub record IsOptimised (steps : ℕ) (old new : Function) (count : ℕ) (limited : Bool) (asked : List Pair) : Type 0 where
    pub tidied : Function
    pub is_tidied : IsTidied fold old tidied
    pub in_steps : List Pair
    pub comes : ComesOf count tidied new in_steps
    pub within : count ≤ steps
    pub at_last : List Pair
    pub last : IsLastSearch across rules table (steps - count) new limited at_last
    pub asks : asked ≡ in_steps ++ at_last

  -- the same for the entries of a module: kept lines stay, and each function has its count, and whether it is limited
  pub data AreOptimised (steps : ℕ) : List Entry → List Entry → List ℕ → List Bool → List Pair → Type 0 where
    none : AreOptimised steps [] [] [] [] []
    kept : (line : List ℕ) (old new : List Entry) (counts : List ℕ) (limited : List Bool) (asked : List Pair)
        → AreOptimised steps old new counts limited asked
        → AreOptimised steps (entries.Kept line ∷ old) (entries.Kept line ∷ new) counts limited asked
    function : (f last : Function) (count : ℕ) (is_limited : Bool) (asked : List Pair)
        (old new : List Entry) (counts : List ℕ) (limited : List Bool) (others : List Pair)
        → IsOptimised steps f last count is_limited asked → AreOptimised steps old new counts limited others
        → AreOptimised steps (entries.Function f ∷ old) (entries.Function last ∷ new) (count ∷ counts) (is_limited ∷ limited) (asked ++ others)

-- What the strategy gives for a module by this table, with at most `steps` steps for each function, and with folding
-- where `fold` asks for it. The table is the strategy's own: it has a row for each pair that is asked, in the order in
-- which they are first asked.
pub record IsPlainStrategy (fold across : Bool) (rules : List Rule) (steps : ℕ) (table : List Row) (old new : Module) (counts : List ℕ) (limited : List Bool) : Type 0 where
  pub asked : List Pair
  pub entries : AreOptimised fold across rules table steps old.entries new.entries counts limited asked
  pub rows : AreFirstAsked asked (map pair_in table)
