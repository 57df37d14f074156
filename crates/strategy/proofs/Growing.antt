-- What the strategy gives by a table of verdicts it gives by any larger one.
use Rattle.strategy.proofs.Common.{◌≡◌, ℕ, ◌-◌, Bool, true, false, List, All, Any, Contains, MatchBool, Entry, Function, Rule, Row, Match, Pair, IsAdmitted, IsTurnedDown, admitted_stays, all_turned_down_stay, any_admitted_stays, IsStep, ComesOf, by_step, IsLastSearch, IsOptimised, AreOptimised, kept, function}
use Rattle.strategy_core.specs.PlainStrategy.{itself, none}

module _ (fold across : Bool) (rules : List Rule) (table larger : List Row) (grows : (row : Row) → Contains table row → Contains larger row) where
  pub step_stays : (f new : Function) (asked : List Pair) → IsStep fold across rules table f new asked → IsStep fold across rules larger f new asked
  step_stays f new asked s = record {
    chosen = s.chosen;
    is_match = s.is_match;
    passed = s.passed;
    are_before = s.are_before;
    turned_down = all_turned_down_stay rules table larger grows s.passed s.turned_down;
    admitted = admitted_stays rules table larger grows s.chosen s.admitted;
    asks = s.asks;
    rewritten = s.rewritten;
    is_rewritten = s.is_rewritten;
    is_tidied = s.is_tidied;
  }

  pub steps_stay : {count : ℕ} {f g : Function} {asked : List Pair} → ComesOf fold across rules table count f g asked → ComesOf fold across rules larger count f g asked
  steps_stay (itself f) = itself f
  steps_stay (by_step count f g h asked more comes step) = by_step count f g h asked more (steps_stay comes) (step_stays g h more step)

  ends_stay : (left : ℕ) (limited : Bool) (ms : List Match) → MatchBool limited ((left ≡ 0) × Any (IsAdmitted table) ms) (All (IsTurnedDown table) ms)
      → MatchBool limited ((left ≡ 0) × Any (IsAdmitted larger) ms) (All (IsTurnedDown larger) ms)
  ends_stay left true ms h = (h.0, any_admitted_stays rules table larger grows ms h.1)
  ends_stay left false ms h = all_turned_down_stay rules table larger grows ms h

  pub last_stays : (left : ℕ) (f : Function) (limited : Bool) (asked : List Pair) → IsLastSearch across rules table left f limited asked → IsLastSearch across rules larger left f limited asked
  last_stays left f limited asked s = record { matches = s.matches; are_matches = s.are_matches; asks = s.asks; ends = ends_stay left limited s.matches s.ends }

  pub optimised_stays : (steps : ℕ) (old new : Function) (count : ℕ) (limited : Bool) (asked : List Pair)
      → IsOptimised fold across rules table steps old new count limited asked → IsOptimised fold across rules larger steps old new count limited asked
  optimised_stays steps old new count limited asked o = record {
    tidied = o.tidied;
    is_tidied = o.is_tidied;
    in_steps = o.in_steps;
    comes = steps_stay o.comes;
    within = o.within;
    at_last = o.at_last;
    last = last_stays (steps - count) new limited o.at_last o.last;
    asks = o.asks;
  }

  pub entries_stay : {steps : ℕ} {old new : List Entry} {counts : List ℕ} {limited : List Bool} {asked : List Pair}
      → AreOptimised fold across rules table steps old new counts limited asked → AreOptimised fold across rules larger steps old new counts limited asked
  entries_stay none = none
  entries_stay (kept line old new counts limited asked others) = kept line old new counts limited asked (entries_stay others)
  entries_stay {steps} (function f last count is_limited asked old new counts limited rest one others) =
      function f last count is_limited asked old new counts limited rest (optimised_stays steps f last count is_limited asked one) (entries_stay others)
