-- Every match that is left has a verdict, and none is admitted, unless its function ran out of steps.
use Rattle.strategy_core.proofs.Common.{◌≡◌, ℕ, Bool, true, false, List, map, Some, refl, sym, ap, subst, ◌∙◌, All, Contains, MatchBool, IsTrue, slice_get, same_Some, All-contains, Contains-append_left, Contains-append_right, Contains-map, from_map, get-map, place_in, Entry, Function, Rule, Row, Match, Pair, pair_of, pair_in, IsAdmitted, IsTurnedDown, IsOptimised, AreOptimised, none, kept, function, IsDecided, function_in, StrategyDecides, AllZip, flat_map}

if_not_limited : (P Q : Type 0) (limited : Bool) → MatchBool limited P Q → ¬ IsTrue limited → Q
if_not_limited P Q true holds other = absurd (other refl)
if_not_limited P Q false holds other = holds

module _ (fold across : Bool) (rules : List Rule) (table : List Row) (once : (i j : ℕ) (p : Pair) → slice_get (map pair_in table) i ≡ Some p → slice_get (map pair_in table) j ≡ Some p → i ≡ j) where
  -- a table has at most one row on a pair
  same_row : (r s : Row) → Contains table r → Contains table s → pair_in r ≡ pair_in s → r ≡ s
  same_row r s has_r has_s same =
      let i = place_in table r has_r in
      let j = place_in table s has_s in
      let at_i : slice_get (map pair_in table) i.0 ≡ Some (pair_in r) = get-map pair_in table i.0 r i.1 in
      let at_j : slice_get (map pair_in table) j.0 ≡ Some (pair_in r) = get-map pair_in table j.0 s j.1 ∙ ap (λ (p : Pair). Some p) (sym same) in
      let place : i.0 ≡ j.0 = once i.0 j.0 (pair_in r) at_i at_j in
      same_Some r s (sym i.1 ∙ ap (slice_get table) place ∙ j.1)

  not_both : (m : Match) → IsTurnedDown table m → ¬ IsAdmitted table m
  not_both m down up =
      let same : down.0 ≡ up.0 = same_row down.0 up.0 down.1 up.1 (down.2 ∙ sym up.2) in
      down.3 (ap (λ (r : Row). r.verdict) same ∙ up.3)

  decided : (steps : ℕ) (old new : Function) (count : ℕ) (limited : Bool) (asked : List Pair)
      → ((p : Pair) → Contains asked p → Contains (map pair_in table) p) → IsOptimised fold across rules table steps old new count limited asked → IsDecided across rules table new limited
  decided steps old new count limited asked has o = record {
    verdicts = λ m is.
        let among : Contains o.last.matches m = o.last.are_matches.all m is in
        let asks : Contains o.at_last (pair_of m) = subst (λ (l : List Pair). Contains l (pair_of m)) (sym o.last.asks) (Contains-map pair_of o.last.matches m among) in
        let whole : Contains asked (pair_of m) = subst (λ (l : List Pair). Contains l (pair_of m)) (sym o.asks) (Contains-append_right o.in_steps o.at_last (pair_of m) asks) in
        let row = from_map pair_in table (pair_of m) (has (pair_of m) whole) in
        (row.0, row.1, sym row.2, tt);
    none_admitted = λ not_limited m is.
        let down : All (IsTurnedDown table) o.last.matches = if_not_limited _ (All (IsTurnedDown table) o.last.matches) limited o.last.ends not_limited in
        not_both m (All-contains (IsTurnedDown table) o.last.matches m down (o.last.are_matches.all m is));
  }

  all_decided : {steps : ℕ} {old new : List Entry} {counts : List ℕ} {limited : List Bool} {asked : List Pair}
      → ((p : Pair) → Contains asked p → Contains (map pair_in table) p) → AreOptimised fold across rules table steps old new counts limited asked
      → AllZip (IsDecided across rules table) (flat_map function_in new) limited
  all_decided has none = tt
  all_decided has (kept line old new counts limited asked others) = all_decided has others
  all_decided {steps} has (function f last count is_limited asked old new counts limited rest one others) = (
    decided steps f last count is_limited asked (λ p h. has p (Contains-append_left asked rest p h)) one,
    all_decided (λ p h. has p (Contains-append_right asked rest p h)) others,
  )

pub strategy_decides : StrategyDecides
strategy_decides fold across rules steps table old new counts limited given =
    all_decided fold across rules table given.rows.once (λ p h. (given.rows.same p).1 h) given.entries
