-- From one search to the next, up to what becomes of a function.
use Rattle.strategy.proofs.Common.{◌≡◌, ℕ, suc, ◌+◌, ◌-◌, ◌<◌, ◌≤◌, Bool, true, false, List, [], ◌∷◌, ◌++◌, map, refl, sym, subst, ◌∙◌, arith, All, Any, MatchBool, Function, MeetsChecks, Rule, NumbersFit, IsRewritten, Row, Match, Verdicts, Pair, pair_of, IsAdmitted, IsTurnedDown, IsCountable, AreMatches, ComesBefore, everywhere, same_where, Rules, IsTidied, IsStep, ComesOf, by_step, IsLastSearch, Asks, AsksAll, AsksUpTo, IsAnywhere, MayAsk, HasNothingToFold, OptimisesTidied, OptimisesFunction, StepsOrEnds, AreReady, asks_nothing, asks_both, row_stays, still_verdicts}
use Rattle.strategy_core.specs.PlainStrategy.{itself}
use Rattle.strategy.proofs.Growing.{steps_stay}
use Rattle.strategy.proofs.Sizes.{rewritten_countable, tidied_countable}

-- more verdicts may be asked for after some were
pub still_may_ask : (rules : Rules) (limit : ℕ) (pairs : List Pair) (before after : Verdicts) → MayAsk rules limit before
    → Asks rules.all.now limit pairs before after → MayAsk rules limit after
still_may_ask rules limit pairs before after may asks = record {
  ready = may.ready;
  by_root = may.by_root;
  conflicts = may.conflicts;
  verdicts = still_verdicts rules.all.now limit pairs before after may.verdicts asks;
}

module _ (fold across : Bool) (rules : List Rule) (conflicts : ℕ) where
  -- the function is rewritten at the first admitted match, and tidied
  pub step_made : (f rewritten new : Function) (chosen : Match) (before after : Verdicts)
      → (first : AsksUpTo across rules conflicts f IsAnywhere before after chosen) → IsRewritten f chosen.binding first.is_match.rule rewritten → IsTidied fold rewritten new
      → StepsOrEnds fold across rules conflicts f new before after true
  step_made f rewritten new chosen before after first put tidied = (
    map pair_of (first.passed ++ chosen ∷ []),
    first.asks,
    record {
      chosen = chosen;
      is_match = first.is_match;
      passed = first.passed;
      are_before = same_where rules f (λ m. IsAnywhere m × ComesBefore m chosen) (λ m. ComesBefore m chosen) first.passed first.are_before (λ m is h. (tt, h)) (λ m h. h.1);
      turned_down = first.turned_down;
      admitted = first.admitted;
      asks = refl;
      rewritten = rewritten;
      is_rewritten = put;
      is_tidied = tidied;
    },
  )

  -- the verdicts of all matches of the function were asked for
  all_asked : (f : Function) (before after : Verdicts) (any : Bool) (all : AsksAll across rules conflicts f IsAnywhere before after any) → AreMatches across rules f all.matches
  all_asked f before after any all = everywhere rules f IsAnywhere all.matches all.are_matches (λ m is. tt)

  -- none of them is admitted
  pub search_ended : (f : Function) (before after : Verdicts) → AsksAll across rules conflicts f IsAnywhere before after false → StepsOrEnds fold across rules conflicts f f before after false
  search_ended f before after all =
      (map pair_of all.matches, all.asks, refl, λ left. record { matches = all.matches; are_matches = all_asked f before after false all; asks = refl; ends = all.answer })

  pub step_countable : (steps : ℕ) (f new : Function) (table : List Row) (asked : List Pair) → AreReady rules → IsStep fold across rules table f new asked
      → IsCountable (suc steps) f → IsCountable steps new
  step_countable steps f new table asked ready s c =
      let rule : Rule = s.is_match.rule in
      let good = ready s.chosen.rule rule s.is_match.is_rule in
      tidied_countable fold steps s.rewritten new (rewritten_countable steps f s.rewritten rule s.chosen.binding good.checks.few_in_target c s.is_rewritten) s.is_tidied

  -- the loop: `count` steps were made so far
  pub record Along (steps count : ℕ) (tidied f : Function) (before now : Verdicts) : Type 0 where
    pub pairs : List Pair
    pub asks : Asks rules conflicts pairs before now
    pub comes : ComesOf fold across rules now.table count tidied f pairs
    pub checks : MeetsChecks f
    pub numbers : NumbersFit f
    pub folded : HasNothingToFold fold f
    pub countable : IsCountable (steps - count) f

  pub no_step_yet : (steps : ℕ) (tidied : Function) (before : Verdicts) → MeetsChecks tidied → NumbersFit tidied → HasNothingToFold fold tidied → IsCountable steps tidied → Along steps 0 tidied tidied before before
  no_step_yet steps tidied before checks numbers folded countable =
      record { pairs = []; asks = asks_nothing rules conflicts before; comes = itself tidied; checks = checks; numbers = numbers; folded = folded; countable = subst (λ (n : ℕ). IsCountable n tidied) (omega arith) countable }

  pub one_step_more : (steps count : ℕ) (tidied f new : Function) (before now after : Verdicts) → count < steps → AreReady rules
      → Along steps count tidied f before now → StepsOrEnds fold across rules conflicts f new now after true
      → MeetsChecks new → NumbersFit new → HasNothingToFold fold new → Along steps (count + 1) tidied new before after
  one_step_more steps count tidied f new before now after within ready along step checks numbers folded =
      let next : suc count ≡ count + 1 = omega arith in
      let left : steps - count ≡ suc (steps - (count + 1)) = omega (arith, within) in
      record {
        pairs = along.pairs ++ step.0;
        asks = asks_both rules conflicts along.pairs step.0 before now after along.asks step.1;
        comes = subst (λ (n : ℕ). ComesOf fold across rules after.table n tidied new (along.pairs ++ step.0)) next
            (by_step count tidied f new along.pairs step.0 (steps_stay fold across rules now.table after.table (row_stays rules conflicts step.0 now after step.1) along.comes) step.2);
        checks = checks;
        numbers = numbers;
        folded = folded;
        countable = step_countable (steps - (count + 1)) f new after.table step.0 ready step.2 (subst (λ (n : ℕ). IsCountable n f) left along.countable);
      }

  -- the last search was made
  pub all_searched : (steps count : ℕ) (old tidied f : Function) (before now after : Verdicts) (limited : Bool) (pairs : List Pair)
      → IsTidied fold old tidied → count ≤ steps → Along steps count tidied f before now
      → Asks rules conflicts pairs now after → IsLastSearch across rules after.table (steps - count) f limited pairs
      → OptimisesFunction fold across rules conflicts steps old f before after count limited
  all_searched steps count old tidied f before now after limited pairs is_tidied within along asks last = (
    along.pairs ++ pairs,
    asks_both rules conflicts along.pairs pairs before now after along.asks asks,
    record {
      tidied = tidied;
      is_tidied = is_tidied;
      in_steps = along.pairs;
      comes = steps_stay fold across rules now.table after.table (row_stays rules conflicts pairs now after asks) along.comes;
      within = within;
      at_last = pairs;
      last = last;
      asks = refl;
    },
  )

  -- no step is left
  pub at_the_limit : (f : Function) (before after : Verdicts) (limited : Bool) (left : ℕ) → left ≡ 0 → (all : AsksAll across rules conflicts f IsAnywhere before after limited)
      → IsLastSearch across rules after.table left f limited (map pair_of all.matches)
  at_the_limit f before after limited left none all = record { matches = all.matches; are_matches = all_asked f before after limited all; asks = refl; ends = by limited all.answer }
    where
      by : (limited : Bool) → MatchBool limited (Any (IsAdmitted after.table) all.matches) (All (IsTurnedDown after.table) all.matches)
          → MatchBool limited ((left ≡ 0) × Any (IsAdmitted after.table) all.matches) (All (IsTurnedDown after.table) all.matches)
      by true any = (none, any)
      by false all = all

  -- what is given for the function where its steps are spent
  pub spent : (steps count : ℕ) (tidied f last : Function) (before now after : Verdicts) (limited : Bool) → Along steps steps tidied f before now → last ≡ f → count ≡ steps
      → AsksAll across rules conflicts f IsAnywhere now after limited → OptimisesTidied fold across rules conflicts steps tidied last before after count limited
  spent steps count tidied f last before now after limited along same all_made asks old is_tidied =
      let made : OptimisesFunction fold across rules conflicts steps old f before after steps limited =
      all_searched steps steps old tidied f before now after limited (map pair_of asks.matches) is_tidied (omega arith) along asks.asks
      (at_the_limit f now after limited (steps - steps) (omega arith) asks) in
      subst (λ (g : Function). OptimisesFunction fold across rules conflicts steps old g before after count limited) (sym same)
      (subst (λ (n : ℕ). OptimisesFunction fold across rules conflicts steps old f before after n limited) (sym all_made) made)

  -- what is given where a search finds no admitted match
  pub ended : (steps count : ℕ) (tidied f g last : Function) (before now after : Verdicts) → count ≤ steps → Along steps count tidied f before now → last ≡ g
      → StepsOrEnds fold across rules conflicts f g now after false → OptimisesTidied fold across rules conflicts steps tidied last before after count false
  ended steps count tidied f g last before now after within along same end old is_tidied =
      let made : OptimisesFunction fold across rules conflicts steps old f before after count false =
      all_searched steps count old tidied f before now after false end.0 is_tidied within along end.1 (end.3 (steps - count)) in
      subst (λ (h : Function). OptimisesFunction fold across rules conflicts steps old h before after count false) (sym (same ∙ end.2)) made
