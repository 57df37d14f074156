-- One entry after the other, up to what the strategy gives for a module.
use Rattle.strategy.proofs.Common.{◌≡◌, ℕ, ◌+◌, ◌<◌, Bool, List, [], ◌∷◌, ◌++◌, length, take, get_or, refl, sym, ap, subst, ◌∙◌, append_assoc, append-nil, arith, map, All, Contains, take_more, same_Some, All-contains, ModuleMeetsChecks, Module, Entry, Function, contains_at, IsRule, IsValid, Rule, AreReady, IsClassified, HasNoFault, IsHonest, IsUnrefutedIn, IsHonestRow, IsHonestTable, Row, Verdict, Counts, Verdicts, Pair, pair_in, AreFirstAsked, ModuleIsCountable, EntriesAreReady, OptimisesEntries, OptimisesEntry, AdmittedAreValid, ModuleNumbersFit, AreOptimised, kept, function, IsPlainStrategy, AreVerdictsOn, Asks, OptimisesFunction, asks_nothing, asks_both, row_stays}
use Rattle.ir_core.specs.declared.module.Entry.TheVariants as entries
use Rattle.strategy_core.specs.PlainStrategy.{none}
use Rattle.strategy.proofs.Growing.{entries_stay}

-- before the first verdict is asked for
pub nothing_asked : AreFirstAsked [] []
nothing_asked = record {
  same = λ p. (λ h. h, λ h. h);
  once = λ i j p at_i at_j. absurd cc;
  in_order = λ i j d less within. absurd (omega arith);
}

-- each entry of a module that the strategy takes is ready
pub each_ready : (steps : ℕ) (m : Module) → ModuleMeetsChecks m → ModuleNumbersFit m → ModuleIsCountable steps m
    → EntriesAreReady steps m.entries
each_ready steps m meets fit countable place (entries.Kept line) at = tt
each_ready steps m meets fit countable place (entries.Function f) at = (meets.functions place f at, fit place f at, countable place f at)

-- each of the rules is ready
pub all_ready : (rules : List Rule) → All IsRule rules → All IsClassified rules → All HasNoFault rules → AreReady rules
all_ready rules checks classes typed r rule at =
    let among : Contains rules rule = contains_at rules r rule at in
    record { checks = All-contains IsRule rules rule checks among; classes = All-contains IsClassified rules rule classes among; typed = All-contains HasNoFault rules rule typed among }

-- an honest table admits valid rules only
pub admitted_are_valid : (rules : List Rule) (conflicts : ℕ) (table : List Row) → IsHonestTable rules conflicts table → AdmittedAreValid rules table
admitted_are_valid rules conflicts table honest row rule has admitted is =
    let h : IsHonestRow rules conflicts row = All-contains (IsHonestRow rules conflicts) table row honest has in
    let valid : IsValid h.rule row.typing = subst (λ (v : Verdict). IsHonest h.rule row.typing conflicts v) admitted h.honest in
    subst (λ (r : Rule). IsValid r row.typing) (same_Some h.rule rule (sym h.is ∙ is)) valid

module _ (fold across : Bool) (rules : List Rule) where
  optimised_append : {table : List Row} {steps : ℕ} {old new old' new' : List Entry} {counts counts' : List ℕ} {limited limited' : List Bool} {asked asked' : List Pair}
      → AreOptimised fold across rules table steps old new counts limited asked → AreOptimised fold across rules table steps old' new' counts' limited' asked'
      → AreOptimised fold across rules table steps (old ++ old') (new ++ new') (counts ++ counts') (limited ++ limited') (asked ++ asked')
  optimised_append none later = later
  optimised_append {old' = old'} {new' = new'} {counts' = counts'} {limited' = limited'} {asked' = asked'} (kept line old new counts limited asked others) later =
      kept line (old ++ old') (new ++ new') (counts ++ counts') (limited ++ limited') (asked ++ asked') (optimised_append others later)
  optimised_append {table} {steps} {old' = old'} {new' = new'} {counts' = counts'} {limited' = limited'} {asked' = asked'} (function f last count is_limited asked old new counts limited rest one others) later =
      subst (λ (l : List Pair). AreOptimised fold across rules table steps (entries.Function f ∷ (old ++ old')) (entries.Function last ∷ (new ++ new')) (count ∷ (counts ++ counts')) (is_limited ∷ (limited ++ limited')) l)
      (sym (append_assoc asked rest asked'))
      (function f last count is_limited asked (old ++ old') (new ++ new') (counts ++ counts') (limited ++ limited') (rest ++ asked') one (optimised_append others later))

  -- a kept line is copied
  pub entry_kept : (conflicts steps : ℕ) (line : List ℕ) (now : Verdicts) (all : Counts) → OptimisesEntry fold across rules conflicts steps (entries.Kept line) (entries.Kept line) now now all all
  entry_kept conflicts steps line now all = record {
    pairs = [];
    counts = [];
    limited = [];
    asks = asks_nothing rules conflicts now;
    optimised = kept line [] [] [] [] [] none;
    counts_added = sym (append-nil all.counts);
    limited_added = sym (append-nil all.limited);
  }

  -- a function is replaced by what the strategy gives for it
  pub entry_optimised : (conflicts steps : ℕ) (f new : Function) (before after : Verdicts) (all all' : Counts) (count : ℕ) (is_limited : Bool)
      → OptimisesFunction fold across rules conflicts steps f new before after count is_limited
      → all'.counts ≡ all.counts ++ count ∷ [] → all'.limited ≡ all.limited ++ is_limited ∷ []
      → OptimisesEntry fold across rules conflicts steps (entries.Function f) (entries.Function new) before after all all'
  entry_optimised conflicts steps f new before after all all' count is_limited optimised counts_are limited_are = record {
    pairs = optimised.0 ++ [];
    counts = count ∷ [];
    limited = is_limited ∷ [];
    asks = subst (λ (l : List Pair). Asks rules conflicts l before after) (sym (append-nil optimised.0)) optimised.1;
    optimised = function f new count is_limited optimised.0 [] [] [] [] [] optimised.2 none;
    counts_added = counts_are;
    limited_added = limited_are;
  }

  -- no verdicts are kept yet
  pub no_verdicts : (conflicts : ℕ) (v : Verdicts) → v.table ≡ [] → v.pairs.keys ≡ [] → AreVerdictsOn rules conflicts [] v
  no_verdicts conflicts v table pairs = record {
    rows = subst (λ (l : List Row). AreFirstAsked [] (map pair_in l)) (sym table) nothing_asked;
    honest = subst (IsHonestTable rules conflicts) (sym table) (λ k d lt. absurd (omega arith));
    unrefuted = subst (All (IsUnrefutedIn v.logs)) (sym table) (λ k d lt. absurd (omega arith));
    pairs = rw (pairs, table) refl;
  }

  -- the loop: the strategy's results for the first entries
  pub none_entered : (conflicts steps : ℕ) (before : Verdicts) (all : Counts) → OptimisesEntries fold across rules conflicts steps [] [] before before all all
  none_entered conflicts steps before all = record {
    pairs = [];
    counts = [];
    limited = [];
    asks = asks_nothing rules conflicts before;
    optimised = none;
    counts_added = sym (append-nil all.counts);
    limited_added = sym (append-nil all.limited);
  }

  pub one_entered : (conflicts steps place : ℕ) (old made : List Entry) (d e : Entry) (before now after : Verdicts) (first all all' : Counts)
      → place < length old → OptimisesEntries fold across rules conflicts steps (take place old) made before now first all
      → OptimisesEntry fold across rules conflicts steps (get_or old place d) e now after all all'
      → OptimisesEntries fold across rules conflicts steps (take (place + 1) old) (made ++ e ∷ []) before after first all'
  one_entered conflicts steps place old made d e before now after first all all' within so_far one =
      let stays = entries_stay fold across rules now.table after.table (row_stays rules conflicts one.pairs now after one.asks) so_far.optimised in
      record {
        pairs = so_far.pairs ++ one.pairs;
        counts = so_far.counts ++ one.counts;
        limited = so_far.limited ++ one.limited;
        asks = asks_both rules conflicts so_far.pairs one.pairs before now after so_far.asks one.asks;
        optimised =
            subst (λ (l : List Entry). AreOptimised fold across rules after.table steps l (made ++ e ∷ []) (so_far.counts ++ one.counts) (so_far.limited ++ one.limited) (so_far.pairs ++ one.pairs))
            (sym (take_more old place d within)) (optimised_append stays one.optimised);
        counts_added = one.counts_added ∙ (ap (λ (l : List ℕ). l ++ one.counts) so_far.counts_added ∙ append_assoc first.counts so_far.counts one.counts);
        limited_added = one.limited_added ∙ (ap (λ (l : List Bool). l ++ one.limited) so_far.limited_added ∙ append_assoc first.limited so_far.limited one.limited);
      }

  -- all entries are done: this is what the strategy gives, and the table is its own
  pub given : (conflicts steps : ℕ) (old new : Module) (before now : Verdicts) (first all : Counts) → first.counts ≡ [] → first.limited ≡ []
      → AreVerdictsOn rules conflicts [] before → OptimisesEntries fold across rules conflicts steps old.entries new.entries before now first all
      → IsPlainStrategy fold across rules steps now.table old new all.counts all.limited
  given conflicts steps old new before now first all no_counts none_limited nothing made =
      let counts : all.counts ≡ made.counts = made.counts_added ∙ ap (λ (l : List ℕ). l ++ made.counts) no_counts in
      let limited : all.limited ≡ made.limited = made.limited_added ∙ ap (λ (l : List Bool). l ++ made.limited) none_limited in
      record {
        asked = made.pairs;
        entries =
            subst (λ (l : List ℕ). AreOptimised fold across rules now.table steps old.entries new.entries l all.limited made.pairs) (sym counts)
            (subst (λ (l : List Bool). AreOptimised fold across rules now.table steps old.entries new.entries made.counts l made.pairs) (sym limited) made.optimised);
        rows = (made.asks.asked [] nothing).rows;
      }
