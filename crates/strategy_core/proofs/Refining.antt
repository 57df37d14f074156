-- What the strategy gives passes the checks, has literals of their widths, and refines the old module.
use Rattle.strategy_core.proofs.Common.{◌≡◌, ℕ, zero, suc, Bool, true, false, List, ◌∷◌, Some, refl, sym, ap, subst, ◌∙◌, slice_get, Module, Entry, Function, MeetsChecks, ModuleMeetsChecks, Refines, EntriesRefine, Rule, IsValid, NumbersFit, RefinementIsTransitive, RefinementIsReflexive, IsCleaned, CleanedFunctionsRefine, CleanedFunctionsMeetChecks, CleanedNumbersWereThere, IsFolded, FoldedFunctionsRefine, FoldedFunctionsMeetChecks, FoldedNumbersWereThere, Row, IsRewritten, RewrittenFunctionsRefine, RewrittenFunctionsMeetChecks, RewrittenNumbersFit, Match, Pair, pair_of, pair_in, IsAdmitted, IsMatchAmong, IsTidied, IsStep, ComesOf, itself, by_step, IsOptimised, AreOptimised, none, kept, function, IsPlainStrategy, AdmittedAreValid, ModuleNumbersFit, CleanedNumbersFit, FoldedNumbersFit, StrategyMeetsChecks, StrategyNumbersFit, StrategyRefines, AreReady}
use Rattle.ir_core.specs.declared.module.Entry.TheVariants as entries
use Rattle.strategy_core.proofs.Numbers.{cleaned_numbers_fit, folded_numbers_fit}

-- the laws of cleaning, of folding and of rewriting, each by itself
pub record PartLaws : Type 0 where
  pub cleaned_refine : CleanedFunctionsRefine
  pub cleaned_meet : CleanedFunctionsMeetChecks
  pub cleaned_fit : CleanedNumbersFit
  pub folded_refine : FoldedFunctionsRefine
  pub folded_meet : FoldedFunctionsMeetChecks
  pub folded_fit : FoldedNumbersFit
  pub rewritten_refine : RewrittenFunctionsRefine
  pub rewritten_meet : RewrittenFunctionsMeetChecks
  pub rewritten_fit : RewrittenNumbersFit
  pub reflexive : RefinementIsReflexive
  pub transitive : RefinementIsTransitive

pub parts : CleanedFunctionsRefine → CleanedFunctionsMeetChecks → CleanedNumbersWereThere
    → FoldedFunctionsRefine → FoldedFunctionsMeetChecks → FoldedNumbersWereThere
    → RewrittenFunctionsRefine → RewrittenFunctionsMeetChecks → RewrittenNumbersFit
    → RefinementIsReflexive → RefinementIsTransitive → PartLaws
parts cleaned_refine cleaned_meet cleaned_numbers folded_refine folded_meet folded_numbers rewritten_refine rewritten_meet rewritten_fit reflexive transitive = record {
  cleaned_refine = cleaned_refine;
  cleaned_meet = cleaned_meet;
  cleaned_fit = cleaned_numbers_fit cleaned_numbers;
  folded_refine = folded_refine;
  folded_meet = folded_meet;
  folded_fit = folded_numbers_fit folded_numbers;
  rewritten_refine = rewritten_refine;
  rewritten_meet = rewritten_meet;
  rewritten_fit = rewritten_fit;
  reflexive = reflexive;
  transitive = transitive;
}

-- cleaning, folding, and rewriting by these rules, keep P
pub record IsKept (across : Bool) (rules : List Rule) (P : Function → Type 0) : Type 0 where
  pub cleaned : (f g : Function) → MeetsChecks f → NumbersFit f → P f → IsCleaned f g → P g
  pub folded : (f g : Function) → MeetsChecks f → NumbersFit f → P f → IsFolded f g → P g
  pub rewritten : (f g : Function) (m : Match) (is : IsMatchAmong across rules f m) → MeetsChecks f → NumbersFit f → P f → IsRewritten f m.binding is.rule g → P g

module _ (laws : PartLaws) (fold across : Bool) (rules : List Rule) (table : List Row) (ready : AreReady rules) (P : Function → Type 0) where
  -- The new function passes the checks, and refines the old one if only valid rules are admitted. What cleaning,
  -- folding and rewriting keep holds of it.
  record Follows (old new : Function) : Type 0 where
    pub checks : MeetsChecks new
    pub numbers : NumbersFit new
    pub name : new.name ≡ old.name
    pub refines : AdmittedAreValid rules table → Refines old new
    pub keeps : IsKept across rules P → P old → P new

  cleaned_follows : (f g : Function) → MeetsChecks f → NumbersFit f → IsCleaned f g → Follows f g
  cleaned_follows f g checks numbers cleaned = record {
    checks = laws.cleaned_meet f g checks cleaned;
    numbers = laws.cleaned_fit f g checks numbers cleaned;
    name = ap (λ (x : Function). x.name) cleaned.2;
    refines = λ valid. laws.cleaned_refine f g checks cleaned;
    keeps = λ both p. both.cleaned f g checks numbers p cleaned;
  }

  folded_follows : (f g : Function) → MeetsChecks f → NumbersFit f → IsFolded f g → Follows f g
  folded_follows f g checks numbers folded = record {
    checks = laws.folded_meet f g checks folded;
    numbers = laws.folded_fit f g numbers folded;
    name = ap (λ (x : Function). x.name) folded.2;
    refines = λ valid. laws.folded_refine f g folded;
    keeps = λ both p. both.folded f g checks numbers p folded;
  }

  -- what comes of a function that comes of another
  one_by_one : (f g h : Function) → Follows f g → Follows g h → Follows f h
  one_by_one f g h first then = record {
    checks = then.checks;
    numbers = then.numbers;
    name = then.name ∙ first.name;
    refines = λ valid. laws.transitive f g h (first.refines valid) (then.refines valid);
    keeps = λ both p. then.keeps both (first.keeps both p);
  }

  tidied_follows : (f g : Function) → MeetsChecks f → NumbersFit f → IsTidied fold f g → Follows f g
  tidied_follows f g checks numbers tidied = by fold tidied
    where
      by : (fold : Bool) → IsTidied fold f g → Follows f g
      by true is =
          let first : Follows f is.0 = folded_follows f is.0 checks numbers is.1 in
          one_by_one f is.0 g first (cleaned_follows is.0 g first.checks first.numbers is.2)
      by false is = cleaned_follows f g checks numbers is

  valid_there : (m : Match) (rule : Rule) → AdmittedAreValid rules table → slice_get rules m.rule ≡ Some rule → IsAdmitted table m → IsValid rule m.binding.typing
  valid_there m rule valid is admitted =
      let row : Row = admitted.0 in
      let same : pair_in row ≡ pair_of m = admitted.2 in
      let same_rule : row.rule ≡ m.rule = ap (λ (p : Pair). p.0) same in
      let same_typing : row.typing ≡ m.binding.typing = ap (λ (p : Pair). p.1) same in
      subst (IsValid rule) same_typing (valid row rule admitted.1 admitted.3 (ap (slice_get rules) same_rule ∙ is))

  step_follows : (f new : Function) (asked : List Pair) → MeetsChecks f → NumbersFit f → IsStep fold across rules table f new asked → Follows f new
  step_follows f new asked checks numbers s =
      let m = s.chosen in
      let rule = s.is_match.rule in
      let good = ready m.rule rule s.is_match.is_rule in
      let at = m.binding in
      let put_checks : MeetsChecks s.rewritten = laws.rewritten_meet across f s.rewritten at.block at.place rule at good.checks good.typed checks numbers s.is_match.matches s.is_rewritten in
      let put_numbers : NumbersFit s.rewritten = laws.rewritten_fit across f s.rewritten at.block at.place rule at good.checks good.typed checks numbers s.is_match.matches s.is_rewritten in
      let put : Follows f s.rewritten = record {
        checks = put_checks;
        numbers = put_numbers;
        name = ap (λ (x : Function). x.name) s.is_rewritten.is;
        refines = λ valid. laws.rewritten_refine across f s.rewritten at.block at.place rule at good.checks good.typed checks numbers s.is_match.matches (valid_there m rule valid s.is_match.is_rule s.admitted) s.is_rewritten;
        keeps = λ both p. both.rewritten f s.rewritten m s.is_match checks numbers p s.is_rewritten;
      } in
      one_by_one f s.rewritten new put (tidied_follows s.rewritten new put_checks put_numbers s.is_tidied)

  steps_follow : {count : ℕ} {f g : Function} {asked : List Pair} → ComesOf fold across rules table count f g asked → MeetsChecks f → NumbersFit f → Follows f g
  steps_follow (itself f) checks numbers = record { checks = checks; numbers = numbers; name = refl; refines = λ valid. laws.reflexive f; keeps = λ both p. p }
  steps_follow (by_step count f g h asked more comes step) checks numbers =
      let before : Follows f g = steps_follow comes checks numbers in
      one_by_one f g h before (step_follows g h more before.checks before.numbers step)

  function_follows : (steps : ℕ) (old new : Function) (count : ℕ) (limited : Bool) (asked : List Pair) → MeetsChecks old → NumbersFit old → IsOptimised fold across rules table steps old new count limited asked → Follows old new
  function_follows steps old new count limited asked checks numbers o =
      let first : Follows old o.tidied = tidied_follows old o.tidied checks numbers o.is_tidied in
      one_by_one old o.tidied new first (steps_follow o.comes first.checks first.numbers)

  -- ---- entries

  abbrev AllGood : List Entry → Type 0
  AllGood es = (k : ℕ) (f : Function) → slice_get es k ≡ Some (entries.Function f) → MeetsChecks f × NumbersFit f

  -- the new function comes (`Follows`) of the one in an old entry
  record IsOfOld (old : List Entry) (k : ℕ) (new : Function) : Type 0 where
    pub was : Function
    pub at : slice_get old k ≡ Some (entries.Function was)
    pub follows : Follows was new

  one_of_old : (old : List Entry) (first : Entry) (k : ℕ) (new : Function) → IsOfOld old k new → IsOfOld (first ∷ old) (suc k) new
  one_of_old old first k new is = record { was = is.was; at = is.at; follows = is.follows }

  back : {steps : ℕ} {old new : List Entry} {counts : List ℕ} {limited : List Bool} {asked : List Pair} → AreOptimised fold across rules table steps old new counts limited asked
      → AllGood old → (k : ℕ) (g : Function) → slice_get new k ≡ Some (entries.Function g) → IsOfOld old k g
  back none good k g h = absurd cc
  back (kept line old new counts limited asked others) good zero g h = absurd cc
  back (kept line old new counts limited asked others) good (suc k) g h = one_of_old old (entries.Kept line) k g (back others (λ j. good (suc j)) k g h)
  back {steps} (function f last count is_limited asked old new counts limited rest one others) good zero g h =
      let here = good 0 f refl in
      let same : last ≡ g = cc in
      record { was = f; at = refl; follows = subst (Follows f) same (function_follows steps f last count is_limited asked here.0 here.1 one) }
  back (function f last count is_limited asked old new counts limited rest one others) good (suc k) g h = one_of_old old (entries.Function f) k g (back others (λ j. good (suc j)) k g h)

  refined : {steps : ℕ} {old new : List Entry} {counts : List ℕ} {limited : List Bool} {asked : List Pair} → AreOptimised fold across rules table steps old new counts limited asked
      → AllGood old → AdmittedAreValid rules table → EntriesRefine old new
  refined none good valid = tt
  refined (kept line old new counts limited asked others) good valid = (refl, refined others (λ j. good (suc j)) valid)
  refined {steps} (function f last count is_limited asked old new counts limited rest one others) good valid =
      let here = good 0 f refl in
      let follows : Follows f last = function_follows steps f last count is_limited asked here.0 here.1 one in
      (follows.refines valid, refined others (λ j. good (suc j)) valid)

good_in : (m : Module) → ModuleMeetsChecks m → ModuleNumbersFit m → (k : ℕ) (f : Function) → slice_get m.entries k ≡ Some (entries.Function f) → MeetsChecks f × NumbersFit f
good_in m meets fit k f at = (meets.functions k f at, fit k f at)

-- nothing more is to be kept
abbrev Nothing : Function → Type 0
Nothing f = Unit {0}

pub strategy_meets : PartLaws → StrategyMeetsChecks
strategy_meets laws fold across rules steps table old new counts limited ready meets fit given =
    let of_old = back laws fold across rules table ready Nothing given.entries (good_in old meets fit) in
    record {
      functions = λ k g h. (of_old k g h).follows.checks;
      names = λ j k f g at_j at_k same.
          let p = of_old j f at_j in
          let q = of_old k g at_k in
          meets.names j k p.was q.was p.at q.at (sym p.follows.name ∙ same ∙ q.follows.name);
    }

pub strategy_fits : PartLaws → StrategyNumbersFit
strategy_fits laws fold across rules steps table old new counts limited ready meets fit given k g h =
    (back laws fold across rules table ready Nothing given.entries (good_in old meets fit) k g h).follows.numbers

pub strategy_refines : PartLaws → StrategyRefines
strategy_refines laws fold across rules steps table old new counts limited ready valid meets fit given =
    refined laws fold across rules table ready Nothing given.entries (good_in old meets fit) valid

-- What cleaning, folding and rewriting keep, the strategy keeps: so it is with the forms that a printed text needs.
pub strategy_keeps : PartLaws → (fold across : Bool) (rules : List Rule) (steps : ℕ) (table : List Row) (old new : Module) (counts : List ℕ) (limited : List Bool)
    → AreReady rules → ModuleMeetsChecks old → ModuleNumbersFit old → IsPlainStrategy fold across rules steps table old new counts limited
    → (P : Function → Type 0) → IsKept across rules P
    → ((k : ℕ) (f : Function) → slice_get old.entries k ≡ Some (entries.Function f) → P f)
    → (k : ℕ) (g : Function) → slice_get new.entries k ≡ Some (entries.Function g) → P g
strategy_keeps laws fold across rules steps table old new counts limited ready meets fit given P both all k g h =
    let was = back laws fold across rules table ready P given.entries (good_in old meets fit) k g h in
    was.follows.keeps both (all k was.was was.at)
