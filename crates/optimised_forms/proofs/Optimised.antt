-- The plain strategy keeps the forms of a printed text.
use Rattle.optimised_forms.proofs.Common.{◌≡◌, ℕ, zero, suc, Bool, List, Some, get_or, slice_get, slice_get-get_or, Function, Entry, Rule, AreReady, Row, CleanedFunctionsHaveForms, FoldedFunctionsHaveForms, FunctionHasForms, EntryHasForms, Pair, AreOptimised, none, kept, function, PartLaws, IsKept, strategy_keeps, OptimisedModulesHaveForms, RewrittenFunctionsHaveForms}
use Rattle.ir_core.specs.declared.module.Entry.TheVariants as entries
use Rattle.optimised_forms.proofs.Numbers.{entry_forms, modules_fit}

module _ (fold across : Bool) (rules : List Rule) (table : List Row) where
  -- a kept line of the new module was in the old one
  kept_back : {steps : ℕ} {old new : List Entry} {counts : List ℕ} {limited : List Bool} {asked : List Pair} → AreOptimised fold across rules table steps old new counts limited asked
      → (k : ℕ) (line : List ℕ) → slice_get new k ≡ Some (entries.Kept line) → slice_get old k ≡ Some (entries.Kept line)
  kept_back none k line at = absurd cc
  kept_back (kept same old new counts limited asked others) zero line at = at
  kept_back (kept same old new counts limited asked others) (suc k) line at = kept_back others k line at
  kept_back (function f last count is_limited asked old new counts limited rest one others) zero line at = absurd cc
  kept_back (function f last count is_limited asked old new counts limited rest one others) (suc k) line at = kept_back others k line at

forms_are_kept : CleanedFunctionsHaveForms → FoldedFunctionsHaveForms → RewrittenFunctionsHaveForms → (across : Bool) (rules : List Rule) → AreReady rules → IsKept across rules FunctionHasForms
forms_are_kept cleaned folded rewritten across rules ready = record {
  cleaned = λ f g meets numbers forms is. cleaned f g forms is;
  folded = λ f g meets numbers forms is. folded f g forms is;
  rewritten = λ f g m is meets numbers forms applied.
      rewritten across f g m.binding.block m.binding.place is.rule m.binding (ready m.rule is.rule is.is_rule).checks meets forms is.matches applied;
}

pub optimised_have_forms : PartLaws → CleanedFunctionsHaveForms → FoldedFunctionsHaveForms → RewrittenFunctionsHaveForms → OptimisedModulesHaveForms
optimised_have_forms laws cleaned folded rewritten fold across rules steps table old new counts limited ready meets forms given k d within =
    by (get_or new.entries k d) (slice_get-get_or new.entries k d within)
  where
    by : (e : Entry) → slice_get new.entries k ≡ Some e → EntryHasForms e
    by (entries.Kept line) at = entry_forms old forms k (entries.Kept line) (kept_back fold across rules table given.entries k line at)
    by (entries.Function g) at =
        strategy_keeps laws fold across rules steps table old new counts limited ready meets (modules_fit old forms) given FunctionHasForms (forms_are_kept cleaned folded rewritten across rules ready)
        (λ j f there. entry_forms old forms j (entries.Function f) there) k g at
