-- What the plain strategy gives can be printed and read back (it has the forms of a printed text), and the strategy
-- takes each module that is read.
use Rattle.std.specs.Prelude.{ℕ, ◌≤◌, Bool, List, length}
use Rattle.ir_core.specs.Checks.{MeetsChecks, ModuleMeetsChecks}
use Rattle.ir_core.specs.declared.function.Function.{Function}
use Rattle.ir_core.specs.declared.module.Module.{Module}
use Rattle.rule_core.specs.Checks.{IsRule}
use Rattle.rule_core.specs.declared.rule.Rule.{Rule}
use Rattle.verdict_core.specs.declared.verdicts.Row.{Row}
use Rattle.bindings.specs.Match.{IsMatch}
use Rattle.bindings.specs.declared.binding.Binding.{Binding}
use Rattle.fold_branch.specs.Folded.{IsFolded}
use Rattle.rewriter.specs.Applied.{IsRewritten}
use Rattle.bindings.specs.Ready.{AreReady}
use Rattle.strategy_core.specs.Countable.{ModuleIsCountable}
use Rattle.strategy_core.specs.Laws.{ModuleNumbersFit}
use Rattle.strategy_core.specs.PlainStrategy.{IsPlainStrategy}
use Rattle.ir_parse.specs.Text.{most_bytes}
use Rattle.ir_reader.specs.Faults.{IsModuleText}
use Rattle.ir_text.specs.Forms.{FunctionHasForms, ModuleHasForms}

-- Rewriting by a rule at a match keeps these forms.
abbrev pub RewrittenFunctionsHaveForms : Type 0
RewrittenFunctionsHaveForms = (across : Bool) (f new : Function) (b k : ℕ) (rule : Rule) (binding : Binding)
    → IsRule rule → MeetsChecks f → FunctionHasForms f
    → IsMatch across f b k rule binding → IsRewritten f binding rule new → FunctionHasForms new

-- Folding keeps these forms.
abbrev pub FoldedFunctionsHaveForms : Type 0
FoldedFunctionsHaveForms = (f new : Function) → FunctionHasForms f → IsFolded f new → FunctionHasForms new

-- The strategy keeps these forms.
abbrev pub OptimisedModulesHaveForms : Type 0
OptimisedModulesHaveForms = (fold across : Bool) (rules : List Rule) (steps : ℕ) (table : List Row) (old new : Module) (counts : List ℕ) (limited : List Bool)
    → AreReady rules → ModuleMeetsChecks old → ModuleHasForms old
    → IsPlainStrategy fold across rules steps table old new counts limited → ModuleHasForms new

-- In a module with these forms literals are numbers of their widths.
abbrev pub FormedModulesNumbersFit : Type 0
FormedModulesNumbersFit = (m : Module) → ModuleHasForms m → ModuleNumbersFit m

-- The sizes of a module that is read fit 32 bits, even after 100,000 steps.
abbrev pub ModuleTextsAreCountable : Type 0
ModuleTextsAreCountable = (text : List ℕ) (m : Module) (steps : ℕ)
    → length text ≤ most_bytes → steps ≤ 100000 → IsModuleText text m → ModuleIsCountable steps m
