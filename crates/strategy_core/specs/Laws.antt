-- Laws of the plain strategy.
use Rattle.std.specs.Prelude.{◌≡◌, ℕ, Bool, List, Some, Contains, slice_get}
use Rattle.ir_core.specs.declared.module.Module.{Module}
use Rattle.ir_core.specs.declared.module.Entry.TheVariants as entries
use Rattle.ir_core.specs.declared.function.Function.{Function}
use Rattle.ir_core.specs.Checks.{MeetsChecks, ModuleMeetsChecks}
use Rattle.ir_core.specs.Refines.{ModuleRefines}
use Rattle.rule_core.specs.declared.rule.Rule.{Rule}
use Rattle.rule_core.specs.Valid.{IsValid}
use Rattle.bindings.specs.Ready.{AreReady}
use Rattle.ir_meaning.specs.HistoryLaws.{NumbersFit}
use Rattle.needed.specs.Cleaned.{IsCleaned}
use Rattle.fold_branch.specs.Folded.{IsFolded}
use Rattle.verdict_core.specs.declared.verdicts.Row.{Row}
use Rattle.verdict_core.specs.declared.verdicts.Verdict.TheVariants.{Admitted}
use Rattle.strategy_core.specs.PlainStrategy.{IsPlainStrategy}
use Rattle.strategy_core.specs.Decided.{MatchesAreDecided}

-- a rule is valid wherever the table admits it
abbrev pub AdmittedAreValid : List Rule → List Row → Type 0
AdmittedAreValid rules table = (row : Row) (rule : Rule) → Contains table row → row.verdict ≡ Admitted → slice_get rules row.rule ≡ Some rule → IsValid rule row.typing

-- the literals of each function are numbers of their widths
abbrev pub ModuleNumbersFit : Module → Type 0
ModuleNumbersFit m = (k : ℕ) (f : Function) → slice_get m.entries k ≡ Some (entries.Function f) → NumbersFit f

-- dead code elimination (`IsCleaned`) leaves literals that are numbers of their widths
abbrev pub CleanedNumbersFit : Type 0
CleanedNumbersFit = (f g : Function) → MeetsChecks f → NumbersFit f → IsCleaned f g → NumbersFit g

-- and so does folding
abbrev pub FoldedNumbersFit : Type 0
FoldedNumbersFit = (f g : Function) → NumbersFit f → IsFolded f g → NumbersFit g

-- what the strategy gives passes the checks of a module, with folding and without
abbrev pub StrategyMeetsChecks : Type 0
StrategyMeetsChecks = (fold across : Bool) (rules : List Rule) (steps : ℕ) (table : List Row) (old new : Module) (counts : List ℕ) (limited : List Bool)
    → AreReady rules → ModuleMeetsChecks old → ModuleNumbersFit old
    → IsPlainStrategy fold across rules steps table old new counts limited → ModuleMeetsChecks new

-- its literals are numbers of their widths
abbrev pub StrategyNumbersFit : Type 0
StrategyNumbersFit = (fold across : Bool) (rules : List Rule) (steps : ℕ) (table : List Row) (old new : Module) (counts : List ℕ) (limited : List Bool)
    → AreReady rules → ModuleMeetsChecks old → ModuleNumbersFit old
    → IsPlainStrategy fold across rules steps table old new counts limited → ModuleNumbersFit new

-- where only valid rules are admitted, what the strategy gives refines the old module, for any number of steps
abbrev pub StrategyRefines : Type 0
StrategyRefines = (fold across : Bool) (rules : List Rule) (steps : ℕ) (table : List Row) (old new : Module) (counts : List ℕ) (limited : List Bool)
    → AreReady rules → AdmittedAreValid rules table → ModuleMeetsChecks old → ModuleNumbersFit old
    → IsPlainStrategy fold across rules steps table old new counts limited → ModuleRefines old new

-- every match that is left has a verdict in the table, and none is admitted, unless its function ran out of steps
abbrev pub StrategyDecides : Type 0
StrategyDecides = (fold across : Bool) (rules : List Rule) (steps : ℕ) (table : List Row) (old new : Module) (counts : List ℕ) (limited : List Bool)
    → IsPlainStrategy fold across rules steps table old new counts limited → MatchesAreDecided across rules table new limited
