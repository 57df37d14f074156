-- Definitions for the functions between a number and what `load` writes.
use Rattle.std.specs.Prelude.{◌≡◌, ℕ, false, List, ◌++◌, All, codes}
use Rattle.ir_core.specs.declared.module.Module.{Module}
use Rattle.strategy_core.specs.declared.done.Done.{Done}
use Rattle.strategy_core.specs.PlainStrategy.{IsPlainStrategy}
use Rattle.verdict.specs.Rule.{Rule}
use Rattle.verdict.specs.Table.{IsHonestTable}
use Rattle.verdict_core.specs.declared.verdicts.Verdict.TheVariants.{Admitted}
use Rattle.command_line.specs.Limits.{default_conflicts, default_steps}
use Rattle.load_text.specs.Load.{built_in_text, count_line}
use Rattle.load_text.specs.RuleText.{IsRuleText}

-- what the plain strategy gives for a module by the built-in rules, where each verdict is `Admitted`
pub record IsDoneByBuiltIn (m : Module) (done : Done) : Type 0 where
  pub rules : List Rule
  pub built_in : IsRuleText built_in_text rules
  pub strategy : IsPlainStrategy false false rules default_steps done.table m done.module done.counts done.limited
  pub honest : IsHonestTable rules default_conflicts done.table
  pub admitted : All (λ row. row.verdict ≡ Admitted) done.table

-- the lines, from their five numbers
abbrev pub counts_text : ℕ → ℕ → ℕ → ℕ → ℕ → List ℕ
counts_text functions before after rewrites limited =
    count_line (codes "functions ") functions
    ++ count_line (codes "instructions before ") before
    ++ count_line (codes "instructions after ") after
    ++ count_line (codes "rewrites ") rewrites
    ++ count_line (codes "limit ") limited
