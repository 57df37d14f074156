-- What `load` writes of a number: how large the generated module is, and what the plain strategy makes of it by the
-- built-in rules.
use Rattle.std.specs.Prelude.{◌≡◌, ℕ, Bool, false, List, length, ◌++◌, All, sum, sum_by, count_by, codes, decimal}
use Rattle.ir_core.specs.declared.module.Module.{Module}
use Rattle.ir_core.specs.declared.module.Entry.{Entry}
use Rattle.ir_core.specs.declared.module.Entry.TheVariants as entries
use Rattle.ir_core.specs.declared.function.Function.{Function}
use Rattle.load_gen.specs.Generated.{generated}
use Rattle.strategy_core.specs.PlainStrategy.{IsPlainStrategy}
use Rattle.verdict.specs.Rule.{Rule}
use Rattle.verdict.specs.Table.{IsHonestTable}
use Rattle.verdict_core.specs.declared.verdicts.Row.{Row}
use Rattle.verdict_core.specs.declared.verdicts.Verdict.TheVariants.{Admitted}
use Rattle.command_line.specs.Limits.{default_conflicts, default_steps}
use Rattle.load_text.specs.RuleText.{IsRuleText}

-- the built-in rules, as a rule file
abbrev pub built_in_text : List ℕ
built_in_text =
    codes "Name: add-zero\n%r = add %x, 0\n=>\n%r = %x\n"
    ++ codes "\nName: and-same\n%r = and %x, %x\n=>\n%r = %x\n"
    ++ codes "\nName: udiv-one\n%r = udiv %x, 1\n=>\n%r = %x\n"
    ++ codes "\nName: not-not\n%1 = xor %x, -1\n%r = xor %1, -1\n=>\n%r = %x\n"
    ++ codes "\nName: sub-add\n%1 = sub %x, %y\n%r = add %1, %y\n=>\n%r = %x\n"
    ++ codes "\nName: not-add\n%1 = xor %x, -1\n%2 = add %1, C\n=>\n%2 = sub C-1, %x\n"
    ++ codes "\nName: mul-two\n%r = mul %x, 2\n=>\n%r = shl %x, 1\n"

-- how many instructions a function has, and below a module, terminators not counted
abbrev pub instructions_of : Function → ℕ
instructions_of f = sum_by (λ block. length block.insts) f.blocks

abbrev pub instructions_of_entry : Entry → ℕ
instructions_of_entry (entries.Kept line) = 0
instructions_of_entry (entries.Function f) = instructions_of f

abbrev pub instructions_in : Module → ℕ
instructions_in m = sum_by instructions_of_entry m.entries

-- a line with a text and a number
abbrev pub count_line : List ℕ → ℕ → List ℕ
count_line text n = text ++ decimal n ++ codes "\n"

-- The lines: how many functions and instructions the module has, how many instructions the strategy leaves, how often
-- its functions were rewritten, and how many of them ran out of steps.
abbrev pub load_text : ℕ → ℕ → Module → List ℕ → List Bool → List ℕ
load_text functions before new counts limited =
    count_line (codes "functions ") functions
    ++ count_line (codes "instructions before ") before
    ++ count_line (codes "instructions after ") (instructions_in new)
    ++ count_line (codes "rewrites ") (sum counts)
    ++ count_line (codes "limit ") (count_by (λ limited. limited) limited)

-- what is written for a number, and the table of verdicts behind it
pub record IsLoaded (number : ℕ) (text : List ℕ) (table : List Row) : Type 0 where
  pub rules : List Rule
  pub built_in : IsRuleText built_in_text rules
  pub new : Module
  pub counts : List ℕ
  pub limited : List Bool
  -- this module is what the plain strategy gives for the generated one, by this table
  pub strategy : IsPlainStrategy false false rules default_steps table (generated number 200) new counts limited
  pub honest : IsHonestTable rules default_conflicts table
  -- each verdict of the table is `Admitted`
  pub admitted : All (λ row. row.verdict ≡ Admitted) table
  -- the generated module always has 200 functions and 4000 instructions
  pub text_is : text ≡ load_text 200 4000 new counts limited
