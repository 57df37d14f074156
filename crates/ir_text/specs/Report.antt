-- The report on the rewriting of a module.
use Rattle.std.specs.Prelude.{ℕ, Bool, if◌then◌else◌, List, [], ◌∷◌, ◌++◌, codes, decimal}
use Rattle.ir_core.specs.declared.module.Module.{Module}
use Rattle.ir_core.specs.declared.module.Entry.{Entry}
use Rattle.ir_core.specs.declared.module.Entry.TheVariants as entries
use Rattle.ir_core.specs.declared.function.Function.{Function}
use Rattle.ir_text.specs.PrintedText.{function_name_text}

-- the line of a function: how often it was rewritten, and whether the limit of steps was reached while a match was left
unfoldable pub function_report : Function → ℕ → Bool → List ℕ
function_report f rewrites is_limited =
    function_name_text f.name ++ codes ": " ++ decimal rewrites ++ codes " rewrites"
    ++ (if is_limited then codes ", limit" else []) ++ codes "\n"

-- the lines of the functions in order, each with its count and whether it is limited; kept lines have no line there
abbrev pub entries_report : List Entry → List ℕ → List Bool → List ℕ
entries_report (entries.Kept line ∷ es) counts limited = entries_report es counts limited
entries_report (entries.Function f ∷ es) (count ∷ counts) (is_limited ∷ limited) = function_report f count is_limited ++ entries_report es counts limited
entries_report es counts limited = []

-- the report on a module: a line for each function
abbrev pub report_of : Module → List ℕ → List Bool → List ℕ
report_of m counts limited = entries_report m.entries counts limited
