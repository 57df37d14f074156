-- The work of each task: what is written, the verdicts that the call gives, and the status.
use Rattle.std.specs.Prelude.{◌≡◌, ℕ, ◌≤◌, List, [], ◌∷◌, Option, None, Some, length, if◌then◌else◌, MatchBool}
use Rattle.command_line.specs.declared.command.OptimiseOptions.{OptimiseOptions}
use Rattle.command_line.specs.declared.command.RecheckOptions.{RecheckOptions}
use Rattle.command_line.specs.declared.command.RunOptions.{RunOptions}
use Rattle.command_line.specs.declared.command.VerifyOptions.{VerifyOptions}
use Rattle.verdict.specs.Rule.{Rule}
use Rattle.load_text.specs.Load.{IsLoaded}
use Rattle.alive_top.specs.Optimised.{Prints}
use Rattle.run_text.specs.Runs.{IsRun}
use Rattle.ir_reader.specs.Text.{most_bytes}
use Rattle.verdict_core.specs.declared.verdicts.Row.{Row}
use Rattle.verdict.specs.declared.verification.Verified.{Verified}
use Rattle.verdict.specs.Verified.{IsVerified}
use Rattle.stored_logs.specs.declared.proved.Proved.{Proved}
use Rattle.stored_logs.specs.declared.rechecked.Rechecked.{Rechecked}
use Rattle.stored_logs.specs.declared.refutation.Refutation.{Refutation}
use Rattle.stored_logs.specs.Proved.{IsProved}
use Rattle.stored_logs.specs.Rechecked.{IsRechecked}
use Rattle.stored_logs.specs.Stored.{AreKeptTo}
use Rattle.alive_top.specs.declared.status.Status.{Status}
use Rattle.alive_top.specs.declared.status.Status.TheVariants.{Done, NotAll}
use Rattle.load_text.specs.RuleText.{IsRuleText}
use Rattle.alive_top.specs.Task.{Task, Verify, Optimise, Run, Load, Recheck}

-- a text for the output, a report for the error stream, if the task has one, a table of verdicts, the proofs that come
-- with it, and the status once both are written
pub record Work : Type 0 where
  pub text : List ℕ
  pub report : Option (List ℕ)
  pub table : List Row
  pub proofs : List Refutation
  pub status : Status

-- `verify` decides the rules of its file; their verdicts are the table, and the texts of these the output.
pub record IsVerdictWork (rules : List Rule) (options : VerifyOptions) (work : Work) : Type 0 where
  pub verified : Verified
  pub right : IsVerified rules options.widths options.conflicts verified
  pub text : work.text ≡ verified.text.items
  pub report : work.report ≡ None
  pub table : work.table ≡ verified.table
  pub no_proofs : work.proofs ≡ []
  pub status : work.status ≡ (if verified.all_admitted then Done else NotAll)

-- With `--logs` the output is the text of the proofs of those that are admitted, and the work has these, with the
-- clauses that they refute.
pub record IsProofWork (rules : List Rule) (options : VerifyOptions) (work : Work) : Type 0 where
  pub proved : Proved
  pub right : IsProved rules options.widths options.conflicts proved
  pub text : work.text ≡ proved.text.items
  pub report : work.report ≡ None
  pub table : work.table ≡ proved.table
  pub proofs : work.proofs ≡ proved.refutations
  pub status : work.status ≡ (if proved.all_admitted then Done else NotAll)

abbrev pub IsVerifyWork : List Rule → VerifyOptions → Work → Type 0
IsVerifyWork rules options work = MatchBool options.logs (IsProofWork rules options work) (IsVerdictWork rules options work)

-- `recheck` decides the pairs of the proofs of a text; their verdicts are the table, and the texts of these the output.
pub record IsRecheckWork (rules : List Rule) (proofs : List ℕ) (options : RecheckOptions) (work : Work) : Type 0 where
  pub rechecked : Rechecked
  pub right : IsRechecked rules proofs options.conflicts rechecked
  pub text : work.text ≡ rechecked.text.items
  pub report : work.report ≡ None
  pub table : work.table ≡ rechecked.table
  pub no_proofs : work.proofs ≡ []
  pub status : work.status ≡ (if rechecked.all_admitted then Done else NotAll)

-- what is printed for the text of a module within the limit, the report on it, and its table of verdicts
abbrev pub IsPrinted : List Rule → OptimiseOptions → List ℕ → List ℕ → List ℕ → List Row → Type 0
IsPrinted rules options source out report table = (length source ≤ most_bytes) × Prints rules options source out report table

-- `optimise` writes a module that refines the one read, and a report. The verdicts that it asked for are the table.
pub record IsOptimiseWork (rules : List Rule) (options : OptimiseOptions) (source : List ℕ) (work : Work) : Type 0 where
  pub report : List ℕ
  pub has_report : work.report ≡ Some report
  pub prints : IsPrinted rules options source work.text report work.table
  pub no_proofs : work.proofs ≡ []
  pub status : work.status ≡ Done

-- `run` writes how far the run of the named function came, or what it returned.
pub record IsRunWork (source name : List ℕ) (arguments : List (List ℕ)) (options : RunOptions) (work : Work) : Type 0 where
  pub runs : IsRun source name arguments options.blocks work.text
  pub report : work.report ≡ None
  pub table : work.table ≡ []
  pub no_proofs : work.proofs ≡ []
  pub status : work.status ≡ Done

-- `load` writes what comes of the module that is generated from the number, by the built-in rules. The verdicts that it
-- asked for are the table.
pub record IsLoadWork (number : ℕ) (work : Work) : Type 0 where
  pub loaded : IsLoaded number work.text work.table
  pub report : work.report ≡ None
  pub no_proofs : work.proofs ≡ []
  pub status : work.status ≡ Done

-- the work of a task on the texts of its files
abbrev pub IsWorkOf : Task → List (List ℕ) → Work → Type 0
IsWorkOf (Verify file options) (rules ∷ []) work = (list : List Rule) × IsRuleText rules list × IsVerifyWork list options work
IsWorkOf (Optimise file file' None options) (rules ∷ source ∷ []) work =
    (list : List Rule) × IsRuleText rules list × IsOptimiseWork list options source work
IsWorkOf (Optimise file file' (Some logs) options) (rules ∷ source ∷ proofs ∷ []) work =
    (list : List Rule) × IsRuleText rules list × AreKeptTo list proofs work.table × IsOptimiseWork list options source work
IsWorkOf (Run file name arguments options) (source ∷ []) work = IsRunWork source name arguments options work
IsWorkOf (Load number) [] work = IsLoadWork number work
IsWorkOf (Recheck file file' options) (rules ∷ proofs ∷ []) work = (list : List Rule) × IsRuleText rules list × IsRecheckWork list proofs options work
IsWorkOf task texts work = ⊥
