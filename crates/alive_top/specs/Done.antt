-- What a task has done, where its work was done and written.
use Rattle.std.specs.Prelude.{◌≡◌, ◌≤◌, ◌↔◌, ℕ, IsTrue, List, [], ◌∷◌, None, Some, length, Bool, MatchBool}
use Rattle.outside.specs.Sink.{SinkState, Appends}
use Rattle.command_line.specs.declared.command.OptimiseOptions.{OptimiseOptions}
use Rattle.command_line.specs.declared.command.RecheckOptions.{RecheckOptions}
use Rattle.command_line.specs.declared.command.RunOptions.{RunOptions}
use Rattle.command_line.specs.declared.command.VerifyOptions.{VerifyOptions}
use Rattle.ir_core.specs.declared.module.Module.{Module}
use Rattle.ir_reader.specs.Text.{most_bytes}
use Rattle.ir_printer.specs.PrintedText.{text_of}
use Rattle.load_text.specs.Load.{IsLoaded}
use Rattle.alive_top.specs.Optimised.{IsOptimised, optimised_report}
use Rattle.run_text.specs.Runs.{IsRun}
use Rattle.verdict.specs.Rule.{Rule}
use Rattle.verdict.specs.declared.verification.Verified.{Verified}
use Rattle.verdict.specs.Verified.{IsVerified}
use Rattle.stored_logs.specs.declared.proved.Proved.{Proved}
use Rattle.stored_logs.specs.declared.rechecked.Rechecked.{Rechecked}
use Rattle.stored_logs.specs.Proved.{IsProved}
use Rattle.stored_logs.specs.Rechecked.{IsRechecked}
use Rattle.stored_logs.specs.Stored.{AreKeptTo}
use Rattle.alive_top.specs.declared.status.Ended.{Ended}
use Rattle.alive_top.specs.declared.status.Status.TheVariants.{Done}
use Rattle.load_text.specs.RuleText.{IsRuleText}
use Rattle.alive_top.specs.Task.{Task, Verify, Optimise, Run, Load, Recheck}

-- `verify` decided the rules of a text, and gave their verdicts as a table and as text on the output. The status is 0
-- exactly where all are admitted.
pub record HasVerified (text : List ℕ) (options : VerifyOptions) (out out' : SinkState) (ended : Ended) : Type 0 where
  pub rules : List Rule
  pub file : IsRuleText text rules
  pub verified : Verified
  pub right : IsVerified rules options.widths options.conflicts verified
  pub table : ended.table ≡ verified.table
  pub wrote : Appends out out' verified.text.items
  pub no_proofs : ended.proofs ≡ []
  pub all : (ended.status ≡ Done) ↔ IsTrue verified.all_admitted

-- `verify --logs` did the same, but wrote the text of the proofs of those that are admitted, and gave these proofs as
-- well, with the clauses that they refute.
pub record HasProved (text : List ℕ) (options : VerifyOptions) (out out' : SinkState) (ended : Ended) : Type 0 where
  pub rules : List Rule
  pub file : IsRuleText text rules
  pub proved : Proved
  pub right : IsProved rules options.widths options.conflicts proved
  pub table : ended.table ≡ proved.table
  pub proofs : ended.proofs ≡ proved.refutations
  pub wrote : Appends out out' proved.text.items
  pub all : (ended.status ≡ Done) ↔ IsTrue proved.all_admitted

-- `recheck` decided the pairs of the proofs of another text, and gave their verdicts as a table and as text on the
-- output. The status is 0 exactly where all are admitted.
pub record HasRechecked (text proofs : List ℕ) (options : RecheckOptions) (out out' : SinkState) (ended : Ended) : Type 0 where
  pub rules : List Rule
  pub file : IsRuleText text rules
  pub rechecked : Rechecked
  pub right : IsRechecked rules proofs options.conflicts rechecked
  pub table : ended.table ≡ rechecked.table
  pub wrote : Appends out out' rechecked.text.items
  pub no_proofs : ended.proofs ≡ []
  pub all : (ended.status ≡ Done) ↔ IsTrue rechecked.all_admitted

-- `optimise` wrote a module that refines that of a text, by the rules of another text, and a report, and gave the
-- verdicts as a table.
pub record HasOptimised (text source : List ℕ) (options : OptimiseOptions) (out out' err err' : SinkState) (ended : Ended) : Type 0 where
  pub rules : List Rule
  pub file : IsRuleText text rules
  pub limit : length source ≤ most_bytes
  pub new : Module
  pub counts : List ℕ
  pub limited : List Bool
  pub optimised : IsOptimised rules options source new ended.table counts limited
  pub wrote : Appends out out' (text_of new)
  pub report : Appends err err' (optimised_report rules ended.table new counts limited)
  pub no_proofs : ended.proofs ≡ []
  pub status : ended.status ≡ Done

-- With proofs, which are good ones of the rules, it did the same; and no log that they hold refutes the clauses of a
-- `Budget` on its pair in the table.
pub record HasOptimisedByLogs (text source proofs : List ℕ) (options : OptimiseOptions) (out out' err err' : SinkState) (ended : Ended) : Type 0 where
  pub optimised : HasOptimised text source options out out' err err' ended
  pub kept_to : AreKeptTo optimised.rules proofs ended.table

-- `run` wrote how far the run of the named function of the module of a text came, or what it returned.
pub record HasRun (text name : List ℕ) (arguments : List (List ℕ)) (options : RunOptions) (out out' err err' : SinkState) (ended : Ended) : Type 0 where
  pub line : List ℕ
  pub is_run : IsRun text name arguments options.blocks line
  pub wrote : Appends out out' line
  pub silent : err' ≡ err
  pub no_proofs : ended.proofs ≡ []
  pub status : ended.status ≡ Done

-- `load` wrote what comes of the module that is generated from the number, by the built-in rules, and gave the verdicts
-- as a table.
pub record HasLoaded (number : ℕ) (out out' err err' : SinkState) (ended : Ended) : Type 0 where
  pub text : List ℕ
  pub loaded : IsLoaded number text ended.table
  pub wrote : Appends out out' text
  pub silent : err' ≡ err
  pub no_proofs : ended.proofs ≡ []
  pub status : ended.status ≡ Done

-- what the task has done, given the texts of its files
abbrev pub HasDone : Task → List (List ℕ) → SinkState → SinkState → SinkState → SinkState → Ended → Type 0
HasDone (Verify file options) (rules ∷ []) out out' err err' ended =
    MatchBool options.logs (HasProved rules options out out' ended) (HasVerified rules options out out' ended)
HasDone (Optimise file file' None options) (rules ∷ source ∷ []) out out' err err' ended =
    HasOptimised rules source options out out' err err' ended
HasDone (Optimise file file' (Some logs) options) (rules ∷ source ∷ proofs ∷ []) out out' err err' ended =
    HasOptimisedByLogs rules source proofs options out out' err err' ended
HasDone (Run file name arguments options) (source ∷ []) out out' err err' ended =
    HasRun source name arguments options out out' err err' ended
HasDone (Load number) [] out out' err err' ended = HasLoaded number out out' err err' ended
HasDone (Recheck file file' options) (rules ∷ proofs ∷ []) out out' err err' ended = HasRechecked rules proofs options out out' ended
HasDone task texts out out' err err' ended = ⊥
