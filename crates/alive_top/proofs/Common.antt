-- What the proofs of this crate cite of definitions, of other crates and of the libraries, passed on from one place.
pub use Rattle.std.proofs.Common.{All, Bool, Err, IfOk, IfSome, IsTrue, List, MatchBool, MatchResult, None, Ok, Option, Result, Some, [], ap, arith, codes, cond, drop, false, get_or, inl, inr, length, map, option_map, refl, rules, slice_get, string_bytes, subst, suc, sym, take, true, zero, ℕ, ⊎_elim, ◌++◌, ◌+◌, ◌<◌, ◌^◌, ◌↔◌, ◌∙◌, ◌∷◌, ◌≡◌, ◌≤◌, ◌⊎◌}
pub use Rattle.alive_top.specs.Answers.{FileOf, FileRefused, Fits, IsDoneFor, MisfitsRules, MisfitsRun, RefusedFor, TaskOf, TextOf, seen_work}
pub use Rattle.alive_top.specs.Cause.{ComesTo, LogsAreRefused, MemoryIsRefused, ReadFails, TextIsRefused}
pub use Rattle.alive_top.specs.Done.{HasDone, HasOptimised, HasProved, HasRechecked, HasVerified}
pub use Rattle.alive_top.specs.Ends.{Ends, EndsAtWords, EndsWith, IsNoCommand, IsUsage, Refused, Worked}
pub use Rattle.alive_top.specs.File.{File, FileKind, Source, files_of, limit_of}
pub use Rattle.alive_top.specs.LogFaults.{HasBadLogs, HasLogFault}
pub use Rattle.alive_top.specs.NoRun.{NamesNoRun}
pub use Rattle.alive_top.specs.Optimised.{IsOptimised, optimised_report}
pub use Rattle.alive_top.specs.Puts.{RefusedAs, Says, SaysMemory, WrittenAs}
pub use Rattle.alive_top.specs.Request.{AsksOne, with_names}
pub use Rattle.alive_top.specs.Statuses.{IsDone, IsDoneOrNoMemory, IsLogRefusal, IsNoRun, IsNoTask, IsWorked}
pub use Rattle.alive_top.specs.Taken.{Refuses, Takes}
pub use Rattle.alive_top.specs.Task.{Asks, Load, Optimise, Recheck, Run, Task, Verify, task_of}
pub use Rattle.alive_top.specs.Texts.{AreTaken, AreTexts, HasBadFile, IsTextOf, OfSomeTexts, OfToldTexts, TakesEach}
pub use Rattle.alive_top.specs.Work.{IsOptimiseWork, IsPrinted, IsProofWork, IsRecheckWork, IsRunWork, IsVerdictWork, IsVerifyWork, IsWorkOf, Work}
pub use Rattle.alive_top.specs.Written.{Reports, Took, WroteAll, WroteSome}
pub use Rattle.alive_top.specs.declared.hindrance.Hindrance.{Hindrance}
pub use Rattle.alive_top.specs.declared.hindrance.Hindrance.TheVariants.{Memory, Module, Read}
pub use Rattle.alive_top.specs.declared.status.Ended.{Ended}
pub use Rattle.alive_top.specs.declared.status.Status.{Status}
pub use Rattle.alive_top.specs.declared.status.Status.TheVariants.{Done, LogRefused, ModuleRefused, NoMemory, NotAll, ReadFault, RuleRefused, Usage, WriteFault}
pub use Rattle.clap.specs.Words.{Row, Text, first_of}
pub use Rattle.command_line.specs.Laws.{SameCommand, WordsSayOneCommand}
pub use Rattle.command_line.specs.Limits.{default_steps}
pub use Rattle.command_line.specs.Usage.{HasBadList, list_of, refusal_of_list}
pub use Rattle.command_line.specs.Widths.{is_width_list}
pub use Rattle.command_line.specs.Words.{SaysOf, are_taken, command_and_rows}
pub use Rattle.command_line.specs.declared.command.Command.{Command}
pub use Rattle.command_line.specs.declared.command.OptimiseOptions.{OptimiseOptions}
pub use Rattle.command_line.specs.declared.command.RecheckOptions.{RecheckOptions}
pub use Rattle.command_line.specs.declared.command.RunOptions.{RunOptions}
pub use Rattle.command_line.specs.declared.command.VerifyOptions.{VerifyOptions}
pub use Rattle.error_lines.specs.Lines.{logs_line, memory_line, module_line, read_fault_line, rules_line}
pub use Rattle.ir_core.specs.Checks.{ModuleMeetsChecks}
pub use Rattle.ir_printer.specs.Forms.{ModuleHasForms}
pub use Rattle.ir_reader.specs.Faults.{IsModuleText}
pub use Rattle.ir_reader.specs.Laws.{TextsHaveOneModuleOrFault}
pub use Rattle.load_text.proofs.LoadLemmas.{generated_countable, generated_size}
pub use Rattle.load_text.specs.Load.{IsLoaded, instructions_in, load_text}
pub use Rattle.outside.specs.Faults.{Rose, raised}
pub use Rattle.outside.specs.Files.{FilesFollow, FilesState, with_name}
pub use Rattle.outside.specs.Sink.{Appends, SinkState}
pub use Rattle.proof_text.specs.Faults.{too_long}
pub use Rattle.refusal.specs.declared.fault.Fault.{Fault}
pub use Rattle.rule_reader.specs.Laws.{TextsHaveOneListOrFault}
pub use Rattle.run_text.proofs.LawLemmas.{module_has_outcomes}
pub use Rattle.run_text.specs.OutcomeLaws.{RunsAreNotMisnamed}
pub use Rattle.run_text.specs.Runs.{IsRun}
pub use Rattle.std.proofs.lemmas.Bool.{cases_lt}
pub use Rattle.std.proofs.lemmas.List.{length-take, length-take-le, take_all}
pub use Rattle.std.proofs.lemmas.List.Elements.{All-from_get_or}
pub use Rattle.std.proofs.lemmas.Option.{get_or_from_slice_get, slice_get-get_or, slice_get_within}
pub use Rattle.std.proofs.lemmas.Result.{err_from_is_err_and}
pub use Rattle.std.specs.List.{AllZip}
pub use Rattle.stored_logs.proofs.Storing.{kept_to}
pub use Rattle.stored_logs.specs.Faults.{IsFault, of_text}
pub use Rattle.stored_logs.specs.Laws.{TextsHaveProofsOrFault}
pub use Rattle.stored_logs.specs.Limits.{most_bytes}
pub use Rattle.stored_logs.specs.LogFaultKind.{LogFaultKind}
pub use Rattle.stored_logs.specs.LogFaultKind.TheVariants.{TooLong}
pub use Rattle.stored_logs.specs.Rechecked.{IsRechecked}
pub use Rattle.stored_logs.specs.Stored.{AreKeptTo, AreStored}
pub use Rattle.stored_logs.specs.declared.rechecked.Rechecked.{Rechecked}
pub use Rattle.strategy.specs.Ready.{AreReady, IsReady}
pub use Rattle.strategy_core.specs.Countable.{ModuleIsCountable}
pub use Rattle.strategy_core.specs.Laws.{ModuleNumbersFit}
pub use Rattle.verdict.specs.Findings.{IsReadRule}
pub use Rattle.verdict.specs.Rule.{Rule}
pub use Rattle.asked_verdicts.specs.Stored.{IsUnrefutedIn}
pub use Rattle.verdict.specs.Table.{table_text}
pub use Rattle.asked_verdicts.specs.declared.stored.StoredLogs.{StoredLogs}
