-- Bytes that are taken are not refused.
use Rattle.alive_top.proofs.Common.{ℕ, List, TextsHaveOneModuleOrFault, TextsHaveOneListOrFault, Status, FileKind, Takes, Refuses}
use Rattle.alive_top.specs.File.{Rules as RuleFile, Source as ModuleFile, Logs as LogFile}

-- the same for each kind of file
abbrev pub TakenAreNotRefused : Type 0
TakenAreNotRefused = (kind : FileKind) (bytes : List ℕ) (s : Status) (line : List ℕ) → Takes kind bytes → Refuses kind bytes s line → ⊥

pub taken_not_refused : TextsHaveOneListOrFault → TextsHaveOneModuleOrFault → TakenAreNotRefused
taken_not_refused rules modules RuleFile bytes s line takes r = rules.not_both bytes takes.0 r.0 takes.1.short takes.1.file r.1
taken_not_refused rules modules ModuleFile bytes s line takes r = modules.not_both bytes takes.0 r.0 takes.1.limit takes.1.source r.1
taken_not_refused rules modules LogFile bytes s line takes r = r
