-- How far a task came with its files, where one was not read or was refused, and where all were read.
use Rattle.alive_top.proofs.Common.{◌≡◌, ℕ, ◌≤◌, List, [], ◌∷◌, Result, Ok, Err, Option, None, Some, refl, sym, subst, ◌∙◌, inl, inr, ⊎_elim, ◌⊎◌, arith, ap, All, IfSome, take, ◌+◌, OptimiseOptions, RunOptions, VerifyOptions, Rose, FilesState, FilesFollow, with_name, AreStored, kept_to, Rule, IsUnrefutedIn, StoredLogs, IsRun, Rechecked, IsRechecked, RecheckOptions, Hindrance, Module, Read, Memory, RuleRefused, ModuleRefused, Fits, MisfitsRun, MisfitsRules, TextOf, FileOf, FileRefused, RefusedFor, IsDoneFor, ComesTo, TextIsRefused, ReadFails, MemoryIsRefused, File, files_of, limit_of, rules_line, module_line, AsksOne, with_names, Takes, Task, Verify, Optimise, Run, Recheck, IsTextOf, Work, IsPrinted, IsVerifyWork, IsOptimiseWork, IsRunWork, IsRecheckWork}
use Rattle.ir_core.specs.declared.module.Module.{Module as SourceModule}
use Rattle.run_text.specs.Runs.{IsReadAs as IsModuleReadAs}
use Rattle.alive_top.specs.declared.hindrance.Hindrance.TheVariants.{Rules, Argument, Logs}
use Rattle.alive_top.specs.Answers.{IsReadAs}
use Rattle.alive_top.specs.File.{Rules as RuleFile, Source as ModuleFile, Logs as LogFile}
use Rattle.alive_top.specs.Taken.{IsRuleText}

-- ---- one file

-- reading a file's text, and what the text gives, is reading the file
pub file_from_text : {T : Type 0} (old new : FilesState) (file : File) (text : List ℕ) (P : List ℕ → T → Type 0) (Misfits : List ℕ → Hindrance → Type 0) (result : Result T Hindrance)
    → IsTextOf old file text → AsksOne old new file.name → TextOf file.kind text (P text) (Misfits text) result → FileOf old new file P Misfits result
file_from_text old new file text P Misfits (Ok x) is asks h = record { asks = asks; text = text; is_text = is; holds = h }
file_from_text old new file text P Misfits (Err (Rules fault)) is asks h = record { asks = asks; text = text; is_text = is; holds = h }
file_from_text old new file text P Misfits (Err (Module fault)) is asks h = record { asks = asks; text = text; is_text = is; holds = h }
file_from_text old new file text P Misfits (Err Argument) is asks h = record { asks = asks; text = text; is_text = is; holds = h }
file_from_text old new file text P Misfits (Err (Logs fault)) is asks h = record { asks = asks; text = text; is_text = is; holds = h }
file_from_text old new file text P Misfits (Err Memory) is asks h = inr asks
file_from_text old new file text P Misfits (Err (Read name)) is asks h = absurd h

-- why not all of these files were read and taken
abbrev RefusedAmong : FilesState → FilesState → List File → Hindrance → Type 0
RefusedAmong old new files (Rules fault) = TextIsRefused old new files RuleRefused (rules_line fault)
RefusedAmong old new files (Module fault) = TextIsRefused old new files ModuleRefused (module_line fault)
RefusedAmong old new files Argument = ⊥
RefusedAmong old new files (Logs fault) = ⊥
RefusedAmong old new files (Read name) = ReadFails old new files name.now
RefusedAmong old new files Memory = MemoryIsRefused old new files

-- the same for the files of a task
for_task : (old new : FilesState) (task : Task) (refusal : Hindrance) → RefusedAmong old new (files_of task) refusal → RefusedFor old new task refusal
for_task old new task (Rules fault) h = h
for_task old new task (Module fault) h = h
for_task old new task Argument h = absurd h
for_task old new task (Logs fault) h = absurd h
for_task old new task (Read name) h = h
for_task old new task Memory h = h

-- ---- the first file

-- rules that were read are what their file is read for
pub has_rules : (old new : FilesState) (name : List ℕ) (list : List Rule) → IsReadAs old new (record { name = name; kind = RuleFile }) (λ text. IsRuleText text list)
    → IsReadAs old new (record { name = name; kind = RuleFile }) (Takes RuleFile)
has_rules old new name list read = record { asks = read.asks; text = read.text; is_text = read.is_text; holds = (list, read.holds) }

-- the first file is asked for
first_comes : (old new : FilesState) (file : File) (rest : List File) → AsksOne old new file.name → ComesTo old new (file ∷ rest) file
first_comes old new file rest asks = record { place = 0; is = refl; texts = []; before = tt; asks = asks }

first_among : (old new : FilesState) (file : File) (rest : List File) (refusal : Hindrance) → FileRefused old new file (λ _. Fits) refusal → RefusedAmong old new (file ∷ rest) refusal
first_among old new file rest (Rules fault) h = record { file = file; comes = first_comes old new file rest h.asks; text = h.text; is_text = h.is_text; refuses = h.holds }
first_among old new file rest (Module fault) h = record { file = file; comes = first_comes old new file rest h.asks; text = h.text; is_text = h.is_text; refuses = h.holds }
first_among old new file rest Argument h = h.holds
first_among old new file rest (Logs fault) h = h.holds
first_among old new file rest (Read name) h = record { file = file; comes = first_comes old new file rest h.2; named = h.1; rose = h.0 }
first_among old new file rest Memory h = record { count = 0; texts = []; before = tt; asks = h }

pub first_refused : (old new : FilesState) (task : Task) (file : File) (rest : List File) (refusal : Hindrance) → files_of task ≡ file ∷ rest → FileRefused old new file (λ _. Fits) refusal → RefusedFor old new task refusal
first_refused old new task file rest refusal files h =
    for_task old new task refusal (subst (λ (fs : List File). RefusedAmong old new fs refusal) (sym files) (first_among old new file rest refusal h))

-- memory was refused after the only file
pub memory_behind : (old new : FilesState) (file : File) → AsksOne old new file.name → MemoryIsRefused old new (file ∷ [])
memory_behind old new file asks = record { count = 0; texts = []; before = tt; asks = inr asks }

-- ---- the second file, after one that is what it is read for

asks_both : (before between after : Option (List (List ℕ))) (one two : File) → between ≡ with_name before one.name → after ≡ with_name between two.name → after ≡ with_names before (one ∷ two ∷ [])
asks_both before between after one two e f = f ∙ ap (λ names. with_name names two.name) e

rose_since : (before between after : ℕ) → before ≤ between → Rose between after → Rose before after
rose_since before between after h (inl lt) = inl (omega arith)
rose_since before between after h (inr last) = inr last

-- what is known of a file later was known before
text_before : (old new : FilesState) (file : File) (text : List ℕ) → FilesFollow old new → IsTextOf new file text → IsTextOf old file text
text_before old new file text follow is =
    subst (λ (told : List ℕ → Option (List ℕ)). IfSome (told file.name) (λ bytes. text ≡ take (limit_of file.kind + 1) bytes)) follow.told is

second_comes : (old mid new : FilesState) (one two : File) (rest : List File) → IsReadAs old mid one (Takes one.kind) → AsksOne mid new two.name → ComesTo old new (one ∷ two ∷ rest) two
second_comes old mid new one two rest first asks = record {
  place = 1;
  is = refl;
  texts = first.text ∷ [];
  before = ((first.is_text, first.holds), tt);
  asks = asks_both old.asked mid.asked new.asked one two first.asks asks;
}

second_among : (old mid new : FilesState) (one two : File) (rest : List File) (refusal : Hindrance)
    → FilesFollow old mid → IsReadAs old mid one (Takes one.kind) → FileRefused mid new two (λ _. Fits) refusal → RefusedAmong old new (one ∷ two ∷ rest) refusal
second_among old mid new one two rest (Rules fault) follow first h = record {
  file = two;
  comes = second_comes old mid new one two rest first h.asks;
  text = h.text;
  is_text = text_before old mid two h.text follow h.is_text;
  refuses = h.holds;
}
second_among old mid new one two rest (Module fault) follow first h = record {
  file = two;
  comes = second_comes old mid new one two rest first h.asks;
  text = h.text;
  is_text = text_before old mid two h.text follow h.is_text;
  refuses = h.holds;
}
second_among old mid new one two rest Argument follow first h = h.holds
second_among old mid new one two rest (Logs fault) follow first h = h.holds
second_among old mid new one two rest (Read name) follow first h = record {
  file = two;
  comes = second_comes old mid new one two rest first h.2;
  named = h.1;
  rose = rose_since old.faults mid.faults new.faults follow.faults h.0;
}
second_among old mid new one two rest Memory follow first (inl none) =
    record { count = 1; texts = first.text ∷ []; before = ((first.is_text, first.holds), tt); asks = inl (none ∙ first.asks) }
second_among old mid new one two rest Memory follow first (inr asks) = record {
  count = 1;
  texts = first.text ∷ [];
  before = ((first.is_text, first.holds), tt);
  asks = inr (asks_both old.asked mid.asked new.asked one two first.asks asks);
}

pub second_refused : (old mid new : FilesState) (task : Task) (one two : File) (rest : List File) (refusal : Hindrance)
    → files_of task ≡ one ∷ two ∷ rest → FilesFollow old mid → IsReadAs old mid one (Takes one.kind) → FileRefused mid new two (λ _. Fits) refusal → RefusedFor old new task refusal
second_refused old mid new task one two rest refusal files follow first h =
    for_task old new task refusal (subst (λ (fs : List File). RefusedAmong old new fs refusal) (sym files) (second_among old mid new one two rest refusal follow first h))

-- two reads, one after the other
pub follow_on : (old mid new : FilesState) → FilesFollow old mid → FilesFollow mid new → FilesFollow old new
follow_on old mid new f g = record { told = g.told ∙ f.told; faults = omega (arith, f.faults, g.faults) }

-- ---- all files

pub verify_done : (old new : FilesState) (rules : List ℕ) (options : VerifyOptions) (list : List Rule) (work : Work)
    → IsReadAs old new (record { name = rules; kind = RuleFile }) (λ text. IsRuleText text list) → IsVerifyWork list options work → IsDoneFor old new (Verify rules options) work
verify_done old new rules options list work read verified = record {
  asks = read.asks;
  texts = read.text ∷ [];
  taken = ((read.is_text, (list, read.holds)), tt);
  is_work = (list, read.holds, verified);
}

pub optimise_done : (old mid new : FilesState) (rules source : List ℕ) (options : OptimiseOptions) (list : List Rule) (work : Work) {report : List ℕ}
    → FilesFollow old mid → IsReadAs old mid (record { name = rules; kind = RuleFile }) (λ text. IsRuleText text list)
    → (read : IsReadAs mid new (record { name = source; kind = ModuleFile }) (λ text. IsPrinted list options text work.text report work.table))
    → IsOptimiseWork list options read.text work → IsDoneFor old new (Optimise rules source None options) work
optimise_done old mid new rules source options list work follow first read written =
    let one : File = record { name = rules; kind = RuleFile } in
    let two : File = record { name = source; kind = ModuleFile } in
    let optimised = read.holds.1.optimised in
    record {
      asks = asks_both old.asked mid.asked new.asked one two first.asks read.asks;
      texts = first.text ∷ read.text ∷ [];
      taken = ((first.is_text, (list, first.holds)), ((text_before old mid two read.text follow read.is_text, (optimised.read, record { source = optimised.source; limit = read.holds.0 })), tt));
      is_work = (list, first.holds, written);
    }

-- ---- a run

pub run_done : (old new : FilesState) (source name : List ℕ) (arguments : List (List ℕ)) (options : RunOptions) (work : Work)
    → (read : IsReadAs old new (record { name = source; kind = ModuleFile }) (λ text. IsRun text name arguments options.blocks work.text))
    → IsRunWork read.text name arguments options work → IsDoneFor old new (Run source name arguments options) work
run_done old new source name arguments options work read ran = record {
  asks = read.asks;
  texts = read.text ∷ [];
  taken = ((read.is_text, (read.holds.read, read.holds.source)), tt);
  is_work = ran;
}

pub run_refused : (old new : FilesState) (source name : List ℕ) (arguments : List (List ℕ)) (options : RunOptions) (refusal : Hindrance)
    → FileRefused old new (record { name = source; kind = ModuleFile }) (λ text. MisfitsRun text name arguments) refusal → RefusedFor old new (Run source name arguments options) refusal
run_refused old new source name arguments options (Rules fault) h = first_among old new (record { name = source; kind = ModuleFile }) [] (Rules fault) h
run_refused old new source name arguments options (Module fault) h = first_among old new (record { name = source; kind = ModuleFile }) [] (Module fault) h
run_refused old new source name arguments options (Read n) h = first_among old new (record { name = source; kind = ModuleFile }) [] (Read n) h
run_refused old new source name arguments options Memory h = first_among old new (record { name = source; kind = ModuleFile }) [] Memory h
run_refused old new source name arguments options Argument h = record {
  asks = h.asks;
  texts = h.text ∷ [];
  taken = ((h.is_text, (h.holds.read, h.holds.source)), tt);
  names_none = h.holds;
}
run_refused old new source name arguments options (Logs fault) h = absurd h.holds

-- ---- proofs

pub recheck_done : (old mid new : FilesState) (rules logs : List ℕ) (options : RecheckOptions) (list : List Rule) (rechecked : Rechecked) (work : Work)
    → FilesFollow old mid → IsReadAs old mid (record { name = rules; kind = RuleFile }) (λ text. IsRuleText text list)
    → (read : IsReadAs mid new (record { name = logs; kind = LogFile }) (λ text. IsRechecked list text options.conflicts rechecked))
    → IsRecheckWork list read.text options work → IsDoneFor old new (Recheck rules logs options) work
recheck_done old mid new rules logs options list rechecked work follow first read is =
    let one : File = record { name = rules; kind = RuleFile } in
    let two : File = record { name = logs; kind = LogFile } in
    record {
      asks = asks_both old.asked mid.asked new.asked one two first.asks read.asks;
      texts = first.text ∷ read.text ∷ [];
      taken = ((first.is_text, (list, first.holds)), ((text_before old mid two read.text follow read.is_text, tt), tt));
      is_work = (list, first.holds, is);
    }

pub recheck_refused : (old mid new : FilesState) (rules logs : List ℕ) (options : RecheckOptions) (list : List Rule) (refusal : Hindrance)
    → FilesFollow old mid → IsReadAs old mid (record { name = rules; kind = RuleFile }) (λ text. IsRuleText text list)
    → FileRefused mid new (record { name = logs; kind = LogFile }) (λ text. MisfitsRules list text) refusal → RefusedFor old new (Recheck rules logs options) refusal
recheck_refused old mid new rules logs options list (Rules fault) follow first h = absurd h.holds
recheck_refused old mid new rules logs options list (Module fault) follow first h = absurd h.holds
recheck_refused old mid new rules logs options list Argument follow first h = absurd h.holds
recheck_refused old mid new rules logs options list (Read n) follow first h =
    second_among old mid new (record { name = rules; kind = RuleFile }) (record { name = logs; kind = LogFile }) [] (Read n) follow (has_rules old mid rules list first) h
recheck_refused old mid new rules logs options list Memory follow first h =
    second_among old mid new (record { name = rules; kind = RuleFile }) (record { name = logs; kind = LogFile }) [] Memory follow (has_rules old mid rules list first) h
recheck_refused old mid new rules logs options list (Logs fault) follow first h =
    let one : File = record { name = rules; kind = RuleFile } in
    let two : File = record { name = logs; kind = LogFile } in
    record {
      asks = asks_both old.asked mid.asked new.asked one two first.asks h.asks;
      texts = first.text ∷ h.text ∷ [];
      taken = ((first.is_text, (list, first.holds)), ((text_before old mid two h.text follow h.is_text, tt), tt));
      has_fault = (list, first.holds, h.holds);
    }

-- ---- rules, a module and proofs

-- rules and a module were read, one after the other
pub record AreRead (old new : FilesState) (rules source : List ℕ) (list : List Rule) (m : SourceModule) : Type 0 where
  pub text : List ℕ
  pub is_text : IsTextOf old (record { name = rules; kind = RuleFile }) text
  pub is_rules : IsRuleText text list
  pub bytes : List ℕ
  pub is_bytes : IsTextOf old (record { name = source; kind = ModuleFile }) bytes
  pub is_module : IsModuleReadAs bytes m
  pub asks : new.asked ≡ with_names old.asked (record { name = rules; kind = RuleFile } ∷ record { name = source; kind = ModuleFile } ∷ [])
  pub follow : FilesFollow old new

pub are_read : (old mid new : FilesState) (rules source : List ℕ) (list : List Rule) (m : SourceModule) → FilesFollow old mid → FilesFollow mid new
    → IsReadAs old mid (record { name = rules; kind = RuleFile }) (λ text. IsRuleText text list)
    → IsReadAs mid new (record { name = source; kind = ModuleFile }) (λ text. IsModuleReadAs text m) → AreRead old new rules source list m
are_read old mid new rules source list m follow next first second =
    let one : File = record { name = rules; kind = RuleFile } in
    let two : File = record { name = source; kind = ModuleFile } in
    record {
      text = first.text;
      is_text = first.is_text;
      is_rules = first.holds;
      bytes = second.text;
      is_bytes = text_before old mid two second.text follow second.is_text;
      is_module = second.holds;
      asks = asks_both old.asked mid.asked new.asked one two first.asks second.asks;
      follow = follow_on old mid new follow next;
    }

module _ (old mid new : FilesState) (rules source logs : List ℕ) (options : OptimiseOptions) (list : List Rule) (m : SourceModule) (read : AreRead old mid rules source list m) where
  asks_three : AsksOne mid new logs → new.asked ≡ with_names old.asked (files_of (Optimise rules source (Some logs) options))
  asks_three asks = asks ∙ ap (λ names. with_name names logs) read.asks

  -- memory was refused after the first two files, or after the third
  pub no_memory : (new.asked ≡ mid.asked) ⊎ AsksOne mid new logs → MemoryIsRefused old new (files_of (Optimise rules source (Some logs) options))
  no_memory asks = record {
    count = 2;
    texts = read.text ∷ read.bytes ∷ [];
    before = ((read.is_text, (list, read.is_rules)), ((read.is_bytes, (m, read.is_module)), tt));
    asks = ⊎_elim (λ none. inl (none ∙ read.asks)) (λ one. inr (asks_three one)) asks;
  }

  pub logs_refused : (refusal : Hindrance) → FileRefused mid new (record { name = logs; kind = LogFile }) (λ text. MisfitsRules list text) refusal → RefusedFor old new (Optimise rules source (Some logs) options) refusal
  logs_refused (Rules fault) h = absurd h.holds
  logs_refused (Module fault) h = absurd h.holds
  logs_refused Argument h = absurd h.holds
  logs_refused (Read n) h = record {
    file = record { name = logs; kind = LogFile };
    comes = record {
      place = 2;
      is = refl;
      texts = read.text ∷ read.bytes ∷ [];
      before = ((read.is_text, (list, read.is_rules)), ((read.is_bytes, (m, read.is_module)), tt));
      asks = asks_three h.2;
    };
    named = h.1;
    rose = rose_since old.faults mid.faults new.faults read.follow.faults h.0;
  }
  logs_refused Memory h = no_memory h
  logs_refused (Logs fault) h = record {
    asks = asks_three h.asks;
    texts = read.text ∷ read.bytes ∷ h.text ∷ [];
    taken = ((read.is_text, (list, read.is_rules)), ((read.is_bytes, (m, read.is_module)), ((text_before old mid (record { name = logs; kind = LogFile }) h.text read.follow h.is_text, tt), tt)));
    has_fault = (list, read.is_rules, (m, read.is_module), h.holds);
  }

  pub by_logs_done : (work : Work) (stored : StoredLogs) → IsReadAs mid new (record { name = logs; kind = LogFile }) (λ text. AreStored list text stored) → All (IsUnrefutedIn stored) work.table
      → IsOptimiseWork list options read.bytes work → IsDoneFor old new (Optimise rules source (Some logs) options) work
  by_logs_done work stored third unrefuted written = record {
    asks = asks_three third.asks;
    texts = read.text ∷ read.bytes ∷ third.text ∷ [];
    taken = ((read.is_text, (list, read.is_rules)), ((read.is_bytes, (m, read.is_module)), ((text_before old mid (record { name = logs; kind = LogFile }) third.text read.follow third.is_text, tt), tt)));
    is_work = (list, read.is_rules, kept_to list third.text stored work.table third.holds unrefuted, written);
  }
