-- The clauses of the top call, from how a call ends.
use Rattle.alive_top.proofs.Common.{◌≡◌, ℕ, zero, suc, ◌⊎◌, Bool, true, false, IsTrue, ◌↔◌, List, [], ◌∷◌, Option, Some, None, refl, sym, subst, ap, ◌∙◌, inl, inr, ⊎_elim, arith, length, slice_get, cond, codes, option_map, MatchBool, ◌<◌, Fault, TextsHaveOneListOrFault, LogFaultKind, TooLong, TextsHaveProofsOrFault, IsFault, of_text, AreKeptTo, too_long, most_bytes, AllZip, slice_get_within, Rose, raised, FilesState, SinkState, Appends, Rule, Row, Text, first_of, WordsSayOneCommand, list_of, SaysOf, command_and_rows, is_width_list, Command, OptimiseOptions, VerifyOptions, RunsAreNotMisnamed, Ended, Status, Done, NotAll, Usage, RuleRefused, ModuleRefused, ReadFault, WriteFault, NoMemory, LogRefused, TextIsRefused, HasVerified, HasProved, HasOptimised, HasRechecked, HasDone, RecheckOptions, HasLogFault, HasBadLogs, Worked, EndsWith, EndsAtWords, Ends, IsNoCommand, IsUsage, File, FileKind, files_of, IsLoaded, NamesNoRun, IsOptimised, optimised_report, IsDone, IsWorked, IsNoTask, IsNoRun, IsLogRefusal, IsDoneOrNoMemory, Takes, Refuses, Task, Verify, Optimise, Run, Load, Recheck, Asks, IsTextOf, AreTexts, AreTaken, OfSomeTexts, OfToldTexts, TakesEach, HasBadFile, Work, IsWorkOf, IsVerdictWork, IsProofWork, IsOptimiseWork, IsRecheckWork, Reports, WroteAll, WroteSome}
use Rattle.command_line.specs.declared.command.Command.TheVariants as commands
use Rattle.verdict_core.specs.declared.verdicts.Row.{Row as VerdictRow}
use Rattle.alive_top.specs.declared.status.Status.TheVariants.{Argument}
use Rattle.alive_top.specs.File.{Rules as RuleFile, Source as ModuleFile, Logs as LogFile}
use Rattle.alive_top.specs.Taken.{IsRuleText}
use Rattle.alive_top.proofs.Asking.{asks_one}
use Rattle.alive_top.proofs.Limits.{taken_is_told, taken_told, told_is_text, told_or_long}
use Rattle.alive_top.proofs.Taking.{TakenAreNotRefused}

-- ---- statuses

no_task_not_worked : (status : Status) → IsNoTask status → IsWorked status → ⊥
no_task_not_worked Usage n w = w
no_task_not_worked NoMemory n w = w
no_task_not_worked status n w = n

done_is_worked : (status : Status) → IsDone status → IsWorked status
done_is_worked Done d = tt
done_is_worked NotAll d = tt
done_is_worked status d = absurd d

-- ---- texts

zip_at : {A B : Type 0} (R : A → B → Type 0) (xs : List A) (ys : List B) (k : ℕ) (x : A) → AllZip R xs ys → slice_get xs k ≡ Some x → (y : B) × R x y
zip_at R [] ys k x all at = absurd (omega (arith, slice_get_within [] k x at))
zip_at R (z ∷ xs) [] k x all at = absurd all
zip_at R (z ∷ xs) (y ∷ ys) zero x all at = (y, subst (λ w. R w y) (let e : z ≡ x = cc in e) all.0)
zip_at R (z ∷ xs) (y ∷ ys) (suc k) x all at = zip_at R xs ys k x all.1 at

zip_both : {A B : Type 0} (R S : A → B → Type 0) (xs : List A) (ys : List B) → AllZip R xs ys → AllZip S xs ys → AllZip (λ x y. R x y × S x y) xs ys
zip_both R S [] [] h k = tt
zip_both R S [] (y ∷ ys) h k = absurd h
zip_both R S (x ∷ xs) [] h k = absurd h
zip_both R S (x ∷ xs) (y ∷ ys) h k = ((h.0, k.0), zip_both R S xs ys h.1 k.1)

-- the bytes of all these files are known, and these are they
abbrev AreTold : FilesState → List File → List (List ℕ) → Type 0
AreTold known files texts = AllZip (λ file text. known.told file.name ≡ Some text) files texts

taken_are_texts : (known : FilesState) (files : List File) (texts : List (List ℕ)) → AreTaken known files texts → AreTexts known files texts
taken_are_texts known [] [] h = tt
taken_are_texts known [] (text ∷ texts) h = absurd h
taken_are_texts known (file ∷ files) [] h = absurd h
taken_are_texts known (file ∷ files) (text ∷ texts) h = (h.0.0, taken_are_texts known files texts h.1)

-- a text that is taken, unless for proofs, is all the known bytes
all_told : (known : FilesState) (name text bytes : List ℕ) (kind : FileKind) → (kind ≡ LogFile → ⊥) → IsTextOf known (record { name = name; kind = kind }) text → Takes kind text → known.told name ≡ Some bytes → text ≡ bytes
all_told known name text bytes kind other is takes told = by (taken_is_told known (record { name = name; kind = kind }) text bytes is takes told)
  where
    by : (text ≡ bytes) ⊎ (kind ≡ LogFile) → text ≡ bytes
    by (inl same) = same
    by (inr logs) = absurd (other logs)

-- known bytes that are taken are not refused
good_not_refused : TakenAreNotRefused → (known new : FilesState) (files : List File) (bytes : List (List ℕ))
    → AreTold known files bytes → AllZip (λ file text. Takes file.kind text) files bytes → (status : Status) (line : List ℕ) → TextIsRefused known new files status line → ⊥
good_not_refused torn known new files bytes told takes status line r =
    let told_at = λ (file : File) (text : List ℕ). known.told file.name ≡ Some text in
    let takes_at = λ (file : File) (text : List ℕ). Takes file.kind text in
    let good = zip_at (λ file text. told_at file text × takes_at file text) files bytes r.comes.place r.file (zip_both told_at takes_at files bytes told takes) r.comes.is in
    by good.0 good.1.1 (told_is_text known r.file r.text good.0 r.is_text good.1.1 good.1.0)
  where
    by : (bytes : List ℕ) → Takes r.file.kind bytes → (r.text ≡ bytes) ⊎ (r.file.kind ≡ LogFile) → ⊥
    by bytes takes (inl same) = torn r.file.kind bytes status line takes (subst (λ (text : List ℕ). Refuses r.file.kind text status line) same r.refuses)
    by bytes takes (inr logs) = let none : Refuses LogFile r.text status line = subst (λ (k : FileKind). Refuses k r.text status line) logs r.refuses in none

-- where the known bytes of a file are bad, not all texts are taken
bad_not_taken : (known : FilesState) (task : Task) (texts : List (List ℕ)) → HasBadFile known task → AreTaken known (files_of task) texts → ⊥
bad_not_taken known task texts b taken =
    let read = zip_at (λ file text. IsTextOf known file text × Takes file.kind text) (files_of task) texts b.place b.file taken b.is in
    b.bad (taken_told known b.file read.0 b.bytes read.1.0 read.1.1 b.told)

-- ---- runs of a missing function, or at arguments that do not fit

-- the known bytes are a module's
no_run_takes : (task : Task) (bytes : List (List ℕ)) → NamesNoRun task bytes → TakesEach task bytes
no_run_takes (Run file name arguments options) (source ∷ []) h = ((h.read, h.source), tt)
no_run_takes (Run file name arguments options) [] h = absurd h
no_run_takes (Run file name arguments options) (x ∷ y ∷ more) h = absurd h
no_run_takes (Verify file options) bytes h = absurd h
no_run_takes (Optimise file other logs options) bytes h = absurd h
no_run_takes (Load number) bytes h = absurd h
no_run_takes (Recheck file other options) bytes h = absurd h

-- the text that is read is all of them
no_run_told : (known : FilesState) (task : Task) (texts bytes : List (List ℕ)) → AreTaken known (files_of task) texts → AreTold known (files_of task) bytes
    → (NamesNoRun task bytes → NamesNoRun task texts) × (NamesNoRun task texts → NamesNoRun task bytes)
no_run_told known (Run file name arguments options) (text ∷ []) (source ∷ []) taken told =
    let same : text ≡ source = all_told known file text source ModuleFile (λ e. cc) taken.0.0 taken.0.1 told.0 in
    (λ h. subst (λ (t : List ℕ). NamesNoRun (Run file name arguments options) (t ∷ [])) (sym same) h, λ h. subst (λ (t : List ℕ). NamesNoRun (Run file name arguments options) (t ∷ [])) same h)
no_run_told known (Run file name arguments options) [] bytes taken told = absurd taken
no_run_told known (Run file name arguments options) (x ∷ y ∷ more) bytes taken told = absurd taken.1
no_run_told known (Run file name arguments options) (text ∷ []) [] taken told = absurd told
no_run_told known (Run file name arguments options) (text ∷ []) (x ∷ y ∷ more) taken told = absurd told.1
no_run_told known (Verify file options) texts bytes taken told = (λ h. absurd h, λ h. absurd h)
no_run_told known (Optimise file other logs options) texts bytes taken told = (λ h. absurd h, λ h. absurd h)
no_run_told known (Load number) texts bytes taken told = (λ h. absurd h, λ h. absurd h)
no_run_told known (Recheck file other options) texts bytes taken told = (λ h. absurd h, λ h. absurd h)

-- no work is done on them
no_run_no_work : RunsAreNotMisnamed → (task : Task) (texts : List (List ℕ)) (work : Work) → IsWorkOf task texts work → NamesNoRun task texts → ⊥
no_run_no_work law (Run file name arguments options) (source ∷ []) work is h = law source name arguments options.blocks work.text is.runs h
no_run_no_work law (Run file name arguments options) [] work is h = h
no_run_no_work law (Run file name arguments options) (x ∷ y ∷ more) work is h = h
no_run_no_work law (Verify file options) texts work is h = h
no_run_no_work law (Optimise file other logs options) texts work is h = h
no_run_no_work law (Load number) texts work is h = h
no_run_no_work law (Recheck file other options) texts work is h = h

-- ---- proofs with a fault

-- the known bytes are taken
bad_logs_take : (task : Task) (bytes : List (List ℕ)) → HasBadLogs task bytes → TakesEach task bytes
bad_logs_take (Recheck file other options) (rules ∷ proofs ∷ []) h = ((h.1.0, h.1.1), (tt, tt))
bad_logs_take (Recheck file other options) [] h = absurd h.1
bad_logs_take (Recheck file other options) (x ∷ []) h = absurd h.1
bad_logs_take (Recheck file other options) (x ∷ y ∷ z ∷ more) h = absurd h.1
bad_logs_take (Run file name arguments options) bytes h = absurd h.1
bad_logs_take (Verify file options) bytes h = absurd h.1
bad_logs_take (Optimise file other (Some logs) options) (rules ∷ source ∷ proofs ∷ []) h = ((h.1.0, h.1.1), (h.1.2, (tt, tt)))
bad_logs_take (Optimise file other (Some logs) options) [] h = absurd h.1
bad_logs_take (Optimise file other (Some logs) options) (x ∷ []) h = absurd h.1
bad_logs_take (Optimise file other (Some logs) options) (x ∷ y ∷ []) h = absurd h.1
bad_logs_take (Optimise file other (Some logs) options) (x ∷ y ∷ z ∷ w ∷ more) h = absurd h.1
bad_logs_take (Optimise file other None options) bytes h = absurd h.1
bad_logs_take (Load number) bytes h = absurd h.1

-- proofs that are too long have a fault, given any rules
long_logs : (list : List Rule) (proofs : List ℕ) → most_bytes < length proofs → IsFault list proofs (record { line = 1; kind = TooLong })
long_logs list proofs long = of_text (too_long long refl)

-- the texts that are read have a fault exactly where the known bytes do
bad_logs_told : (known : FilesState) (task : Task) (texts bytes : List (List ℕ)) → AreTaken known (files_of task) texts → AreTold known (files_of task) bytes
    → (HasBadLogs task bytes → HasBadLogs task texts) × (HasBadLogs task texts → HasBadLogs task bytes)
bad_logs_told known (Recheck file other options) (rules ∷ proofs ∷ []) (rules' ∷ proofs' ∷ []) taken told =
    both (all_told known file rules rules' RuleFile (λ e. cc) taken.0.0 taken.0.1 told.0) (told_or_long known (record { name = other; kind = LogFile }) proofs proofs' taken.1.0.0 told.1.0)
  where
    moved : (a b c d : List ℕ) → a ≡ b → (c ≡ d) ⊎ (most_bytes < length d) → HasBadLogs (Recheck file other options) (a ∷ c ∷ []) → HasBadLogs (Recheck file other options) (b ∷ d ∷ [])
    moved a b c d same (inl e) h = (h.0, (h.1.0, subst (λ (t : List ℕ). IsRuleText t h.1.0) same h.1.1, subst (λ (t : List ℕ). IsFault h.1.0 t h.0) e h.1.2))
    moved a b c d same (inr long) h = (record { line = 1; kind = TooLong }, (h.1.0, subst (λ (t : List ℕ). IsRuleText t h.1.0) same h.1.1, long_logs h.1.0 d long))

    both : rules ≡ rules' → (proofs ≡ proofs') ⊎ ((most_bytes < length proofs) × (most_bytes < length proofs'))
        → (HasBadLogs (Recheck file other options) (rules' ∷ proofs' ∷ []) → HasBadLogs (Recheck file other options) (rules ∷ proofs ∷ []))
        × (HasBadLogs (Recheck file other options) (rules ∷ proofs ∷ []) → HasBadLogs (Recheck file other options) (rules' ∷ proofs' ∷ []))
    both same (inl e) = (moved rules' rules proofs' proofs (sym same) (inl (sym e)), moved rules rules' proofs proofs' same (inl e))
    both same (inr long) = (moved rules' rules proofs' proofs (sym same) (inr long.0), moved rules rules' proofs proofs' same (inr long.1))
bad_logs_told known (Recheck file other options) [] bytes taken told = absurd taken
bad_logs_told known (Recheck file other options) (x ∷ []) bytes taken told = absurd taken.1
bad_logs_told known (Recheck file other options) (x ∷ y ∷ z ∷ more) bytes taken told = absurd taken.1.1
bad_logs_told known (Recheck file other options) (rules ∷ proofs ∷ []) [] taken told = absurd told
bad_logs_told known (Recheck file other options) (rules ∷ proofs ∷ []) (x ∷ []) taken told = absurd told.1
bad_logs_told known (Recheck file other options) (rules ∷ proofs ∷ []) (x ∷ y ∷ z ∷ more) taken told = absurd told.1.1
bad_logs_told known (Run file name arguments options) texts bytes taken told = (λ h. absurd h.1, λ h. absurd h.1)
bad_logs_told known (Verify file options) texts bytes taken told = (λ h. absurd h.1, λ h. absurd h.1)
bad_logs_told known (Optimise file other (Some logs) options) (rules ∷ source ∷ proofs ∷ []) (rules' ∷ source' ∷ proofs' ∷ []) taken told =
    both (all_told known file rules rules' RuleFile (λ e. cc) taken.0.0 taken.0.1 told.0) (all_told known other source source' ModuleFile (λ e. cc) taken.1.0.0 taken.1.0.1 told.1.0)
    (told_or_long known (record { name = logs; kind = LogFile }) proofs proofs' taken.1.1.0.0 told.1.1.0)
  where
    moved : (a b s t c d : List ℕ) → a ≡ b → s ≡ t → (c ≡ d) ⊎ (most_bytes < length d) → HasBadLogs (Optimise file other (Some logs) options) (a ∷ s ∷ c ∷ []) → HasBadLogs (Optimise file other (Some logs) options) (b ∷ t ∷ d ∷ [])
    moved a b s t c d same alike (inl e) h =
        (h.0, (h.1.0, subst (λ (t : List ℕ). IsRuleText t h.1.0) same h.1.1, subst (Takes ModuleFile) alike h.1.2, subst (λ (t : List ℕ). IsFault h.1.0 t h.0) e h.1.3))
    moved a b s t c d same alike (inr long) h =
        (record { line = 1; kind = TooLong }, (h.1.0, subst (λ (t : List ℕ). IsRuleText t h.1.0) same h.1.1, subst (Takes ModuleFile) alike h.1.2, long_logs h.1.0 d long))

    both : rules ≡ rules' → source ≡ source' → (proofs ≡ proofs') ⊎ ((most_bytes < length proofs) × (most_bytes < length proofs'))
        → (HasBadLogs (Optimise file other (Some logs) options) (rules' ∷ source' ∷ proofs' ∷ []) → HasBadLogs (Optimise file other (Some logs) options) (rules ∷ source ∷ proofs ∷ []))
        × (HasBadLogs (Optimise file other (Some logs) options) (rules ∷ source ∷ proofs ∷ []) → HasBadLogs (Optimise file other (Some logs) options) (rules' ∷ source' ∷ proofs' ∷ []))
    both same alike (inl e) = (moved rules' rules source' source proofs' proofs (sym same) (sym alike) (inl (sym e)), moved rules rules' source source' proofs proofs' same alike (inl e))
    both same alike (inr long) = (moved rules' rules source' source proofs' proofs (sym same) (sym alike) (inr long.0), moved rules rules' source source' proofs proofs' same alike (inr long.1))
bad_logs_told known (Optimise file other (Some logs) options) [] bytes taken told = absurd taken
bad_logs_told known (Optimise file other (Some logs) options) (x ∷ []) bytes taken told = absurd taken.1
bad_logs_told known (Optimise file other (Some logs) options) (x ∷ y ∷ []) bytes taken told = absurd taken.1.1
bad_logs_told known (Optimise file other (Some logs) options) (x ∷ y ∷ z ∷ w ∷ more) bytes taken told = absurd taken.1.1.1
bad_logs_told known (Optimise file other (Some logs) options) (rules ∷ source ∷ proofs ∷ []) [] taken told = absurd told
bad_logs_told known (Optimise file other (Some logs) options) (rules ∷ source ∷ proofs ∷ []) (x ∷ []) taken told = absurd told.1
bad_logs_told known (Optimise file other (Some logs) options) (rules ∷ source ∷ proofs ∷ []) (x ∷ y ∷ []) taken told = absurd told.1.1
bad_logs_told known (Optimise file other (Some logs) options) (rules ∷ source ∷ proofs ∷ []) (x ∷ y ∷ z ∷ w ∷ more) taken told = absurd told.1.1.1
bad_logs_told known (Optimise file other None options) texts bytes taken told = (λ h. absurd h.1, λ h. absurd h.1)
bad_logs_told known (Load number) texts bytes taken told = (λ h. absurd h.1, λ h. absurd h.1)

-- no work is done on them
bad_logs_no_work : TextsHaveOneListOrFault → TextsHaveProofsOrFault → (task : Task) (texts : List (List ℕ)) (work : Work) → IsWorkOf task texts work → HasBadLogs task texts → ⊥
bad_logs_no_work lists law (Recheck file other options) (rules ∷ proofs ∷ []) work is h =
    let same : h.1.0 ≡ is.0 = lists.one_list rules h.1.0 is.0 h.1.1.file is.1.file in
    law.not_both is.0 proofs is.2.right.proofs h.0 is.2.right.read (subst (λ (list : List Rule). IsFault list proofs h.0) same h.1.2)
bad_logs_no_work lists law (Recheck file other options) [] work is h = h.1
bad_logs_no_work lists law (Recheck file other options) (x ∷ []) work is h = h.1
bad_logs_no_work lists law (Recheck file other options) (x ∷ y ∷ z ∷ more) work is h = h.1
bad_logs_no_work lists law (Run file name arguments options) texts work is h = h.1
bad_logs_no_work lists law (Verify file options) texts work is h = h.1
bad_logs_no_work lists law (Optimise file other (Some logs) options) (rules ∷ source ∷ proofs ∷ []) work is h =
    let same : h.1.0 ≡ is.0 = lists.one_list rules h.1.0 is.0 h.1.1.file is.1.file in
    law.not_both is.0 proofs is.2.proofs h.0 is.2.text_is (subst (λ (list : List Rule). IsFault list proofs h.0) same h.1.3)
bad_logs_no_work lists law (Optimise file other (Some logs) options) [] work is h = h.1
bad_logs_no_work lists law (Optimise file other (Some logs) options) (x ∷ []) work is h = h.1
bad_logs_no_work lists law (Optimise file other (Some logs) options) (x ∷ y ∷ []) work is h = h.1
bad_logs_no_work lists law (Optimise file other (Some logs) options) (x ∷ y ∷ z ∷ w ∷ more) work is h = h.1
bad_logs_no_work lists law (Optimise file other None options) texts work is h = h.1
bad_logs_no_work lists law (Load number) texts work is h = h.1

-- ---- what the words say

-- the malformed list of widths is the one given to `verify`; the other commands take none
listed : (name : Text) (rows : List Row) (list : List ℕ) → name ≡ codes "verify" → list_of (Some (name, rows)) ≡ Some list → first_of (codes "widths") rows ≡ Some list
listed name rows list e g = let h : list_of (Some (codes "verify", rows)) ≡ Some list = subst (λ (n : Text). list_of (Some (n, rows)) ≡ Some list) e g in h

unlisted : (name other : Text) (rows : List Row) (list : List ℕ) → list_of (Some (other, rows)) ≡ None → name ≡ other → list_of (Some (name, rows)) ≡ Some list → ⊥
unlisted name other rows list is_none e g = let h : list_of (Some (other, rows)) ≡ Some list = subst (λ (n : Text). list_of (Some (n, rows)) ≡ Some list) e g in cc

good_list : (said : Option (Text × List Row)) (command : Command) (list : List ℕ) → SaysOf said command → list_of said ≡ Some list → is_width_list list ≡ false → ⊥
good_list None command list h g bad = h
good_list (Some said) (commands.Verify rules options) list h g bad =
    let e = listed said.0 said.1 list h.0 g in
    let f = h.1.width_list.1 in
    let same : h.1.width_list.0 ≡ list = cc in
    let good = h.1.width_list.2.0 in
    cc
good_list (Some said) (commands.Optimise rules source logs options) list h g bad = unlisted said.0 (codes "optimise") said.1 list refl h.0 g
good_list (Some said) (commands.Run source name arguments options) list h g bad = unlisted said.0 (codes "run") said.1 list refl h.0 g
good_list (Some said) (commands.Load number) list h g bad = unlisted said.0 (codes "load") said.1 list refl h.0 g
good_list (Some said) (commands.Recheck rules logs options) list h g bad = unlisted said.0 (codes "recheck") said.1 list refl h.0 g

no_bad_list : (words : List (List ℕ)) (task : Task) → Asks words task → IsNoCommand words → ⊥
no_bad_list words task asks (inl refuses) = let e : true ≡ false = sym asks.taken ∙ refuses in cc
no_bad_list words task asks (inr bad) = good_list (command_and_rows words) asks.command bad.0 asks.says bad.1.0 bad.1.1

-- ---- what a task has done

some_failed : (out out' err err' : SinkState) (text : List ℕ) (report : Option (List ℕ)) → WroteSome out out' err err' text report → Rose out.faults out'.faults ⊎ Rose err.faults err'.faults
some_failed out out' err err' text report (inl w) = inl w.0.0
some_failed out out' err err' text (Some report) (inr w) = inr w.1.0
some_failed out out' err err' text None (inr w) = absurd w.1

-- the output got one put, whether or not all was written
some_put : (out out' err err' : SinkState) (text : List ℕ) (report : Option (List ℕ)) → WroteSome out out' err err' text report → out'.puts ≡ option_map raised out.puts
some_put out out' err err' text report (inl w) = w.0.1.2.1
some_put out out' err err' text report (inr w) = w.0.0.1

module _ (out out' err err' : SinkState) (ended : Ended) (work : Work) (table : ended.table ≡ work.table) (proofs : ended.proofs ≡ work.proofs) (status : work.status ≡ ended.status)
    (wrote : Appends out out' work.text) (report : Reports err err' work.report) where
  all_by : (all : Bool) → ended.status ≡ cond all Done NotAll → (ended.status ≡ Done) ↔ IsTrue all
  all_by true e = (λ _. refl, λ _. e)
  all_by false e = (λ d. absurd (let f : Done ≡ NotAll = sym d ∙ e in cc), λ t. absurd cc)

  has_verified : (text : List ℕ) (options : VerifyOptions) (list : List Rule) → IsRuleText text list → (w : IsVerdictWork list options work) → HasVerified text options out out' ended
  has_verified text options list is w = record {
    rules = list;
    file = is;
    verified = w.verified;
    right = w.right;
    table = table ∙ w.table;
    wrote = subst (λ (t : List ℕ). Appends out out' t) w.text wrote;
    no_proofs = proofs ∙ w.no_proofs;
    all = all_by w.verified.all_admitted (sym status ∙ w.status);
  }

  has_proved : (text : List ℕ) (options : VerifyOptions) (list : List Rule) → IsRuleText text list → (w : IsProofWork list options work) → HasProved text options out out' ended
  has_proved text options list is w = record {
    rules = list;
    file = is;
    proved = w.proved;
    right = w.right;
    table = table ∙ w.table;
    proofs = proofs ∙ w.proofs;
    wrote = subst (λ (t : List ℕ). Appends out out' t) w.text wrote;
    all = all_by w.proved.all_admitted (sym status ∙ w.status);
  }

  has_either : (text : List ℕ) (options : VerifyOptions) (list : List Rule) → IsRuleText text list → (logs : Bool) → MatchBool logs (IsProofWork list options work) (IsVerdictWork list options work)
      → MatchBool logs (HasProved text options out out' ended) (HasVerified text options out out' ended)
  has_either text options list is true w = has_proved text options list is w
  has_either text options list is false w = has_verified text options list is w

  has_rechecked : (text logs : List ℕ) (options : RecheckOptions) (list : List Rule) → IsRuleText text list → (w : IsRecheckWork list logs options work) → HasRechecked text logs options out out' ended
  has_rechecked text logs options list is w = record {
    rules = list;
    file = is;
    rechecked = w.rechecked;
    right = w.right;
    table = table ∙ w.table;
    wrote = subst (λ (t : List ℕ). Appends out out' t) w.text wrote;
    no_proofs = proofs ∙ w.no_proofs;
    all = all_by w.rechecked.all_admitted (sym status ∙ w.status);
  }

  has_optimised : (text source : List ℕ) (options : OptimiseOptions) (list : List Rule) → IsRuleText text list → (w : IsOptimiseWork list options source work)
      → HasOptimised text source options out out' err err' ended
  has_optimised text source options list is w =
      let prints = w.prints.1 in
      let reported : Appends err err' w.report = subst (Reports err err') w.has_report report in
      record {
        rules = list;
        file = is;
        limit = w.prints.0;
        new = prints.new;
        counts = prints.counts;
        limited = prints.limited;
        optimised = subst (λ (t : List VerdictRow). IsOptimised list options source prints.new t prints.counts prints.limited) (sym table) prints.optimised;
        wrote = subst (λ (t : List ℕ). Appends out out' t) prints.out_is wrote;
        report = subst (λ (t : List ℕ). Appends err err' t) (prints.report_is ∙ ap (λ (t : List VerdictRow). optimised_report list t prints.new prints.counts prints.limited) (sym table)) reported;
        no_proofs = proofs ∙ w.no_proofs;
        status = sym status ∙ w.status;
      }

  has_done : (task : Task) (texts : List (List ℕ)) → IsWorkOf task texts work → HasDone task texts out out' err err' ended
  unfolding has_optimised
  has_done (Verify file options) (rules ∷ []) is = has_either rules options is.0 is.1 options.logs is.2
  has_done (Verify file options) [] is = absurd is
  has_done (Verify file options) (x ∷ y ∷ more) is = absurd is
  has_done (Optimise file other None options) (rules ∷ source ∷ []) is = has_optimised rules source options is.0 is.1 is.2
  has_done (Optimise file other None options) [] is = absurd is
  has_done (Optimise file other None options) (x ∷ []) is = absurd is
  has_done (Optimise file other None options) (x ∷ y ∷ z ∷ more) is = absurd is
  has_done (Optimise file other (Some logs) options) (rules ∷ source ∷ proofs ∷ []) is = record {
    optimised = has_optimised rules source options is.0 is.1 is.3;
    kept_to = subst (λ (t : List VerdictRow). AreKeptTo is.0 proofs t) (sym table) is.2;
  }
  has_done (Optimise file other (Some logs) options) [] is = absurd is
  has_done (Optimise file other (Some logs) options) (x ∷ []) is = absurd is
  has_done (Optimise file other (Some logs) options) (x ∷ y ∷ []) is = absurd is
  has_done (Optimise file other (Some logs) options) (x ∷ y ∷ z ∷ w ∷ more) is = absurd is
  has_done (Run file name arguments options) (source ∷ []) is =
      let silent : err' ≡ err = subst (Reports err err') is.report report in
      record { line = work.text; is_run = is.runs; wrote = wrote; silent = silent; no_proofs = proofs ∙ is.no_proofs; status = sym status ∙ is.status }
  has_done (Run file name arguments options) [] is = absurd is
  has_done (Run file name arguments options) (x ∷ y ∷ more) is = absurd is
  has_done (Load number) [] is =
      let silent : err' ≡ err = subst (Reports err err') is.report report in
      record {
        text = work.text;
        loaded = subst (λ (t : List VerdictRow). IsLoaded number work.text t) (sym table) is.loaded;
        wrote = wrote;
        silent = silent;
        no_proofs = proofs ∙ is.no_proofs;
        status = sym status ∙ is.status;
      }
  has_done (Load number) (x ∷ more) is = absurd is
  has_done (Recheck file other options) (rules ∷ logs ∷ []) is = has_rechecked rules logs options is.0 is.1 is.2
  has_done (Recheck file other options) [] is = absurd is
  has_done (Recheck file other options) (x ∷ []) is = absurd is
  has_done (Recheck file other options) (x ∷ y ∷ z ∷ more) is = absurd is

-- ---- the clauses

module _ (words : List (List ℕ)) (files files' : FilesState) (out out' err err' : SinkState) (ended : Ended) where
  -- before any task no work was done
  no_task : (status : Status) → EndsAtWords words out out' err err' ended status → IsNoTask status
  no_task Usage h = tt
  no_task NoMemory h = tt
  no_task status h = absurd h

  -- a call ends as its task says, or before any task
  by_task : WordsSayOneCommand → Ends words files files' out out' err err' ended → (task : Task) → Asks words task
      → EndsWith task files files' out out' err err' ended ended.status ⊎ IsNoTask ended.status
  by_task law (inl e) task asks = inr (no_task ended.status e.1)
  by_task law (inr e) task asks = inl (subst (λ (t : Task). EndsWith t files files' out out' err err' ended ended.status) (asks_one law words e.0 task e.1 asks) e.2)

  -- the work was done and written, with this status
  written_at : (task : Task) (status : Status) → EndsWith task files files' out out' err err' ended status → IsDone status
      → Worked task files files' ended (λ work. (work.status ≡ status) × WroteAll out out' err err' work.text work.report)
  written_at task Done h d = h
  written_at task NotAll h d = h
  written_at task status h d = absurd d

  done_by : (task : Task) → EndsWith task files files' out out' err err' ended ended.status ⊎ IsNoTask ended.status → IsDone ended.status
      → OfSomeTexts files task (λ texts. HasDone task texts out out' err err' ended)
  done_by task (inl h) d =
      let w = written_at task ended.status h d in
      (w.texts, taken_are_texts files (files_of task) w.texts w.taken, has_done out out' err err' ended w.work w.table w.proofs w.wrote.0 w.wrote.1.0 w.wrote.1.1 task w.texts w.is_work)
  done_by task (inr n) d = absurd (no_task_not_worked ended.status n (done_is_worked ended.status d))

  pub done : WordsSayOneCommand → Ends words files files' out out' err err' ended → (task : Task) → Asks words task → IsDone ended.status
      → OfSomeTexts files task (λ texts. HasDone task texts out out' err err' ended)
  done law e task asks d = done_by task (by_task law e task asks) d

  only_usage : Ends words files files' out out' err err' ended → ended.status ≡ Usage → IsNoCommand words
  only_usage (inl e) u = by (let h : EndsAtWords words out out' err err' ended Usage = subst (EndsAtWords words out out' err err' ended) u e.1 in h.1)
    where
      by : {text : List ℕ} → IsUsage words text → IsNoCommand words
      by (inl refuses) = inl refuses
      by (inr bad) = inr (bad.0, bad.1)
  only_usage (inr e) u = absurd (let h : EndsWith e.0 files files' out out' err err' ended Usage = subst (EndsWith e.0 files files' out out' err err' ended) u e.2 in h)

  no_command : Ends words files files' out out' err err' ended → IsNoCommand words → IsNoTask ended.status
  no_command (inl e) refuses = no_task ended.status e.1
  no_command (inr e) refuses = absurd (no_bad_list words e.0 e.1 refuses)

  pub usage : Ends words files files' out out' err err' ended → (ended.status ≡ Usage → IsNoCommand words) × (IsNoCommand words → IsNoTask ended.status)
  usage e = (only_usage e, no_command e)

  refused_at : (task : Task) (status : Status) → EndsWith task files files' out out' err err' ended status → HasBadFile files task → IsWorked status → ⊥
  refused_at task Done h bad w = bad_not_taken files task h.texts bad h.taken
  refused_at task NotAll h bad w = bad_not_taken files task h.texts bad h.taken
  refused_at task WriteFault h bad w = bad_not_taken files task h.texts bad h.taken
  refused_at task status h bad w = w

  refused_by : (task : Task) → EndsWith task files files' out out' err err' ended ended.status ⊎ IsNoTask ended.status → HasBadFile files task → IsWorked ended.status → ⊥
  refused_by task (inl h) bad w = refused_at task ended.status h bad w
  refused_by task (inr n) bad w = no_task_not_worked ended.status n w

  pub refused : WordsSayOneCommand → Ends words files files' out out' err err' ended → (task : Task) → Asks words task → HasBadFile files task → IsWorked ended.status → ⊥
  refused law e task asks bad w = refused_by task (by_task law e task asks) bad w

  only_argument : (task : Task) → EndsWith task files files' out out' err err' ended ended.status ⊎ IsNoTask ended.status → ended.status ≡ Argument → OfSomeTexts files task (NamesNoRun task)
  only_argument task (inl h) g =
      let is : EndsWith task files files' out out' err err' ended Argument = subst (EndsWith task files files' out out' err err' ended) g h in
      (is.0.texts, taken_are_texts files (files_of task) is.0.texts is.0.taken, is.0.names_none)
  only_argument task (inr n) g = absurd (let h : IsNoTask Argument = subst IsNoTask g n in h)

  no_run_worked : RunsAreNotMisnamed → (task : Task) (texts : List (List ℕ)) (work : Work) → AreTaken files (files_of task) texts → IsWorkOf task texts work
      → OfToldTexts files task (NamesNoRun task) → ⊥
  no_run_worked law task texts work taken is h =
      no_run_no_work law task texts work is ((no_run_told files task texts h.0 taken h.1).0 h.2)

  logs_no_run : (task : Task) (texts : List (List ℕ)) (fault : Fault LogFaultKind) → HasLogFault task texts fault → NamesNoRun task texts → ⊥
  logs_no_run (Run file name arguments options) texts fault h n = h
  logs_no_run (Recheck file other options) texts fault h n = n
  logs_no_run (Verify file options) texts fault h n = h
  logs_no_run (Optimise file other logs options) texts fault h n = n
  logs_no_run (Load number) texts fault h n = h

  no_run_at : TakenAreNotRefused → RunsAreNotMisnamed → (task : Task) (status : Status) → EndsWith task files files' out out' err err' ended status
      → OfToldTexts files task (NamesNoRun task) → IsNoRun status
  no_run_at torn law task Done h n = absurd (no_run_worked law task h.texts h.work h.taken h.is_work n)
  no_run_at torn law task NotAll h n = absurd (no_run_worked law task h.texts h.work h.taken h.is_work n)
  no_run_at torn law task WriteFault h n = absurd (no_run_worked law task h.texts h.work h.taken h.is_work n)
  no_run_at torn law task RuleRefused h n = absurd (good_not_refused torn files files' (files_of task) n.0 n.1 (no_run_takes task n.0 n.2) RuleRefused h.0 h.1)
  no_run_at torn law task ModuleRefused h n = absurd (good_not_refused torn files files' (files_of task) n.0 n.1 (no_run_takes task n.0 n.2) ModuleRefused h.0 h.1)
  no_run_at torn law task Usage h n = absurd h
  no_run_at torn law task Argument h n = tt
  no_run_at torn law task LogRefused h n = absurd (logs_no_run task h.1.texts h.0 h.1.has_fault ((no_run_told files task h.1.texts n.0 h.1.taken n.1).0 n.2))
  no_run_at torn law task ReadFault h n = tt
  no_run_at torn law task NoMemory h n = tt

  no_task_no_run : (status : Status) → IsNoTask status → (status ≡ Usage → ⊥) → IsNoRun status
  no_task_no_run Usage n command = absurd (command refl)
  no_task_no_run NoMemory n command = tt
  no_task_no_run status n command = absurd n

  no_run_by : TakenAreNotRefused → RunsAreNotMisnamed → (task : Task) → EndsWith task files files' out out' err err' ended ended.status ⊎ IsNoTask ended.status
      → (ended.status ≡ Usage → ⊥) → OfToldTexts files task (NamesNoRun task) → IsNoRun ended.status
  no_run_by torn law task (inl h) command n = no_run_at torn law task ended.status h n
  no_run_by torn law task (inr stopped) command n = no_task_no_run ended.status stopped command

  pub argument : TakenAreNotRefused → RunsAreNotMisnamed → WordsSayOneCommand → Ends words files files' out out' err err' ended → (task : Task) → Asks words task
      → (ended.status ≡ Argument → OfSomeTexts files task (NamesNoRun task)) × (OfToldTexts files task (NamesNoRun task) → IsNoRun ended.status)
  argument torn runs law e task asks = (
    only_argument task (by_task law e task asks),
    no_run_by torn runs task (by_task law e task asks) (λ u. no_bad_list words task asks (only_usage e u)),
  )

  only_logs : (task : Task) → EndsWith task files files' out out' err err' ended ended.status ⊎ IsNoTask ended.status → ended.status ≡ LogRefused → OfSomeTexts files task (HasBadLogs task)
  only_logs task (inl h) g =
      let is : EndsWith task files files' out out' err err' ended LogRefused = subst (EndsWith task files files' out out' err err' ended) g h in
      (is.1.texts, taken_are_texts files (files_of task) is.1.texts is.1.taken, (is.0, is.1.has_fault))
  only_logs task (inr n) g = absurd (let h : IsNoTask LogRefused = subst IsNoTask g n in h)

  bad_logs_worked : TextsHaveOneListOrFault → TextsHaveProofsOrFault → (task : Task) (texts : List (List ℕ)) (work : Work) → AreTaken files (files_of task) texts → IsWorkOf task texts work
      → OfToldTexts files task (HasBadLogs task) → ⊥
  bad_logs_worked lists law task texts work taken is h = bad_logs_no_work lists law task texts work is ((bad_logs_told files task texts h.0 taken h.1).0 h.2)

  bad_logs_at : TakenAreNotRefused → TextsHaveOneListOrFault → TextsHaveProofsOrFault → (task : Task) (status : Status) → EndsWith task files files' out out' err err' ended status
      → OfToldTexts files task (HasBadLogs task) → IsLogRefusal status
  bad_logs_at torn lists law task Done h n = absurd (bad_logs_worked lists law task h.texts h.work h.taken h.is_work n)
  bad_logs_at torn lists law task NotAll h n = absurd (bad_logs_worked lists law task h.texts h.work h.taken h.is_work n)
  bad_logs_at torn lists law task WriteFault h n = absurd (bad_logs_worked lists law task h.texts h.work h.taken h.is_work n)
  bad_logs_at torn lists law task RuleRefused h n = absurd (good_not_refused torn files files' (files_of task) n.0 n.1 (bad_logs_take task n.0 n.2) RuleRefused h.0 h.1)
  bad_logs_at torn lists law task ModuleRefused h n = absurd (good_not_refused torn files files' (files_of task) n.0 n.1 (bad_logs_take task n.0 n.2) ModuleRefused h.0 h.1)
  bad_logs_at torn lists law task Usage h n = absurd h
  bad_logs_at torn lists law task Argument h n =
      let bad = (bad_logs_told files task h.0.texts n.0 h.0.taken n.1).0 n.2 in absurd (logs_no_run task h.0.texts bad.0 bad.1 h.0.names_none)
  bad_logs_at torn lists law task LogRefused h n = tt
  bad_logs_at torn lists law task ReadFault h n = tt
  bad_logs_at torn lists law task NoMemory h n = tt

  no_task_no_logs : (status : Status) → IsNoTask status → (status ≡ Usage → ⊥) → IsLogRefusal status
  no_task_no_logs Usage n command = absurd (command refl)
  no_task_no_logs NoMemory n command = tt
  no_task_no_logs status n command = absurd n

  bad_logs_by : TakenAreNotRefused → TextsHaveOneListOrFault → TextsHaveProofsOrFault → (task : Task) → EndsWith task files files' out out' err err' ended ended.status ⊎ IsNoTask ended.status
      → (ended.status ≡ Usage → ⊥) → OfToldTexts files task (HasBadLogs task) → IsLogRefusal ended.status
  bad_logs_by torn lists law task (inl h) command n = bad_logs_at torn lists law task ended.status h n
  bad_logs_by torn lists law task (inr stopped) command n = no_task_no_logs ended.status stopped command

  pub logs : TakenAreNotRefused → TextsHaveOneListOrFault → TextsHaveProofsOrFault → WordsSayOneCommand → Ends words files files' out out' err err' ended → (task : Task) → Asks words task
      → (ended.status ≡ LogRefused → OfSomeTexts files task (HasBadLogs task)) × (OfToldTexts files task (HasBadLogs task) → IsLogRefusal ended.status)
  logs torn lists proofs law e task asks = (
    only_logs task (by_task law e task asks),
    bad_logs_by torn lists proofs task (by_task law e task asks) (λ u. no_bad_list words task asks (only_usage e u)),
  )

  pub read_fault : Ends words files files' out out' err err' ended → ended.status ≡ ReadFault → Rose files.faults files'.faults
  read_fault (inl e) r = absurd (let h : EndsAtWords words out out' err err' ended ReadFault = subst (EndsAtWords words out out' err err' ended) r e.1 in h)
  read_fault (inr e) r = let h : EndsWith e.0 files files' out out' err err' ended ReadFault = subst (EndsWith e.0 files files' out out' err err' ended) r e.2 in h.1.rose

  put_at : (task : Task) (status : Status) → EndsWith task files files' out out' err err' ended status → IsWorked status → out'.puts ≡ option_map raised out.puts
  put_at task Done h w = h.wrote.1.0.0.1
  put_at task NotAll h w = h.wrote.1.0.0.1
  put_at task WriteFault h w = some_put out out' err err' h.work.text h.work.report h.wrote
  put_at task status h w = absurd w

  pub one_put : Ends words files files' out out' err err' ended → IsWorked ended.status → out'.puts ≡ option_map raised out.puts
  one_put (inl e) w = absurd (no_task_not_worked ended.status (no_task ended.status e.1) w)
  one_put (inr e) w = put_at e.0 ended.status e.2 w

  pub write_fault : Ends words files files' out out' err err' ended → ended.status ≡ WriteFault → Rose out.faults out'.faults ⊎ Rose err.faults err'.faults
  write_fault (inl e) r = absurd (let h : EndsAtWords words out out' err err' ended WriteFault = subst (EndsAtWords words out out' err err' ended) r e.1 in h)
  write_fault (inr e) r =
      let h : EndsWith e.0 files files' out out' err err' ended WriteFault = subst (EndsWith e.0 files files' out out' err err' ended) r e.2 in
      some_failed out out' err err' h.work.text h.work.report h.wrote

  complete_at : TakenAreNotRefused → (task : Task) (status : Status) → EndsWith task files files' out out' err err' ended status
      → OfToldTexts files task (λ texts. TakesEach task texts × (NamesNoRun task texts → ⊥) × (HasBadLogs task texts → ⊥))
      → (Rose files.faults files'.faults → ⊥) → (Rose out.faults out'.faults → ⊥) → (Rose err.faults err'.faults → ⊥) → IsDoneOrNoMemory status
  complete_at torn task Done h good r w v = tt
  complete_at torn task NotAll h good r w v = tt
  complete_at torn task NoMemory h good r w v = tt
  complete_at torn task Usage h good r w v = absurd h
  complete_at torn task Argument h good r w v =
      absurd (good.2.1 ((no_run_told files task h.0.texts good.0 h.0.taken good.1).1 h.0.names_none))
  complete_at torn task LogRefused h good r w v =
      absurd (good.2.2 ((bad_logs_told files task h.1.texts good.0 h.1.taken good.1).1 (h.0, h.1.has_fault)))
  complete_at torn task WriteFault h good r w v = absurd (⊎_elim w v (some_failed out out' err err' h.work.text h.work.report h.wrote))
  complete_at torn task ReadFault h good r w v = absurd (r h.1.rose)
  complete_at torn task RuleRefused h good r w v = absurd (good_not_refused torn files files' (files_of task) good.0 good.1 good.2.0 RuleRefused h.0 h.1)
  complete_at torn task ModuleRefused h good r w v = absurd (good_not_refused torn files files' (files_of task) good.0 good.1 good.2.0 ModuleRefused h.0 h.1)

  done_at_words : (status : Status) → IsNoTask status → (status ≡ Usage → ⊥) → IsDoneOrNoMemory status
  done_at_words Usage n refuses = absurd (refuses refl)
  done_at_words NoMemory n refuses = tt
  done_at_words status n refuses = absurd n

  pub complete : TakenAreNotRefused → Ends words files files' out out' err err' ended
      → (IsNoCommand words → ⊥) → ((task : Task) → Asks words task → OfToldTexts files task (λ texts. TakesEach task texts × (NamesNoRun task texts → ⊥) × (HasBadLogs task texts → ⊥)))
      → (Rose files.faults files'.faults → ⊥) → (Rose out.faults out'.faults → ⊥) → (Rose err.faults err'.faults → ⊥) → IsDoneOrNoMemory ended.status
  complete torn (inl e) refuses good r w v = done_at_words ended.status (no_task ended.status e.1) (λ u. refuses (only_usage (inl e) u))
  complete torn (inr e) refuses good r w v = complete_at torn e.0 ended.status e.2 (good e.0 e.1) r w v
