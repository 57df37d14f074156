-- How a call ends, from the work and the writing of it.
use Rattle.alive_top.proofs.Common.{◌≡◌, ℕ, ◌⊎◌, Bool, true, false, List, [], ◌∷◌, None, Some, length, refl, sym, subst, inl, inr, arith, cond, MatchBool, take_all, Rule, VerifyOptions, FilesState, SinkState, HasBadList, refusal_of_list, are_taken, Hindrance, Module, Read, Memory, Ended, Status, Done, NotAll, Usage, NoMemory, RefusedFor, IsDoneFor, TextIsRefused, LogsAreRefused, MemoryIsRefused, Worked, Refused, EndsWith, EndsAtWords, Ends, IsUsage, File, files_of, memory_line, RefusedAs, WrittenAs, IsWorked, Task, Verify, Optimise, Run, Load, Recheck, AreTaken, Work, IsProofWork, IsVerdictWork, IsVerifyWork, IsWorkOf, Fault, LogFaultKind, Took}
use Rattle.alive_top.specs.declared.hindrance.Hindrance.TheVariants.{Rules, Argument, Logs}

-- ---- how a command ends

one_of_two : (work : Work) (all : Bool) → work.status ≡ (cond all Done NotAll) → (work.status ≡ Done) ⊎ (work.status ≡ NotAll)
one_of_two work true e = inl e
one_of_two work false e = inr e

verify_status : (list : List Rule) (options : VerifyOptions) (work : Work) → IsVerifyWork list options work → (work.status ≡ Done) ⊎ (work.status ≡ NotAll)
verify_status list options work is = by options.logs is
  where
    by : (logs : Bool) → MatchBool logs (IsProofWork list options work) (IsVerdictWork list options work) → (work.status ≡ Done) ⊎ (work.status ≡ NotAll)
    by true w = one_of_two work w.proved.all_admitted w.status
    by false w = one_of_two work w.verified.all_admitted w.status

-- the status of a work is 0 or 1
done_or_not_all : (task : Task) (texts : List (List ℕ)) (work : Work) → IsWorkOf task texts work → (work.status ≡ Done) ⊎ (work.status ≡ NotAll)
done_or_not_all (Verify file options) (rules ∷ []) work is = verify_status is.0 options work is.2
done_or_not_all (Verify file options) [] work is = absurd is
done_or_not_all (Verify file options) (x ∷ y ∷ more) work is = absurd is
done_or_not_all (Optimise file other None options) (rules ∷ source ∷ []) work is = inl is.2.status
done_or_not_all (Optimise file other None options) [] work is = absurd is
done_or_not_all (Optimise file other None options) (x ∷ []) work is = absurd is
done_or_not_all (Optimise file other None options) (x ∷ y ∷ z ∷ more) work is = absurd is
done_or_not_all (Optimise file other (Some logs) options) (rules ∷ source ∷ proofs ∷ []) work is = inl is.3.status
done_or_not_all (Optimise file other (Some logs) options) [] work is = absurd is
done_or_not_all (Optimise file other (Some logs) options) (x ∷ []) work is = absurd is
done_or_not_all (Optimise file other (Some logs) options) (x ∷ y ∷ []) work is = absurd is
done_or_not_all (Optimise file other (Some logs) options) (x ∷ y ∷ z ∷ w ∷ more) work is = absurd is
done_or_not_all (Run file name arguments options) (source ∷ []) work is = inl is.status
done_or_not_all (Run file name arguments options) [] work is = absurd is
done_or_not_all (Run file name arguments options) (x ∷ y ∷ more) work is = absurd is
done_or_not_all (Load number) [] work is = inl is.status
done_or_not_all (Load number) (x ∷ more) work is = absurd is
done_or_not_all (Recheck file other options) (rules ∷ proofs ∷ []) work is = one_of_two work is.2.rechecked.all_admitted is.2.status
done_or_not_all (Recheck file other options) [] work is = absurd is
done_or_not_all (Recheck file other options) (x ∷ []) work is = absurd is
done_or_not_all (Recheck file other options) (x ∷ y ∷ z ∷ more) work is = absurd is

-- memory was refused for the line on a file that was asked for last
memory_for_line : (old new : FilesState) (files : List File) {status : Status} {line : List ℕ} → TextIsRefused old new files status line → MemoryIsRefused old new files
memory_for_line old new files r = record { count = r.comes.place; texts = r.comes.texts; before = r.comes.before; asks = inr r.comes.asks }

-- memory was refused for the line on proofs, after all files
memory_for_logs : (old new : FilesState) (task : Task) (fault : Fault LogFaultKind) → LogsAreRefused old new task fault → MemoryIsRefused old new (files_of task)
memory_for_logs old new task fault r =
    let all = files_of task in
    record {
      count = length all;
      texts = r.texts;
      before = subst (λ (fs : List File). AreTaken old fs r.texts) (sym (take_all (length all) all (omega arith))) r.taken;
      asks = inl r.asks;
    }

module _ (task : Task) (files files' : FilesState) (out out' err err' : SinkState) (ended : Ended) where
  refused_with : (line : List ℕ) → out' ≡ out → (ended.table ≡ []) × (ended.proofs ≡ []) → Took err err' line → Refused out out' err err' ended line
  refused_with line stays none took = record { out_stays = stays; takes_line = took; no_verdicts = none.0; no_proofs = none.1 }

  pub refused_ends : (refusal : Hindrance) (status : Status)
      → RefusedFor files files' task refusal → out' ≡ out → (ended.table ≡ []) × (ended.proofs ≡ []) → RefusedAs refusal err err' status → EndsWith task files files' out out' err err' ended status
  refused_ends (Rules fault) status r stays none (inl s) = subst (EndsWith task files files' out out' err err' ended) (sym s.0) (_, r, refused_with _ stays none s.1)
  refused_ends (Rules fault) status r stays none (inr s) =
      subst (EndsWith task files files' out out' err err' ended) (sym s.0) (memory_for_line files files' (files_of task) r, refused_with _ stays none s.1)
  refused_ends (Module fault) status r stays none (inl s) = subst (EndsWith task files files' out out' err err' ended) (sym s.0) (_, r, refused_with _ stays none s.1)
  refused_ends (Module fault) status r stays none (inr s) =
      subst (EndsWith task files files' out out' err err' ended) (sym s.0) (memory_for_line files files' (files_of task) r, refused_with _ stays none s.1)
  refused_ends Argument status r stays none s = subst (EndsWith task files files' out out' err err' ended) (sym s.0) (r, refused_with _ stays none s.1)
  refused_ends (Logs fault) status r stays none (inl s) = subst (EndsWith task files files' out out' err err' ended) (sym s.0) (fault, r, refused_with _ stays none s.1)
  refused_ends (Logs fault) status r stays none (inr s) =
      subst (EndsWith task files files' out out' err err' ended) (sym s.0) (memory_for_logs files files' task fault r, refused_with _ stays none s.1)
  refused_ends (Read name) status r stays none (inl s) = subst (EndsWith task files files' out out' err err' ended) (sym s.0) (name.now, r, refused_with _ stays none s.1)
  refused_ends (Read name) status r stays none (inr s) =
      subst (EndsWith task files files' out out' err err' ended) (sym s.0)
      (record { count = r.comes.place; texts = r.comes.texts; before = r.comes.before; asks = inr r.comes.asks }, refused_with _ stays none s.1)
  refused_ends Memory status r stays none s = subst (EndsWith task files files' out out' err err' ended) (sym s.0) (r, refused_with _ stays none s.1)

  worked_with : (work : Work) (Wrote : Work → Type 0) → IsDoneFor files files' task work → (ended.table ≡ work.table) × (ended.proofs ≡ work.proofs) → Wrote work → Worked task files files' ended Wrote
  worked_with work Wrote is table wrote = record { asks = is.asks; texts = is.texts; taken = is.taken; work = work; is_work = is.is_work; table = table.0; proofs = table.1; wrote = wrote }

  pub written_ends : (work : Work) (status : Status)
      → IsDoneFor files files' task work → (ended.table ≡ work.table) × (ended.proofs ≡ work.proofs) → WrittenAs work out out' err err' status → EndsWith task files files' out out' err err' ended status
  written_ends work status is table (inr w) = subst (EndsWith task files files' out out' err err' ended) (sym w.0) (worked_with work _ is table w.1)
  written_ends work status is table (inl w) = by (done_or_not_all task is.texts work is.is_work)
    where
      by : (work.status ≡ Done) ⊎ (work.status ≡ NotAll) → EndsWith task files files' out out' err err' ended status
      by (inl e) = subst (EndsWith task files files' out out' err err' ended) (let f : Done ≡ status = cc in f) (worked_with work _ is table (e, w.1))
      by (inr e) = subst (EndsWith task files files' out out' err err' ended) (let f : NotAll ≡ status = cc in f) (worked_with work _ is table (e, w.1))

  -- where a work was done, its status says so
  pub written_worked : (work : Work) (status : Status) → IsDoneFor files files' task work → WrittenAs work out out' err err' status → IsWorked status
  written_worked work status is (inr w) = subst IsWorked (sym w.0) tt
  written_worked work status is (inl w) = by (done_or_not_all task is.texts work is.is_work)
    where
      by : (work.status ≡ Done) ⊎ (work.status ≡ NotAll) → IsWorked status
      by (inl e) = subst IsWorked (let f : Done ≡ status = cc in f) tt
      by (inr e) = subst IsWorked (let f : NotAll ≡ status = cc in f) tt

-- ---- how a call ends before any task

usage_text : (words : List (List ℕ)) (text : List ℕ) → (are_taken words ≡ false) ⊎ ((list : List ℕ) × HasBadList words list)
    → ((list : List ℕ) → are_taken words ≡ true → HasBadList words list → text ≡ refusal_of_list list) → IsUsage words text
usage_text words text (inl refuses) h = inl refuses
usage_text words text (inr bad) h = by (are_taken words) refl
  where
    by : (b : Bool) → are_taken words ≡ b → IsUsage words text
    by true e = inr (bad.0, bad.1, h bad.0 e bad.1)
    by false e = inl e

pub usage_ends : (words : List (List ℕ)) (files : FilesState) (out err err' : SinkState) (ended : Ended) (text : List ℕ)
    → (are_taken words ≡ false) ⊎ ((list : List ℕ) × HasBadList words list)
    → ((list : List ℕ) → are_taken words ≡ true → HasBadList words list → text ≡ refusal_of_list list)
    → Took err err' text → ended.status ≡ Usage → (ended.table ≡ []) × (ended.proofs ≡ []) → Ends words files files out out err err' ended
usage_ends words files out err err' ended text refuses names took status none =
    inl (refl, subst (EndsAtWords words out out err err' ended) (sym status) (text, usage_text words text refuses names, record { out_stays = refl; takes_line = took; no_verdicts = none.0; no_proofs = none.1 }))

pub memory_ends : (words : List (List ℕ)) (files : FilesState) (out err err' : SinkState) (ended : Ended)
    → Took err err' memory_line → ended.status ≡ NoMemory → (ended.table ≡ []) × (ended.proofs ≡ []) → Ends words files files out out err err' ended
memory_ends words files out err err' ended took status none =
    inl (refl, subst (EndsAtWords words out out err err' ended) (sym status) (record { out_stays = refl; takes_line = took; no_verdicts = none.0; no_proofs = none.1 }))
