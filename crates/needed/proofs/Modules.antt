-- The laws of dead code elimination for modules.
use Rattle.needed.proofs.Common.{◌≡◌, ℕ, zero, suc, List, [], ◌∷◌, Some, refl, sym, ap, subst, ◌∙◌, slice_get, same_Some, Entry, Function, MeetsChecks, EntryRefines, EntriesRefine, IsCleaned, EntryCleaned, EntriesCleaned, CleanedModulesRefine, CleanedModulesMeetChecks}
use Rattle.ir_core.specs.declared.module.Entry.TheVariants as entries
use Rattle.needed.proofs.Matching.{cleaned_refines}
use Rattle.needed.proofs.Checking.{cleaned_meets}

-- each function of the entries meets its checks
abbrev AllMeet : List Entry → Type 0
AllMeet es = (k : ℕ) (f : Function) → slice_get es k ≡ Some (entries.Function f) → MeetsChecks f

entry_refines : (d e : Entry) → ((f : Function) → d ≡ entries.Function f → MeetsChecks f) → EntryCleaned d e → EntryRefines d e
entry_refines (entries.Kept old) (entries.Kept new) h c = c
entry_refines (entries.Function old) (entries.Function new) h c = cleaned_refines old new (h old refl) c
entry_refines (entries.Kept old) (entries.Function new) h c = c
entry_refines (entries.Function old) (entries.Kept new) h c = c

entries_refine : (ds es : List Entry) → AllMeet ds → EntriesCleaned ds es → EntriesRefine ds es
entries_refine [] [] h c = c
entries_refine [] (e ∷ es) h c = c
entries_refine (d ∷ ds) [] h c = c
entries_refine (d ∷ ds) (e ∷ es) h c = (entry_refines d e (λ f is. h 0 f (ap (λ (x : Entry). Some x) is)) c.0, entries_refine ds es (λ k. h (suc k)) c.1)

pub modules_refine : CleanedModulesRefine
modules_refine m n meets cleaned = entries_refine m.entries n.entries meets.functions cleaned

-- a function among the new entries is an old one, cleaned
function_back : (d : Entry) (g : Function) → EntryCleaned d (entries.Function g) → (f : Function) × (d ≡ entries.Function f) × IsCleaned f g
function_back (entries.Kept old) g c = absurd c
function_back (entries.Function old) g c = (old, refl, c)

entry_back : (ds es : List Entry) → EntriesCleaned ds es → (k : ℕ) (g : Function) → slice_get es k ≡ Some (entries.Function g) → (f : Function) × (slice_get ds k ≡ Some (entries.Function f)) × IsCleaned f g
entry_back [] [] c k g h = absurd cc
entry_back [] (e ∷ es) c k g h = absurd c
entry_back (d ∷ ds) [] c k g h = absurd c
entry_back (d ∷ ds) (e ∷ es) c zero g h =
    let was : (f : Function) × (d ≡ entries.Function f) × IsCleaned f g = function_back d g (subst (EntryCleaned d) (same_Some e (entries.Function g) h) c.0) in
    (was.0, ap (λ (x : Entry). Some x) was.1, was.2)
entry_back (d ∷ ds) (e ∷ es) c (suc k) g h = entry_back ds es c.1 k g h

-- cleaning leaves a function's name as it was
name_stays : (f g : Function) → IsCleaned f g → g.name ≡ f.name
name_stays f g c = ap (λ (x : Function). x.name) c.2

pub modules_meet : CleanedModulesMeetChecks
modules_meet m n meets cleaned = record {
  functions = λ k g h.
      let was : (f : Function) × (slice_get m.entries k ≡ Some (entries.Function f)) × IsCleaned f g = entry_back m.entries n.entries cleaned k g h in
      cleaned_meets was.0 g (meets.functions k was.0 was.1) was.2;
  names = λ j k f g at_j at_k same.
      let p : (x : Function) × (slice_get m.entries j ≡ Some (entries.Function x)) × IsCleaned x f = entry_back m.entries n.entries cleaned j f at_j in
      let q : (x : Function) × (slice_get m.entries k ≡ Some (entries.Function x)) × IsCleaned x g = entry_back m.entries n.entries cleaned k g at_k in
      meets.names j k p.0 q.0 p.1 q.1 (sym (name_stays p.0 f p.2) ∙ same ∙ name_stays q.0 g q.2);
}
