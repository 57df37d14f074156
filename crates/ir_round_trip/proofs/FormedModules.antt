-- A cleaned module has its forms.
use Rattle.ir_round_trip.proofs.Common.{zero, suc, List, [], ◌∷◌, sym, subst, arith, All, Entry, EntryHasForms, IsKeptText, EntryCleaned, EntriesCleaned, CleanedModulesHaveForms}
use Rattle.ir_core.specs.declared.module.Entry.TheVariants as entries
use Rattle.ir_round_trip.proofs.FormedFunctions.{cleaned_have_forms}

entry_forms : (d e : Entry) → EntryHasForms d → EntryCleaned d e → EntryHasForms e
entry_forms (entries.Kept old) (entries.Kept new) forms same = subst IsKeptText (sym same) forms
entry_forms (entries.Function old) (entries.Function new) forms cleaned = cleaned_have_forms old new forms cleaned
entry_forms (entries.Kept old) (entries.Function new) forms cleaned = absurd cleaned
entry_forms (entries.Function old) (entries.Kept new) forms cleaned = absurd cleaned

entries_forms : (ds es : List Entry) → All EntryHasForms ds → EntriesCleaned ds es → All EntryHasForms es
entries_forms [] [] forms cleaned k x within = forms k x within
entries_forms [] (e ∷ es) forms cleaned k x within = absurd cleaned
entries_forms (d ∷ ds) [] forms cleaned k x within = absurd cleaned
entries_forms (d ∷ ds) (e ∷ es) forms cleaned zero x within = entry_forms d e (forms 0 d (omega arith)) cleaned.0
entries_forms (d ∷ ds) (e ∷ es) forms cleaned (suc k) x within = entries_forms ds es (λ j y lt. forms (suc j) y (omega arith)) cleaned.1 k x (omega arith)

pub cleaned_modules : CleanedModulesHaveForms
cleaned_modules m n forms cleaned = entries_forms m.entries n.entries forms cleaned
