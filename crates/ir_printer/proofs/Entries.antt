-- The text of entries, as far as they are printed.
use Rattle.ir_printer.proofs.Common.{◌≡◌, ℕ, zero, suc, ◌+◌, ◌<◌, List, [], ◌∷◌, ◌++◌, length, take, get_or, Some, sym, ap, subst, ◌∙◌, append_assoc, add-one, slice_get, All, slice_get-get_or, slice_get_within, get_or_from_slice_get, Module, Entry, Function, HasFewThings, between_text, entry_text, entries_text, EntryHasFewNames, gap_before}
use Rattle.ir_core.specs.declared.module.Entry.TheVariants as entries

-- one more entry, with what is printed before it
push : (es : List Entry) (i : ℕ) (x : Entry) → slice_get es i ≡ Some x → entries_text (take (suc i) es) ≡ entries_text (take i es) ++ (gap_before es i ++ entry_text x)
push [] i x at = cc
push (e ∷ es) zero x at = let same : e ≡ x = cc in ap entry_text same
push (e ∷ []) (suc i) x at = cc
push (e ∷ d ∷ es) (suc zero) x at =
    let same : d ≡ x = cc in
    append_assoc (entry_text e) (between_text e d) (entry_text d) ∙ ap (λ y. entry_text e ++ (between_text e d ++ entry_text y)) same
push (e ∷ d ∷ es) (suc (suc i)) x at =
    ap (λ (l : List ℕ). (entry_text e ++ between_text e d) ++ l) (push (d ∷ es) (suc i) x at)
    ∙ sym (append_assoc (entry_text e ++ between_text e d) (entries_text (take (suc i) (d ∷ es))) (gap_before (d ∷ es) (suc i) ++ entry_text x))

pub entries_more : (before between after : List ℕ) (es : List Entry) (i : ℕ) (x : Entry) → i < length es → x ≡ get_or es i x → before ≡ entries_text (take i es) → between ≡ before ++ gap_before es i → after ≡ between ++ entry_text x
    → after ≡ entries_text (take (i + 1) es)
entries_more before between after es i x within is so_far gap more =
    let at : slice_get es i ≡ Some x = slice_get-get_or es i x within ∙ ap Some (sym is) in
    rw (more, gap, so_far, add-one i) (append_assoc (entries_text (take i es)) (gap_before es i) (entry_text x) ∙ sym (push es i x at))

-- where each entry has few names, each function of the module has
pub few_things : (m : Module) → All EntryHasFewNames m.entries → HasFewThings m
few_things m all k f at =
    let e : Entry = entries.Function f in
    subst EntryHasFewNames (get_or_from_slice_get m.entries k e e at) (all k e (slice_get_within m.entries k e at))
