-- The report on the entries printed so far.
use Rattle.ir_printer.proofs.Common.{◌≡◌, ℕ, ◌≤◌, Bool, List, [], ◌∷◌, length, drop, None, Some, refl, sym, ap, ◌∙◌, Bor, Option, MatchOption, option_copied, drop_all, Entry, Function, entries_report, rest_of_report}
use Rattle.ir_core.specs.declared.module.Entry.TheVariants as entries

-- without counts, or without limits, no line is written
no_counts : (es : List Entry) (limited : List Bool) → entries_report es [] limited ≡ []
no_counts [] limited = refl
no_counts (entries.Kept line ∷ es) limited = no_counts es limited
no_counts (entries.Function f ∷ es) limited = refl

no_limits : (es : List Entry) (counts : List ℕ) → entries_report es counts [] ≡ []
no_limits [] counts = refl
no_limits (entries.Kept line ∷ es) counts = no_limits es counts
no_limits (entries.Function f ∷ es) [] = refl
no_limits (entries.Function f ∷ es) (count ∷ counts) = refl

-- a function without a count has no line, and neither have those behind it
pub no_more_counts : (f : Function) (es : List Entry) (counts : List ℕ) (limited : List Bool) (place : ℕ) → length counts ≤ place
    → rest_of_report es counts limited place ≡ rest_of_report (entries.Function f ∷ es) counts limited place
no_more_counts f es counts limited place past =
    let gone = drop_all place counts past in
    ap (λ cs. entries_report es cs (drop place limited)) gone ∙ no_counts es (drop place limited)
    ∙ sym (ap (λ cs. entries_report (entries.Function f ∷ es) cs (drop place limited)) gone)

pub no_more_limits : (f : Function) (es : List Entry) (counts : List ℕ) (limited : List Bool) (place : ℕ) → length limited ≤ place
    → rest_of_report es counts limited place ≡ rest_of_report (entries.Function f ∷ es) counts limited place
no_more_limits f es counts limited place past =
    let gone = drop_all place limited past in
    ap (λ ls. entries_report es (drop place counts) ls) gone ∙ no_limits es (drop place counts)
    ∙ sym (ap (λ ls. entries_report (entries.Function f ∷ es) (drop place counts) ls) gone ∙ no_limits (entries.Function f ∷ es) (drop place counts))

-- where no item was found, there is none
pub not_found : {X : Type 0} (found : Option (Bor X)) (Past : Type 0) (Here : Bor X → Type 0) → MatchOption found Past Here → option_copied found ≡ None → Past
not_found None Past Here is none = is
not_found (Some x) Past Here is none = let bad : Some x.now ≡ None = none in absurd cc
