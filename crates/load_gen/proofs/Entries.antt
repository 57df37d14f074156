-- The functions of a generated module.
use Rattle.load_gen.proofs.Common.{◌≡◌, ℕ, zero, suc, ◌^◌, ◌<◌, ◌≤◌, List, [], ◌∷◌, ◌++◌, length, Some, refl, sym, ap, subst, ◌∙◌, arith, inl, inr, All, codes, decimal, length-append, slice_get, cases_lt, decimal_injective, All-nil, All-push, same_Some, slice_get_within, Entry, Function, MeetsChecks, IsRead, state_before, function, functions, IsGenerated, GeneratedModulesMeetChecks, GeneratedNumbersFit, IsOfTwenty, GeneratedFunctionsAreSmall, GeneratedEntriesAreOfTwenty, GeneratedEntriesAreCounted}
use Rattle.ir_core.specs.declared.module.Entry.TheVariants as entries
use Rattle.load_gen.proofs.ListPlaces.{at_left, at_right}
use Rattle.load_gen.proofs.Formed.{number_fits, twenty, small, meets_checks}

abbrev entry : ℕ → ℕ → Entry
entry number k = entries.Function (function (state_before number k) k)

pub counted : GeneratedEntriesAreCounted
unfolding functions
counted number zero = refl
counted number (suc n) = length-append (functions number n) (entry number n ∷ []) ∙ (let so_far = counted number n in omega arith)

pub entries_of_twenty : GeneratedEntriesAreOfTwenty
unfolding functions
entries_of_twenty number zero = All-nil IsOfTwenty
entries_of_twenty number (suc n) =
    All-push IsOfTwenty (functions number n) (entry number n) (entries_of_twenty number n) (twenty (state_before number n) n)

entry_at : (number n k : ℕ) → k < n → slice_get (functions number n) k ≡ Some (entry number k)
unfolding functions
entry_at number zero k h = absurd (omega arith)
entry_at number (suc n) k h =
    let many = counted number n in
    elim (cases_lt k n) [
      | inl earlier ↦ at_left (functions number n) (entry number n ∷ []) k (omega arith) ∙ entry_at number n k earlier
      | inr not ↦
          let is : n ≡ k = omega arith in
          at_right (functions number n) (entry number n ∷ []) k 0 (omega arith) ∙ ap (λ m. Some (entry number m)) is
    ]

-- entry k is the function that is made k-th
is_function : (number count k : ℕ) (f : Function)
    → IsGenerated number count k f → (k < count) × (function (state_before number k) k ≡ f)
is_function number count k f at =
    let many = counted number count in
    let below = slice_get_within (functions number count) k (entries.Function f) at in
    let within : k < count = omega arith in
    let there = sym (entry_at number count k within) ∙ at in
    let same : entry number k ≡ entries.Function f = same_Some (entry number k) (entries.Function f) there in
    (within, cc)

functions_meet_checks : (number count k : ℕ) (f : Function) → IsGenerated number count k f → MeetsChecks f
functions_meet_checks number count k f at = subst MeetsChecks (is_function number count k f at).1 (meets_checks (state_before number k) k)

abbrev name : Function → List ℕ
name f = f.name

-- the name of a function tells its index
names_tell : (number count j k : ℕ) (f g : Function) → count < 2 ^ 32
    → IsGenerated number count j f → IsGenerated number count k g → f.name ≡ g.name → j ≡ k
unfolding function
names_tell number count j k f g few at_j at_k same =
    let p = is_function number count j f at_j in
    let q = is_function number count k g at_k in
    let names : codes "f" ++ decimal j ≡ codes "f" ++ decimal k = ap name p.1 ∙ same ∙ sym (ap name q.1) in
    let digits : decimal j ≡ decimal k = cc in
    decimal_injective j k (omega arith) (omega arith) digits

pub modules_meet_checks : GeneratedModulesMeetChecks
modules_meet_checks number count few = record {
  functions = functions_meet_checks number count;
  names = λ j k f g at_j at_k same. names_tell number count j k f g few at_j at_k same;
}

pub numbers_fit : GeneratedNumbersFit
numbers_fit number count k f at b place i r n is =
    let q = is_function number count k f at in
    number_fits (state_before number k) k b place i r n (subst (λ (x : Function). IsRead x b place i r) (sym q.1) is)

pub functions_are_small : GeneratedFunctionsAreSmall
functions_are_small number count k f at =
    subst (λ (x : Function). (length x.blocks ≡ 3) × All (λ block. length block.insts ≤ 20) x.blocks)
    (is_function number count k f at).1 (small (state_before number k) k)
