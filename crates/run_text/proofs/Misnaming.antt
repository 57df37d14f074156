-- A run names a function of its module and arguments that fit it.
use Rattle.run_text.proofs.Common.{◌≡◌, ℕ, zero, suc, inl, inr, List, [], ◌∷◌, Option, Some, None, map, Contains, sym, subst, ap, ◌∙◌, slice_get, slice_get-get_or, Value, Module, Entry, Function, Parameter, ModuleMeetsChecks, TextsHaveOneModuleOrFault, module_meets, AreSaid, DoNotFit, IsNamed, HasNoRun, unnamed, unfit, RunsAreNotMisnamed}
use Rattle.ir_core.specs.declared.module.Entry.TheVariants as entries

-- the place of the function among the entries
place_of : (m : Module) (name : List ℕ) (f : Function) → (named : IsNamed m name f) → slice_get m.entries named.entry.0 ≡ Some (entries.Function f)
place_of m name f named = slice_get-get_or m.entries named.entry.0 (entries.Function f) named.entry.1 ∙ ap (λ (e : Entry). Some e) named.entry.2

one_function : (m : Module) (name : List ℕ) (f g : Function) → ModuleMeetsChecks m → IsNamed m name f → IsNamed m name g → f ≡ g
one_function m name f g meets is_f is_g =
    let same : is_f.entry.0 ≡ is_g.entry.0 = meets.names is_f.entry.0 is_g.entry.0 f g (place_of m name f is_f) (place_of m name g is_g) (is_f.name_is ∙ sym is_g.name_is) in
    let e : Some (entries.Function f) ≡ Some (entries.Function g) = sym (place_of m name f is_f) ∙ (ap (slice_get m.entries) same ∙ place_of m name g is_g) in
    cc

-- where each word spells a value, none spells none
none_among : (values : List Value) (k : ℕ) → slice_get (map (λ v. Some v) values) k ≡ Some None → ⊥
none_among [] k e = cc
none_among (v ∷ vs) zero e = cc
none_among (v ∷ vs) (suc k) e = none_among vs k e

said_fit : (parameters : List Parameter) (words : List (List ℕ)) (values : List Value) → AreSaid parameters words values → DoNotFit parameters words → ⊥
said_fit parameters words values said (inl differs) = differs said.count
said_fit parameters words values said (inr has) =
    let at : Contains (map (λ v. Some v) values) None = subst (λ (said : List (Option Value)). Contains said None) said.said has in
    none_among values at.0 (slice_get-get_or (map (λ v. Some v) values) at.0 None at.1 ∙ ap (λ (o : Option Value). Some o) at.2)

has_run : (m : Module) (name : List ℕ) (words : List (List ℕ)) (f : Function) (values : List Value)
    → ModuleMeetsChecks m → IsNamed m name f → AreSaid f.parameters words values → HasNoRun m name words → ⊥
has_run m name words f values meets named said (unnamed none) = none f named
has_run m name words f values meets named said (unfit g other fits_not) =
    said_fit f.parameters words values said (subst (λ (h : Function). DoNotFit h.parameters words) (one_function m name g f meets other named) fits_not)

pub not_misnamed : TextsHaveOneModuleOrFault → RunsAreNotMisnamed
not_misnamed law bytes name words blocks text run mis =
    has_run run.read name words run.f run.values (module_meets bytes run.read run.source.source) run.named run.said
    (subst (λ (m : Module). HasNoRun m name words) (law.one_module bytes mis.read run.read mis.source.source run.source.source) mis.no_run)
