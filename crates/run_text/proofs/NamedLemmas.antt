-- The linear search for the function of a name.
use Rattle.run_text.proofs.Common.{◌≡◌, ℕ, ◌+◌, ◌<◌, ◌≤◌, Bool, false, List, Some, length, get_or, ap, sym, ◌∙◌, arith, below_more, slice_get, bytes_eq, both_ways, bytes_eq-Decides, slice_get-get_or, get_or_from_slice_get, Module, Entry, Function, IsNamed}
use Rattle.ir_core.specs.declared.module.Entry.TheVariants as entries

-- none of the first n entries is a function of the name
abbrev pub NoneBefore : List Entry → List ℕ → ℕ → Type 0
NoneBefore es name n = (k : ℕ) → k < n → (f : Function) → slice_get es k ≡ Some (entries.Function f) → f.name ≡ name → ⊥

-- the entry at a place is no function of the name
abbrev pub HasOtherName : Entry → List ℕ → Type 0
HasOtherName e name = (f : Function) → e ≡ entries.Function f → f.name ≡ name → ⊥

module _ (es : List Entry) (name : List ℕ) (n : ℕ) (e d : Entry) where
  pub none_more : n < length es → e ≡ get_or es n d → NoneBefore es name n → HasOtherName e name → NoneBefore es name (n + 1)
  none_more lt is before other = below_more (λ k. (f : Function) → slice_get es k ≡ Some (entries.Function f) → f.name ≡ name → ⊥) n before
      (λ f at. other f (is ∙ get_or_from_slice_get es n (entries.Function f) d at))

pub kept : (e : Entry) (line name : List ℕ) → e ≡ entries.Kept line → HasOtherName e name
kept e line name is f is_f same = let bad : entries.Kept line ≡ entries.Function f = sym is ∙ is_f in cc

-- a function whose name is not the one that was looked for
pub other_name : (e : Entry) (g : Function) (seen name : List ℕ) (eq : Bool) → e ≡ entries.Function g → seen ≡ g.name → eq ≡ bytes_eq seen name → eq ≡ false → HasOtherName e name
other_name e g seen name eq is seen_is eq_is differs f is_f same =
    let one : entries.Function g ≡ entries.Function f = sym is ∙ is_f in
    let equal : g ≡ f = cc in
    both_ways eq differs (eq_is ∙ (bytes_eq-Decides seen name).1 (seen_is ∙ ap (λ (h : Function). h.name) equal ∙ same))

pub none_named : (m : Module) (name : List ℕ) (n : ℕ) → length m.entries ≤ n → NoneBefore m.entries name n → (f : Function) → IsNamed m name f → ⊥
none_named m name n past before f is =
    let lt = is.entry.1 in
    before is.entry.0 (omega arith) f (slice_get-get_or m.entries is.entry.0 (entries.Function f) is.entry.1 ∙ ap (λ (e : Entry). Some e) is.entry.2) is.name_is
