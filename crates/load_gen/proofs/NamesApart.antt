-- The names in a generated function differ.
use Rattle.load_gen.proofs.Common.{◌≡◌, ℕ, zero, suc, Bool, true, false, not, ◌&&◌, List, [], ◌∷◌, None, Some, refl, sym, ap, subst, bytes_eq, slice_get, digits, same_Some, bytes_eq-Decides, NamesDiffer, Name, names_of, drawn_inst, drawn_insts, loop_insts, blocks, function}

-- the text is no name of these
abbrev is_absent : List ℕ → List Name → Bool
is_absent text [] = true
is_absent text (None ∷ names) = is_absent text names
is_absent text (Some name ∷ names) = not (bytes_eq text name) && is_absent text names

-- no name stands twice
abbrev are_apart : List Name → Bool
are_apart [] = true
are_apart (None ∷ names) = are_apart names
are_apart (Some name ∷ names) = is_absent name names && are_apart names

both_true : (a b : Bool) → (a && b) ≡ true → (a ≡ true) × (b ≡ true)
both_true true b h = (refl, h)
both_true false b h = absurd cc

-- what the tests say
absent : (text : List ℕ) (names : List Name) → is_absent text names ≡ true → (i : ℕ) → slice_get names i ≡ Some (Some text) → ⊥
absent text [] h i at = cc
absent text (None ∷ names) h zero at = cc
absent text (None ∷ names) h (suc i) at = absent text names h i at
absent text (Some name ∷ names) h zero at =
    let same : name ≡ text = same_Some name text (same_Some (Some name) (Some text) at) in
    let equal : bytes_eq text name ≡ true = (bytes_eq-Decides text name).1 (sym same) in
    let different = (both_true (not (bytes_eq text name)) (is_absent text names) h).0 in
    cc (ap not equal, different)
absent text (Some name ∷ names) h (suc i) at =
    absent text names (both_true (not (bytes_eq text name)) (is_absent text names) h).1 i at

apart : (names : List Name) → are_apart names ≡ true → NamesDiffer names
apart [] h i j text at there = absurd cc
apart (None ∷ names) h zero j text at there = absurd cc
apart (None ∷ names) h (suc i) zero text at there = absurd cc
apart (None ∷ names) h (suc i) (suc j) text at there = ap suc (apart names h i j text at there)
apart (Some name ∷ names) h zero zero text at there = refl
apart (Some name ∷ names) h zero (suc j) text at there =
    let same : name ≡ text = same_Some name text (same_Some (Some name) (Some text) at) in
    absurd (absent text names (subst (λ n. is_absent n names ≡ true) same (both_true (is_absent name names) _ h).0) j there)
apart (Some name ∷ names) h (suc i) zero text at there =
    let same : name ≡ text = same_Some name text (same_Some (Some name) (Some text) there) in
    absurd (absent text names (subst (λ n. is_absent n names ≡ true) same (both_true (is_absent name names) _ h).0) i at)
apart (Some name ∷ names) h (suc i) (suc j) text at there =
    ap suc (apart names (both_true (is_absent name names) (are_apart names) h).1 i j text at there)

pub names_differ : (s J : ℕ) → NamesDiffer (names_of (function s J))
unfolding function blocks loop_insts drawn_insts drawn_inst digits
names_differ s J = apart (names_of (function s J)) refl
