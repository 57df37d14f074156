-- Parts of proofs on runs: lists by index, and operations by whether they are a phi.
use Rattle.ir_meaning.proofs.Common.{◌≡◌, ℕ, zero, suc, ◌+◌, ◌<◌, ◌==◌, Bool, true, false, cond, List, [], ◌∷◌, length, map, Some, refl, sym, subst, arith, inl, inr, ◌⊎◌, Contains, slice_get, Contains-append_cases, Contains-append_left, Contains-append_right, Contains-push, Contains-push_cases, slice_get_within, get_or_from_slice_get, Number, Ending, IfPhi, branch_target, switch_target, Op, Binary, Compare, Unary, Select, Convert, Freeze, Phi, Operand}

pub not_in_empty : {A : Type 0} (x : A) → Contains [] x → ⊥
not_in_empty x has = omega arith

pub first_in : {A : Type 0} (x : A) (xs : List A) → Contains (x ∷ xs) x
first_in x xs = Contains-append_left (x ∷ []) xs x (Contains-push [] x)

pub later_in : {A : Type 0} (x : A) (xs : List A) (y : A) → Contains xs y → Contains (x ∷ xs) y
later_in x xs y has = Contains-append_right (x ∷ []) xs y has

pub cases_in : {A : Type 0} (x : A) (xs : List A) (y : A) → Contains (x ∷ xs) y → (x ≡ y) ⊎ Contains xs y
cases_in x xs y has =
    elim (Contains-append_cases (x ∷ []) xs y has) [
      | inl first ↦ elim (Contains-push_cases [] x y first) [ inl none ↦ absurd (not_in_empty y none) | inr is ↦ inl is ]
      | inr later ↦ inr later
    ]

-- there is an item at each index below the length
pub some_at : {A : Type 0} (xs : List A) (i : ℕ) → i < length xs → (x : A) × (slice_get xs i ≡ Some x)
some_at [] i h = absurd (omega arith)
some_at (x ∷ xs) zero h = (x, refl)
some_at (x ∷ xs) (suc i) h = some_at xs i (omega arith)

-- an item of a list has an index
pub place_in : {A : Type 0} (xs : List A) (x : A) → Contains xs x → (i : ℕ) × (slice_get xs i ≡ Some x)
place_in [] x has = absurd (not_in_empty x has)
place_in (y ∷ ys) x has =
    elim (cases_in y ys x has) [
      | inl is ↦ (0, subst (λ z. Some y ≡ Some z) is refl)
      | inr later ↦ (suc (place_in ys x later).0, (place_in ys x later).1)
    ]

pub contains_at : {A : Type 0} (xs : List A) (i : ℕ) (x : A) → slice_get xs i ≡ Some x → Contains xs x
contains_at xs i x is = (i, slice_get_within xs i x is, get_or_from_slice_get xs i x x is)

-- P holds of each item and its index, which is k for the first item
abbrev pub AllAt : {A : Type 0} → (ℕ → A → Type 0) → ℕ → List A → Type 0
AllAt P k [] = Unit {0}
AllAt P k (x ∷ xs) = P k x × AllAt P (suc k) xs

pub all_at : {A : Type 0} (P : ℕ → A → Type 0) (k : ℕ) (xs : List A) → ((i : ℕ) (x : A) → slice_get xs i ≡ Some x → P (k + i) x) → AllAt P k xs
all_at P k [] h = tt
all_at P k (x ∷ xs) h = (
  subst (λ n. P n x) (omega arith) (h 0 x refl),
  all_at P (suc k) xs (λ i y e. subst (λ n. P n y) (omega arith) (h (suc i) y e)),
)

pub all_from_0 : {A : Type 0} (P : ℕ → A → Type 0) (xs : List A) → ((i : ℕ) (x : A) → slice_get xs i ≡ Some x → P i x) → AllAt P 0 xs
all_from_0 P xs h = all_at P 0 xs (λ i x e. subst (λ n. P n x) (omega arith) (h i x e))

-- a fact by whether an operation is a phi, from another such fact case by case
pub if_phi_map : (op : Op) (P P' : List (Operand × ℕ) → Type 0) (Q Q' : Type 0) → ((entries : List (Operand × ℕ)) → P entries → P' entries) → (Q → Q') → IfPhi P Q op → IfPhi P' Q' op
if_phi_map (Phi entries) P P' Q Q' f g h = f entries h
if_phi_map (Binary op flags a b) P P' Q Q' f g h = g h
if_phi_map (Compare pred samesign width a b) P P' Q Q' f g h = g h
if_phi_map (Select c a b) P P' Q Q' f g h = g h
if_phi_map (Convert cast flags from a) P P' Q Q' f g h = g h
if_phi_map (Unary op truth a) P P' Q Q' f g h = g h
if_phi_map (Freeze a) P P' Q Q' f g h = g h

-- the same where an ending is to be given too
pub if_phi_ends : (op : Op) (P : List (Operand × ℕ) → Type 0) (P' : List (Operand × ℕ) → Ending → Type 0) (Q : Type 0) (Q' S : Ending → Type 0)
    → ((entries : List (Operand × ℕ)) → op ≡ Phi entries → P entries → (end : Ending) × P' entries end × S end)
    → (Q → (end : Ending) × Q' end × S end)
    → IfPhi P Q op → (end : Ending) × IfPhi (λ entries. P' entries end) (Q' end) op × S end
if_phi_ends (Phi entries) P P' Q Q' S f g h = f entries refl h
if_phi_ends (Binary op flags a b) P P' Q Q' S f g h = g h
if_phi_ends (Compare pred samesign width a b) P P' Q Q' S f g h = g h
if_phi_ends (Select c a b) P P' Q Q' S f g h = g h
if_phi_ends (Convert cast flags from a) P P' Q Q' S f g h = g h
if_phi_ends (Unary op truth a) P P' Q Q' S f g h = g h
if_phi_ends (Freeze a) P P' Q Q' S f g h = g h

-- ---- where terminators go
choose_branch : (t : Bool) (to other : ℕ) → Contains (to ∷ other ∷ []) (cond t to other)
choose_branch true to other = first_in to (other ∷ [])
choose_branch false to other = later_in to (other ∷ []) other (first_in other [])

choose_case : (t : Bool) (to : ℕ) (others : List ℕ) (other target : ℕ) → ((target ≡ other) ⊎ Contains others target) → (cond t to target ≡ other) ⊎ Contains (to ∷ others) (cond t to target)
choose_case true to others other target h = inr (first_in to others)
choose_case false to others other target h = elim h [ inl is ↦ inl is | inr has ↦ inr (later_in to others target has) ]

pub branch_among : (to other n : ℕ) → Contains (to ∷ other ∷ []) (branch_target to other n)
branch_among to other n = choose_branch (n == 1) to other

pub switch_among : (cases : List (Number × ℕ)) (other n : ℕ) → (switch_target cases other n ≡ other) ⊎ Contains (map (λ c. c.1) cases) (switch_target cases other n)
switch_among [] other n = inl refl
switch_among (c ∷ cases) other n = choose_case (c.0.number == n) c.1 (map (λ d. d.1) cases) other (switch_target cases other n) (switch_among cases other n)

pub switch_among_all : (cases : List (Number × ℕ)) (other n : ℕ) → Contains (other ∷ map (λ c. c.1) cases) (switch_target cases other n)
switch_among_all cases other n = elim (switch_among cases other n) [
  | inl is ↦ subst (Contains (other ∷ map (λ c. c.1) cases)) (sym is) (first_in other (map (λ c. c.1) cases))
  | inr has ↦ later_in other (map (λ c. c.1) cases) (switch_target cases other n) has
]
