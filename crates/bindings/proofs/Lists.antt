-- Lists, their items by index, and what is or isn't there.
use Rattle.bindings.proofs.Common.{◌≡◌, ◌≢◌, inl, inr, ℕ, zero, suc, ◌<◌, ◌≤◌, List, [], ◌∷◌, ◌++◌, length, map, take, get_or, slice_set, Option, None, Some, refl, sym, ap, ◌∙◌, arith, get_or-set_other, get_or-set_same, ◌↔◌, ◌+◌, ◌-◌, false, IsTrue, subst, slice_get, Contains, flat_map, IfNone, length-set, map-append, take_more, slice_get-get_or, slice_get_past, slice_get_within, get_or_from_slice_get, same_Some, Contains-append_cases}

-- an item has an index
pub place_of : {X : Type 0} (xs : List X) (x : X) → Contains xs x → (k : ℕ) × (slice_get xs k ≡ Some x)
place_of xs x (k, within, is) = (k, slice_get-get_or xs k x within ∙ ap (λ y. Some y) is)

-- an item that is written is at its index
pub set_here : {X : Type 0} (xs : List X) (i : ℕ) (x : X) → i < length xs → slice_get (slice_set xs i x) i ≡ Some x
set_here xs i x within =
    slice_get-get_or (slice_set xs i x) i x (omega (arith, length-set xs i x)) ∙ ap (λ y. Some y) (get_or-set_same xs i x x within)

-- and all others are where they were
pub set_elsewhere : {X : Type 0} (xs : List X) (i k : ℕ) (x y : X) → k ≢ i → slice_get xs k ≡ Some y → slice_get (slice_set xs i x) k ≡ Some y
set_elsewhere xs i k x y other at =
    let within : k < length xs = slice_get_within xs k y at in
    slice_get-get_or (slice_set xs i x) k y (omega (arith, length-set xs i x)) ∙ ap (λ z. Some z) (get_or-set_other xs i k x y other ∙ get_or_from_slice_get xs k y y at)

-- an item of a flattened list is one of the list of some item
pub from_flat_map : {X Y : Type 0} (f : X → List Y) (xs : List X) (y : Y) → Contains (flat_map f xs) y → (j : ℕ) × (x : X) × (slice_get xs j ≡ Some x) × Contains (f x) y
from_flat_map f [] y (k, lt, e) = absurd (omega arith)
from_flat_map f (a ∷ xs) y among =
    elim (Contains-append_cases (f a) (flat_map f xs) y among) [
      | inl here ↦ (0, a, refl, here)
      | inr there ↦ let rest = from_flat_map f xs y there in (suc rest.0, rest.1, rest.2, rest.3)
    ]

-- two lists with the same items at each index are equal
pub same_list : {X : Type 0} (xs ys : List X) → length xs ≡ length ys → ((k : ℕ) → k < length xs → slice_get xs k ≡ slice_get ys k) → xs ≡ ys
same_list [] [] same at = refl
same_list [] (y ∷ ys) same at = absurd (omega arith)
same_list (x ∷ xs) [] same at = absurd (omega arith)
same_list (x ∷ xs) (y ∷ ys) same at =
    let first : x ≡ y = same_Some x y (at 0 (omega arith)) in
    let rest : xs ≡ ys = same_list xs ys (omega arith) (λ k lt. at (suc k) (omega arith)) in
    cc

-- slots that are filled with the elements of a list
pub all_filled : {X : Type 0} (slots : List (Option X)) (xs : List X) → length slots ≡ length xs → ((k : ℕ) → k < length slots → slice_get slots k ≡ Some (slice_get xs k)) → slots ≡ map Some xs
all_filled [] [] same at = refl
all_filled [] (x ∷ xs) same at = absurd (omega arith)
all_filled (o ∷ slots) [] same at = absurd (omega arith)
all_filled (o ∷ slots) (x ∷ xs) same at =
    let first : o ≡ Some x = same_Some o (Some x) (at 0 (omega arith)) in
    let rest : slots ≡ map Some xs = all_filled slots xs (omega arith) (λ k lt. at (suc k) (omega arith)) in
    cc

-- equal lists of filled slots have equal values
pub map_Some_same : {X : Type 0} (xs ys : List X) → map Some xs ≡ map Some ys → xs ≡ ys
map_Some_same [] [] e = refl
map_Some_same [] (y ∷ ys) e = cc
map_Some_same (x ∷ xs) [] e = cc
map_Some_same (x ∷ xs) (y ∷ ys) e =
    let first : Some x ≡ Some y = cc in
    let rest : map Some xs ≡ map Some ys = cc in
    let same : x ≡ y = same_Some x y first in
    let others : xs ≡ ys = map_Some_same xs ys rest in
    cc

filled_at : {X : Type 0} (xs : List X) (i : ℕ) → slice_get (map Some xs) i ≡ Some None → ⊥
filled_at [] i at = absurd cc
filled_at (x ∷ xs) zero at = absurd cc
filled_at (x ∷ xs) (suc i) at = filled_at xs i at

-- where all slots are filled, none is empty
pub no_gap : {X : Type 0} (slots : List (Option X)) (xs : List X) (i : ℕ) (o : Option X) → slots ≡ map Some xs → i < length slots → o ≡ get_or slots i o → o ≡ None → ⊥
no_gap {X} slots xs i o is within here none =
    let at : slice_get slots i ≡ Some None = slice_get-get_or slots i o within ∙ ap (λ (p : Option X). Some p) (sym here ∙ none) in
    filled_at xs i (ap (λ (l : List (Option X)). slice_get l i) (sym is) ∙ at)

pub take_all : {X : Type 0} (xs : List X) (n : ℕ) → length xs ≤ n → take n xs ≡ xs
take_all [] zero past = refl
take_all [] (suc n) past = refl
take_all (x ∷ xs) zero past = absurd (omega arith)
take_all (x ∷ xs) (suc n) past = ap (λ l. x ∷ l) (take_all xs n (omega arith))

-- the values of the slots so far, and the next one's
pub one_more_value : {X : Type 0} (slots : List (Option X)) (n : ℕ) (values more : List X) (o : Option X) (x : X) → map Some values ≡ take n slots → n < length slots → o ≡ get_or slots n o → o ≡ Some x → more ≡ values ++ x ∷ [] → map Some more ≡ take (n + 1) slots
one_more_value {X} slots n values more o x so_far within here filled pushed =
    ap (λ (l : List X). map Some l) pushed ∙ map-append Some values (x ∷ []) ∙ ap (λ (l : List (Option X)). l ++ Some x ∷ []) so_far
    ∙ ap (λ (p : Option X). take n slots ++ p ∷ []) (sym filled ∙ here) ∙ sym (take_more slots n o within)

-- the item that a borrow refers to
pub lent : {X : Type 0} (xs ys : List X) (i : ℕ) (x : X) → xs ≡ ys → i < length xs → ((d : X) → x ≡ get_or xs i d) → slice_get ys i ≡ Some x
lent {X} xs ys i x same within is =
    ap (λ (l : List X). slice_get l i) (sym same) ∙ slice_get-get_or xs i x within ∙ ap (λ (y : X). Some y) (sym (is x))

pub not_lent_past : {X : Type 0} (xs ys : List X) (i : ℕ) → xs ≡ ys → length xs ≤ i → slice_get ys i ≡ None
not_lent_past {X} xs ys i same past = ap (λ (l : List X). slice_get l i) (sym same) ∙ slice_get_past xs i past

-- the last element
pub last_of : {X : Type 0} (xs ys : List X) (x : X) → xs ≡ ys → 0 < length ys → x ≡ get_or xs (length xs - 1) x → slice_get ys (length ys - 1) ≡ Some x
last_of {X} xs ys x same some is =
    let within : length xs - 1 < length xs = omega (arith, ap length same) in
    subst (λ (l : List X). slice_get l (length l - 1) ≡ Some x) same (slice_get-get_or xs (length xs - 1) x within ∙ ap (λ (y : X). Some y) (sym is))

-- what holds anyway holds where there is nothing
pub if_none : {X : Type 0} (r : Option X) (P : Type 0) → P → IfNone r P
if_none None P holds = holds
if_none (Some x) P holds = tt

-- what never holds is decided by false
pub never_met : {P : Type 0} → (P → ⊥) → IsTrue false ↔ P
never_met none = (λ h. absurd cc, λ p. absurd (none p))
