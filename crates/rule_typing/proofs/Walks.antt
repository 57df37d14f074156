-- What a loop over elements finds: two different classes that one of them asks to have one width, or another class of a
-- position with a name.
use Rattle.rule_typing.proofs.Common.{◌≡◌, ◌⊎◌, inl, inr, ℕ, ◌<◌, ◌≤◌, List, ◌++◌, length, get_or, Option, None, Some, sym, slice_get-get_or, get_or_from_slice_get, Contains, flat_map, Contains-append_left, Contains-append_right, Contains-append_cases, Contains-flat_map, Name, IsPairIn, Splits, FindsOther, NamingOf}
use Rattle.rule_typing.proofs.Images.{from_flat_map}
use Rattle.rule_typing.proofs.Among.{SoFar, all_of_them, stands_here}

-- the element at a place doesn't depend on the default
pub stands_still : {X : Type 0} (xs : List X) (i : ℕ) (d : X) → i < length xs → get_or xs i d ≡ get_or xs i (get_or xs i d)
stands_still xs i d within = sym (get_or_from_slice_get xs i (get_or xs i d) (get_or xs i d) (slice_get-get_or xs i d within))

-- ---- constraints

abbrev pub AreOne : (ℕ → ℕ → Type 0) → Type 0
AreOne P = (c d : ℕ) → P c d → c ≡ d

-- the constraint is one of some element's
abbrev pub SomeOf : {X : Type 0} → (X → ℕ → ℕ → Type 0) → List X → ℕ → ℕ → Type 0
SomeOf {X} P xs c d = (x : X) × Contains xs x × P x c d

pub split_here : {X : Type 0} (P : X → ℕ → ℕ → Type 0) (xs : List X) (i : ℕ) (x : X) (pair : ℕ × ℕ) → x ≡ get_or xs i x → i < length xs → Splits (P x) (Some pair) → Splits (SomeOf P xs) (Some pair)
split_here P xs i x pair is within (on, apart) = ((x, stands_here xs i x is within, on), apart)

pub none_splits : {X : Type 0} (P : X → ℕ → ℕ → Type 0) (xs : List X) (i : ℕ) → SoFar (λ x. AreOne (P x)) xs i → length xs ≤ i → Splits (SomeOf P xs) None
none_splits P xs i before past c d (x, among, on) = all_of_them (λ y. AreOne (P y)) xs i before past x among c d on

-- what is found among P's constraints, or else among Q's, is found among both
pub first_splits : (P Q : ℕ → ℕ → Type 0) (pair : ℕ × ℕ) → Splits P (Some pair) → Splits (λ c d. P c d ⊎ Q c d) (Some pair)
first_splits P Q pair (on, apart) = (inl on, apart)

pub then_splits : (P Q : ℕ → ℕ → Type 0) (answer : Option (ℕ × ℕ)) → Splits P None → Splits Q answer → Splits (λ c d. P c d ⊎ Q c d) answer
then_splits P Q None first second = λ c d on. elim on [ inl p ↦ first c d p | inr q ↦ second c d q ]
then_splits P Q (Some pair) first (on, apart) = (inr on, apart)

-- the same for equivalent constraints
pub splits_as : (P Q : ℕ → ℕ → Type 0) (answer : Option (ℕ × ℕ)) → ((c d : ℕ) → P c d → Q c d) → ((c d : ℕ) → Q c d → P c d) → Splits P answer → Splits Q answer
splits_as P Q None to from h = λ c d on. h c d (from c d on)
splits_as P Q (Some pair) to from (on, apart) = (to pair.0 pair.1 on, apart)

-- the same for two lists of pairs, one behind the other
pub then_list : (xs ys : List (ℕ × ℕ)) (answer : Option (ℕ × ℕ)) → Splits (IsPairIn xs) None → Splits (IsPairIn ys) answer → Splits (IsPairIn (xs ++ ys)) answer
then_list xs ys answer first second =
    splits_as (λ c d. IsPairIn xs c d ⊎ IsPairIn ys c d) (IsPairIn (xs ++ ys)) answer
    (λ c d one. elim one [ inl left ↦ Contains-append_left xs ys (c, d) left | inr right ↦ Contains-append_right xs ys (c, d) right ]) (λ c d among. Contains-append_cases xs ys (c, d) among)
    (then_splits (IsPairIn xs) (IsPairIn ys) answer first second)

-- ---- names

pub other_here : {X : Type 0} (P : X → ℕ → Type 0) (xs : List X) (i : ℕ) (x : X) (c d : ℕ) → x ≡ get_or xs i x → i < length xs → FindsOther (P x) c (Some d) → FindsOther (λ e. (y : X) × Contains xs y × P y e) c (Some d)
other_here P xs i x c d is within (on, apart) = ((x, stands_here xs i x is within, on), apart)

pub none_other : {X : Type 0} (P : X → ℕ → Type 0) (xs : List X) (i c : ℕ) → SoFar (λ x. (d : ℕ) → P x d → c ≡ d) xs i → length xs ≤ i → FindsOther (λ e. (y : X) × Contains xs y × P y e) c None
none_other P xs i c before past d (x, among, on) = all_of_them (λ y. (e : ℕ) → P y e → c ≡ e) xs i before past x among d on

pub first_other : (P Q : ℕ → Type 0) (c d : ℕ) → FindsOther P c (Some d) → FindsOther (λ e. P e ⊎ Q e) c (Some d)
first_other P Q c d (on, apart) = (inl on, apart)

pub then_other : (P Q : ℕ → Type 0) (c : ℕ) (answer : Option ℕ) → FindsOther P c None → FindsOther Q c answer → FindsOther (λ e. P e ⊎ Q e) c answer
then_other P Q c None first second = λ d on. elim on [ inl p ↦ first d p | inr q ↦ second d q ]
then_other P Q c (Some d) first (on, apart) = (inr on, apart)

pub finds_as : (P Q : ℕ → Type 0) (c : ℕ) (answer : Option ℕ) → ((d : ℕ) → P d → Q d) → ((d : ℕ) → Q d → P d) → FindsOther P c answer → FindsOther Q c answer
finds_as P Q c None to from h = λ d on. h d (from d on)
finds_as P Q c (Some d) to from (on, apart) = (to d on, apart)

-- names in lists that elements are mapped to
pub naming_deep : {X Y : Type 0} (f : X → List Y) (naming : Y → Option (Name × ℕ)) (xs : List X) (n : Name) (c : ℕ) → (x : X) × Contains xs x × NamingOf naming (f x) n c → NamingOf naming (flat_map f xs) n c
naming_deep f naming xs n c (x, stands, (y, here, e)) = (y, Contains-flat_map f xs x y stands here, e)

pub naming_in : {X Y : Type 0} (f : X → List Y) (naming : Y → Option (Name × ℕ)) (xs : List X) (n : Name) (c : ℕ) → NamingOf naming (flat_map f xs) n c → (x : X) × Contains xs x × NamingOf naming (f x) n c
naming_in f naming xs n c (y, among, e) = let (x, stands, here) = from_flat_map f xs y among in (x, stands, (y, here, e))
