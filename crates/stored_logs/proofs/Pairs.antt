-- What holds of the elements of two lists pair by pair.
use Rattle.stored_logs.proofs.Common.{◌≡◌, ℕ, List, [], ◌∷◌, ◌++◌, flat_map, All, refl, ap, ap₂, AllZip, zip, All-nil, All-cons, All-head, All-tail}

-- what holds of each element of two lists, one behind the other, holds of each of either
pub parts : {X : Type 0} (P : X → Type 0) (xs ys : List X) → All P (xs ++ ys) → All P xs × All P ys
parts P [] ys all = (All-nil P, all)
parts P (x ∷ xs) ys all =
    let rest = parts P xs ys (All-tail P x (xs ++ ys) all) in (All-cons P x xs (All-head P x (xs ++ ys) all) rest.0, rest.1)

pub one : {X : Type 0} (P : X → Type 0) (x : X) → P x → All P (x ∷ [])
one P x here = All-cons P x [] here (All-nil P)

pub pairs_weaker : {A B : Type 0} (R S : A → B → Type 0) → ((a : A) (b : B) → R a b → S a b)
    → (xs : List A) (ys : List B) → AllZip R xs ys → AllZip S xs ys
pairs_weaker R S so [] [] h = tt
pairs_weaker R S so [] (y ∷ ys) h = absurd h
pairs_weaker R S so (x ∷ xs) [] h = absurd h
pairs_weaker R S so (x ∷ xs) (y ∷ ys) h = (so x y h.0, pairs_weaker R S so xs ys h.1)

-- pairs behind other pairs
pub pairs_append : {A B : Type 0} (R : A → B → Type 0) (xs : List A) (ys : List B) (more : List A) (others : List B)
    → AllZip R xs ys → AllZip R more others → AllZip R (xs ++ more) (ys ++ others)
pairs_append R [] [] more others h behind = behind
pairs_append R [] (y ∷ ys) more others h behind = absurd h
pairs_append R (x ∷ xs) [] more others h behind = absurd h
pairs_append R (x ∷ xs) (y ∷ ys) more others h behind = (h.0, pairs_append R xs ys more others h.1 behind)

pub zip_append : {A B : Type 0} (R : A → B → Type 0) (xs : List A) (ys : List B) (more : List A) (others : List B)
    → AllZip R xs ys → zip (xs ++ more) (ys ++ others) ≡ zip xs ys ++ zip more others
zip_append R [] [] more others h = refl
zip_append R [] (y ∷ ys) more others h = absurd h
zip_append R (x ∷ xs) [] more others h = absurd h
zip_append R (x ∷ xs) (y ∷ ys) more others h = ap (λ (l : List (_ × _)). (x, y) ∷ l) (zip_append R xs ys more others h.1)

-- the elements on the left have P, too
pub pairs_and : {A B : Type 0} (P : A → Type 0) (R : A → B → Type 0) (xs : List A) (ys : List B) → All P xs
    → AllZip R xs ys → AllZip (λ a b. P a × R a b) xs ys
pairs_and P R [] [] all h = tt
pairs_and P R [] (y ∷ ys) all h = absurd h
pairs_and P R (x ∷ xs) [] all h = absurd h
pairs_and P R (x ∷ xs) (y ∷ ys) all h = ((All-head P x xs all, h.0), pairs_and P R xs ys (All-tail P x xs all) h.1)

-- pairs by way of a third list between the two
pub pairs_through : {A B C : Type 0} (R : A → B → Type 0) (S : B → C → Type 0) (T : A → C → Type 0)
    → ((a : A) (b : B) (c : C) → R a b → S b c → T a c)
    → (xs : List A) (ys : List B) (zs : List C) → AllZip R xs ys → AllZip S ys zs → AllZip T xs zs
pairs_through R S T so [] [] [] h k = tt
pairs_through R S T so [] [] (z ∷ zs) h k = absurd k
pairs_through R S T so [] (y ∷ ys) zs h k = absurd h
pairs_through R S T so (x ∷ xs) [] zs h k = absurd h
pairs_through R S T so (x ∷ xs) (y ∷ ys) [] h k = absurd k
pairs_through R S T so (x ∷ xs) (y ∷ ys) (z ∷ zs) h k = (so x y z h.0 k.0, pairs_through R S T so xs ys zs h.1 k.1)

-- where two functions give the same text for each pair, the texts of all pairs are the same
pub same_texts : {A B : Type 0} (R : A → B → Type 0) (f g : A → B → List ℕ) → ((a : A) (b : B) → R a b → f a b ≡ g a b)
    → (xs : List A) (ys : List B) → AllZip R xs ys → flat_map (λ pair. f pair.0 pair.1) (zip xs ys) ≡ flat_map (λ pair. g pair.0 pair.1) (zip xs ys)
same_texts R f g so [] [] h = refl
same_texts R f g so [] (y ∷ ys) h = absurd h
same_texts R f g so (x ∷ xs) [] h = absurd h
same_texts R f g so (x ∷ xs) (y ∷ ys) h = ap₂ (λ (front behind : List ℕ). front ++ behind) (so x y h.0) (same_texts R f g so xs ys h.1)

-- the element beside this one
pub pairs_at : {A B : Type 0} (R : A → B → Type 0) (xs : List A) (front : List B) (y : B) (rest : List B)
    → AllZip R xs (front ++ y ∷ rest) → (x : A) × R x y
pairs_at R [] [] y rest h = absurd h
pairs_at R [] (z ∷ front) y rest h = absurd h
pairs_at R (x ∷ xs) [] y rest h = (x, h.0)
pairs_at R (x ∷ xs) (z ∷ front) y rest h = pairs_at R xs front y rest h.1
