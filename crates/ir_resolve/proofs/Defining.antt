-- The definitions of parameters, blocks and results, one after the other.
use Rattle.ir_resolve.proofs.Common.{◌≡◌, ℕ, suc, ◌+◌, ◌<◌, List, [], ◌∷◌, ◌++◌, map, take, length, get_or, sym, ap, ◌∙◌, append_assoc, arith, enumerate_from, take_more, map_push, length-take-le, Definition, seen_definition, Defined}

enumerate_from-push : {X : Type 0} (n : ℕ) (xs : List X) (x : X) → enumerate_from n (xs ++ x ∷ []) ≡ enumerate_from n xs ++ (n + length xs, x) ∷ []
enumerate_from-push n [] x = ap (λ m. (m, x) ∷ []) (omega arith)
enumerate_from-push n (y ∷ xs) x =
    let count : (n + 1) + length xs ≡ n + suc (length xs) = omega arith in
    ap (λ ps. (n, y) ∷ ps) (enumerate_from-push (n + 1) xs x ∙ ap (λ m. enumerate_from (n + 1) xs ++ (m, x) ∷ []) count)

-- one more item is numbered
enumerate_more : {X : Type 0} (xs : List X) (i : ℕ) (x : X) → i < length xs → x ≡ get_or xs i x → enumerate_from 0 (take (i + 1) xs) ≡ enumerate_from 0 (take i xs) ++ (i, x) ∷ []
enumerate_more xs i x lt at =
    let more : take (i + 1) xs ≡ take i xs ++ x ∷ [] = take_more xs i x lt ∙ ap (λ y. take i xs ++ y ∷ []) (sym at) in
    let count : 0 + length (take i xs) ≡ i = omega (arith, length-take-le i xs (omega arith)) in
    ap (enumerate_from 0) more ∙ enumerate_from-push 0 (take i xs) x ∙ ap (λ n. enumerate_from 0 (take i xs) ++ (n, x) ∷ []) count

-- the definitions of one more item
module _ {X : Type 0} (D : List (ℕ × X) → List Defined) (d : ℕ × X → List Defined) (D-push : (ps : List (ℕ × X)) (p : ℕ × X) → D (ps ++ p ∷ []) ≡ D ps ++ d p) where
  pub defined_more : (xs : List X) (i : ℕ) (x : X) (before now new : List Defined) → i < length xs → x ≡ get_or xs i x
      → now ≡ before ++ D (enumerate_from 0 (take i xs)) → new ≡ now ++ d (i, x) → new ≡ before ++ D (enumerate_from 0 (take (i + 1) xs))
  defined_more xs i x before now new lt at so_far more =
      more ∙ ap (λ ds. ds ++ d (i, x)) so_far ∙ append_assoc before (D (enumerate_from 0 (take i xs))) (d (i, x))
      ∙ ap (λ ds. before ++ ds) (sym (ap D (enumerate_more xs i x lt at) ∙ D-push (enumerate_from 0 (take i xs)) (i, x)))

pub seen_push : (now new : List Definition) (v : Definition) (d : Defined) → new ≡ now ++ v ∷ [] → seen_definition v ≡ d → map seen_definition new ≡ map seen_definition now ++ d ∷ []
seen_push now new v d more same = ap (map seen_definition) more ∙ map_push seen_definition now v ∙ ap (λ e. map seen_definition now ++ e ∷ []) same
