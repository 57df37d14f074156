-- The texts of lists, as far as a loop has printed them.
use Rattle.ir_printer.proofs.Common.{◌≡◌, ℕ, suc, ◌+◌, ◌<◌, ◌≤◌, false, cond, eqb, List, [], ◌∷◌, ◌++◌, length, take, get_or, refl, sym, ap, ◌∙◌, append_assoc, arith, rules, tests, zero-add, flat_map, join_by, enumerate_from, take_more, take_all, flat_map_more, get_or_default, length-take-le, flat_map-append, length-enumerate_from, get_or-enumerate_from}
use Rattle.std.proofs.lemmas.List.{append-nil}

-- the text of the first items, and then that of one more
pub each_more : {X : Type 0} (text : X → List ℕ) (start before after : List ℕ) (xs : List X) (i : ℕ) (x : X) → i < length xs → x ≡ get_or xs i x → before ≡ start ++ flat_map text (take i xs) → after ≡ before ++ text x
    → after ≡ start ++ flat_map text (take (i + 1) xs)
each_more text start before after xs i x within is so_far more = rw (more, so_far, take_more xs i x within, ← is) (flat_map_more text start (take i xs) x)

pub each_at : {X : Type 0} (text : X → List ℕ) (start before after : List ℕ) (xs : List X) (i : ℕ) (d : X) → i < length xs → before ≡ start ++ flat_map text (take i xs) → after ≡ before ++ text (get_or xs i d)
    → after ≡ start ++ flat_map text (take (i + 1) xs)
each_at text start before after xs i d within = each_more text start before after xs i (get_or xs i d) within (get_or_default xs i d (get_or xs i d) within)

-- an item and its index, as in the list with indices
placed : {X : Type 0} (xs : List X) (i : ℕ) (x : X) → i < length xs → x ≡ get_or xs i x → (i, x) ≡ get_or (enumerate_from 0 xs) i (i, x)
placed xs i x within is = sym (get_or-enumerate_from 0 xs i (i, x) within ∙ ap (λ n. (n, get_or xs i x)) (zero-add i) ∙ ap (λ y. (i, y)) (sym is))

pub each_placed_more : {X : Type 0} (text : ℕ × X → List ℕ) (start before after : List ℕ) (xs : List X) (i : ℕ) (x : X) → i < length xs → x ≡ get_or xs i x → before ≡ start ++ flat_map text (take i (enumerate_from 0 xs)) → after ≡ before ++ text (i, x)
    → after ≡ start ++ flat_map text (take (i + 1) (enumerate_from 0 xs))
each_placed_more text start before after xs i x within is = each_more text start before after (enumerate_from 0 xs) i (i, x) (omega (arith, length-enumerate_from 0 xs)) (placed xs i x within is)

-- one more item behind others, with the separator
join_by-push : {X : Type 0} (text : X → List ℕ) (separator : List ℕ) (xs : List X) (x : X) → join_by text separator (xs ++ x ∷ []) ≡ join_by text separator xs ++ (cond (eqb (length xs) 0) [] separator ++ text x)
join_by-push text separator [] x = append-nil (text x)
join_by-push text separator (y ∷ ys) x =
    let behind = flat_map-append (λ z. separator ++ text z) ys (x ∷ []) in
    let later : eqb (suc (length ys)) 0 ≡ false = search (rules, tests) in
    rw (behind, later, append-nil (separator ++ text x)) (sym (append_assoc (text y) (flat_map (λ z. separator ++ text z) ys) (separator ++ text x)))

pub join_more : {X : Type 0} (text : X → List ℕ) (separator start before after : List ℕ) (xs : List X) (i : ℕ) (x : X) → i < length xs → x ≡ get_or xs i x → before ≡ start ++ join_by text separator (take i xs)
    → after ≡ before ++ (cond (eqb i 0) [] separator ++ text x) → after ≡ start ++ join_by text separator (take (i + 1) xs)
join_more text separator start before after xs i x within is so_far more =
    let all : length (take i xs) ≡ i = length-take-le i xs (omega arith) in
    rw (more, so_far, take_more xs i x within, ← is, join_by-push text separator (take i xs) x, all) (append_assoc start (join_by text separator (take i xs)) (cond (eqb i 0) [] separator ++ text x))

pub join_placed_more : {X : Type 0} (text : ℕ × X → List ℕ) (separator start before after : List ℕ) (xs : List X) (i : ℕ) (x : X) → i < length xs → x ≡ get_or xs i x → before ≡ start ++ join_by text separator (take i (enumerate_from 0 xs))
    → after ≡ before ++ (cond (eqb i 0) [] separator ++ text (i, x)) → after ≡ start ++ join_by text separator (take (i + 1) (enumerate_from 0 xs))
join_placed_more text separator start before after xs i x within is = join_more text separator start before after (enumerate_from 0 xs) i (i, x) (omega (arith, length-enumerate_from 0 xs)) (placed xs i x within is)

-- all items, with their indices
pub take_placed : {X : Type 0} (xs : List X) (i : ℕ) → length xs ≤ i → take i (enumerate_from 0 xs) ≡ enumerate_from 0 xs
take_placed xs i past = take_all i (enumerate_from 0 xs) (omega (arith, length-enumerate_from 0 xs))
