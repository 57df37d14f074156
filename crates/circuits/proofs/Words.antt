-- Lemmas on the number of a word.
use Rattle.circuits.proofs.Common.{nat_lt, ◌||◌, if◌then◌else◌, add-one, subst, zero, ◌≡◌, ℕ, suc, ◌+◌, ◌-◌, ◌*◌, ◌%◌, ◌^◌, ◌<◌, ◌≤◌, Bool, true, false, not, List, [], ◌∷◌, ◌++◌, map, length, take, drop, get_or, replicate, refl, sym, ap, ◌∙◌, arith, take_more, map-append, length-map, length-take-le, take-append-drop, take-map, take_all, length-replicate, nat_tests, pow-add, pow-succ', mod-eq_of_lt, add-mul-mod_self_left, list_any, bit, number}

pub bit-le_one : (b : Bool) → bit b ≤ 1
bit-le_one true = omega arith
bit-le_one false = omega arith

pub number-append : (low high : List Bool) → number (low ++ high) ≡ number low + 2 ^ length low * number high
number-append [] high = omega arith
number-append (b ∷ low) high = rw (pow-succ' 2 (length low)) (omega (arith, number-append low high))

pub number-push : (word : List Bool) (b : Bool) → number (word ++ b ∷ []) ≡ number word + 2 ^ length word * bit b
number-push word b = omega (arith, number-append word (b ∷ []))

pub number-below : (word : List Bool) → number word < 2 ^ length word
number-below [] = omega arith
number-below (b ∷ word) = rw (pow-succ' 2 (length word)) (omega (arith, number-below word, bit-le_one b))

pub number-map_not : (word : List Bool) → number (map not word) + number word + 1 ≡ 2 ^ length word
number-map_not [] = omega arith
number-map_not (true ∷ word) = rw (pow-succ' 2 (length word)) (omega (arith, number-map_not word))
number-map_not (false ∷ word) = rw (pow-succ' 2 (length word)) (omega (arith, number-map_not word))

-- a remainder is the only number below the divisor that differs by a multiple of it
pub remainder : (r m k n : ℕ) → r < m → r + m * k ≡ n → r ≡ n % m
remainder r m k n below e = sym (mod-eq_of_lt below) ∙ sym (add-mul-mod_self_left r m k) ∙ ap (λ x. x % m) e

-- one more bit of a word of literals
pub number-take_more : {L : Type 0} (value : L → Bool) (a : List L) (i : ℕ) (x : L) → i < length a → x ≡ get_or a i x → number (map value (take (i + 1) a)) ≡ number (map value (take i a)) + 2 ^ i * bit (value x)
number-take_more value a i x in_range e =
    let front : length (map value (take i a)) ≡ i = length-map (take i a) value ∙ length-take-le i a (omega arith) in
    let one_more : take (i + 1) a ≡ take i a ++ x ∷ [] = take_more a i x in_range ∙ ap (λ y. take i a ++ y ∷ []) (sym e) in
    rw (one_more, map-append value (take i a) (x ∷ []), number-push (map value (take i a)) (value x), front) refl

-- the lowest bits are a remainder
pub number-take : (n : ℕ) (word : List Bool) → n ≤ length word → number (take n word) ≡ number word % 2 ^ n
number-take n word within =
    let width : length (take n word) ≡ n = length-take-le n word within in
    let below : number (take n word) < 2 ^ n = subst (λ k. number (take n word) < 2 ^ k) width (number-below (take n word)) in
    let parts : number (take n word) + 2 ^ n * number (drop n word) ≡ number word =
    ap (λ k. number (take n word) + 2 ^ k * number (drop n word)) (sym width) ∙ sym (number-append (take n word) (drop n word)) ∙ ap number (take-append-drop n word) in
    remainder _ (2 ^ n) (number (drop n word)) _ below parts

pub number-replicate : (n : ℕ) (b : Bool) → number (replicate n b) + bit b ≡ bit b * 2 ^ n
number-replicate zero b = omega arith
number-replicate (suc n) true = rw (pow-succ' 2 n) (omega (arith, number-replicate n true))
number-replicate (suc n) false = omega (arith, number-replicate n false)

pub number-zeros : (n : ℕ) → number (replicate n false) ≡ 0
number-zeros n = omega (arith, number-replicate n false)

pub number-extended : (word : List Bool) (n : ℕ) (b : Bool) → number (word ++ replicate n b) ≡ number word + bit b * (2 ^ (length word + n) - 2 ^ length word)
number-extended word n true =
    rw (pow-add 2 (length word) n) (omega (arith, number-append word (replicate n true), ap (λ k. 2 ^ length word * k) (number-replicate n true)))
number-extended word n false = omega (arith, number-append word (replicate n false), ap (λ k. 2 ^ length word * k) (number-zeros n))

pub map-replicate : {L : Type 0} (value : L → Bool) (n : ℕ) (l : L) → map value (replicate n l) ≡ replicate n (value l)
map-replicate value zero l = refl
map-replicate value (suc n) l = ap (λ word. value l ∷ word) (map-replicate value n l)

-- the same of words of literals
pub number-cut : {L : Type 0} (value : L → Bool) (a : List L) (to : ℕ) → to ≤ length a → number (map value (take to a)) ≡ number (map value a) % 2 ^ to
number-cut value a to within =
    let inside : to ≤ length (map value a) = omega (arith, length-map a value) in
    rw (← take-map value to a) (number-take to (map value a) inside)

pub number-extend : {L : Type 0} (value : L → Bool) (a : List L) (to : ℕ) (top : L) → length a ≤ to → number (map value (a ++ replicate (to - length a) top)) ≡ number (map value a) + bit (value top) * (2 ^ to - 2 ^ length a)
number-extend value a to top wider =
    let width : length (map value a) ≡ length a = length-map a value in
    let whole : length a + (to - length a) ≡ to = omega arith in
    rw (map-append value a (replicate (to - length a) top), map-replicate value (to - length a) top, number-extended (map value a) (to - length a) (value top), width, whole) refl

pub number-all_zero : {L : Type 0} (value : L → Bool) (n : ℕ) (l : L) → value l ≡ false → number (map value (replicate n l)) ≡ 0
number-all_zero value n l e = rw (map-replicate value n l, e) (number-zeros n)

-- `a + not b + 1` is `a + (2 ^ n - b)`
pub number-sub : (n a r : ℕ) (b complement : List Bool) (one : Bool) → complement ≡ map not b → one ≡ true → length b ≡ n → r ≡ (a + number complement + bit one) % 2 ^ n → r ≡ (a + (2 ^ n - number b)) % 2 ^ n
number-sub n a r b complement one complement_is one_is width r_is =
    let table : number (map not b) + number b + 1 ≡ 2 ^ n = number-map_not b ∙ ap (λ k. 2 ^ k) width in
    let inner : a + number complement + bit one ≡ a + (2 ^ n - number b) = rw (complement_is, one_is) (omega (arith, table)) in
    r_is ∙ ap (λ k. k % 2 ^ n) inner

-- a word with its highest bit negated is raised by the half of 2 ^ n
flipped : (low half : ℕ) (b : Bool) → low < half → low + half * bit (not b) ≡ (low + half * bit b + half) % (2 * half)
flipped low half true below = remainder (low + half * bit false) (2 * half) 1 (low + half * bit true + half) (omega arith) (omega arith)
flipped low half false below = remainder (low + half * bit true) (2 * half) 0 (low + half * bit false + half) (omega arith) (omega arith)

pub number-flipped : {L : Type 0} (value : L → Bool) (a : List L) (top : ℕ) (x y : L) → top + 1 ≡ length a → x ≡ get_or a top x → value y ≡ not (value x) → number (map value (take top a ++ y ∷ [])) ≡ (number (map value a) + 2 ^ top) % 2 ^ length a
number-flipped value a top x y last at_x flip =
    let in_range : top < length a = omega arith in
    let whole : take (top + 1) a ≡ a = take_all (top + 1) a (omega arith) in
    let width : length (map value (take top a)) ≡ top = length-map (take top a) value ∙ length-take-le top a (omega arith) in
    let below : number (map value (take top a)) < 2 ^ top = subst (λ k. number (map value (take top a)) < 2 ^ k) width (number-below (map value (take top a))) in
    let parts : number (map value a) ≡ number (map value (take top a)) + 2 ^ top * bit (value x) = ap (λ w. number (map value w)) (sym whole) ∙ number-take_more value a top x in_range at_x in
    let doubled : 2 ^ length a ≡ 2 * 2 ^ top = ap (λ k. 2 ^ k) (sym last ∙ add-one top) ∙ pow-succ' 2 top in
    rw (map-append value (take top a) (y ∷ []), number-push (map value (take top a)) (value y), width, flip, parts, doubled) (flipped (number (map value (take top a))) (2 ^ top) (value x) below)

-- `0 + (2 ^ n - b)` is `2 ^ n - b`
pub number-neg : {L : Type 0} (value : L → Bool) (n b r : ℕ) (zeros : List L) (l : L) → zeros ≡ replicate n l → value l ≡ false → r ≡ (number (map value zeros) + (2 ^ length zeros - b)) % 2 ^ length zeros → r ≡ (2 ^ n - b) % 2 ^ n
number-neg value n b r zeros l zeros_is l_is r_is =
    let nothing : number (map value zeros) ≡ 0 = ap (λ w. number (map value w)) zeros_is ∙ number-all_zero value n l l_is in
    let width : length zeros ≡ n = ap length zeros_is ∙ length-replicate n l in
    r_is ∙ rw (nothing, width) (ap (λ k. k % 2 ^ n) (omega arith))

map_take_more : {L : Type 0} (value : L → Bool) (a : List L) (i : ℕ) (x : L) → i < length a → x ≡ get_or a i x → take (i + 1) (map value a) ≡ take i (map value a) ++ value x ∷ []
map_take_more value a i x in_range e =
    let one_more : take (i + 1) a ≡ take i a ++ x ∷ [] = take_more a i x in_range ∙ ap (λ y. take i a ++ y ∷ []) (sym e) in
    rw (take-map value (i + 1) a, take-map value i a, one_more, map-append value (take i a) (x ∷ [])) refl

-- one more bit of a choice of two words
pub take_select : {L : Type 0} (value : L → Bool) (b : Bool) (on off : List L) (i : ℕ) (x y : L) → i < length on → i < length off → x ≡ get_or on i x → y ≡ get_or off i y → take (i + 1) (if b then map value on else map value off) ≡ take i (if b then map value on else map value off) ++ (if b then value x else value y) ∷ []
take_select value true on off i x y in_on in_off at_x at_y = map_take_more value on i x in_on at_x
take_select value false on off i x y in_on in_off at_x at_y = map_take_more value off i y in_off at_y

-- all bits of a choice of two words
pub take_select_all : {L : Type 0} (value : L → Bool) (b : Bool) (on off : List L) (i : ℕ) → length on ≤ i → length off ≤ i → take i (if b then map value on else map value off) ≡ (if b then map value on else map value off)
take_select_all value true on off i all_on all_off = take_all i (map value on) (omega (arith, length-map on value))
take_select_all value false on off i all_on all_off = take_all i (map value off) (omega (arith, length-map off value))

any_step : (b : Bool) (n : ℕ) → (b || nat_lt 0 n) ≡ nat_lt 0 (bit b + 2 * n)
any_step true n = grind (arith, nat_tests)
any_step false n = grind (arith, nat_tests)

or_false : (b : Bool) → (b || false) ≡ (false || b)
or_false true = refl
or_false false = refl

or_assoc : (a b c : Bool) → (a || (b || c)) ≡ ((a || b) || c)
or_assoc true b c = refl
or_assoc false b c = refl

-- some bit of a word is true exactly where its number isn't 0
pub any-number : {L : Type 0} (value : L → Bool) (a : List L) → list_any value a ≡ nat_lt 0 (number (map value a))
any-number value [] = refl
any-number value (l ∷ a) = ap (λ b. value l || b) (any-number value a) ∙ any_step (value l) (number (map value a))

list_any-push : {L : Type 0} (p : L → Bool) (xs : List L) (x : L) → list_any p (xs ++ x ∷ []) ≡ (list_any p xs || p x)
list_any-push p [] x = or_false (p x)
list_any-push p (y ∷ xs) x = ap (λ b. p y || b) (list_any-push p xs x) ∙ or_assoc (p y) (list_any p xs) (p x)

pub list_any-take_more : {L : Type 0} (p : L → Bool) (a : List L) (i : ℕ) (x : L) → i < length a → x ≡ get_or a i x → list_any p (take (i + 1) a) ≡ (list_any p (take i a) || p x)
list_any-take_more p a i x in_range e =
    let one_more : take (i + 1) a ≡ take i a ++ x ∷ [] = take_more a i x in_range ∙ ap (λ y. take i a ++ y ∷ []) (sym e) in
    ap (λ w. list_any p w) one_more ∙ list_any-push p (take i a) x

-- the lowest bits of a sum
pub sum_remainder : (bits : List Bool) (n k total : ℕ) → length bits ≡ n → number bits + 2 ^ n * k ≡ total → number bits ≡ total % 2 ^ n
sum_remainder bits n k total width e =
    let below : number bits < 2 ^ n = subst (λ k. number bits < 2 ^ k) width (number-below bits) in
    remainder (number bits) (2 ^ n) k total below e

pub nothing_carried : (sum m : ℕ) (first : Bool) → first ≡ false → (sum + bit first) % m ≡ sum % m
nothing_carried sum m first e = rw e (ap (λ k. k % m) (omega arith))
