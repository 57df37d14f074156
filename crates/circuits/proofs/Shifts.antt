-- Words moved by stages, one for each of the amount's lowest bits, and by the amount's higher bits all at once.
use Rattle.circuits.proofs.Common.{◌≡◌, ℕ, zero, suc, ◌+◌, ◌-◌, ◌*◌, ◌/◌, ◌%◌, ◌^◌, ◌<◌, ◌≤◌, Bool, true, false, nat_lt, if◌then◌else◌, List, [], ◌∷◌, ◌++◌, map, length, take, drop, get_or, replicate, refl, sym, ap, subst, ◌∙◌, ⊎_elim, arith, length-append, length-drop, cases_lt, take-take, drop-map, take-append-le, take-replicate, take-map, drop-drop, drop-append-le, drop-replicate, length-take-le, take-append-drop, length-map, length-replicate, replicate-append-replicate, append_assoc, map-append, All-append, All-replicate, All-take, All-drop, div-mul-add, drop-append-add, take-append-add, All, Direction, Up, Down, moved, bit, number}
use Rattle.circuits.proofs.Words.{number-append, number-take, number-zeros, number-extended, number-below, number-take_more, map-replicate}

pub length-moved : {L : Type 0} (direction : Direction) (fill : L) (s : ℕ) (word : List L) → length (moved direction fill s word) ≡ length word
length-moved Up fill s word = length-take-le (length word) (replicate s fill ++ word) (omega (arith, length-append (replicate s fill) word))
length-moved Down fill s word = length-drop s (word ++ replicate s fill) ∙ omega (arith, length-append word (replicate s fill), length-replicate s fill)

pub All-moved : {L : Type 0} (P : L → Type 0) (direction : Direction) (fill : L) (s : ℕ) (word : List L) → P fill → All P word → All P (moved direction fill s word)
All-moved P Up fill s word own_fill own = All-take P (length word) (replicate s fill ++ word) (All-append P (replicate s fill) word (All-replicate P s fill own_fill) own)
All-moved P Down fill s word own_fill own = All-drop P s (word ++ replicate s fill) (All-append P word (replicate s fill) own (All-replicate P s fill own_fill))

map-moved : {L : Type 0} (value : L → Bool) (direction : Direction) (fill : L) (s : ℕ) (word : List L) → map value (moved direction fill s word) ≡ moved direction (value fill) s (map value word)
map-moved value Up fill s word = rw (← take-map value (length word) (replicate s fill ++ word), map-append value (replicate s fill) word, map-replicate value s fill, length-map word value) refl
map-moved value Down fill s word = rw (← drop-map value s (word ++ replicate s fill), map-append value word (replicate s fill), map-replicate value s fill) refl

-- the free places, and the part of the word that stays
pub moved_up : {L : Type 0} (word : List L) (d : ℕ) (fill : L) → d ≤ length word → replicate d fill ++ take (length word - d) word ≡ moved Up fill d word
moved_up word d fill inside =
    let place : length word ≡ length (replicate d fill) + (length word - d) = omega (arith, length-replicate d fill) in
    sym (ap (λ k. take k (replicate d fill ++ word)) place ∙ take-append-add (replicate d fill) word (length word - d))

-- ---- one stage
-- the part below a word's width
take_front : (xs ys : List Bool) (n m : ℕ) → n ≤ m → take n (xs ++ take m ys) ≡ take n (xs ++ ys)
take_front [] ys n m h = take-take n m ys h
take_front (x ∷ xs) ys zero m h = refl
take_front (x ∷ xs) ys (suc n) m h = ap (λ w. x ∷ w) (take_front xs ys n m (omega arith))

stage : (direction : Direction) (i s : ℕ) (b t : Bool) (ys w : List Bool) → 2 ^ i ≤ length w → w ≡ moved direction t s ys → (if b then moved direction t (2 ^ i) w else w) ≡ moved direction t (s + 2 ^ i * bit b) ys
stage direction i s false t ys w fits e = e ∙ ap (λ k. moved direction t k ys) (omega arith)
stage Up i s true t ys w fits e =
    let more : 2 ^ i + s ≡ s + 2 ^ i * bit true = omega arith in
    let n = length ys in
    let width : length w ≡ n = ap length e ∙ length-moved Up t s ys in
    ap (λ k. take k (replicate (2 ^ i) t ++ w)) width ∙ ap (λ x. take n (replicate (2 ^ i) t ++ x)) e ∙ take_front (replicate (2 ^ i) t) (replicate s t ++ ys) n n (omega arith) ∙ ap (λ x. take n x) (sym (append_assoc (replicate (2 ^ i) t) (replicate s t) ys)) ∙ ap (λ x. take n (x ++ ys)) (replicate-append-replicate (2 ^ i) s t) ∙ ap (λ k. take n (replicate k t ++ ys)) more
stage Down i s true t ys w fits e =
    let more : s + 2 ^ i ≡ s + 2 ^ i * bit true = omega arith in
    let p = 2 ^ i in
    let inside : s ≤ length (ys ++ replicate s t) = omega (arith, length-append ys (replicate s t), length-replicate s t) in
    ap (λ x. drop p (x ++ replicate p t)) e ∙ ap (λ x. drop p x) (sym (drop-append-le s (ys ++ replicate s t) (replicate p t) inside)) ∙ drop-drop p s ((ys ++ replicate s t) ++ replicate p t) ∙ ap (λ x. drop (s + p) x) (append_assoc ys (replicate s t) (replicate p t)) ∙ ap (λ x. drop (s + p) (ys ++ x)) (replicate-append-replicate s p t) ∙ ap (λ k. drop k (ys ++ replicate k t)) more

-- of words of literals
pub moved_more : {L : Type 0} (direction : Direction) (start now next : L → Bool) (a amount word further new : List L) (i : ℕ) (b fill : L) → i < length amount → b ≡ get_or amount i b → now b ≡ start b → now fill ≡ start fill → 2 ^ i ≤ length word → further ≡ moved direction fill (2 ^ i) word → map next new ≡ (if now b then map now further else map now word) → map now word ≡ moved direction (start fill) (number (map start (take i amount))) (map start a) → map next new ≡ moved direction (start fill) (number (map start (take (i + 1) amount))) (map start a)
moved_more direction start now next a amount word further new i b fill in_amount at_b b_kept fill_kept inside further_is new_is before =
    let fits : 2 ^ i ≤ length (map now word) = omega (arith, length-map word now) in
    let one = stage direction i (number (map start (take i amount))) (start b) (start fill) (map start a) (map now word) fits before in
    let further_bits : map now further ≡ moved direction (start fill) (2 ^ i) (map now word) = ap (λ w. map now w) further_is ∙ map-moved now direction fill (2 ^ i) word ∙ ap (λ t. moved direction t (2 ^ i) (map now word)) fill_kept in
    let chosen : map next new ≡ (if start b then moved direction (start fill) (2 ^ i) (map now word) else map now word) = new_is ∙ rw (b_kept, further_bits) refl in
    chosen ∙ one ∙ ap (λ k. moved direction (start fill) k (map start a)) (sym (number-take_more start amount i b in_amount at_b))

-- ---- the higher bits, each of which is worth the width at least
-- where one of them is true the amount is, too
far_amount : (n : ℕ) (near far : List Bool) → (0 < length far → n ≤ 2 ^ length near) → 0 < number far → n ≤ number (near ++ far)
far_amount n near far reach some =
    ⊎_elim
    (λ (h : 0 < length far).
    let k = number far - 1 in
    let e : number far ≡ k + 1 = omega arith in
    let whole : number (near ++ far) ≡ number near + 2 ^ length near * (k + 1) = rw (← e) (number-append near far) in
    let least = reach h in
    omega arith)
    (λ (h : length far ≤ 0). let none : length far ≡ 0 = omega arith in let below : number far < 2 ^ 0 = subst (λ k. number far < 2 ^ k) none (number-below far) in absurd (omega arith))
    (cases_lt 0 (length far))

near_amount : (near far : List Bool) → number far ≤ 0 → number (near ++ far) ≡ number near
near_amount near far none =
    let e : number far ≡ 0 = omega arith in
    number-append near far ∙ rw e (omega arith)

-- moving by the width or more leaves what fills alone
moved_all : (direction : Direction) (s : ℕ) (t : Bool) (ys : List Bool) → length ys ≤ s → moved direction t s ys ≡ replicate (length ys) t
moved_all Up s t ys far =
    let inside : length ys ≤ length (replicate s t) = omega (arith, length-replicate s t) in
    take-append-le (length ys) (replicate s t) ys inside ∙ take-replicate (length ys) s t far
moved_all Down s t ys far =
    let place : s ≡ length ys + (s - length ys) = omega arith in
    let kept : s - (s - length ys) ≡ length ys = omega arith in
    ap (λ k. drop k (ys ++ replicate s t)) place ∙ drop-append-add ys (replicate s t) (s - length ys) ∙ drop-replicate (s - length ys) s t ∙ ap (λ k. replicate k t) kept

moved_far : (direction : Direction) (t : Bool) (ys near far result : List Bool) → (0 < length far → length ys ≤ 2 ^ length near) → result ≡ (if nat_lt 0 (number far) then replicate (length ys) t else moved direction t (number near) ys) → result ≡ moved direction t (number (near ++ far)) ys
moved_far direction t ys near far result reach e =
    ⊎_elim
    (λ (h : 0 < number far). let some : nat_lt 0 (number far) ≡ true = grind arith in (rw some at e) ∙ sym (moved_all direction (number (near ++ far)) t ys (far_amount (length ys) near far reach h)))
    (λ (h : number far ≤ 0). let none : nat_lt 0 (number far) ≡ false = grind arith in (rw none at e) ∙ ap (λ k. moved direction t k ys) (sym (near_amount near far h)))
    (cases_lt 0 (number far))

-- ---- whole shifts, of words of literals
map-parts : {L : Type 0} (value : L → Bool) (k : ℕ) (amount : List L) → map value (take k amount) ++ map value (drop k amount) ≡ map value amount
map-parts value k amount = sym (map-append value (take k amount) (drop k amount)) ∙ ap (λ w. map value w) (take-append-drop k amount)

pub moved_end : {L : Type 0} (direction : Direction) (value : L → Bool) (a amount : List L) (fill : L) (k : ℕ) (result : List Bool) → (0 < length (drop k amount) → length a ≤ 2 ^ length (take k amount)) → result ≡ (if nat_lt 0 (number (map value (drop k amount))) then replicate (length a) (value fill) else moved direction (value fill) (number (map value (take k amount))) (map value a)) → result ≡ moved direction (value fill) (number (map value amount)) (map value a)
moved_end direction value a amount fill k result reach e =
    let width : length (map value a) ≡ length a = length-map a value in
    let near_width : length (map value (take k amount)) ≡ length (take k amount) = length-map (take k amount) value in
    let far_width : length (map value (drop k amount)) ≡ length (drop k amount) = length-map (drop k amount) value in
    let bits = moved_far direction (value fill) (map value a) (map value (take k amount)) (map value (drop k amount)) result (rw (near_width, far_width, width) reach) (rw width e) in
    bits ∙ ap (λ w. moved direction (value fill) (number w) (map value a)) (map-parts value k amount)

-- ---- the numbers of words moved
pub moved_up_number : (s : ℕ) (ys : List Bool) → number (moved Up false s ys) ≡ (number ys * 2 ^ s) % 2 ^ length ys
moved_up_number s ys =
    let inside : length ys ≤ length (replicate s false ++ ys) = omega (arith, length-append (replicate s false) ys) in
    let product : number (replicate s false ++ ys) ≡ number ys * 2 ^ s = rw (number-append (replicate s false) ys, number-zeros s, length-replicate s false) (omega arith) in
    number-take (length ys) (replicate s false ++ ys) inside ∙ ap (λ k. k % 2 ^ length ys) product

pub number-moved_up : {L : Type 0} (value : L → Bool) (fill : L) (s : ℕ) (a : List L) → value fill ≡ false → number (moved Up (value fill) s (map value a)) ≡ (number (map value a) * 2 ^ s) % 2 ^ length a
number-moved_up value fill s a is = rw (is, ← length-map a value) (moved_up_number s (map value a))

number-drop : (s : ℕ) (ws : List Bool) → s ≤ length ws → number (drop s ws) ≡ number ws / 2 ^ s
number-drop s ws inside =
    let width : length (take s ws) ≡ s = length-take-le s ws inside in
    let below : number (take s ws) < 2 ^ s = subst (λ k. number (take s ws) < 2 ^ k) width (number-below (take s ws)) in
    let parts : number (drop s ws) * 2 ^ s + number (take s ws) ≡ number ws = omega (arith, ap number (take-append-drop s ws), number-append (take s ws) (drop s ws), ap (λ k. 2 ^ k * number (drop s ws)) width) in
    sym (div-mul-add (number (drop s ws)) (2 ^ s) (number (take s ws)) below) ∙ ap (λ k. k / 2 ^ s) parts

pub moved_down_number : (s : ℕ) (ys : List Bool) (fill : Bool) → number (moved Down fill s ys) ≡ (number ys + bit fill * (2 ^ (length ys + s) - 2 ^ length ys)) / 2 ^ s
moved_down_number s ys fill =
    let inside : s ≤ length (ys ++ replicate s fill) = omega (arith, length-append ys (replicate s fill), length-replicate s fill) in
    number-drop s (ys ++ replicate s fill) inside ∙ ap (λ k. k / 2 ^ s) (number-extended ys s fill)

pub number-moved_down : {L : Type 0} (value : L → Bool) (fill : L) (s : ℕ) (a : List L) → number (moved Down (value fill) s (map value a)) ≡ (number (map value a) + bit (value fill) * (2 ^ (length a + s) - 2 ^ length a)) / 2 ^ s
number-moved_down value fill s a =
    moved_down_number s (map value a) (value fill) ∙ ap (λ n. (number (map value a) + bit (value fill) * (2 ^ (n + s) - 2 ^ n)) / 2 ^ s) (length-map a value)
