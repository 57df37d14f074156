-- A loop over the nodes of terms, turn by turn.
use Rattle.blast_term.proofs.Common.{◌≡◌, ℕ, zero, suc, ◌+◌, ◌<◌, ◌≤◌, Bool, List, [], ◌∷◌, ◌++◌, length, map, take, Some, refl, sym, ap, subst, ◌∙◌, arith, get_or, slice_get, slice_index, sum_by, IsSome, All, take_more, map-append, length-map, sum_by_push, sum_by-cons, slice_get_within, slice_get-map, get_or_from_slice_get, option_map, select_gates, number_of, Poison, no_flags, instruction, Opcode, Term, Meanings, number_or_zero, value_at, value_given, node_gives, term_value, Held, held_value, widths_of, numbers_gates, number_held, number_chosen}
use Rattle.rule_core.specs.declared.rule.Node.TheVariants as nodes

-- what is true of all elements is true of each
pub own_from_get : {X : Type 0} (P : X → Type 0) (xs : List X) (k : ℕ) (x : X) → All P xs → slice_get xs k ≡ Some x → P x
own_from_get P xs k x all at = subst P (get_or_from_slice_get xs k x x at) (all k x (slice_get_within xs k x at))

-- there is a value at each place at which there is a width
pub held_there : {L : Type 0} (held : List (Held L)) (n N : ℕ) → slice_get (widths_of held) n ≡ Some N → n < length held
held_there held n N width =
    subst (λ m. n < m) (length-map held (λ (x : Held _). length x.bits)) (slice_get_within (widths_of held) n N width)

-- a place at which something stands is within the list
pub some_within : {X : Type 0} (xs : List X) (k : ℕ) → IsSome (slice_get xs k) → k < length xs
some_within [] zero some = cc
some_within [] (suc k) some = cc
some_within (x ∷ xs) zero some = omega arith
some_within (x ∷ xs) (suc k) some = omega (arith, some_within xs k some)

-- a sum over one more element
pub sum-more : {X : Type 0} (f : X → ℕ) (xs : List X) (i : ℕ) (x : X) → i < length xs → x ≡ get_or xs i x → sum_by f (take (i + 1) xs) ≡ sum_by f (take i xs) + f x
sum-more f xs i x within is =
    ap (λ ys. sum_by f ys) (take_more xs i x within ∙ ap (λ y. take i xs ++ y ∷ []) (sym is)) ∙ sum_by_push f (take i xs) x

pub sum-fewer : {X : Type 0} (f : X → ℕ) (xs : List X) (i : ℕ) → sum_by f (take i xs) ≤ sum_by f xs
sum-fewer f [] zero = omega arith
sum-fewer f [] (suc i) = omega arith
sum-fewer f (x ∷ xs) zero = omega arith
sum-fewer f (x ∷ xs) (suc i) = omega (arith, sum_by-cons f x xs, sum_by-cons f x (take i xs), sum-fewer f xs i)

-- the list of what the elements are mapped to, with one more element
pub map-more : {X Y : Type 0} (f : X → Y) (xs : List X) (i : ℕ) (x : X) → i < length xs → x ≡ get_or xs i x → map f (take (i + 1) xs) ≡ map f (take i xs) ++ f x ∷ []
map-more f xs i x within is = ap (map f) (take_more xs i x within ∙ ap (λ y. take i xs ++ y ∷ []) (sym is)) ∙ map-append f (take i xs) (x ∷ [])

pub take-map : {X Y : Type 0} (f : X → Y) (n : ℕ) (xs : List X) → take n (map f xs) ≡ map f (take n xs)
take-map f zero xs = refl
take-map f (suc n) [] = refl
take-map f (suc n) (x ∷ xs) = ap (λ ys. f x ∷ ys) (take-map f n xs)

-- the gates of the numbers of the first values, with one more
pub numbers_gates-more : {L : Type 0} (held : List (Held L)) (i : ℕ) (h : Held L) → i < length held → h ≡ get_or held i h → numbers_gates (widths_of (take (i + 1) held)) ≡ numbers_gates (widths_of (take i held)) + select_gates (length h.bits)
numbers_gates-more held i h within is =
    ap (λ ws. numbers_gates ws) (map-more (λ (x : Held _). length x.bits) held i h within is) ∙ sum_by_push select_gates (widths_of (take i held)) (length h.bits)

pub numbers_gates-fewer : {L : Type 0} (held : List (Held L)) (i : ℕ) → numbers_gates (widths_of (take i held)) ≤ numbers_gates (widths_of held)
numbers_gates-fewer held i = rw (← take-map (λ (x : Held _). length x.bits) i held) (sum-fewer select_gates (widths_of held) i)

-- the value at a place, by its literals
pub value_there : {L : Type 0} (value : L → Bool) (values : List (Held L)) (n : ℕ) (h : Held L) → slice_get values n ≡ Some h → value_at (map (held_value value) values) n ≡ held_value value h
value_there value values n h at = get_or_from_slice_get (map (held_value value) values) n (held_value value h) Poison (slice_get-map (held_value value) values n ∙ ap (option_map (held_value value)) at)

-- an operator's value at two of the values before it
pub binary-value : {L : Type 0} (value : L → Bool) (typing : List ℕ) (names : Meanings) (before : List (Held L)) (t : Term) (op : Opcode) (a b N : ℕ) (x y : Held L)
    → t.node ≡ nodes.Binary op a b → N ≡ slice_index typing t.class → slice_get before a ≡ Some x → slice_get before b ≡ Some y
    → value_given (instruction op no_flags N (held_value value x) (held_value value y)) ≡ term_value typing names (map (held_value value) before) t
binary-value value typing names before t op a b N x y is width at_a at_b =
    let values = map (held_value value) before in
    ap (λ v. value_given (instruction op no_flags N v (held_value value y))) (sym (value_there value before a x at_a))
    ∙ ap (λ v. value_given (instruction op no_flags N (value_at values a) v)) (sym (value_there value before b y at_b))
    ∙ ap (λ M. value_given (instruction op no_flags M (value_at values a) (value_at values b))) width
    ∙ ap (node_gives typing names values (slice_index typing t.class)) (sym is)

-- the width told of the value at a place is that of its literals
pub width_chosen : {L : Type 0} (values : List (Held L)) (n : ℕ) (h : Held L) → slice_get values n ≡ Some h → slice_index (widths_of values) n ≡ length h.bits
width_chosen values n h at = get_or_from_slice_get (widths_of values) n (length h.bits) 0 (slice_get-map (λ (x : Held _). length x.bits) values n ∙ ap (option_map (λ (x : Held _). length x.bits)) at)

pub chosen : {L : Type 0} (now start : L → Bool) (values : List (Held L)) (n : ℕ) (h : Held L) (word : List L) → slice_get values n ≡ Some h → length word ≡ length h.bits → number_of now word ≡ number_or_zero (held_value start h)
    → number_held now word ≡ number_chosen (widths_of values) (map (held_value start) values) n
chosen now start values n h word at width number =
    rw (width_chosen values n h at, value_there start values n h at, width, number) refl
