-- Words that have the bits that are known of them, made into others.
use Rattle.known_bits.proofs.Common.{◌≡◌, ℕ, zero, suc, Bool, false, not, List, [], ◌∷◌, ◌++◌, map, length, take, drop, replicate, refl, sym, ap, subst, arith, AllZip, KnownBit, Direction, Up, Down, certain, known_not, known_agreed, moved, unknown, bit_by_bit, top_of, Allows}
use Rattle.known_bits.proofs.Tables.{allows_certain, allows_not, allows_first, allows_second}

-- the word has the bits that are known of it
abbrev pub Has : List KnownBit → List Bool → Type 0
Has p u = AllZip Allows p u

pub has_width : (p : List KnownBit) (u : List Bool) → Has p u → length u ≡ length p
has_width [] [] h = refl
has_width [] (b ∷ u) h = absurd h
has_width (k ∷ p) [] h = absurd h
has_width (k ∷ p) (b ∷ u) h = ap suc (has_width p u h.1)

pub has_unknown : (u : List Bool) → Has (unknown (length u)) u
has_unknown [] = tt
has_unknown (b ∷ u) = (tt, has_unknown u)

pub has_certain : (u : List Bool) → Has (map certain u) u
has_certain [] = tt
has_certain (b ∷ u) = (allows_certain b, has_certain u)

pub has_not : (p : List KnownBit) (u : List Bool) → Has p u → Has (map known_not p) (map not u)
has_not [] [] h = tt
has_not [] (b ∷ u) h = absurd h
has_not (k ∷ p) [] h = absurd h
has_not (k ∷ p) (b ∷ u) h = (allows_not k b h.0, has_not p u h.1)

pub has_append : (p q : List KnownBit) (u w : List Bool) → Has p u → Has q w → Has (p ++ q) (u ++ w)
has_append [] q [] w h k = k
has_append [] q (b ∷ u) w h k = absurd h
has_append (a ∷ p) q [] w h k = absurd h
has_append (a ∷ p) q (b ∷ u) w h k = (h.0, has_append p q u w h.1 k)

pub has_replicate : (n : ℕ) (k : KnownBit) (b : Bool) → Allows k b → Has (replicate n k) (replicate n b)
has_replicate zero k b h = tt
has_replicate (suc n) k b h = (h, has_replicate n k b h)

pub has_take : (n : ℕ) (p : List KnownBit) (u : List Bool) → Has p u → Has (take n p) (take n u)
has_take zero p u h = tt
has_take (suc n) [] [] h = tt
has_take (suc n) [] (b ∷ u) h = absurd h
has_take (suc n) (k ∷ p) [] h = absurd h
has_take (suc n) (k ∷ p) (b ∷ u) h = (h.0, has_take n p u h.1)

pub has_drop : (n : ℕ) (p : List KnownBit) (u : List Bool) → Has p u → Has (drop n p) (drop n u)
has_drop zero p u h = h
has_drop (suc n) [] [] h = tt
has_drop (suc n) [] (b ∷ u) h = absurd h
has_drop (suc n) (k ∷ p) [] h = absurd h
has_drop (suc n) (k ∷ p) (b ∷ u) h = has_drop n p u h.1

pub has_moved : (direction : Direction) (k : KnownBit) (b : Bool) (n : ℕ) (p : List KnownBit) (u : List Bool) → Allows k b → Has p u → Has (moved direction k n p) (moved direction b n u)
has_moved Up k b n p u fill h =
    subst (λ width. Has (take (length p) (replicate n k ++ p)) (take width (replicate n b ++ u))) (sym (has_width p u h))
    (has_take (length p) (replicate n k ++ p) (replicate n b ++ u) (has_append (replicate n k) p (replicate n b) u (has_replicate n k b fill) h))
has_moved Down k b n p u fill h =
    has_drop n (p ++ replicate n k) (u ++ replicate n b) (has_append p (replicate n k) u (replicate n b) h (has_replicate n k b fill))

-- ---- two words
-- a function of the bits at each place
abbrev pub both : (Bool → Bool → Bool) → List Bool → List Bool → List Bool
both op [] w = []
both op (a ∷ u) [] = []
both op (a ∷ u) (b ∷ w) = op a b ∷ both op u w

pub has_both : (gate : KnownBit → KnownBit → KnownBit) (op : Bool → Bool → Bool) → ((p q : KnownBit) (a b : Bool) → Allows p a → Allows q b → Allows (gate p q) (op a b)) → (p q : List KnownBit) (u w : List Bool) → Has p u → Has q w → Has (bit_by_bit gate p q) (both op u w)
has_both gate op table [] q [] w h k = tt
has_both gate op table [] q (a ∷ u) w h k = absurd h
has_both gate op table (x ∷ p) q [] w h k = absurd h
has_both gate op table (x ∷ p) [] (a ∷ u) [] h k = tt
has_both gate op table (x ∷ p) [] (a ∷ u) (b ∷ w) h k = absurd k
has_both gate op table (x ∷ p) (y ∷ q) (a ∷ u) [] h k = absurd k
has_both gate op table (x ∷ p) (y ∷ q) (a ∷ u) (b ∷ w) h k = (table x y a b h.0 k.0, has_both gate op table p q u w h.1 k.1)

pub has_first : (p q : List KnownBit) (u : List Bool) → length q ≡ length p → Has p u → Has (bit_by_bit known_agreed p q) u
has_first [] q [] same h = tt
has_first [] q (a ∷ u) same h = absurd h
has_first (x ∷ p) q [] same h = absurd h
has_first (x ∷ p) [] (a ∷ u) same h = absurd (omega arith)
has_first (x ∷ p) (y ∷ q) (a ∷ u) same h = (allows_first x y a h.0, has_first p q u (omega arith) h.1)

pub has_second : (p q : List KnownBit) (u : List Bool) → length q ≡ length p → Has q u → Has (bit_by_bit known_agreed p q) u
has_second [] [] [] same h = tt
has_second [] [] (a ∷ u) same h = absurd h
has_second [] (y ∷ q) u same h = absurd (omega arith)
has_second (x ∷ p) [] u same h = absurd (omega arith)
has_second (x ∷ p) (y ∷ q) [] same h = absurd h
has_second (x ∷ p) (y ∷ q) (a ∷ u) same h = (allows_second x y a h.0, has_second p q u (omega arith) h.1)

-- ---- the highest bit
abbrev pub highest : List Bool → Bool
highest [] = false
highest (a ∷ []) = a
highest (a ∷ b ∷ u) = highest (b ∷ u)

pub has_highest : (p : List KnownBit) (u : List Bool) → Has p u → Allows (top_of p) (highest u)
has_highest [] u h = tt
has_highest (x ∷ []) [] h = absurd h
has_highest (x ∷ []) (a ∷ []) h = h.0
has_highest (x ∷ []) (a ∷ b ∷ u) h = absurd h.1
has_highest (x ∷ y ∷ p) [] h = absurd h
has_highest (x ∷ y ∷ p) (a ∷ []) h = absurd h.1
has_highest (x ∷ y ∷ p) (a ∷ b ∷ u) h = has_highest (y ∷ p) (b ∷ u) h.1

-- ---- widths
pub width_both : (gate : KnownBit → KnownBit → KnownBit) (p q : List KnownBit) → length q ≡ length p → length (bit_by_bit gate p q) ≡ length p
width_both gate [] q same = refl
width_both gate (x ∷ p) [] same = same
width_both gate (x ∷ p) (y ∷ q) same = ap suc (width_both gate p q (omega arith))
