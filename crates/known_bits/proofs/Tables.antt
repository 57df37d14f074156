-- What the tables say of a gate is so where what is known of its operands is.
use Rattle.known_bits.proofs.Common.{◌≡◌, Bool, true, false, not, ◌&&◌, ◌||◌, refl, ap, xor, KnownBit, Zero, One, Unknown, certain, known_not, known_and, known_or, known_xor, known_agreed, known_carry, Allows}

pub allows_certain : (a : Bool) → Allows (certain a) a
allows_certain true = refl
allows_certain false = refl

pub allows_not : (p : KnownBit) (a : Bool) → Allows p a → Allows (known_not p) (not a)
allows_not Zero a h = ap not h
allows_not One a h = ap not h
allows_not Unknown a h = tt

pub allows_and : (p q : KnownBit) (a b : Bool) → Allows p a → Allows q b → Allows (known_and p q) (a && b)
allows_and Zero q a b h k = rw h refl
allows_and One q a b h k = rw h k
allows_and Unknown Zero true b h k = k
allows_and Unknown Zero false b h k = refl
allows_and Unknown One a b h k = tt
allows_and Unknown Unknown a b h k = tt

pub allows_or : (p q : KnownBit) (a b : Bool) → Allows p a → Allows q b → Allows (known_or p q) (a || b)
allows_or Zero q a b h k = rw h k
allows_or One q a b h k = rw h refl
allows_or Unknown Zero a b h k = tt
allows_or Unknown One true b h k = refl
allows_or Unknown One false b h k = k
allows_or Unknown Unknown a b h k = tt

xor_false : (b : Bool) → xor false b ≡ b
unfolding mathlib.Core.Bool.xor
xor_false true = refl
xor_false false = refl

xor_true : (b : Bool) → xor true b ≡ not b
unfolding mathlib.Core.Bool.xor
xor_true true = refl
xor_true false = refl

pub allows_xor : (p q : KnownBit) (a b : Bool) → Allows p a → Allows q b → Allows (known_xor p q) (xor a b)
allows_xor Zero q a b h k = rw (h, xor_false b) k
allows_xor One q a b h k = rw (h, xor_true b) (allows_not q b k)
allows_xor Unknown q a b h k = tt

pub allows_carry : (p q k : KnownBit) (a b c : Bool) → Allows p a → Allows q b → Allows k c → Allows (known_carry p q k) ((a && b) || (c && xor a b))
allows_carry p q k a b c at_a at_b at_c =
    allows_or (known_and p q) (known_and k (known_xor p q)) (a && b) (c && xor a b)
    (allows_and p q a b at_a at_b)
    (allows_and k (known_xor p q) c (xor a b) at_c (allows_xor p q a b at_a at_b))

pub allows_first : (p q : KnownBit) (a : Bool) → Allows p a → Allows (known_agreed p q) a
allows_first Zero Zero a h = h
allows_first Zero One a h = tt
allows_first Zero Unknown a h = tt
allows_first One Zero a h = tt
allows_first One One a h = h
allows_first One Unknown a h = tt
allows_first Unknown q a h = tt

pub allows_second : (p q : KnownBit) (a : Bool) → Allows q a → Allows (known_agreed p q) a
allows_second Zero Zero a h = h
allows_second Zero One a h = tt
allows_second Zero Unknown a h = tt
allows_second One Zero a h = tt
allows_second One One a h = h
allows_second One Unknown a h = tt
allows_second Unknown q a h = tt
