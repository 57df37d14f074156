-- Where the effect is undefined behaviour.
use Rattle.ops.proofs.Common.{ℕ, ◌≡◌, ◌^◌, ◌-◌, ◌<◌, ◌≤◌, ◌⊎◌, inl, inr, ⊎_elim, Bool, true, false, cond, Decides, refl, ◌↔◌, ◌==◌, pos, negsuc, neg_ℤ, Decides-eqb, Decides-like, Decides-and, Decides-or, Value, Poison, Bits, Undefined, Gives, Opcode, UDiv, SDiv, URem, SRem, Flags, Number, signed, minus_one, least, udiv, sdiv, urem, srem, instruction, on_numbers, on_poison, UndefinedIsOfDivisions, IsUndefinedDivision}
use Rattle.ops.proofs.Signed.{signed-zero, signed-minus_one, signed-least}

-- the tests of the definition, on signed numbers
Decides-zero : (N n : ℕ) → n < 2 ^ N → Decides (n == 0) (signed N n ≡ pos 0)
Decides-zero N n h = let e = signed-zero N n h in Decides-like (n == 0) e.1 e.0 (Decides-eqb n 0)

Decides-minus_one : (N n : ℕ) → 1 ≤ N → n < 2 ^ N → Decides (n == minus_one N) (signed N n ≡ negsuc 0)
Decides-minus_one N n p h =
    let e = signed-minus_one N n p h in Decides-like (n == minus_one N) e.1 e.0 (Decides-eqb n (minus_one N))

Decides-least : (N n : ℕ) → 1 ≤ N → n < 2 ^ N → Decides (n == least N) (signed N n ≡ neg_ℤ (pos (2 ^ (N - 1))))
Decides-least N n p h = let e = signed-least N n p h in Decides-like (n == least N) e.1 e.0 (Decides-eqb n (least N))

-- an instruction that tests for undefined behaviour first: it has that exactly where the test holds
tested : (c : Bool) (v : Value) (P : Type 0) → (c ≡ true → P) → (P → c ≡ true) → (cond c Undefined (Gives v) ≡ Undefined) ↔ P
tested true v P f g = (λ e. f refl, λ x. refl)
tested false v P f g = (λ e. cc, λ x. let e : false ≡ true = g x in cc)

unsigned_tested : (c : Bool) (v : Value) (n : Number) (Zero X Y : Type 0) → Decides c Zero → (cond c Undefined (Gives v) ≡ Undefined) ↔ (Unit {0} × ((Bits n ≡ Poison) ⊎ Zero) ⊎ ⊥ × X × Y)
unsigned_tested c v n Zero X Y d =
    tested c v _
    (λ e. inl (tt, inr (d.0 e)))
    (λ x. ⊎_elim (λ u. ⊎_elim (λ e. cc) d.1 u.1) (λ u. absurd u.0) x)

signed_tested : (c : Bool) (v : Value) (m n : Number) (Zero Minus Least : Type 0) → Decides c (Zero ⊎ (Minus × Least)) → (cond c Undefined (Gives v) ≡ Undefined) ↔ (Unit {0} × ((Bits n ≡ Poison) ⊎ Zero) ⊎ Unit {0} × Minus × ((Bits m ≡ Poison) ⊎ Least))
signed_tested c v m n Zero Minus Least d =
    tested c v _
    (λ e. ⊎_elim (λ z. inl (tt, inr z)) (λ u. inr (tt, u.0, inr u.1)) (d.0 e))
    (λ x. ⊎_elim
    (λ u. ⊎_elim (λ e. cc) (λ z. d.1 (inl z)) u.1)
    (λ u. ⊎_elim (λ e. cc) (λ l. d.1 (inr (u.1, l))) u.2)
    x)

poison_tested : (c : Bool) (n : Number) (Zero Minus : Type 0) → Decides c (Zero ⊎ Minus) → (cond c Undefined (Gives Poison) ≡ Undefined) ↔ (Unit {0} × ((Bits n ≡ Poison) ⊎ Zero) ⊎ Unit {0} × Minus × ((Poison ≡ Poison) ⊎ ⊥))
poison_tested c n Zero Minus d =
    tested c Poison _
    (λ e. ⊎_elim (λ z. inl (tt, inr z)) (λ m. inr (tt, m, inl refl)) (d.0 e))
    (λ x. ⊎_elim (λ u. ⊎_elim (λ e. cc) (λ z. d.1 (inl z)) u.1) (λ u. d.1 (inr u.1)) x)

-- an instruction that is no division never has undefined behaviour
never : (v : Value) (X Y Z : Type 0) → (Gives v ≡ Undefined) ↔ (⊥ × X ⊎ ⊥ × Y × Z)
never v X Y Z = (λ e. cc, λ x. ⊎_elim (λ u. absurd u.0) (λ u. absurd u.0) x)

on_numbers-undefined : (op : Opcode) (flags : Flags) (N : ℕ) (a b : Number) → 1 ≤ N → a.number < 2 ^ N → b.number < 2 ^ N → (on_numbers op flags N a.number b.number ≡ Undefined) ↔ IsUndefinedDivision op N (Bits a) (Bits b)
unfolding on_numbers udiv sdiv urem srem
on_numbers-undefined UDiv flags N a b h p q = unsigned_tested _ _ b _ _ _ (Decides-zero N b.number q)
on_numbers-undefined URem flags N a b h p q = unsigned_tested _ _ b _ _ _ (Decides-zero N b.number q)
on_numbers-undefined SDiv flags N a b h p q =
    signed_tested _ _ a b _ _ _
    (Decides-or _ _ (Decides-zero N b.number q) (Decides-and _ _ (Decides-minus_one N b.number h q) (Decides-least N a.number h p)))
on_numbers-undefined SRem flags N a b h p q =
    signed_tested _ _ a b _ _ _
    (Decides-or _ _ (Decides-zero N b.number q) (Decides-and _ _ (Decides-minus_one N b.number h q) (Decides-least N a.number h p)))
on_numbers-undefined op flags N a b h p q = never _ _ _ _

on_poison-undefined : (op : Opcode) (N : ℕ) (b : Number) → 1 ≤ N → b.number < 2 ^ N → (on_poison op N (Bits b) ≡ Undefined) ↔ IsUndefinedDivision op N Poison (Bits b)
unfolding on_poison
on_poison-undefined UDiv N b h q = unsigned_tested _ Poison b _ _ _ (Decides-zero N b.number q)
on_poison-undefined URem N b h q = unsigned_tested _ Poison b _ _ _ (Decides-zero N b.number q)
on_poison-undefined SDiv N b h q =
    poison_tested _ b _ _ (Decides-or _ _ (Decides-zero N b.number q) (Decides-minus_one N b.number h q))
on_poison-undefined SRem N b h q =
    poison_tested _ b _ _ (Decides-or _ _ (Decides-zero N b.number q) (Decides-minus_one N b.number h q))
on_poison-undefined op N b h q = never _ _ _ _

by_poison : (op : Opcode) (N : ℕ) (a : Value) → (on_poison op N Poison ≡ Undefined) ↔ IsUndefinedDivision op N a Poison
unfolding on_poison
by_poison UDiv N a = (λ e. inl (tt, inl refl), λ x. refl)
by_poison URem N a = (λ e. inl (tt, inl refl), λ x. refl)
by_poison SDiv N a = (λ e. inl (tt, inl refl), λ x. refl)
by_poison SRem N a = (λ e. inl (tt, inl refl), λ x. refl)
by_poison op N a = never _ _ _ _

pub instruction-undefined : UndefinedIsOfDivisions
unfolding instruction
instruction-undefined op flags N (Bits a) (Bits b) h p q = on_numbers-undefined op flags N a b h p.1 q.1
instruction-undefined op flags N (Bits a) Poison h p q = by_poison op N (Bits a)
instruction-undefined op flags N Poison (Bits b) h p q = on_poison-undefined op N b h q.1
instruction-undefined op flags N Poison Poison h p q = by_poison op N Poison
