-- Equal registers, and operands that are a register.
use Rattle.readers.proofs.Common.{◌≡◌, ◌⊎◌, inl, inr, ℕ, true, false, eqb, refl, ap, sym, subst, and_from, and_parts, cases_Bool, eq-eqb, eqb-true, false_from_ne_true, Operand, Register, same_register, names}
use Rattle.ir_core.specs.declared.operand.Operand.TheVariants as operands
use Rattle.ir_core.specs.declared.operand.Register.TheVariants as registers

pub same_register_is : (r s : Register) → same_register r s ≡ true → r ≡ s
same_register_is (registers.Parameter p) (registers.Parameter q) e = ap (λ (n : ℕ). registers.Parameter n) (eqb-true p q e)
same_register_is (registers.Result b n) (registers.Result c m) e =
    let both = and_parts (eqb b c) (eqb n m) e in
    let block = eqb-true b c both.0 in
    let number = eqb-true n m both.1 in
    cc
same_register_is (registers.Parameter p) (registers.Result c m) e = cc
same_register_is (registers.Result b n) (registers.Parameter q) e = cc

pub same_register_self : (r : Register) → same_register r r ≡ true
same_register_self (registers.Parameter p) = eq-eqb p p refl
same_register_self (registers.Result b n) = and_from (eqb b b) (eqb n n) (eq-eqb b b refl) (eq-eqb n n refl)

pub is_same_register : (r s : Register) → (r ≡ s) ⊎ ¬ (r ≡ s)
is_same_register r s = elim (cases_Bool (same_register r s)) [
  | inl same ↦ inl (same_register_is r s same)
  | inr other ↦ inr (λ e. let same : same_register r s ≡ true = subst (λ (t : Register). same_register r t ≡ true) e (same_register_self r) in cc)
]

pub other_register : (r s : Register) → ¬ (r ≡ s) → same_register r s ≡ false
other_register r s apart = false_from_ne_true (same_register r s) (λ same. apart (same_register_is r s same))

pub names_is : (r : Register) (a : Operand) → names r a ≡ true → a ≡ operands.Register r
names_is r (operands.Register s) e = ap (λ (t : Register). operands.Register t) (sym (same_register_is r s e))
names_is r (operands.Number n) e = cc
names_is r operands.Undef e = cc
names_is r operands.Poison e = cc

pub names_self : (r : Register) (a : Operand) → a ≡ operands.Register r → names r a ≡ true
names_self r a is = subst (λ (x : Operand). names r x ≡ true) (sym is) (same_register_self r)

pub names_not : (r : Register) (a : Operand) → ¬ (a ≡ operands.Register r) → names r a ≡ false
names_not r a other = false_from_ne_true (names r a) (λ e. other (names_is r a e))
