-- What the names of a rule's source stand for.
use Rattle.bindings.proofs.Common.{◌≡◌, ◌↔◌, ℕ, Bool, false, Option, None, Some, IsTrue, sym, ap, subst, ◌∙◌, slice_get, same_Some, Register, Number, StandsFor, Binding}
use Rattle.ir_core.specs.declared.operand.Operand.{Operand}
use Rattle.ir_core.specs.declared.operand.Operand.TheVariants as operands
use Rattle.rule_core.specs.declared.rule.Argument.TheVariants as arguments
use Rattle.rule_core.specs.declared.rule.Register.{Register as Name}
use Rattle.rule_core.specs.declared.rule.Register.TheVariants as names

nothing : {X : Type 0} (o : Option X) (x : X) → o ≡ None → o ≡ Some x → ⊥
nothing o x none some = let e : Some x ≡ None = sym some ∙ none in absurd cc

-- a name stands for what it is bound to
pub input_stands : (m : Binding) (N i : ℕ) (name : Name) (bound a : Operand) (same : Bool) → name ≡ names.Input i → slice_get m.inputs i ≡ Some bound → (IsTrue same ↔ (bound ≡ a))
    → IsTrue same ↔ StandsFor m N (arguments.Register name) a
input_stands m N i name bound a same is at equal = subst (λ (n : Name). IsTrue same ↔ StandsFor m N (arguments.Register n) a) (sym is) (
  λ yes. at ∙ ap (λ (o : Operand). Some o) (equal.0 yes),
  λ there. equal.1 (same_Some bound a (sym at ∙ there)),
)

pub source_stands : (m : Binding) (N j : ℕ) (name : Name) (bound : Register) (a : Operand) (same : Bool) → name ≡ names.Source j → slice_get m.statements j ≡ Some bound → (IsTrue same ↔ (a ≡ operands.Register bound))
    → IsTrue same ↔ StandsFor m N (arguments.Register name) a
source_stands m N j name bound a same is at equal = subst (λ (n : Name). IsTrue same ↔ StandsFor m N (arguments.Register n) a) (sym is) (
  λ yes. (bound, at, equal.0 yes),
  λ there. equal.1 (there.2 ∙ ap (λ (r : Register). operands.Register r) (same_Some there.0 bound (sym there.1 ∙ at))),
)

-- and for nothing where it is not bound
pub no_input : (m : Binding) (N i : ℕ) (name : Name) (a : Operand) → name ≡ names.Input i → slice_get m.inputs i ≡ None → IsTrue false ↔ StandsFor m N (arguments.Register name) a
no_input m N i name a is none = subst (λ (n : Name). IsTrue false ↔ StandsFor m N (arguments.Register n) a) (sym is)
    (λ h. absurd cc, λ there. absurd (nothing (slice_get m.inputs i) a none there))

pub no_source : (m : Binding) (N j : ℕ) (name : Name) (a : Operand) → name ≡ names.Source j → slice_get m.statements j ≡ None → IsTrue false ↔ StandsFor m N (arguments.Register name) a
no_source m N j name a is none = subst (λ (n : Name). IsTrue false ↔ StandsFor m N (arguments.Register n) a) (sym is)
    (λ h. absurd cc, λ there. absurd (nothing (slice_get m.statements j) there.0 none there.1))

pub no_target : (m : Binding) (N j : ℕ) (name : Name) (a : Operand) → name ≡ names.Target j → IsTrue false ↔ StandsFor m N (arguments.Register name) a
no_target m N j name a is = subst (λ (n : Name). IsTrue false ↔ StandsFor m N (arguments.Register n) a) (sym is) (λ h. absurd cc, λ there. absurd there)

-- what the name is bound to, where it stands for an operand
stands_as : (m : Binding) (N : ℕ) (name other : Name) (a : Operand) → name ≡ other → StandsFor m N (arguments.Register name) a → StandsFor m N (arguments.Register other) a
stands_as m N name other a is stands = subst (λ (n : Name). StandsFor m N (arguments.Register n) a) is stands

pub input_at : (m : Binding) (N i : ℕ) (name : Name) (a : Operand) → name ≡ names.Input i → StandsFor m N (arguments.Register name) a → slice_get m.inputs i ≡ Some a
input_at m N i name a is stands = stands_as m N name (names.Input i) a is stands

pub source_at : (m : Binding) (N j : ℕ) (name : Name) (a : Operand) (r : Register) → name ≡ names.Source j → a ≡ operands.Register r → StandsFor m N (arguments.Register name) a → slice_get m.statements j ≡ Some r
source_at m N j name a r is is_r stands =
    let (q, at, is_q) = stands_as m N name (names.Source j) a is stands in
    let e : operands.Register q ≡ operands.Register r = sym is_q ∙ is_r in
    let same : q ≡ r = cc in
    at ∙ ap (λ (t : Register). Some t) same

pub source_register : (m : Binding) (N j : ℕ) (name : Name) (a : Operand) → name ≡ names.Source j → StandsFor m N (arguments.Register name) a → (r : Register) × (a ≡ operands.Register r)
source_register m N j name a is stands = let (q, at, is_q) = stands_as m N name (names.Source j) a is stands in (q, is_q)

pub target_stands : (m : Binding) (N j : ℕ) (name : Name) (a : Operand) → name ≡ names.Target j → StandsFor m N (arguments.Register name) a → ⊥
target_stands m N j name a is stands = stands_as m N name (names.Target j) a is stands

pub constant_at : (m : Binding) (N k : ℕ) (a : Operand) (n : Number) → a ≡ operands.Number n → StandsFor m N (arguments.Constant k) a → slice_get m.constants k ≡ Some n
constant_at m N k a n is stands =
    let e : operands.Number stands.0 ≡ operands.Number n = sym stands.3 ∙ is in
    let same : stands.0 ≡ n = cc in
    stands.1 ∙ ap (λ (t : Number). Some t) same
