-- Whether all values are numbers and a precondition is true.
use Rattle.blast_term.proofs.Common.{◌≡◌, ℕ, zero, suc, Bool, true, false, not, ◌&&◌, IsTrue, ◌↔◌, if◌then◌else◌, List, [], ◌∷◌, ◌++◌, Some, refl, subst, arith, slice_get, unwrap_or, same_Some, slice_get_within, Number, Rule, Register, value_of, bits, Value, Poison, Formula, HasNumber, PreconditionHolds, constant_values, last_holds, truths_of, PreconditionMet}
use Rattle.rule_core.specs.declared.rule.Register.TheVariants as registers

abbrev pub AllNumbers : List Value → Type 0
AllNumbers [] = Unit {0}
AllNumbers (v ∷ values) = HasNumber v × AllNumbers values

pub all_numbers : (values : List Value) → AllNumbers values → (n : ℕ) (v : Value) → slice_get values n ≡ Some v → HasNumber v
all_numbers [] all n v at = absurd (omega (arith, slice_get_within [] n v at))
all_numbers (w ∷ values) all zero v at = subst HasNumber (same_Some w v at) all.0
all_numbers (w ∷ values) all (suc n) v at = all_numbers values all.1 n v at

pub numbers_all : (values : List Value) → ((n : ℕ) (v : Value) → slice_get values n ≡ Some v → HasNumber v) → AllNumbers values
numbers_all [] each = tt
numbers_all (w ∷ values) each = (each 0 w refl, numbers_all values (λ n v at. each (suc n) v at))

pub all_push : (values : List Value) (v : Value) → AllNumbers values → HasNumber v → AllNumbers (values ++ v ∷ [])
all_push [] v all has = (has, tt)
all_push (w ∷ values) v all has = (all.0, all_push values v all.1 has)

pub all_pop : (values : List Value) (v : Value) → AllNumbers (values ++ v ∷ []) → AllNumbers values × HasNumber v
all_pop [] v all = (tt, all.0)
all_pop (w ∷ values) v all = let rest = all_pop values v all.1 in ((all.0, rest.0), rest.1)

falsity : IsTrue false → ⊥
falsity h = cc

-- one more value is tested
pub met_more : (met poison met' : Bool) (values : List Value) (N n : ℕ) (P : Type 0) → (IsTrue met ↔ (AllNumbers values × P)) → met' ≡ (met && not poison)
    → IsTrue met' ↔ (AllNumbers (values ++ (if poison then Poison else bits N n) ∷ []) × P)
met_more true true met' values N n P before is = (λ h. absurd (falsity (subst IsTrue is h)), λ h. absurd (all_pop values Poison h.0).1)
met_more true false met' values N n P before is =
    (λ h. let b = before.0 refl in (all_push values (bits N n) b.0 tt, b.1), λ h. is)
met_more false poison met' values N n P before is =
    (λ h. absurd (falsity (subst IsTrue is h)), λ h. absurd (falsity (before.1 ((all_pop values (if poison then Poison else bits N n) h.0).0, h.1))))

pub precondition_met : (values : List Value) (formulas : List Formula) (b : Bool) → (IsTrue b ↔ (AllNumbers values × IsTrue (last_holds (truths_of values formulas)))) → IsTrue b ↔ PreconditionMet values formulas
precondition_met values formulas b is = (
  λ h. let both = is.0 h in record { values = all_numbers values both.0; formula = both.1 },
  λ met. is.1 (numbers_all values met.values, met.formula),
)

-- where these are the values of the rule's terms at the constants, the precondition holds at the constants exactly
-- where it is met
pub precondition_holds : (rule : Rule) (typing : List ℕ) (constants : List Number) (values : List Value) (b : Bool) → values ≡ constant_values typing constants rule
    → (IsTrue b ↔ PreconditionMet values rule.precondition) → IsTrue b ↔ PreconditionHolds rule typing constants
precondition_holds rule typing constants values b are is = (
  λ h. let met = rw are at (is.0 h) in record { values = met.values; formula = met.formula },
  λ holds. is.1 (rw are record { values = holds.values; formula = holds.formula }),
)

-- constant terms read no register, so the registers may hold anything
pub nothing_held : (r : Register) → Poison ≡ unwrap_or (value_of (record { inputs = []; source = []; target = [] }) r) Poison
nothing_held (registers.Input zero) = refl
nothing_held (registers.Input (suc k)) = refl
nothing_held (registers.Source zero) = refl
nothing_held (registers.Source (suc k)) = refl
nothing_held (registers.Target zero) = refl
nothing_held (registers.Target (suc k)) = refl
