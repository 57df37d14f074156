-- Decisions: of a conjunction, and for the elements of a list one by one.
use Rattle.rule_typing.proofs.Common.{◌≡◌, ◌⊎◌, inl, inr, ℕ, zero, suc, List, [], ◌∷◌, Some, refl, sym, subst, ap, ◌∙◌, slice_get, Contains, map_dec, cases_eq, slice_get-get_or, same_Some, Contains-from_get}

pub dec_both : {P Q : Type 0} → Dec P → Dec Q → Dec (P × Q)
dec_both (yes p) (yes q) = yes (p, q)
dec_both (yes p) (no h) = no (λ both. h both.1)
dec_both (no h) d = no (λ both. h both.0)

pub dec_either : {P Q : Type 0} → Dec P → Dec Q → Dec (P ⊎ Q)
dec_either (yes p) d = yes (inl p)
dec_either (no h) (yes q) = yes (inr q)
dec_either (no h) (no k) = no (λ one. elim one [ inl p ↦ h p | inr q ↦ k q ])

pub dec_not : {P : Type 0} → Dec P → Dec (¬ P)
dec_not (yes p) = no (λ h. h p)
dec_not (no h) = yes h

-- a decided fact that isn't refuted holds
pub stable : {P : Type 0} → Dec P → ¬ (¬ P) → P
stable (yes p) h = p
stable (no k) h = absurd (h k)

pub dec_number : (m n : ℕ) → Dec (m ≡ n)
dec_number m n = elim (cases_eq m n) [ inl same ↦ yes same | inr other ↦ no other ]

-- whether Q holds of some element and its place is decided
pub dec_place : {X : Type 0} (Q : ℕ → X → Type 0) (xs : List X) → ((k : ℕ) (x : X) → Dec (Q k x)) → Dec ((k : ℕ) × (x : X) × (slice_get xs k ≡ Some x) × Q k x)
dec_place Q [] each = no (λ (k, x, at, holds). elim k as (λ j. ¬ (slice_get [] j ≡ Some x)) [ zero ↦ λ h. cc | suc j ↦ λ h. cc ] at)
dec_place Q (a ∷ xs) each = elim (each 0 a) [
  | yes here ↦ yes (0, a, refl, here)
  | no not_here ↦ elim (dec_place (λ k. Q (suc k)) xs (λ k. each (suc k))) [
    | yes (k, x, at, holds) ↦ yes (suc k, x, at, holds)
    | no none ↦ no (λ (k, x, at, holds). elim k as (λ j. slice_get (a ∷ xs) j ≡ Some x → Q j x → ⊥) [
      | zero ↦ λ e q. not_here (subst (Q 0) (sym (same_Some a x e)) q)
      | suc j ↦ λ e q. none (j, x, e, q)
    ] at holds)
  ]
]

-- whether P holds of one of the elements is decided
pub dec_one : {X : Type 0} (P : X → Type 0) (xs : List X) → ((x : X) → Dec (P x)) → Dec ((x : X) × Contains xs x × P x)
dec_one P xs each =
    map_dec (λ (k, x, at, holds). (x, Contains-from_get xs k x at, holds)) (λ (x, (k, within, is), holds). (k, x, slice_get-get_or xs k x within ∙ ap (λ y. Some y) is, holds)) (dec_place (λ k. P) xs (λ k. each))

-- whether P holds of each element is decided
pub dec_each : {X : Type 0} (P : X → Type 0) (xs : List X) → ((x : X) → Dec (P x)) → Dec ((x : X) → Contains xs x → P x)
dec_each P xs each = elim (dec_one (λ x. ¬ P x) xs (λ x. dec_not (each x))) [
  | yes (x, among, lacks) ↦ no (λ all. lacks (all x among))
  | no none ↦ yes (λ x among. stable (each x) (λ lacks. none (x, among, lacks)))
]
