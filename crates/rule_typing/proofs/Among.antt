-- From what loops over operands or statements test to what is said of all those of a rule.
use Rattle.rule_typing.proofs.Common.{◌≡◌, inl, inr, ◌↔◌, ℕ, ◌<◌, List, ◌++◌, length, get_or, Bool, true, false, not, IsTrue, Option, None, Some, refl, sym, ap, subst, ◌∙◌, ◌+◌, ◌≤◌, arith, cases_eq, slice_get-get_or, get_or_from_slice_get, Contains, flat_map, slice_get, IfNone, flat_map-append, Contains-append_left, Contains-append_right, Contains-append_cases, Rule, Statement, Operand, operands_of, operands_in, IsStatementOf, Contains-flat_map}
use Rattle.rule_typing.proofs.Images.{from_flat_map}

abbrev pub all_operands : List Statement → List Operand
all_operands statements = flat_map (λ s. operands_of s.op) statements

-- what holds of each element of two lists holds of each of one behind the other, and the other way round
pub each_of_both : {X : Type 0} (P : X → Type 0) (xs ys : List X) → (((x : X) → Contains xs x → P x) × ((x : X) → Contains ys x → P x)) ↔ ((x : X) → Contains (xs ++ ys) x → P x)
each_of_both P xs ys = (
  λ h x among. elim (Contains-append_cases xs ys x among) [ inl left ↦ h.0 x left | inr right ↦ h.1 x right ],
  λ each. (λ x left. each x (Contains-append_left xs ys x left), λ x right. each x (Contains-append_right xs ys x right)),
)

-- likewise of the statements of source and target, and of those of the rule
pub each_half : (P : Statement → Type 0) (rule : Rule) → (((s : Statement) → Contains rule.source s → P s) × ((s : Statement) → Contains rule.target s → P s)) ↔ ((s : Statement) → IsStatementOf rule s → P s)
each_half P rule = (
  λ h s stands. elim (Contains-append_cases rule.source rule.target s stands) [ inl left ↦ h.0 s left | inr right ↦ h.1 s right ],
  λ each. (λ s left. each s (Contains-append_left rule.source rule.target s left), λ s right. each s (Contains-append_right rule.source rule.target s right)),
)

module _ (P : Operand → Type 0) where
  abbrev pub Each : List Operand → Type 0
  Each xs = (o : Operand) → Contains xs o → P o

  -- over statements
  pub each_statement : (xs : List Statement) → ((s : Statement) → Contains xs s → Each (operands_of s.op)) ↔ Each (all_operands xs)
  each_statement xs = (
    λ each o among. let (s, stands, here) = from_flat_map (λ (t : Statement). operands_of t.op) xs o among in each s stands o here,
    λ each s stands o here. each o (Contains-flat_map (λ (t : Statement). operands_of t.op) xs s o stands here),
  )

  -- over the rule
  pub each_rule : (rule : Rule) → (Each (all_operands rule.source) × Each (all_operands rule.target)) ↔ Each (operands_in rule)
  each_rule rule = (
    λ h o among. elim (Contains-append_cases (all_operands rule.source) (all_operands rule.target) o (subst (λ l. Contains l o) (flat_map-append (λ (t : Statement). operands_of t.op) rule.source rule.target) among)) [
      | inl left ↦ h.0 o left
      | inr right ↦ h.1 o right
    ],
    λ each. (
      λ o left. each o (subst (λ l. Contains l o) (sym (flat_map-append (λ (t : Statement). operands_of t.op) rule.source rule.target)) (Contains-append_left (all_operands rule.source) (all_operands rule.target) o left)),
      λ o right. each o (subst (λ l. Contains l o) (sym (flat_map-append (λ (t : Statement). operands_of t.op) rule.source rule.target)) (Contains-append_right (all_operands rule.source) (all_operands rule.target) o right)),
    ),
  )

-- an answer that is known to be `true` says what it stands for
pub holds : {P : Type 0} (answer : Bool) → (IsTrue answer ↔ P) → answer ≡ true → P
holds answer says is = says.0 is

pub fails : {P : Type 0} (answer : Bool) → (IsTrue answer ↔ P) → answer ≡ false → P → ⊥
fails answer says is p = let h : answer ≡ true = says.1 p in cc

-- an answer by `&&`
pub both : {A B C : Type 0} (x y : Bool) → (IsTrue x ↔ A) → (IsTrue y ↔ B) → ((A × B) ↔ C) → x ≡ true → IsTrue y ↔ C
both x y a b whole is = (λ h. whole.0 (holds x a is, b.0 h), λ c. b.1 ((whole.1 c).1))

pub not_both : {A B C : Type 0} (x : Bool) → (IsTrue x ↔ A) → ((A × B) ↔ C) → x ≡ false → IsTrue x ↔ C
not_both x a whole is = (λ h. cc, λ c. absurd (fails x a is ((whole.1 c).0)))

pub neither : {A B : Type 0} (x : Bool) → (IsTrue x ↔ A) → B → IsTrue (not x) ↔ ((A → ⊥) × B)
neither true a b = (λ h. cc, λ c. absurd (c.0 (a.0 refl)))
neither false a b = (λ h. (λ p. let e : false ≡ true = a.1 p in cc, b), λ h. refl)

-- an answer to one question is one to an equivalent question
pub says : {A B : Type 0} (x : Bool) → (IsTrue x ↔ A) → (A ↔ B) → IsTrue x ↔ B
says x a same = (λ h. same.0 (a.0 h), λ b. a.1 (same.1 b))

-- a loop over a list: P holds of the elements that it has passed
abbrev pub SoFar : {X : Type 0} → (X → Type 0) → List X → ℕ → Type 0
SoFar {X} P xs i = (k : ℕ) (x : X) → k < i → slice_get xs k ≡ Some x → P x

pub one_further : {X : Type 0} (P : X → Type 0) (xs : List X) (i : ℕ) (x : X) → x ≡ get_or xs i x → P x → SoFar P xs i → SoFar P xs (i + 1)
one_further P xs i x is here before k y less at = elim (cases_eq k i) [
  | inl same ↦ subst P (is ∙ get_or_from_slice_get xs i y x (subst (λ n. slice_get xs n ≡ Some y) same at)) here
  | inr other ↦ before k y (omega arith) at
]

pub all_of_them : {X : Type 0} (P : X → Type 0) (xs : List X) (i : ℕ) → SoFar P xs i → length xs ≤ i → (x : X) → Contains xs x → P x
all_of_them P xs i before past x (k, within, is) = before k x (omega arith) (slice_get-get_or xs k x within ∙ ap (λ y. Some y) is)

pub stands_here : {X : Type 0} (xs : List X) (i : ℕ) (x : X) → x ≡ get_or xs i x → i < length xs → Contains xs x
stands_here xs i x is within = (i, within, sym is)

-- the loop ends where P holds of each element, or where it doesn't hold of one
pub each_passes : {X : Type 0} (P : X → Type 0) (xs : List X) (i : ℕ) → SoFar P xs i → length xs ≤ i → IsTrue true ↔ ((y : X) → Contains xs y → P y)
each_passes P xs i before past = (λ h. all_of_them P xs i before past, λ h. refl)

pub one_fails : {X : Type 0} (P : X → Type 0) (xs : List X) (i : ℕ) (x : X) → x ≡ get_or xs i x → i < length xs → (P x → ⊥) → IsTrue false ↔ ((y : X) → Contains xs y → P y)
one_fails P xs i x is within here = (λ h. cc, λ each. absurd (here (each x (stands_here xs i x is within))))

pub none_then : {X A B : Type 0} (o : Option X) → IfNone o A → (A → B) → IfNone o B
none_then None h f = f h
none_then (Some x) h f = tt
