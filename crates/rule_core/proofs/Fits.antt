-- What nodes of terms give are values of their widths.
use Rattle.rule_core.proofs.Common.{◌≡◌, ℕ, ℤ, pos, negsuc, zero, suc, ◌⊎◌, inl, inr, ◌-◌, ◌<◌, ◌≤◌, ◌^◌, true, false, List, [], ◌∷◌, ◌++◌, length, take, length-take, None, Some, refl, sym, ap, subst, ◌∙◌, arith, get_or, add-one, slice_get, slice_index, nat_lt, if◌then◌else◌, option_map_or, mod-lt, pow_pos, nat_tests, take_all, slice_get-get_or, get_or_from_slice_get, same_Some, no_flags, IsValueOf, IsEffectOf, instruction, residue, bits, minus_one, least, Sub, Xor, Value, Poison, Bits, Effect, IsEffectOf-instruction, Term, Node, Function, Negate, Not, Log2, Abs, Meanings, number_or_zero, number_at, value_at, value_given, within, exponent, function_at, function_value, node_gives, term_value, values_of, TermsFit}
use Rattle.ops.specs.declared.value.Effect.TheVariants as effects
use Rattle.rule_core.specs.declared.rule.Node.TheVariants as nodes
use Rattle.rule_core.proofs.Exponents.{exponent_fits}
use Rattle.rule_core.proofs.Turns.{in_turn-length, in_turn-step}

pub residue_lt : (N : ℕ) (z : ℤ) → residue N z < 2 ^ N
unfolding residue
residue_lt N (pos n) = mod-lt n (pow_pos N)
residue_lt N (negsuc n) = omega (arith, pow_pos N)

pub number_or_zero_fits : (N : ℕ) (v : Value) → IsValueOf N v → number_or_zero v < 2 ^ N
number_or_zero_fits N Poison is = pow_pos N
number_or_zero_fits N (Bits a) is = is.1

pub value_fits : (N : ℕ) (e : Effect) → IsEffectOf N e → IsValueOf N (value_given e)
value_fits N effects.Undefined is = tt
value_fits N (effects.Gives v) is = is

within_fits : (N n : ℕ) → IsValueOf N (within N n)
within_fits N n =
    elim (nat_lt n (2 ^ N)) as (λ b. nat_lt n (2 ^ N) ≡ b → IsValueOf N (if b then bits N n else Poison)) [
      | true ↦ λ less. (refl, grind (arith, nat_tests))
      | false ↦ λ less. tt
    ] refl

absolute_fits : (N a : ℕ) → a < 2 ^ N → (if nat_lt a (least N) then a else 2 ^ N - a) < 2 ^ N
absolute_fits N a less =
    elim (nat_lt a (least N)) as (λ b. nat_lt a (least N) ≡ b → (if b then a else 2 ^ N - a) < 2 ^ N) [
      | true ↦ λ low. less
      | false ↦ λ high. let some : 0 < 2 ^ (N - 1) = pow_pos (N - 1) in grind (arith, nat_tests)
    ] refl

function_fits : (function : Function) (N a : ℕ) → a < 2 ^ N → IsValueOf N (function_at function N a)
function_fits Negate N a less =
    value_fits N (instruction Sub no_flags N (bits N 0) (bits N a)) (IsEffectOf-instruction Sub no_flags N (bits N 0) (bits N a) (refl, pow_pos N) (refl, less))
function_fits Not N a less =
    value_fits N (instruction Xor no_flags N (bits N (minus_one N)) (bits N a))
    (IsEffectOf-instruction Xor no_flags N (bits N (minus_one N)) (bits N a) (refl, omega (arith, pow_pos N)) (refl, less))
function_fits Log2 N a less =
    elim (exponent N a) as (λ o. exponent N a ≡ o → IsValueOf N (option_map_or (bits N) o Poison)) [
      | None ↦ λ is. tt
      | Some k ↦ λ is. (refl, exponent_fits N a k is)
    ] refl
function_fits Abs N a less = (refl, absolute_fits N a less)

function_value_fits : (function : Function) (N : ℕ) (v : Value) → IsValueOf N v → IsValueOf N (function_value function N v)
function_value_fits function N Poison is = tt
function_value_fits function N (Bits a) is = function_fits function N a.number is.1

-- what a node of iN reads is of the width N
abbrev pub NodeFits : Meanings → List Value → ℕ → Node → Type 0
NodeFits names before N (nodes.Literal z) = Unit {0}
NodeFits names before N (nodes.Constant k) = IsValueOf N (number_at names.constants k)
NodeFits names before N (nodes.Register r) = number_or_zero (names.registers r) < 2 ^ N
NodeFits names before N (nodes.Choice k) = IsValueOf N (number_at names.choices k)
NodeFits names before N (nodes.Width r c) = Unit {0}
NodeFits names before N (nodes.Unary function a) = IsValueOf N (value_at before a)
NodeFits names before N (nodes.Binary op a b) = IsValueOf N (value_at before a) × IsValueOf N (value_at before b)

-- then so is what it gives
node_fits : (typing : List ℕ) (names : Meanings) (before : List Value) (N : ℕ) (node : Node) → NodeFits names before N node → IsValueOf N (node_gives typing names before N node)
node_fits typing names before N (nodes.Literal z) fit = (refl, residue_lt N z)
node_fits typing names before N (nodes.Constant k) fit = fit
node_fits typing names before N (nodes.Register r) fit = (refl, fit)
node_fits typing names before N (nodes.Choice k) fit = fit
node_fits typing names before N (nodes.Width r c) fit = within_fits N (slice_index typing c)
node_fits typing names before N (nodes.Unary function a) fit = function_value_fits function N (value_at before a) fit
node_fits typing names before N (nodes.Binary op a b) fit =
    value_fits N (instruction op no_flags N (value_at before a) (value_at before b)) (IsEffectOf-instruction op no_flags N (value_at before a) (value_at before b) fit.0 fit.1)

-- Values, each of the width of the class of the element at its place:
module _ {X : Type 0} (class : X → ℕ) (typing : List ℕ) where
  abbrev pub Fit : List X → List Value → Type 0
  Fit xs values = (k : ℕ) (x : X) (v : Value) (N : ℕ) → slice_get xs k ≡ Some x → slice_get values k ≡ Some v → slice_get typing (class x) ≡ Some N → IsValueOf N v

  pub Fit-none : (xs : List X) → Fit xs []
  Fit-none xs zero x v N there here width = cc
  Fit-none xs (suc k) x v N there here width = cc

  -- an element of a list that one was appended to is an old one or that one
  get_push : {Y : Type 0} (ys : List Y) (y : Y) (k : ℕ) (u : Y) → slice_get (ys ++ y ∷ []) k ≡ Some u → (slice_get ys k ≡ Some u) ⊎ ((k ≡ length ys) × (u ≡ y))
  get_push [] y zero u at = inr (refl, cc)
  get_push [] y (suc k) u at = cc
  get_push (x ∷ ys) y zero u at = inl at
  get_push (x ∷ ys) y (suc k) u at = elim (get_push ys y k u at) [ inl h ↦ inl h | inr (e, same) ↦ inr (ap suc e, same) ]

  pub Fit-push : (xs : List X) (values : List Value) (x : X) (v : Value) → Fit xs values → slice_get xs (length values) ≡ Some x → ((N : ℕ) → slice_get typing (class x) ≡ Some N → IsValueOf N v) → Fit xs (values ++ v ∷ [])
  Fit-push xs values x v fit at new k t u N there here width =
      elim (get_push values v k u here) [
        | inl before ↦ fit k t u N there before width
        | inr (last, same) ↦
            let t_is_x : t ≡ x = same_Some t x (sym there ∙ ap (slice_get xs) last ∙ at) in
            let N_x : slice_get typing (class x) ≡ Some N = ap (λ y. slice_get typing (class y)) (sym t_is_x) ∙ width in
            rw same (new N N_x)
      ]

-- Nodes of terms, each of which can be evaluated once those before it give values of their widths:
module _ (typing : List ℕ) (names : Meanings) (terms : List Term)
    (ready : (n : ℕ) (t : Term) (before : List Value) (N : ℕ) → slice_get terms n ≡ Some t → length before ≡ n → TermsFit typing terms before → slice_get typing t.class ≡ Some N → NodeFits names before N t.node) where
  pub first_length : (i : ℕ) → i ≤ length terms → length (values_of typing names (take i terms)) ≡ i
  first_length i within = omega (arith, in_turn-length (term_value typing names) [] (take i terms), length-take i terms)

  pub first_fit : (i : ℕ) → i ≤ length terms → TermsFit typing terms (values_of typing names (take i terms))
  first_fit zero within = Fit-none (λ (t : Term). t.class) typing terms
  first_fit (suc i) within =
      let t : Term = get_or terms i (record { class = 0; node = nodes.Literal (pos 0) }) in
      let at : slice_get terms i ≡ Some t = slice_get-get_or terms i (record { class = 0; node = nodes.Literal (pos 0) }) within in
      let before : List Value = values_of typing names (take i terms) in
      let count : length before ≡ i = first_length i (omega arith) in
      let fit : TermsFit typing terms before = first_fit i (omega arith) in
      let step : values_of typing names (take (suc i) terms) ≡ before ++ term_value typing names before t ∷ [] = rw add-one at (in_turn-step (term_value typing names) terms i t at) in
      let more : TermsFit typing terms (before ++ term_value typing names before t ∷ []) =
      Fit-push (λ (t : Term). t.class) typing terms before t (term_value typing names before t) fit (rw count at)
      (λ N width.
      let class : slice_index typing t.class ≡ N = get_or_from_slice_get typing t.class N 0 width in
      rw class (node_fits typing names before N t.node (ready i t before N at count fit width))) in
      subst (λ (values : List Value). TermsFit typing terms values) (sym step) more

  pub all_fit : TermsFit typing terms (values_of typing names terms)
  all_fit = rw (take_all (length terms) terms (omega arith)) at (first_fit (length terms) (omega arith))
