-- What the nodes of terms give, and when a precondition holds. A node gives a value of its class's width; poison stands
-- for no value.
use Rattle.std.specs.Prelude.{◌≡◌, ℕ, ◌<◌, ◌-◌, ◌^◌, ◌==◌, nat_lt, Bool, true, false, not, ◌&&◌, ◌||◌, IsTrue, if◌then◌else◌, List, [], ◌∷◌, ◌++◌, length, find, Option, Some, slice_get, slice_index, slice_index_or}
use Rattle.std.specs.List.{range_with_len}
use Rattle.std.specs.Option.{is_some, option_map_or}
use Rattle.ops.specs.Number.{Number}
use Rattle.ops.specs.Flags.{no_flags}
use Rattle.ops.specs.Instruction.{instruction}
use Rattle.ops.specs.Comparison.{holds}
use Rattle.ops.specs.Integer.{residue, bits, minus_one, least}
use Rattle.ops.specs.declared.opcode.Opcode.TheVariants.{Sub, Xor}
use Rattle.ops.specs.declared.comparison.Pred.{Pred}
use Rattle.ops.specs.declared.value.Value.{Value}
use Rattle.ops.specs.declared.value.Value.TheVariants.{Poison, Bits}
use Rattle.ops.specs.declared.value.Effect.{Effect}
use Rattle.ops.specs.declared.value.Effect.TheVariants as effects
use Rattle.rule_core.specs.declared.rule.Rule.{Rule}
use Rattle.rule_core.specs.declared.rule.Register.{Register}
use Rattle.rule_core.specs.declared.rule.Term.{Term}
use Rattle.rule_core.specs.declared.rule.Node.{Node}
use Rattle.rule_core.specs.declared.rule.Node.TheVariants as nodes
use Rattle.rule_core.specs.declared.rule.Function.{Function}
use Rattle.rule_core.specs.declared.rule.Function.TheVariants.{Negate, Not, Log2, Abs}
use Rattle.rule_core.specs.declared.rule.Formula.{Formula}
use Rattle.rule_core.specs.declared.rule.Formula.TheVariants as formulas

-- a value's number, and 0 for poison
abbrev pub number_or_zero : Value → ℕ
number_or_zero Poison = 0
number_or_zero (Bits a) = a.number

-- what names in a term stand for: a number for each constant and for each choice of the target, and a value for each
-- register
pub record Meanings : Type 0 where
  pub constants : List Number
  pub choices : List Number
  pub registers : Register → Value

-- in a constant term only constants have a meaning
abbrev pub of_constants : List Number → Meanings
of_constants constants = record { constants = constants; choices = []; registers = λ r. Poison }

-- the number at a place, if there is one
abbrev pub number_at : List Number → ℕ → Value
number_at numbers k = option_map_or Bits (slice_get numbers k) Poison

-- the value at a place, if there is one
abbrev pub value_at : List Value → ℕ → Value
value_at values k = slice_index_or values k Poison

-- the value of an effect; none where it is undefined behaviour
abbrev pub value_given : Effect → Value
value_given effects.Undefined = Poison
value_given (effects.Gives v) = v

-- the number n where it is one of iN, else no value
abbrev pub within : ℕ → ℕ → Value
within N n = if nat_lt n (2 ^ N) then bits N n else Poison

-- the k below N where a is 2^k, if there is one
unfoldable pub exponent : ℕ → ℕ → Option ℕ
exponent N a = find (λ k. 2 ^ k == a) (range_with_len 0 N)

-- what a function gives at the number a of iN
abbrev pub function_at : Function → ℕ → ℕ → Value
function_at Negate N a = value_given (instruction Sub no_flags N (bits N 0) (bits N a))
function_at Not N a = value_given (instruction Xor no_flags N (bits N (minus_one N)) (bits N a))
function_at Log2 N a = option_map_or (bits N) (exponent N a) Poison
function_at Abs N a = bits N (if nat_lt a (least N) then a else 2 ^ N - a)

-- what it gives at a value: nothing where there is none
abbrev pub function_value : Function → ℕ → Value → Value
function_value function N Poison = Poison
function_value function N (Bits a) = function_at function N a.number

-- an evaluation in order: behind the results `done`, each element gives one from all the results before it
abbrev pub in_turn : {X Y : Type 0} → (List Y → X → Y) → List Y → List X → List Y
in_turn gives done [] = done
in_turn gives done (x ∷ xs) = in_turn gives (done ++ gives done x ∷ []) xs

-- the operands of node n are nodes before it
abbrev pub ReadsBefore : ℕ → Node → Type 0
ReadsBefore n (nodes.Unary function a) = a < n
ReadsBefore n (nodes.Binary op a b) = (a < n) × (b < n)
ReadsBefore n node = Unit {0}

abbrev pub FormulaReadsBefore : ℕ → Formula → Type 0
FormulaReadsBefore n (formulas.Not a) = a < n
FormulaReadsBefore n (formulas.And a b) = (a < n) × (b < n)
FormulaReadsBefore n (formulas.Or a b) = (a < n) × (b < n)
FormulaReadsBefore n formula = Unit {0}

-- Under a width for each class:
module _ (typing : List ℕ) where
  -- A node of iN, from what the nodes before it give. A register that is poison counts as 0. An operator gives what its
  -- instruction does without flags: nothing where that is undefined behaviour or poison.
  abbrev pub node_gives : Meanings → List Value → ℕ → Node → Value
  node_gives names before N (nodes.Literal z) = bits N (residue N z)
  node_gives names before N (nodes.Constant k) = number_at names.constants k
  node_gives names before N (nodes.Register r) = bits N (number_or_zero (names.registers r))
  node_gives names before N (nodes.Choice k) = number_at names.choices k
  node_gives names before N (nodes.Width r c) = within N (slice_index typing c)
  node_gives names before N (nodes.Unary function a) = function_value function N (value_at before a)
  node_gives names before N (nodes.Binary op a b) = value_given (instruction op no_flags N (value_at before a) (value_at before b))

  abbrev pub term_value : Meanings → List Value → Term → Value
  term_value names before t = node_gives names before (slice_index typing t.class) t.node

  -- the values of all nodes, in order
  abbrev pub values_of : Meanings → List Term → List Value
  values_of names terms = in_turn (term_value names) [] terms

  -- the values of a rule's constant terms at these constants
  abbrev pub constant_values : List Number → Rule → List Value
  constant_values constants rule = values_of (of_constants constants) rule.terms

-- both values are numbers, of which the predicate holds
abbrev pub compares : Pred → Value → Value → Bool
compares pred (Bits a) (Bits b) = holds pred a.width a.number b.number
compares pred (Bits a) Poison = false
compares pred Poison b = false

-- the value is a number with exactly one bit set
abbrev pub has_one_bit : Value → Bool
has_one_bit Poison = false
has_one_bit (Bits a) = is_some (exponent a.width a.number)

-- the value is the least number in two's complement, of which the highest bit alone is set
abbrev pub is_sign_bit : Value → Bool
is_sign_bit Poison = false
is_sign_bit (Bits a) = a.number == least a.width

-- Whether a node of a formula holds where the terms give these values, from whether the nodes before it hold.
abbrev pub formula_holds : List Value → List Bool → Formula → Bool
formula_holds values before (formulas.Compare pred a b) = compares pred (value_at values a) (value_at values b)
formula_holds values before (formulas.IsPowerOfTwo a) = has_one_bit (value_at values a)
formula_holds values before (formulas.IsSignBit a) = is_sign_bit (value_at values a)
formula_holds values before (formulas.HasOneUse k) = true
formula_holds values before (formulas.MaskedValueIsZero r a) = true
formula_holds values before (formulas.IsKnownNonZero r) = true
formula_holds values before (formulas.Not a) = not (slice_index_or before a false)
formula_holds values before (formulas.And a b) = slice_index_or before a false && slice_index_or before b false
formula_holds values before (formulas.Or a b) = slice_index_or before a false || slice_index_or before b false

-- which nodes hold, in order
abbrev pub truths_of : List Value → List Formula → List Bool
truths_of values formulas = in_turn (formula_holds values) [] formulas

-- whether the last node holds; a formula without nodes does
abbrev pub last_holds : List Bool → Bool
last_holds truths = slice_index_or truths (length truths - 1) true

abbrev pub HasNumber : Value → Type 0
HasNumber Poison = ⊥
HasNumber (Bits a) = Unit {0}

-- The precondition holds: each constant term of the rule, in the target too, has a value, and the formula of `Pre:`
-- holds.
pub record PreconditionHolds (rule : Rule) (typing : List ℕ) (constants : List Number) : Type 0 where
  pub values : (n : ℕ) (v : Value) → slice_get (constant_values typing constants rule) n ≡ Some v → HasNumber v
  pub formula : IsTrue (last_holds (truths_of (constant_values typing constants rule) rule.precondition))
