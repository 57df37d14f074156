-- Which nodes of a list are those of one term: each stands behind its operands, and the last one is the whole term.
use Rattle.std.specs.Prelude.{◌≡◌, ◌⊎◌, ℕ, suc, ◌≤◌, List, [], ◌∷◌, length, Some, slice_get}
use Rattle.rule_core.specs.declared.rule.Register.{Register}
use Rattle.rule_core.specs.declared.rule.Term.{Term}
use Rattle.rule_core.specs.declared.rule.Node.{Node}
use Rattle.rule_core.specs.declared.rule.Node.TheVariants as nodes

-- the node at the place is an operand of this node
abbrev pub IsOperandOf : ℕ → Node → Type 0
IsOperandOf a (nodes.Unary function b) = a ≡ b
IsOperandOf a (nodes.Binary op b c) = (a ≡ b) ⊎ (a ≡ c)
IsOperandOf a node = ⊥

-- node m stands in the term whose last node is n: it is that node, or stands in the term of an operand
pub data StandsIn (terms : List Term) (m : ℕ) : ℕ → Type 0 where
  itself : StandsIn terms m m
  operand : {n : ℕ} (a : ℕ) (t : Term) → slice_get terms n ≡ Some t → IsOperandOf a t.node → StandsIn terms m a → StandsIn terms m n

-- the term names the width of the register
abbrev pub NamesWidth : List Term → ℕ → Register → Type 0
NamesWidth terms n r = (m c : ℕ) × (t : Term) × StandsIn terms m n × (slice_get terms m ≡ Some t) × (t.node ≡ nodes.Width r c)

-- the nodes from `first` to `last` have no operand before `first`
abbrev pub OwnsOperands : List Term → ℕ → ℕ → Type 0
OwnsOperands terms first last = (n a : ℕ) (t : Term) → first ≤ n → n ≤ last → slice_get terms n ≡ Some t → IsOperandOf a t.node → first ≤ a

-- from node `first` on the nodes are those of whole terms, one behind the other, of which these are the last nodes
abbrev pub AreLastNodes : List Term → ℕ → List ℕ → Type 0
AreLastNodes terms first [] = first ≡ length terms
AreLastNodes terms first (last ∷ others) = (first ≤ last) × OwnsOperands terms first last × AreLastNodes terms (suc last) others
