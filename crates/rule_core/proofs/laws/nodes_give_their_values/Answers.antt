use Rattle.rule_core.proofs.Common.{◌≡◌, ℕ, ◌<◌, List, [], length, refl, ap, ◌∙◌, zero-add, slice_index, no_flags, instruction, Value, Poison, Node, Meanings, ReadsBefore, value_at, value_given, function_value, node_gives, term_value}
use Rattle.rule_core.specs.declared.rule.Node.TheVariants as nodes
use Rattle.rule_core.proofs.Turns.{in_turn-length, settled}
use Rattle.rule_core.proofs.laws.nodes_give_their_values.Goals as goal

-- what a node gives is the same from values that agree at its operands
agree : (typing : List ℕ) (names : Meanings) (some all : List Value) (n N : ℕ) (node : Node) → ((j : ℕ) → j < n → value_at some j ≡ value_at all j) → ReadsBefore n node
    → node_gives typing names some N node ≡ node_gives typing names all N node
agree typing names some all n N (nodes.Unary function a) same before = ap (function_value function N) (same a before)
agree typing names some all n N (nodes.Binary op a b) same before =
    let left : value_at some a ≡ value_at all a = same a before.0 in
    let right : value_at some b ≡ value_at all b = same b before.1 in
    ap (λ v. value_given (instruction op no_flags N v (value_at some b))) left ∙ ap (λ v. value_given (instruction op no_flags N (value_at all a) v)) right
agree typing names some all n N node same before = refl

pub returns : goal.returns
returns c = λ typing names terms before. (
  in_turn-length (term_value typing names) [] terms ∙ zero-add (length terms),
  λ n t at. settled (term_value typing names) terms n t at
      (λ some all same. agree typing names some all n (slice_index typing t.class) t.node (λ j less. same j Poison less) (before n t at)),
)
