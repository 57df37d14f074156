-- The order of a term's nodes.
use Rattle.std.specs.Prelude.{◌≡◌, ℕ, ◌<◌, List, length, slice_get, Some}
use Rattle.rule_tokens.specs.Limits.{Limits}
use Rattle.rule_tokens.specs.Tokens.{Token}
use Rattle.rule_terms.specs.declared.place.TermPlace.{TermPlace}
use Rattle.rule_terms.specs.declared.raw.RawNode.{RawNode}
use Rattle.rule_terms.specs.declared.raw.RawNode.TheVariants.{Unary, Binary}
use Rattle.rule_terms.specs.Grammar.{SpellsWholeTerm}

-- the operands of node k are nodes before it
abbrev pub IsBehindOperands : ℕ → RawNode → Type 0
IsBehindOperands k (Unary function a) = a < k
IsBehindOperands k (Binary op a b) = (a < k) × (b < k)
IsBehindOperands k node = Unit {0}

-- what the grammar spells as a term has a node or more, each behind its operands
abbrev pub NodesStandBehindOperands : Type 0
NodesStandBehindOperands = (limits : Limits) (place : TermPlace) (nesting : ℕ) (nodes : List RawNode) (tokens : List Token) → SpellsWholeTerm limits place nesting nodes tokens
    → (0 < length nodes) × ((k : ℕ) (node : RawNode) → slice_get nodes k ≡ Some node → IsBehindOperands k node)
