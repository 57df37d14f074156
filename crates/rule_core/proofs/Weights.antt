-- How many nodes a rule has at most, from its count of operands, names, literals, operators and functions.
use Rattle.rule_core.proofs.Common.{ℕ, ◌+◌, ◌≤◌, List, [], ◌∷◌, length, length-append, arith, sum_by, sum_by-cons, Rule, Node, Formula, terms_in, IsRule, node_weight, term_weight, formula_weight}
use Rattle.rule_core.specs.declared.rule.Node.TheVariants as nodes
use Rattle.rule_core.specs.declared.rule.Formula.TheVariants as formulas

counted : {X : Type 0} (f : X → ℕ) (xs : List X) → ((x : X) → 1 ≤ f x) → length xs ≤ sum_by f xs
counted f [] some = omega arith
counted f (x ∷ xs) some = omega (arith, counted f xs some, some x, sum_by-cons f x xs)

node_counts : (node : Node) → 1 ≤ node_weight node
node_counts (nodes.Width r c) = omega arith
node_counts node = omega arith

formula_counts : (formula : Formula) → 1 ≤ formula_weight formula
formula_counts (formulas.HasOneUse j) = omega arith
formula_counts formula = omega arith

-- the nodes of the terms and of the precondition are at most 256
pub few_terms : (rule : Rule) → IsRule rule → length rule.terms + length rule.witness_terms ≤ 256
few_terms rule checked =
    omega (arith, checked.few_nodes, counted term_weight (terms_in rule) (λ t. node_counts t.node), length-append rule.terms rule.witness_terms)

pub few_formulas : (rule : Rule) → IsRule rule → length rule.precondition ≤ 256
few_formulas rule checked = omega (arith, checked.few_nodes, counted formula_weight rule.precondition formula_counts)
