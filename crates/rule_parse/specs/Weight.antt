-- How many operands, literals, names, operators and functions a rule as written has.
use Rattle.std.specs.Prelude.{ℕ, ◌+◌, ◌++◌, sum_by}
use Rattle.rule_parse.specs.declared.raw.RawRule.{RawRule}
use Rattle.rule_parse.specs.declared.raw.RawArgument.{RawArgument}
use Rattle.rule_parse.specs.declared.raw.RawArgument.TheVariants as raw_arguments
use Rattle.rule_terms.specs.declared.raw.RawNode.{RawNode}
use Rattle.rule_terms.specs.declared.raw.RawNode.TheVariants as raw_nodes
use Rattle.rule_terms.specs.declared.raw.RawFormula.{RawFormula}
use Rattle.rule_terms.specs.declared.raw.RawFormula.TheVariants as raw_formulas
use Rattle.rule_parse.specs.Contents.{arguments_among, terms_of, expressions_of, formula_of}

-- an operand counts once, but for a term, whose nodes count
abbrev pub argument_weight : RawArgument → ℕ
argument_weight (raw_arguments.Term t) = 0
argument_weight argument = 1

-- a node counts once, and `width( )` once more for its register
abbrev pub node_weight : RawNode → ℕ
node_weight (raw_nodes.Width name) = 2
node_weight node = 1

abbrev pub formula_weight : RawFormula → ℕ
formula_weight (raw_formulas.HasOneUse name) = 2
formula_weight (raw_formulas.MaskedValueIsZero name a) = 2
formula_weight (raw_formulas.IsKnownNonZero name) = 2
formula_weight formula = 1

-- the count of a whole rule
abbrev pub raw_weight : RawRule → ℕ
raw_weight raw =
    sum_by argument_weight (arguments_among (raw.source ++ raw.target)) + sum_by (λ t. sum_by node_weight t) (terms_of raw ++ expressions_of raw)
    + sum_by formula_weight (formula_of raw)
