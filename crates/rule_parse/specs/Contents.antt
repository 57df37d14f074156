-- The operands, terms and formulas that stand in a rule as written.
use Rattle.std.specs.Prelude.{List, [], ◌∷◌, ◌++◌, flat_map}
use Rattle.std.specs.Option.{option_map_or}
use Rattle.rule_parse.specs.declared.raw.RawRule.{RawRule}
use Rattle.rule_parse.specs.declared.raw.RawStatement.{RawStatement}
use Rattle.rule_parse.specs.declared.raw.RawOp.{RawOp}
use Rattle.rule_parse.specs.declared.raw.RawOp.TheVariants as raw_ops
use Rattle.rule_parse.specs.declared.raw.RawArgument.{RawArgument}
use Rattle.rule_parse.specs.declared.raw.RawArgument.TheVariants as raw_arguments
use Rattle.rule_terms.specs.declared.raw.RawNode.{RawNode}
use Rattle.rule_terms.specs.declared.raw.RawFormula.{RawFormula}
use Rattle.rule_terms.specs.declared.raw.RawFormula.TheVariants as raw_formulas

-- the operands of a statement, from left to right
abbrev pub arguments_of : RawOp → List RawArgument
arguments_of (raw_ops.Binary op flags a b) = a.value ∷ b.value ∷ []
arguments_of (raw_ops.Compare pred samesign a b) = a.value ∷ b.value ∷ []
arguments_of (raw_ops.Unary op truth a) = a.value ∷ []
arguments_of (raw_ops.Select c a b) = c.value ∷ a.value ∷ b.value ∷ []
arguments_of (raw_ops.Convert cast flags a to) = a.value ∷ []
arguments_of (raw_ops.Freeze a) = a.value ∷ []
arguments_of (raw_ops.Copy a) = a.value ∷ []

-- the operands of statements, in the order of the text
abbrev pub arguments_among : List RawStatement → List RawArgument
arguments_among statements = flat_map (λ s. arguments_of s.op) statements

-- the nodes of the formula
abbrev pub formula_of : RawRule → List RawFormula
formula_of raw = option_map_or (λ p. p.formula) raw.precondition []

-- the expressions of `Wit:`
abbrev pub expressions_of : RawRule → List (List RawNode)
expressions_of raw = option_map_or (λ w. w.expressions) raw.witness []

-- the term that an operand is, if it is one
abbrev pub terms_of_argument : RawArgument → List (List RawNode)
terms_of_argument (raw_arguments.Term t) = t ∷ []
terms_of_argument argument = []

-- the terms of a node of a formula, from left to right
abbrev pub terms_of_formula : RawFormula → List (List RawNode)
terms_of_formula (raw_formulas.Compare pred a b) = a ∷ b ∷ []
terms_of_formula (raw_formulas.IsPowerOfTwo a) = a ∷ []
terms_of_formula (raw_formulas.IsSignBit a) = a ∷ []
terms_of_formula (raw_formulas.MaskedValueIsZero name a) = a ∷ []
terms_of_formula formula = []

-- the terms of the target
abbrev pub target_terms : RawRule → List (List RawNode)
target_terms raw = flat_map terms_of_argument (arguments_among raw.target)

-- the constant terms: those of the target, and then those of the precondition
abbrev pub terms_of : RawRule → List (List RawNode)
terms_of raw = target_terms raw ++ flat_map terms_of_formula (formula_of raw)
