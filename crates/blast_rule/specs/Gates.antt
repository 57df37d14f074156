-- How many gates a rule's circuit has at most at a typing.
use Rattle.std.specs.Prelude.{ℕ, ◌+◌, ◌*◌, ◌-◌, List, length, map, sum_by, slice_index, slice_get}
use Rattle.std.specs.Option.{option_map_or}
use Rattle.circuits.specs.Gates.{equality_gates, select_gates}
use Rattle.rule_core.specs.declared.rule.Rule.{Rule}
use Rattle.rule_core.specs.declared.rule.Statement.{Statement}
use Rattle.rule_core.specs.declared.rule.Op.{Op}
use Rattle.rule_core.specs.declared.rule.Op.TheVariants.{Binary, Compare, Unary, Select, Convert, Freeze, Copy}
use Rattle.rule_core.specs.Positions.{classes_of_statement}
use Rattle.blast_value.specs.declared.instruction.Instruction.TheVariants as instructions
use Rattle.blast_value.specs.Gates.{gates_of, greatest}
use Rattle.blast_value.specs.Laws.{bound}
use Rattle.blast_term.specs.Gates.{terms_gates, numbers_gates, choices_gates, precondition_gates, facts_gates, term_bound, formula_bound, choice_bound}

-- An operation with a result of iN: the circuit of its instruction, which for a comparison and a cast is over the width
-- of the operands; a freeze has one gate for each bit, and a copy none.
abbrev pub op_gates : List ℕ → ℕ → Op → ℕ
op_gates typing N (Binary op flags a b) = gates_of (instructions.Binary op flags) N N
op_gates typing N (Compare pred samesign a b) = gates_of (instructions.Compare pred samesign) N (slice_index typing a.class)
op_gates typing N (Unary op truth a) = gates_of (instructions.Unary op truth) N N
op_gates typing N (Select c a b) = gates_of instructions.Select N N
op_gates typing N (Convert cast flags a to) = gates_of (instructions.Convert cast flags) N (slice_index typing a.class)
op_gates typing N (Freeze a k) = select_gates N
op_gates typing N (Copy a) = 0

-- a statement: its operation, and one gate for whether it or a statement before it has undefined behaviour
abbrev pub statement_gates : List ℕ → Statement → ℕ
statement_gates typing s = op_gates typing (slice_index typing s.class) s.op + 1

-- statements that run one after the other
abbrev pub run_gates : List ℕ → List Statement → ℕ
run_gates typing statements = sum_by (statement_gates typing) statements

-- the root's statement, the last of the source
abbrev pub root_gates : Rule → List ℕ → ℕ
root_gates rule typing = option_map_or (statement_gates typing) (slice_get rule.source (length rule.source - 1)) 0

-- whether one effect of iN doesn't allow another: whether the numbers are equal, and four gates for poison and
-- undefined behaviour
abbrev pub refusal_gates : ℕ → ℕ
refusal_gates N = equality_gates N + 4

-- the width of the root: that of the last source statement's result
abbrev pub root_width : Rule → List ℕ → ℕ
root_width rule typing = option_map_or (λ s. slice_index typing s.class) (slice_get rule.source (length rule.source - 1)) 0

-- the widths of the nodes of a rule's terms, and of the expressions of its `Wit:`
abbrev pub widths_of_terms : Rule → List ℕ → List ℕ
widths_of_terms rule typing = map (λ t. slice_index typing t.class) rule.terms

abbrev pub widths_of_witness : Rule → List ℕ → List ℕ
widths_of_witness rule typing = map (λ t. slice_index typing t.class) rule.witness_terms

-- what the constants determine: the constant terms, their numbers, and the precondition
abbrev pub given_gates : Rule → List ℕ → ℕ
given_gates rule typing =
    terms_gates typing rule.terms + numbers_gates (widths_of_terms rule typing) + precondition_gates (widths_of_terms rule typing) rule.precondition

-- the numbers that `Wit:` chooses
abbrev pub witness_gates : Rule → List ℕ → ℕ
witness_gates rule typing = terms_gates typing rule.witness_terms + choices_gates (widths_of_witness rule typing) rule.witnesses

-- the statements of both halves, where the source's temporaries are built once for both, and one gate for whether a
-- temporary or the target has undefined behaviour
abbrev pub halves_gates : Rule → List ℕ → ℕ
halves_gates rule typing = run_gates typing rule.source + run_gates typing rule.target + 1

-- what the precondition says of bits
abbrev pub said_gates : Rule → List ℕ → ℕ
said_gates rule typing = facts_gates (widths_of_terms rule typing) rule.precondition

-- A rule: its terms and precondition, what `Wit:` chooses, both halves, what the precondition says of bits, whether the
-- source's effect allows the target's, and one for whether the precondition holds then.
abbrev pub most_gates : Rule → List ℕ → ℕ
most_gates rule typing =
    given_gates rule typing + witness_gates rule typing + halves_gates rule typing + said_gates rule typing + refusal_gates (root_width rule typing) + 1

-- the greatest width of a statement's result and operands
abbrev pub greatest_width : List ℕ → Statement → ℕ
greatest_width typing s = greatest (map (slice_index typing) (classes_of_statement s))

-- the bound of an operation: 64 gates for each bit of iN, and for a product, a quotient or a remainder 64 more for each
-- pair of bits
abbrev pub op_bound : Op → ℕ → ℕ
op_bound (Binary op flags a b) N = bound (instructions.Binary op flags) N
op_bound op N = 64 * N

-- the bound of a statement at the greatest of its widths
abbrev pub statement_bound : List ℕ → Statement → ℕ
statement_bound typing s = op_bound s.op (greatest_width typing s)

-- the bound of a rule: the sum of those of its statements, of the nodes of its terms, of its `Wit:` and of its
-- precondition, and of the choices of its source
abbrev pub rule_bound : Rule → List ℕ → ℕ
rule_bound rule typing =
    sum_by (statement_bound typing) rule.source + sum_by (statement_bound typing) rule.target
    + sum_by (term_bound typing) rule.terms + sum_by (term_bound typing) rule.witness_terms
    + sum_by (formula_bound (widths_of_terms rule typing)) rule.precondition + sum_by (choice_bound (widths_of_witness rule typing)) rule.witnesses
