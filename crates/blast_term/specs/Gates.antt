-- How many gates the circuits of terms and of a precondition have at most. Terms and formulas are lists of nodes, each
-- of which reads nodes before it.
use Rattle.std.specs.Prelude.{ℕ, ◌+◌, ◌*◌, List, length, sum_by, slice_index}
use Rattle.ops.specs.Flags.{no_flags}
use Rattle.ops.specs.declared.opcode.Opcode.TheVariants.{Sub, Xor}
use Rattle.circuits.specs.Gates.{any_gates, adder_gates, comparison_gates, equality_gates, select_gates}
use Rattle.rule_core.specs.declared.rule.Term.{Term}
use Rattle.rule_core.specs.declared.rule.Node.{Node}
use Rattle.rule_core.specs.declared.rule.Node.TheVariants as nodes
use Rattle.rule_core.specs.declared.rule.Function.{Function}
use Rattle.rule_core.specs.declared.rule.Function.TheVariants.{Negate, Not, Log2, Abs}
use Rattle.rule_core.specs.declared.rule.Formula.{Formula}
use Rattle.rule_core.specs.declared.rule.Formula.TheVariants as formulas
use Rattle.blast_value.specs.declared.instruction.Instruction.TheVariants as instructions
use Rattle.blast_value.specs.Gates.{opcode_gates, sharing_gates, sign_gates}
use Rattle.blast_value.specs.Laws.{bound}

-- the exponent of a power of two of iN: for each bit six gates for the number of its place, and two for whether it is
-- the only bit
abbrev pub power_gates : ℕ → ℕ
power_gates N = 8 * N

-- a function of terms, at iN
abbrev pub function_gates : Function → ℕ → ℕ
function_gates Negate N = opcode_gates Sub N + 1
function_gates Not N = opcode_gates Xor N + 1
function_gates Log2 N = power_gates N + 1
function_gates Abs N = comparison_gates N + adder_gates N + select_gates N

-- a node of iN: the number of a register, 0 where that is poison; the value of an operator, poison where its
-- instruction has undefined behaviour
abbrev pub node_gates : ℕ → Node → ℕ
node_gates N (nodes.Literal z) = 0
node_gates N (nodes.Constant k) = 0
node_gates N (nodes.Register r) = select_gates N
node_gates N (nodes.Choice k) = 0
node_gates N (nodes.Width r c) = 0
node_gates N (nodes.Unary function a) = function_gates function N
node_gates N (nodes.Binary op a b) = opcode_gates op N + 1

abbrev pub term_gates : List ℕ → Term → ℕ
term_gates typing t = node_gates (slice_index typing t.class) t.node

abbrev pub terms_gates : List ℕ → List Term → ℕ
terms_gates typing terms = sum_by (term_gates typing) terms

-- the numbers of values of these widths, 0 where a value is poison
abbrev pub numbers_gates : List ℕ → ℕ
numbers_gates widths = sum_by select_gates widths

-- the numbers of the values at these places, 0 where a value is poison
abbrev pub choices_gates : List ℕ → List ℕ → ℕ
choices_gates widths places = sum_by (λ n. select_gates (slice_index widths n)) places

-- a comparison of terms of iN; below, whether a term is a power of two, and whether it is the least signed number; each
-- with the test whether it is a number at all
abbrev pub comparing_gates : ℕ → ℕ
comparing_gates N = comparison_gates N + sign_gates + 1

abbrev pub power_test_gates : ℕ → ℕ
power_test_gates N = power_gates N + 1

abbrev pub sign_test_gates : ℕ → ℕ
sign_test_gates N = equality_gates N + 1

-- a node of a formula, which reads terms of these widths
abbrev pub formula_gates : List ℕ → Formula → ℕ
formula_gates widths (formulas.Compare pred a b) = comparing_gates (slice_index widths a)
formula_gates widths (formulas.IsPowerOfTwo a) = power_test_gates (slice_index widths a)
formula_gates widths (formulas.IsSignBit a) = sign_test_gates (slice_index widths a)
formula_gates widths (formulas.HasOneUse j) = 0
formula_gates widths (formulas.MaskedValueIsZero r a) = 0
formula_gates widths (formulas.IsKnownNonZero r) = 0
formula_gates widths (formulas.Not a) = 0
formula_gates widths (formulas.And a b) = 1
formula_gates widths (formulas.Or a b) = 1

abbrev pub formulas_gates : List ℕ → List Formula → ℕ
formulas_gates widths formulas = sum_by (formula_gates widths) formulas

-- a precondition: its formula, and for each term a gate for the test whether it has a value
abbrev pub precondition_gates : List ℕ → List Formula → ℕ
precondition_gates widths formulas = formulas_gates widths formulas + length widths

-- what a node says of bits: whether a register is poison or has a bit of a mask of iN, or of a word of at most i64, and
-- two for whether that need hold and whether all before it does
abbrev pub fact_gates : List ℕ → Formula → ℕ
fact_gates widths (formulas.MaskedValueIsZero r a) = sharing_gates (slice_index widths a) + 3
fact_gates widths (formulas.IsKnownNonZero r) = any_gates 64 + 3
fact_gates widths formula = 0

abbrev pub facts_gates : List ℕ → List Formula → ℕ
facts_gates widths formulas = sum_by (fact_gates widths) formulas

-- the bound of a node: 64 gates for each bit, and for a product, a quotient or a remainder 64 more for each pair of
-- bits
abbrev pub node_bound : Node → ℕ → ℕ
node_bound (nodes.Binary op a b) N = bound (instructions.Binary op no_flags) N
node_bound node N = 64 * N

-- the bound of a node at the width of its class
abbrev pub term_bound : List ℕ → Term → ℕ
term_bound typing t = node_bound t.node (slice_index typing t.class)

-- of a node of a formula and what it says of bits, over its operands' width, or over i1 where they are formulas, and
-- twice that where it is a register
abbrev pub formula_bound : List ℕ → Formula → ℕ
formula_bound widths (formulas.Compare pred a b) = 64 * slice_index widths a
formula_bound widths (formulas.IsPowerOfTwo a) = 64 * slice_index widths a
formula_bound widths (formulas.IsSignBit a) = 64 * slice_index widths a
formula_bound widths (formulas.MaskedValueIsZero r a) = 64 * slice_index widths a
formula_bound widths (formulas.IsKnownNonZero r) = 128
formula_bound widths formula = 64

-- the bound of the number that `Wit:` gives for a choice of the source
abbrev pub choice_bound : List ℕ → ℕ → ℕ
choice_bound widths n = 64 * slice_index widths n
