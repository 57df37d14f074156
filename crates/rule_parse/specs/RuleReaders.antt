-- The parser of rules, as functions over tokens: what the first tokens spell and the tokens that are left, or the fault
-- of the first token that does not fit.
use Rattle.std.specs.Prelude.{ℕ, zero, suc, Bool, true, false, if◌then◌else◌, List, [], ◌∷◌, ◌++◌, length, drop, Option, None, Some, Result, Ok, Err, codes}
use Rattle.std.specs.Str.{bytes_eq}
use Rattle.ops.specs.declared.opcode.Opcode.{Opcode}
use Rattle.ops.specs.declared.opcode.Unary.{Unary as Intrinsic}
use Rattle.ops.specs.declared.opcode.Flags.{Flags}
use Rattle.ops.specs.declared.comparison.Pred.{Pred}
use Rattle.ops.specs.declared.conversion.Cast.{Cast}
use Rattle.ops.specs.Flags.{no_flags, flags_of, flags_of_cast, flags_of_icmp}
use Rattle.ops.specs.declared.keywords.flag.Flag.{Flag}
use Rattle.ops.specs.Keywords.{pred_in}
use Rattle.ops.specs.FlagKeywords.{flag_in, has_flag, with_flag}
use Rattle.rule_tokens.specs.declared.fault.RuleFaultKind.TheVariants.{Syntax, TooMany}
use Rattle.rule_tokens.specs.RuleFaults.{RuleFault}
use Rattle.rule_parse.specs.declared.half.Half.{Half}
use Rattle.rule_parse.specs.declared.half.Half.TheVariants.{Source, Target}
use Rattle.rule_parse.specs.declared.raw.RawRule.{RawRule}
use Rattle.rule_parse.specs.declared.raw.RawStatement.{RawStatement}
use Rattle.rule_parse.specs.declared.raw.RawPrecondition.{RawPrecondition}
use Rattle.rule_parse.specs.declared.raw.RawWitness.{RawWitness}
use Rattle.rule_parse.specs.declared.raw.RawOp.{RawOp}
use Rattle.rule_parse.specs.declared.raw.RawOp.TheVariants.{Binary, Compare, Unary, Select, Convert, Freeze, Copy}
use Rattle.rule_parse.specs.declared.raw.RawOperand.{RawOperand}
use Rattle.rule_parse.specs.declared.raw.RawArgument.{RawArgument}
use Rattle.rule_parse.specs.declared.raw.RawArgument.TheVariants as arguments
use Rattle.rule_parse.specs.declared.word.Operation.{Operation}
use Rattle.rule_parse.specs.declared.word.Operation.TheVariants as operations
use Rattle.rule_terms.specs.declared.raw.RawNode.{RawNode}
use Rattle.rule_terms.specs.declared.place.TermPlace.TheVariants.{Constant, Witness}
use Rattle.rule_terms.specs.TermReaders.{mark_at, term_at}
use Rattle.rule_terms.specs.FormulaReaders.{formula_at}
use Rattle.rule_terms.specs.Chains.{Reader, chain_at}
use Rattle.scan.specs.RuleTokens.{is_constant}
use Rattle.rule_tokens.specs.Steps.{◌>>=◌}
use Rattle.rule_tokens.specs.PartReaders.{Read, fault, unexpected, misplaced_word, left_out, or_left_out, name_within, type_at, maybe_type, line_end}
use Rattle.rule_tokens.specs.Numbers.{literal_value}
use Rattle.rule_tokens.specs.Tokens.{Token, Line, Head, Name, Register, Word, Opcode as OpcodeToken, Number, Arrow}
use Rattle.rule_parse.specs.Keywords.{operation_in, is_truth_flag, source_word_in, argument_of}
use Rattle.rule_tokens.specs.declared.version.Version.{Version}
use Rattle.rule_tokens.specs.declared.version.Version.TheVariants.{One}
use Rattle.rule_tokens.specs.Limits.{Limits}
use Rattle.rule_tokens.specs.Versions.{version_in}

-- ---- operands

-- a register
abbrev pub register_at : Limits → ℕ → List ℕ → List Token → Read RawArgument
register_at limits line name rest = name_within limits line name >>= λ held. Ok (arguments.Register held, rest)

-- a word of the source: a constant, `true`, `false` or `undef`
abbrev pub known_or_misplaced : ℕ → List ℕ → Option RawArgument → Result RawArgument RuleFault
known_or_misplaced line word (Some value) = Ok value
known_or_misplaced line word None = Err (misplaced_word line word)

unfoldable pub source_word : Limits → ℕ → List ℕ → Result RawArgument RuleFault
source_word limits line word =
    if is_constant word then (name_within limits line word >>= λ held. Ok (arguments.Constant held))
    else known_or_misplaced line word (source_word_in word)

-- a constant term as an operand
abbrev pub term_argument_at : Limits → ℕ → List Token → Read RawArgument
term_argument_at limits line tokens = term_at limits Constant limits.nested line tokens >>= λ term. Ok (argument_of term.0, term.1)

-- an operand without a type before it
unfoldable pub argument_at : Limits → Half → ℕ → List Token → Read RawArgument
argument_at limits Source line (Register name ∷ rest) = register_at limits line name rest
argument_at limits Source line (Number text ∷ rest) = Ok (arguments.Literal (literal_value text), rest)
argument_at limits Source line (Word word ∷ rest) = source_word limits line word >>= λ value. Ok (value, rest)
argument_at limits Source line tokens = Err (unexpected line tokens)
argument_at limits Target line (Register name ∷ rest) = register_at limits line name rest
argument_at limits Target line (Word word ∷ rest) =
    if bytes_eq word (codes "undef") then Ok (arguments.Undef, rest) else term_argument_at limits line (Word word ∷ rest)
argument_at limits Target line tokens = term_argument_at limits line tokens

-- an operand behind the type that was read, if one was
unfoldable pub typed_at : Limits → Half → ℕ → Option ℕ → List Token → Read RawOperand
typed_at limits half line written tokens = argument_at limits half line tokens >>= λ value. Ok (record { written = written; value = value.0 }, value.1)

-- an operand, with an optional type before it
abbrev pub operand_at : Limits → Half → ℕ → List Token → Read RawOperand
operand_at limits half line tokens = typed_at limits half line (maybe_type tokens).0 (maybe_type tokens).1

-- `to` and a type, optional, and the end of the line
unfoldable pub to_at : ℕ → List Token → Read (Option ℕ)
to_at line (Word word ∷ rest) =
    if bytes_eq word (codes "to")
    then (type_at line rest >>= λ width. line_end line width.1 >>= λ behind. Ok (Some width.0, behind))
    else Err (fault line Syntax)
to_at line tokens = line_end line tokens >>= λ rest. Ok (None, rest)

-- ---- flags

-- the flag that is next, if it is one that the instruction takes
abbrev pub next_flag : Flags → List Token → Option Flag
next_flag taken (Word word ∷ rest) = flag_in taken word
next_flag taken tokens = None

-- the flags so far where no flag is next, and else more of them; a repeated flag is a fault
abbrev pub flag_or_end : ℕ → Flags → Option Flag → (Flags → Read Flags) → List Token → Read Flags
flag_or_end line before None others tokens = Ok (before, tokens)
flag_or_end line before (Some flag) others tokens = if has_flag before flag then Err (fault line Syntax) else others (with_flag before flag)

unfoldable pub flags_at : Flags → ℕ → Flags → List Token → Read Flags
flags_at taken line before [] = Ok (before, [])
flags_at taken line before (token ∷ rest) =
    flag_or_end line before (next_flag taken (token ∷ rest)) (λ flags. flags_at taken line flags rest) (token ∷ rest)

-- ---- what a statement computes

-- two operands with one type before them, and the end of the line
unfoldable pub pair_at : Limits → Half → ℕ → List Token → Read (RawOperand × RawOperand)
pair_at limits half line tokens = do
  left ← operand_at limits half line tokens
  behind ← mark_at (codes ",") line left.1
  right ← typed_at limits half line None behind
  rest ← line_end line right.1
  Ok ((left.0, right.0), rest)

-- a binary operation, behind its opcode
unfoldable pub binary_at : Limits → Half → ℕ → Opcode → List Token → Read RawOp
binary_at limits half line op tokens = do
  flags ← flags_at (flags_of op) line no_flags tokens
  pair ← pair_at limits half line flags.1
  Ok (Binary op flags.0 pair.0.0 pair.0.1, pair.1)

-- a predicate
unfoldable pub pred_at : ℕ → List Token → Read Pred
pred_at line (Word word ∷ rest) = or_left_out line word (pred_in word) rest
pred_at line tokens = Err (unexpected line tokens)

-- a comparison, behind `icmp`
unfoldable pub compare_at : Limits → Half → ℕ → List Token → Read RawOp
compare_at limits half line tokens = do
  flags ← flags_at flags_of_icmp line no_flags tokens
  pred ← pred_at line flags.1
  pair ← pair_at limits half line pred.1
  Ok (Compare pred.0 flags.0.samesign pair.0.0 pair.0.1, pair.1)

-- the flag is next by which the truth value of the intrinsic is true
abbrev pub is_truth_next : Intrinsic → List Token → Bool
is_truth_next op (Word word ∷ rest) = is_truth_flag op word
is_truth_next op tokens = false

-- the truth value of an intrinsic: true where its flag is next, which may not be repeated
unfoldable pub truth_at : Intrinsic → ℕ → List Token → Read Bool
truth_at op line tokens =
    if is_truth_next op tokens
    then (if is_truth_next op (drop 1 tokens) then Err (fault line Syntax) else Ok (true, drop 1 tokens))
    else Ok (false, tokens)

-- an intrinsic on one operand, behind its opcode
unfoldable pub unary_at : Limits → Half → ℕ → Intrinsic → List Token → Read RawOp
unary_at limits half line op tokens = do
  truth ← truth_at op line tokens
  operand ← operand_at limits half line truth.1
  rest ← line_end line operand.1
  Ok (Unary op truth.0 operand.0, rest)

-- the operands of a `select`, behind its opcode
unfoldable pub select_at : Limits → Half → ℕ → List Token → Read RawOp
select_at limits half line tokens = do
  condition ← operand_at limits half line tokens
  first ← mark_at (codes ",") line condition.1
  if_true ← operand_at limits half line first
  second ← mark_at (codes ",") line if_true.1
  if_false ← operand_at limits half line second
  rest ← line_end line if_false.1
  Ok (Select condition.0 if_true.0 if_false.0, rest)

-- a cast, behind its opcode
unfoldable pub convert_at : Limits → Half → ℕ → Cast → List Token → Read RawOp
convert_at limits half line cast tokens = do
  flags ← flags_at (flags_of_cast cast) line no_flags tokens
  from ← operand_at limits half line flags.1
  to ← to_at line from.1
  Ok (Convert cast flags.0 from.0 to.0, to.1)

-- a freeze, behind its opcode
unfoldable pub freeze_at : Limits → Half → ℕ → List Token → Read RawOp
freeze_at limits half line tokens = do
  operand ← operand_at limits half line tokens
  rest ← line_end line operand.1
  Ok (Freeze operand.0, rest)

-- a copy
unfoldable pub copy_at : Limits → ℕ → List Token → Read RawOp
copy_at limits line tokens = do
  operand ← operand_at limits Target line tokens
  rest ← line_end line operand.1
  Ok (Copy operand.0, rest)

-- what an operation reads behind its opcode
abbrev pub operation_at : Limits → Half → ℕ → Operation → List Token → Read RawOp
operation_at limits half line (operations.Binary op) tokens = binary_at limits half line op tokens
operation_at limits half line operations.Compare tokens = compare_at limits half line tokens
operation_at limits half line (operations.Unary op) tokens = unary_at limits half line op tokens
operation_at limits half line operations.Select tokens = select_at limits half line tokens
operation_at limits half line (operations.Convert cast) tokens = convert_at limits half line cast tokens
operation_at limits half line operations.Freeze tokens = freeze_at limits half line tokens

-- what has no opcode: in the target a copy, in the source a fault
abbrev pub other_at : Limits → Half → ℕ → List Token → Read RawOp
other_at limits Source line tokens = Err (left_out line tokens)
other_at limits Target line tokens = copy_at limits line tokens

-- the operation of the version whose opcode is next
abbrev pub next_operation : Version → List Token → Option Operation
next_operation version (Word word ∷ rest) = operation_in version false word
next_operation version (OpcodeToken word ∷ rest) = operation_in version true word
next_operation version tokens = None

-- by its opcode, if one is next
abbrev pub operation_or_other : Limits → Half → ℕ → Option Operation → List Token → Read RawOp
operation_or_other limits half line (Some operation) tokens = operation_at limits half line operation (drop 1 tokens)
operation_or_other limits half line None tokens = other_at limits half line tokens

unfoldable pub op_at : Limits → Version → Half → ℕ → List Token → Read RawOp
op_at limits version half line tokens = operation_or_other limits half line (next_operation version tokens) tokens

-- a statement, behind the register that it assigns
unfoldable pub statement_at : Limits → Version → Half → ℕ → List ℕ → List Token → Read RawStatement
statement_at limits version half line register tokens = do
  name ← name_within limits line register
  behind ← mark_at (codes "=") line tokens
  op ← op_at limits version half line behind
  Ok (record { line = line; name = name; op = op.0 }, op.1)

-- Statements, as long as a line begins with a register; `room` is how many there may be.
unfoldable pub statements_at : Limits → Version → ℕ → Half → List Token → Read (List RawStatement)
statements_at limits version zero half (Line line ∷ Register name ∷ rest) = Err (fault line TooMany)
statements_at limits version (suc room) half (Line line ∷ Register name ∷ rest) = do
  first ← statement_at limits version half line name rest
  others ← statements_at limits version room half first.1
  Ok (first.0 ∷ others.0, others.1)
statements_at limits version room half tokens = Ok ([], tokens)

-- no statement is next
abbrev pub IsNoStatement : List Token → Type 0
IsNoStatement (Line line ∷ Register name ∷ rest) = ⊥
IsNoStatement tokens = Unit {0}

-- ---- the lines of a rule; `last` is the text's last line

-- the fault of the token that begins the next line, or, where there is no such line, one on the text's last line
abbrev pub unexpected_line : ℕ → List Token → RuleFault
unexpected_line last (Line line ∷ tokens) = unexpected line tokens
unexpected_line last tokens = unexpected last tokens

-- a rule's name, behind `Name:`
abbrev pub name_text : Limits → ℕ → List Token → Read (List ℕ)
name_text limits line (Name [] ∷ rest) = Err (fault line Syntax)
name_text limits line (Name (b ∷ text) ∷ rest) = name_within limits line (b ∷ text) >>= λ name. Ok (name, rest)
name_text limits line tokens = Err (unexpected line tokens)

-- the line of `Name:`: its number, and the name
unfoldable pub name_at : Limits → ℕ → List Token → Read (ℕ × List ℕ)
name_at limits last (Line line ∷ Head head ∷ rest) =
    if bytes_eq head (codes "Name:") then (name_text limits line rest >>= λ name. Ok ((line, name.0), name.1)) else Err (fault line Syntax)
name_at limits last tokens = Err (unexpected_line last tokens)

-- `Pre:` and its formula, optional
abbrev pub behind_precondition : Limits → ℕ → List Token → Read (Option RawPrecondition)
behind_precondition limits line tokens = formula_at limits line tokens >>= λ formula. Ok (Some (record { line = line; formula = formula.0 }), formula.1)

unfoldable pub precondition_at : Limits → List Token → Read (Option RawPrecondition)
precondition_at limits (Line line ∷ Head head ∷ rest) = if bytes_eq head (codes "Pre:") then behind_precondition limits line rest else Ok (None, Line line ∷ Head head ∷ rest)
precondition_at limits tokens = Ok (None, tokens)

-- one expression of `Wit:`, added to those before
abbrev pub expression_at : Limits → ℕ → Reader (List (List RawNode))
expression_at limits line before tokens = term_at limits Witness limits.nested line tokens >>= λ term. Ok (before ++ term.0 ∷ [], term.1)

abbrev pub more_expressions : Limits → ℕ → Reader (List (List RawNode))
more_expressions limits line before tokens = chain_at (codes ",") (expression_at limits line) before tokens

-- expressions with `,` between them, and the end of the line
unfoldable pub expressions_at : Limits → ℕ → List Token → Read (List (List RawNode))
expressions_at limits line tokens = do
  first ← expression_at limits line [] tokens
  all ← more_expressions limits line first.0 first.1
  rest ← line_end line all.1
  Ok (all.0, rest)

-- `Wit:` and its expressions, optional
abbrev pub behind_witness : Limits → ℕ → List Token → Read (Option RawWitness)
behind_witness limits line tokens = expressions_at limits line tokens >>= λ all. Ok (Some (record { line = line; expressions = all.0 }), all.1)

unfoldable pub witness_at : Limits → List Token → Read (Option RawWitness)
witness_at limits (Line line ∷ Head head ∷ rest) = if bytes_eq head (codes "Wit:") then behind_witness limits line rest else Ok (None, Line line ∷ Head head ∷ rest)
witness_at limits tokens = Ok (None, tokens)

-- the source: one statement or more
unfoldable pub source_at : Limits → Version → ℕ → List Token → Read (List RawStatement)
source_at limits version last (Line line ∷ Register name ∷ rest) = statements_at limits version limits.statements Source (Line line ∷ Register name ∷ rest)
source_at limits version last tokens = Err (unexpected_line last tokens)

-- the `=>` on a line of its own
unfoldable pub arrow_at : ℕ → List Token → Result (List Token) RuleFault
arrow_at last (Line line ∷ Arrow ∷ rest) = line_end line rest
arrow_at last tokens = Err (unexpected_line last tokens)

-- the target: one statement or more
unfoldable pub target_at : Limits → Version → ℕ → List Token → Read (List RawStatement)
target_at limits version last (Line line ∷ Register name ∷ rest) = statements_at limits version limits.statements Target (Line line ∷ Register name ∷ rest)
target_at limits version last tokens = Err (unexpected_line last tokens)

unfoldable pub rule_at : Limits → Version → ℕ → List Token → Read RawRule
rule_at limits version last tokens = do
  name ← name_at limits last tokens
  precondition ← precondition_at limits name.1
  witness ← witness_at limits precondition.1
  source ← source_at limits version last witness.1
  behind ← arrow_at last source.1
  target ← target_at limits version last behind
  Ok (record { line = name.0.0; name = name.0.1; precondition = precondition.0; witness = witness.0; source = source.0; target = target.0 }, target.1)

-- Rules up to the end of the tokens. At most n are read; as many as there are tokens is always enough.
unfoldable pub rules_at : Limits → Version → ℕ → ℕ → List Token → Result (List RawRule) RuleFault
rules_at limits version n last [] = Ok []
rules_at limits version zero last (token ∷ tokens) = Err (fault last Syntax)
rules_at limits version (suc n) last (token ∷ tokens) = do
  first ← rule_at limits version last (token ∷ tokens)
  others ← rules_at limits version n last first.1
  Ok (first.0 ∷ others)

-- ---- the whole file

-- the number behind `Version:`, and the end of the line
unfoldable pub version_number_at : ℕ → List Token → Read Version
version_number_at line (Number text ∷ rest) = or_left_out line text (version_in text) rest >>= λ version. line_end line version.1 >>= λ behind. Ok (version.0, behind)
version_number_at line tokens = Err (unexpected line tokens)

-- the version of the file: its first line says it, or it is 1
unfoldable pub version_at : List Token → Read Version
version_at (Line line ∷ Head head ∷ rest) = if bytes_eq head (codes "Version:") then version_number_at line rest else Ok (One, Line line ∷ Head head ∷ rest)
version_at tokens = Ok (One, tokens)

-- all rules of the tokens behind the version's line
abbrev pub rules_of : Limits → Version → ℕ → List Token → Result (List RawRule) RuleFault
rules_of limits version last tokens = rules_at limits version (length tokens) last tokens

-- all rules of a file
abbrev pub all_rules : Limits → ℕ → List Token → Result (List RawRule) RuleFault
all_rules limits last tokens = version_at tokens >>= λ version. rules_of limits version.0 last version.1
