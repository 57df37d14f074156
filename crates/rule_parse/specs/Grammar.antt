-- The grammar of rule files over tokens. Each part stands on a line of its own.
use Rattle.std.specs.Prelude.{◌≡◌, ◌⊎◌, IsTrue, ℕ, ◌≤◌, Bool, true, false, List, [], ◌∷◌, ◌++◌, length, map, None, Some, codes}
use Rattle.ops.specs.declared.opcode.Flags.{Flags}
use Rattle.ops.specs.declared.opcode.Unary.{Unary as Intrinsic}
use Rattle.ops.specs.Flags.{no_flags, flags_of, flags_of_cast, flags_of_icmp, icmp_flags}
use Rattle.ops.specs.declared.keywords.flag.Flag.{Flag}
use Rattle.ops.specs.Keywords.{predicate_keyword}
use Rattle.ops.specs.FlagKeywords.{AddsFlags, flag_keyword}
use Rattle.scan.specs.Bytes.{are_digits}
use Rattle.scan.specs.RuleTokens.{is_constant}
use Rattle.rule_terms.specs.declared.raw.RawNode.{RawNode}
use Rattle.rule_terms.specs.declared.place.TermPlace.TheVariants.{Constant, Witness}
use Rattle.rule_terms.specs.Formulas.{SpellsWholeFormula}
use Rattle.rule_terms.specs.Grammar.{SpellsWholeTerm}
use Rattle.rule_parse.specs.declared.half.Half.{Half}
use Rattle.rule_parse.specs.declared.half.Half.TheVariants.{Source, Target}
use Rattle.rule_parse.specs.declared.word.Operation.{Operation}
use Rattle.rule_parse.specs.declared.word.Operation.TheVariants as operations
use Rattle.rule_parse.specs.declared.raw.RawRule.{RawRule}
use Rattle.rule_parse.specs.declared.raw.RawStatement.{RawStatement}
use Rattle.rule_parse.specs.declared.raw.RawPrecondition.{RawPrecondition}
use Rattle.rule_parse.specs.declared.raw.RawWitness.{RawWitness}
use Rattle.rule_parse.specs.declared.raw.RawOp.{RawOp}
use Rattle.rule_parse.specs.declared.raw.RawOp.TheVariants.{Binary, Compare, Unary, Select, Convert, Freeze, Copy}
use Rattle.rule_parse.specs.declared.raw.RawOperand.{RawOperand}
use Rattle.rule_parse.specs.declared.raw.RawArgument.{RawArgument}
use Rattle.rule_parse.specs.declared.raw.RawArgument.TheVariants as arguments
use Rattle.rule_tokens.specs.declared.version.Version.{Version}
use Rattle.rule_tokens.specs.declared.version.Version.TheVariants.{One}
use Rattle.rule_tokens.specs.Limits.{Limits}
use Rattle.rule_tokens.specs.TypeTokens.{SpellsType}
use Rattle.rule_tokens.specs.Numbers.{decimal_value, literal_value}
use Rattle.rule_tokens.specs.Parts.{Part, Is, Comma, Nothing, Never, ◌⨾◌, Maybe}
use Rattle.rule_tokens.specs.Tokens.{Token, Line, Head, Name, Register, Word, Number, Arrow, Mark}
use Rattle.rule_tokens.specs.Versions.{version_number}
use Rattle.rule_parse.specs.Keywords.{is_known, opcode_token, truth_flag, truth_word, argument_of}

-- a constant term, as the operand that it is
abbrev pub SpellsTermOperand : Limits → RawArgument → Part
SpellsTermOperand limits a tokens = (nodes : List RawNode) × SpellsWholeTerm limits Constant limits.nested nodes tokens × (a ≡ argument_of nodes)

-- o := REG | 'undef', and in the source CONST | literal | 'true' | 'false' too
abbrev pub SpellsArgument : Limits → Half → RawArgument → Part
SpellsArgument limits half (arguments.Register name) tokens = (length name ≤ limits.name_bytes) × Is (Register name) tokens
SpellsArgument limits half arguments.Undef tokens = Is (Word (codes "undef")) tokens
SpellsArgument limits Source (arguments.Literal z) tokens = (text : List ℕ) × (z ≡ literal_value text) × Is (Number text) tokens
SpellsArgument limits Source (arguments.Constant name) tokens = IsTrue (is_constant name) × (length name ≤ limits.name_bytes) × Is (Word name) tokens
SpellsArgument limits Source (arguments.Truth truth) tokens = Is (Word (truth_word truth)) tokens
SpellsArgument limits Source (arguments.Term nodes) tokens = ⊥
-- and in the target any constant term
SpellsArgument limits Target (arguments.Literal z) tokens = SpellsTermOperand limits (arguments.Literal z) tokens
SpellsArgument limits Target (arguments.Constant name) tokens = SpellsTermOperand limits (arguments.Constant name) tokens
SpellsArgument limits Target (arguments.Truth truth) tokens = ⊥
SpellsArgument limits Target (arguments.Term nodes) tokens = SpellsTermOperand limits (arguments.Term nodes) tokens

-- [type] o
abbrev pub SpellsOperand : Limits → Half → RawOperand → Part
SpellsOperand limits half a = Maybe SpellsType a.written ⨾ SpellsArgument limits half a.value

-- o, without a type before it
abbrev pub SpellsUntyped : Limits → Half → RawOperand → Part
SpellsUntyped limits half a tokens = (a.written ≡ None) × SpellsArgument limits half a.value tokens

-- [type] o ',' o
abbrev pub SpellsPair : Limits → Half → RawOperand → RawOperand → Part
SpellsPair limits half a b = SpellsOperand limits half a ⨾ Comma ⨾ SpellsUntyped limits half b

-- flag*, of those that the instruction takes, each at most once, in any order
abbrev pub SpellsFlags : Flags → Flags → Part
SpellsFlags taken flags tokens = (written : List Flag) × AddsFlags taken no_flags written flags × (tokens ≡ map (λ flag. Word (flag_keyword flag)) written)

-- [flag] by which the truth value of the intrinsic is true
abbrev pub SpellsTruth : Intrinsic → Bool → Part
SpellsTruth op false tokens = Nothing tokens
SpellsTruth op true tokens = (word : List ℕ) × (truth_flag op ≡ Some word) × Is (Word word) tokens

-- the opcode of an operation of the version
abbrev pub SpellsOpcode : Version → Operation → Part
SpellsOpcode version operation tokens = IsTrue (is_known operation version) × Is (opcode_token operation) tokens

-- 'to' type
abbrev pub SpellsTo : ℕ → Part
SpellsTo width = Is (Word (codes "to")) ⨾ SpellsType width

-- op := binop flag* [type] o ',' o
--     | 'icmp' flag* pred [type] o ',' o
--     | 'select' [type] o ',' [type] o ',' [type] o
--     | ('trunc' | 'zext' | 'sext') flag* [type] o ['to' type]
-- and from version 2 on 'freeze' [type] o
--     | ('umin' | 'umax' | 'smin' | 'smax') [type] o ',' o
--     | 'abs' ['minpoison'] [type] o | 'ctpop' [type] o | ('ctlz' | 'cttz') ['zeropoison'] [type] o
-- and in the target a copy: [type] o
abbrev pub SpellsOp : Limits → Version → Half → RawOp → Part
SpellsOp limits version half (Binary op flags a b) = SpellsOpcode version (operations.Binary op) ⨾ SpellsFlags (flags_of op) flags ⨾ SpellsPair limits half a b
SpellsOp limits version half (Compare pred samesign a b) =
    SpellsOpcode version operations.Compare ⨾ SpellsFlags flags_of_icmp (icmp_flags samesign) ⨾ Is (Word (predicate_keyword pred)) ⨾ SpellsPair limits half a b
SpellsOp limits version half (Unary op truth a) = SpellsOpcode version (operations.Unary op) ⨾ SpellsTruth op truth ⨾ SpellsOperand limits half a
SpellsOp limits version half (Select condition if_true if_false) =
    SpellsOpcode version operations.Select ⨾ SpellsOperand limits half condition ⨾ Comma ⨾ SpellsOperand limits half if_true ⨾ Comma ⨾ SpellsOperand limits half if_false
SpellsOp limits version half (Convert cast flags a to) =
    SpellsOpcode version (operations.Convert cast) ⨾ SpellsFlags (flags_of_cast cast) flags ⨾ SpellsOperand limits half a ⨾ Maybe SpellsTo to
SpellsOp limits version half (Freeze a) = SpellsOpcode version operations.Freeze ⨾ SpellsOperand limits half a
SpellsOp limits version Source (Copy a) = Never
SpellsOp limits version Target (Copy a) = SpellsOperand limits Target a

-- REG '=' op
pub record SpellsStatement (limits : Limits) (version : Version) (half : Half) (s : RawStatement) (tokens : List Token) : Type 0 where
  pub name : length s.name ≤ limits.name_bytes
  pub op : List Token
  pub is_op : SpellsOp limits version half s.op op
  pub spelled : tokens ≡ Line s.line ∷ Register s.name ∷ Mark (codes "=") ∷ op

-- statements one behind the other
abbrev pub SpellsStatements : Limits → Version → Half → List RawStatement → List Token → Type 0
SpellsStatements limits version half [] tokens = tokens ≡ []
SpellsStatements limits version half (s ∷ statements) tokens = (own rest : List Token)
    × SpellsStatement limits version half s own × SpellsStatements limits version half statements rest × (tokens ≡ own ++ rest)

-- from one statement up to the limit
pub record SpellsHalf (limits : Limits) (version : Version) (half : Half) (statements : List RawStatement) (tokens : List Token) : Type 0 where
  pub some : 1 ≤ length statements
  pub most : length statements ≤ limits.statements
  pub spelled : SpellsStatements limits version half statements tokens

-- 'Pre:' formula
abbrev pub SpellsPrecondition : Limits → RawPrecondition → Part
SpellsPrecondition limits p tokens = (own : List Token) × SpellsWholeFormula limits p.formula own × (tokens ≡ Line p.line ∷ Head (codes "Pre:") ∷ own)

-- term (',' term)*
abbrev pub SpellsExpression : Limits → List RawNode → Part
SpellsExpression limits nodes tokens = SpellsWholeTerm limits Witness limits.nested nodes tokens

abbrev pub SpellsMoreExpressions : Limits → List (List RawNode) → List Token → Type 0
SpellsMoreExpressions limits [] tokens = Nothing tokens
SpellsMoreExpressions limits (nodes ∷ expressions) tokens = (own rest : List Token)
    × SpellsExpression limits nodes own × SpellsMoreExpressions limits expressions rest × (tokens ≡ Mark (codes ",") ∷ own ++ rest)

abbrev pub SpellsExpressions : Limits → List (List RawNode) → Part
SpellsExpressions limits [] tokens = ⊥
SpellsExpressions limits (nodes ∷ expressions) tokens = (own rest : List Token)
    × SpellsExpression limits nodes own × SpellsMoreExpressions limits expressions rest × (tokens ≡ own ++ rest)

-- 'Wit:' term (',' term)*
abbrev pub SpellsWitness : Limits → RawWitness → Part
SpellsWitness limits w tokens = (own : List Token) × SpellsExpressions limits w.expressions own × (tokens ≡ Line w.line ∷ Head (codes "Wit:") ∷ own)

-- rule := 'Name:' text ['Pre:' formula] ['Wit:' term (',' term)*] source+ '=>' target+
pub record SpellsRule (limits : Limits) (version : Version) (rule : RawRule) (tokens : List Token) : Type 0 where
  pub name : (1 ≤ length rule.name) × (length rule.name ≤ limits.name_bytes)
  pub precondition : List Token
  pub is_precondition : Maybe (SpellsPrecondition limits) rule.precondition precondition
  pub witness : List Token
  pub is_witness : Maybe (SpellsWitness limits) rule.witness witness
  pub source : List Token
  pub is_source : SpellsHalf limits version Source rule.source source
  pub arrow_line : ℕ
  pub target : List Token
  pub is_target : SpellsHalf limits version Target rule.target target
  pub spelled : tokens ≡ Line rule.line ∷ Head (codes "Name:") ∷ Name rule.name ∷ precondition ++ (witness ++ (source ++ Line arrow_line ∷ Arrow ∷ target))

-- rules one behind the other
abbrev pub SpellsRules : Limits → Version → List RawRule → Part
SpellsRules limits version [] tokens = tokens ≡ []
SpellsRules limits version (rule ∷ rules) tokens = (own rest : List Token)
    × SpellsRule limits version rule own × SpellsRules limits version rules rest × (tokens ≡ own ++ rest)

-- 'Version:' digits
pub record SpellsVersionLine (version : Version) (tokens : List Token) : Type 0 where
  pub line : ℕ
  pub digits : List ℕ
  pub are_digits : IsTrue (are_digits digits)
  pub number : decimal_value digits ≡ version_number version
  pub spelled : tokens ≡ Line line ∷ Head (codes "Version:") ∷ Number digits ∷ []

-- a line that says the version, without which it is 1
abbrev pub SpellsVersion : Version → Part
SpellsVersion version tokens = SpellsVersionLine version tokens ⊎ ((version ≡ One) × (tokens ≡ []))

-- a rule file: its version, and rules
abbrev pub SpellsFile : Limits → List RawRule → Part
SpellsFile limits raws tokens = (version : Version) × (SpellsVersion version ⨾ SpellsRules limits version raws) tokens
