-- The constraints that keep two positions at one width, as lists for the code to go over: the pairs of classes that an
-- operation, an operand, a choice or a node keeps equal by itself, and the names, each of which keeps all its positions
-- equal.
use Rattle.std.specs.Prelude.{◌≡◌, ◌≢◌, ◌⊎◌, ℕ, ◌+◌, ◌-◌, ◌==◌, if◌then◌else◌, List, [], ◌∷◌, ◌++◌, length, option_map, option_and_then, Option, None, Some, Contains, slice_get}
use Rattle.rule_core.specs.declared.rule.Rule.{Rule}
use Rattle.rule_core.specs.declared.rule.Statement.{Statement}
use Rattle.rule_core.specs.declared.rule.Op.{Op}
use Rattle.rule_core.specs.declared.rule.Op.TheVariants.{Binary, Compare, Unary, Select, Convert, Freeze, Copy}
use Rattle.rule_core.specs.declared.rule.Operand.{Operand}
use Rattle.rule_core.specs.declared.rule.Argument.{Argument}
use Rattle.rule_core.specs.declared.rule.Argument.TheVariants as arguments
use Rattle.rule_core.specs.declared.rule.Choice.{Choice}
use Rattle.rule_core.specs.declared.rule.Register.TheVariants as registers
use Rattle.rule_core.specs.declared.rule.Name.{Name}
use Rattle.rule_core.specs.declared.rule.Name.TheVariants as names
use Rattle.rule_core.specs.declared.rule.Term.{Term}
use Rattle.rule_core.specs.declared.rule.Node.{Node}
use Rattle.rule_core.specs.declared.rule.Node.TheVariants as nodes
use Rattle.rule_core.specs.declared.rule.Formula.{Formula}
use Rattle.rule_core.specs.declared.rule.Formula.TheVariants as formulas
use Rattle.rule_core.specs.Positions.{operands_of, operands_among, choices_of, choices_among, terms_in, Names}
use Rattle.rule_typing.specs.declared.half.Half.{Half}
use Rattle.rule_typing.specs.declared.half.Half.TheVariants as halves
use Rattle.rule_typing.specs.Classes.{Joined}
use Rattle.rule_typing.specs.Relabelled.{mapped}

-- ---- constraints other than those of names: pairs of classes

-- two classes, if there are both
abbrev pub paired : Option ℕ → Option ℕ → List (ℕ × ℕ)
paired None d = []
paired (Some c) None = []
paired (Some c) (Some d) = (c, d) ∷ []

-- the pairs of an operation whose result has the class r
abbrev pub op_pairs : ℕ → Op → List (ℕ × ℕ)
op_pairs r (Binary op flags a b) = (r, a.class) ∷ (r, b.class) ∷ []
op_pairs r (Compare pred samesign a b) = (a.class, b.class) ∷ []
op_pairs r (Unary op truth a) = (r, a.class) ∷ []
op_pairs r (Select z a b) = (r, a.class) ∷ (r, b.class) ∷ []
op_pairs r (Convert cast flags a to) = []
op_pairs r (Freeze a k) = (r, a.class) ∷ []
op_pairs r (Copy a) = (r, a.class) ∷ []

abbrev pub statement_pairs : Statement → List (ℕ × ℕ)
statement_pairs s = op_pairs s.class s.op

-- the class of the node at a place
abbrev pub node_class : List Term → ℕ → Option ℕ
node_class terms n = option_map (λ t. t.class) (slice_get terms n)

-- the class of the expression that `Wit:` has for choice k of the source
abbrev pub chosen_class : Rule → ℕ → Option ℕ
chosen_class rule k = option_and_then (node_class rule.witness_terms) (slice_get rule.witnesses k)

-- the class of the term that an operand is, if it is one
abbrev pub term_class : Rule → Argument → Option ℕ
term_class rule (arguments.Term n) = node_class rule.terms n
term_class rule (arguments.Undef k) = None
term_class rule (arguments.Register r) = None
term_class rule (arguments.Literal z) = None
term_class rule (arguments.Truth b) = None
term_class rule (arguments.Constant k) = None

abbrev pub operand_pairs : Rule → Operand → List (ℕ × ℕ)
operand_pairs rule o = paired (Some o.class) (term_class rule o.value)

-- the pair of a choice of the source and of the expression that gives its number
abbrev pub choice_pairs : Rule → Half → Choice → List (ℕ × ℕ)
choice_pairs rule halves.Source choice = paired (Some choice.class) (chosen_class rule choice.place)
choice_pairs rule halves.Target choice = []

-- the pairs of an operator or a function of class c and its operands
abbrev pub node_pairs : List Term → ℕ → Node → List (ℕ × ℕ)
node_pairs terms c (nodes.Unary function a) = paired (Some c) (node_class terms a)
node_pairs terms c (nodes.Binary op a b) = paired (Some c) (node_class terms a) ++ paired (Some c) (node_class terms b)
node_pairs terms c (nodes.Literal z) = []
node_pairs terms c (nodes.Constant k) = []
node_pairs terms c (nodes.Register r) = []
node_pairs terms c (nodes.Choice k) = []
node_pairs terms c (nodes.Width r d) = []

abbrev pub term_pairs : List Term → Term → List (ℕ × ℕ)
term_pairs terms t = node_pairs terms t.class t.node

-- the pair of both sides of a comparison
abbrev pub formula_pairs : List Term → Formula → List (ℕ × ℕ)
formula_pairs terms (formulas.Compare pred a b) = paired (node_class terms a) (node_class terms b)
formula_pairs terms (formulas.IsPowerOfTwo a) = []
formula_pairs terms (formulas.IsSignBit a) = []
formula_pairs terms (formulas.HasOneUse j) = []
formula_pairs terms (formulas.MaskedValueIsZero r a) = []
formula_pairs terms (formulas.IsKnownNonZero r) = []
formula_pairs terms (formulas.Not a) = []
formula_pairs terms (formulas.And a b) = []
formula_pairs terms (formulas.Or a b) = []

-- (c, d) is in the list
abbrev pub IsPairIn : List (ℕ × ℕ) → ℕ → ℕ → Type 0
IsPairIn pairs c d = Contains pairs (c, d)

-- (c, d) is a pair of one of the elements
abbrev pub PairOf : {X : Type 0} → (X → List (ℕ × ℕ)) → List X → ℕ → ℕ → Type 0
PairOf {X} pairs xs c d = (x : X) × Contains xs x × IsPairIn (pairs x) c d

-- ---- names

-- the name that an operand is, if it is one
abbrev pub name_of : Argument → Option Name
name_of (arguments.Register r) = Some (names.Register r)
name_of (arguments.Constant k) = Some (names.Constant k)
name_of (arguments.Undef k) = None
name_of (arguments.Literal z) = None
name_of (arguments.Truth b) = None
name_of (arguments.Term n) = None

-- the name that an operand is, with the operand's class
abbrev pub operand_naming : Operand → Option (Name × ℕ)
operand_naming o = option_map (λ n. (n, o.class)) (name_of o.value)

-- the name of a choice of the target, with its class; choices of the source have no names
abbrev pub choice_naming : Half → Choice → Option (Name × ℕ)
choice_naming halves.Source choice = None
choice_naming halves.Target choice = Some (names.Choice choice.place, choice.class)

-- the name that a node of class c is, or whose width it is, and the class of the position that has it
abbrev pub node_naming : ℕ → Node → Option (Name × ℕ)
node_naming c (nodes.Register r) = Some (names.Register r, c)
node_naming c (nodes.Constant k) = Some (names.Constant k, c)
node_naming c (nodes.Choice k) = Some (names.Choice k, c)
node_naming c (nodes.Width r d) = Some (names.Register r, d)
node_naming c (nodes.Literal z) = None
node_naming c (nodes.Unary function a) = None
node_naming c (nodes.Binary op a b) = None

abbrev pub term_naming : Term → Option (Name × ℕ)
term_naming t = node_naming t.class t.node

-- the register that a node of a formula says to have no bit of a mask, and the class of the mask
abbrev pub formula_naming : List Term → Formula → Option (Name × ℕ)
formula_naming terms (formulas.MaskedValueIsZero r a) = option_map (λ c. (names.Register r, c)) (node_class terms a)
formula_naming terms (formulas.Compare pred a b) = None
formula_naming terms (formulas.IsPowerOfTwo a) = None
formula_naming terms (formulas.IsSignBit a) = None
formula_naming terms (formulas.HasOneUse j) = None
formula_naming terms (formulas.IsKnownNonZero r) = None
formula_naming terms (formulas.Not a) = None
formula_naming terms (formulas.And a b) = None
formula_naming terms (formulas.Or a b) = None

-- one of the elements names n with a position of class c
abbrev pub NamingOf : {X : Type 0} → (X → Option (Name × ℕ)) → List X → Name → ℕ → Type 0
NamingOf {X} naming xs n c = (x : X) × Contains xs x × (naming x ≡ Some (n, c))

-- the class of the result of the statement that assigns the register
abbrev pub assigned_class : Rule → Name → Option ℕ
assigned_class rule (names.Register (registers.Input k)) = None
assigned_class rule (names.Register (registers.Source k)) = option_map (λ s. s.class) (slice_get rule.source k)
assigned_class rule (names.Register (registers.Target k)) = option_map (λ s. s.class) (slice_get rule.target k)
assigned_class rule (names.Constant k) = None
assigned_class rule (names.Choice k) = None

-- the class of the result of the last statement
abbrev pub last_class : List Statement → Option ℕ
last_class statements = option_map (λ s. s.class) (slice_get statements (length statements - 1))

-- the class of the target's last result, if the name is the root's
abbrev pub root_class : Rule → Name → Option ℕ
root_class rule (names.Register (registers.Input k)) = None
root_class rule (names.Register (registers.Source k)) = if k + 1 == length rule.source then last_class rule.target else None
root_class rule (names.Register (registers.Target k)) = None
root_class rule (names.Constant k) = None
root_class rule (names.Choice k) = None

-- n is read at a position of class c: an operand, a choice of the target or a node
abbrev pub IsRead : Rule → Name → ℕ → Type 0
IsRead rule n c =
    NamingOf operand_naming (operands_among rule.source) n c
    ⊎ (NamingOf operand_naming (operands_among rule.target) n c
    ⊎ (NamingOf (choice_naming halves.Target) (choices_among rule.target) n c ⊎ NamingOf term_naming (terms_in rule) n c))

-- ---- all constraints

-- the element keeps c and d at one width: by a pair of its own, or c is the class with which it has a name and d that
-- of another position with that name
abbrev pub LineOf : {X : Type 0} → Rule → (X → List (ℕ × ℕ)) → (X → Option (Name × ℕ)) → X → ℕ → ℕ → Type 0
LineOf rule pairs naming x c d = IsPairIn (pairs x) c d ⊎ ((n : Name) × (naming x ≡ Some (n, c)) × Names rule n d)

-- one of the elements keeps c and d at one width
abbrev pub LinesOf : {X : Type 0} → Rule → (X → List (ℕ × ℕ)) → (X → Option (Name × ℕ)) → List X → ℕ → ℕ → Type 0
LinesOf {X} rule pairs naming xs c d = (x : X) × Contains xs x × LineOf rule pairs naming x c d

-- the constraints of operands
abbrev pub OperandsLine : Rule → List Operand → ℕ → ℕ → Type 0
OperandsLine rule operands = LinesOf rule (operand_pairs rule) operand_naming operands

-- the constraints of choices of a half
abbrev pub ChoicesLine : Rule → Half → List Choice → ℕ → ℕ → Type 0
ChoicesLine rule half choices = LinesOf rule (choice_pairs rule half) (choice_naming half) choices

-- the constraints of a statement of a half: of its operation, of its operands and of its choices
abbrev pub StatementLine : Rule → Half → Statement → ℕ → ℕ → Type 0
StatementLine rule half s c d =
    IsPairIn (statement_pairs s) c d ⊎ (OperandsLine rule (operands_of s.op) c d ⊎ ChoicesLine rule half (choices_of s) c d)

-- the constraints of statements
abbrev pub StatementsLine : Rule → Half → List Statement → ℕ → ℕ → Type 0
StatementsLine rule half statements c d = (s : Statement) × Contains statements s × StatementLine rule half s c d

-- the constraints of the nodes of a list of terms
abbrev pub TermsLine : Rule → List Term → ℕ → ℕ → Type 0
TermsLine rule terms = LinesOf rule (term_pairs terms) term_naming terms

-- and of the nodes of a formula of these terms
abbrev pub FormulasLine : Rule → List Term → List Formula → ℕ → ℕ → Type 0
FormulasLine rule terms = LinesOf rule (formula_pairs terms) (formula_naming terms)

-- c and d are the classes of the two results that assign the root, in the source and in the target
abbrev pub RootLine : Rule → ℕ → ℕ → Type 0
RootLine rule c d = (n : Name) × (assigned_class rule n ≡ Some c) × (root_class rule n ≡ Some d)

-- ---- what the code looks for

-- two different classes that P asks to be equal; or none, where P asks it only of equal ones
abbrev pub Splits : (ℕ → ℕ → Type 0) → Option (ℕ × ℕ) → Type 0
Splits P None = (c d : ℕ) → P c d → c ≡ d
Splits P (Some pair) = P pair.0 pair.1 × (pair.0 ≢ pair.1)

-- a class other than c of which P holds; or none, where P holds of no other
abbrev pub FindsOther : (ℕ → Type 0) → ℕ → Option ℕ → Type 0
FindsOther P c None = (d : ℕ) → P d → c ≡ d
FindsOther P c (Some d) = P d × (c ≢ d)

-- ---- merging

-- the new rule is the old one after merges, each of two classes that a chain of lines joins
pub record IsMerged (old new : Rule) : Type 0 where
  pub to : ℕ → ℕ
  pub is : new ≡ mapped to old
  pub joined : (c d : ℕ) → to c ≡ to d → Joined old c d
