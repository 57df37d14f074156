-- The positions of a rule, which are its results, its operands and the nodes of its terms, and the table of types: what
-- keeps two positions at one width, what fixes a width, and what keeps one width below another.
use Rattle.std.specs.Prelude.{◌≡◌, ℕ, suc, Bool, List, [], ◌∷◌, ◌++◌, length, map, flat_map, Option, Some, Contains, slice_get}
use Rattle.ops.specs.declared.opcode.Opcode.{Opcode}
use Rattle.ops.specs.declared.opcode.Unary.{Unary as Intrinsic}
use Rattle.ops.specs.declared.opcode.Flags.{Flags}
use Rattle.ops.specs.declared.comparison.Pred.{Pred}
use Rattle.ops.specs.declared.conversion.Cast.{Cast}
use Rattle.ops.specs.declared.conversion.Cast.TheVariants.{Trunc, ZExt, SExt}
use Rattle.rule_core.specs.declared.rule.Rule.{Rule}
use Rattle.rule_core.specs.declared.rule.Statement.{Statement}
use Rattle.rule_core.specs.declared.rule.Op.{Op}
use Rattle.rule_core.specs.declared.rule.Op.TheVariants.{Binary, Compare, Unary, Select, Convert, Freeze, Copy}
use Rattle.rule_core.specs.declared.rule.Operand.{Operand}
use Rattle.rule_core.specs.declared.rule.Argument.{Argument}
use Rattle.rule_core.specs.declared.rule.Argument.TheVariants as arguments
use Rattle.rule_core.specs.declared.rule.Choice.{Choice}
use Rattle.rule_core.specs.declared.rule.Register.{Register}
use Rattle.rule_core.specs.declared.rule.Name.{Name}
use Rattle.rule_core.specs.declared.rule.Name.TheVariants as names
use Rattle.rule_core.specs.declared.rule.Term.{Term}
use Rattle.rule_core.specs.declared.rule.Node.{Node}
use Rattle.rule_core.specs.declared.rule.Node.TheVariants as nodes
use Rattle.rule_core.specs.declared.rule.Function.{Function}
use Rattle.rule_core.specs.declared.rule.Formula.TheVariants.{Compare as CompareTerms, MaskedValueIsZero}
use Rattle.rule_core.specs.declared.rule.Register.TheVariants as registers

-- the operands from left to right
abbrev pub operands_of : Op → List Operand
operands_of (Binary op flags a b) = a ∷ b ∷ []
operands_of (Compare pred samesign a b) = a ∷ b ∷ []
operands_of (Unary op truth a) = a ∷ []
operands_of (Select c a b) = c ∷ a ∷ b ∷ []
operands_of (Convert cast flags a to) = a ∷ []
operands_of (Freeze a k) = a ∷ []
operands_of (Copy a) = a ∷ []

-- the operands of statements, in the order of the text
abbrev pub operands_among : List Statement → List Operand
operands_among statements = flat_map (λ s. operands_of s.op) statements

-- the choice that an operand is: one where it is `undef`, else none
abbrev pub undef_in : ℕ → Argument → List Choice
undef_in c (arguments.Undef k) = record { place = k; class = c } ∷ []
undef_in c argument = []

-- the choice that a freeze makes, of the number that it gives where its operand is poison
abbrev pub frozen_in : ℕ → Op → List Choice
frozen_in c (Freeze a k) = record { place = k; class = c } ∷ []
frozen_in c op = []

-- the choices of a statement: its `undef`s from left to right, and then that of a freeze
abbrev pub choices_of : Statement → List Choice
choices_of s = flat_map (λ o. undef_in o.class o.value) (operands_of s.op) ++ frozen_in s.class s.op

-- the choices of statements, in the order of the text
abbrev pub choices_among : List Statement → List Choice
choices_among statements = flat_map choices_of statements

-- the choice with number k among these statements' is of class c
abbrev pub LeavesOpen : List Statement → ℕ → ℕ → Type 0
LeavesOpen statements k c = Contains (choices_among statements) (record { place = k; class = c })

-- all operands of a rule, in the order of its text
abbrev pub operands_in : Rule → List Operand
operands_in rule = operands_among (rule.source ++ rule.target)

-- all nodes of a rule's terms
abbrev pub terms_in : Rule → List Term
terms_in rule = rule.terms ++ rule.witness_terms

-- the classes of a statement's positions: the result, and then the operands
abbrev pub classes_of_statement : Statement → List ℕ
classes_of_statement s = s.class ∷ map (λ o. o.class) (operands_of s.op)

-- the classes of a node's positions: its own, and then that of the register whose width it is
abbrev pub classes_of_node : ℕ → Node → List ℕ
classes_of_node c (nodes.Width r d) = c ∷ d ∷ []
classes_of_node c node = c ∷ []

abbrev pub classes_of_term : Term → List ℕ
classes_of_term t = classes_of_node t.class t.node

-- the class of each position of a rule, in order: the source's before the target's, and then those of its terms
abbrev pub classes_of : Rule → List ℕ
classes_of rule = flat_map classes_of_statement (rule.source ++ rule.target) ++ flat_map classes_of_term (terms_in rule)

-- s is a statement of the rule
abbrev pub IsStatementOf : Rule → Statement → Type 0
IsStatementOf rule s = Contains (rule.source ++ rule.target) s

-- o is an operand of the half
abbrev pub IsOperandAmong : List Statement → Operand → Type 0
IsOperandAmong statements o = Contains (operands_among statements) o

-- t is a node of the rule's terms
abbrev pub IsTermOf : Rule → Term → Type 0
IsTermOf rule t = Contains (terms_in rule) t

-- A position of class c names the register, the constant or the choice: as the operand or the node that reads it, or as
-- the result that assigns it. The last target statement assigns the root, which is what the last source statement
-- assigns.
pub data Names (rule : Rule) : Name → ℕ → Type 0 where
  reads : {o : Operand} {r : Register} → Contains (operands_in rule) o → o.value ≡ arguments.Register r → Names rule (names.Register r) o.class
  reads_constant : {o : Operand} {k : ℕ} → Contains (operands_in rule) o → o.value ≡ arguments.Constant k → Names rule (names.Constant k) o.class
  chooses : {k c : ℕ} → LeavesOpen rule.target k c → Names rule (names.Choice k) c
  source_assigns : {k : ℕ} {s : Statement} → slice_get rule.source k ≡ Some s → Names rule (names.Register (registers.Source k)) s.class
  target_assigns : {k : ℕ} {s : Statement} → slice_get rule.target k ≡ Some s → Names rule (names.Register (registers.Target k)) s.class
  assigns_root : {j k : ℕ} {s : Statement} → suc j ≡ length rule.source → suc k ≡ length rule.target → slice_get rule.target k ≡ Some s → Names rule (names.Register (registers.Source j)) s.class
  term_register : {t : Term} {r : Register} → IsTermOf rule t → t.node ≡ nodes.Register r → Names rule (names.Register r) t.class
  term_constant : {t : Term} {k : ℕ} → IsTermOf rule t → t.node ≡ nodes.Constant k → Names rule (names.Constant k) t.class
  term_choice : {t : Term} {k : ℕ} → IsTermOf rule t → t.node ≡ nodes.Choice k → Names rule (names.Choice k) t.class
  measures : {t : Term} {r : Register} {c : ℕ} → IsTermOf rule t → t.node ≡ nodes.Width r c → Names rule (names.Register r) c

-- one line of the table of types keeps two nodes at one width: an operator or a function and its operands
pub data TermLine (terms : List Term) : ℕ → ℕ → Type 0 where
  unary : {t x : Term} {function : Function} {a : ℕ} → Contains terms t → t.node ≡ nodes.Unary function a → slice_get terms a ≡ Some x → TermLine terms t.class x.class
  left : {t x : Term} {op : Opcode} {a b : ℕ} → Contains terms t → t.node ≡ nodes.Binary op a b → slice_get terms a ≡ Some x → TermLine terms t.class x.class
  right : {t x : Term} {op : Opcode} {a b : ℕ} → Contains terms t → t.node ≡ nodes.Binary op a b → slice_get terms b ≡ Some x → TermLine terms t.class x.class

-- one line of the table of types keeps positions of the classes c and d at one width
pub data Line (rule : Rule) : ℕ → ℕ → Type 0 where
  -- the result and both operands of a binary operation
  binary_left : {s : Statement} {op : Opcode} {flags : Flags} {a b : Operand} → IsStatementOf rule s → s.op ≡ Binary op flags a b → Line rule s.class a.class
  binary_right : {s : Statement} {op : Opcode} {flags : Flags} {a b : Operand} → IsStatementOf rule s → s.op ≡ Binary op flags a b → Line rule s.class b.class
  -- both operands of a comparison
  compared : {s : Statement} {pred : Pred} {samesign : Bool} {a b : Operand} → IsStatementOf rule s → s.op ≡ Compare pred samesign a b → Line rule a.class b.class
  -- the result and the operand of an intrinsic
  one_operand : {s : Statement} {op : Intrinsic} {truth : Bool} {a : Operand} → IsStatementOf rule s → s.op ≡ Unary op truth a → Line rule s.class a.class
  -- the result and both arms of a select
  select_true : {s : Statement} {c a b : Operand} → IsStatementOf rule s → s.op ≡ Select c a b → Line rule s.class a.class
  select_false : {s : Statement} {c a b : Operand} → IsStatementOf rule s → s.op ≡ Select c a b → Line rule s.class b.class
  -- the result and the operand of a freeze
  freeze : {s : Statement} {a : Operand} {k : ℕ} → IsStatementOf rule s → s.op ≡ Freeze a k → Line rule s.class a.class
  -- the result and the operand of a copy
  copy : {s : Statement} {a : Operand} → IsStatementOf rule s → s.op ≡ Copy a → Line rule s.class a.class
  -- all positions that name one register, one constant or one choice of the target
  name : {n : Name} {c d : ℕ} → Names rule n c → Names rule n d → Line rule c d
  -- the nodes of constant terms, and of the expressions of `Wit:`
  term : {c d : ℕ} → TermLine rule.terms c d → Line rule c d
  witness_term : {c d : ℕ} → TermLine rule.witness_terms c d → Line rule c d
  -- an operand and the term that it is
  operand : {o : Operand} {n : ℕ} {t : Term} → Contains (operands_in rule) o → o.value ≡ arguments.Term n → slice_get rule.terms n ≡ Some t → Line rule o.class t.class
  -- both sides of a comparison in the precondition
  compared_terms : {pred : Pred} {a b : ℕ} {x y : Term} → Contains rule.precondition (CompareTerms pred a b) → slice_get rule.terms a ≡ Some x → slice_get rule.terms b ≡ Some y → Line rule x.class y.class
  -- a term and the register that has none of its bits
  masked : {r : Register} {a c : ℕ} {t : Term} → Contains rule.precondition (MaskedValueIsZero r a) → slice_get rule.terms a ≡ Some t → Names rule (names.Register r) c → Line rule t.class c
  -- an expression of `Wit:` and the choice of the source that it makes
  witness : {k c n : ℕ} {t : Term} → LeavesOpen rule.source k c → slice_get rule.witnesses k ≡ Some n → slice_get rule.witness_terms n ≡ Some t → Line rule c t.class

-- one line of the table of types gives positions of the class c the width N
pub data Fixed (rule : Rule) : ℕ → ℕ → Type 0 where
  -- the result of a comparison
  comparison : {s : Statement} {pred : Pred} {samesign : Bool} {a b : Operand} → IsStatementOf rule s → s.op ≡ Compare pred samesign a b → Fixed rule s.class 1
  -- the condition of a select
  condition : {s : Statement} {c a b : Operand} → IsStatementOf rule s → s.op ≡ Select c a b → Fixed rule c.class 1
  -- the result of a cast `to` a type that is written
  cast_to : {s : Statement} {cast : Cast} {flags : Flags} {a : Operand} {N : ℕ} → IsStatementOf rule s → s.op ≡ Convert cast flags a (Some N) → Fixed rule s.class N
  -- an operand before which a type is written
  written : {o : Operand} {N : ℕ} → Contains (operands_in rule) o → o.written ≡ Some N → Fixed rule o.class N
  -- `true` and `false`
  truth : {o : Operand} {b : Bool} → Contains (operands_in rule) o → o.value ≡ arguments.Truth b → Fixed rule o.class 1

-- one line of the table of types keeps the width of positions of the class c below that of positions of the class d
pub data Smaller (rule : Rule) : ℕ → ℕ → Type 0 where
  truncated : {s : Statement} {flags : Flags} {a : Operand} {to : Option ℕ} → IsStatementOf rule s → s.op ≡ Convert Trunc flags a to → Smaller rule s.class a.class
  zero_extended : {s : Statement} {flags : Flags} {a : Operand} {to : Option ℕ} → IsStatementOf rule s → s.op ≡ Convert ZExt flags a to → Smaller rule a.class s.class
  sign_extended : {s : Statement} {flags : Flags} {a : Operand} {to : Option ℕ} → IsStatementOf rule s → s.op ≡ Convert SExt flags a to → Smaller rule a.class s.class
