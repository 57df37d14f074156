-- The positions that name a register, a constant or a choice, as the code goes over them.
use Rattle.rule_typing.proofs.Common.{◌≡◌, ◌≢◌, ◌⊎◌, inl, inr, ℕ, zero, suc, ◌+◌, ◌-◌, ◌==◌, ◌<◌, if◌then◌else◌, List, [], ◌∷◌, ◌++◌, length, Option, None, Some, refl, sym, ap, subst, ◌∙◌, arith, slice_get, Contains, option_map, cases_eq, nat_tests, same_Some, Contains-append_left, Contains-append_right, Contains-append_cases, flat_map-append, Rule, Statement, Operand, Argument, Choice, Name, Term, Node, operands_of, operands_among, operands_in, choices_among, IsTermOf, Names, reads, reads_constant, chooses, source_assigns, target_assigns, assigns_root, term_register, term_constant, term_choice, measures, Half, name_of, operand_naming, choice_naming, node_naming, term_naming, assigned_class, last_class, root_class, IsRead}
use Rattle.rule_core.specs.declared.rule.Argument.TheVariants as arguments
use Rattle.rule_core.specs.declared.rule.Register.TheVariants as registers
use Rattle.rule_core.specs.declared.rule.Name.TheVariants as names
use Rattle.rule_core.specs.declared.rule.Node.TheVariants as nodes
use Rattle.rule_typing.specs.declared.half.Half.TheVariants as halves

-- the statements of a half
abbrev pub statements_of : Rule → Half → List Statement
statements_of rule halves.Source = rule.source
statements_of rule halves.Target = rule.target

-- they are statements of the rule
pub half_statement : (rule : Rule) (half : Half) (s : Statement) → Contains (statements_of rule half) s → Contains (rule.source ++ rule.target) s
half_statement rule halves.Source s stands = Contains-append_left rule.source rule.target s stands
half_statement rule halves.Target s stands = Contains-append_right rule.source rule.target s stands

-- an operand of the rule is one of the source or of the target
pub operand_cases : (rule : Rule) (o : Operand) → Contains (operands_in rule) o → Contains (operands_among rule.source) o ⊎ Contains (operands_among rule.target) o
operand_cases rule o among =
    Contains-append_cases (operands_among rule.source) (operands_among rule.target) o
    (subst (λ l. Contains l o) (flat_map-append (λ (s : Statement). operands_of s.op) rule.source rule.target) among)

pub half_operand : (rule : Rule) (half : Half) (o : Operand) → Contains (operands_among (statements_of rule half)) o → Contains (operands_in rule) o
half_operand rule halves.Source o among =
    subst (λ l. Contains l o) (sym (flat_map-append (λ (s : Statement). operands_of s.op) rule.source rule.target)) (Contains-append_left (operands_among rule.source) (operands_among rule.target) o among)
half_operand rule halves.Target o among =
    subst (λ l. Contains l o) (sym (flat_map-append (λ (s : Statement). operands_of s.op) rule.source rule.target)) (Contains-append_right (operands_among rule.source) (operands_among rule.target) o among)

abbrev At : Rule → Name × ℕ → Type 0
At rule p = Names rule p.0 p.1

-- a name is read at a position by an operand, by a choice of the target or by a node of a term
value_names : (rule : Rule) (o : Operand) (value : Argument) (n : Name) (c : ℕ) → Contains (operands_in rule) o → o.value ≡ value → option_map {U = Name × ℕ} (λ m. (m, o.class)) (name_of value) ≡ Some (n, c) → Names rule n c
value_names rule o (arguments.Register r) n c among is e = subst (At rule) (same_Some (names.Register r, o.class) (n, c) e) (reads among is)
value_names rule o (arguments.Constant k) n c among is e = subst (At rule) (same_Some (names.Constant k, o.class) (n, c) e) (reads_constant among is)
value_names rule o (arguments.Undef k) n c among is e = cc
value_names rule o (arguments.Literal z) n c among is e = cc
value_names rule o (arguments.Truth b) n c among is e = cc
value_names rule o (arguments.Term k) n c among is e = cc

pub operand_names : (rule : Rule) (half : Half) (o : Operand) (n : Name) (c : ℕ) → Contains (operands_among (statements_of rule half)) o → operand_naming o ≡ Some (n, c) → Names rule n c
operand_names rule half o n c among e = value_names rule o o.value n c (half_operand rule half o among) refl e

pub choice_names : (rule : Rule) (half : Half) (choice : Choice) (n : Name) (c : ℕ) → Contains (choices_among (statements_of rule half)) choice → choice_naming half choice ≡ Some (n, c) → Names rule n c
choice_names rule halves.Source choice n c among e = cc
choice_names rule halves.Target choice n c among e = subst (At rule) (same_Some (names.Choice choice.place, choice.class) (n, c) e) (chooses among)

node_names : (rule : Rule) (t : Term) (node : Node) (n : Name) (c : ℕ) → IsTermOf rule t → t.node ≡ node → node_naming t.class node ≡ Some (n, c) → Names rule n c
node_names rule t (nodes.Register r) n c among is e = subst (At rule) (same_Some (names.Register r, t.class) (n, c) e) (term_register among is)
node_names rule t (nodes.Constant k) n c among is e = subst (At rule) (same_Some (names.Constant k, t.class) (n, c) e) (term_constant among is)
node_names rule t (nodes.Choice k) n c among is e = subst (At rule) (same_Some (names.Choice k, t.class) (n, c) e) (term_choice among is)
node_names rule t (nodes.Width r d) n c among is e = subst (At rule) (same_Some (names.Register r, d) (n, c) e) (measures among is)
node_names rule t (nodes.Literal z) n c among is e = cc
node_names rule t (nodes.Unary function a) n c among is e = cc
node_names rule t (nodes.Binary op a b) n c among is e = cc

pub term_names : (rule : Rule) (t : Term) (n : Name) (c : ℕ) → IsTermOf rule t → term_naming t ≡ Some (n, c) → Names rule n c
term_names rule t n c among e = node_names rule t t.node n c among refl e

pub read_names : (rule : Rule) (n : Name) (c : ℕ) → IsRead rule n c → Names rule n c
read_names rule n c (inl (o, among, e)) = operand_names rule halves.Source o n c among e
read_names rule n c (inr (inl (o, among, e))) = operand_names rule halves.Target o n c among e
read_names rule n c (inr (inr (inl (choice, among, e)))) = choice_names rule halves.Target choice n c among e
read_names rule n c (inr (inr (inr (t, among, e)))) = term_names rule t n c among e

-- the result of a statement has the name of the register, or of the root
result_class : (o : Option Statement) (c : ℕ) → option_map (λ s. s.class) o ≡ Some c → (s : Statement) × (o ≡ Some s) × (s.class ≡ c)
result_class None c e = cc
result_class (Some s) c e = (s, refl, same_Some s.class c e)

pub assigned_names : (rule : Rule) (n : Name) (c : ℕ) → assigned_class rule n ≡ Some c → Names rule n c
assigned_names rule (names.Register (registers.Input k)) c e = cc
assigned_names rule (names.Register (registers.Source k)) c e = let h = result_class (slice_get rule.source k) c e in subst (Names rule (names.Register (registers.Source k))) h.2 (source_assigns h.1)
assigned_names rule (names.Register (registers.Target k)) c e = let h = result_class (slice_get rule.target k) c e in subst (Names rule (names.Register (registers.Target k))) h.2 (target_assigns h.1)
assigned_names rule (names.Constant k) c e = cc
assigned_names rule (names.Choice k) c e = cc

chosen_then : {X : Type 0} (a b : ℕ) (x y : X) → a ≡ b → (if a == b then x else y) ≡ x
chosen_then a b x y same = grind (arith, nat_tests)

chosen_else : {X : Type 0} (a b : ℕ) (x y : X) → a ≢ b → (if a == b then x else y) ≡ y
chosen_else a b x y other = grind (arith, nat_tests)

-- the root is the last register of the source
pub root_is_last : (rule : Rule) (n : Name) (c : ℕ) → root_class rule n ≡ Some c → (k : ℕ) × (n ≡ names.Register (registers.Source k)) × (k + 1 ≡ length rule.source) × (last_class rule.target ≡ Some c)
root_is_last rule (names.Register (registers.Input k)) c e = cc
root_is_last rule (names.Register (registers.Target k)) c e = cc
root_is_last rule (names.Constant k) c e = cc
root_is_last rule (names.Choice k) c e = cc
root_is_last rule (names.Register (registers.Source k)) c e = elim (cases_eq (k + 1) (length rule.source)) [
  | inl same ↦ (k, refl, same, sym (chosen_then (k + 1) (length rule.source) (last_class rule.target) None same) ∙ e)
  | inr other ↦ let none : None ≡ Some c = sym (chosen_else (k + 1) (length rule.source) (last_class rule.target) None other) ∙ e in cc
]

there : {X : Type 0} (xs : List X) (k : ℕ) (x : X) → slice_get xs k ≡ Some x → 0 < length xs
there [] zero x at = cc
there [] (suc k) x at = cc
there (a ∷ xs) k x at = omega arith

pub root_names : (rule : Rule) (n : Name) (c : ℕ) → root_class rule n ≡ Some c → Names rule n c
root_names rule n c e =
    let (k, is, last, class) = root_is_last rule n c e in
    let (t, at, same) = result_class (slice_get rule.target (length rule.target - 1)) c class in
    let some : 0 < length rule.target = there rule.target (length rule.target - 1) t at in
    let h : Names rule (names.Register (registers.Source k)) t.class = assigns_root {k = length rule.target - 1} (omega arith) (omega arith) at in
    subst (λ m. Names rule m c) (sym is) (subst (Names rule (names.Register (registers.Source k))) same h)

-- a position has a name by reading it, or as the result that assigns it
pub data IsNamed (rule : Rule) (n : Name) (c : ℕ) : Type 0 where
  read : IsRead rule n c → IsNamed rule n c
  assigned : assigned_class rule n ≡ Some c → IsNamed rule n c
  root : root_class rule n ≡ Some c → IsNamed rule n c

read_operand : (rule : Rule) (o : Operand) (n : Name) (c : ℕ) → Contains (operands_in rule) o → operand_naming o ≡ Some (n, c) → IsNamed rule n c
read_operand rule o n c among naming = elim (operand_cases rule o among) [
  | inl left ↦ read (inl (o, left, naming))
  | inr right ↦ read (inr (inl (o, right, naming)))
]

naming_at : (o : Operand) (value : Argument) → o.value ≡ value → operand_naming o ≡ option_map {U = Name × ℕ} (λ n. (n, o.class)) (name_of value)
naming_at o value is = ap (λ v. option_map {U = Name × ℕ} (λ n. (n, o.class)) (name_of v)) is

pub named_cases : (rule : Rule) (n : Name) (c : ℕ) → Names rule n c → IsNamed rule n c
named_cases rule n c (reads {o} {r} among is) = read_operand rule o (names.Register r) o.class among (naming_at o (arguments.Register r) is)
named_cases rule n c (reads_constant {o} {k} among is) = read_operand rule o (names.Constant k) o.class among (naming_at o (arguments.Constant k) is)
named_cases rule n c (chooses {k} {c = d} among) = read (inr (inr (inl (record { place = k; class = d }, among, refl))))
named_cases rule n c (source_assigns {k} {s} at) = assigned (ap (λ x. option_map (λ (t : Statement). t.class) x) at)
named_cases rule n c (target_assigns {k} {s} at) = assigned (ap (λ x. option_map (λ (t : Statement). t.class) x) at)
named_cases rule n c (assigns_root {j} {k} {s} last last' at) =
    let place : length rule.target - 1 ≡ k = omega arith in
    root (chosen_then (j + 1) (length rule.source) (last_class rule.target) None (omega arith) ∙ ap (λ i. option_map (λ (t : Statement). t.class) (slice_get rule.target i)) place ∙ ap (λ x. option_map (λ (t : Statement). t.class) x) at)
named_cases rule n c (term_register {t} {r} among is) = read (inr (inr (inr (t, among, ap (node_naming t.class) is))))
named_cases rule n c (term_constant {t} {k} among is) = read (inr (inr (inr (t, among, ap (node_naming t.class) is))))
named_cases rule n c (term_choice {t} {k} among is) = read (inr (inr (inr (t, among, ap (node_naming t.class) is))))
named_cases rule n c (measures {t} {r} {c = d} among is) = read (inr (inr (inr (t, among, ap (node_naming t.class) is))))

pub names_of_named : (rule : Rule) (n : Name) (c : ℕ) → IsNamed rule n c → Names rule n c
names_of_named rule n c (read h) = read_names rule n c h
names_of_named rule n c (assigned h) = assigned_names rule n c h
names_of_named rule n c (root h) = root_names rule n c h
