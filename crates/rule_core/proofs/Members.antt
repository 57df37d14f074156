-- What stands in a rule: its statements, their operands, and the classes of both.
use Rattle.rule_core.proofs.Common.{◌≡◌, ℕ, zero, suc, ◌+◌, ◌<◌, List, [], ◌∷◌, ◌++◌, inl, inr, length, take, length-append, append_assoc, add_assoc, zero-add, suc-add, Some, refl, sym, ap, ◌∙◌, arith, get_or, slice_get, Contains, map, flat_map, slice_get_within, get_or_from_slice_get, flat_map-append, Contains-append_left, Contains-append_right, Contains-append_cases, Rule, Statement, Op, Freeze, Operand, Argument, Term, Node, Register, Choice, operands_of, operands_among, operands_in, IsOperandAmong, undef_in, frozen_in, choices_of, choices_among, LeavesOpen, classes_of_statement, classes_of_term, classes_of, terms_in, IsStatementOf, IsTermOf}
use Rattle.rule_core.specs.declared.rule.Argument.TheVariants as arguments
use Rattle.rule_core.specs.declared.rule.Node.TheVariants as nodes

-- what is at a place of a list is an element of it
pub Contains-from_get : {X : Type 0} (xs : List X) (k : ℕ) (x : X) → slice_get xs k ≡ Some x → Contains xs x
Contains-from_get xs k x at = (k, slice_get_within xs k x at, get_or_from_slice_get xs k x x at)

-- an element of f x, for an element x, is one of `flat_map f`
pub Contains-flat_map : {X Y : Type 0} (f : X → List Y) (xs : List X) (x : X) (y : Y) → Contains xs x → Contains (f x) y → Contains (flat_map f xs) y
Contains-flat_map f [] x y (k, lt, e) h = absurd (omega arith)
Contains-flat_map f (a ∷ xs) x y (zero, lt, e) h = Contains-append_left (f a) (flat_map f xs) y (rw (sym e) at h)
Contains-flat_map f (a ∷ xs) x y (suc k, lt, e) h =
    Contains-append_right (f a) (flat_map f xs) y (Contains-flat_map f xs x y (k, omega arith, e) h)

-- an element of `flat_map f` is one of f x, for some x at some place
pub flat_map-from : {X Y : Type 0} (f : X → List Y) (xs : List X) (y : Y) → Contains (flat_map f xs) y → (j : ℕ) × (x : X) × (slice_get xs j ≡ Some x) × Contains (f x) y
flat_map-from f [] y (k, lt, e) = absurd (omega arith)
flat_map-from f (a ∷ xs) y among =
    elim (Contains-append_cases (f a) (flat_map f xs) y among) [
      | inl here ↦ (0, a, refl, here)
      | inr there ↦ let rest = flat_map-from f xs y there in (suc rest.0, rest.1, rest.2, rest.3)
    ]

-- the element of a list of one is that one
single : {X : Type 0} (a x : X) → Contains (a ∷ []) x → a ≡ x
single a x (zero, lt, e) = e
single a x (suc k, lt, e) = absurd (omega arith)

-- f x is an element of `map f` where x is one of the list
pub Contains-map : {X Y : Type 0} (f : X → Y) (xs : List X) (x : X) → Contains xs x → Contains (map f xs) (f x)
Contains-map f [] x (k, lt, e) = absurd (omega arith)
Contains-map f (a ∷ xs) x (zero, lt, e) = (0, omega arith, ap f e)
Contains-map f (a ∷ xs) x (suc k, lt, e) = let rest = Contains-map f xs x (k, omega arith, e) in (suc rest.0, omega arith, rest.2)

pub source_statement : (rule : Rule) (k : ℕ) (s : Statement) → slice_get rule.source k ≡ Some s → IsStatementOf rule s
source_statement rule k s at = Contains-append_left rule.source rule.target s (Contains-from_get rule.source k s at)

pub target_statement : (rule : Rule) (k : ℕ) (s : Statement) → slice_get rule.target k ≡ Some s → IsStatementOf rule s
target_statement rule k s at = Contains-append_right rule.source rule.target s (Contains-from_get rule.target k s at)

-- the operands of a statement are operands of the rule, and their classes classes of the rule
pub operand_stands : (rule : Rule) (s : Statement) (o : Operand) → IsStatementOf rule s → Contains (operands_of s.op) o → Contains (operands_in rule) o
operand_stands rule s o stands among = Contains-flat_map (λ (t : Statement). operands_of t.op) (rule.source ++ rule.target) s o stands among

statement_class_stands : (rule : Rule) (s : Statement) (c : ℕ) → IsStatementOf rule s → Contains (classes_of_statement s) c → Contains (classes_of rule) c
statement_class_stands rule s c stands among =
    Contains-append_left (flat_map classes_of_statement (rule.source ++ rule.target)) (flat_map classes_of_term (terms_in rule)) c
    (Contains-flat_map classes_of_statement (rule.source ++ rule.target) s c stands among)

pub class_stands : (rule : Rule) (s : Statement) → IsStatementOf rule s → Contains (classes_of rule) s.class
class_stands rule s stands =
    statement_class_stands rule s s.class stands (Contains-from_get (classes_of_statement s) 0 s.class refl)

pub operand_class_stands : (rule : Rule) (s : Statement) (o : Operand) → IsStatementOf rule s → Contains (operands_of s.op) o → Contains (classes_of rule) o.class
operand_class_stands rule s o stands among =
    let at : Contains (classes_of_statement s) o.class = Contains-append_right (s.class ∷ []) (map (λ (p : Operand). p.class) (operands_of s.op)) o.class (Contains-map (λ (p : Operand). p.class) (operands_of s.op) o among) in
    statement_class_stands rule s o.class stands at

-- and so are the classes of the nodes of terms
term_class_among : (rule : Rule) (t : Term) (c : ℕ) → IsTermOf rule t → Contains (classes_of_term t) c → Contains (classes_of rule) c
term_class_among rule t c stands among =
    Contains-append_right (flat_map classes_of_statement (rule.source ++ rule.target)) (flat_map classes_of_term (terms_in rule)) c
    (Contains-flat_map classes_of_term (terms_in rule) t c stands among)

own_class : (t : Term) (node : Node) → t.node ≡ node → Contains (classes_of_term t) t.class
own_class t (nodes.Width r c) is = rw is (Contains-from_get (t.class ∷ c ∷ []) 0 t.class refl)
own_class t node is = rw is (Contains-from_get (t.class ∷ []) 0 t.class refl)

pub term_class_stands : (rule : Rule) (t : Term) → IsTermOf rule t → Contains (classes_of rule) t.class
term_class_stands rule t stands = term_class_among rule t t.class stands (own_class t t.node refl)

pub measured_class_stands : (rule : Rule) (t : Term) (r : Register) (c : ℕ) → IsTermOf rule t → t.node ≡ nodes.Width r c → Contains (classes_of rule) c
measured_class_stands rule t r c stands is = term_class_among rule t c stands (rw is (Contains-from_get (t.class ∷ c ∷ []) 1 c refl))

pub constant_term : (rule : Rule) (n : ℕ) (t : Term) → slice_get rule.terms n ≡ Some t → IsTermOf rule t
constant_term rule n t at = Contains-append_left rule.terms rule.witness_terms t (Contains-from_get rule.terms n t at)

pub witness_term : (rule : Rule) (n : ℕ) (t : Term) → slice_get rule.witness_terms n ≡ Some t → IsTermOf rule t
witness_term rule n t at = Contains-append_right rule.terms rule.witness_terms t (Contains-from_get rule.witness_terms n t at)

-- the classes of a rule: those of its source, of its target, of the constant terms and of `Wit:`, one list behind the
-- other
pub classes_apart : (rule : Rule) → classes_of rule ≡ flat_map classes_of_statement rule.source ++ (flat_map classes_of_statement rule.target ++ flat_map classes_of_term (terms_in rule))
classes_apart rule =
    rw (flat_map-append classes_of_statement rule.source rule.target)
    (append_assoc (flat_map classes_of_statement rule.source) (flat_map classes_of_statement rule.target) (flat_map classes_of_term (terms_in rule)))

-- two lists one behind the other keep the first one's places, and those of the second are moved by the first one's
-- length
pub get-append_left : {X : Type 0} (xs ys : List X) (k : ℕ) (x : X) → slice_get xs k ≡ Some x → slice_get (xs ++ ys) k ≡ Some x
get-append_left [] ys k x at = elim k as (λ j. slice_get [] j ≡ Some x → slice_get ys j ≡ Some x) [ zero ↦ λ h. cc | suc j ↦ λ h. cc ] at
get-append_left (a ∷ xs) ys zero x at = at
get-append_left (a ∷ xs) ys (suc k) x at = get-append_left xs ys k x at

pub get-append_right : {X : Type 0} (xs ys : List X) (k : ℕ) → slice_get (xs ++ ys) (length xs + k) ≡ slice_get ys k
get-append_right [] ys k = rw zero-add refl
get-append_right (a ∷ xs) ys k = rw (suc-add (length xs) k) (get-append_right xs ys k)

-- where f x is in `flat_map f`: behind what all before x are mapped to
pub get-flat_map : {X Y : Type 0} (f : X → List Y) (xs : List X) (i : ℕ) (x : X) (k : ℕ) (y : Y) → i < length xs → x ≡ get_or xs i x → slice_get (f x) k ≡ Some y → slice_get (flat_map f xs) (length (flat_map f (take i xs)) + k) ≡ Some y
get-flat_map f [] i x k y within is at = absurd (omega arith)
get-flat_map f (a ∷ xs) zero x k y within is at = rw zero-add (get-append_left (f a) (flat_map f xs) k y (rw is at at))
get-flat_map f (a ∷ xs) (suc i) x k y within is at =
    rw (length-append (f a) (flat_map f (take i xs)), add_assoc (length (f a)) (length (flat_map f (take i xs))) k)
    (get-append_right (f a) (flat_map f xs) (length (flat_map f (take i xs)) + k) ∙ get-flat_map f xs i x k y (omega arith) is at)

-- the same where the place is given as counted from the end of the first list
pub get_behind : {X : Type 0} (xs ys : List X) (k rest : ℕ) (x : X) → k ≡ length xs + rest → slice_get ys rest ≡ Some x → slice_get (xs ++ ys) k ≡ Some x
get_behind xs ys k rest x is at = rw is (get-append_right xs ys rest ∙ at)

-- the operands of a half are the rule's
pub source_operand : (rule : Rule) (o : Operand) → IsOperandAmong rule.source o → Contains (operands_in rule) o
source_operand rule o among =
    rw (flat_map-append (λ (s : Statement). operands_of s.op) rule.source rule.target)
    (Contains-append_left (operands_among rule.source) (operands_among rule.target) o among)

pub target_operand : (rule : Rule) (o : Operand) → IsOperandAmong rule.target o → Contains (operands_in rule) o
target_operand rule o among =
    rw (flat_map-append (λ (s : Statement). operands_of s.op) rule.source rule.target)
    (Contains-append_right (operands_among rule.source) (operands_among rule.target) o among)

-- The choices of a statement are those that its operands make
undefs_of : Operand → List Choice
undefs_of o = undef_in o.class o.value

pub undef_chosen : (s : Statement) (o : Operand) (k : ℕ) → Contains (operands_of s.op) o → o.value ≡ arguments.Undef k → Contains (choices_of s) (record { place = k; class = o.class })
unfolding undefs_of
undef_chosen s o k among is =
    let choice : Choice = record { place = k; class = o.class } in
    let own : Contains (undefs_of o) choice = rw is (Contains-from_get (choice ∷ []) 0 choice refl) in
    Contains-append_left (flat_map undefs_of (operands_of s.op)) (frozen_in s.class s.op) choice (Contains-flat_map undefs_of (operands_of s.op) o choice among own)

-- and the one that a freeze makes;
pub freeze_chosen : (s : Statement) (a : Operand) (k : ℕ) → s.op ≡ Freeze a k → Contains (choices_of s) (record { place = k; class = s.class })
unfolding undefs_of
freeze_chosen s a k is =
    let choice : Choice = record { place = k; class = s.class } in
    let own : Contains (frozen_in s.class s.op) choice = rw is (Contains-from_get (choice ∷ []) 0 choice refl) in
    Contains-append_right (flat_map undefs_of (operands_of s.op)) (frozen_in s.class s.op) choice own

-- and there are no others.
undef_is : (c : ℕ) (x : Argument) (choice : Choice) → Contains (undef_in c x) choice → (x ≡ arguments.Undef choice.place) × (c ≡ choice.class)
undef_is c (arguments.Undef k) choice here =
    let same = single (record { place = k; class = c }) choice here in
    (ap (λ (other : Choice). arguments.Undef other.place) same, ap (λ (other : Choice). other.class) same)
undef_is c x choice (k, lt, e) = absurd (omega arith)

freeze_is : (c : ℕ) (op : Op) (choice : Choice) → Contains (frozen_in c op) choice → (c ≡ choice.class) × ((a : Operand) × (op ≡ Freeze a choice.place))
freeze_is c (Freeze a k) choice here =
    let same = single (record { place = k; class = c }) choice here in
    (ap (λ (other : Choice). other.class) same, (a, ap (λ (other : Choice). Freeze a other.place) same))
freeze_is c op choice (k, lt, e) = absurd (omega arith)

-- a choice of a statement is an `undef` that it reads, or the number of its freeze
pub data Opens (s : Statement) (choice : Choice) : Type 0 where
  reads_undef : (o : Operand) → Contains (operands_of s.op) o → o.value ≡ arguments.Undef choice.place → o.class ≡ choice.class → Opens s choice
  freezes : (a : Operand) → s.op ≡ Freeze a choice.place → s.class ≡ choice.class → Opens s choice

pub choice_opens : (s : Statement) (choice : Choice) → Contains (choices_of s) choice → Opens s choice
unfolding undefs_of
choice_opens s choice among =
    elim (Contains-append_cases (flat_map undefs_of (operands_of s.op)) (frozen_in s.class s.op) choice among) [
      | inl read ↦
          let at = flat_map-from undefs_of (operands_of s.op) choice read in
          let is = undef_is at.1.class at.1.value choice at.3 in
          reads_undef at.1 (Contains-from_get (operands_of s.op) at.0 at.1 at.2) is.0 is.1
      | inr frozen ↦ let is = freeze_is s.class s.op choice frozen in freezes is.1.0 is.1.1 is.0
    ]

-- a choice of a statement is one of its half
pub statement_open : (statements : List Statement) (s : Statement) (choice : Choice) → Contains statements s → Contains (choices_of s) choice → Contains (choices_among statements) choice
statement_open statements s choice here among = Contains-flat_map choices_of statements s choice here among

pub operand_open : (statements : List Statement) (o : Operand) (k : ℕ) → IsOperandAmong statements o → o.value ≡ arguments.Undef k → LeavesOpen statements k o.class
operand_open statements o k among is =
    let at = flat_map-from (λ (s : Statement). operands_of s.op) statements o among in
    statement_open statements at.1 (record { place = k; class = o.class }) (Contains-from_get statements at.0 at.1 at.2) (undef_chosen at.1 o k at.3 is)
