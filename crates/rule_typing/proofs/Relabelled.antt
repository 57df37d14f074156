-- Rules whose classes have other numbers: all else stays.
use Rattle.rule_typing.proofs.Common.{◌≡◌, ℕ, zero, suc, ◌+◌, List, [], ◌∷◌, ◌++◌, length, map, Some, refl, sym, ap, ◌∙◌, arith, length-append, slice_get, flat_map, map-append, length-map, same_Some, flat_map-append, Rule, Statement, Op, Binary, Compare, Unary, Select, Convert, Freeze, Copy, Operand, Argument, Choice, Term, Node, operands_of, operands_among, undef_in, frozen_in, choices_of, choices_among, terms_in, classes_of_statement, classes_of_node, classes_of_term, classes_of, mapped_op, mapped_statement, mapped_node, mapped_term, mapped, numbered_op, numbered_statement, numbered_statements, numbered_node, numbered_term, numbered_terms, positions_of, positions_among, numbered}
use Rattle.rule_core.specs.declared.rule.Argument.TheVariants as arguments
use Rattle.rule_core.specs.declared.rule.Node.TheVariants as nodes
use Rattle.rule_typing.proofs.NumberedLists.{none_there, AreFrom, from_both, count-numbered, classes-numbered, numbered_image, numbered_anew}

-- an operand whose class c is f c
abbrev pub mapped_operand : (ℕ → ℕ) → Operand → Operand
mapped_operand f o = record o { class = f o.class }

pub operands-mapped_op : (f : ℕ → ℕ) (op : Op) → operands_of (mapped_op f op) ≡ map (mapped_operand f) (operands_of op)
operands-mapped_op f (Binary op flags a b) = refl
operands-mapped_op f (Compare pred samesign a b) = refl
operands-mapped_op f (Unary op truth a) = refl
operands-mapped_op f (Select z a b) = refl
operands-mapped_op f (Convert cast flags a to) = refl
operands-mapped_op f (Freeze a j) = refl
operands-mapped_op f (Copy a) = refl

op_classes : (f : ℕ → ℕ) (op : Op) → map (λ o. o.class) (operands_of (mapped_op f op)) ≡ map f (map (λ o. o.class) (operands_of op))
op_classes f (Binary op flags a b) = refl
op_classes f (Compare pred samesign a b) = refl
op_classes f (Unary op truth a) = refl
op_classes f (Select z a b) = refl
op_classes f (Convert cast flags a to) = refl
op_classes f (Freeze a j) = refl
op_classes f (Copy a) = refl

node_classes : (f : ℕ → ℕ) (c : ℕ) (node : Node) → classes_of_node (f c) (mapped_node f node) ≡ map f (classes_of_node c node)
node_classes f c (nodes.Literal z) = refl
node_classes f c (nodes.Constant k) = refl
node_classes f c (nodes.Register r) = refl
node_classes f c (nodes.Choice k) = refl
node_classes f d (nodes.Width r c) = refl
node_classes f c (nodes.Unary function a) = refl
node_classes f c (nodes.Binary op a b) = refl

-- the classes of mapped elements are the mapped classes
flat-mapped : {X Y : Type 0} (classes : X → List Y) (g : X → X) (f : Y → Y) → ((x : X) → classes (g x) ≡ map f (classes x)) → (xs : List X) → flat_map classes (map g xs) ≡ map f (flat_map classes xs)
flat-mapped classes g f each [] = refl
flat-mapped classes g f each (x ∷ xs) = rw (flat-mapped classes g f each xs, each x) (sym (map-append f (classes x) (flat_map classes xs)))

pub classes-mapped : (f : ℕ → ℕ) (xs : List Statement) → flat_map classes_of_statement (map (mapped_statement f) xs) ≡ map f (flat_map classes_of_statement xs)
classes-mapped f xs = flat-mapped classes_of_statement (mapped_statement f) f (λ s. ap (λ l. f s.class ∷ l) (op_classes f s.op)) xs

pub term_classes-mapped : (f : ℕ → ℕ) (xs : List Term) → flat_map classes_of_term (map (mapped_term f) xs) ≡ map f (flat_map classes_of_term xs)
term_classes-mapped f xs = flat-mapped classes_of_term (mapped_term f) f (λ t. node_classes f t.class t.node) xs

-- the statements of the mapped rule are the mapped statements
pub statements_mapped : (f : ℕ → ℕ) (rule : Rule) → (mapped f rule).source ++ (mapped f rule).target ≡ map (mapped_statement f) (rule.source ++ rule.target)
statements_mapped f rule = sym (map-append (mapped_statement f) rule.source rule.target)

pub terms_mapped : (f : ℕ → ℕ) (rule : Rule) → terms_in (mapped f rule) ≡ map (mapped_term f) (terms_in rule)
terms_mapped f rule = sym (map-append (mapped_term f) rule.terms rule.witness_terms)

pub classes_of-mapped : (f : ℕ → ℕ) (rule : Rule) → classes_of (mapped f rule) ≡ map f (classes_of rule)
classes_of-mapped f rule =
    rw (statements_mapped f rule, terms_mapped f rule, classes-mapped f (rule.source ++ rule.target), term_classes-mapped f (terms_in rule))
    (sym (map-append f (flat_map classes_of_statement (rule.source ++ rule.target)) (flat_map classes_of_term (terms_in rule))))

-- its operands are the mapped operands
pub operands-mapped : (f : ℕ → ℕ) (xs : List Statement) → operands_among (map (mapped_statement f) xs) ≡ map (mapped_operand f) (operands_among xs)
operands-mapped f [] = refl
operands-mapped f (s ∷ xs) =
    rw (operands-mapped f xs, operands-mapped_op f s.op) (sym (map-append (mapped_operand f) (operands_of s.op) (operands_among xs)))

-- its choices are the mapped choices
abbrev pub mapped_choice : (ℕ → ℕ) → Choice → Choice
mapped_choice f choice = record choice { class = f choice.class }

undefs_of : Operand → List Choice
undefs_of o = undef_in o.class o.value

undef-mapped : (f : ℕ → ℕ) (c : ℕ) (value : Argument) → undef_in (f c) value ≡ map (mapped_choice f) (undef_in c value)
undef-mapped f c (arguments.Undef k) = refl
undef-mapped f c (arguments.Register r) = refl
undef-mapped f c (arguments.Literal z) = refl
undef-mapped f c (arguments.Truth b) = refl
undef-mapped f c (arguments.Constant k) = refl
undef-mapped f c (arguments.Term n) = refl

frozen-mapped : (f : ℕ → ℕ) (c : ℕ) (op : Op) → frozen_in (f c) (mapped_op f op) ≡ map (mapped_choice f) (frozen_in c op)
frozen-mapped f c (Binary op flags a b) = refl
frozen-mapped f c (Compare pred samesign a b) = refl
frozen-mapped f c (Unary op truth a) = refl
frozen-mapped f c (Select z a b) = refl
frozen-mapped f c (Convert cast flags a to) = refl
frozen-mapped f c (Freeze a j) = refl
frozen-mapped f c (Copy a) = refl

choices_of-mapped : (f : ℕ → ℕ) (s : Statement) → choices_of (mapped_statement f s) ≡ map (mapped_choice f) (choices_of s)
unfolding undefs_of
choices_of-mapped f s =
    let undefs : flat_map undefs_of (operands_of (mapped_op f s.op)) ≡ map (mapped_choice f) (flat_map undefs_of (operands_of s.op))
    = ap (flat_map undefs_of) (operands-mapped_op f s.op) ∙ flat-mapped undefs_of (mapped_operand f) (mapped_choice f) (λ o. undef-mapped f o.class o.value) (operands_of s.op) in
    ap (λ l. l ++ frozen_in (f s.class) (mapped_op f s.op)) undefs
    ∙ ap (λ l. map (mapped_choice f) (flat_map undefs_of (operands_of s.op)) ++ l) (frozen-mapped f s.class s.op)
    ∙ sym (map-append (mapped_choice f) (flat_map undefs_of (operands_of s.op)) (frozen_in s.class s.op))

pub choices-mapped : (f : ℕ → ℕ) (xs : List Statement) → choices_among (map (mapped_statement f) xs) ≡ map (mapped_choice f) (choices_among xs)
choices-mapped f xs = flat-mapped choices_of (mapped_statement f) (mapped_choice f) (choices_of-mapped f) xs

-- f and then g is one map, their composition
mapped_op-mapped_op : (g f : ℕ → ℕ) (op : Op) → mapped_op g (mapped_op f op) ≡ mapped_op (λ c. g (f c)) op
mapped_op-mapped_op g f (Binary op flags a b) = refl
mapped_op-mapped_op g f (Compare pred samesign a b) = refl
mapped_op-mapped_op g f (Unary op truth a) = refl
mapped_op-mapped_op g f (Select z a b) = refl
mapped_op-mapped_op g f (Convert cast flags a to) = refl
mapped_op-mapped_op g f (Freeze a j) = refl
mapped_op-mapped_op g f (Copy a) = refl

statements-mapped : (g f : ℕ → ℕ) (xs : List Statement) → map (mapped_statement g) (map (mapped_statement f) xs) ≡ map (mapped_statement (λ c. g (f c))) xs
statements-mapped g f [] = refl
statements-mapped g f (s ∷ xs) = rw (statements-mapped g f xs, mapped_op-mapped_op g f s.op) refl

node-mapped : (g f : ℕ → ℕ) (node : Node) → mapped_node g (mapped_node f node) ≡ mapped_node (λ c. g (f c)) node
node-mapped g f (nodes.Literal z) = refl
node-mapped g f (nodes.Constant k) = refl
node-mapped g f (nodes.Register r) = refl
node-mapped g f (nodes.Choice k) = refl
node-mapped g f (nodes.Width r c) = refl
node-mapped g f (nodes.Unary function a) = refl
node-mapped g f (nodes.Binary op a b) = refl

terms-mapped : (g f : ℕ → ℕ) (xs : List Term) → map (mapped_term g) (map (mapped_term f) xs) ≡ map (mapped_term (λ c. g (f c))) xs
terms-mapped g f [] = refl
terms-mapped g f (t ∷ xs) = rw (terms-mapped g f xs, node-mapped g f t.node) refl

pub mapped-mapped : (g f : ℕ → ℕ) (rule : Rule) → mapped g (mapped f rule) ≡ mapped (λ c. g (f c)) rule
mapped-mapped g f rule = rw (statements-mapped g f rule.source, statements-mapped g f rule.target, terms-mapped g f rule.terms, terms-mapped g f rule.witness_terms) refl

-- the identity changes nothing
mapped_op-id : (op : Op) → mapped_op (λ c. c) op ≡ op
mapped_op-id (Binary op flags a b) = refl
mapped_op-id (Compare pred samesign a b) = refl
mapped_op-id (Unary op truth a) = refl
mapped_op-id (Select z a b) = refl
mapped_op-id (Convert cast flags a to) = refl
mapped_op-id (Freeze a j) = refl
mapped_op-id (Copy a) = refl

statements-id : (xs : List Statement) → map (mapped_statement (λ c. c)) xs ≡ xs
statements-id [] = refl
statements-id (s ∷ xs) = rw (statements-id xs, mapped_op-id s.op) refl

node-id : (node : Node) → mapped_node (λ c. c) node ≡ node
node-id (nodes.Literal z) = refl
node-id (nodes.Constant k) = refl
node-id (nodes.Register r) = refl
node-id (nodes.Choice k) = refl
node-id (nodes.Width r c) = refl
node-id (nodes.Unary function a) = refl
node-id (nodes.Binary op a b) = refl

terms-id : (xs : List Term) → map (mapped_term (λ c. c)) xs ≡ xs
terms-id [] = refl
terms-id (t ∷ xs) = rw (terms-id xs, node-id t.node) refl

pub mapped-id : (rule : Rule) → mapped (λ c. c) rule ≡ rule
mapped-id rule = rw (statements-id rule.source, statements-id rule.target, terms-id rule.terms, terms-id rule.witness_terms) refl

-- Two rules that differ in no more than their classes.
abbrev pub AreAlike : Rule → Rule → Type 0
AreAlike r s = mapped (λ c. 0) r ≡ mapped (λ c. 0) s

pub alike_mapped : (f : ℕ → ℕ) (rule : Rule) → AreAlike (mapped f rule) rule
alike_mapped f rule = mapped-mapped (λ c. 0) f rule

numbered_op_bare : (n : ℕ) (op : Op) → mapped_op (λ c. 0) (numbered_op n op) ≡ mapped_op (λ c. 0) op
numbered_op_bare n (Binary op flags a b) = refl
numbered_op_bare n (Compare pred samesign a b) = refl
numbered_op_bare n (Unary op truth a) = refl
numbered_op_bare n (Select z a b) = refl
numbered_op_bare n (Convert cast flags a to) = refl
numbered_op_bare n (Freeze a j) = refl
numbered_op_bare n (Copy a) = refl

numbered_statement_bare : (n : ℕ) (s : Statement) → mapped_statement (λ c. 0) (numbered_statement n s) ≡ mapped_statement (λ c. 0) s
numbered_statement_bare n s = rw (numbered_op_bare (n + 1) s.op) refl

numbered_node_bare : (n : ℕ) (node : Node) → mapped_node (λ c. 0) (numbered_node n node) ≡ mapped_node (λ c. 0) node
numbered_node_bare n (nodes.Literal z) = refl
numbered_node_bare n (nodes.Constant k) = refl
numbered_node_bare n (nodes.Register r) = refl
numbered_node_bare n (nodes.Choice k) = refl
numbered_node_bare n (nodes.Width r c) = refl
numbered_node_bare n (nodes.Unary function a) = refl
numbered_node_bare n (nodes.Binary op a b) = refl

numbered_term_bare : (n : ℕ) (t : Term) → mapped_term (λ c. 0) (numbered_term n t) ≡ mapped_term (λ c. 0) t
numbered_term_bare n t = rw (numbered_node_bare (n + 1) t.node) refl

statements_bare : (n : ℕ) (xs : List Statement) → map (mapped_statement (λ c. 0)) (numbered_statements n xs) ≡ map (mapped_statement (λ c. 0)) xs
statements_bare n xs = numbered_image Statement classes_of_statement numbered_statement (mapped_statement (λ c. 0)) numbered_statement_bare n xs

terms_bare : (n : ℕ) (xs : List Term) → map (mapped_term (λ c. 0)) (numbered_terms n xs) ≡ map (mapped_term (λ c. 0)) xs
terms_bare n xs = numbered_image Term classes_of_term numbered_term (mapped_term (λ c. 0)) numbered_term_bare n xs

pub alike_numbered : (rule : Rule) → AreAlike (numbered rule) rule
alike_numbered rule =
    rw (
      statements_bare 0 rule.source,
      statements_bare (positions_of rule.source) rule.target,
      terms_bare (positions_of rule.source + positions_of rule.target) rule.terms,
      terms_bare (positions_of rule.source + positions_of rule.target + positions_among rule.terms) rule.witness_terms,
    ) refl

-- numbering doesn't depend on the classes before
numbered_mapped_op : (f : ℕ → ℕ) (n : ℕ) (op : Op) → numbered_op n (mapped_op f op) ≡ numbered_op n op
numbered_mapped_op f n (Binary op flags a b) = refl
numbered_mapped_op f n (Compare pred samesign a b) = refl
numbered_mapped_op f n (Unary op truth a) = refl
numbered_mapped_op f n (Select z a b) = refl
numbered_mapped_op f n (Convert cast flags a to) = refl
numbered_mapped_op f n (Freeze a j) = refl
numbered_mapped_op f n (Copy a) = refl

count-mapped_op : (f : ℕ → ℕ) (op : Op) → length (map (λ o. o.class) (operands_of (mapped_op f op))) ≡ length (map (λ o. o.class) (operands_of op))
count-mapped_op f (Binary op flags a b) = refl
count-mapped_op f (Compare pred samesign a b) = refl
count-mapped_op f (Unary op truth a) = refl
count-mapped_op f (Select z a b) = refl
count-mapped_op f (Convert cast flags a to) = refl
count-mapped_op f (Freeze a j) = refl
count-mapped_op f (Copy a) = refl

numbered_mapped_node : (f : ℕ → ℕ) (n : ℕ) (node : Node) → numbered_node n (mapped_node f node) ≡ numbered_node n node
numbered_mapped_node f n (nodes.Literal z) = refl
numbered_mapped_node f n (nodes.Constant k) = refl
numbered_mapped_node f n (nodes.Register r) = refl
numbered_mapped_node f n (nodes.Choice k) = refl
numbered_mapped_node f n (nodes.Width r c) = refl
numbered_mapped_node f n (nodes.Unary function a) = refl
numbered_mapped_node f n (nodes.Binary op a b) = refl

count-mapped_node : (f : ℕ → ℕ) (c d : ℕ) (node : Node) → length (classes_of_node d (mapped_node f node)) ≡ length (classes_of_node c node)
count-mapped_node f c d (nodes.Literal z) = refl
count-mapped_node f c d (nodes.Constant k) = refl
count-mapped_node f c d (nodes.Register r) = refl
count-mapped_node f c d (nodes.Choice k) = refl
count-mapped_node f b d (nodes.Width r c) = refl
count-mapped_node f c d (nodes.Unary function a) = refl
count-mapped_node f c d (nodes.Binary op a b) = refl

statements_anew : (f : ℕ → ℕ) (n : ℕ) (xs : List Statement) → numbered_statements n (map (mapped_statement f) xs) ≡ numbered_statements n xs
statements_anew f n xs =
    numbered_anew Statement classes_of_statement numbered_statement (mapped_statement f) (λ m s. rw (numbered_mapped_op f (m + 1) s.op) refl) (λ s. rw (count-mapped_op f s.op) refl) n xs

terms_anew : (f : ℕ → ℕ) (n : ℕ) (xs : List Term) → numbered_terms n (map (mapped_term f) xs) ≡ numbered_terms n xs
terms_anew f n xs =
    numbered_anew Term classes_of_term numbered_term (mapped_term f) (λ m t. rw (numbered_mapped_node f (m + 1) t.node) refl) (λ t. count-mapped_node f t.class (f t.class) t.node) n xs

positions-mapped : (f : ℕ → ℕ) (xs : List Statement) → positions_of (map (mapped_statement f) xs) ≡ positions_of xs
positions-mapped f xs = ap length (classes-mapped f xs) ∙ length-map (flat_map classes_of_statement xs) f

term_positions-mapped : (f : ℕ → ℕ) (xs : List Term) → positions_among (map (mapped_term f) xs) ≡ positions_among xs
term_positions-mapped f xs = ap length (term_classes-mapped f xs) ∙ length-map (flat_map classes_of_term xs) f

pub numbered-mapped : (f : ℕ → ℕ) (rule : Rule) → numbered (mapped f rule) ≡ numbered rule
numbered-mapped f rule =
    rw (
      positions-mapped f rule.source,
      positions-mapped f rule.target,
      term_positions-mapped f rule.terms,
      statements_anew f 0 rule.source,
      statements_anew f (positions_of rule.source) rule.target,
      terms_anew f (positions_of rule.source + positions_of rule.target) rule.terms,
      terms_anew f (positions_of rule.source + positions_of rule.target + positions_among rule.terms) rule.witness_terms,
    ) refl

pub numbered_alike : (r s : Rule) → AreAlike r s → numbered r ≡ numbered s
numbered_alike r s same = sym (numbered-mapped (λ c. 0) r) ∙ ap numbered same ∙ numbered-mapped (λ c. 0) s

-- in the numbered rule the class at each position is the position
count-numbered_op : (n : ℕ) (op : Op) → length (map (λ o. o.class) (operands_of (numbered_op n op))) ≡ length (map (λ o. o.class) (operands_of op))
count-numbered_op n (Binary op flags a b) = refl
count-numbered_op n (Compare pred samesign a b) = refl
count-numbered_op n (Unary op truth a) = refl
count-numbered_op n (Select z a b) = refl
count-numbered_op n (Convert cast flags a to) = refl
count-numbered_op n (Freeze a j) = refl
count-numbered_op n (Copy a) = refl

classes-numbered_op : (n : ℕ) (op : Op) (k c : ℕ) → slice_get (n ∷ map (λ o. o.class) (operands_of (numbered_op (n + 1) op))) k ≡ Some c → c ≡ n + k
classes-numbered_op n (Binary op flags a b) zero c at = let h = same_Some n c at in omega arith
classes-numbered_op n (Binary op flags a b) (suc zero) c at = let h = same_Some (n + 1) c at in omega arith
classes-numbered_op n (Binary op flags a b) (suc (suc zero)) c at = let h = same_Some (n + 1 + 1) c at in omega arith
classes-numbered_op n (Binary op flags a b) (suc (suc (suc k))) c at = cc
classes-numbered_op n (Compare pred samesign a b) zero c at = let h = same_Some n c at in omega arith
classes-numbered_op n (Compare pred samesign a b) (suc zero) c at = let h = same_Some (n + 1) c at in omega arith
classes-numbered_op n (Compare pred samesign a b) (suc (suc zero)) c at = let h = same_Some (n + 1 + 1) c at in omega arith
classes-numbered_op n (Compare pred samesign a b) (suc (suc (suc k))) c at = cc
classes-numbered_op n (Unary op truth a) zero c at = let h = same_Some n c at in omega arith
classes-numbered_op n (Unary op truth a) (suc zero) c at = let h = same_Some (n + 1) c at in omega arith
classes-numbered_op n (Unary op truth a) (suc (suc k)) c at = cc
classes-numbered_op n (Select z a b) zero c at = let h = same_Some n c at in omega arith
classes-numbered_op n (Select z a b) (suc zero) c at = let h = same_Some (n + 1) c at in omega arith
classes-numbered_op n (Select z a b) (suc (suc zero)) c at = let h = same_Some (n + 1 + 1) c at in omega arith
classes-numbered_op n (Select z a b) (suc (suc (suc zero))) c at = let h = same_Some (n + 1 + 2) c at in omega arith
classes-numbered_op n (Select z a b) (suc (suc (suc (suc k)))) c at = cc
classes-numbered_op n (Convert cast flags a to) zero c at = let h = same_Some n c at in omega arith
classes-numbered_op n (Convert cast flags a to) (suc zero) c at = let h = same_Some (n + 1) c at in omega arith
classes-numbered_op n (Convert cast flags a to) (suc (suc k)) c at = cc
classes-numbered_op n (Freeze a j) zero c at = let h = same_Some n c at in omega arith
classes-numbered_op n (Copy a) zero c at = let h = same_Some n c at in omega arith
classes-numbered_op n (Freeze a j) (suc zero) c at = let h = same_Some (n + 1) c at in omega arith
classes-numbered_op n (Copy a) (suc zero) c at = let h = same_Some (n + 1) c at in omega arith
classes-numbered_op n (Freeze a j) (suc (suc k)) c at = cc
classes-numbered_op n (Copy a) (suc (suc k)) c at = cc

count_statement : (n : ℕ) (s : Statement) → length (classes_of_statement (numbered_statement n s)) ≡ length (classes_of_statement s)
count_statement n s = ap suc (count-numbered_op (n + 1) s.op)

count_node : (n c : ℕ) (node : Node) → length (classes_of_node n (numbered_node (n + 1) node)) ≡ length (classes_of_node c node)
count_node n c (nodes.Literal z) = refl
count_node n c (nodes.Constant k) = refl
count_node n c (nodes.Register r) = refl
count_node n c (nodes.Choice k) = refl
count_node n d (nodes.Width r c) = refl
count_node n c (nodes.Unary function a) = refl
count_node n c (nodes.Binary op a b) = refl

from_one : (n : ℕ) → AreFrom n (n ∷ [])
from_one n zero c at = let h = same_Some n c at in omega arith
from_one n (suc k) c at = absurd (none_there k c at)

from_two : (n : ℕ) → AreFrom n (n ∷ (n + 1) ∷ [])
from_two n zero c at = let h = same_Some n c at in omega arith
from_two n (suc zero) c at = let h = same_Some (n + 1) c at in omega arith
from_two n (suc (suc k)) c at = absurd (none_there k c at)

node_from : (n : ℕ) (node : Node) → AreFrom n (classes_of_node n (numbered_node (n + 1) node))
node_from n (nodes.Literal z) = from_one n
node_from n (nodes.Constant k) = from_one n
node_from n (nodes.Register r) = from_one n
node_from n (nodes.Choice k) = from_one n
node_from n (nodes.Width r c) = from_two n
node_from n (nodes.Unary function a) = from_one n
node_from n (nodes.Binary op a b) = from_one n

-- the classes of a rule: those of the statements, of the constant terms and of `Wit:`, one list behind the other
pub classes_apart : (rule : Rule) → classes_of rule ≡ (flat_map classes_of_statement rule.source ++ flat_map classes_of_statement rule.target) ++ (flat_map classes_of_term rule.terms ++ flat_map classes_of_term rule.witness_terms)
classes_apart rule = rw (flat_map-append classes_of_statement rule.source rule.target, flat_map-append classes_of_term rule.terms rule.witness_terms) refl

statements_count : (n : ℕ) (xs : List Statement) → positions_of (numbered_statements n xs) ≡ positions_of xs
statements_count n xs = count-numbered Statement classes_of_statement numbered_statement count_statement n xs

terms_count : (n : ℕ) (xs : List Term) → positions_among (numbered_terms n xs) ≡ positions_among xs
terms_count n xs = count-numbered Term classes_of_term numbered_term (λ m t. count_node m t.class t.node) n xs

statements_from : (n : ℕ) (xs : List Statement) → AreFrom n (flat_map classes_of_statement (numbered_statements n xs))
statements_from n xs = classes-numbered Statement classes_of_statement numbered_statement count_statement (λ m s. classes-numbered_op m s.op) n xs

terms_from : (n : ℕ) (xs : List Term) → AreFrom n (flat_map classes_of_term (numbered_terms n xs))
terms_from n xs = classes-numbered Term classes_of_term numbered_term (λ m t. count_node m t.class t.node) (λ m t. node_from m t.node) n xs

module _ (rule : Rule) where
  abbrev source : List ℕ
  source = flat_map classes_of_statement (numbered rule).source

  abbrev target : List ℕ
  target = flat_map classes_of_statement (numbered rule).target

  abbrev terms : List ℕ
  terms = flat_map classes_of_term (numbered rule).terms

  abbrev witness : List ℕ
  witness = flat_map classes_of_term (numbered rule).witness_terms

  counts : (length source ≡ positions_of rule.source) × (length target ≡ positions_of rule.target) × (length terms ≡ positions_among rule.terms) × (length witness ≡ positions_among rule.witness_terms)
  counts = (
    statements_count 0 rule.source,
    statements_count (positions_of rule.source) rule.target,
    terms_count (positions_of rule.source + positions_of rule.target) rule.terms,
    terms_count (positions_of rule.source + positions_of rule.target + positions_among rule.terms) rule.witness_terms,
  )

  pub class_is_position : (k c : ℕ) → slice_get (classes_of (numbered rule)) k ≡ Some c → c ≡ k
  class_is_position k c at =
      let halves : AreFrom 0 (source ++ target) = from_both 0 (positions_of rule.source) source target (omega (arith, counts.0)) (statements_from 0 rule.source) (statements_from (positions_of rule.source) rule.target) in
      let nodes : AreFrom (positions_of rule.source + positions_of rule.target) (terms ++ witness)
      = from_both (positions_of rule.source + positions_of rule.target) (positions_of rule.source + positions_of rule.target + positions_among rule.terms) terms witness (omega (arith, counts.2))
      (terms_from (positions_of rule.source + positions_of rule.target) rule.terms) (terms_from (positions_of rule.source + positions_of rule.target + positions_among rule.terms) rule.witness_terms) in
      let both : AreFrom 0 ((source ++ target) ++ (terms ++ witness)) = from_both 0 (positions_of rule.source + positions_of rule.target) (source ++ target) (terms ++ witness) (omega (arith, counts.0, counts.1, length-append source target)) halves nodes in
      let h = both k c (ap (λ l. slice_get l k) (sym (classes_apart (numbered rule))) ∙ at) in omega arith

  pub count_positions : length (classes_of (numbered rule)) ≡ length (classes_of rule)
  count_positions =
      omega (
        arith,
        counts.0,
        counts.1,
        counts.2,
        counts.3,
        ap length (classes_apart (numbered rule)),
        ap length (classes_apart rule),
        length-append (source ++ target) (terms ++ witness),
        length-append source target,
        length-append terms witness,
        length-append (flat_map classes_of_statement rule.source ++ flat_map classes_of_statement rule.target) (flat_map classes_of_term rule.terms ++ flat_map classes_of_term rule.witness_terms),
        length-append (flat_map classes_of_statement rule.source) (flat_map classes_of_statement rule.target),
        length-append (flat_map classes_of_term rule.terms) (flat_map classes_of_term rule.witness_terms),
      )
