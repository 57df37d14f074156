-- The equality constraints of a rule, taken apart: pairs of its statements, operands, choices, nodes and comparisons,
-- and names with two positions.
use Rattle.rule_typing.proofs.Common.{◌≡◌, ◌⊎◌, inl, inr, ℕ, List, [], ◌∷◌, ◌++◌, get_or, Option, None, Some, refl, sym, ap, subst, ◌∙◌, arith, slice_get, Contains, option_map, option_and_then, same_Some, Contains-append_left, Contains-append_right, Contains-append_cases, Rule, Statement, Op, Binary, Compare, Unary, Select, Convert, Freeze, Copy, Operand, Argument, Choice, Register, Name, Term, Node, Formula, operands_among, operands_in, choices_among, IsStatementOf, Names, TermLine, unary, left, right, Line, binary_left, binary_right, compared, one_operand, select_true, select_false, freeze, copy, name, term, witness_term, compared_terms, masked, witness, Half, paired, op_pairs, statement_pairs, node_class, chosen_class, term_class, operand_pairs, choice_pairs, node_pairs, term_pairs, formula_pairs, formula_naming, PairOf, NamingOf}
use Rattle.rule_core.specs.declared.rule.Argument.TheVariants as arguments
use Rattle.rule_core.specs.declared.rule.Name.TheVariants as names
use Rattle.rule_core.specs.declared.rule.Node.TheVariants as nodes
use Rattle.rule_core.specs.declared.rule.Formula.TheVariants as formulas
use Rattle.rule_core.specs.Positions.{operand}
use Rattle.rule_typing.specs.declared.half.Half.TheVariants as halves
use Rattle.rule_typing.proofs.NameLines.{statements_of, half_operand, operand_cases}

-- the kinds of parts
pub data OnLine (rule : Rule) (c d : ℕ) : Type 0 where
  by_statement : PairOf statement_pairs (rule.source ++ rule.target) c d → OnLine rule c d
  by_operand : (half : Half) → PairOf (operand_pairs rule) (operands_among (statements_of rule half)) c d → OnLine rule c d
  by_choice : (half : Half) → PairOf (choice_pairs rule half) (choices_among (statements_of rule half)) c d → OnLine rule c d
  by_term : PairOf (term_pairs rule.terms) rule.terms c d → OnLine rule c d
  by_witness : PairOf (term_pairs rule.witness_terms) rule.witness_terms c d → OnLine rule c d
  by_comparison : PairOf (formula_pairs rule.terms) rule.precondition c d → OnLine rule c d
  by_mask : (n : Name) → NamingOf (formula_naming rule.terms) rule.precondition n c → Names rule n d → OnLine rule c d
  by_name : (n : Name) → Names rule n c → Names rule n d → OnLine rule c d

-- elements of short lists of pairs
one_pair : (x p : ℕ × ℕ) → Contains (x ∷ []) p → x ≡ p
one_pair x p (k, within, is) = let first : k ≡ 0 = omega arith in subst (λ j. get_or (x ∷ []) j p ≡ p) first is

two_pairs : (x y p : ℕ × ℕ) → Contains (x ∷ y ∷ []) p → (x ≡ p) ⊎ (y ≡ p)
two_pairs x y p among = elim (Contains-append_cases (x ∷ []) (y ∷ []) p among) [ inl here ↦ inl (one_pair x p here) | inr later ↦ inr (one_pair y p later) ]

no_pair : (p : ℕ × ℕ) → Contains [] p → ⊥
no_pair p (k, within, is) = omega arith

here : (xs : List (ℕ × ℕ)) (p : ℕ × ℕ) → Contains (p ∷ xs) p
here xs p = (0, omega arith, refl)

later : (x p : ℕ × ℕ) → Contains (x ∷ p ∷ []) p
later x p = (1, omega arith, refl)

-- `paired` holds two classes exactly where both are there
pub from_paired : (a b : Option ℕ) (c d : ℕ) → Contains (paired a b) (c, d) → (a ≡ Some c) × (b ≡ Some d)
from_paired None b c d among = absurd (no_pair (c, d) among)
from_paired (Some x) None c d among = absurd (no_pair (c, d) among)
from_paired (Some x) (Some y) c d among = let e = one_pair (x, y) (c, d) among in (ap (λ (p : ℕ × ℕ). Some p.0) e, ap (λ (p : ℕ × ℕ). Some p.1) e)

pub to_paired : (a b : Option ℕ) (c d : ℕ) → a ≡ Some c → b ≡ Some d → Contains (paired a b) (c, d)
to_paired a b c d is is' = subst (λ x. Contains (paired x b) (c, d)) (sym is) (subst (λ y. Contains (paired (Some c) y) (c, d)) (sym is') (here [] (c, d)))

pub from_node_class : (terms : List Term) (n c : ℕ) → node_class terms n ≡ Some c → (t : Term) × (slice_get terms n ≡ Some t) × (t.class ≡ c)
from_node_class terms n c e = known (slice_get terms n) e
  where
    known : (o : Option Term) → option_map (λ t. t.class) o ≡ Some c → (t : Term) × (o ≡ Some t) × (t.class ≡ c)
    known None e = cc
    known (Some t) e = (t, refl, same_Some t.class c e)

pub to_node_class : (terms : List Term) (n : ℕ) (t : Term) → slice_get terms n ≡ Some t → node_class terms n ≡ Some t.class
to_node_class terms n t at = ap (λ o. option_map (λ (x : Term). x.class) o) at

from_chosen : (rule : Rule) (k d : ℕ) → chosen_class rule k ≡ Some d → (n : ℕ) × (slice_get rule.witnesses k ≡ Some n) × (node_class rule.witness_terms n ≡ Some d)
from_chosen rule k d e = known (slice_get rule.witnesses k) e
  where
    known : (o : Option ℕ) → option_and_then (node_class rule.witness_terms) o ≡ Some d → (n : ℕ) × (o ≡ Some n) × (node_class rule.witness_terms n ≡ Some d)
    known None e = cc
    known (Some n) e = (n, refl, e)

abbrev On : Rule → ℕ × ℕ → Type 0
On rule p = Line rule p.0 p.1

-- ---- from parts to constraints

at_op : (rule : Rule) (s : Statement) (op : Op) (p : ℕ × ℕ) → IsStatementOf rule s → s.op ≡ op → Contains (op_pairs s.class op) p → On rule p
at_op rule s (Binary op flags a b) p stands is among = elim (two_pairs (s.class, a.class) (s.class, b.class) p among) [ inl e ↦ subst (On rule) e (binary_left stands is) | inr e ↦ subst (On rule) e (binary_right stands is) ]
at_op rule s (Compare pred samesign a b) p stands is among = subst (On rule) (one_pair (a.class, b.class) p among) (compared stands is)
at_op rule s (Unary op truth a) p stands is among = subst (On rule) (one_pair (s.class, a.class) p among) (one_operand stands is)
at_op rule s (Select z a b) p stands is among = elim (two_pairs (s.class, a.class) (s.class, b.class) p among) [ inl e ↦ subst (On rule) e (select_true stands is) | inr e ↦ subst (On rule) e (select_false stands is) ]
at_op rule s (Convert cast flags a to) p stands is among = absurd (no_pair p among)
at_op rule s (Freeze a k) p stands is among = subst (On rule) (one_pair (s.class, a.class) p among) (freeze stands is)
at_op rule s (Copy a) p stands is among = subst (On rule) (one_pair (s.class, a.class) p among) (copy stands is)

at_value : (rule : Rule) (o : Operand) (value : Argument) (d : ℕ) → Contains (operands_in rule) o → o.value ≡ value → term_class rule value ≡ Some d → Line rule o.class d
at_value rule o (arguments.Term n) d among is e =
    let (t, at, same) = from_node_class rule.terms n d e in subst (Line rule o.class) same (operand among is at)
at_value rule o (arguments.Undef k) d among is e = cc
at_value rule o (arguments.Register r) d among is e = cc
at_value rule o (arguments.Literal z) d among is e = cc
at_value rule o (arguments.Truth b) d among is e = cc
at_value rule o (arguments.Constant k) d among is e = cc

at_operand : (rule : Rule) (half : Half) (o : Operand) (c d : ℕ) → Contains (operands_among (statements_of rule half)) o → Contains (operand_pairs rule o) (c, d) → Line rule c d
at_operand rule half o c d among pairs =
    let (own, other) = from_paired (Some o.class) (term_class rule o.value) c d pairs in
    subst (λ x. Line rule x d) (same_Some o.class c own) (at_value rule o o.value d (half_operand rule half o among) refl other)

at_choice : (rule : Rule) (half : Half) (choice : Choice) (c d : ℕ) → Contains (choices_among (statements_of rule half)) choice → Contains (choice_pairs rule half choice) (c, d) → Line rule c d
at_choice rule halves.Source choice c d among pairs =
    let (own, other) = from_paired (Some choice.class) (chosen_class rule choice.place) c d pairs in
    let (n, chosen, class) = from_chosen rule choice.place d other in
    let (t, at, same) = from_node_class rule.witness_terms n d class in
    subst (λ x. Line rule x d) (same_Some choice.class c own) (subst (Line rule choice.class) same (witness among chosen at))
at_choice rule halves.Target choice c d among pairs = absurd (no_pair (c, d) pairs)

at_node : (terms : List Term) (t : Term) (node : Node) (c d : ℕ) → Contains terms t → t.node ≡ node → Contains (node_pairs terms t.class node) (c, d) → TermLine terms c d
at_node terms t (nodes.Unary function a) c d among is pairs =
    let (own, other) = from_paired (Some t.class) (node_class terms a) c d pairs in
    let (x, at, same) = from_node_class terms a d other in
    subst (λ y. TermLine terms y d) (same_Some t.class c own) (subst (TermLine terms t.class) same (unary among is at))
at_node terms t (nodes.Binary op a b) c d among is pairs = elim (Contains-append_cases (paired (Some t.class) (node_class terms a)) (paired (Some t.class) (node_class terms b)) (c, d) pairs) [
  | inl first ↦
      let (own, other) = from_paired (Some t.class) (node_class terms a) c d first in
      let (x, at, same) = from_node_class terms a d other in
      subst (λ y. TermLine terms y d) (same_Some t.class c own) (subst (TermLine terms t.class) same (left among is at))
  | inr second ↦
      let (own, other) = from_paired (Some t.class) (node_class terms b) c d second in
      let (x, at, same) = from_node_class terms b d other in
      subst (λ y. TermLine terms y d) (same_Some t.class c own) (subst (TermLine terms t.class) same (right among is at))
]
at_node terms t (nodes.Literal z) c d among is pairs = absurd (no_pair (c, d) pairs)
at_node terms t (nodes.Constant k) c d among is pairs = absurd (no_pair (c, d) pairs)
at_node terms t (nodes.Register r) c d among is pairs = absurd (no_pair (c, d) pairs)
at_node terms t (nodes.Choice k) c d among is pairs = absurd (no_pair (c, d) pairs)
at_node terms t (nodes.Width r e) c d among is pairs = absurd (no_pair (c, d) pairs)

at_formula : (rule : Rule) (f : Formula) (c d : ℕ) → Contains rule.precondition f → Contains (formula_pairs rule.terms f) (c, d) → Line rule c d
at_formula rule (formulas.Compare pred a b) c d among pairs =
    let (first, second) = from_paired (node_class rule.terms a) (node_class rule.terms b) c d pairs in
    let (x, at, same) = from_node_class rule.terms a c first in
    let (y, at', same') = from_node_class rule.terms b d second in
    subst (λ e. Line rule e d) same (subst (Line rule x.class) same' (compared_terms among at at'))
at_formula rule (formulas.IsPowerOfTwo a) c d among pairs = absurd (no_pair (c, d) pairs)
at_formula rule (formulas.IsSignBit a) c d among pairs = absurd (no_pair (c, d) pairs)
at_formula rule (formulas.HasOneUse j) c d among pairs = absurd (no_pair (c, d) pairs)
at_formula rule (formulas.MaskedValueIsZero r a) c d among pairs = absurd (no_pair (c, d) pairs)
at_formula rule (formulas.IsKnownNonZero r) c d among pairs = absurd (no_pair (c, d) pairs)
at_formula rule (formulas.Not a) c d among pairs = absurd (no_pair (c, d) pairs)
at_formula rule (formulas.And a b) c d among pairs = absurd (no_pair (c, d) pairs)
at_formula rule (formulas.Or a b) c d among pairs = absurd (no_pair (c, d) pairs)

from_masked : (r : Register) (o : Option ℕ) (n : Name) (c : ℕ) → option_map {U = Name × ℕ} (λ x. (names.Register r, x)) o ≡ Some (n, c) → (o ≡ Some c) × (n ≡ names.Register r)
from_masked r None n c e = cc
from_masked r (Some x) n c e =
    let both : (names.Register r, x) ≡ (n, c) = same_Some (names.Register r, x) (n, c) e in
    (ap (λ (p : Name × ℕ). Some p.1) both, ap (λ (p : Name × ℕ). p.0) (sym both))

at_mask : (rule : Rule) (f : Formula) (n : Name) (c d : ℕ) → Contains rule.precondition f → formula_naming rule.terms f ≡ Some (n, c) → Names rule n d → Line rule c d
at_mask rule (formulas.MaskedValueIsZero r a) n c d among e q =
    let (class, is) = from_masked r (node_class rule.terms a) n c e in
    let (t, at, same) = from_node_class rule.terms a c class in
    subst (λ x. Line rule x d) same (masked among at (subst (λ m. Names rule m d) is q))
at_mask rule (formulas.Compare pred a b) n c d among e q = cc
at_mask rule (formulas.IsPowerOfTwo a) n c d among e q = cc
at_mask rule (formulas.IsSignBit a) n c d among e q = cc
at_mask rule (formulas.HasOneUse j) n c d among e q = cc
at_mask rule (formulas.IsKnownNonZero r) n c d among e q = cc
at_mask rule (formulas.Not a) n c d among e q = cc
at_mask rule (formulas.And a b) n c d among e q = cc
at_mask rule (formulas.Or a b) n c d among e q = cc

pub line_of : (rule : Rule) (c d : ℕ) → OnLine rule c d → Line rule c d
line_of rule c d (by_statement (s, stands, pairs)) = at_op rule s s.op (c, d) stands refl pairs
line_of rule c d (by_operand half (o, among, pairs)) = at_operand rule half o c d among pairs
line_of rule c d (by_choice half (choice, among, pairs)) = at_choice rule half choice c d among pairs
line_of rule c d (by_term (t, among, pairs)) = term (at_node rule.terms t t.node c d among refl pairs)
line_of rule c d (by_witness (t, among, pairs)) = witness_term (at_node rule.witness_terms t t.node c d among refl pairs)
line_of rule c d (by_comparison (f, among, pairs)) = at_formula rule f c d among pairs
line_of rule c d (by_mask n (f, among, e) q) = at_mask rule f n c d among e q
line_of rule c d (by_name n p q) = name p q

-- ---- from constraints to parts

op_pair : (rule : Rule) (s : Statement) (op : Op) (c d : ℕ) → IsStatementOf rule s → s.op ≡ op → Contains (op_pairs s.class op) (c, d) → OnLine rule c d
op_pair rule s op c d stands is pairs = by_statement (s, stands, subst (λ x. Contains (op_pairs s.class x) (c, d)) (sym is) pairs)

node_pair : (terms : List Term) (t : Term) (node : Node) (c d : ℕ) → Contains terms t → t.node ≡ node → Contains (node_pairs terms t.class node) (c, d) → PairOf (term_pairs terms) terms c d
node_pair terms t node c d among is pairs = (t, among, subst (λ x. Contains (node_pairs terms t.class x) (c, d)) (sym is) pairs)

term_pair : (terms : List Term) (c d : ℕ) → TermLine terms c d → PairOf (term_pairs terms) terms c d
term_pair terms c d (unary {t} {x} {function} {a} among is at) =
    node_pair terms t (nodes.Unary function a) t.class x.class among is (to_paired (Some t.class) (node_class terms a) t.class x.class refl (to_node_class terms a x at))
term_pair terms c d (left {t} {x} {op} {a} {b} among is at) =
    node_pair terms t (nodes.Binary op a b) t.class x.class among is
    (Contains-append_left (paired (Some t.class) (node_class terms a)) (paired (Some t.class) (node_class terms b)) (t.class, x.class) (to_paired (Some t.class) (node_class terms a) t.class x.class refl (to_node_class terms a x at)))
term_pair terms c d (right {t} {x} {op} {a} {b} among is at) =
    node_pair terms t (nodes.Binary op a b) t.class x.class among is
    (Contains-append_right (paired (Some t.class) (node_class terms a)) (paired (Some t.class) (node_class terms b)) (t.class, x.class) (to_paired (Some t.class) (node_class terms b) t.class x.class refl (to_node_class terms b x at)))

value_pair : (rule : Rule) (o : Operand) (value : Argument) (d : ℕ) → o.value ≡ value → term_class rule value ≡ Some d → Contains (operand_pairs rule o) (o.class, d)
value_pair rule o value d is class = to_paired (Some o.class) (term_class rule o.value) o.class d refl (ap (term_class rule) is ∙ class)

pub line_cases : (rule : Rule) (c d : ℕ) → Line rule c d → OnLine rule c d
line_cases rule c d (binary_left {s} {op} {flags} {a} {b} stands is) = op_pair rule s (Binary op flags a b) s.class a.class stands is (here ((s.class, b.class) ∷ []) (s.class, a.class))
line_cases rule c d (binary_right {s} {op} {flags} {a} {b} stands is) = op_pair rule s (Binary op flags a b) s.class b.class stands is (later (s.class, a.class) (s.class, b.class))
line_cases rule c d (compared {s} {pred} {samesign} {a} {b} stands is) = op_pair rule s (Compare pred samesign a b) a.class b.class stands is (here [] (a.class, b.class))
line_cases rule c d (one_operand {s} {op} {truth} {a} stands is) = op_pair rule s (Unary op truth a) s.class a.class stands is (here [] (s.class, a.class))
line_cases rule c d (select_true {s} {c = z} {a} {b} stands is) = op_pair rule s (Select z a b) s.class a.class stands is (here ((s.class, b.class) ∷ []) (s.class, a.class))
line_cases rule c d (select_false {s} {c = z} {a} {b} stands is) = op_pair rule s (Select z a b) s.class b.class stands is (later (s.class, a.class) (s.class, b.class))
line_cases rule c d (freeze {s} {a} {k} stands is) = op_pair rule s (Freeze a k) s.class a.class stands is (here [] (s.class, a.class))
line_cases rule c d (copy {s} {a} stands is) = op_pair rule s (Copy a) s.class a.class stands is (here [] (s.class, a.class))
line_cases rule c d (name {n} p q) = by_name n p q
line_cases rule c d (term on) = by_term (term_pair rule.terms c d on)
line_cases rule c d (witness_term on) = by_witness (term_pair rule.witness_terms c d on)
line_cases rule c d (operand {o} {n} {t} among is at) = elim (operand_cases rule o among) [
  | inl first ↦ by_operand halves.Source (o, first, value_pair rule o (arguments.Term n) t.class is (to_node_class rule.terms n t at))
  | inr second ↦ by_operand halves.Target (o, second, value_pair rule o (arguments.Term n) t.class is (to_node_class rule.terms n t at))
]
line_cases rule c d (compared_terms {pred} {a} {b} {x} {y} among at at') =
    by_comparison (formulas.Compare pred a b, among, to_paired (node_class rule.terms a) (node_class rule.terms b) x.class y.class (to_node_class rule.terms a x at) (to_node_class rule.terms b y at'))
line_cases rule c d (masked {r} {a} {c = e} {t} among at q) =
    by_mask (names.Register r) (formulas.MaskedValueIsZero r a, among, ap (λ o. option_map {U = Name × ℕ} (λ x. (names.Register r, x)) o) (to_node_class rule.terms a t at)) q
line_cases rule c d (witness {k} {c = e} {n} {t} among chosen at) =
    let choice : Choice = record { place = k; class = e } in
    by_choice halves.Source (choice, among, to_paired (Some e) (chosen_class rule k) e t.class refl (ap (λ x. option_and_then (node_class rule.witness_terms) x) chosen ∙ to_node_class rule.witness_terms n t at))
