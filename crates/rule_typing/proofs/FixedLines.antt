-- Which widths a rule's constraints fix, and which classes its casts keep below others, by the statement that does it.
use Rattle.rule_typing.proofs.Common.{◌≡◌, ◌↔◌, inl, inr, ℕ, List, ◌++◌, None, Some, refl, sym, ap, subst, arith, Contains, same_Some, Trunc, ZExt, SExt, Rule, Statement, Op, Binary, Compare, Unary, Select, Convert, Freeze, Copy, Operand, operands_of, operands_in, classes_of, IsStatementOf, Fixed, comparison, condition, cast_to, written, truth, Smaller, truncated, zero_extended, sign_extended, operand_stands, class_stands, fixed_line, FixesWidth, StatementFixes, smaller_line, MeetsCastLine, MeetsSmaller}
use Rattle.rule_typing.proofs.Images.{from_flat_map}
use Rattle.rule_typing.proofs.MappedLines.{operand_class}

of_operand : (rule : Rule) (o : Operand) → Contains (operands_in rule) o → (s : Statement) × IsStatementOf rule s × Contains (operands_of s.op) o
of_operand rule o among = from_flat_map (λ (t : Statement). operands_of t.op) (rule.source ++ rule.target) o among

-- ---- fixed widths

pub of_fixed : (rule : Rule) (c N : ℕ) → Fixed rule c N → (s : Statement) × IsStatementOf rule s × StatementFixes c N s
of_fixed rule c N (comparison {s} {pred} {samesign} {a} {b} stands is) = (s, stands, inl (ap (fixed_line s.class) is))
of_fixed rule c N (condition {s} {c = z} {a} {b} stands is) = (s, stands, inl (ap (fixed_line s.class) is))
of_fixed rule c N (cast_to {s} {cast} {flags} {a} {N = M} stands is) = (s, stands, inl (ap (fixed_line s.class) is))
of_fixed rule c N (written {o} {N = M} among is) = let (s, stands, here) = of_operand rule o among in (s, stands, inr (o, here, (refl, inl is)))
of_fixed rule c N (truth {o} {b} among is) = let (s, stands, here) = of_operand rule o among in (s, stands, inr (o, here, (refl, inr ((b, is), refl))))

at_line : (rule : Rule) (s : Statement) (op : Op) (c N : ℕ) → IsStatementOf rule s → s.op ≡ op → fixed_line s.class op ≡ Some (c, N) → Fixed rule c N
at_line rule s (Binary op flags a b) c N stands is e = cc
at_line rule s (Compare pred samesign a b) c N stands is e = subst (λ (p : ℕ × ℕ). Fixed rule p.0 p.1) (same_Some (s.class, 1) (c, N) e) (comparison stands is)
at_line rule s (Unary op truth_value a) c N stands is e = cc
at_line rule s (Select z a b) c N stands is e = subst (λ (p : ℕ × ℕ). Fixed rule p.0 p.1) (same_Some (z.class, 1) (c, N) e) (condition stands is)
at_line rule s (Convert cast flags a None) c N stands is e = cc
at_line rule s (Convert cast flags a (Some M)) c N stands is e = subst (λ (p : ℕ × ℕ). Fixed rule p.0 p.1) (same_Some (s.class, M) (c, N) e) (cast_to stands is)
at_line rule s (Freeze a j) c N stands is e = cc
at_line rule s (Copy a) c N stands is e = cc

by_operand : (rule : Rule) (o : Operand) (c N : ℕ) → Contains (operands_in rule) o → FixesWidth c N o → Fixed rule c N
by_operand rule o c N among (is, inl e) = subst (λ k. Fixed rule k N) is (written among e)
by_operand rule o c N among (is, inr ((b, e), one)) = subst (λ k. Fixed rule k N) is (subst (Fixed rule o.class) (sym one) (truth among e))

pub fixed_of : (rule : Rule) (s : Statement) (c N : ℕ) → IsStatementOf rule s → StatementFixes c N s → Fixed rule c N
fixed_of rule s c N stands (inl e) = at_line rule s s.op c N stands refl e
fixed_of rule s c N stands (inr (o, among, fixes)) = by_operand rule o c N (operand_stands rule s o stands among) fixes

-- a class with a fixed width is one of the rule's
pub fixed_class : (rule : Rule) (c N : ℕ) → Fixed rule c N → Contains (classes_of rule) c
fixed_class rule c N (comparison {s} {pred} {samesign} {a} {b} stands is) = class_stands rule s stands
fixed_class rule c N (condition {s} {c = z} {a} {b} stands is) = operand_class rule z (operand_stands rule s z stands (subst (λ x. Contains (operands_of x) z) (sym is) (0, omega arith, refl)))
fixed_class rule c N (cast_to {s} {cast} {flags} {a} {N = M} stands is) = class_stands rule s stands
fixed_class rule c N (written {o} {N = M} among is) = operand_class rule o among
fixed_class rule c N (truth {o} {b} among is) = operand_class rule o among

-- ---- casts

pub of_smaller : (rule : Rule) (c d : ℕ) → Smaller rule c d → (s : Statement) × IsStatementOf rule s × (smaller_line s.class s.op ≡ Some (c, d))
of_smaller rule c d (truncated {s} {flags} {a} {to} stands is) = (s, stands, ap (smaller_line s.class) is)
of_smaller rule c d (zero_extended {s} {flags} {a} {to} stands is) = (s, stands, ap (smaller_line s.class) is)
of_smaller rule c d (sign_extended {s} {flags} {a} {to} stands is) = (s, stands, ap (smaller_line s.class) is)

pub at_cast : (rule : Rule) (s : Statement) (op : Op) (c d : ℕ) → IsStatementOf rule s → s.op ≡ op → smaller_line s.class op ≡ Some (c, d) → Smaller rule c d
at_cast rule s (Binary op flags a b) c d stands is e = cc
at_cast rule s (Compare pred samesign a b) c d stands is e = cc
at_cast rule s (Unary op truth_value a) c d stands is e = cc
at_cast rule s (Select z a b) c d stands is e = cc
at_cast rule s (Convert Trunc flags a to) c d stands is e = subst (λ (p : ℕ × ℕ). Smaller rule p.0 p.1) (same_Some (s.class, a.class) (c, d) e) (truncated stands is)
at_cast rule s (Convert ZExt flags a to) c d stands is e = subst (λ (p : ℕ × ℕ). Smaller rule p.0 p.1) (same_Some (a.class, s.class) (c, d) e) (zero_extended stands is)
at_cast rule s (Convert SExt flags a to) c d stands is e = subst (λ (p : ℕ × ℕ). Smaller rule p.0 p.1) (same_Some (a.class, s.class) (c, d) e) (sign_extended stands is)
at_cast rule s (Freeze a j) c d stands is e = cc
at_cast rule s (Copy a) c d stands is e = cc

-- widths meet all casts exactly where they meet the constraint of each statement
pub each_cast : (rule : Rule) (widths : List ℕ) → ((s : Statement) → IsStatementOf rule s → MeetsCastLine widths s) ↔ MeetsSmaller rule widths
each_cast rule widths = (
  λ each c d N M below at at'. let (s, stands, is) = of_smaller rule c d below in each s stands c d is N M at at',
  λ meets s stands c d is N M at at'. meets c d N M (at_cast rule s s.op c d stands refl is) at at',
)
