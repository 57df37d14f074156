use Rattle.rule_typing.proofs.Common.{◌≡◌, ℕ, ◌+◌, ◌-◌, length, Option, ap, subst, ◌∙◌, Some, arith, Rule, Name, paired, assigned_class, root_class, IsPairIn, RootLine, Splits}
use Rattle.rule_core.specs.declared.rule.Name.TheVariants as names
use Rattle.rule_core.specs.declared.rule.Register.TheVariants as registers
use Rattle.rule_typing.proofs.Walks.{splits_as}
use Rattle.rule_typing.proofs.LineParts.{from_paired, to_paired}
use Rattle.rule_typing.proofs.NameLines.{root_is_last}
use Rattle.rule_typing.proofs.lines.split_by_root.Goals as goal

-- only the source's last register is assigned in the source and, as the root, in the target
at_last : (rule : Rule) (last : ℕ) (answer : Option (ℕ × ℕ)) → last + 1 ≡ length rule.source
    → Splits (IsPairIn (paired (assigned_class rule (names.Register (registers.Source last))) (root_class rule (names.Register (registers.Source last))))) answer → Splits (RootLine rule) answer
at_last rule last answer is found =
    let root : Name = names.Register (registers.Source last) in
    splits_as (IsPairIn (paired (assigned_class rule root) (root_class rule root))) (RootLine rule) answer
    (λ c d pair. let (assigned, other) = from_paired (assigned_class rule root) (root_class rule root) c d pair in (root, assigned, other))
    (λ c d (n, assigned, other).
    let (k, named, end, class) = root_is_last rule n d other in
    let place : k ≡ last = omega arith in
    let same : n ≡ root = named ∙ ap (λ i. names.Register (registers.Source i)) place in
    to_paired (assigned_class rule root) (root_class rule root) c d (subst (λ m. assigned_class rule m ≡ Some c) same assigned) (subst (λ m. root_class rule m ≡ Some d) same other))
    found

pub overflow_cast-root : goal.overflow_cast-root
overflow_cast-root c = omega (arith, c.requires.few_in_source, c.len.ensures)

pub overflow_sub-root : goal.overflow_sub-root
overflow_sub-root c = omega (arith, c.requires.source_root, c.len.ensures)

pub returns : goal.returns
returns c =
    at_last c.args.rule.now (c.len.result - 1) c.split_classes.result (omega (arith, c.requires.source_root, c.len.ensures)) (rw (c.assigned_class.ensures, c.root_class.ensures) at c.split_classes.ensures)
