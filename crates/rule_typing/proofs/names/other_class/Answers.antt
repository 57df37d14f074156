use Rattle.rule_typing.proofs.Common.{◌≡◌, ◌⊎◌, inl, inr, ℕ, Option, None, Some, Rule, Name, Names, FindsOther, IsRead, assigned_class, root_class}
use Rattle.rule_typing.proofs.Walks.{finds_as, first_other, then_other}
use Rattle.rule_typing.proofs.NameLines.{IsNamed, read, assigned, root, named_cases, names_of_named}
use Rattle.rule_typing.proofs.names.other_class.Goals as goal

Parts : Rule → Name → ℕ → Type 0
Parts rule n d = (assigned_class rule n ≡ Some d) ⊎ ((root_class rule n ≡ Some d) ⊎ IsRead rule n d)

to_names : (rule : Rule) (n : Name) (d : ℕ) → Parts rule n d → Names rule n d
unfolding Parts
to_names rule n d (inl h) = names_of_named rule n d (assigned h)
to_names rule n d (inr (inl h)) = names_of_named rule n d (root h)
to_names rule n d (inr (inr h)) = names_of_named rule n d (read h)

by_named : (rule : Rule) (n : Name) (d : ℕ) → IsNamed rule n d → Parts rule n d
unfolding Parts
by_named rule n d (read h) = inr (inr h)
by_named rule n d (assigned h) = inl h
by_named rule n d (root h) = inr (inl h)

from_names : (rule : Rule) (n : Name) (d : ℕ) → Names rule n d → Parts rule n d
from_names rule n d h = by_named rule n d (named_cases rule n d h)

named : (rule : Rule) (n : Name) (c : ℕ) (answer : Option ℕ) → FindsOther (Parts rule n) c answer → FindsOther (Names rule n) c answer
named rule n c answer found = finds_as (Parts rule n) (Names rule n) c answer (to_names rule n) (from_names rule n) found

module _ (rule : Rule) (n : Name) (c : ℕ) where
  by_result : (d : ℕ) → FindsOther (λ e. assigned_class rule n ≡ Some e) c (Some d) → FindsOther (Names rule n) c (Some d)
  unfolding Parts
  by_result d h = named rule n c (Some d) (first_other (λ e. assigned_class rule n ≡ Some e) (λ e. (root_class rule n ≡ Some e) ⊎ IsRead rule n e) c d h)

  by_root : (d : ℕ) → FindsOther (λ e. assigned_class rule n ≡ Some e) c None → FindsOther (λ e. root_class rule n ≡ Some e) c (Some d) → FindsOther (Names rule n) c (Some d)
  unfolding Parts
  by_root d none h =
      named rule n c (Some d) (then_other (λ e. assigned_class rule n ≡ Some e) (λ e. (root_class rule n ≡ Some e) ⊎ IsRead rule n e) c (Some d) none (first_other (λ e. root_class rule n ≡ Some e) (IsRead rule n) c d h))

  by_reading : (answer : Option ℕ) → FindsOther (λ e. assigned_class rule n ≡ Some e) c None → FindsOther (λ e. root_class rule n ≡ Some e) c None → FindsOther (IsRead rule n) c answer → FindsOther (Names rule n) c answer
  unfolding Parts
  by_reading answer none none' h =
      named rule n c answer (then_other (λ e. assigned_class rule n ≡ Some e) (λ e. (root_class rule n ≡ Some e) ⊎ IsRead rule n e) c answer none
      (then_other (λ e. root_class rule n ≡ Some e) (IsRead rule n) c answer none' h))

pub returns-in-Some : goal.returns-in-Some
returns-in-Some c = by_result c.args.rule.now c.args.name c.args.class c.in-Some.other (rw c.assigned_class.ensures at c.in-Some.ensures)

pub returns-in-Some-unless : goal.returns-in-Some-unless
returns-in-Some-unless c = by_root c.args.rule.now c.args.name c.args.class c.in-Some-unless.other (rw c.assigned_class.ensures at c.in-None.ensures) (rw c.root_class.ensures at c.in-Some-unless.ensures)

pub returns-in-None-unless : goal.returns-in-None-unless
returns-in-None-unless c =
    by_reading c.args.rule.now c.args.name c.args.class c.other_read.result (rw c.assigned_class.ensures at c.in-None.ensures) (rw c.root_class.ensures at c.in-None-unless.ensures) c.other_read.ensures
