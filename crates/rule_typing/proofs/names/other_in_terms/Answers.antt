use Rattle.rule_typing.proofs.Common.{◌⊎◌, inl, inr, ℕ, List, ◌++◌, Option, Some, Contains-append_left, Contains-append_right, Contains-append_cases, Term, Name, term_naming, NamingOf, FindsOther}
use Rattle.rule_typing.proofs.Walks.{first_other, then_other, finds_as}
use Rattle.rule_typing.proofs.names.other_in_terms.Goals as goal

-- among two lists of nodes, one behind the other
among_both : (xs ys : List Term) (n : Name) (c : ℕ) (answer : Option ℕ) → FindsOther (λ d. NamingOf term_naming xs n d ⊎ NamingOf term_naming ys n d) c answer → FindsOther (NamingOf term_naming (xs ++ ys) n) c answer
among_both xs ys n c answer found = finds_as (λ d. NamingOf term_naming xs n d ⊎ NamingOf term_naming ys n d) (NamingOf term_naming (xs ++ ys) n) c answer
    (λ d one. elim one [ inl (t, among, e) ↦ (t, Contains-append_left xs ys t among, e) | inr (t, among, e) ↦ (t, Contains-append_right xs ys t among, e) ])
    (λ d (t, among, e). elim (Contains-append_cases xs ys t among) [ inl left ↦ inl (t, left, e) | inr right ↦ inr (t, right, e) ]) found

pub returns-in-Some : goal.returns-in-Some
returns-in-Some c =
    among_both c.args.rule.now.terms c.args.rule.now.witness_terms c.args.name c.args.class (Some c.in-Some.other)
    (first_other (NamingOf term_naming c.args.rule.now.terms c.args.name) (NamingOf term_naming c.args.rule.now.witness_terms c.args.name) c.args.class c.in-Some.other (rw c.as_slice.ensures at c.in-Some.ensures))

pub returns-in-None : goal.returns-in-None
returns-in-None c =
    among_both c.args.rule.now.terms c.args.rule.now.witness_terms c.args.name c.args.class c.other_by_terms-in-None.result
    (then_other (NamingOf term_naming c.args.rule.now.terms c.args.name) (NamingOf term_naming c.args.rule.now.witness_terms c.args.name) c.args.class c.other_by_terms-in-None.result (rw c.as_slice.ensures at c.in-None.ensures)
    (rw c.as_slice-in-None.ensures at c.other_by_terms-in-None.ensures))
