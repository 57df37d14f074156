use Rattle.rule_typing.proofs.Common.{◌≡◌, ℕ, Some, Option, ap, rules, sym, ◌∙◌, same_Some, Name, FindsOther}
use Rattle.rule_typing.proofs.Walks.{finds_as}
use Rattle.rule_typing.proofs.names.other_by.Goals as goal

-- the answer where this position has the name
as_naming : (naming : Option (Name × ℕ)) (n : Name) (other c : ℕ) (answer : Option ℕ) → naming ≡ Some (n, other) → FindsOther (λ d. Some other ≡ Some d) c answer → FindsOther (λ d. naming ≡ Some (n, d)) c answer
as_naming naming n other c answer is found = finds_as (λ d. Some other ≡ Some d) (λ d. naming ≡ Some (n, d)) c answer (λ d e. is ∙ ap (λ x. Some (n, x)) (same_Some other d e)) (λ d e. ap (λ (p : Name × ℕ). Some p.1) (same_Some (n, other) (n, d) (sym is ∙ e))) found

pub returns : goal.returns
returns c =
    let here : c.in-Some.naming.0 ≡ c.args.name = search rules in
    as_naming c.args.naming c.args.name c.in-Some.naming.1 c.args.class c.unless.result (c.in-Some.is ∙ ap (λ n. Some (n, c.in-Some.naming.1)) here) c.unless.ensures
