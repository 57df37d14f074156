use Rattle.asked_verdicts.proofs.Common.{◌≡◌, ℕ, ◌<◌, List, length, get_or, Some, refl, sym, ap, subst, ◌∙◌, slice_get, slice_get_read, Rule, IsHonest}
use Rattle.asked_verdicts.proofs.verdicts.decided_row.Goals as goal

rule_at : (rules : List Rule) (r : ℕ) (rule : Rule) → r < length rules → rule ≡ get_or rules r rule → slice_get rules r ≡ Some rule
rule_at rules r rule within is = slice_get_read rules (length rules) r rule refl within is

pub verdict_on-requires-clause-rule : goal.verdict_on-requires-clause-rule
verdict_on-requires-clause-rule c = (c.requires.rule c.index-rules-asking.result (rule_at c.args.rules.now c.args.asking.now.rule c.index-rules-asking.result c.requires.place c.index-rules-asking.is)).0

pub verdict_on-requires-clause-typing : goal.verdict_on-requires-clause-typing
verdict_on-requires-clause-typing c = (c.requires.rule c.index-rules-asking.result (rule_at c.args.rules.now c.args.asking.now.rule c.index-rules-asking.result c.requires.place c.index-rules-asking.is)).1

pub returns-clause-pair : goal.returns-clause-pair
returns-clause-pair c = ap (λ (l : List ℕ). (c.args.asking.now.rule, l)) (c.from_vec.ensures ∙ c.in_ok-from_slice.ensures.items ∙ c.as_slice.ensures)

pub returns-clause-honest : goal.returns-clause-honest
returns-clause-honest c =
    let rule = c.index-rules-asking.result in
    let same : c.from_vec.result ≡ c.args.asking.now.binding.typing = c.from_vec.ensures ∙ c.in_ok-from_slice.ensures.items ∙ c.as_slice.ensures in
    record {
      rule = rule;
      is = rule_at c.args.rules.now c.args.asking.now.rule rule c.requires.place c.index-rules-asking.is;
      honest = subst (λ (l : List ℕ). IsHonest rule l c.args.conflicts c.in_ok-verdict.verdict) (sym same) c.in_ok-verdict.ensures.honest;
    }
