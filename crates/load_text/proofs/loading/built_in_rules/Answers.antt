use Rattle.load_text.proofs.Common.{◌≡◌, subst, arith, built_in_text, IsRuleText}
use Rattle.load_text.proofs.loading.built_in_rules.Goals as goal

-- the text of the code is that of the definition
pub returns-in-Ok-clause-text : goal.returns-in-Ok-clause-text
returns-in-Ok-clause-text c =
    let same : c.as_bytes.result.now ≡ built_in_text = c.as_bytes.ensures.value in
    subst (λ text. IsRuleText text c.in-Ok.rules.items) same (record { short = c.in-Ok.ensures.limit; file = c.in-Ok.ensures.ok })

pub returns-in-Ok-clause-few : goal.returns-in-Ok-clause-few
returns-in-Ok-clause-few c = omega (arith, c.in-Ok.ensures.limit, c.rule_texts_are_small.ensures _ c.in-Ok.rules.items c.in-Ok.ensures.ok)
