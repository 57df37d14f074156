use Rattle.rule_parse.proofs.Common.{◌≡◌, List, subst, Gives, seen, Token, AreTokens, limited, all_rules, rule_limits}
use Rattle.rule_parse.proofs.Verdicts.{answers}
use Rattle.rule_parse.proofs.reader.parse_rules.Goals as goal

pub returns : goal.returns
returns c =
    let are : AreTokens c.args.bytes.now (seen c.as_slice.result.now) c.in_ok-text.text.last_line = rw c.as_slice.ensures.value c.in_ok-text.ensures in
    let kept : seen c.as_slice-2.result.now ≡ limited (seen c.as_slice.result.now) = rw c.as_slice-2.ensures.value c.in_ok-tokens.ensures in
    let gives : Gives (λ x. x.items) c.all_rules.result (all_rules rule_limits c.in_ok-text.text.last_line (limited (seen c.as_slice.result.now))) =
    subst (λ (ts : List Token). Gives (λ x. x.items) c.all_rules.result (all_rules rule_limits c.in_ok-text.text.last_line ts)) kept c.all_rules.ensures in
    let a = answers (λ x. x.items) c.args.bytes.now (seen c.as_slice.result.now) c.in_ok-text.text.last_line c.all_rules.result are gives in
    record { ok = a.0; refused = a.1 }
