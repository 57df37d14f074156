use Rattle.rule_parse.proofs.Common.{◌∙◌, ap, ◌++◌, ◌∷◌, []}
use Rattle.rule_tokens.specs.declared.token.Token.TheVariants.{Excess}
use Rattle.rule_parse.proofs.Kept.{kept-more, kept-excess, kept-all}
use Rattle.rule_parse.proofs.excess.limited.Goals as goal

pub loop-token-preserved : goal.loop-token-preserved
loop-token-preserved c =
    kept-more c.loop-token.kept.items c.push.new.self.items c.args.tokens.now c.loop-token.room c.in-Some.left c.loop-token.token-index c.loop-token.begins c.ends_before_line-begins.result _ _ c.loop-token-test.true c.in-Some.ensures c.ends_before_line-begins.ensures c.in_ok-push.ensures.items c.loop-token.invariant

pub returns-in_default : goal.returns-in_default
returns-in_default c =
    kept-excess c.loop-token.kept.items c.push-in_default.new.self.items c.args.tokens.now c.loop-token.room c.loop-token.token-index c.loop-token.begins _ _ c.loop-token-test.true c.in_default.ensures (c.in_ok-push-2.ensures.items ∙ ap (λ l. l ++ Excess ∷ []) c.in_ok-push.ensures.items) c.loop-token.invariant

pub returns : goal.returns
returns c =
    kept-all c.loop-token.kept.items c.args.tokens.now c.loop-token.room c.loop-token.token-index c.loop-token.begins _ c.loop-token-test.false c.loop-token.invariant
