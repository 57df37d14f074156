use Rattle.scan.proofs.Common.{Head, Arrow, kind_of, is_mark, is_among, heads, arrows, is_rule_word, is_literal}
use Rattle.scan.specs.declared.rule_token.RuleKind.TheVariants.{Register, Word, Number, Mark}
use Rattle.scan.specs.RuleTokens.{is_register}
use Rattle.scan.proofs.KindLemmas.{kind_first, kind_last}
use Rattle.scan.proofs.front.longest_token.Goals as goal

pub returns : goal.returns
unfolding kind_of
returns c =
    kind_first (is_mark c.args.operator) _ Mark c.args.text.now c.mark.result c.longer-found-4.result c.longer.result c.mark.ensures
    (kind_first (λ bytes rest. is_among heads bytes) _ Head c.args.text.now c.head.result c.longer-found-3.result c.longer-found-4.result c.head.ensures
    (kind_first (λ bytes rest. is_among arrows bytes) _ Arrow c.args.text.now c.arrow.result c.longer-found-2.result c.longer-found-3.result c.arrow.ensures
    (kind_first (λ bytes rest. is_register bytes) _ Register c.args.text.now c.register.result c.longer-found.result c.longer-found-2.result c.register.ensures
    (kind_first (λ bytes rest. is_rule_word bytes) _ Word c.args.text.now c.word.result (Number, c.number.result) c.longer-found.result c.word.ensures
    (kind_last (λ bytes rest. is_literal c.args.operator bytes) Number c.args.text.now c.number.result c.number.ensures)
    c.longer-found.ensures)
    c.longer-found-2.ensures)
    c.longer-found-3.ensures)
    c.longer-found-4.ensures)
    c.longer.ensures
