use Rattle.scan.proofs.Common.{ℕ, max, sym, ap, ◌∙◌, subst, IsLongest, is_among, is_mark, is_placed_operator, is_unsigned_operator, is_remainder}
use Rattle.scan.specs.RuleTokens.{marks}
use Rattle.scan.proofs.Fronts.{or_longest, longest_without, longest_with}
use Rattle.scan.proofs.length.mark.Goals as goal

pub returns-then-operator : goal.returns-then-operator
unfolding is_mark is_placed_operator
returns-then-operator c =
    subst (λ (n : ℕ). IsLongest (is_mark c.args.operator) c.args.text.now n) (sym (c.max-then-operator.ensures ∙ ap (max c.longest_among-anywhere.result) c.max.ensures))
    (longest_with (λ bytes rest. is_among marks bytes) is_placed_operator c.args.operator c.args.text.now _ _ c.if-operator.true c.longest_among-anywhere.ensures
    (or_longest is_unsigned_operator is_remainder c.args.text.now _ _ c.unsigned_operator.ensures c.remainder.ensures))

pub returns-else-operator : goal.returns-else-operator
unfolding is_mark
returns-else-operator c = longest_without (λ bytes rest. is_among marks bytes) is_placed_operator c.args.operator c.args.text.now _ c.if-operator.false c.longest_among-anywhere.ensures
