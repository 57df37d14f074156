use Rattle.ops.proofs.Common.{◌≡◌, ◌<◌, ◌^◌, ap, subst, sym, ◌∙◌, rules, to_z-of_z, unsigned_abs, FitsSigned, w128, signed}
use Rattle.ops.proofs.Signed.{absolute-lt}
use Rattle.ops.proofs.Widths.{count_lt}
use Rattle.ops.proofs.one_operand.at_number.Goals as goal

pub returns-in-Abs-clause-fits : goal.returns-in-Abs-clause-fits
returns-in-Abs-clause-fits c =
    let fits : FitsSigned w128 c.signed.result = search rules in
    let number : c.unsigned_abs.result ≡ unsigned_abs c.signed.result = c.unsigned_abs.ensures.value ∙ ap unsigned_abs (to_z-of_z w128 c.signed.result fits) in
    let absolute : c.unsigned_abs.result ≡ unsigned_abs (signed c.args.width c.args.a) = number ∙ ap unsigned_abs c.signed.ensures.number in
    subst (λ n. n < 2 ^ c.args.width) (sym absolute) (absolute-lt c.args.width c.args.a c.requires)

pub returns-in-CtPop-clause-fits : goal.returns-in-CtPop-clause-fits
returns-in-CtPop-clause-fits c = count_lt c.args.width _ c.ctpop.ensures.most

pub returns-in-CtLz-clause-fits : goal.returns-in-CtLz-clause-fits
returns-in-CtLz-clause-fits c = count_lt c.args.width _ c.ctlz.ensures.most

pub returns-in-CtTz-clause-fits : goal.returns-in-CtTz-clause-fits
returns-in-CtTz-clause-fits c = count_lt c.args.width _ c.cttz.ensures.most
