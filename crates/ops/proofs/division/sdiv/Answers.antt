use Rattle.ops.proofs.Common.{arith, rules, sym, ◌≤◌, ◌≡◌, ◌∙◌, ◌^◌, false, unsigned_abs, ints, sdiv, has_no_quotient}
use Rattle.ops.proofs.Quotients.{CanDivide-signed, code_quotient, code_divides}
use Rattle.ops.proofs.division.sdiv.Goals as goal

pub nonzero_div-dividend : goal.nonzero_div-dividend
nonzero_div-dividend c =
    let k : unsigned_abs c.signed-dividend.result ≤ 2 ^ 63 = omega (arith, ints) in
    CanDivide-signed c.args.width c.args.a c.args.b c.signed-dividend.result c.signed-divisor.result c.requires.right (sym c.has_no_quotient.ensures ∙ c.if-has_no_quotient.false) c.signed-divisor.ensures.number k (search rules) (search rules)

pub nonzero_rem-dividend : goal.nonzero_rem-dividend
nonzero_rem-dividend c =
    let k : unsigned_abs c.signed-dividend.result ≤ 2 ^ 63 = omega (arith, ints) in
    CanDivide-signed c.args.width c.args.a c.args.b c.signed-dividend.result c.signed-divisor.result c.requires.right (sym c.has_no_quotient.ensures ∙ c.if-has_no_quotient.false) c.signed-divisor.ensures.number k (search rules) (search rules)

pub returns : goal.returns
unfolding sdiv
returns c =
    let k : unsigned_abs c.signed-dividend.result ≤ 2 ^ 63 = omega (arith, ints) in
    let t : has_no_quotient c.args.width c.args.a c.args.b ≡ false = sym c.has_no_quotient.ensures ∙ c.if-has_no_quotient.false in
    let q = code_quotient c.signed-dividend.result c.signed-divisor.result k (search rules) (search rules) in
    let d = code_divides c.signed-dividend.result c.signed-divisor.result k (search rules) (search rules) in
    rw t (cc)
