use Rattle.ops.proofs.Common.{arith, rules, sym, ◌≤◌, ◌≡◌, ◌∙◌, ◌^◌, false, unsigned_abs, ints, srem, has_no_quotient}
use Rattle.ops.proofs.Quotients.{CanDivide-signed, code_remainder}
use Rattle.ops.proofs.division.srem.Goals as goal

pub nonzero_rem-remainder : goal.nonzero_rem-remainder
nonzero_rem-remainder c =
    let k : unsigned_abs c.signed.result ≤ 2 ^ 63 = omega (arith, ints) in
    CanDivide-signed c.args.width c.args.a c.args.b c.signed.result c.signed-2.result c.requires.right (sym c.has_no_quotient.ensures ∙ c.if-has_no_quotient.false) c.signed-2.ensures.number k (search rules) (search rules)

pub returns : goal.returns
unfolding srem
returns c =
    let t : has_no_quotient c.args.width c.args.a c.args.b ≡ false = sym c.has_no_quotient.ensures ∙ c.if-has_no_quotient.false in
    let e = code_remainder c.signed.result c.signed-2.result (search rules) (search rules) in
    rw t (cc)
