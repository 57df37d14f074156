use Rattle.circ_muldiv.proofs.Common.{◌≤◌, length, arith, Adds-weaken, product_gates}
use Rattle.circ_muldiv.proofs.product.multiply.Goals as goal

pub returns-in_err-product-clause-adds : goal.returns-in_err-product-clause-adds
returns-in_err-product-clause-adds g c =
    let few : product_gates (length c.as_slice.result.now) ≤ product_gates (length c.args.a.now) = rw c.as_slice.ensures (omega arith) in
    Adds-weaken c.multiply_with_overflow.ensures.adds few

pub returns-clause-adds : goal.returns-clause-adds
returns-clause-adds g c =
    let few : product_gates (length c.as_slice.result.now) ≤ product_gates (length c.args.a.now) = rw c.as_slice.ensures (omega arith) in
    Adds-weaken c.multiply_with_overflow.ensures.adds few
