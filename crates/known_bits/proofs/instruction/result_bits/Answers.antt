use Rattle.known_bits.proofs.Common.{◌≤◌, sym, subst, arith, IfOk-weaker, known_operand, HaveWidths}
use Rattle.ir_core.specs.declared.instruction.Op.TheVariants as ops
use Rattle.known_bits.proofs.BlockResults.{few_bits}
use Rattle.known_bits.proofs.instruction.result_bits.Goals as goal

pub returns-in-Binary-clause-few : goal.returns-in-Binary-clause-few
returns-in-Binary-clause-few c =
    let known = known_operand c.args.facts.now.block c.args.facts.now.results in
    let few : c.args.width ≤ 64 = omega (arith, c.bits-places.ensures.bits, c.bits-places.ensures.at_most_64) in
    let op = ops.Binary c.in-Binary.opcode c.in-Binary.field-1 c.in-Binary.x c.in-Binary.y in
    IfOk-weaker c.binary.result _ _ (λ bits is. few_bits known c.args.width op bits (is c.in-Binary.field-1) (rw c.in-Binary.is at c.requires) few) c.binary.ensures

pub returns-in-Select-clause-few : goal.returns-in-Select-clause-few
returns-in-Select-clause-few c =
    let known = known_operand c.args.facts.now.block c.args.facts.now.results in
    let few : c.args.width ≤ 64 = omega (arith, c.bits-places.ensures.bits, c.bits-places.ensures.at_most_64) in
    let op = ops.Select c.in-Select.field-0 c.in-Select.x c.in-Select.y in
    IfOk-weaker c.each_bit.result _ _ (λ bits is. few_bits known c.args.width op bits is (rw c.in-Select.is at c.requires) few) c.each_bit.ensures

pub returns-in-Convert-clause-few : goal.returns-in-Convert-clause-few
returns-in-Convert-clause-few c =
    let known = known_operand c.args.facts.now.block c.args.facts.now.results in
    let op = ops.Convert c.in-Convert.cast c.in-Convert.field-1 c.in-Convert.from c.in-Convert.x in
    let widths : HaveWidths known c.bits-places.result op = subst (λ n. HaveWidths known n op) (sym c.bits-places.ensures.bits) (rw c.in-Convert.is at c.requires) in
    IfOk-weaker c.converted.result _ _ (λ bits is. few_bits known c.bits-places.result op bits (is c.in-Convert.field-1) widths c.bits-places.ensures.at_most_64) c.converted.ensures
