use Rattle.ir_resolve.proofs.Common.{◌≡◌, ◌∷◌, [], map, Some, arith, map_push, Defined, result_defined}
use Rattle.ir_core.specs.declared.operand.Register.TheVariants as registers
use Rattle.ir_resolve.specs.declared.names.definition.Entity.TheVariants as entities
use Rattle.ir_resolve.proofs.Defining.{defined_more, seen_push}
use Rattle.ir_resolve.proofs.names.definition.add_results.Goals as goal

pub loop-index-preserved : goal.loop-index-preserved
loop-index-preserved c =
    let b = c.args.block in
    let i = c.loop-index.index in
    let x = c.index-insts-index.result in
    let some : c.place.result ≡ Some c.in_ok-place.place = grind arith in
    let at : c.in_ok-place.place ≡ i = rw some at c.place.ensures.some in
    let same : (let d : Defined = (Some x.result, entities.Register (registers.Result b c.in_ok-place.place) c.bits.result) in d) ≡ result_defined b (i, x) = cc (at, c.bits.ensures.bits, c.result_width-width.ensures) in
    defined_more (map (result_defined b)) (λ p. result_defined b p ∷ []) (map_push (result_defined b)) c.args.insts.now i x _ _ _ (omega arith) c.index-insts-index.is c.loop-index.invariant
    (seen_push _ _ _ _ c.in_ok-push.ensures.items same)
