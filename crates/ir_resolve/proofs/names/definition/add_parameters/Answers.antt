use Rattle.ir_resolve.proofs.Common.{◌≡◌, ◌∷◌, [], map, Some, arith, option_copied, map_push, Defined, parameter_defined}
use Rattle.ir_core.specs.declared.operand.Register.TheVariants as registers
use Rattle.ir_resolve.specs.declared.names.definition.Entity.TheVariants as entities
use Rattle.ir_resolve.proofs.Defining.{defined_more, seen_push}
use Rattle.ir_resolve.proofs.names.definition.add_parameters.Goals as goal

pub loop-index-preserved : goal.loop-index-preserved
loop-index-preserved c =
    let i = c.loop-index.index in
    let x = c.index-parameters-index.result in
    let some : c.place.result ≡ Some c.in_ok-place.place = grind arith in
    let at : c.in_ok-place.place ≡ i = rw some at c.place.ensures.some in
    let same : (let d : Defined = (option_copied c.as_ref.result, entities.Register (registers.Parameter c.in_ok-place.place) c.bits.result) in d) ≡ parameter_defined (i, x) = cc (c.as_ref.ensures.value, at, c.bits.ensures.bits) in
    defined_more (map parameter_defined) (λ p. parameter_defined p ∷ []) (map_push parameter_defined) c.args.parameters.now i x _ _ _ (omega arith) c.index-parameters-index.is c.loop-index.invariant
    (seen_push _ _ _ _ c.in_ok-push.ensures.items same)
