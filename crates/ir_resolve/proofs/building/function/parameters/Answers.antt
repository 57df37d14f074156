use Rattle.ir_resolve.proofs.Common.{refl, ap, ◌∙◌, arith, given, ParameterMeans}
use Rattle.ir_resolve.proofs.Zips.{zip_more, zip_all}
use Rattle.ir_resolve.proofs.building.function.parameters.Goals as goal

pub loop-written-preserved : goal.loop-written-preserved
loop-written-preserved c = zip_more ParameterMeans c.args.written.now c.loop-written.parameters _ c.loop-written.written-index c.written-item.result _ (omega arith) c.written-item.is c.loop-written.invariant c.in_ok-push.ensures.ok
    (refl, c.in_ok-texts.ensures ∙ c.as_slice.ensures, c.in_ok-name_given.ensures ∙ ap given c.as_ref.ensures.value)

pub returns : goal.returns
returns c = zip_all ParameterMeans c.args.written.now _ _ (omega arith) c.loop-written.invariant
