use Rattle.ir_resolve.proofs.Common.{[], ◌∷◌, map, refl, arith, map_push, RawCase, RawIdentifier}
use Rattle.ir_resolve.proofs.Adding.{adds_none, adds_more, adds_all}
use Rattle.ir_resolve.proofs.uses.Uses.add_cases.Goals as goal

abbrev target : RawCase → RawIdentifier
target c = c.target

pub loop-case-init : goal.loop-case-init
loop-case-init c = adds_none c.args.self.now

pub loop-case-preserved : goal.loop-case-preserved
loop-case-preserved c =
    adds_more (λ cs. []) (λ x. []) (map target) (λ x. target x ∷ []) (λ xs x. refl) (map_push target) c.args.cases.now c.loop-case.case-index c.case-item.result _ _ _ (omega arith) c.case-item.is c.loop-case.invariant c.in_ok-add_target.ensures

pub returns : goal.returns
returns c = adds_all (λ cs. []) (map target) c.args.cases.now _ _ _ (omega arith) c.loop-case.invariant
