use Rattle.ir_resolve.proofs.Common.{ℕ, [], ◌∷◌, map, arith, map_push, RawIncoming, RawIdentifier, Typed, typed}
use Rattle.ir_resolve.proofs.Adding.{adds_none, adds_then, adds_more, adds_all}
use Rattle.ir_resolve.proofs.uses.Uses.add_incoming.Goals as goal

abbrev value : ℕ → RawIncoming → Typed
value width i = typed width i.value

abbrev block : RawIncoming → RawIdentifier
block i = i.block

pub loop-entry-init : goal.loop-entry-init
loop-entry-init c = adds_none c.args.self.now

pub loop-entry-preserved : goal.loop-entry-preserved
loop-entry-preserved c =
    let width = c.args.width in
    adds_more (map (value width)) (λ i. value width i ∷ []) (map block) (λ i. block i ∷ []) (map_push (value width)) (map_push block) c.args.incoming.now c.loop-entry.entry-index c.entry-item.result _ _ _ (omega arith) c.entry-item.is c.loop-entry.invariant
    (adds_then _ _ _ _ _ _ _ c.in_ok-add_read.ensures c.in_ok-add_target.ensures)

pub returns : goal.returns
returns c = adds_all (map (value c.args.width)) (map block) c.args.incoming.now _ _ _ (omega arith) c.loop-entry.invariant
