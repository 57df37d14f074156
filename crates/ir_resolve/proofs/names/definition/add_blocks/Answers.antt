use Rattle.ir_resolve.proofs.Common.{◌≡◌, ◌∷◌, ◌++◌, [], map, Some, ap, ◌∙◌, append_assoc, arith, option_copied, flat_map, seen_definition, Defined, block_defined, results_defined}
use Rattle.ir_resolve.specs.declared.names.definition.Entity.TheVariants as entities
use Rattle.ir_resolve.proofs.Adding.{flat_map_push}
use Rattle.ir_resolve.proofs.Defining.{defined_more, seen_push}
use Rattle.ir_resolve.proofs.names.definition.add_blocks.Goals as goal

pub loop-index-preserved : goal.loop-index-preserved
loop-index-preserved c =
    let i = c.loop-index.index in
    let x = c.index-blocks-index.result in
    let n = c.in_ok-number.number in
    let now = map seen_definition c.loop-index.definitions.items in
    let some : c.place.result ≡ Some n = grind arith in
    let at : n ≡ i = rw some at c.place.ensures.some in
    let same : (let d : Defined = (option_copied c.as_ref.result, entities.Block n) in d) ≡ (let d : Defined = (x.label, entities.Block n) in d) = cc c.as_ref.ensures.value in
    let own : map seen_definition c.push.new.self.items ≡ now ++ (x.label, entities.Block n) ∷ [] = seen_push _ _ _ _ c.in_ok-push.ensures.items same in
    defined_more (flat_map block_defined) block_defined (flat_map_push block_defined) c.args.blocks.now i x _ _ _ (omega arith) c.index-blocks-index.is c.loop-index.invariant
    (c.in_ok-add_results.ensures ∙ ap (λ ds. ds ++ results_defined n c.as_slice.result.now) own ∙ append_assoc now ((x.label, entities.Block n) ∷ []) (results_defined n c.as_slice.result.now)
    ∙ ap (λ is. now ++ ((x.label, entities.Block n) ∷ results_defined n is)) c.as_slice.ensures
    ∙ ap (λ m. now ++ block_defined (m, x)) at)
