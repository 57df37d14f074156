use Rattle.draft.proofs.Common.{◌≡◌, ◌+◌, ◌∙◌, ℕ, List, [], ap, get_or, length, sym, subst, arith, slice_get, get_or_default}
use Rattle.draft.proofs.Placed.{TablesKept, ordering_at, table_kept}
use Rattle.draft.proofs.placing.places_of.Goals as goal

pub places_in-requires-clause-ordered : goal.places_in-requires-clause-ordered
places_in-requires-clause-ordered c =
    ordering_at c.args.arena.now.blocks c.args.numbers.now c.loop-block.block c.len-count.result c.as_slice.result.now c.index-as_slice-block.result c.as_slice-in-loop-block.result.now c.index-numbers-block.result
    c.requires.ordered c.requires.blocks c.loop-block-test.true c.as_slice.ensures c.len-count.ensures c.as_slice-in-loop-block.ensures c.index-numbers-block.is

pub places_in-requires-clause-few : goal.places_in-requires-clause-few
places_in-requires-clause-few c =
    let few = c.requires.few c.loop-block.block in
    let row : c.as_slice-in-loop-block.result.now ≡ get_or c.args.numbers.now c.loop-block.block [] = c.as_slice-in-loop-block.ensures ∙ c.index-numbers-block.is ∙ get_or_default c.args.numbers.now c.loop-block.block c.index-numbers-block.result [] c.loop-block-test.true in
    let size = ap length row in
    omega arith

pub loop-block-preserved : goal.loop-block-preserved
loop-block-preserved c =
    let l = c.loop-block in
    let row : c.as_slice-in-loop-block.result.now ≡ get_or c.args.numbers.now l.block [] = c.as_slice-in-loop-block.ensures ∙ c.index-numbers-block.is ∙ get_or_default c.args.numbers.now l.block c.index-numbers-block.result [] c.loop-block-test.true in
    subst (λ (rows : List (List ℕ)). TablesKept c.args.numbers.now (l.block + 1) rows) (sym c.in_ok-push.ensures.items)
    (table_kept c.args.numbers.now l.block l.rows.items c.in_ok-places_in.field-0 l.invariant (λ k n at. c.in_ok-places_in.ensures k n (ap (λ (m : List ℕ). slice_get m k) row ∙ at)))
