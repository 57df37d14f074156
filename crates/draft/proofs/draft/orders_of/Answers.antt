use Rattle.draft.proofs.Common.{◌≡◌, ◌<◌, ◌∙◌, ℕ, List, [], ◌∷◌, ◌++◌, ap, get_or, length, map, sym, take, arith, range_with_len, map_more, Block}
use Rattle.draft.proofs.Fresh.{all_of}
use Rattle.draft.proofs.draft.orders_of.Goals as goal

pub loop-block-preserved : goal.loop-block-preserved
loop-block-preserved c =
    let i = c.loop-block.block-index in
    let blocks = c.args.f.now.blocks in
    let block = c.block-item.result in
    let slice = c.as_slice-block-items.ensures in
    let within : i < length blocks = omega (arith, ap length slice) in
    let read : block ≡ get_or blocks i block = c.block-item.is ∙ ap (λ (l : List Block). get_or l i block) slice in
    let order : c.in_ok-new.field-0 ≡ all_of (get_or blocks i block) = c.in_ok-new.ensures ∙ ap (range_with_len 0) c.len.ensures ∙ ap all_of read in
    c.in_ok-push.ensures.items
    ∙ ap (λ (rows : List (List ℕ)). rows ++ c.in_ok-new.field-0 ∷ []) c.loop-block.invariant
    ∙ ap (λ (row : List ℕ). map all_of (take i blocks) ++ row ∷ []) order
    ∙ sym (map_more all_of blocks i block within)
