use Rattle.draft.proofs.Common.{◌≡◌, ◌<◌, ◌++◌, ◌∷◌, ◌∙◌, ℕ, Bool, List, [], ap, get_or, length, take, sym, arith, get_or_default, take_all, take_more, standing, standing_in}
use Rattle.draft.proofs.Rows.{standing_at, standing_length}
use Rattle.draft.proofs.placing.standing_numbers.Goals as goal

pub loop-block-preserved : goal.loop-block-preserved
loop-block-preserved c =
    let l = c.loop-block in
    let stand = c.args.stand.now in
    let orders = c.args.orders.now in
    let within : l.block < length orders = c.loop-block-test.true in
    let same = c.requires.same in
    let inside : l.block < length stand = omega arith in
    let count = standing_length stand orders in
    let marks : c.as_slice.result.now ≡ get_or stand l.block [] = c.as_slice.ensures ∙ c.index-stand-block.is ∙ get_or_default stand l.block c.index-stand-block.result [] inside in
    let order : c.index-orders-block.result ≡ get_or orders l.block [] = c.index-orders-block.is ∙ get_or_default orders l.block c.index-orders-block.result [] within in
    let row : c.in_ok-standing_in.field-0 ≡ get_or (standing stand orders) l.block [] =
    c.in_ok-standing_in.ensures ∙ ap (λ (m : List Bool). standing_in m c.index-orders-block.result) marks ∙ ap (standing_in (get_or stand l.block [])) order ∙ sym (standing_at stand orders l.block inside) in
    c.in_ok-push.ensures.items ∙ ap (λ (rows : List (List ℕ)). rows ++ c.in_ok-standing_in.field-0 ∷ []) l.invariant
    ∙ ap (λ (r : List ℕ). take l.block (standing stand orders) ++ r ∷ []) row
    ∙ sym (take_more (standing stand orders) l.block [] (omega arith))

pub returns : goal.returns
returns c =
    let count = standing_length c.args.stand.now c.args.orders.now in
    let past = c.loop-block-test.false in
    c.loop-block.invariant ∙ take_all c.loop-block.block (standing c.args.stand.now c.args.orders.now) (omega arith)
