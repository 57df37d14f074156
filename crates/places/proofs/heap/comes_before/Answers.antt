use Rattle.places.proofs.Common.{◌≡◌, [], Contains, get_or, sym, ap, subst, ◌∙◌, get_or_default}
use Rattle.places.proofs.Ranks.{numbered-block}
use Rattle.places.proofs.heap.comes_before.Goals as goal

pub is_before-requires-clause-other : goal.is_before-requires-clause-other
is_before-requires-clause-other c =
    let orders = c.args.orders.now in
    let row : c.index-orders-one.result ≡ get_or orders c.args.one.block [] = c.index-orders-one.is ∙ get_or_default orders c.args.one.block _ [] (numbered-block orders c.args.one c.requires.one) in
    subst (λ l. Contains l c.args.other.number) (sym (row ∙ ap (λ b. get_or orders b []) c.if-one-other.false)) c.requires.other
