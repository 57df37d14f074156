-- The instructions of a draft's arena are those that its orders have numbers of.
use Rattle.draft.proofs.Common.{◌≡◌, ℕ, ◌<◌, List, [], length, get_or, set, sym, subst, arith, slice_get_within, HasInst, some_at, contained_at, Draft, Place, Stands, IsNumbered, KeepsOrders, put_before, IsWhole, numbered-block}
use Rattle.draft.proofs.Keeping.{put-keeps}
use Rattle.draft.proofs.Wholeness.{stands_marked, stands_there}

pub inst-numbered : (d : Draft) (p : Place) → IsWhole d → HasInst d.arena p.block p.number → IsNumbered d.orders.items p
inst-numbered d p whole inst = (whole.rows p.block inst.0 inst.1).all p.number inst.2

pub numbered-inst : (d : Draft) (p : Place) → IsWhole d → IsNumbered d.orders.items p → HasInst d.arena p.block p.number
numbered-inst d p whole numbered =
    let (block, at) = some_at d.arena.blocks p.block (subst (λ n. p.block < n) whole.ordered (numbered-block d.orders.items p numbered)) in
    let (k, there) = contained_at (get_or d.orders.items p.block []) p.number numbered in
    (block, at, (whole.rows p.block block at).ordering.below k p.number there)

-- orders are kept where the next number is inserted before an instruction that stands
pub next-keeps : (d : Draft) (p : Place) → IsWhole d → Stands d p.block p.number
    → KeepsOrders d.orders.items (set d.orders.items p.block (put_before (get_or d.orders.items p.block []) p.number (length (get_or d.orders.items p.block []))))
next-keeps d p whole stands =
    let (block, at, within) = stands_there d whole p.block p.number stands in
    let inside = slice_get_within d.arena.blocks p.block block at in
    let rows = whole.rows p.block block at in
    let row : List ℕ = get_or d.orders.items p.block [] in
    put-keeps d.orders.items p.block p.number (length row) (subst (λ n. p.block < n) (sym whole.ordered) inside) (stands_marked d whole p.block block at p.number stands).0
    (λ has. let (k, there) = contained_at row (length row) has in absurd (omega (arith, rows.ordering.below k (length row) there, rows.ordered)))

-- where the orders are the same, so are the instructions that there are
pub insts-stay : (old new : Draft) → IsWhole old → IsWhole new → new.orders.items ≡ old.orders.items → (b n : ℕ) → HasInst old.arena b n → HasInst new.arena b n
insts-stay old new was is same b n inst =
    let p : Place = record { block = b; number = n } in
    numbered-inst new p is (subst (λ (l : List (List ℕ)). IsNumbered l p) (sym same) (inst-numbered old p was inst))
