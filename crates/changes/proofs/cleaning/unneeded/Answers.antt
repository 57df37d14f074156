use Rattle.changes.proofs.Common.{ℕ, List, refl, sym, subst, arith, Contains, slice_get_within, HasInst, IsNeeded, IsIn, Listed}
use Rattle.ir_core.specs.declared.operand.Register.TheVariants as registers
use Rattle.changes.proofs.Answering.{if_ok}
use Rattle.changes.proofs.Ascending.{same_listed}
use Rattle.changes.proofs.cleaning.unneeded.Goals as goal

pub set_of-requires : goal.set_of-requires
set_of-requires c = λ b k there.
    let f = c.args.f.now in
    let in_list : Contains c.in_ok-places.places.items (b, k) = subst (λ (l : List (ℕ × ℕ)). Contains l (b, k)) c.as_slice.ensures.value there in
    let has : HasInst c.args.f.now b k = ((c.in_ok-places.ensures.unneeded b k).0 in_list).0 in
    let (block, at, within) = has in
    omega (arith, slice_get_within f.blocks b block at, c.len.ensures)

pub returns : goal.returns
returns c =
    let f = c.args.f.now in
    let marks = c.in_ok-marks.marks in
    if_ok c.marked.result c.marked.ensures (λ places are. same_listed (Listed f (IsIn marks)) (λ b k. HasInst f b k × ¬ IsNeeded f (registers.Result b k)) places
    (λ b l x.
    let (k, has, (marked, same)) = x in
    let in_list : Contains c.in_ok-places.places.items (b, k) = subst (λ (p : List (ℕ × ℕ)). Contains p (b, k)) c.as_slice.ensures.value ((c.in_ok-marks.ensures.has b k).0 marked) in
    let there = (c.in_ok-places.ensures.unneeded b k).0 in_list in
    subst (λ (n : ℕ). HasInst c.args.f.now b n × ¬ IsNeeded c.args.f.now (registers.Result b n)) (sym same) there)
    (λ b k there.
    let in_list : Contains c.in_ok-places.places.items (b, k) = (c.in_ok-places.ensures.unneeded b k).1 there in
    (k, there.0, ((c.in_ok-marks.ensures.has b k).1 (subst (λ (p : List (ℕ × ℕ)). Contains p (b, k)) (sym c.as_slice.ensures.value) in_list), refl)))
    are)
