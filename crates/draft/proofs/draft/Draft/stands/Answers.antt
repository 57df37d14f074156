use Rattle.draft.proofs.Common.{◌≡◌, ◌∙◌, Bool, List, [], false, ap, get_or, length, sym, arith, get_or_default, slice_get_within}
use Rattle.draft.proofs.Wholeness.{marked_stands, stands_marked}
use Rattle.draft.proofs.draft.Draft.stands.Goals as goal

pub bounds-as_slice-place : goal.bounds-as_slice-place
bounds-as_slice-place c =
    let d = c.args.self.now in
    let (block, at, within) = c.requires.inst in
    let rows = c.requires.whole.rows c.args.place.block block at in
    let marks = rows.marked in
    let in_blocks = slice_get_within d.arena.blocks c.args.place.block block at in
    let count = c.requires.whole.marked in
    let row : c.as_slice.result.now ≡ get_or d.stand.items c.args.place.block [] = c.as_slice.ensures ∙ c.index.ensures ∙ get_or_default d.stand.items c.args.place.block c.index.result.now [] (omega arith) in
    let size = ap length row in
    omega arith

pub returns : goal.returns
returns c =
    let d = c.args.self.now in
    let p = c.args.place in
    let (block, at, within) = c.requires.inst in
    let in_blocks = slice_get_within d.arena.blocks p.block block at in
    let count = c.requires.whole.marked in
    let row : c.as_slice.result.now ≡ get_or d.stand.items p.block [] = c.as_slice.ensures ∙ c.index.ensures ∙ get_or_default d.stand.items p.block c.index.result.now [] (omega arith) in
    let same : get_or c.as_slice.result.now p.number false ≡ get_or (get_or d.stand.items p.block []) p.number false = ap (λ (l : List Bool). get_or l p.number false) row in
    (λ so. marked_stands d c.requires.whole p.block block at p.number within (sym same ∙ so), λ stands. same ∙ (stands_marked d c.requires.whole p.block block at p.number stands).1)
