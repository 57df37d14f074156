use Rattle.needed.proofs.Common.{◌≡◌, ◌<◌, Some, length, refl, ap, arith, slice_get, slice_get_within, HasInst, operands_of}
use Rattle.needed.proofs.SearchLemmas.{reads_numbered, inst_reads, search_inst, numbered_for, work_has, place_within, block_looked_at, inst_looked_at}
use Rattle.needed.proofs.search.Search.follow.Goals as goal

pub bounds-as_slice-block : goal.bounds-as_slice-block
bounds-as_slice-block c =
    let f = c.args.f.now in
    let n = c.args.numbers.now in
    let has : HasInst f c.in-Some.block c.in-Some.place = work_has f n.firsts.items n.count (length f.blocks) c.in-Some.block c.in-Some.place c.loop-block.self c.pop.new.self.items c.loop-block.invariant c.in-Some.ensures.items in
    let within : c.in-Some.block < length f.blocks = slice_get_within f.blocks c.in-Some.block has.0 has.1 in
    omega (arith, within, ap length c.as_slice.ensures)

pub bounds-as_slice-place : goal.bounds-as_slice-place
bounds-as_slice-place c =
    let f = c.args.f.now in
    let n = c.args.numbers.now in
    let b = c.in-Some.block in
    let k = c.in-Some.place in
    let block = c.index-as_slice-block.result in
    let has : HasInst f b k = work_has f n.firsts.items n.count (length f.blocks) b k c.loop-block.self c.pop.new.self.items c.loop-block.invariant c.in-Some.ensures.items in
    let at : slice_get f.blocks b ≡ Some block = block_looked_at f b k c.as_slice.result.now block has c.as_slice.ensures c.index-as_slice-block.is in
    let within : k < length block.insts = place_within f b k block has at in
    omega (arith, within, ap length c.as_slice-in-Some.ensures)

pub mark_op-requires : goal.mark_op-requires
mark_op-requires c =
    let f = c.args.f.now in
    let n = c.args.numbers.now in
    let b = c.in-Some.block in
    let k = c.in-Some.place in
    let block = c.index-as_slice-block.result in
    let inst = c.index-as_slice-place.result in
    let has : HasInst f b k = work_has f n.firsts.items n.count (length f.blocks) b k c.loop-block.self c.pop.new.self.items c.loop-block.invariant c.in-Some.ensures.items in
    let at : slice_get f.blocks b ≡ Some block = block_looked_at f b k c.as_slice.result.now block has c.as_slice.ensures c.index-as_slice-block.is in
    let here : slice_get block.insts k ≡ Some inst = inst_looked_at f b k block c.as_slice-in-Some.result.now inst has at c.as_slice-in-Some.ensures c.index-as_slice-place.is in
    numbered_for n.firsts.items (operands_of inst.op) n.count _ c.loop-block.invariant.sound.size
    (reads_numbered f c.requires.registers n.firsts.items n.count c.requires.numbers b k (operands_of inst.op) (inst_reads f b k block inst at here))

pub loop-block-preserved : goal.loop-block-preserved
loop-block-preserved c =
    let f = c.args.f.now in
    let n = c.args.numbers.now in
    let b = c.in-Some.block in
    let k = c.in-Some.place in
    let block = c.index-as_slice-block.result in
    let inst = c.index-as_slice-place.result in
    let has : HasInst f b k = work_has f n.firsts.items n.count (length f.blocks) b k c.loop-block.self c.pop.new.self.items c.loop-block.invariant c.in-Some.ensures.items in
    let at : slice_get f.blocks b ≡ Some block = block_looked_at f b k c.as_slice.result.now block has c.as_slice.ensures c.index-as_slice-block.is in
    let here : slice_get block.insts k ≡ Some inst = inst_looked_at f b k block c.as_slice-in-Some.result.now inst has at c.as_slice-in-Some.ensures c.index-as_slice-place.is in
    search_inst f c.requires.registers n.firsts.items n.count c.requires.numbers (length f.blocks) b k block inst c.loop-block.self (record { marks = c.loop-block.self.marks; work = c.pop.new.self }) c.mark_op.new.self at here c.loop-block.invariant refl c.in-Some.ensures.items c.in_ok-mark_op.ensures
