use Rattle.ir_meaning.proofs.Common.{Some, refl, Block, held_of, AreTaken}
use Rattle.ir_meaning.proofs.Following.{at_block, block_read, entered_from_nowhere, entry_fits, inst_read, not_phi, phi_entry, taken_all, taken_at_other, taken_more}
use Rattle.ir_meaning.proofs.Totality.{block_enterable}
use Rattle.ir_meaning.proofs.phi.take_phis.Goals as goal

pub returns-in_default : goal.returns-in_default
returns-in_default c = λ block is_block. rw c.clear.ensures.items
    (entered_from_nowhere (held_of c.args.f.now c.args.table.now.values.items) c.args.from block.insts c.in_default.is (block_enterable c.args.f.now c.requires.formed c.args.from c.args.b block c.requires.from is_block))

pub entry-read-requires : goal.entry-read-requires
entry-read-requires c =
    let f = c.args.f.now in
    let block = c.index-as_slice-b.result in
    let inst = c.inst-item.result in
    let is_block = block_read f c.args.b block c.as_slice.result.now c.as_slice.ensures c.requires.block c.index-as_slice-b.is in
    let is_inst = inst_read block c.as_slice-insts.result.now c.loop-inst.inst-index inst c.as_slice-insts.ensures c.loop-inst-test.true c.inst-item.is in
    let named = rw c.in-Some.is at c.requires.from in
    rw c.as_slice-in-loop-inst.ensures (phi_entry f c.requires.formed c.in-Some.from c.args.b c.loop-inst.inst-index block inst c.in-Phi.entries named is_block is_inst c.in-Phi.is)

pub operand-value-requires-clause-width : goal.operand-value-requires-clause-width
operand-value-requires-clause-width c =
    let f = c.args.f.now in
    let block = c.index-as_slice-b.result in
    let inst = c.inst-item.result in
    let is_block = block_read f c.args.b block c.as_slice.result.now c.as_slice.ensures c.requires.block c.index-as_slice-b.is in
    let is_inst = inst_read block c.as_slice-insts.result.now c.loop-inst.inst-index inst c.as_slice-insts.ensures c.loop-inst-test.true c.inst-item.is in
    let has = rw c.as_slice-in-loop-inst.ensures at c.entry-read.ensures in
    entry_fits f c.requires.formed c.args.b c.loop-inst.inst-index block inst c.in-Phi.entries c.entry-read.result c.in-Some.from is_block is_inst c.in-Phi.is has

pub loop-inst-preserved : goal.loop-inst-preserved
loop-inst-preserved c =
    let held = held_of c.args.f.now c.args.table.now.values.items in
    let has = rw c.as_slice-in-loop-inst.ensures at c.entry-read.ensures in
    taken_more held (Some c.in-Some.from) c.as_slice-insts.result.now c.loop-inst.inst-index c.loop-inst.taken.items c.push.new.self.items c.inst-item.result c.in-Phi.entries c.operand-value.result
    c.loop-inst-test.true c.inst-item.is c.in-Phi.is (c.in-Some.from, c.entry-read.result, refl, has, c.operand-value.ensures.gives) c.operand-value.ensures.width c.loop-inst.invariant c.in_ok-push.ensures.items

pub returns-after-loop-inst : goal.returns-after-loop-inst
returns-after-loop-inst c =
    let f = c.args.f.now in
    let block = c.index-as_slice-b.result in
    let held = held_of f c.args.table.now.values.items in
    let is_block = block_read f c.args.b block c.as_slice.result.now c.as_slice.ensures c.requires.block c.index-as_slice-b.is in
    let all = taken_all held (Some c.in-Some.from) c.as_slice-insts.result.now c.loop-inst.inst-index c.loop-inst.taken.items c.loop-inst-test.false c.loop-inst.invariant in
    at_block (λ (x : Block). AreTaken held c.args.from x.insts c.loop-inst.taken.items) f c.args.b block is_block (rw c.in-Some.is (rw c.as_slice-insts.ensures at all))

pub returns-in_default-op : goal.returns-in_default-op
returns-in_default-op c =
    let f = c.args.f.now in
    let block = c.index-as_slice-b.result in
    let held = held_of f c.args.table.now.values.items in
    let is_block = block_read f c.args.b block c.as_slice.result.now c.as_slice.ensures c.requires.block c.index-as_slice-b.is in
    let all = taken_at_other held (Some c.in-Some.from) c.as_slice-insts.result.now c.loop-inst.inst-index c.loop-inst.taken.items c.inst-item.result c.loop-inst-test.true c.inst-item.is (not_phi c.inst-item.result.op c.in_default-op.not-Phi) c.loop-inst.invariant in
    at_block (λ (x : Block). AreTaken held c.args.from x.insts c.loop-inst.taken.items) f c.args.b block is_block (rw c.in-Some.is (rw c.as_slice-insts.ensures at all))
