use Rattle.ir_meaning.proofs.Common.{drop, Follows, OnlyZero, Undefines, Block, ending_of, held_of}
use Rattle.ir_meaning.proofs.Following.{at_block, block_read, end_fits, follow_end, follow_gives, follow_undefined, goes_from, inst_read, op_fits, width_known}
use Rattle.ir_meaning.proofs.block.follow.Goals as goal

pub instruction-requires-clause-fits : goal.instruction-requires-clause-fits
instruction-requires-clause-fits c =
    let f = c.args.f.now in
    let block = c.index-as_slice-b.result in
    let inst = c.index-insts-k.result in
    let is_block = block_read f c.args.b block c.as_slice.result.now c.as_slice.ensures c.requires.block c.index-as_slice-b.is in
    let is_inst = inst_read block c.as_slice-insts.result.now c.loop-k.k inst c.as_slice-insts.ensures c.loop-k-test.true c.index-insts-k.is in
    op_fits f c.requires.formed c.args.b c.loop-k.k block inst is_block is_inst
    (c.requires.no_phi c.loop-k.k inst c.loop-k.auto.k (record { block = block; is_block = is_block; is_inst = is_inst }))

pub returns-in-Undefined-clause-follows : goal.returns-in-Undefined-clause-follows
returns-in-Undefined-clause-follows c =
    let f = c.args.f.now in
    let block = c.index-as_slice-b.result in
    let insts = c.as_slice-insts.result.now in
    let held = held_of f c.loop-k.table.values.items in
    let is_block = block_read f c.args.b block c.as_slice.result.now c.as_slice.ensures c.requires.block c.index-as_slice-b.is in
    let follows = c.loop-k.invariant.follows Undefines (follow_undefined f c.args.b c.loop-k.k insts block.end held c.index-insts-k.result c.loop-k-test.true c.index-insts-k.is c.in-Undefined.ensures.effect) in
    at_block (λ (x : Block). Follows OnlyZero f c.args.b c.args.first (drop c.args.first x.insts) x.end (held_of f c.args.table.now.values.items) Undefines) f c.args.b block is_block (rw c.as_slice-insts.ensures at follows)

pub set-requires-clause-fits : goal.set-requires-clause-fits
set-requires-clause-fits c =
    let f = c.args.f.now in
    let block = c.index-as_slice-b.result in
    let inst = c.index-insts-k.result in
    let is_block = block_read f c.args.b block c.as_slice.result.now c.as_slice.ensures c.requires.block c.index-as_slice-b.is in
    let is_inst = inst_read block c.as_slice-insts.result.now c.loop-k.k inst c.as_slice-insts.ensures c.loop-k-test.true c.index-insts-k.is in
    (inst.width, width_known f c.args.b c.loop-k.k block inst is_block is_inst, c.in-Gives.ensures.width)

pub loop-k-preserved : goal.loop-k-preserved
loop-k-preserved c =
    let f = c.args.f.now in
    let insts = c.as_slice-insts.result.now in
    let held = held_of f c.loop-k.table.values.items in
    record {
      table = c.set.ensures.table;
      follows = λ end rest. c.loop-k.invariant.follows end
          (follow_gives f c.args.b c.loop-k.k insts c.index-as_slice-b.result.end held end c.index-insts-k.result c.in-Gives.value c.loop-k-test.true c.index-insts-k.is c.in-Gives.ensures.effect (rw c.set.ensures.held at rest));
    }

pub end-requires-clause-fits : goal.end-requires-clause-fits
end-requires-clause-fits c =
    let f = c.args.f.now in
    let block = c.index-as_slice-b.result in
    end_fits f c.requires.formed c.args.b block (block_read f c.args.b block c.as_slice.result.now c.as_slice.ensures c.requires.block c.index-as_slice-b.is)

pub returns-clause-follows : goal.returns-clause-follows
returns-clause-follows c =
    let f = c.args.f.now in
    let block = c.index-as_slice-b.result in
    let insts = c.as_slice-insts.result.now in
    let held = held_of f c.loop-k.table.values.items in
    let end = ending_of held c.end.result in
    let is_block = block_read f c.args.b block c.as_slice.result.now c.as_slice.ensures c.requires.block c.index-as_slice-b.is in
    let follows = c.loop-k.invariant.follows end (follow_end f c.args.b c.loop-k.k insts block.end held end c.loop-k-test.false c.end.ensures.gives) in
    at_block (λ (x : Block). Follows OnlyZero f c.args.b c.args.first (drop c.args.first x.insts) x.end (held_of f c.args.table.now.values.items) end) f c.args.b block is_block (rw c.as_slice-insts.ensures at follows)

pub returns-clause-goes : goal.returns-clause-goes
returns-clause-goes c =
    let f = c.args.f.now in
    let block = c.index-as_slice-b.result in
    goes_from f c.args.b block c.end.result (block_read f c.args.b block c.as_slice.result.now c.as_slice.ensures c.requires.block c.index-as_slice-b.is) c.end.ensures.goes
