use Rattle.ir_meaning.proofs.Common.{arith, held_of, ending_of}
use Rattle.ir_meaning.proofs.Following.{enters_all, none_behind, taken_fit}
use Rattle.ir_meaning.proofs.Pieces.{some_at}
use Rattle.ir_meaning.proofs.block.pass.Goals as goal

pub hold_phis-requires-clause-fits : goal.hold_phis-requires-clause-fits
hold_phis-requires-clause-fits c =
    let f = c.args.f.now in
    let block = some_at f.blocks c.args.b c.requires.block in
    λ k v is. taken_fit f c.args.b block.0 (held_of f c.args.table.now.values.items) c.args.from c.take_phis.new.taken.items block.1 (c.in_ok-take_phis.ensures block.0 block.1) k v (rw c.deref.ensures.value at is)

pub follow-requires-clause-no_phi : goal.follow-requires-clause-no_phi
follow-requires-clause-no_phi c =
    let f = c.args.f.now in
    let block = some_at f.blocks c.args.b c.requires.block in
    λ k inst above is. none_behind f c.requires.formed c.args.b block.0 (held_of f c.args.table.now.values.items) c.args.from c.take_phis.new.taken.items block.1 (c.in_ok-take_phis.ensures block.0 block.1) k inst
    (omega (arith, c.take_phis.new.taken.ok.0)) is

pub returns-clause-passes : goal.returns-clause-passes
returns-clause-passes c =
    let f = c.args.f.now in
    let block = some_at f.blocks c.args.b c.requires.block in
    let held = held_of f c.args.table.now.values.items in
    let follows = rw (c.hold_phis.ensures.held, c.deref.ensures.value) at (c.follow.ensures.follows block.0 block.1) in (
      block.0,
      block.1,
      enters_all f c.args.from held c.args.b c.len.result block.0.insts c.take_phis.new.taken.items block.0.end (ending_of (held_of f c.follow.new.table.values.items) c.follow.result) (c.in_ok-take_phis.ensures block.0 block.1)
          (omega (arith, c.take_phis.new.taken.ok.0)) follows,
    )
