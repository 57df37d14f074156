use Rattle.readers.proofs.Common.{◌≡◌, inl, inr, refl, arith, on_ok_weaker, end_of}
use Rattle.readers.proofs.Listed.{block_lists, none_below, one_below, place_known}
use Rattle.readers.proofs.uses.Readers.list_block.Goals as goal

pub loop-number-init : goal.loop-number-init
loop-number-init c = none_below c.args.f.now c.args.block c.args.self.now

pub list_reads-requires-clause-there : goal.list_reads-requires-clause-there
list_reads-requires-clause-there c = λ r there.
    let end = c.end_of-number-end.ensures in
    let test = c.loop-number-test.true in
    c.loop-number.invariant.there r (c.requires.there r (place_known c.args.f.now c.args.block c.loop-number.number c.requires.known c.requires.block (inl (omega arith)) r there))

pub loop-number-preserved : goal.loop-number-preserved
loop-number-preserved c = one_below c.args.f.now c.args.block c.loop-number.number c.args.self.now c.loop-number.self c.list_reads.new.readers c.loop-number.invariant c.in_ok-list_reads.ensures

pub list_reads-requires-2-clause-there : goal.list_reads-requires-2-clause-there
list_reads-requires-2-clause-there c = λ r there.
    c.loop-number.invariant.there r (c.requires.there r (place_known c.args.f.now c.args.block 4294967295 c.requires.known c.requires.block (inr refl) r there))

pub returns-clause-there : goal.returns-clause-there
returns-clause-there c = on_ok_weaker c.list_reads-2.result (λ one. λ r has. one.there r (c.loop-number.invariant.there r has)) c.list_reads-2.ensures

pub returns-clause-listed : goal.returns-clause-listed
returns-clause-listed c =
    let end = c.end_of-number-end.ensures in
    let test = c.loop-number-test.false in
    let same : c.loop-number.number ≡ end_of c.args.f.now c.args.block = omega arith in
    on_ok_weaker c.list_reads-2.result (λ one. block_lists c.args.f.now c.args.block c.loop-number.number c.args.self.now c.loop-number.self c.list_reads-2.new.readers c.requires.block same c.loop-number.invariant one) c.list_reads-2.ensures
