use Rattle.asked_verdicts.proofs.Common.{map, arith, pair_of}
use Rattle.asked_verdicts.proofs.Parts.{next_block, no_block_asked, whole_function}
use Rattle.asked_verdicts.proofs.Sequence.{still_verdicts}
use Rattle.asked_verdicts.proofs.searching.any_admitted.Goals as goal

pub loop-block-init : goal.loop-block-init
loop-block-init c = no_block_asked c.args.rules.now.across c.args.rules.now.all.now c.args.conflicts c.args.f.now c.args.verdicts.now

pub any_in_block-requires-clause-asks : goal.any_in_block-requires-clause-asks
any_in_block-requires-clause-asks c = c.ask_bits-asks.ensures.1

pub any_in_block-requires-clause-verdicts : goal.any_in_block-requires-clause-verdicts
any_in_block-requires-clause-verdicts c =
    still_verdicts c.args.rules.now.all.now c.args.conflicts (map pair_of c.loop-block.invariant.matches) c.args.verdicts.now c.loop-block.verdicts c.requires.verdicts c.loop-block.invariant.asks

pub loop-block-preserved : goal.loop-block-preserved
loop-block-preserved c =
    next_block c.args.rules.now.across c.args.rules.now.all.now c.args.conflicts c.args.f.now c.loop-block.block c.args.verdicts.now c.loop-block.verdicts c.any_in_block.new.verdicts c.loop-block.any c.in_ok-admitted.admitted
    c.loop-block.invariant c.in_ok-admitted.ensures

pub returns : goal.returns
returns c =
    whole_function c.args.rules.now.across c.args.rules.now.all.now c.args.conflicts c.args.f.now c.loop-block.block c.args.verdicts.now c.loop-block.verdicts c.loop-block.any c.requires.ready
    (omega (arith, c.len-block-end.ensures, c.loop-block-test.false)) c.loop-block.invariant
