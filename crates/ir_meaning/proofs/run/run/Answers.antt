use Rattle.ir_meaning.proofs.Common.{◌≡◌, suc, ◌+◌, ◌-◌, arith, held_of}
use Rattle.ir_core.specs.declared.outcome.Outcome.TheVariants as outcomes
use Rattle.ir_meaning.proofs.Following.{run_goes, run_returns, run_undefined}
use Rattle.ir_meaning.proofs.run.run.Goals as goal

pub returns-in-Undefined : goal.returns-in-Undefined
returns-in-Undefined c =
    let one_less : c.args.blocks - c.loop.counter ≡ suc (c.args.blocks - (c.loop.counter + 1)) = omega arith in
    let passes = rw c.in-Undefined.is at c.in_ok-pass.ensures.passes in
    c.loop.invariant.runs outcomes.Undefined (run_undefined c.args.f.now (c.args.blocks - c.loop.counter) (c.args.blocks - (c.loop.counter + 1)) c.loop.from c.loop.block (held_of c.args.f.now c.loop.table.values.items) one_less passes)

pub returns-in-Return : goal.returns-in-Return
returns-in-Return c =
    let one_less : c.args.blocks - c.loop.counter ≡ suc (c.args.blocks - (c.loop.counter + 1)) = omega arith in
    let passes = rw c.in-Return.is at c.in_ok-pass.ensures.passes in
    c.loop.invariant.runs (outcomes.Return c.in-Return.value) (run_returns c.args.f.now (c.args.blocks - c.loop.counter) (c.args.blocks - (c.loop.counter + 1)) c.loop.from c.loop.block (held_of c.args.f.now c.loop.table.values.items) c.in-Return.value one_less passes)

pub loop-preserved : goal.loop-preserved
loop-preserved c =
    let f = c.args.f.now in
    let one_less : c.args.blocks - c.loop.counter ≡ suc (c.args.blocks - (c.loop.counter + 1)) = omega arith in
    let passes = rw c.in-Goes.is at c.in_ok-pass.ensures.passes in
    let named = rw c.in-Goes.is at c.in_ok-pass.ensures.goes in
    record {
      table = c.in_ok-pass.ensures.table;
      within = c.requires.formed.blocks c.loop.block c.in-Goes.to named;
      entered = named;
      runs = λ o run. c.loop.invariant.runs o (run_goes f (c.args.blocks - c.loop.counter) (c.args.blocks - (c.loop.counter + 1)) c.loop.from c.loop.block c.in-Goes.to (held_of f c.loop.table.values.items) (held_of f c.pass.new.table.values.items) o one_less passes run);
    }
