use Rattle.strategy.proofs.Common.{◌+◌, List, length, take, refl, sym, subst, arith, take_all, slice_get_read, Entry, OptimisesEntries, OptimisesEntry}
use Rattle.strategy.proofs.Entering.{none_entered, one_entered}
use Rattle.strategy.proofs.Stepping.{still_may_ask}
use Rattle.strategy.proofs.module.optimise_entries.Goals as goal

pub loop-entry-init : goal.loop-entry-init
loop-entry-init c =
    rw c.new-made.ensures (none_entered c.args.options.fold c.args.rules.now.across c.args.rules.now.all.now c.args.options.conflicts c.args.options.steps c.args.verdicts.now c.args.all.now)

pub optimise_entry-requires-clause-entry : goal.optimise_entry-requires-clause-entry
optimise_entry-requires-clause-entry c =
    let old = c.args.entries.now in
    c.requires.entries c.loop-entry.entry-index c.entry-item.result
    (slice_get_read old (length old) c.loop-entry.entry-index c.entry-item.result refl c.loop-entry-test.true c.entry-item.is)

pub optimise_entry-requires-clause-asks : goal.optimise_entry-requires-clause-asks
optimise_entry-requires-clause-asks c =
    still_may_ask c.args.rules.now c.args.options.conflicts c.loop-entry.invariant.pairs c.args.verdicts.now c.loop-entry.verdicts c.requires.asks c.loop-entry.invariant.asks

pub loop-entry-preserved : goal.loop-entry-preserved
loop-entry-preserved c =
    let across = c.args.rules.now.across in
    let rules = c.args.rules.now.all.now in
    let conflicts = c.args.options.conflicts in
    let steps = c.args.options.steps in
    let old = c.args.entries.now in
    let place = c.loop-entry.entry-index in
    let made = c.in_ok-optimised.optimised in
    let before = c.args.verdicts.now in
    let now = c.loop-entry.verdicts in
    let after = c.optimise_entry.new.verdicts in
    let first = c.args.all.now in
    let all = c.loop-entry.all in
    let all' = c.optimise_entry.new.all in
    let one = subst (λ (e : Entry). OptimisesEntry c.args.options.fold across rules conflicts steps e made now after all all') c.entry-item.is c.in_ok-optimised.ensures in
    subst (λ (l : List Entry). OptimisesEntries c.args.options.fold across rules conflicts steps (take (place + 1) old) l before after first all') (sym c.in_ok-push.ensures.ok)
    (one_entered c.args.options.fold across rules conflicts steps place old c.loop-entry.made c.entry-item.result made before now after first all all' c.loop-entry-test.true c.loop-entry.invariant one)

pub returns : goal.returns
returns c =
    subst (λ (l : List Entry). OptimisesEntries c.args.options.fold c.args.rules.now.across c.args.rules.now.all.now c.args.options.conflicts c.args.options.steps l c.loop-entry.made c.args.verdicts.now c.loop-entry.verdicts c.args.all.now c.loop-entry.all)
    (take_all c.loop-entry.entry-index c.args.entries.now (omega arith)) c.loop-entry.invariant
