use Rattle.strategy.proofs.Common.{List, [], sym, subst, ◌∙◌, All, Entry, Module, IsUnrefutedIn, StoredLogs, EntriesAreReady, OptimisesEntries}
use Rattle.strategy.proofs.Entering.{given, no_verdicts}
use Rattle.strategy.proofs.module.plain_strategy.Goals as goal

pub optimise_entries-requires-clause-entries : goal.optimise_entries-requires-clause-entries
optimise_entries-requires-clause-entries c = subst (EntriesAreReady c.args.options.steps) (sym c.as_slice-read.ensures) c.requires.entries

pub optimise_entries-requires-clause-asks : goal.optimise_entries-requires-clause-asks
optimise_entries-requires-clause-asks c = record {
  ready = c.requires.ready;
  by_root = c.requires.by_root;
  conflicts = c.requires.conflicts;
  verdicts = ([], no_verdicts c.args.options.fold c.args.rules.now.across c.args.rules.now.all.now c.args.options.conflicts c.new-verdicts.result c.new-verdicts.ensures.table c.new-verdicts.ensures.pairs);
}

pub returns : goal.returns
returns c =
    let across = c.args.rules.now.across in
    let rules = c.args.rules.now.all.now in
    let conflicts = c.args.options.conflicts in
    let steps = c.args.options.steps in
    let new : Module = record { entries = c.in_ok-entries.entries } in
    let before = c.new-verdicts.result in
    let after = c.optimise_entries.new.verdicts in
    let first = c.new-turns.result in
    let all = c.optimise_entries.new.all in
    let nothing = no_verdicts c.args.options.fold across rules conflicts before c.new-verdicts.ensures.table c.new-verdicts.ensures.pairs in
    let made = subst (λ (l : List Entry). OptimisesEntries c.args.options.fold across rules conflicts steps l new.entries before after first all) c.as_slice-read.ensures c.in_ok-entries.ensures in
    record {
      strategy = given c.args.options.fold across rules conflicts steps c.args.module.now new before after first all c.new-turns.ensures.counts c.new-turns.ensures.limited nothing made;
      honest = (made.asks.asked [] nothing).honest;
      unrefuted = subst (λ (l : StoredLogs). All (IsUnrefutedIn l) after.table) (made.asks.logs ∙ c.new-verdicts.ensures.logs) (made.asks.asked [] nothing).unrefuted;
    }
