use Rattle.needed.proofs.MarkLemmas.{marked_next_entry, numbered_entry}
use Rattle.needed.proofs.search.Search.mark_entries.Goals as goal

pub mark-requires : goal.mark-requires
mark-requires c = numbered_entry c.args.numbers.now.firsts.items c.args.entries.now c.loop-entry.entry-index c.entry-item.result _ _ c.requires c.loop-entry.invariant.count c.loop-entry-test.true c.entry-item.is

pub loop-entry-preserved : goal.loop-entry-preserved
loop-entry-preserved c = marked_next_entry c.args.numbers.now.firsts.items c.args.entries.now c.loop-entry.entry-index c.entry-item.result c.args.self.now c.loop-entry.self c.mark.new.self c.loop-entry.invariant c.loop-entry-test.true c.entry-item.is c.in_ok-mark.ensures
