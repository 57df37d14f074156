use Rattle.depth_first.proofs.Common.{◌≡◌, ◌++◌, ◌∷◌, [], Some, length, take, sym, ap, ◌∙◌, arith, slice_get, take_all, negations_of, Entry, decisions, reasons, marked_entries}
use Rattle.depth_first.proofs.Decisions.{clause_more, read_at}
use Rattle.depth_first.proofs.Involved.{hints_more}
use Rattle.depth_first.proofs.learned.step_of.Goals as goal

pub add_entry-requires : goal.add_entry-requires
add_entry-requires c =
    let trail = c.args.trail.now in
    let k = c.loop-entry.entry-index in
    let d : Entry = c.entry-item.result in
    let at : slice_get trail.entries.items k ≡ Some d =
    read_at trail.entries.items c.deref-entry-items.result.now k d c.deref-entry-items.ensures.value c.loop-entry-test.true ∙ ap Some (sym c.entry-item.is) in
    omega (arith, (trail.fresh k d at).1, c.requires)

pub loop-entry-preserved : goal.loop-entry-preserved
loop-entry-preserved c =
    let entries = c.args.trail.now.entries.items in
    let items = c.deref-entry-items.result.now in
    let k = c.loop-entry.entry-index in
    let d : Entry = c.entry-item.result in
    let old = c.loop-entry.step in
    let new = c.add_entry.new.step in
    let same = c.deref-entry-items.ensures.value in
    let within = c.loop-entry-test.true in
    let inv = c.loop-entry.invariant in
    record {
      clause_so_far = clause_more entries items k d old.clause new.clause same within c.entry-item.is inv.clause_so_far c.in_ok-add_entry.ensures.clause;
      hints_so_far = hints_more entries items k d c.args.marked.now old.hints new.hints same within c.entry-item.is inv.hints_so_far c.in_ok-add_entry.ensures.hints;
    }

pub returns-clause-clause : goal.returns-clause-clause
returns-clause-clause c =
    let entries = c.args.trail.now.entries.items in
    let whole : take c.loop-entry.entry-index entries ≡ entries =
    take_all c.loop-entry.entry-index entries (omega (arith, c.loop-entry-test.false, ap length c.deref-entry-items.ensures.value)) in
    c.loop-entry.invariant.clause_so_far ∙ ap (λ es. negations_of (decisions es)) whole

pub returns-clause-hints : goal.returns-clause-hints
returns-clause-hints c =
    let entries = c.args.trail.now.entries.items in
    let whole : take c.loop-entry.entry-index entries ≡ entries =
    take_all c.loop-entry.entry-index entries (omega (arith, c.loop-entry-test.false, ap length c.deref-entry-items.ensures.value)) in
    c.in_ok-push.ensures.ok
    ∙ ap (λ ns. ns ++ c.args.conflict ∷ []) (c.loop-entry.invariant.hints_so_far ∙ ap (λ es. reasons (marked_entries c.args.marked.now es)) whole)
