use Rattle.ir_printer.proofs.Common.{subst, sym, ap, ◌∙◌, arith, All, take_all, All-more, IsModuleText, entries_text, EntryHasFewNames}
use Rattle.ir_printer.proofs.Entries.{entries_more, few_things}
use Rattle.ir_printer.proofs.module.print_module.Goals as goal

pub loop-place-preserved : goal.loop-place-preserved
loop-place-preserved c =
    let i = c.loop-place.place in
    let entries = c.as_slice-entries.result.now in
    record {
      text = entries_more _ _ _ entries i c.index-entries-place.result c.loop-place-test.true c.index-entries-place.is c.loop-place.invariant.text c.in_ok-push_gap.ensures c.in_ok-push_entry.ensures.text;
      few = All-more EntryHasFewNames entries i c.index-entries-place.result c.loop-place-test.true c.loop-place.invariant.few (subst EntryHasFewNames c.index-entries-place.is c.in_ok-push_entry.ensures.few);
    }

pub returns-clause-text : goal.returns-clause-text
returns-clause-text c = c.loop-place.invariant.text ∙ ap entries_text (take_all c.loop-place.place c.as_slice-entries.result.now (omega arith) ∙ c.as_slice-entries.ensures)

pub returns-clause-few : goal.returns-clause-few
returns-clause-few c =
    few_things c.args.m.now (subst (All EntryHasFewNames) (take_all c.loop-place.place c.as_slice-entries.result.now (omega arith) ∙ c.as_slice-entries.ensures) c.loop-place.invariant.few)

pub returns-clause-reads : goal.returns-clause-reads
returns-clause-reads c = λ forms checks.
    let m = c.args.m.now in
    let all = take_all c.loop-place.place c.as_slice-entries.result.now (omega arith) ∙ c.as_slice-entries.ensures in
    let few = few_things m (subst (All EntryHasFewNames) all c.loop-place.invariant.few) in
    let text = c.loop-place.invariant.text ∙ ap entries_text all in
    subst (λ t. IsModuleText t m) (sym text) (c.printed_texts_read.ensures m forms checks few)
