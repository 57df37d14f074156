use Rattle.ir_printer.proofs.Common.{◌≡◌, suc, ◌+◌, ◌++◌, ◌∷◌, drop, drop-cons, add-one, sym, ap, ◌∙◌, drop_all, rest_of_report}
use Rattle.std.proofs.Common.{append-nil}
use Rattle.ir_printer.proofs.report.print_report.Goals as goal

pub loop-entry-preserved : goal.loop-entry-preserved
loop-entry-preserved c =
    let i = c.loop-entry.entry-index in
    let entries = c.as_slice-entry-items.result.now in
    let entry = c.entry-item.result in
    let rest : drop i entries ≡ entry ∷ drop (i + 1) entries = rw add-one (drop-cons entries i entry c.loop-entry-test.true ∙ ap (λ e. e ∷ drop (suc i) entries) (sym c.entry-item.is)) in
    c.in_ok-place.ensures (drop (i + 1) entries)
    ∙ ap (λ es. c.loop-entry.out.items ++ rest_of_report es c.args.counts.now c.args.limited.now c.loop-entry.place) (sym rest)
    ∙ c.loop-entry.invariant

pub returns : goal.returns
returns c =
    let out = c.loop-entry.out.items in
    let rest = ap (λ es. out ++ rest_of_report es c.args.counts.now c.args.limited.now c.loop-entry.place) (drop_all c.loop-entry.entry-index c.as_slice-entry-items.result.now c.loop-entry-test.false) in
    sym (append-nil out) ∙ sym rest ∙ c.loop-entry.invariant ∙ ap (λ es. rest_of_report es c.args.counts.now c.args.limited.now 0) c.as_slice-entry-items.ensures
