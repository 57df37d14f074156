use Rattle.ir_printer.proofs.Common.{◌++◌, ◌∷◌, ap, sym, ◌∙◌, rest_of_report}
use Rattle.ir_printer.proofs.Reports.{no_more_counts, no_more_limits, not_found}
use Rattle.ir_printer.proofs.report.push_entry.Goals as goal

pub returns-in_default-copied : goal.returns-in_default-copied
returns-in_default-copied c = λ es.
    let counts = c.args.counts.now in
    let limited = c.args.limited.now in
    let place = c.args.place in
    let past = not_found c.get.result _ _ c.get.ensures.lookup.3 (sym c.copied.ensures ∙ c.in_default-copied.is) in
    ap (λ l. c.args.out.now.items ++ l) (no_more_counts c.in-Function.function es counts limited place past ∙ ap (λ e. rest_of_report (e ∷ es) counts limited place) (sym c.in-Function.is))

pub returns-in_default-copied-2 : goal.returns-in_default-copied-2
returns-in_default-copied-2 c = λ es.
    let counts = c.args.counts.now in
    let limited = c.args.limited.now in
    let place = c.args.place in
    let past = not_found c.get-2.result _ _ c.get-2.ensures.lookup.3 (sym c.copied-2.ensures ∙ c.in_default-copied-2.is) in
    ap (λ l. c.args.out.now.items ++ l) (no_more_limits c.in-Function.function es counts limited place past ∙ ap (λ e. rest_of_report (e ∷ es) counts limited place) (sym c.in-Function.is))
