use Rattle.verdict.proofs.Common.{refl, on_ok_weaker, most_typings}
use Rattle.verdict.proofs.Findings.{typed, decided, too_many}
use Rattle.verdict.proofs.verification.push_rule.Goals as goal

pub push_rows-requires-clause-typings : goal.push_rows-requires-clause-typings
push_rows-requires-clause-typings c =
    typed c.args.rule.now c.args.widths.now most_typings c.in-All.typings (rw c.in-All.is at c.in_ok-typings.ensures)

pub returns-in-All : goal.returns-in-All
returns-in-All c =
    on_ok_weaker c.push_rows.result (decided c.args.widths.now c.args.conflicts c.args.place c.args.rule.now c.in-All.typings c.args.verified.now c.push_rows.new.verified (rw c.in-All.is at c.in_ok-typings.ensures)) c.push_rows.ensures

pub returns-in-TooMany : goal.returns-in-TooMany
returns-in-TooMany c =
    on_ok_weaker c.push_too_many.result (λ text. too_many c.args.widths.now c.args.conflicts c.args.place c.args.rule.now c.args.verified.now _ (rw c.in-TooMany.is at c.in_ok-typings.ensures) refl text refl) c.push_too_many.ensures
