use Rattle.stored_logs.proofs.Common.{refl, on_ok_weaker, most_typings}
use Rattle.stored_logs.proofs.Proving.{typed, decided, too_many}
use Rattle.stored_logs.proofs.proved.push_rule.Goals as goal

pub push_rows-requires-clause-typings : goal.push_rows-requires-clause-typings
push_rows-requires-clause-typings c =
    typed c.args.rule.now c.args.widths.now most_typings c.in-All.typings (rw c.in-All.is at c.in_ok-typings.ensures)

pub returns-in-All : goal.returns-in-All
returns-in-All c =
    on_ok_weaker c.push_rows.result (decided c.args.widths.now c.args.conflicts c.args.place c.args.rule.now c.in-All.typings c.args.proved.now c.push_rows.new.proved (rw c.in-All.is at c.in_ok-typings.ensures)) c.push_rows.ensures

pub returns-in-TooMany : goal.returns-in-TooMany
returns-in-TooMany c =
    too_many c.args.widths.now c.args.conflicts c.args.place c.args.rule.now c.args.proved.now _ (rw c.in-TooMany.is at c.in_ok-typings.ensures) refl refl refl refl
