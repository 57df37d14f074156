use Rattle.asked_verdicts.proofs.Common.{ℕ, List, ap, ◌∙◌}
use Rattle.asked_verdicts.proofs.Keeping.{on_err}
use Rattle.asked_verdicts.proofs.Storing.{others_stay}
use Rattle.asked_verdicts.proofs.stored.StoredLogs.insert.Goals as goal

pub returns-clause-others : goal.returns-clause-others
returns-clause-others c = λ pair other.
    others_stay (c.args.rule, c.in_ok-widths_of.field-0) c.args.self.now.logs.entries c.insert.new.self.entries pair c.in_ok-insert.ensures.updates.3
    (λ is. other (is ∙ ap (λ (widths : List ℕ). (c.args.rule, widths)) c.in_ok-widths_of.ensures))

pub returns-in_err-insert-clause-refused : goal.returns-in_err-insert-clause-refused
returns-in_err-insert-clause-refused c = on_err c.from_residual-in_err-insert.result _ c.in_err-insert.ensures.err
