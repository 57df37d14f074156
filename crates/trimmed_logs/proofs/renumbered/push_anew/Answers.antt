use Rattle.trimmed_logs.proofs.Common.{◌∙◌, on_ok_weaker, Step}
use Rattle.trimmed_logs.proofs.renumbered.push_anew.Goals as goal

pub returns : goal.returns
returns c =
    let step : Step = record { clause = c.in_ok-clause.clause; hints = c.in_ok-hints.hints } in
    on_ok_weaker c.push.result (λ is. (step, c.in_ok-clause.ensures ∙ c.as_slice.ensures, is)) c.push.ensures.ok
