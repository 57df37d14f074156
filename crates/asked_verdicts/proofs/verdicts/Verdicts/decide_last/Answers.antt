use Rattle.asked_verdicts.proofs.Common.{List, ap, length, take, ◌∙◌, Row}
use Rattle.asked_verdicts.proofs.verdicts.Verdicts.decide_last.Goals as goal

pub returns-in-Ok-clause-row : goal.returns-in-Ok-clause-row
returns-in-Ok-clause-row c = rw c.in-Ok.is at c.push_decided.ensures.pushed

pub returns-in-Err-clause-table : goal.returns-in-Err-clause-table
returns-in-Err-clause-table c = rw c.in-Err.is at c.push_decided.ensures.refused

pub returns-in-Err-clause-taken_out : goal.returns-in-Err-clause-taken_out
returns-in-Err-clause-taken_out c =
    let same = rw c.in-Err.is at c.push_decided.ensures.refused in
    c.truncate.ensures.keys ∙ ap (λ n. take n c.args.self.now.pairs.keys) (c.len.ensures ∙ ap (λ (t : List Row). length t) same)
