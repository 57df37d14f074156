use Rattle.depth_first.proofs.Common.{◌++◌, sym, ap, ◌∙◌, true, false, append-nil, Entry, negations_of, is_marked}
use Rattle.depth_first.proofs.Decisions.{clause_of_decision, no_clause_of_reason}
use Rattle.depth_first.proofs.Involved.{hint_of_marked, no_hint_of_decision, no_hint_unmarked}
use Rattle.depth_first.proofs.learned.add_entry.Goals as goal

pub returns-in_default-clause-clause : goal.returns-in_default-clause-clause
returns-in_default-clause-clause c =
    let e : Entry = c.args.entry.now in
    let marks = c.args.marked.now in
    let step = c.args.step.now in
    c.in_ok-push.ensures.ok ∙ ap (λ ls. step.clause ++ ls) (clause_of_decision e c.negation.result (sym c.reason.ensures ∙ c.in_default.is) c.negation.ensures)

pub returns-in_default-clause-hints : goal.returns-in_default-clause-hints
returns-in_default-clause-hints c =
    let e : Entry = c.args.entry.now in
    let marks = c.args.marked.now in
    let step = c.args.step.now in
    sym (ap (λ ns. step.hints ++ ns) (no_hint_of_decision marks e (sym c.reason.ensures ∙ c.in_default.is)) ∙ append-nil step.hints)

pub returns-in_ok-push-2-clause-clause : goal.returns-in_ok-push-2-clause-clause
returns-in_ok-push-2-clause-clause c =
    let e : Entry = c.args.entry.now in
    let marks = c.args.marked.now in
    let step = c.args.step.now in
    sym (ap (λ ls. step.clause ++ negations_of ls) (no_clause_of_reason e c.in-Some.number (sym c.reason.ensures ∙ c.in-Some.is)) ∙ append-nil step.clause)

pub returns-in_ok-push-2-clause-hints : goal.returns-in_ok-push-2-clause-hints
returns-in_ok-push-2-clause-hints c =
    let e : Entry = c.args.entry.now in
    let marks = c.args.marked.now in
    let step = c.args.step.now in
    c.in_ok-push-2.ensures.ok ∙ ap (λ ns. step.hints ++ ns) (sym (hint_of_marked marks e c.in-Some.number (sym (ap (is_marked marks) c.variable.ensures) ∙ c.if-is_marked.true) (sym c.reason.ensures ∙ c.in-Some.is)))

pub returns-else-is_marked-clause-clause : goal.returns-else-is_marked-clause-clause
returns-else-is_marked-clause-clause c =
    let e : Entry = c.args.entry.now in
    let marks = c.args.marked.now in
    let step = c.args.step.now in
    sym (ap (λ ls. step.clause ++ negations_of ls) (no_clause_of_reason e c.in-Some.number (sym c.reason.ensures ∙ c.in-Some.is)) ∙ append-nil step.clause)

pub returns-else-is_marked-clause-hints : goal.returns-else-is_marked-clause-hints
returns-else-is_marked-clause-hints c =
    let e : Entry = c.args.entry.now in
    let marks = c.args.marked.now in
    let step = c.args.step.now in
    sym (ap (λ ns. step.hints ++ ns) (no_hint_unmarked marks e (sym (ap (is_marked marks) c.variable.ensures) ∙ c.if-is_marked.false)) ∙ append-nil step.hints)
