use Rattle.alive_top.proofs.Common.{[], Err, refl, sym, subst, ap, ◌∙◌, err_from_is_err_and, TaskOf, seen_work, Verify}
use Rattle.alive_top.specs.File.{Rules}
use Rattle.alive_top.proofs.Files.{first_refused, memory_behind, verify_done}
use Rattle.alive_top.proofs.work.verify.Goals as goal

pub returns-in_err-list-clause-answer : goal.returns-in_err-list-clause-answer
returns-in_err-list-clause-answer g c =
    let old = g.F.Files.state c.args.files.now in
    let new = g.F.Files.state c.read_rule_file.new.files in
    let task = Verify c.args.rules.now c.args.options.now in
    let p = err_from_is_err_and c.from_residual.result c.from_residual.ensures.1 in
    subst (TaskOf old new task) (sym (p.1 ∙ ap (λ e. Err e) p.2))
    (first_refused old new task (record { name = c.args.rules.now; kind = Rules }) [] c.in_err-list.field-0.0 refl c.in_err-list.ensures.answer)

pub returns-in_err-work-clause-answer : goal.returns-in_err-work-clause-answer
returns-in_err-work-clause-answer g c =
    let old = g.F.Files.state c.args.files.now in
    let new = g.F.Files.state c.read_rule_file.new.files in
    let p = err_from_is_err_and c.from_residual-in_err-work.result c.from_residual-in_err-work.ensures.1 in
    subst (TaskOf old new (Verify c.args.rules.now c.args.options.now)) (sym (p.1 ∙ ap (λ e. Err e) p.2))
    (memory_behind old new (record { name = c.args.rules.now; kind = Rules }) c.in_ok-list.ensures.answer.asks)

pub returns-clause-answer : goal.returns-clause-answer
returns-clause-answer g c =
    verify_done (g.F.Files.state c.args.files.now) (g.F.Files.state c.read_rule_file.new.files) c.args.rules.now c.args.options.now c.in_ok-list.list.items (seen_work c.in_ok-work.work)
    c.in_ok-list.ensures.answer (rw c.as_slice.ensures.value at c.in_ok-work.ensures)

pub verified_or_proved-requires-clause-ready : goal.verified_or_proved-requires-clause-ready
verified_or_proved-requires-clause-ready g c = rw (c.as_slice.ensures.value) c.in_ok-list.ensures.ready
