use Rattle.alive_top.proofs.Common.{List, ℕ, refl, rules, map, Err, sym, subst, ap, ◌∙◌, err_from_is_err_and, TaskOf, Run}
use Rattle.alive_top.proofs.Files.{run_refused, run_done}
use Rattle.alive_top.proofs.work.run.Goals as goal

pub returns-in_err-text-clause-answer : goal.returns-in_err-text-clause-answer
returns-in_err-text-clause-answer g c =
    let arguments : List (List ℕ) = map (λ argument. argument.now) c.args.arguments.now in
    let old = g.F.Files.state c.args.files.now in
    let new = g.F.Files.state c.read_and_run.new.files in
    let p = err_from_is_err_and c.from_residual.result c.from_residual.ensures.1 in
    subst (TaskOf old new (Run c.args.source.now c.args.name.now arguments c.args.options)) (sym (p.1 ∙ ap (λ e. Err e) p.2))
    (run_refused old new c.args.source.now c.args.name.now arguments c.args.options c.in_err-text.field-0.0 c.in_err-text.ensures.answer)

pub returns-clause-answer : goal.returns-clause-answer
returns-clause-answer g c =
    let arguments : List (List ℕ) = map (λ argument. argument.now) c.args.arguments.now in
    run_done (g.F.Files.state c.args.files.now) (g.F.Files.state c.read_and_run.new.files) c.args.source.now c.args.name.now arguments c.args.options _
    c.in_ok-text.ensures.answer (record { runs = c.in_ok-text.ensures.answer.holds; report = search rules; table = search rules; no_proofs = search rules; status = refl })
