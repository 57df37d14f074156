use Rattle.alive_top.proofs.Common.{rules, [], ◌∷◌, Err, refl, sym, subst, ap, ◌∙◌, err_from_is_err_and, TaskOf, Recheck}
use Rattle.alive_top.specs.File.{Rules, Logs}
use Rattle.alive_top.proofs.Files.{first_refused, recheck_refused, recheck_done, follow_on}
use Rattle.alive_top.proofs.recheck.recheck.Goals as goal

pub returns-in_err-list-clause-answer : goal.returns-in_err-list-clause-answer
returns-in_err-list-clause-answer g c =
    let old = g.F.Files.state c.args.files.now in
    let new = g.F.Files.state c.read_rule_file.new.files in
    let task = Recheck c.args.rules.now c.args.logs.now c.args.options in
    let p = err_from_is_err_and c.from_residual.result c.from_residual.ensures.1 in
    subst (TaskOf old new task) (sym (p.1 ∙ ap (λ e. Err e) p.2))
    (first_refused old new task (record { name = c.args.rules.now; kind = Rules }) (record { name = c.args.logs.now; kind = Logs } ∷ []) c.in_err-list.field-0.0 refl c.in_err-list.ensures.answer)

pub returns-in_err-rechecked-clause-answer : goal.returns-in_err-rechecked-clause-answer
returns-in_err-rechecked-clause-answer g c =
    let old = g.F.Files.state c.args.files.now in
    let mid = g.F.Files.state c.read_rule_file.new.files in
    let new = g.F.Files.state c.read_and_recheck.new.files in
    let task = Recheck c.args.rules.now c.args.logs.now c.args.options in
    let p = err_from_is_err_and c.from_residual-in_err-rechecked.result c.from_residual-in_err-rechecked.ensures.1 in
    subst (TaskOf old new task) (sym (p.1 ∙ ap (λ e. Err e) p.2))
    (recheck_refused old mid new c.args.rules.now c.args.logs.now c.args.options c.in_ok-list.list.items c.in_err-rechecked.field-0.0
    c.read_rule_file.ensures.follow c.in_ok-list.ensures.answer (rw c.as_slice.ensures.value at c.in_err-rechecked.ensures.answer))

pub returns-clause-answer : goal.returns-clause-answer
returns-clause-answer g c =
    let read = rw c.as_slice.ensures.value at c.in_ok-rechecked.ensures.answer in
    recheck_done (g.F.Files.state c.args.files.now) (g.F.Files.state c.read_rule_file.new.files) (g.F.Files.state c.read_and_recheck.new.files) c.args.rules.now c.args.logs.now c.args.options
    c.in_ok-list.list.items c.in_ok-rechecked.rechecked _ c.read_rule_file.ensures.follow c.in_ok-list.ensures.answer read
    (record { rechecked = c.in_ok-rechecked.rechecked; right = read.holds; text = refl; report = search rules; table = refl; no_proofs = search rules; status = c.status_of.ensures })

pub returns-clause-follow : goal.returns-clause-follow
returns-clause-follow g c = follow_on _ _ _ c.read_rule_file.ensures.follow c.read_and_recheck.ensures.follow

pub returns-in_err-rechecked-clause-follow : goal.returns-in_err-rechecked-clause-follow
returns-in_err-rechecked-clause-follow g c = follow_on _ _ _ c.read_rule_file.ensures.follow c.read_and_recheck.ensures.follow

pub read_and_recheck-requires-clause-ready : goal.read_and_recheck-requires-clause-ready
read_and_recheck-requires-clause-ready g c = rw (c.as_slice.ensures.value) c.in_ok-list.ensures.ready
