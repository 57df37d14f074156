use Rattle.alive_top.proofs.Common.{rules, [], ◌∷◌, Some, Err, refl, sym, subst, ap, inr, ◌∙◌, err_from_is_err_and, TaskOf, Source, Optimise}
use Rattle.alive_top.specs.File.{Rules, Logs}
use Rattle.alive_top.proofs.Files.{first_refused, second_refused, are_read, no_memory, logs_refused, by_logs_done, follow_on, has_rules}
use Rattle.alive_top.proofs.by_logs.optimise_by_logs.Goals as goal

pub returns-in_err-list-clause-answer : goal.returns-in_err-list-clause-answer
returns-in_err-list-clause-answer g c =
    let old = g.F.Files.state c.args.files.now in
    let new = g.F.Files.state c.read_rule_file.new.files in
    let task = Optimise c.args.rules.now c.args.source.now (Some c.args.logs.now) c.args.options in
    let p = err_from_is_err_and c.from_residual.result c.from_residual.ensures.1 in
    subst (TaskOf old new task) (sym (p.1 ∙ ap (λ e. Err e) p.2))
    (first_refused old new task (record { name = c.args.rules.now; kind = Rules }) (record { name = c.args.source.now; kind = Source } ∷ record { name = c.args.logs.now; kind = Logs } ∷ [])
    c.in_err-list.field-0.0 refl c.in_err-list.ensures.answer)

pub returns-in_err-module-clause-answer : goal.returns-in_err-module-clause-answer
returns-in_err-module-clause-answer g c =
    let old = g.F.Files.state c.args.files.now in
    let mid = g.F.Files.state c.read_rule_file.new.files in
    let new = g.F.Files.state c.read_module_file.new.files in
    let task = Optimise c.args.rules.now c.args.source.now (Some c.args.logs.now) c.args.options in
    let p = err_from_is_err_and c.from_residual-in_err-module.result c.from_residual-in_err-module.ensures.1 in
    subst (TaskOf old new task) (sym (p.1 ∙ ap (λ e. Err e) p.2))
    (second_refused old mid new task (record { name = c.args.rules.now; kind = Rules }) (record { name = c.args.source.now; kind = Source }) (record { name = c.args.logs.now; kind = Logs } ∷ [])
    c.in_err-module.field-0.0 refl c.read_rule_file.ensures.follow (has_rules old mid c.args.rules.now c.in_ok-list.list.items c.in_ok-list.ensures.answer) c.in_err-module.ensures.answer)

pub returns-in_err-stored-clause-answer : goal.returns-in_err-stored-clause-answer
returns-in_err-stored-clause-answer g c =
    let old = g.F.Files.state c.args.files.now in
    let mid = g.F.Files.state c.read_rule_file.new.files in
    let late = g.F.Files.state c.read_module_file.new.files in
    let new = g.F.Files.state c.read_logs_file.new.files in
    let task = Optimise c.args.rules.now c.args.source.now (Some c.args.logs.now) c.args.options in
    let read = are_read old mid late c.args.rules.now c.args.source.now c.in_ok-list.list.items c.in_ok-module.«module»
    c.read_rule_file.ensures.follow c.read_module_file.ensures.follow c.in_ok-list.ensures.answer c.in_ok-module.ensures.answer in
    let p = err_from_is_err_and c.from_residual-in_err-stored.result c.from_residual-in_err-stored.ensures.1 in
    subst (TaskOf old new task) (sym (p.1 ∙ ap (λ e. Err e) p.2))
    (logs_refused old late new c.args.rules.now c.args.source.now c.args.logs.now c.args.options c.in_ok-list.list.items c.in_ok-module.«module» read
    c.in_err-stored.field-0.0 (rw c.as_slice.ensures.value at c.in_err-stored.ensures.answer))

pub returns-in_err-optimised-clause-answer : goal.returns-in_err-optimised-clause-answer
returns-in_err-optimised-clause-answer g c =
    let old = g.F.Files.state c.args.files.now in
    let mid = g.F.Files.state c.read_rule_file.new.files in
    let late = g.F.Files.state c.read_module_file.new.files in
    let new = g.F.Files.state c.read_logs_file.new.files in
    let read = are_read old mid late c.args.rules.now c.args.source.now c.in_ok-list.list.items c.in_ok-module.«module»
    c.read_rule_file.ensures.follow c.read_module_file.ensures.follow c.in_ok-list.ensures.answer c.in_ok-module.ensures.answer in
    let p = err_from_is_err_and c.from_residual-in_err-optimised.result c.from_residual-in_err-optimised.ensures.1 in
    subst (TaskOf old new (Optimise c.args.rules.now c.args.source.now (Some c.args.logs.now) c.args.options)) (sym (p.1 ∙ ap (λ e. Err e) p.2))
    (no_memory old late new c.args.rules.now c.args.source.now c.args.logs.now c.args.options c.in_ok-list.list.items c.in_ok-module.«module» read (inr c.in_ok-stored.ensures.answer.asks))

pub returns-clause-answer : goal.returns-clause-answer
returns-clause-answer g c =
    let old = g.F.Files.state c.args.files.now in
    let mid = g.F.Files.state c.read_rule_file.new.files in
    let late = g.F.Files.state c.read_module_file.new.files in
    let new = g.F.Files.state c.read_logs_file.new.files in
    let read = are_read old mid late c.args.rules.now c.args.source.now c.in_ok-list.list.items c.in_ok-module.«module»
    c.read_rule_file.ensures.follow c.read_module_file.ensures.follow c.in_ok-list.ensures.answer c.in_ok-module.ensures.answer in
    let prints = rw c.as_slice-2.ensures.value at (c.in_ok-optimised.ensures.prints read.bytes read.is_module.source) in
    by_logs_done old late new c.args.rules.now c.args.source.now c.args.logs.now c.args.options c.in_ok-list.list.items c.in_ok-module.«module» read _ c.in_ok-stored.stored
    (rw c.as_slice.ensures.value at c.in_ok-stored.ensures.answer) c.in_ok-optimised.ensures.unrefuted (record { report = _; has_report = refl; prints = (read.is_module.limit, prints); no_proofs = search rules; status = refl })

pub returns-in_err-module-clause-follow : goal.returns-in_err-module-clause-follow
returns-in_err-module-clause-follow g c = follow_on _ _ _ c.read_rule_file.ensures.follow c.read_module_file.ensures.follow

pub returns-in_err-stored-clause-follow : goal.returns-in_err-stored-clause-follow
returns-in_err-stored-clause-follow g c = follow_on _ _ _ c.read_rule_file.ensures.follow (follow_on _ _ _ c.read_module_file.ensures.follow c.read_logs_file.ensures.follow)

pub returns-in_err-optimised-clause-follow : goal.returns-in_err-optimised-clause-follow
returns-in_err-optimised-clause-follow g c = follow_on _ _ _ c.read_rule_file.ensures.follow (follow_on _ _ _ c.read_module_file.ensures.follow c.read_logs_file.ensures.follow)

pub returns-clause-follow : goal.returns-clause-follow
returns-clause-follow g c = follow_on _ _ _ c.read_rule_file.ensures.follow (follow_on _ _ _ c.read_module_file.ensures.follow c.read_logs_file.ensures.follow)

pub read_logs_file-requires-clause-ready : goal.read_logs_file-requires-clause-ready
read_logs_file-requires-clause-ready g c = rw (c.as_slice.ensures.value) c.in_ok-list.ensures.ready

pub optimise_module-requires-clause-ready : goal.optimise_module-requires-clause-ready
optimise_module-requires-clause-ready g c = rw (c.as_slice-2.ensures.value) c.in_ok-list.ensures.ready
