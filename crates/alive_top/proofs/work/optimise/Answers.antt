use Rattle.alive_top.proofs.Common.{rules, [], ◌∷◌, None, Err, refl, sym, subst, ap, ◌∙◌, err_from_is_err_and, TaskOf, Source, Optimise}
use Rattle.alive_top.specs.File.{Rules}
use Rattle.alive_top.proofs.Files.{first_refused, second_refused, optimise_done, follow_on, has_rules}
use Rattle.alive_top.proofs.work.optimise.Goals as goal

pub returns-in_err-list-clause-answer : goal.returns-in_err-list-clause-answer
returns-in_err-list-clause-answer g c =
    let old = g.F.Files.state c.args.files.now in
    let new = g.F.Files.state c.read_rule_file.new.files in
    let task = Optimise c.args.rules.now c.args.source.now None c.args.options in
    let p = err_from_is_err_and c.from_residual.result c.from_residual.ensures.1 in
    subst (TaskOf old new task) (sym (p.1 ∙ ap (λ e. Err e) p.2))
    (first_refused old new task (record { name = c.args.rules.now; kind = Rules }) (record { name = c.args.source.now; kind = Source } ∷ []) c.in_err-list.field-0.0 refl c.in_err-list.ensures.answer)

pub returns-in_err-optimised-clause-answer : goal.returns-in_err-optimised-clause-answer
returns-in_err-optimised-clause-answer g c =
    let old = g.F.Files.state c.args.files.now in
    let mid = g.F.Files.state c.read_rule_file.new.files in
    let new = g.F.Files.state c.read_and_optimise.new.files in
    let task = Optimise c.args.rules.now c.args.source.now None c.args.options in
    let p = err_from_is_err_and c.from_residual-in_err-optimised.result c.from_residual-in_err-optimised.ensures.1 in
    subst (TaskOf old new task) (sym (p.1 ∙ ap (λ e. Err e) p.2))
    (second_refused old mid new task (record { name = c.args.rules.now; kind = Rules }) (record { name = c.args.source.now; kind = Source }) [] c.in_err-optimised.field-0.0 refl
    c.read_rule_file.ensures.follow (has_rules old mid c.args.rules.now c.in_ok-list.list.items c.in_ok-list.ensures.answer) c.in_err-optimised.ensures.answer)

pub returns-clause-answer : goal.returns-clause-answer
returns-clause-answer g c =
    let read = rw c.as_slice.ensures.value at c.in_ok-optimised.ensures.answer in
    optimise_done (g.F.Files.state c.args.files.now) (g.F.Files.state c.read_rule_file.new.files) (g.F.Files.state c.read_and_optimise.new.files) c.args.rules.now c.args.source.now c.args.options
    c.in_ok-list.list.items _ c.read_rule_file.ensures.follow c.in_ok-list.ensures.answer read (record { report = _; has_report = refl; prints = read.holds; no_proofs = search rules; status = refl })

pub returns-clause-follow : goal.returns-clause-follow
returns-clause-follow g c = follow_on _ _ _ c.read_rule_file.ensures.follow c.read_and_optimise.ensures.follow

pub returns-in_err-optimised-clause-follow : goal.returns-in_err-optimised-clause-follow
returns-in_err-optimised-clause-follow g c = follow_on _ _ _ c.read_rule_file.ensures.follow c.read_and_optimise.ensures.follow

pub read_and_optimise-requires-clause-ready : goal.read_and_optimise-requires-clause-ready
read_and_optimise-requires-clause-ready g c = rw (c.as_slice.ensures.value) c.in_ok-list.ensures.ready
