use Rattle.alive_top.proofs.Common.{refl, sym, subst, task_of, EndsWith, seen_work}
use Rattle.alive_top.proofs.Endings.{refused_ends, written_ends, written_worked}
use Rattle.alive_top.proofs.top.run.Goals as goal

pub returns-in-Ok-clause-ends : goal.returns-in-Ok-clause-ends
returns-in-Ok-clause-ends g c =
    written_ends (task_of c.args.command) (g.F.Files.state c.args.files.now) (g.F.Files.state c.perform.new.files)
    (g.O.Sink.state c.args.out.now) (g.O.Sink.state c.write-status.new.out) (g.E.Sink.state c.args.err.now) (g.E.Sink.state c.write-status.new.err)
    (record { status = c.write-status.result; table = c.in-Ok.work.table; proofs = c.in-Ok.work.proofs }) (seen_work c.in-Ok.work) c.write-status.result c.in-Ok.ensures.answer (refl, refl) c.write-status.ensures.answer

pub returns-in-Ok-clause-untouched : goal.returns-in-Ok-clause-untouched
returns-in-Ok-clause-untouched g c = λ stays. absurd (stays
    (written_worked (task_of c.args.command) (g.F.Files.state c.args.files.now) (g.F.Files.state c.perform.new.files)
    (g.O.Sink.state c.args.out.now) (g.O.Sink.state c.write-status.new.out) (g.E.Sink.state c.args.err.now) (g.E.Sink.state c.write-status.new.err)
    (record { status = c.write-status.result; table = c.in-Ok.work.table; proofs = c.in-Ok.work.proofs }) (seen_work c.in-Ok.work) c.write-status.result c.in-Ok.ensures.answer c.write-status.ensures.answer))

pub returns-in-Err-clause-ends : goal.returns-in-Err-clause-ends
returns-in-Err-clause-ends g c =
    let files = g.F.Files.state in
    let out = g.O.Sink.state c.args.out.now in
    let err = g.E.Sink.state in
    subst (EndsWith (task_of c.args.command) (files c.args.files.now) (files c.perform.new.files) out out (err c.args.err.now) (err c.refuse.new.err) c.ended.result) (sym c.ended.ensures.status)
    (refused_ends (task_of c.args.command) (files c.args.files.now) (files c.perform.new.files) out out (err c.args.err.now) (err c.refuse.new.err) c.ended.result
    c.in-Err.refusal c.refuse.result c.in-Err.ensures.answer refl (c.ended.ensures.none, c.ended.ensures.no_proofs) c.refuse.ensures.answer)
