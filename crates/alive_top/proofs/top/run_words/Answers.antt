use Rattle.alive_top.proofs.Common.{refl, map, inr, ◌∙◌, string_bytes, task_of}
use Rattle.alive_top.proofs.Endings.{usage_ends, memory_ends}
use Rattle.alive_top.proofs.top.run_words.Goals as goal

pub returns-in-Ok-clause-ends : goal.returns-in-Ok-clause-ends
returns-in-Ok-clause-ends g c =
    inr (task_of c.in-Ok.command, record { taken = c.in-Ok.ensures.taken; command = c.in-Ok.command; says = c.in-Ok.ensures.says; is = refl }, c.run.ensures.ends)

pub returns-in-Err-Usage-clause-ends : goal.returns-in-Err-Usage-clause-ends
returns-in-Err-Usage-clause-ends g c =
    let state = g.E.Sink.state in
    let is = rw c.in-Err-Usage.field-0-is at c.in-Err-Usage.ensures in
    usage_ends (map string_bytes c.args.words.now) (g.F.Files.state c.args.files.now) (g.O.Sink.state c.args.out.now) (state c.args.err.now) (state c.put_line.new.err)
    c.ended.result c.as_slice.result.now is.usage (λ list taken bad. c.as_slice.ensures.value ∙ is.refusal list taken bad) c.put_line.ensures.took c.ended.ensures.status (c.ended.ensures.none, c.ended.ensures.no_proofs)

pub returns-in-Err-NoMemory-clause-ends : goal.returns-in-Err-NoMemory-clause-ends
returns-in-Err-NoMemory-clause-ends g c =
    let state = g.E.Sink.state in
    memory_ends (map string_bytes c.args.words.now) (g.F.Files.state c.args.files.now) (g.O.Sink.state c.args.out.now) (state c.args.err.now) (state c.put_line-in-Err-NoMemory.new.err)
    c.ended-in-Err-NoMemory.result c.put_line-in-Err-NoMemory.ensures.took c.ended-in-Err-NoMemory.ensures.status (c.ended-in-Err-NoMemory.ensures.none, c.ended-in-Err-NoMemory.ensures.no_proofs)
