use Rattle.alive_top.proofs.Common.{List, ℕ, map, IsRun, Source, MisfitsRun}
use Rattle.alive_top.proofs.Files.{file_from_text}
use Rattle.alive_top.proofs.work.read_and_run.Goals as goal

pub returns-clause-answer : goal.returns-clause-answer
returns-clause-answer g c =
    let files = g.F.Files.state in
    let arguments : List (List ℕ) = map (λ argument. argument.now) c.args.arguments.now in
    file_from_text (files c.args.files.now) (files c.read.new.files) (record { name = c.args.source.now; kind = Source }) c.in_ok-bytes.bytes.items
    (λ text line. IsRun text c.args.name.now arguments c.args.blocks line.items) (λ text. MisfitsRun text c.args.name.now arguments) c.run_of.result
    c.in_ok-bytes.ensures.answer.0 c.in_ok-bytes.ensures.answer.1 (rw (← c.as_slice.ensures.value) c.run_of.ensures)
