use Rattle.alive_top.proofs.Common.{Source, Fits}
use Rattle.run_text.specs.Runs.{IsReadAs}
use Rattle.alive_top.proofs.Files.{file_from_text}
use Rattle.alive_top.proofs.by_logs.read_module_file.Goals as goal

pub returns-clause-answer : goal.returns-clause-answer
returns-clause-answer g c =
    let files = g.F.Files.state in
    file_from_text (files c.args.files.now) (files c.read.new.files) (record { name = c.args.name.now; kind = Source }) c.in_ok-bytes.bytes.items IsReadAs (λ _. Fits) c.module_of.result
    c.in_ok-bytes.ensures.answer.0 c.in_ok-bytes.ensures.answer.1 (rw (← c.as_slice.ensures.value) c.module_of.ensures.text)
