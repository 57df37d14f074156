use Rattle.alive_top.proofs.Common.{MisfitsRules, AreStored}
use Rattle.alive_top.specs.File.{Logs}
use Rattle.alive_top.proofs.Files.{file_from_text}
use Rattle.alive_top.proofs.by_logs.read_logs_file.Goals as goal

pub returns-clause-answer : goal.returns-clause-answer
returns-clause-answer g c =
    let files = g.F.Files.state in
    file_from_text (files c.args.files.now) (files c.read.new.files) (record { name = c.args.name.now; kind = Logs }) c.in_ok-bytes.bytes.items
    (AreStored c.args.rules.now) (MisfitsRules c.args.rules.now) c.logs_of.result
    c.in_ok-bytes.ensures.answer.0 c.in_ok-bytes.ensures.answer.1 (rw (← c.as_slice.ensures.value) c.logs_of.ensures)
