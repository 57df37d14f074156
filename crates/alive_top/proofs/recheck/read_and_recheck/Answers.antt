use Rattle.alive_top.proofs.Common.{IsRechecked, MisfitsRules}
use Rattle.alive_top.specs.File.{Logs}
use Rattle.alive_top.proofs.Files.{file_from_text}
use Rattle.alive_top.proofs.recheck.read_and_recheck.Goals as goal

pub returns-clause-answer : goal.returns-clause-answer
returns-clause-answer g c =
    let files = g.F.Files.state in
    file_from_text (files c.args.files.now) (files c.read.new.files) (record { name = c.args.name.now; kind = Logs }) c.in_ok-bytes.bytes.items
    (λ text. IsRechecked c.args.rules.now text c.args.options.conflicts) (λ text. MisfitsRules c.args.rules.now text) c.rechecked.result
    c.in_ok-bytes.ensures.answer.0 c.in_ok-bytes.ensures.answer.1 (rw (← c.as_slice.ensures.value) c.rechecked.ensures)
