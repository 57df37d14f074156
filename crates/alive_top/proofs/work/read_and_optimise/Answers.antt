use Rattle.alive_top.proofs.Common.{Source, IsPrinted, Fits}
use Rattle.alive_top.proofs.Files.{file_from_text}
use Rattle.alive_top.proofs.work.read_and_optimise.Goals as goal

pub returns-clause-answer : goal.returns-clause-answer
returns-clause-answer g c =
    let files = g.F.Files.state in
    file_from_text (files c.args.files.now) (files c.read.new.files) (record { name = c.args.name.now; kind = Source }) c.in_ok-bytes.bytes.items
    (λ text o. IsPrinted c.args.rules.now c.args.options text o.out.items o.report.items o.table) (λ _. Fits) c.optimised.result
    c.in_ok-bytes.ensures.answer.0 c.in_ok-bytes.ensures.answer.1 (rw (← c.as_slice.ensures.value) c.optimised.ensures)
