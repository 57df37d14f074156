use Rattle.alive_top.proofs.Common.{Fits}
use Rattle.alive_top.specs.File.{Rules}
use Rattle.load_text.specs.RuleText.{IsRuleText}
use Rattle.alive_top.proofs.Files.{file_from_text}
use Rattle.alive_top.proofs.work.read_rule_file.Goals as goal

pub returns-clause-answer : goal.returns-clause-answer
returns-clause-answer g c =
    let files = g.F.Files.state in
    file_from_text (files c.args.files.now) (files c.read.new.files) (record { name = c.args.name.now; kind = Rules }) c.in_ok-bytes.bytes.items (λ text rules. IsRuleText text rules.items) (λ _. Fits) c.rules_of.result
    c.in_ok-bytes.ensures.answer.0 c.in_ok-bytes.ensures.answer.1 (rw (← c.as_slice.ensures.value) c.rules_of.ensures.text)
