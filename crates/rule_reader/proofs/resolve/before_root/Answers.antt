use Rattle.rule_reader.proofs.InputLemmas.{few_inputs}
use Rattle.rule_reader.proofs.Found.{found_before_root, found_temporary}
use Rattle.rule_reader.proofs.resolve.before_root.Goals as goal

pub input-requires : goal.input-requires
input-requires c = few_inputs c.args.rule.now.source c.args.names.now c.requires.names c.requires.rule.source.few

pub returns-in-Some : goal.returns-in-Some
returns-in-Some c =
    found_temporary c.args.rule.now c.args.names.now c.requires.names c.args.name.now c.as_slice-source.result.now c.in-Some.temporary
    c.as_slice-source.ensures c.in-Some.ensures.before c.in-Some.ensures.some

pub returns-in-None : goal.returns-in-None
returns-in-None c =
    found_before_root c.args.rule.now c.args.names.now c.requires.names c.args.name.now c.as_slice-source.result.now c.input.result
    c.as_slice-source.ensures c.in-None.ensures.none c.input.ensures
