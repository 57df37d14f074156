use Rattle.rule_reader.proofs.InputLemmas.{few_inputs}
use Rattle.rule_reader.proofs.Found.{found_in_source}
use Rattle.rule_reader.proofs.resolve.in_source.Goals as goal

pub input-requires : goal.input-requires
input-requires c = few_inputs c.args.rule.now.source c.args.names.now c.requires.names c.requires.rule.source.few

pub returns-in-None : goal.returns-in-None
returns-in-None c =
    found_in_source c.args.rule.now c.args.names.now c.requires.names c.args.name.now c.args.place c.as_slice.result.now c.input.result
    c.as_slice.ensures c.in-None.ensures.none c.input.ensures
