use Rattle.rule_core.proofs.laws.valid_rules_have_no_counterexample.Goals as goal

pub returns : goal.returns
returns c = λ rule typing valid setting choices source target shows. shows.refused (valid setting choices source target shows.counts shows.effects)
