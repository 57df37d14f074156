use Rattle.rule_reader.proofs.Unbound.{in_precondition, in_witness, in_source, in_target}
use Rattle.rule_reader.proofs.bound.unbound.Goals as goal

pub returns-in-Some : goal.returns-in-Some
returns-in-Some c = in_precondition c.args.rule.now c.requires.rule c.in-Some.line c.in-Some.ensures

pub returns-in-Some-unbound_witness : goal.returns-in-Some-unbound_witness
returns-in-Some-unbound_witness c = in_witness c.args.rule.now c.requires.rule c.in-Some-unbound_witness.line c.in_default.ensures c.in-Some-unbound_witness.ensures

pub returns-in-Some-unbound_statement : goal.returns-in-Some-unbound_statement
returns-in-Some-unbound_statement c = in_source c.args.rule.now c.requires.rule c.in-Some-unbound_statement.line c.in_default.ensures c.in_default-unbound_witness.ensures c.in-Some-unbound_statement.ensures

pub returns-in-None : goal.returns-in-None
returns-in-None c = in_target c.args.rule.now c.requires.rule c.unbound_statement-in-None.result c.in_default.ensures c.in_default-unbound_witness.ensures c.in-None.ensures c.unbound_statement-in-None.ensures
