use Rattle.rule_reader.proofs.Unbound.{inside_source, alone_target}
use Rattle.rule_reader.proofs.undefs.undef_inside.Goals as goal

pub returns-in-Some : goal.returns-in-Some
returns-in-Some c = inside_source c.args.rule.now c.requires c.as_slice.result.now c.in-Some.line c.as_slice.ensures c.in-Some.ensures

pub returns-in-None : goal.returns-in-None
returns-in-None c = alone_target c.args.rule.now c.requires c.as_slice.result.now c.as_slice-in-None.result.now c.undef_alone.result c.as_slice.ensures c.as_slice-in-None.ensures c.in-None.ensures c.undef_alone.ensures
