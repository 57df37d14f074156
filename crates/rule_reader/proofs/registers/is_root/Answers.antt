use Rattle.rule_reader.proofs.Common.{◌-◌, length, arith}
use Rattle.rule_reader.proofs.Looking.{root_is}
use Rattle.rule_reader.proofs.registers.is_root.Goals as goal

pub returns : goal.returns
returns c = root_is c.args.source.now (length c.args.source.now - 1) _ _ c.args.name.now _ (omega arith) c.as_slice.ensures c.eq.ensures
