use Rattle.rule_reader.proofs.Common.{arith}
use Rattle.rule_reader.proofs.InputLemmas.{no_names, uses_more, all_uses}
use Rattle.rule_reader.proofs.names.names_of.Goals as goal

pub loop-statement-init : goal.loop-statement-init
loop-statement-init c = rw (c.new.ensures, c.new-2.ensures) (no_names c.args.source.now)

pub loop-statement-preserved : goal.loop-statement-preserved
loop-statement-preserved c =
    uses_more c.args.source.now c.loop-statement.statement-index c.statement-item.result c.loop-statement.names _ (omega arith) c.statement-item.is c.loop-statement.invariant
    c.in_ok-add_names.ensures

pub returns : goal.returns
returns c = all_uses c.args.source.now c.loop-statement.statement-index c.loop-statement.names (omega arith) c.loop-statement.invariant
