use Rattle.rule_typing.proofs.Common.{sym, refl, add-zero, arith, Statement, classes_of_statement, numbered_statement}
use Rattle.rule_typing.proofs.NumberedLists.{length_so_far, has_room, one_numbered, all_numbered}
use Rattle.rule_typing.proofs.relabelling.number_statements.Goals as goal

pub loop-place-init : goal.loop-place-init
loop-place-init c = record { written = refl; next = sym (add-zero c.args.first) }

pub get_mut-statement-requires : goal.get_mut-statement-requires
get_mut-statement-requires c = omega (arith, length_so_far Statement classes_of_statement numbered_statement c.args.first c.loop-place.place c.loop-place.next c.args.statements.now c.loop-place.statements c.loop-place.invariant)

pub number_statement-next-requires : goal.number_statement-next-requires
number_statement-next-requires c =
    omega (arith, has_room Statement classes_of_statement numbered_statement c.args.first c.loop-place.place c.loop-place.next c.args.statements.now c.loop-place.statements c.get_mut-statement.result.now c.loop-place.invariant (omega arith) c.get_mut-statement.ensures.value, c.requires)

pub loop-place-preserved : goal.loop-place-preserved
loop-place-preserved c =
    one_numbered Statement classes_of_statement numbered_statement c.args.first c.loop-place.place c.loop-place.next c.number_statement-next.result c.args.statements.now c.loop-place.statements c.get_mut-statement.result.now c.number_statement-next.new.statement c.loop-place.invariant (omega arith)
    c.get_mut-statement.ensures.value c.number_statement-next.ensures.numbered c.number_statement-next.ensures.behind

pub returns-clause-numbered : goal.returns-clause-numbered
returns-clause-numbered c = all_numbered Statement classes_of_statement numbered_statement c.args.first c.loop-place.place c.loop-place.next c.args.statements.now c.loop-place.statements c.loop-place.invariant (omega (arith, c.len-place-end.ensures))
