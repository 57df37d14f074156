use Rattle.command_line.proofs.Common.{List, [], subst, IfOk-weaker, AddsInTurn, AddsArg, Arg}
use Rattle.command_line.proofs.Described.{rules_in_turn}
use Rattle.command_line.proofs.definition.described_command.Goals as goal

pub returns : goal.returns
returns c =
    IfOk-weaker c.args-2.result _ _ (λ r adds.
    rules_in_turn c.args.described.now.arguments.now c.in_ok-arguments.arguments c.args.described.now.name.now [] c.new_command.result r c.new_command.ensures c.in_ok-arguments.ensures
    (subst (λ (added : List Arg). AddsInTurn AddsArg c.new_command.result added r) c.into_vec.ensures adds))
    c.args-2.ensures
