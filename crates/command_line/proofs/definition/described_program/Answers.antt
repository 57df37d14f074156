use Rattle.command_line.proofs.Common.{List, fold, subst, ap, ◌∙◌, IfOk-weaker, AddsInTurn, AddsSubcommand}
use Rattle.clap.specs.Words.{App}
use Rattle.clap.specs.declared.builder.Command.{Command}
use Rattle.command_line.proofs.Described.{with_described, subs_in_turn}
use Rattle.command_line.proofs.definition.described_program.Goals as goal

pub returns : goal.returns
returns c =
    let described = c.args.described.now in
    IfOk-weaker c.subcommands.result _ _ (λ r adds.
    subs_in_turn described c.in_ok-commands.commands c.program_alone.result r c.in_ok-commands.ensures
    (subst (λ (added : List Command). AddsInTurn AddsSubcommand c.program_alone.result added r) c.into_vec.ensures adds)
    ∙ ap (λ (app : App). fold with_described app described) c.program_alone.ensures)
    c.subcommands.ensures
