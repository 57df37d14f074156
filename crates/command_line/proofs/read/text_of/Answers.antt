use Rattle.command_line.proofs.Common.{ap, sym, ◌∙◌, option_map, found_of, some_of_text, first_value-rows}
use Rattle.command_line.proofs.read.text_of.Goals as goal

pub unwrap-requires : goal.unwrap-requires
unwrap-requires c = some_of_text (λ s. s.now) c.get_str.result _ (c.get_str.ensures ∙ first_value-rows (found_of c.args.found.now) c.args.argument.now) c.requires

pub returns : goal.returns
returns c = sym (c.get_str.ensures ∙ first_value-rows (found_of c.args.found.now) c.args.argument.now) ∙ ap (option_map (λ s. s.now)) c.unwrap.ensures
