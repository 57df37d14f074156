use Rattle.command_line.proofs.Common.{sym, ◌∙◌, found_of, first_value-rows}
use Rattle.command_line.proofs.read.optional_text_of.Goals as goal

pub returns : goal.returns
returns c = sym (c.get_str.ensures ∙ first_value-rows (found_of c.args.found.now) c.args.argument.now)
