use Rattle.command_line.proofs.Common.{ap, sym, ◌∙◌, is_some, option_map, ParsesUnsigned, ExplainsUnsignedError, HasUnsignedDigitsIfOk, found_of, number_said}
use Rattle.command_line.proofs.NumberLemmas.{number_read}
use Rattle.command_line.proofs.read.number_of.Goals as goal

pub unwrap-requires : goal.unwrap-requires
unwrap-requires c = ap is_some (number_read _ (λ bs r. ParsesUnsigned 32 10 bs r × ExplainsUnsignedError 10 bs r × HasUnsignedDigitsIfOk bs r)
    (found_of c.args.found.now) c.args.argument.now c.get_one.result c.get_one.ensures.value (λ t r g. g.0) c.requires)

pub returns : goal.returns
returns c =
    let read = number_read _ (λ bs r. ParsesUnsigned 32 10 bs r × ExplainsUnsignedError 10 bs r × HasUnsignedDigitsIfOk bs r)
    (found_of c.args.found.now) c.args.argument.now c.get_one.result c.get_one.ensures.value (λ t r g. g.0) c.requires in
    ap (option_map number_said) c.requires.1 ∙ (sym read ∙ c.unwrap.ensures)
