use Rattle.ir_reader.proofs.Common.{◌∙◌}
use Rattle.ir_reader.proofs.Repeats.{function_mark, function_names}
use Rattle.ir_reader.proofs.repeated.is_repeated.Goals as goal

pub returns-in_ok-insert-in-Function-clause-mark : goal.returns-in_ok-insert-in-Function-clause-mark
returns-in_ok-insert-in-Function-clause-mark c =
    function_mark c.args.entry.now c.in-Function.raw c.args.names.now.keys c.insert.new.self.keys c.in_ok-name-in-Function.name c.in-Function.is (c.in_ok-name-in-Function.ensures.items ∙ c.as_slice.ensures) c.in_ok-insert-in-Function.field-0 c.in_ok-insert-in-Function.ensures.added

pub returns-in_ok-insert-in-Function-clause-names : goal.returns-in_ok-insert-in-Function-clause-names
returns-in_ok-insert-in-Function-clause-names c =
    function_names c.args.entry.now c.in-Function.raw c.args.names.now.keys c.insert.new.self.keys c.in_ok-name-in-Function.name c.in-Function.is (c.in_ok-name-in-Function.ensures.items ∙ c.as_slice.ensures) c.in_ok-insert-in-Function.ensures.keys
