use Rattle.ir_reader.proofs.Common.{refl}
use Rattle.ir_core.specs.declared.module.Entry.TheVariants as entries
use Rattle.ir_reader.proofs.ReadEntries.{function_entry}
use Rattle.ir_reader.proofs.reader.entry.Goals as goal

pub returns-in_ok-function-in-Function-clause-ok : goal.returns-in_ok-function-in-Function-clause-ok
returns-in_ok-function-in-Function-clause-ok c =
    let f = c.in_ok-function-in-Function.field-0 in
    function_entry c.args.written.now c.in-Function.raw (entries.Function f) f c.args.is_repeated c.in-Function.is refl c.in_ok-function-in-Function.ensures.ok
