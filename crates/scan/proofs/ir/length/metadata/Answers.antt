use Rattle.scan.proofs.Common.{◌<◌, length, arith, prefix_len, is_name_byte, is_metadata, list_all}
use Rattle.scan.proofs.Fronts.{marked_fits}
use Rattle.scan.proofs.ModuleFronts.{behind_fails, behind_any}
use Rattle.scan.proofs.ir.length.metadata.Goals as goal

pub overflow_add-result : goal.overflow_add-result
overflow_add-result c =
    let fits : prefix_len is_name_byte c.in-Some.name.now < length c.args.text.now = marked_fits 33 is_name_byte c.args.text.now c.in-Some.name.now c.in-Some.ensures.some in
    omega (arith, c.name_run.ensures.value)

pub returns-in-Some : goal.returns-in-Some
unfolding is_metadata
returns-in-Some c = behind_any 33 is_name_byte c.args.text.now c.in-Some.name.now c.name_run.result c.in-Some.ensures.some c.name_run.ensures.value

pub returns-in-None : goal.returns-in-None
unfolding is_metadata
returns-in-None c = behind_fails 33 (list_all is_name_byte) c.args.text.now c.in-None.ensures.none
