use Rattle.rule_core.proofs.Common.{◌++◌, length, length-append, ap, arith, flat_map, classes_of_statement, classes_of_term, terms_in}
use Rattle.rule_core.proofs.Members.{get-append_left, get_behind, classes_apart}
use Rattle.rule_core.proofs.typing.class_at.Goals as goal

pub returns-in-Ok : goal.returns-in-Ok
returns-in-Ok c =
    let rule = c.args.rule.now in
    rw (classes_apart rule)
    (get-append_left (flat_map classes_of_statement rule.source) (flat_map classes_of_statement rule.target ++ flat_map classes_of_term (terms_in rule)) c.args.position c.in-Ok.class
    (rw c.as_slice.ensures at c.in-Ok.ensures))

pub class_behind_source-requires : goal.class_behind_source-requires
class_behind_source-requires c =
    let rule = c.args.rule.now in
    let behind = rw c.as_slice.ensures at c.in-Err.ensures in
    omega (
      arith,
      behind,
      ap length (classes_apart rule),
      length-append (flat_map classes_of_statement rule.source) (flat_map classes_of_statement rule.target ++ flat_map classes_of_term (terms_in rule)),
    )

pub returns-in-Err : goal.returns-in-Err
returns-in-Err c =
    let rule = c.args.rule.now in
    rw (classes_apart rule)
    (get_behind (flat_map classes_of_statement rule.source) (flat_map classes_of_statement rule.target ++ flat_map classes_of_term (terms_in rule)) c.args.position c.in-Err.rest c.class_behind_source.result
    (rw c.as_slice.ensures at c.in-Err.ensures) c.class_behind_source.ensures)
