use Rattle.ir_reader.proofs.Common.{functions_of, HasText}
use Rattle.ir_reader.proofs.GoingOn.{entries_more, fault_more, marks_entry, names_more}
use Rattle.ir_reader.proofs.reading.push_entry.Goals as goal

pub returns-in_ok-push-in-Ok-clause-none : goal.returns-in_ok-push-in-Ok-clause-none
returns-in_ok-push-in-Ok-clause-none c = λ front is.
    let e = c.args.written.now in
    let old = HasText c.args.names.now in
    let new = HasText c.is_repeated.new.names in
    let marks = marks_entry front e old new is.1 c.in_ok-is_repeated.is_repeated c.in_ok-is_repeated.ensures.mark in (
      entries_more front e c.in-Ok.entry c.args.entries.now c.push.new.self is.0 (c.in-Ok.ensures.ok (functions_of front) marks) c.in_ok-push-in-Ok.ensures.ok,
      names_more front e old new is.1 c.in_ok-is_repeated.ensures.names,
    )

pub returns-in-Err-Refused-clause-some : goal.returns-in-Err-Refused-clause-some
returns-in-Err-Refused-clause-some c = λ front is.
    let e = c.args.written.now in
    let old = HasText c.args.names.now in
    let new = HasText c.is_repeated.new.names in
    let marks = marks_entry front e old new is.1 c.in_ok-is_repeated.is_repeated c.in_ok-is_repeated.ensures.mark in
    let told = rw c.in-Err-Refused.field-0-is at c.in-Err-Refused.ensures.refused in
    fault_more front e c.args.entries.now c.in-Err-Refused.fault is.0 (told (functions_of front) marks)
