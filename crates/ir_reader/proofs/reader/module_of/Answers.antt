use Rattle.ir_reader.proofs.Common.{◌≤◌, length, refl, arith, err_from_is_err_and, most_bytes, too_long, of_text, of_entries}
use Rattle.ir_reader.proofs.ReadEntries.{text_fault}
use Rattle.ir_reader.proofs.reader.module_of.Goals as goal

pub returns-then-bytes-gt-MOST_BYTES-clause-refused : goal.returns-then-bytes-gt-MOST_BYTES-clause-refused
returns-then-bytes-gt-MOST_BYTES-clause-refused c = rw c.refused.ensures (of_text (too_long (omega arith) refl))

pub returns-in_err-push_entries-clause-refused : goal.returns-in_err-push_entries-clause-refused
returns-in_err-push_entries-clause-refused c =
    let p = err_from_is_err_and c.from_residual.result c.from_residual.ensures.1 in
    rw (p.1, p.2) (text_fault c.args.bytes.now c.in_err-push_entries.field-0.0 c.in_err-push_entries.ensures.refused)

pub returns-in_err-module-clause-refused : goal.returns-in_err-module-clause-refused
returns-in_err-module-clause-refused c =
    let p = err_from_is_err_and c.from_residual-in_err-module.result c.from_residual-in_err-module.ensures.1 in
    let (written, is_raw, is) = c.in_ok-push_entries.ensures.ok in
    let within : length c.args.bytes.now ≤ most_bytes = omega arith in
    rw (p.1, p.2) (of_entries (record { entries = written }) within is_raw (c.in_err-module.ensures.refused written is))

pub returns-clause-ok : goal.returns-clause-ok
returns-clause-ok c =
    let (written, is_raw, is) = c.in_ok-push_entries.ensures.ok in
    record { raw = record { entries = written }; is_raw = is_raw; entries = c.in_ok-module.ensures.ok written is }
