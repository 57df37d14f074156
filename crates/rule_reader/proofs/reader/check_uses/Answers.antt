-- Check by check: those that have passed, and the fault of the one that fails.
use Rattle.rule_reader.proofs.Common.{subst, UnusedTempAt, Unbound, RootMissing, UnusedTemp, UndefInside, WitnessCount, IsFirstLine}
use Rattle.rule_reader.specs.Faults.{Redefines}
use Rattle.rule_reader.proofs.Checking.{clear_2, clear_3, clear_4, clear_5, clear_6, clear_7, fault_at}
use Rattle.rule_reader.proofs.reader.check_uses.Goals as goal

pub returns-in-Some-clause-refused : goal.returns-in-Some-clause-refused
returns-in-Some-clause-refused c = λ earlier clear. fault_at earlier c.args.raw.now Unbound c.in-Some.line clear c.in-Some.ensures

pub returns-in-Some-root_missing-clause-refused : goal.returns-in-Some-root_missing-clause-refused
returns-in-Some-root_missing-clause-refused c = λ earlier clear.
    let raw = c.args.raw.now in
    fault_at earlier raw RootMissing c.in-Some-root_missing.line (clear_2 earlier raw clear c.in_default.ensures) c.in-Some-root_missing.ensures

pub returns-in-Some-redefined-clause-refused : goal.returns-in-Some-redefined-clause-refused
returns-in-Some-redefined-clause-refused c = λ earlier clear.
    let raw = c.args.raw.now in
    fault_at earlier raw Redefines c.in-Some-redefined.line
    (clear_3 earlier raw (clear_2 earlier raw clear c.in_default.ensures) c.in_default-root_missing.ensures) c.in-Some-redefined.ensures

pub returns-in-Some-unused-clause-refused : goal.returns-in-Some-unused-clause-refused
returns-in-Some-unused-clause-refused c = λ earlier clear.
    let raw = c.args.raw.now in
    fault_at earlier raw UnusedTemp c.in-Some-unused.line
    (clear_4 earlier raw (clear_3 earlier raw (clear_2 earlier raw clear c.in_default.ensures) c.in_default-root_missing.ensures) c.in_default-redefined.ensures)
    (subst (λ ss. IsFirstLine (UnusedTempAt ss) c.in-Some-unused.line) c.as_slice-2.ensures c.in-Some-unused.ensures)

pub returns-in-Some-undef_inside-clause-refused : goal.returns-in-Some-undef_inside-clause-refused
returns-in-Some-undef_inside-clause-refused c = λ earlier clear.
    let raw = c.args.raw.now in
    fault_at earlier raw UndefInside c.in-Some-undef_inside.line
    (clear_5 earlier raw (clear_4 earlier raw (clear_3 earlier raw (clear_2 earlier raw clear c.in_default.ensures) c.in_default-root_missing.ensures) c.in_default-redefined.ensures)
    c.as_slice-2.result.now c.as_slice-2.ensures c.in_default-unused.ensures)
    c.in-Some-undef_inside.ensures

pub returns-in-Some-witness_count-clause-refused : goal.returns-in-Some-witness_count-clause-refused
returns-in-Some-witness_count-clause-refused c = λ earlier clear.
    let raw = c.args.raw.now in
    fault_at earlier raw WitnessCount c.in-Some-witness_count.line
    (clear_6 earlier raw (clear_5 earlier raw (clear_4 earlier raw (clear_3 earlier raw (clear_2 earlier raw clear c.in_default.ensures) c.in_default-root_missing.ensures) c.in_default-redefined.ensures)
    c.as_slice-2.result.now c.as_slice-2.ensures c.in_default-unused.ensures) c.in_default-undef_inside.ensures)
    c.in-Some-witness_count.ensures

pub returns-clause-ok : goal.returns-clause-ok
returns-clause-ok c = λ earlier clear.
    let raw = c.args.raw.now in
    clear_7 earlier raw (clear_6 earlier raw (clear_5 earlier raw (clear_4 earlier raw (clear_3 earlier raw (clear_2 earlier raw clear c.in_default.ensures) c.in_default-root_missing.ensures) c.in_default-redefined.ensures)
    c.as_slice-2.result.now c.as_slice-2.ensures c.in_default-unused.ensures) c.in_default-undef_inside.ensures) c.in_default-witness_count.ensures
