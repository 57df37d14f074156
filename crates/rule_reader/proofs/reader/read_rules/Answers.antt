use Rattle.rule_reader.proofs.Common.{subst, sym, arith, take, err_from_is_err_and, IfRefused, IsFault, too_long}
use Rattle.rule_reader.proofs.Places.{read_at}
use Rattle.rule_reader.proofs.Written.{written_well_formed}
use Rattle.rule_reader.proofs.Reading.{first_rules_more, all_rules, all_are_rules, all_are_classified, all_have_no_fault, names_are_distinct, text_fault, rule_fault, mark_at}
use Rattle.rule_reader.proofs.reader.read_rules.Goals as goal

pub returns-then-bytes-gt-MOST_BYTES-clause-refused :
    goal.returns-then-bytes-gt-MOST_BYTES-clause-refused
returns-then-bytes-gt-MOST_BYTES-clause-refused c = subst (λ e. IfRefused e (IsFault c.args.bytes.now)) (sym c.refused.ensures) (too_long c.if-bytes-gt-MOST_BYTES.true)

pub returns-in_err-raws-clause-refused : goal.returns-in_err-raws-clause-refused
returns-in_err-raws-clause-refused c =
    let p = err_from_is_err_and c.from_residual.result c.from_residual.ensures.1 in
    rw (p.1, p.2) (text_fault c.args.bytes.now c.in_err-raws.field-0.0 (omega arith) c.in_err-raws.ensures.refused)

pub checked-requires : goal.checked-requires
checked-requires c =
    written_well_formed c.args.bytes.now c.in_ok-raws.raws.items c.in_ok-raws.ensures.ok c.loop-place.place c.index.result.now
    (read_at c.in_ok-raws.raws.items c.loop-place.place c.index.result.now (omega arith) c.index.ensures)

pub returns-in_err-checked-clause-refused : goal.returns-in_err-checked-clause-refused
returns-in_err-checked-clause-refused c =
    let raws = c.in_ok-raws.raws.items in
    let place = c.loop-place.place in
    let raw = c.index.result.now in
    let mark = c.index-in-loop-place.result.now in
    let at = read_at raws place raw (omega arith) c.index.ensures in
    let marks = mark_at raws c.deref.result.now c.in_ok-repeated.repeated.items place raw mark c.deref.ensures.value c.in_ok-repeated.ensures at (read_at c.in_ok-repeated.repeated.items place mark (omega (arith, c.in_ok-repeated.ensures.count)) c.index-in-loop-place.ensures) in
    let p = err_from_is_err_and c.from_residual-in_err-checked.result c.from_residual-in_err-checked.ensures.1 in
    rw (p.1, p.2) (rule_fault c.args.bytes.now raws place raw c.loop-place.rules.items mark c.in_err-checked.field-0.0 (omega arith) c.in_ok-raws.ensures.ok c.loop-place.invariant at marks c.in_err-checked.ensures.refused)

pub loop-place-preserved : goal.loop-place-preserved
loop-place-preserved c =
    let raws = c.in_ok-raws.raws.items in
    let place = c.loop-place.place in
    let raw = c.index.result.now in
    let mark = c.index-in-loop-place.result.now in
    let at = read_at raws place raw (omega arith) c.index.ensures in
    let marks = mark_at raws c.deref.result.now c.in_ok-repeated.repeated.items place raw mark c.deref.ensures.value c.in_ok-repeated.ensures at (read_at c.in_ok-repeated.repeated.items place mark (omega (arith, c.in_ok-repeated.ensures.count)) c.index-in-loop-place.ensures) in
    first_rules_more raws place raw c.in_ok-checked.field-0 c.loop-place.rules.items c.push.new.self.items c.loop-place.invariant at c.in_ok-push.ensures.items (c.in_ok-checked.ensures.ok (take place raws) marks)

pub returns-clause-rules : goal.returns-clause-rules
returns-clause-rules c =
    let raws = c.in_ok-raws.raws.items in
    all_are_rules raws c.loop-place.rules.items (written_well_formed c.args.bytes.now raws c.in_ok-raws.ensures.ok) (all_rules raws c.loop-place.place c.loop-place.rules.items (omega arith) c.loop-place.invariant)

pub returns-clause-classes : goal.returns-clause-classes
returns-clause-classes c =
    let raws = c.in_ok-raws.raws.items in
    all_are_classified raws c.loop-place.rules.items (written_well_formed c.args.bytes.now raws c.in_ok-raws.ensures.ok) (all_rules raws c.loop-place.place c.loop-place.rules.items (omega arith) c.loop-place.invariant)

pub returns-clause-typed : goal.returns-clause-typed
returns-clause-typed c =
    let raws = c.in_ok-raws.raws.items in
    all_have_no_fault raws c.loop-place.rules.items (written_well_formed c.args.bytes.now raws c.in_ok-raws.ensures.ok) (all_rules raws c.loop-place.place c.loop-place.rules.items (omega arith) c.loop-place.invariant)

pub returns-clause-names : goal.returns-clause-names
returns-clause-names c =
    let raws = c.in_ok-raws.raws.items in
    names_are_distinct raws c.loop-place.rules.items (written_well_formed c.args.bytes.now raws c.in_ok-raws.ensures.ok) (all_rules raws c.loop-place.place c.loop-place.rules.items (omega arith) c.loop-place.invariant)

pub returns-clause-ok : goal.returns-clause-ok
returns-clause-ok c =
    let raws = c.in_ok-raws.raws.items in
    record { raws = raws; written = c.in_ok-raws.ensures.ok; read = all_rules raws c.loop-place.place c.loop-place.rules.items (omega arith) c.loop-place.invariant }
