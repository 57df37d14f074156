use Rattle.ir_reader.proofs.Common.{◌≡◌, ◌<◌, ◌∙◌, length, false, sym, arith, length-map, err_from_is_err_and, seen, seen_placed, is_end}
use Rattle.ir_reader.proofs.Advancing.{left_none, left_fault, left_smaller}
use Rattle.ir_reader.proofs.GoingOn.{left_step}
use Rattle.ir_reader.proofs.reader.last_entries.Goals as goal

pub loop-left-init : goal.loop-left-init
loop-left-init c = λ text front h. (front, h, λ is. is)

pub loop-left-preserved : goal.loop-left-preserved
loop-left-preserved c =
    let (entry, read, more) = c.in_ok-push_next.ensures.ok in
    left_step (seen c.args.tokens.now) (seen c.loop-left.left.now) (seen c.push_next.new.tokens.now) entry c.args.reading.now c.loop-left.reading c.push_next.new.reading
    read c.loop-left.invariant more

pub loop-left-smaller : goal.loop-left-smaller
loop-left-smaller c =
    let left = c.loop-left.left.now in
    let rest = c.push_next.new.tokens.now in
    let none : is_end (seen left) ≡ false = sym c.ends.ensures ∙ c.loop-left-test.true in
    let (entry, read, more) = c.in_ok-push_next.ensures.ok in
    let less : length (seen rest) < length (seen left) = left_smaller (seen left) (seen rest) entry none read in
    omega (arith, less, length-map left seen_placed, length-map rest seen_placed)

pub returns-clause-ok : goal.returns-clause-ok
returns-clause-ok c = λ text front h r.
    let (now, has_left, is) = c.loop-left.invariant text front h in
    (now, left_none text now (seen c.loop-left.left.now) has_left (sym c.ends.ensures ∙ c.loop-left-test.false), is r)

pub returns-in_err-push_next-clause-refused : goal.returns-in_err-push_next-clause-refused
returns-in_err-push_next-clause-refused c =
    let p = err_from_is_err_and c.from_residual.result c.from_residual.ensures.1 in
    let left = seen c.loop-left.left.now in
    let none : is_end left ≡ false = sym c.ends.ensures ∙ c.loop-left-test.true in
    rw (p.1, p.2) (λ text front h within.
    let (now, has_left, is) = c.loop-left.invariant text front h in
    left_fault text now left has_left c.in_err-push_next.field-0.0 none c.in_err-push_next.ensures.refused within)
