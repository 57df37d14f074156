use Rattle.readers.proofs.Common.{◌≡◌, ◌+◌, arith, count_of}
use Rattle.readers.proofs.Counting.{contains_operand, counted_other, counted_register}
use Rattle.readers.proofs.uses.count_operand.Goals as goal

pub set_count-requires : goal.set_count-requires
set_count-requires c = c.requires c.in-Register.register (contains_operand c.args.operand c.in-Register.register c.in-Register.is)

pub returns : goal.returns
returns c =
    let used = c.uses_of-used.ensures.number in
    let more = c.in_ok-count.ensures in
    let one : c.in_ok-count.count ≡ count_of c.args.uses.now c.in-Register.register + 1 = omega arith in
    counted_register c.args.uses.now c.set_count.new.uses c.in-Register.register c.args.operand c.in_ok-count.count c.in-Register.is one c.set_count.ensures

pub returns-in_default : goal.returns-in_default
returns-in_default c = counted_other c.args.uses.now c.args.operand c.in_default.not-Register
