use Rattle.readers.proofs.Common.{◌-◌, arith}
use Rattle.readers.proofs.Counting.{contains_operand, forgotten_register, counted_other, times_named}
use Rattle.readers.proofs.uses.forget_operand.Goals as goal

pub overflow_sub-count : goal.overflow_sub-count
overflow_sub-count c =
    let one = times_named c.in-Register.register c.args.operand c.in-Register.is in
    let counted = c.requires.counted c.in-Register.register in
    omega arith

pub set_count-requires : goal.set_count-requires
set_count-requires c = c.requires.there c.in-Register.register (contains_operand c.args.operand c.in-Register.register c.in-Register.is)

pub returns : goal.returns
returns c =
    let one = times_named c.in-Register.register c.args.operand c.in-Register.is in
    let counted = c.requires.counted c.in-Register.register in
    forgotten_register c.args.uses.now c.set_count.new.uses c.in-Register.register c.args.operand (c.uses_of-count.result - 1) c.in-Register.is (omega arith) c.set_count.ensures

pub returns-in_default : goal.returns-in_default
returns-in_default c = counted_other c.args.uses.now c.args.operand c.in_default.not-Register
