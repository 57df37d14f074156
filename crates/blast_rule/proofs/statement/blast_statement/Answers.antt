use Rattle.blast_rule.proofs.Common.{sym, ap, operands_of, instruction_of}
use Rattle.blast_rule.proofs.statement.blast_statement.Goals as goal

pub blast_instruction-requires-clause-instruction : goal.blast_instruction-requires-clause-instruction
blast_instruction-requires-clause-instruction g c = ap instruction_of c.in-Binary.is

pub blast_instruction-requires-clause-operands : goal.blast_instruction-requires-clause-operands
blast_instruction-requires-clause-operands g c = sym (ap operands_of c.in-Binary.is)

pub blast_instruction-requires-clause-ready : goal.blast_instruction-requires-clause-ready
blast_instruction-requires-clause-ready g c = c.requires.ready

pub blast_instruction-requires-clause-own : goal.blast_instruction-requires-clause-own
blast_instruction-requires-clause-own g c = c.requires.own

pub returns-in-Binary-clause-gives : goal.returns-in-Binary-clause-gives
returns-in-Binary-clause-gives g c = c.blast_instruction.ensures.gives

pub returns-in-Binary-clause-width : goal.returns-in-Binary-clause-width
returns-in-Binary-clause-width g c = c.blast_instruction.ensures.width

pub returns-in-Binary-clause-own : goal.returns-in-Binary-clause-own
returns-in-Binary-clause-own g c = c.blast_instruction.ensures.own

pub returns-in-Binary-clause-adds : goal.returns-in-Binary-clause-adds
returns-in-Binary-clause-adds g c = c.blast_instruction.ensures.adds

pub blast_instruction-requires-in-Compare-clause-instruction : goal.blast_instruction-requires-in-Compare-clause-instruction
blast_instruction-requires-in-Compare-clause-instruction g c = ap instruction_of c.in-Compare.is

pub blast_instruction-requires-in-Compare-clause-operands : goal.blast_instruction-requires-in-Compare-clause-operands
blast_instruction-requires-in-Compare-clause-operands g c = sym (ap operands_of c.in-Compare.is)

pub blast_instruction-requires-in-Compare-clause-ready : goal.blast_instruction-requires-in-Compare-clause-ready
blast_instruction-requires-in-Compare-clause-ready g c = c.requires.ready

pub blast_instruction-requires-in-Compare-clause-own : goal.blast_instruction-requires-in-Compare-clause-own
blast_instruction-requires-in-Compare-clause-own g c = c.requires.own

pub returns-in-Compare-clause-gives : goal.returns-in-Compare-clause-gives
returns-in-Compare-clause-gives g c = c.blast_instruction-in-Compare.ensures.gives

pub returns-in-Compare-clause-width : goal.returns-in-Compare-clause-width
returns-in-Compare-clause-width g c = c.blast_instruction-in-Compare.ensures.width

pub returns-in-Compare-clause-own : goal.returns-in-Compare-clause-own
returns-in-Compare-clause-own g c = c.blast_instruction-in-Compare.ensures.own

pub returns-in-Compare-clause-adds : goal.returns-in-Compare-clause-adds
returns-in-Compare-clause-adds g c = c.blast_instruction-in-Compare.ensures.adds

pub blast_instruction-requires-in-Unary-clause-instruction : goal.blast_instruction-requires-in-Unary-clause-instruction
blast_instruction-requires-in-Unary-clause-instruction g c = ap instruction_of c.in-Unary.is

pub blast_instruction-requires-in-Unary-clause-operands : goal.blast_instruction-requires-in-Unary-clause-operands
blast_instruction-requires-in-Unary-clause-operands g c = sym (ap operands_of c.in-Unary.is)

pub blast_instruction-requires-in-Unary-clause-ready : goal.blast_instruction-requires-in-Unary-clause-ready
blast_instruction-requires-in-Unary-clause-ready g c = c.requires.ready

pub blast_instruction-requires-in-Unary-clause-own : goal.blast_instruction-requires-in-Unary-clause-own
blast_instruction-requires-in-Unary-clause-own g c = c.requires.own

pub returns-in-Unary-clause-gives : goal.returns-in-Unary-clause-gives
returns-in-Unary-clause-gives g c = c.blast_instruction-in-Unary.ensures.gives

pub returns-in-Unary-clause-width : goal.returns-in-Unary-clause-width
returns-in-Unary-clause-width g c = c.blast_instruction-in-Unary.ensures.width

pub returns-in-Unary-clause-own : goal.returns-in-Unary-clause-own
returns-in-Unary-clause-own g c = c.blast_instruction-in-Unary.ensures.own

pub returns-in-Unary-clause-adds : goal.returns-in-Unary-clause-adds
returns-in-Unary-clause-adds g c = c.blast_instruction-in-Unary.ensures.adds

pub blast_instruction-requires-in-Select-clause-instruction : goal.blast_instruction-requires-in-Select-clause-instruction
blast_instruction-requires-in-Select-clause-instruction g c = ap instruction_of c.in-Select.is

pub blast_instruction-requires-in-Select-clause-operands : goal.blast_instruction-requires-in-Select-clause-operands
blast_instruction-requires-in-Select-clause-operands g c = sym (ap operands_of c.in-Select.is)

pub blast_instruction-requires-in-Select-clause-ready : goal.blast_instruction-requires-in-Select-clause-ready
blast_instruction-requires-in-Select-clause-ready g c = c.requires.ready

pub blast_instruction-requires-in-Select-clause-own : goal.blast_instruction-requires-in-Select-clause-own
blast_instruction-requires-in-Select-clause-own g c = c.requires.own

pub returns-in-Select-clause-gives : goal.returns-in-Select-clause-gives
returns-in-Select-clause-gives g c = c.blast_instruction-in-Select.ensures.gives

pub returns-in-Select-clause-width : goal.returns-in-Select-clause-width
returns-in-Select-clause-width g c = c.blast_instruction-in-Select.ensures.width

pub returns-in-Select-clause-own : goal.returns-in-Select-clause-own
returns-in-Select-clause-own g c = c.blast_instruction-in-Select.ensures.own

pub returns-in-Select-clause-adds : goal.returns-in-Select-clause-adds
returns-in-Select-clause-adds g c = c.blast_instruction-in-Select.ensures.adds

pub blast_instruction-requires-in-Convert-clause-instruction : goal.blast_instruction-requires-in-Convert-clause-instruction
blast_instruction-requires-in-Convert-clause-instruction g c = ap instruction_of c.in-Convert.is

pub blast_instruction-requires-in-Convert-clause-operands : goal.blast_instruction-requires-in-Convert-clause-operands
blast_instruction-requires-in-Convert-clause-operands g c = sym (ap operands_of c.in-Convert.is)

pub blast_instruction-requires-in-Convert-clause-ready : goal.blast_instruction-requires-in-Convert-clause-ready
blast_instruction-requires-in-Convert-clause-ready g c = c.requires.ready

pub blast_instruction-requires-in-Convert-clause-own : goal.blast_instruction-requires-in-Convert-clause-own
blast_instruction-requires-in-Convert-clause-own g c = c.requires.own

pub returns-in-Convert-clause-gives : goal.returns-in-Convert-clause-gives
returns-in-Convert-clause-gives g c = c.blast_instruction-in-Convert.ensures.gives

pub returns-in-Convert-clause-width : goal.returns-in-Convert-clause-width
returns-in-Convert-clause-width g c = c.blast_instruction-in-Convert.ensures.width

pub returns-in-Convert-clause-own : goal.returns-in-Convert-clause-own
returns-in-Convert-clause-own g c = c.blast_instruction-in-Convert.ensures.own

pub returns-in-Convert-clause-adds : goal.returns-in-Convert-clause-adds
returns-in-Convert-clause-adds g c = c.blast_instruction-in-Convert.ensures.adds

pub blast_freeze-requires-clause-freeze : goal.blast_freeze-requires-clause-freeze
blast_freeze-requires-clause-freeze g c = c.in-Freeze.is

pub blast_freeze-requires-clause-ready : goal.blast_freeze-requires-clause-ready
blast_freeze-requires-clause-ready g c = c.requires.ready

pub blast_freeze-requires-clause-own : goal.blast_freeze-requires-clause-own
blast_freeze-requires-clause-own g c = c.requires.own

pub blast_copy-requires-clause-copy : goal.blast_copy-requires-clause-copy
blast_copy-requires-clause-copy g c = c.in-Copy.is

pub blast_copy-requires-clause-ready : goal.blast_copy-requires-clause-ready
blast_copy-requires-clause-ready g c = c.requires.ready

pub blast_copy-requires-clause-own : goal.blast_copy-requires-clause-own
blast_copy-requires-clause-own g c = c.requires.own

pub returns-in-Freeze-clause-gives : goal.returns-in-Freeze-clause-gives
returns-in-Freeze-clause-gives g c = c.blast_freeze.ensures.gives

pub returns-in-Freeze-clause-width : goal.returns-in-Freeze-clause-width
returns-in-Freeze-clause-width g c = c.blast_freeze.ensures.width

pub returns-in-Freeze-clause-own : goal.returns-in-Freeze-clause-own
returns-in-Freeze-clause-own g c = c.blast_freeze.ensures.own

pub returns-in-Freeze-clause-adds : goal.returns-in-Freeze-clause-adds
returns-in-Freeze-clause-adds g c = c.blast_freeze.ensures.adds

pub returns-in-Copy-clause-gives : goal.returns-in-Copy-clause-gives
returns-in-Copy-clause-gives g c = c.blast_copy.ensures.gives

pub returns-in-Copy-clause-width : goal.returns-in-Copy-clause-width
returns-in-Copy-clause-width g c = c.blast_copy.ensures.width

pub returns-in-Copy-clause-own : goal.returns-in-Copy-clause-own
returns-in-Copy-clause-own g c = c.blast_copy.ensures.own
