use Rattle.rule_typing.proofs.lines.split_by_op.Goals as goal

pub returns-in-Binary : goal.returns-in-Binary
returns-in-Binary c = rw c.in-Binary.is c.split_by_two.ensures

pub returns-in-Compare : goal.returns-in-Compare
returns-in-Compare c = rw c.in-Compare.is c.split_pair.ensures

pub returns-in-Unary : goal.returns-in-Unary
returns-in-Unary c = rw c.in-Unary.is c.split_pair-in-Unary.ensures

pub returns-in-Select : goal.returns-in-Select
returns-in-Select c = rw c.in-Select.is c.split_by_two-in-Select.ensures

pub returns-in-Freeze : goal.returns-in-Freeze
returns-in-Freeze c = rw c.in-Freeze.is c.split_pair-in-Freeze.ensures

pub returns-in-Copy : goal.returns-in-Copy
returns-in-Copy c = rw c.in-Copy.is c.split_pair-in-Copy.ensures
