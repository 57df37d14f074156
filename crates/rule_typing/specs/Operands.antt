-- The operands of an operation, from the array that holds them.
use Rattle.std.specs.Prelude.{List, take}
use Rattle.rule_core.specs.declared.rule.Operand.{Operand}
use Rattle.rule_typing.specs.declared.operands.Operands.{Operands}

-- the first `count` of those that are held
abbrev pub listed : Operands → List Operand
listed operands = take operands.count operands.held
