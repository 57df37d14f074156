-- What the tables of kept instructions stand for.
use Rattle.std.specs.Prelude.{List, length, All}
use Rattle.ir_core.specs.declared.operand.Operand.{Operand}
use Rattle.needed.specs.declared.kept.Kept.{Kept}
use Rattle.needed.specs.KeptFunction.{KeptMarks}
use Rattle.needed.specs.InstNumbers.{IsNumbered, marks_by}

-- which instructions are kept, by block and place
abbrev pub marks_of : Kept → KeptMarks
marks_of kept = marks_by kept.firsts.items kept.marks.items

-- if the operand is the result of an instruction, the tables have an entry for that
abbrev pub HasPlace : Kept → Operand → Type 0
HasPlace kept operand = IsNumbered kept.firsts.items (length kept.marks.items) operand

-- so they have for each of these operands
abbrev pub HavePlaces : Kept → List Operand → Type 0
HavePlaces kept operands = All (HasPlace kept) operands
