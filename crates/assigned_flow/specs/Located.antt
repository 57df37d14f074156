-- Reads without their widths.
use Rattle.std.specs.Prelude.{ℕ}
use Rattle.ir_core.specs.declared.operand.Operand.{Operand}
use Rattle.ir_core.specs.Reads as reads
use Rattle.assigned_flow.specs.declared.read.Read.{Read}

-- the read's operand, and where it is read
abbrev pub located : reads.Read → Read
located r = record { operand = r.operand; block = r.block; place = r.place }

-- an operand read at place k of block b
abbrev pub here : ℕ → ℕ → Operand → Read
here b k a = record { operand = a; block = b; place = k }
