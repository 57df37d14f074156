-- The lines on the error stream that say why a command failed.
use Rattle.std.specs.Prelude.{ℕ, List, ◌++◌, codes, decimal}
use Rattle.ir_reader.specs.Identifier.{Identifier}
use Rattle.ir_reader.specs.Identifier.TheVariants.{Named, Numbered}
use Rattle.ir_printer.specs.NameText.{name_text}
use Rattle.proof_text.specs.declared.fault.LogFaultKind.{LogFaultKind}
use Rattle.proof_text.specs.declared.fault.LogFaultKind.TheVariants as logs
use Rattle.refusal.specs.declared.fault.Fault.{Fault}
use Rattle.ir_reader.specs.IrFaultKind.{IrFaultKind}
use Rattle.ir_reader.specs.IrFaultKind.TheVariants as ir
use Rattle.rule_reader.specs.RuleFaultKind.{RuleFaultKind}
use Rattle.rule_reader.specs.RuleFaultKind.TheVariants.{TooLong, BadByte, Syntax, LeftOut, TooMany, Duplicate, Unbound, RootMissing, Redefines, UnusedTemp, UndefInside, WitnessCount, NoType, OpenType}

-- the name of a kind of fault of a rule file, with what was left out
unfoldable pub kind_text : RuleFaultKind → List ℕ
kind_text TooLong = codes "TooLong"
kind_text BadByte = codes "BadByte"
kind_text Syntax = codes "Syntax"
kind_text (LeftOut word) = codes "LeftOut " ++ word
kind_text TooMany = codes "TooMany"
kind_text Duplicate = codes "Duplicate"
kind_text Unbound = codes "Unbound"
kind_text RootMissing = codes "RootMissing"
kind_text Redefines = codes "Redefines"
kind_text UnusedTemp = codes "UnusedTemp"
kind_text UndefInside = codes "UndefInside"
kind_text WitnessCount = codes "WitnessCount"
kind_text NoType = codes "NoType"
kind_text OpenType = codes "OpenType"

-- the line on a rule file: the line and the kind of its first fault
abbrev pub rules_line : Fault RuleFaultKind → List ℕ
rules_line fault = codes "rules: line " ++ decimal fault.line ++ codes ": " ++ kind_text fault.kind ++ codes "\n"

-- a register as it is printed, by its name or its number
unfoldable pub register_text : Identifier → List ℕ
register_text (Named name) = codes "%" ++ name_text name
register_text (Numbered n) = codes "%" ++ decimal n

-- the name of a kind of fault of a module, with what was left out, or which register isn't assigned in which block
unfoldable pub ir_kind_text : IrFaultKind → List ℕ
ir_kind_text ir.TooLong = codes "TooLong"
ir_kind_text ir.BadByte = codes "BadByte"
ir_kind_text ir.Syntax = codes "Syntax"
ir_kind_text (ir.LeftOut word) = codes "LeftOut " ++ word
ir_kind_text ir.Width = codes "Width"
ir_kind_text ir.ConstRange = codes "ConstRange"
ir_kind_text ir.Numbering = codes "Numbering"
ir_kind_text ir.Duplicate = codes "Duplicate"
ir_kind_text ir.Unknown = codes "Unknown"
ir_kind_text ir.TypeClash = codes "TypeClash"
ir_kind_text ir.BadPhi = codes "BadPhi"
ir_kind_text ir.EntryPred = codes "EntryPred"
ir_kind_text (ir.Unassigned register block) = codes "Unassigned " ++ register_text register ++ codes " in block " ++ decimal block

-- the line on a module: the line and the kind of its first fault
abbrev pub module_line : Fault IrFaultKind → List ℕ
module_line fault = codes "module: line " ++ decimal fault.line ++ codes ": " ++ ir_kind_text fault.kind ++ codes "\n"

-- the name of a kind of fault of a text of proofs
unfoldable pub log_kind_text : LogFaultKind → List ℕ
log_kind_text logs.TooLong = codes "TooLong"
log_kind_text logs.BadByte = codes "BadByte"
log_kind_text logs.Syntax = codes "Syntax"
log_kind_text logs.UnknownRule = codes "UnknownRule"
log_kind_text logs.BadTyping = codes "BadTyping"
log_kind_text logs.Repeated = codes "Repeated"

-- the line on a text of proofs: the line and the kind of its first fault
abbrev pub logs_line : Fault LogFaultKind → List ℕ
logs_line fault = codes "logs: line " ++ decimal fault.line ++ codes ": " ++ log_kind_text fault.kind ++ codes "\n"

-- the line that names a file that could not be read
abbrev pub read_fault_line : List ℕ → List ℕ
read_fault_line name = codes "read fault: " ++ name ++ codes "\n"

-- the line on a missing function, or on arguments that do not fit it
abbrev pub argument_line : List ℕ
argument_line = codes "argument refused\n"

-- the line on want of memory
abbrev pub memory_line : List ℕ
memory_line = codes "want of memory\n"
