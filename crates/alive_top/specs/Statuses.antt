-- The exit status of each way to end, and which ways there are in certain cases.
use Rattle.std.specs.Prelude.{ℕ}
use Rattle.alive_top.specs.declared.status.Status.{Status}
use Rattle.alive_top.specs.declared.status.Status.TheVariants.{Done, NotAll, Usage, RuleRefused, ModuleRefused, ReadFault, WriteFault, NoMemory, Argument, LogRefused}

-- the exit status of the program
abbrev pub code_of : Status → ℕ
code_of Done = 0
code_of NotAll = 1
code_of Usage = 2
code_of RuleRefused = 3
code_of ModuleRefused = 4
code_of ReadFault = 5
code_of WriteFault = 6
code_of NoMemory = 7
code_of Argument = 8
code_of LogRefused = 9

-- the work was done and written
abbrev pub IsDone : Status → Type 0
IsDone Done = Unit {0}
IsDone NotAll = Unit {0}
IsDone status = ⊥

-- the work was done, and maybe not written whole
abbrev pub IsWorked : Status → Type 0
IsWorked Done = Unit {0}
IsWorked NotAll = Unit {0}
IsWorked WriteFault = Unit {0}
IsWorked status = ⊥

-- the ways to end where the words are no command
abbrev pub IsNoTask : Status → Type 0
IsNoTask Usage = Unit {0}
IsNoTask NoMemory = Unit {0}
IsNoTask status = ⊥

-- the ways to end where a module has no function of the run's name, or the arguments do not fit it
abbrev pub IsNoRun : Status → Type 0
IsNoRun Argument = Unit {0}
IsNoRun ReadFault = Unit {0}
IsNoRun NoMemory = Unit {0}
IsNoRun status = ⊥

-- the ways to end where the proofs have a fault
abbrev pub IsLogRefusal : Status → Type 0
IsLogRefusal LogRefused = Unit {0}
IsLogRefusal ReadFault = Unit {0}
IsLogRefusal NoMemory = Unit {0}
IsLogRefusal status = ⊥

-- the ways to end where nothing is wrong
abbrev pub IsDoneOrNoMemory : Status → Type 0
IsDoneOrNoMemory Done = Unit {0}
IsDoneOrNoMemory NotAll = Unit {0}
IsDoneOrNoMemory NoMemory = Unit {0}
IsDoneOrNoMemory status = ⊥
