-- What has to be defined so that a function can be built: each register that is read and each block that is named.
use Rattle.std.specs.Prelude.{◌≡◌, List, None}
use Rattle.std.specs.List.{AllByRecursion}
use Rattle.ir_tokens.specs.declared.raw.RawIdentifier.{RawIdentifier}
use Rattle.ir_tokens.specs.declared.raw.RawInst.{RawInst}
use Rattle.ir_tokens.specs.declared.raw.RawBlock.{RawBlock}
use Rattle.ir_tokens.specs.declared.raw.RawTerminator.{RawTerminator}
use Rattle.ir_resolve.specs.TypedReads.{Typed, read_by, named_by, read_at_end, named_at_end, cases_of}
use Rattle.ir_resolve.specs.FaultKinds.{IsUnknownValue, IsUnknownBlock, literal_of}
use Rattle.ir_resolve.specs.Views.{Known, CallsIn}

module _ (known : List Known) where
  -- the registers among these operands are defined; so are these blocks
  abbrev pub ReadsAreKnown : List Typed → Type 0
  ReadsAreKnown reads = AllByRecursion (λ t. ¬ IsUnknownValue (CallsIn known) t.operand.value) reads

  abbrev pub TargetsAreKnown : List RawIdentifier → Type 0
  TargetsAreKnown targets = AllByRecursion (λ w. ¬ IsUnknownBlock (CallsIn known) w.identifier) targets

  -- the registers and blocks that an instruction uses are defined
  abbrev pub IsReadyInst : RawInst → Type 0
  IsReadyInst inst = ReadsAreKnown (read_by inst.op) × TargetsAreKnown (named_by inst.op)

  -- so are those of a terminator, and its cases have numbers
  abbrev pub IsReadyEnd : RawTerminator → Type 0
  IsReadyEnd end = ReadsAreKnown (read_at_end end) × TargetsAreKnown (named_at_end end) × AllByRecursion (λ c. ¬ (literal_of c.value.value ≡ None)) (cases_of end)

  -- so are those of a block
  abbrev pub IsReadyBlock : RawBlock → Type 0
  IsReadyBlock block = AllByRecursion IsReadyInst block.insts × IsReadyEnd block.end
