-- The truth values of intrinsics: the `i1` argument that says whether one operand gives poison (LLVM Language
-- Reference, "Standard C/C++ Library Intrinsics", "Bit Manipulation Intrinsics").
use Rattle.std.specs.Prelude.{◌≡◌, Bool, true, false, ◌&&◌}
use Rattle.ops.specs.declared.opcode.Unary.{Unary}
use Rattle.ops.specs.declared.opcode.Unary.TheVariants.{Abs, CtPop, CtLz, CtTz}

-- the intrinsic has a truth value beside its operand
abbrev pub has_truth : Unary → Bool
has_truth Abs = true
has_truth CtPop = false
has_truth CtLz = true
has_truth CtTz = true

-- the intrinsic may have this truth value: for one that takes none it is false
abbrev pub TruthFits : Unary → Bool → Type 0
TruthFits op truth = (truth && has_truth op) ≡ truth
