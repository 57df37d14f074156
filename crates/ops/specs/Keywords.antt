-- The keywords of binary operations, casts, predicates and intrinsics (LLVM Language Reference, "Instruction
-- Reference", "Intrinsic Functions").
use Rattle.std.specs.Prelude.{ℕ, List, [], ◌∷◌, find, Option, codes}
use Rattle.std.specs.Str.{bytes_eq}
use Rattle.ops.specs.declared.opcode.Opcode.{Opcode}
use Rattle.ops.specs.declared.opcode.Opcode.TheVariants.{Add, Sub, Mul, UDiv, SDiv, URem, SRem, Shl, LShr, AShr, And, Or, Xor, UMin, UMax, SMin, SMax}
use Rattle.ops.specs.declared.opcode.Unary.{Unary}
use Rattle.ops.specs.declared.opcode.Unary.TheVariants.{Abs, CtPop, CtLz, CtTz}
use Rattle.ops.specs.declared.comparison.Pred.{Pred}
use Rattle.ops.specs.declared.comparison.Pred.TheVariants.{Eq, Ne, Ugt, Uge, Ult, Ule, Sgt, Sge, Slt, Sle}
use Rattle.ops.specs.declared.conversion.Cast.{Cast}
use Rattle.ops.specs.declared.conversion.Cast.TheVariants.{Trunc, ZExt, SExt}

abbrev pub opcode_keyword : Opcode → List ℕ
opcode_keyword Add = codes "add"
opcode_keyword Sub = codes "sub"
opcode_keyword Mul = codes "mul"
opcode_keyword UDiv = codes "udiv"
opcode_keyword SDiv = codes "sdiv"
opcode_keyword URem = codes "urem"
opcode_keyword SRem = codes "srem"
opcode_keyword Shl = codes "shl"
opcode_keyword LShr = codes "lshr"
opcode_keyword AShr = codes "ashr"
opcode_keyword And = codes "and"
opcode_keyword Or = codes "or"
opcode_keyword Xor = codes "xor"
opcode_keyword UMin = codes "umin"
opcode_keyword UMax = codes "umax"
opcode_keyword SMin = codes "smin"
opcode_keyword SMax = codes "smax"

abbrev pub unary_keyword : Unary → List ℕ
unary_keyword Abs = codes "abs"
unary_keyword CtPop = codes "ctpop"
unary_keyword CtLz = codes "ctlz"
unary_keyword CtTz = codes "cttz"

abbrev pub cast_keyword : Cast → List ℕ
cast_keyword Trunc = codes "trunc"
cast_keyword ZExt = codes "zext"
cast_keyword SExt = codes "sext"

abbrev pub predicate_keyword : Pred → List ℕ
predicate_keyword Eq = codes "eq"
predicate_keyword Ne = codes "ne"
predicate_keyword Ugt = codes "ugt"
predicate_keyword Uge = codes "uge"
predicate_keyword Ult = codes "ult"
predicate_keyword Ule = codes "ule"
predicate_keyword Sgt = codes "sgt"
predicate_keyword Sge = codes "sge"
predicate_keyword Slt = codes "slt"
predicate_keyword Sle = codes "sle"

abbrev pub predicates : List Pred
predicates = Eq ∷ Ne ∷ Ugt ∷ Uge ∷ Ult ∷ Ule ∷ Sgt ∷ Sge ∷ Slt ∷ Sle ∷ []

-- the predicate that a keyword spells
unfoldable pub pred_in : List ℕ → Option Pred
pred_in word = find (λ pred. bytes_eq word (predicate_keyword pred)) predicates
