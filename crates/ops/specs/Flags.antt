-- The flags that an instruction may be written with (LLVM Language Reference, "Instruction Reference").
use Rattle.std.specs.Prelude.{◌≡◌, Bool, true, false, ◌&&◌}
use Rattle.ops.specs.declared.opcode.Opcode.{Opcode}
use Rattle.ops.specs.declared.opcode.Opcode.TheVariants.{Add, Sub, Mul, UDiv, SDiv, URem, SRem, Shl, LShr, AShr, And, Or, Xor, UMin, UMax, SMin, SMax}
use Rattle.ops.specs.declared.opcode.Flags.{Flags}
use Rattle.ops.specs.declared.conversion.Cast.{Cast}
use Rattle.ops.specs.declared.conversion.Cast.TheVariants.{Trunc, ZExt, SExt}

-- the sets of flags: none, those that rule out a wrap, and each of the others alone
abbrev pub no_flags : Flags
no_flags = record { nuw = false; nsw = false; exact = false; nneg = false; disjoint = false; samesign = false }

abbrev pub wrap_flags : Flags
wrap_flags = record no_flags { nuw = true; nsw = true }

abbrev pub exact_flag : Flags
exact_flag = record no_flags { exact = true }

abbrev pub nneg_flag : Flags
nneg_flag = record no_flags { nneg = true }

abbrev pub disjoint_flag : Flags
disjoint_flag = record no_flags { disjoint = true }

abbrev pub samesign_flag : Flags
samesign_flag = record no_flags { samesign = true }

-- the flags that a binary operation takes
abbrev pub flags_of : Opcode → Flags
flags_of Add = wrap_flags
flags_of Sub = wrap_flags
flags_of Mul = wrap_flags
flags_of UDiv = exact_flag
flags_of SDiv = exact_flag
flags_of URem = no_flags
flags_of SRem = no_flags
flags_of Shl = wrap_flags
flags_of LShr = exact_flag
flags_of AShr = exact_flag
flags_of And = no_flags
flags_of Or = disjoint_flag
flags_of Xor = no_flags
flags_of UMin = no_flags
flags_of UMax = no_flags
flags_of SMin = no_flags
flags_of SMax = no_flags

-- those that a cast takes
abbrev pub flags_of_cast : Cast → Flags
flags_of_cast Trunc = wrap_flags
flags_of_cast ZExt = nneg_flag
flags_of_cast SExt = no_flags

-- those that `icmp` takes, and those that it has where it is written with `samesign` or without
abbrev pub flags_of_icmp : Flags
flags_of_icmp = samesign_flag

abbrev pub icmp_flags : Bool → Flags
icmp_flags samesign = record no_flags { samesign = samesign }

-- the flags that both sets have
abbrev pub common : Flags → Flags → Flags
common f g = record {
  nuw = f.nuw && g.nuw;
  nsw = f.nsw && g.nsw;
  exact = f.exact && g.exact;
  nneg = f.nneg && g.nneg;
  disjoint = f.disjoint && g.disjoint;
  samesign = f.samesign && g.samesign;
}

-- the second set has each flag of the first
abbrev pub AreWithin : Flags → Flags → Type 0
AreWithin f g = common f g ≡ f

-- a binary operation may be written with these flags, and a cast may
abbrev pub FlagsFit : Opcode → Flags → Type 0
FlagsFit op flags = AreWithin flags (flags_of op)

abbrev pub CastFlagsFit : Cast → Flags → Type 0
CastFlagsFit cast flags = AreWithin flags (flags_of_cast cast)
