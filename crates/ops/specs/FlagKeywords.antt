-- The flags of instructions as they are written (LLVM Language Reference, "Instruction Reference").
use Rattle.std.specs.Prelude.{◌≡◌, ℕ, Bool, true, false, ◌&&◌, IsTrue, List, [], ◌∷◌, find, Option, codes}
use Rattle.std.specs.Str.{bytes_eq}
use Rattle.ops.specs.declared.opcode.Flags.{Flags}
use Rattle.ops.specs.declared.keywords.flag.Flag.{Flag}
use Rattle.ops.specs.declared.keywords.flag.Flag.TheVariants.{Nuw, Nsw, Exact, NNeg, Disjoint, SameSign}

abbrev pub flag_keyword : Flag → List ℕ
flag_keyword Nuw = codes "nuw"
flag_keyword Nsw = codes "nsw"
flag_keyword Exact = codes "exact"
flag_keyword NNeg = codes "nneg"
flag_keyword Disjoint = codes "disjoint"
flag_keyword SameSign = codes "samesign"

-- every flag, in the order in which those of an instruction are written
abbrev pub every_flag : List Flag
every_flag = Nuw ∷ Nsw ∷ Exact ∷ NNeg ∷ Disjoint ∷ SameSign ∷ []

-- flags have this flag
abbrev pub has_flag : Flags → Flag → Bool
has_flag flags Nuw = flags.nuw
has_flag flags Nsw = flags.nsw
has_flag flags Exact = flags.exact
has_flag flags NNeg = flags.nneg
has_flag flags Disjoint = flags.disjoint
has_flag flags SameSign = flags.samesign

-- flags, with this flag added
abbrev pub with_flag : Flags → Flag → Flags
with_flag flags Nuw = record flags { nuw = true }
with_flag flags Nsw = record flags { nsw = true }
with_flag flags Exact = record flags { exact = true }
with_flag flags NNeg = record flags { nneg = true }
with_flag flags Disjoint = record flags { disjoint = true }
with_flag flags SameSign = record flags { samesign = true }

-- the flag that a keyword spells, if it is among those that an instruction takes
unfoldable pub flag_in : Flags → List ℕ → Option Flag
flag_in taken word = find (λ flag. bytes_eq word (flag_keyword flag) && has_flag taken flag) every_flag

-- Reading these flags in order makes the set `before` the set `after`: each is one that the instruction takes, and is
-- not in the set yet.
abbrev pub AddsFlags : Flags → Flags → List Flag → Flags → Type 0
AddsFlags taken before [] after = before ≡ after
AddsFlags taken before (flag ∷ flags) after =
    IsTrue (has_flag taken flag) × (has_flag before flag ≡ false) × AddsFlags taken (with_flag before flag) flags after
