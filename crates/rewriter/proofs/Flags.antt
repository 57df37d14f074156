-- An instruction with more flags gives the same as with fewer, or poison.
use Rattle.rewriter.proofs.Common.{◌≡◌, ℕ, ℤ, Bool, true, false, cond, not, ◌&&◌, ◌||◌, ap, ◌==◌, ◌^◌, nat_le, bit_and, bit_or, bit_xor, Value, Poison, Bits, Undefined, Gives, Opcode, Add, Sub, Mul, UDiv, SDiv, URem, SRem, Shl, LShr, AShr, And, Or, Xor, UMin, UMax, SMin, SMax, Flags, Pred, Cast, Trunc, ZExt, SExt, AreWithin, icmp_flags, AllowsValue, AllowsEffect, bits, signed, negative, fits_unsigned, fits_signed, residue, arithmetic, exactly, udiv, sdiv, urem, srem, shl, lshr, ashr, or, holds, signs_differ, conversion, converted, breaks_flags, unary, at_number, poison_where_true, instruction, on_numbers, on_poison, AllowsValue-refl, AllowsEffect-refl}
use Rattle.ops.specs.declared.opcode.Unary.{Unary as Intrinsic}
use Rattle.ops.specs.Comparison.{comparison}

-- if the first flag is set, so is the second
abbrev Within : Bool → Bool → Type 0
Within x y = (x && y) ≡ x

-- a flag that is violated gives poison
by_one : (x' x c : Bool) (v : Value) → Within x x' → AllowsValue (cond (x' && c) Poison v) (cond (x && c) Poison v)
by_one true x true v h = tt
by_one true true false v h = AllowsValue-refl v
by_one true false false v h = AllowsValue-refl v
by_one false true c v h = absurd cc
by_one false false c v h = AllowsValue-refl v

-- and so does either of two
by_two : (x' y' x y c d : Bool) (v : Value) → Within x x' → Within y y' → AllowsValue (cond ((x' && c) || (y' && d)) Poison v) (cond ((x && c) || (y && d)) Poison v)
by_two true y' x y true d v p q = tt
by_two true true x y false true v p q = tt
by_two true true true true false false v p q = AllowsValue-refl v
by_two true true true false false false v p q = AllowsValue-refl v
by_two true true false true false false v p q = AllowsValue-refl v
by_two true true false false false false v p q = AllowsValue-refl v
by_two true false x true false d v p q = absurd cc
by_two true false true false false d v p q = AllowsValue-refl v
by_two true false false false false d v p q = AllowsValue-refl v
by_two false y' true y c d v p q = absurd cc
by_two false true false y c true v p q = tt
by_two false true false true c false v p q = AllowsValue-refl v
by_two false true false false c false v p q = AllowsValue-refl v
by_two false false false true c d v p q = absurd cc
by_two false false false false c d v p q = AllowsValue-refl v

undefined_where : (c : Bool) (v w : Value) → AllowsValue v w → AllowsEffect (cond c Undefined (Gives v)) (cond c Undefined (Gives w))
undefined_where true v w h = tt
undefined_where false v w h = h

poison_where : (c : Bool) (v w : Value) → AllowsValue v w → AllowsValue (cond c Poison v) (cond c Poison w)
poison_where true v w h = tt
poison_where false v w h = h

module _ (f g : Flags) (within : AreWithin f g) where
  nuw_within : Within f.nuw g.nuw
  nuw_within = ap (λ (h : Flags). h.nuw) within

  nsw_within : Within f.nsw g.nsw
  nsw_within = ap (λ (h : Flags). h.nsw) within

  exact_within : Within f.exact g.exact
  exact_within = ap (λ (h : Flags). h.exact) within

  nneg_within : Within f.nneg g.nneg
  nneg_within = ap (λ (h : Flags). h.nneg) within

  disjoint_within : Within f.disjoint g.disjoint
  disjoint_within = ap (λ (h : Flags). h.disjoint) within

  arithmetic_allows : (N : ℕ) (u s : ℤ) → AllowsValue (arithmetic g N u s) (arithmetic f N u s)
  unfolding arithmetic
  arithmetic_allows N u s = by_two g.nuw g.nsw f.nuw f.nsw (not (fits_unsigned N u)) (not (fits_signed N s)) (bits N (residue N u)) nuw_within nsw_within

  exactly_allows : (divided : Bool) (v : Value) → AllowsValue (exactly g divided v) (exactly f divided v)
  exactly_allows divided v = by_one g.exact f.exact (not divided) v exact_within

  numbers_allow : (op : Opcode) (N a b : ℕ) → AllowsEffect (on_numbers op g N a b) (on_numbers op f N a b)
  unfolding on_numbers udiv sdiv shl lshr ashr or
  numbers_allow Add N a b = arithmetic_allows N _ _
  numbers_allow Sub N a b = arithmetic_allows N _ _
  numbers_allow Mul N a b = arithmetic_allows N _ _
  numbers_allow UDiv N a b = undefined_where _ _ _ (exactly_allows _ _)
  numbers_allow SDiv N a b = undefined_where _ _ _ (exactly_allows _ _)
  numbers_allow URem N a b = AllowsEffect-refl (urem N a b)
  numbers_allow SRem N a b = AllowsEffect-refl (srem N a b)
  numbers_allow Shl N a b = poison_where _ _ _ (arithmetic_allows N _ _)
  numbers_allow LShr N a b = poison_where _ _ _ (exactly_allows _ _)
  numbers_allow AShr N a b = poison_where _ _ _ (exactly_allows _ _)
  numbers_allow And N a b = AllowsValue-refl (bits N (bit_and a b))
  numbers_allow Or N a b = by_one g.disjoint f.disjoint (not (bit_and a b == 0)) (bits N (bit_or a b)) disjoint_within
  numbers_allow Xor N a b = AllowsValue-refl (bits N (bit_xor a b))
  numbers_allow UMin N a b = AllowsEffect-refl (on_numbers UMin f N a b)
  numbers_allow UMax N a b = AllowsEffect-refl (on_numbers UMax f N a b)
  numbers_allow SMin N a b = AllowsEffect-refl (on_numbers SMin f N a b)
  numbers_allow SMax N a b = AllowsEffect-refl (on_numbers SMax f N a b)

  -- an instruction with more flags allows what it does with fewer
  pub more_flags_allow : (op : Opcode) (N : ℕ) (a b : Value) → AllowsEffect (instruction op g N a b) (instruction op f N a b)
  unfolding instruction
  more_flags_allow op N (Bits a) (Bits b) = numbers_allow op N a.number b.number
  more_flags_allow op N (Bits a) Poison = AllowsEffect-refl (on_poison op N Poison)
  more_flags_allow op N Poison b = AllowsEffect-refl (on_poison op N b)

  -- and so does a cast
  pub more_cast_flags_allow : (cast : Cast) (from to : ℕ) (a : Value) → AllowsValue (conversion cast g from to a) (conversion cast f from to a)
  unfolding conversion breaks_flags
  more_cast_flags_allow Trunc from to (Bits a) =
      by_two g.nuw g.nsw f.nuw f.nsw (nat_le (2 ^ to) a.number) (not (fits_signed to (signed from a.number))) (bits to (converted Trunc from to a.number)) nuw_within nsw_within
  more_cast_flags_allow ZExt from to (Bits a) = by_one g.nneg f.nneg (negative from a.number) (bits to (converted ZExt from to a.number)) nneg_within
  more_cast_flags_allow SExt from to (Bits a) = AllowsValue-refl (bits to (converted SExt from to a.number))
  more_cast_flags_allow cast from to Poison = tt

-- and so does an intrinsic with a true truth value
pub more_truth_allows : (truth truth' : Bool) → Within truth truth' → (op : Intrinsic) (N : ℕ) (a : Value) → AllowsValue (unary op truth' N a) (unary op truth N a)
unfolding unary
more_truth_allows truth truth' within op N (Bits a) = by_one truth' truth (poison_where_true op N a.number) (bits N (at_number op N a.number)) within
more_truth_allows truth truth' within op N Poison = tt

-- and so does a comparison with `samesign`
pub more_samesign_allows : (samesign samesign' : Bool) → AreWithin (icmp_flags samesign) (icmp_flags samesign') → (pred : Pred) (N : ℕ) (a b : Value)
    → AllowsValue (comparison pred samesign' N a b) (comparison pred samesign N a b)
unfolding comparison
more_samesign_allows samesign samesign' within pred N (Bits a) (Bits b) =
    by_one samesign' samesign (signs_differ N a.number b.number) (bits 1 (cond (holds pred N a.number b.number) 1 0)) (ap (λ (h : Flags). h.samesign) within)
more_samesign_allows samesign samesign' within pred N (Bits a) Poison = tt
more_samesign_allows samesign samesign' within pred N Poison b = tt
