-- What the proofs of this crate cite of definitions, of other crates and of the libraries, passed on from one place.
pub use Rattle.std.proofs.Common.{Bool, Decides, FitsSigned, IsTrue, List, None, Option, Some, [], add-one, ap, arith, cond, count_ones, div-le_self, eq-zero-or-pos, eqb, false, filter, find, inl, inr, int_div, int_rem, length, ltb, min, nat_le, neg_ℤ, negsuc, not, pos, refl, reverse, rules, subst, suc, sym, true, unsigned_abs, zero, ℕ, ℤ, ⊎_elim, ◌%◌, ◌&&◌, ◌*ℤ◌, ◌*◌, ◌++◌, ◌+ℤ◌, ◌+◌, ◌-ℤ◌, ◌-◌, ◌/◌, ◌<◌, ◌==◌, ◌^◌, ◌||◌, ◌↔◌, ◌∙◌, ◌∷◌, ◌≡◌, ◌≢◌, ◌≤◌, ◌⊎◌}
unfoldable pub use Rattle.ops.specs.Arithmetic.{arithmetic}
unfoldable pub use Rattle.ops.specs.Bitwise.{or}
unfoldable pub use Rattle.ops.specs.Comparison.{comparison, selection}
pub use Rattle.ops.specs.Comparison.{holds}
unfoldable pub use Rattle.ops.specs.Conversion.{conversion, converted}
unfoldable pub use Rattle.ops.specs.Counts.{ctlz, ctpop, cttz}
pub use Rattle.ops.specs.Counts.{binary_digits}
unfoldable pub use Rattle.ops.specs.Division.{sdiv, srem, udiv, urem}
pub use Rattle.ops.specs.Division.{divides, exactly, has_no_quotient, quotient, remainder}
unfoldable pub use Rattle.ops.specs.FlagKeywords.{flag_in}
pub use Rattle.ops.specs.FlagKeywords.{AddsFlags, every_flag, flag_keyword, has_flag, with_flag}
pub use Rattle.ops.specs.Flags.{AreWithin, flags_of_icmp, icmp_flags, no_flags}
unfoldable pub use Rattle.ops.specs.Instruction.{instruction, on_numbers, on_poison}
unfoldable pub use Rattle.ops.specs.Integer.{residue, signed}
pub use Rattle.ops.specs.Integer.{bits, least, minus_one}
unfoldable pub use Rattle.ops.specs.Keywords.{pred_in}
pub use Rattle.ops.specs.Keywords.{predicate_keyword, predicates}
pub use Rattle.ops.specs.Laws.{AllowsEffectIsReflexive, AllowsEffectIsTransitive, AllowsValueIsReflexive, AllowsValueIsTransitive, ComparisonIsMonotone, ComparisonIsOneBit, ConversionHasWidth, ConversionIsMonotone, InstructionIsMonotone, InstructionKeepsWidth, IsUndefinedDivision, SelectionIsMonotone, SelectionKeepsWidth, UnaryIsMonotone, UnaryKeepsWidth, UndefinedIsOfDivisions}
pub use Rattle.ops.specs.Number.{Number}
unfoldable pub use Rattle.ops.specs.Shifts.{ashr, lshr, shl}
unfoldable pub use Rattle.ops.specs.Unary.{at_number, unary}
pub use Rattle.ops.specs.Value.{AllowsEffect, AllowsValue, IsEffectOf, IsValueOf}
pub use Rattle.ops.specs.declared.comparison.Pred.{Pred}
pub use Rattle.ops.specs.declared.comparison.Pred.TheVariants.{Eq, Ne, Sge, Sgt, Sle, Slt, Uge, Ugt, Ule, Ult}
pub use Rattle.ops.specs.declared.conversion.Cast.TheVariants.{SExt, Trunc, ZExt}
pub use Rattle.ops.specs.declared.keywords.flag.Flag.{Flag}
pub use Rattle.ops.specs.declared.keywords.flag.Flag.TheVariants.{Disjoint, Exact, NNeg, Nsw, Nuw, SameSign}
pub use Rattle.ops.specs.declared.opcode.Flags.{Flags}
pub use Rattle.ops.specs.declared.opcode.Opcode.{Opcode}
pub use Rattle.ops.specs.declared.opcode.Opcode.TheVariants.{AShr, Add, And, LShr, Mul, Or, SDiv, SMax, SMin, SRem, Shl, Sub, UDiv, UMax, UMin, URem, Xor}
pub use Rattle.ops.specs.declared.opcode.Unary.{Unary}
pub use Rattle.ops.specs.declared.opcode.Unary.TheVariants.{Abs, CtLz, CtPop, CtTz}
pub use Rattle.ops.specs.declared.value.Effect.TheVariants.{Gives, Undefined}
pub use Rattle.ops.specs.declared.value.Value.{Value}
pub use Rattle.ops.specs.declared.value.Value.TheVariants.{Bits, Poison}
pub use Rattle.std.proofs.Math.Nat.{mod-le, mod-lt, pow-succ'}
pub use Rattle.std.proofs.lemmas.Bool.Decides.{Decides-and, Decides-eqb, Decides-like, Decides-or, nat_tests}
pub use Rattle.std.proofs.lemmas.Int.{fits_signed_from_abs, ints, quot-rem, quot_is, rem_is, to_z-of_z}
pub use Rattle.std.proofs.lemmas.List.{length-reverse, reverse-append}
pub use Rattle.std.proofs.lemmas.Nat.{and_le_l, leading_le, leading_length, leading_top, ones-le, or_lt, pow_below, pow_pos, xor_lt}
pub use Rattle.std.proofs.lemmas.Slice.Eq.{bytes_eq-Decides}
pub use Rattle.std.specs.Bool.{beq, xor}
pub use Rattle.std.specs.Int.{cast_signed, cast_unsigned, int_div_euclid, w128}
pub use Rattle.std.specs.List.{prefix_len}
pub use Rattle.std.specs.Str.{bytes_eq}
unfoldable pub use lib.Count.{count_leading_zeros, count_trailing_zeros}
pub use lib.Count.{leading_of_zero, leading_unique, ones_step, under}
