-- What the proofs of this crate cite of definitions, of other crates and of the libraries, passed on from one place.
pub use Rattle.std.proofs.Common.{Bool, List, [], ap, arith, bit_and, bit_xor, cond, div-le_self, false, filter, get_or, if◌then◌else◌, inl, inr, int_le, int_lt, length, map, max, min, nat_le, nat_lt, neg_ℤ, negsuc, not, pos, refl, replicate, reverse, subst, suc, sym, take, true, unsigned_abs, zero, ℕ, ℤ, ⊎_elim, ◌%◌, ◌&&◌, ◌*ℤ◌, ◌*◌, ◌++◌, ◌+◌, ◌-ℤ◌, ◌-◌, ◌/◌, ◌<◌, ◌==◌, ◌^◌, ◌||◌, ◌∙◌, ◌∷◌, ◌≡◌, ◌≢◌, ◌≤◌, ◌⊎◌}
pub use Rattle.blast_value.specs.Effect.{IsOwn, IsOwnEffect, effect_of, held_value, widths_of}
pub use Rattle.blast_value.specs.Families.{arithmetic_opcode, bitwise, bitwise_opcode, divided, division_opcode, exact, extended, extreme, extreme_opcode, floor, is_negation, is_signed, moved_back, promises_disjoint, strict_opcode}
pub use Rattle.blast_value.specs.Gates.{cast_gates, checked_gates, gates_of, greatest, intrinsic_gates, left_gates, number_gates, overflow_gates, poison_gates, result_gates, right_gates, sign_gates, unary_gates}
pub use Rattle.blast_value.specs.Laws.{GatesAreFew, bound}
pub use Rattle.blast_value.specs.Words.{number_held}
pub use Rattle.blast_value.specs.declared.arithmetic.Arithmetic.{Arithmetic}
pub use Rattle.blast_value.specs.declared.bitwise.Bitwise.{Bitwise}
pub use Rattle.blast_value.specs.declared.division.Division.{Division}
pub use Rattle.blast_value.specs.declared.extreme.Extreme.{Extreme}
pub use Rattle.blast_value.specs.declared.held.Blasted.{Blasted}
pub use Rattle.blast_value.specs.declared.held.Held.{Held}
pub use Rattle.blast_value.specs.declared.instruction.Instruction.{Instruction}
pub use Rattle.blast_value.specs.declared.instruction.Instruction.TheVariants.{Binary, Compare, Convert, Select}
pub use Rattle.blast_value.specs.declared.strict.Strict.{Strict}
pub use Rattle.circ_counts.specs.Gates.{count_gates}
pub use Rattle.circ_muldiv.proofs.OverflowTests.{number_below}
pub use Rattle.circ_muldiv.proofs.Quotients.{map-reverse}
pub use Rattle.circ_muldiv.proofs.Rows.{highest_bit}
pub use Rattle.circ_muldiv.proofs.SignedQuotients.{remainder_of}
pub use Rattle.circ_muldiv.specs.Gates.{product_gates}
pub use Rattle.circ_muldiv.specs.Overflow.{fits}
pub use Rattle.circuits.proofs.Kept.{Adds-trans, Adds-weaken, All-kept, Keeps-trans, map-kept, own_at}
pub use Rattle.circuits.proofs.Stages.{doubled, stages-is, stages-least, stages-none}
pub use Rattle.circuits.proofs.Words.{number-below, number-push, number-take_more}
pub use Rattle.circuits.specs.Circuit.{Adds, Keeps}
pub use Rattle.circuits.specs.Extreme.{larger, smaller}
unfoldable pub use Rattle.circuits.specs.Gates.{stages}
pub use Rattle.circuits.specs.Gates.{comparison_gates, equality_gates, select_gates, shift_gates}
pub use Rattle.circuits.specs.Word.{bit, number, number_of}
pub use Rattle.circuits.specs.declared.state.State.{Ghosts}
pub use Rattle.ops.proofs.Signed.{pow_doubled}
unfoldable pub use Rattle.ops.specs.Arithmetic.{arithmetic}
unfoldable pub use Rattle.ops.specs.Bitwise.{or}
unfoldable pub use Rattle.ops.specs.Comparison.{comparison, holds, selection}
pub use Rattle.ops.specs.Comparison.{signs_differ}
unfoldable pub use Rattle.ops.specs.Conversion.{breaks_flags, conversion, converted}
unfoldable pub use Rattle.ops.specs.Counts.{ctlz, ctpop, cttz}
pub use Rattle.ops.specs.Counts.{binary_digits}
unfoldable pub use Rattle.ops.specs.Division.{sdiv, srem, udiv, urem}
pub use Rattle.ops.specs.Division.{divides, quotient}
unfoldable pub use Rattle.ops.specs.Instruction.{instruction, on_numbers, on_poison}
unfoldable pub use Rattle.ops.specs.Integer.{fits_signed, fits_unsigned, residue, signed}
pub use Rattle.ops.specs.Integer.{bits, least, minus_one}
unfoldable pub use Rattle.ops.specs.Shifts.{ashr, lshr, shl}
unfoldable pub use Rattle.ops.specs.Unary.{at_number, poison_where_true, unary}
pub use Rattle.ops.specs.Value.{HasWidth}
pub use Rattle.ops.specs.declared.comparison.Pred.{Pred}
pub use Rattle.ops.specs.declared.comparison.Pred.TheVariants.{Eq, Ne, Sge, Sgt, Sle, Slt, Uge, Ugt, Ule, Ult}
pub use Rattle.ops.specs.declared.conversion.Cast.{Cast}
pub use Rattle.ops.specs.declared.conversion.Cast.TheVariants.{SExt, Trunc, ZExt}
pub use Rattle.ops.specs.declared.opcode.Flags.{Flags}
pub use Rattle.ops.specs.declared.opcode.Opcode.{Opcode}
pub use Rattle.ops.specs.declared.opcode.Opcode.TheVariants.{AShr, LShr, Shl}
pub use Rattle.ops.specs.declared.opcode.Unary.TheVariants.{Abs, CtLz, CtPop, CtTz}
pub use Rattle.ops.specs.declared.value.Effect.{Effect}
pub use Rattle.ops.specs.declared.value.Effect.TheVariants.{Gives, Undefined}
pub use Rattle.ops.specs.declared.value.Value.{Value}
pub use Rattle.ops.specs.declared.value.Value.TheVariants.{Poison}
pub use Rattle.std.proofs.Math.ListN.{get_or-map}
pub use Rattle.std.proofs.Math.Nat.{add-mul-div_left, mod-add-div, mod-add-div', mod-eq_of_lt, mod-le, mod-lt, mul-div_cancel, mul-le-mul, mul-le-mul_left, pow-succ'}
pub use Rattle.std.proofs.lemmas.Bool.{cases_lt, eq-eqb, ne_eqb}
pub use Rattle.std.proofs.lemmas.Bool.Decides.{nat_tests}
pub use Rattle.std.proofs.lemmas.Int.{ints}
pub use Rattle.std.proofs.lemmas.List.{length-map, length-take-le, length_push, map-append}
pub use Rattle.std.proofs.lemmas.List.Elements.{All-push}
pub use Rattle.std.proofs.lemmas.Nat.{and_block, div-mul-add, or_block, pow-add, pow_below, pow_pos, xor_block}
pub use Rattle.std.proofs.lemmas.Result.{IfOk-weaker}
pub use Rattle.std.specs.Bool.{xor}
pub use Rattle.std.specs.Int.{int_div_euclid}
pub use Rattle.std.specs.List.{All, prefix_len}
