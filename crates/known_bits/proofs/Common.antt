-- What the proofs of this crate cite of definitions, of other crates and of the libraries, passed on from one place.
pub use Rattle.std.proofs.Common.{Bool, List, None, Option, Some, [], ap, append-nil, append_assoc, arith, bit_and, bit_or, bit_xor, div-le_self, drop, eq-eqb, false, fold, get_or, if◌then◌else◌, inl, inr, length, length-append, length-drop, map, nat_le, nat_lt, negsuc, not, option_map, pos, pow_mono, refl, replicate, slice_get, subst, suc, sym, take, true, zero, ℕ, ⊎_elim, ◌%◌, ◌&&◌, ◌*ℤ◌, ◌*◌, ◌++◌, ◌+ℤ◌, ◌+◌, ◌-ℤ◌, ◌-◌, ◌/◌, ◌<◌, ◌==◌, ◌^◌, ◌||◌, ◌∙◌, ◌∷◌, ◌≡◌, ◌≤◌, ◌⊎◌}
pub use Rattle.circuits.proofs.Shifts.{length-moved, moved_down_number, moved_up_number}
pub use Rattle.circuits.proofs.Truth.{adder_total}
pub use Rattle.circuits.proofs.Words.{bit-le_one, nothing_carried, number-all_zero, number-below, number-extended, number-sub, number-take, remainder, sum_remainder}
pub use Rattle.circuits.specs.Kleene.{certain, known_agreed, known_and, known_not, known_or, known_xor}
pub use Rattle.circuits.specs.KnownSum.{known_carry, known_sum}
pub use Rattle.circuits.specs.Move.{moved}
pub use Rattle.circuits.specs.Word.{bit, number}
pub use Rattle.circuits.specs.declared.known_bit.KnownBit.{KnownBit}
pub use Rattle.circuits.specs.declared.known_bit.KnownBit.TheVariants.{One, Unknown, Zero}
pub use Rattle.circuits.specs.declared.shift.Direction.{Direction}
pub use Rattle.circuits.specs.declared.shift.Direction.TheVariants.{Down, Up}
pub use Rattle.ir_core.specs.Checks.{IsFormed, IsInst, IsPhi, IsTyped, OperandHasWidth}
pub use Rattle.ir_core.specs.Reads.{Read, read, reads_of}
pub use Rattle.ir_core.specs.Run.{AnyNumber, OpGives, OperandGives, Registers}
pub use Rattle.ir_core.specs.declared.function.Block.{Block}
pub use Rattle.ir_core.specs.declared.function.Function.{Function}
pub use Rattle.ir_core.specs.declared.instruction.Inst.{Inst}
pub use Rattle.ir_core.specs.declared.instruction.Op.{Op}
pub use Rattle.ir_core.specs.declared.operand.Operand.{Operand}
pub use Rattle.ir_meaning.proofs.Equations.{equations_here}
pub use Rattle.ir_meaning.proofs.Following.{width_known}
pub use Rattle.ir_meaning.proofs.Restricting.{reads_inst}
pub use Rattle.ir_meaning.proofs.Widths.{held_widths, inst_widths}
pub use Rattle.ir_meaning.specs.HistoryLaws.{EquationHolds, NumbersFit}
pub use Rattle.ir_meaning.specs.Laws.{HoldWidths, OperandsHaveWidths}
pub use Rattle.known_bits.specs.Gates.{gate_of}
unfoldable pub use Rattle.known_bits.specs.KnownBits.{known_results}
pub use Rattle.known_bits.specs.KnownBits.{insts_of, known_at, known_operand, known_result, shifted}
pub use Rattle.known_bits.specs.Laws.{Allows, GivesBits, HasBits, NumbersHaveKnownBits, OperandsHaveKnownBits, ResultsHaveKnownBits}
pub use Rattle.known_bits.specs.Widths.{HaveWidths}
pub use Rattle.known_bits.specs.Words.{bit_by_bit, is_known_as, known_of, top_of, unknown}
pub use Rattle.known_bits.specs.declared.words.Known.{Known}
unfoldable pub use Rattle.ops.specs.Arithmetic.{arithmetic}
unfoldable pub use Rattle.ops.specs.Bitwise.{or}
unfoldable pub use Rattle.ops.specs.Comparison.{selection}
unfoldable pub use Rattle.ops.specs.Conversion.{conversion, converted}
pub use Rattle.ops.specs.Conversion.{CastFits, breaks_flags}
pub use Rattle.ops.specs.Counts.{binary_digits}
pub use Rattle.ops.specs.Division.{divides, exactly}
unfoldable pub use Rattle.ops.specs.Instruction.{instruction, on_numbers, on_poison}
unfoldable pub use Rattle.ops.specs.Integer.{residue, signed}
pub use Rattle.ops.specs.Integer.{bits, fits_signed, fits_unsigned}
pub use Rattle.ops.specs.Number.{Number}
unfoldable pub use Rattle.ops.specs.Shifts.{ashr, lshr, shl}
pub use Rattle.ops.specs.Value.{HasWidth, IsValueOf}
pub use Rattle.ops.specs.declared.conversion.Cast.{Cast}
pub use Rattle.ops.specs.declared.conversion.Cast.TheVariants.{SExt, Trunc, ZExt}
pub use Rattle.ops.specs.declared.opcode.Flags.{Flags}
pub use Rattle.ops.specs.declared.opcode.Opcode.{Opcode}
pub use Rattle.ops.specs.declared.opcode.Opcode.TheVariants.{AShr, Add, And, LShr, Mul, Or, SDiv, SMax, SMin, SRem, Shl, Sub, UDiv, UMax, UMin, URem, Xor}
pub use Rattle.ops.specs.declared.value.Effect.{Effect}
pub use Rattle.ops.specs.declared.value.Effect.TheVariants.{Gives, Undefined}
pub use Rattle.ops.specs.declared.value.Value.{Value}
pub use Rattle.ops.specs.declared.value.Value.TheVariants.{Bits, Poison}
pub use Rattle.std.proofs.Math.Nat.{mod-add-div', mod-eq_of_lt, mod-lt, mul-le-mul_left, pow-succ'}
pub use Rattle.std.proofs.lemmas.Bool.{cases_lt, cond_both, eqb-true}
pub use Rattle.std.proofs.lemmas.Bool.Decides.{nat_tests}
pub use Rattle.std.proofs.lemmas.Int.{ints}
pub use Rattle.std.proofs.lemmas.List.{drop_more, get_or-take, get_or_at, length-map, length-replicate, length-take, length-take-le, length_push, map-id, take-append-drop, take-take, take_all, take_more}
pub use Rattle.std.proofs.lemmas.List.Elements.{All-push}
pub use Rattle.std.proofs.lemmas.List.Sums.{fold-append}
pub use Rattle.std.proofs.lemmas.Nat.{and_assoc, and_block, and_comm, and_le_l, div-mul-add, or_block, pow-add, pow_below, pow_pos, xor_block}
pub use Rattle.std.proofs.lemmas.Option.{get_or_from_slice_get, none-some, same_Some, slice_get_cases, slice_get_read, slice_get_within}
pub use Rattle.std.proofs.lemmas.Result.{IfOk-weaker}
pub use Rattle.std.specs.Bool.{xor}
pub use Rattle.std.specs.Int.{int_div_euclid}
pub use Rattle.std.specs.List.{All, AllZip}
pub use Rattle.std.specs.Prelude.{unwrap_or}
