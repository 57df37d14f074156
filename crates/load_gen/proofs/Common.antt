-- What the proofs of this crate cite of definitions, of other crates and of the libraries, passed on from one place.
pub use Rattle.std.proofs.Common.{All, Bool, Contains, IfSome, IsSome, List, None, Option, Some, [], ap, arith, bytes_eq, codes, decimal, false, if◌then◌else◌, inl, inr, length, length-append, map, mod-lt, not, option_map, pow_pos, refl, slice_get, subst, suc, sym, true, zero, ℕ, ◌&&◌, ◌++◌, ◌+◌, ◌-◌, ◌/◌, ◌<◌, ◌==◌, ◌^◌, ◌∙◌, ◌∷◌, ◌≡◌, ◌≤◌, ◌⊎◌}
pub use Rattle.ir_core.specs.Assigned.{IsAssigned, ReadIsAssigned}
pub use Rattle.ir_core.specs.Blocks.{HasInst, IsBlock, Names, targets_of}
pub use Rattle.ir_core.specs.Checks.{CasesFit, EntriesFit, IsFormed, IsInst, IsKnown, IsPhi, IsTyped, MeetsChecks, NamesDiffer, OperandHasWidth}
pub use Rattle.ir_core.specs.Names.{Name, names_of, width_of}
pub use Rattle.ir_core.specs.Reads.{IsRead, Read, end_of, read, reads_at, reads_by, reads_of}
pub use Rattle.ir_core.specs.Walks.{IsWalk}
pub use Rattle.ir_core.specs.declared.function.Block.{Block}
pub use Rattle.ir_core.specs.declared.function.Function.{Function}
pub use Rattle.ir_core.specs.declared.instruction.Inst.{Inst}
pub use Rattle.ir_core.specs.declared.instruction.Op.{Op}
pub use Rattle.ir_core.specs.declared.instruction.Op.TheVariants.{Binary, Compare, Phi}
pub use Rattle.ir_core.specs.declared.module.Entry.{Entry}
pub use Rattle.ir_core.specs.declared.operand.Operand.{Operand}
pub use Rattle.ir_core.specs.declared.terminator.Terminator.TheVariants.{Branch}
unfoldable pub use Rattle.load_gen.specs.Draws.{drawn}
pub use Rattle.load_gen.specs.Draws.{next_state}
unfoldable pub use Rattle.load_gen.specs.Generated.{blocks, drawn_inst, drawn_insts, function, functions, loop_insts}
pub use Rattle.load_gen.specs.Generated.{a, b, fixed, in_loop, listed, number, operation, state_after, state_before, width}
pub use Rattle.load_gen.specs.Laws.{GeneratedEntriesAreCounted, GeneratedEntriesAreOfTwenty, GeneratedFunctionsAreSmall, GeneratedModulesMeetChecks, GeneratedNumbersFit, IsGenerated, IsOfTwenty}
pub use Rattle.ops.specs.Flags.{no_flags}
pub use Rattle.ops.specs.Integer.{minus_one}
pub use Rattle.ops.specs.Number.{Number}
pub use Rattle.ops.specs.declared.comparison.Pred.TheVariants.{Ult}
pub use Rattle.ops.specs.declared.opcode.Opcode.{Opcode}
pub use Rattle.ops.specs.declared.opcode.Opcode.TheVariants.{Add, And, Mul, Shl, Sub, UDiv, Xor}
pub use Rattle.std.proofs.Math.Pow.{pow_mono}
pub use Rattle.std.proofs.lemmas.Bool.{cases_lt}
pub use Rattle.std.proofs.lemmas.Fmt.{decimal_injective}
pub use Rattle.std.proofs.lemmas.List.Elements.{All-cons, All-from_recursion, All-nil, All-push, Contains-append_cases, Contains-append_left, Contains-append_right, Contains-push, Contains-push_cases}
pub use Rattle.std.proofs.lemmas.Option.{get_or_from_slice_get, same_Some, slice_get_within}
pub use Rattle.std.proofs.lemmas.Slice.Eq.{bytes_eq-Decides}
unfoldable pub use Rattle.std.specs.Fmt.{digits}
