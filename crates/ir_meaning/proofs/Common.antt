-- What the proofs of this crate cite of definitions, of other crates and of the libraries, passed on from one place.
pub use Rattle.std.proofs.Common.{Bool, Contains, IsSome, List, None, Option, Some, [], add-one, add-zero, ap, append_assoc, arith, cond, drop, drop-cons, eqb, false, get_or, inl, inr, length, length-append, map, option_and_then, option_map, refl, replicate, set, slice_get, subst, suc, suc-add, sym, take, true, zero, zero-add, ℕ, ◌&&◌, ◌++◌, ◌+◌, ◌-◌, ◌<◌, ◌==◌, ◌^◌, ◌∙◌, ◌∷◌, ◌≡◌, ◌≢◌, ◌≤◌, ◌⊎◌}
pub use Rattle.ir_core.specs.Assigned.{IsAssigned, ReadIsAssigned}
pub use Rattle.ir_core.specs.Blocks.{HasInst, IsBlock, Names, targets_of}
pub use Rattle.ir_core.specs.Checks.{IsFormed, IsInst, IsPhi, IsTyped, MeetsChecks, OperandHasWidth}
pub use Rattle.ir_core.specs.Names.{width_of}
pub use Rattle.ir_core.specs.Reads.{IsRead, Read, end_of, read, reads_at_end, reads_by, reads_in, reads_of}
pub use Rattle.ir_core.specs.Refines.{AllowsOutcome, AreArguments}
pub use Rattle.ir_core.specs.Run.{AnyNumber, EndGives, Ending, Enters, Follows, Freezes, Goes, GoesOn, HasOutcome, HasZeroOutcome, IfPhi, IsChosen, Leads, OnlyZero, OpGives, OperandGives, Passes, PhiGives, Registers, Returns, RunsFrom, Starts, Undefines, arguments, branch_target, breaks_noundef, going_by, has_noundef, holding, is_indefinite, returning, switch_target}
pub use Rattle.ir_core.specs.Walks.{IsReached, IsWalk}
pub use Rattle.ir_core.specs.declared.function.Block.{Block}
pub use Rattle.ir_core.specs.declared.function.Function.{Function}
pub use Rattle.ir_core.specs.declared.function.Parameter.{Parameter}
pub use Rattle.ir_core.specs.declared.instruction.Inst.{Inst}
pub use Rattle.ir_core.specs.declared.instruction.Op.{Op}
pub use Rattle.ir_core.specs.declared.instruction.Op.TheVariants.{Binary, Compare, Convert, Freeze, Phi, Select, Unary}
pub use Rattle.ir_core.specs.declared.operand.Operand.{Operand}
pub use Rattle.ir_core.specs.declared.operand.Register.{Register}
pub use Rattle.ir_core.specs.declared.outcome.Outcome.{Outcome}
pub use Rattle.ir_core.specs.declared.terminator.Terminator.{Terminator}
pub use Rattle.ir_meaning.specs.Assignments.{AssignedIsPassed, AssignmentIsTransitive, DefinedBeforeStaysSo, NoneIsAssignedBehind, NotBothAreAssigned}
pub use Rattle.ir_meaning.specs.Histories.{EndsAt, InstGives, IsHistory, IsStep, Leaves, Moment, Runs, entering, once_held}
pub use Rattle.ir_meaning.specs.HistoryLaws.{AssignedHasRun, BlocksAreEnteredFromEnds, EquationsHoldInOneVisit, EquationsHoldWhereAssigned, HeldHaveWidths, HistoriesArePaths, LastRan, MomentsAreReached, NothingNamedChangesInOneVisit, NumbersFit, OperandsAreHeld, OutcomesHaveHistories, ResultsAreHeld}
pub use Rattle.ir_meaning.specs.Laws.{FunctionsHaveOutcomes, HoldAllowing, HoldWidths, InstructionsAreMonotone, OperandsHaveWidths, PhisAreMonotone, ZeroOutcomesAreOutcomes}
pub use Rattle.ir_meaning.specs.Orders.{RefinementIsReflexive, RefinementIsTransitive}
pub use Rattle.ir_meaning.specs.Paths.{ComesNext, IsPath, Place}
pub use Rattle.ir_meaning.specs.Step.{EndFits, GoesFrom, GoesTo, IsEntered, OpFits, ending_of}
unfoldable pub use Rattle.ir_meaning.specs.Table.{first_of, held_of}
pub use Rattle.ir_meaning.specs.Table.{Fits, IsTable}
pub use Rattle.ir_meaning.specs.Taken.{AreTaken, holding_all}
pub use Rattle.ir_meaning.specs.declared.terminator.Step.{Step}
pub use Rattle.ops.proofs.Monotone.{comparison-monotone, conversion-monotone, instruction-monotone, selection-monotone, unary-monotone}
pub use Rattle.ops.proofs.Values.{AllowsValue-refl, AllowsValue-trans}
pub use Rattle.ops.proofs.Widths.{IsEffectOf-instruction, IsValueOf-comparison, IsValueOf-conversion, IsValueOf-selection, IsValueOf-unary}
pub use Rattle.ops.specs.Comparison.{comparison, selection}
pub use Rattle.ops.specs.Conversion.{conversion}
pub use Rattle.ops.specs.Instruction.{instruction}
pub use Rattle.ops.specs.Number.{Number}
pub use Rattle.ops.specs.Unary.{unary}
pub use Rattle.ops.specs.Value.{AllowsEffect, AllowsValue, IsEffectOf, IsValueOf}
pub use Rattle.ops.specs.declared.value.Effect.{Effect}
pub use Rattle.ops.specs.declared.value.Value.{Value}
pub use Rattle.ops.specs.declared.value.Value.TheVariants.{Poison}
pub use Rattle.std.proofs.Math.Path.{fun_ext}
pub use Rattle.std.proofs.lemmas.Bool.{and_from, and_right, cases_eq, cases_lt, eq-eqb, ne_eqb}
pub use Rattle.std.proofs.lemmas.Bool.Decides.{eqb_tells}
pub use Rattle.std.proofs.lemmas.List.{append-nil, drop_all, length-replicate, length-set}
pub use Rattle.std.proofs.lemmas.List.Elements.{Contains-append_cases, Contains-append_left, Contains-append_right, Contains-push, Contains-push_cases}
pub use Rattle.std.proofs.lemmas.List.Sums.{sum_by-cons}
pub use Rattle.std.proofs.lemmas.Nat.{pow_pos}
pub use Rattle.std.proofs.lemmas.Option.{get_or_from_slice_get, none-some, same_Some, slice_get-map, slice_get_past, slice_get_read, slice_get_within}
pub use Rattle.std.proofs.lemmas.Result.{IfOk-weaker}
pub use Rattle.std.specs.List.{sum_by}
