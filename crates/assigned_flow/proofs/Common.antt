-- What the proofs of this crate cite of definitions, of other crates and of the libraries, passed on from one place.
pub use Rattle.std.proofs.Common.{All, Bool, Contains, IfSome, IsTrue, List, None, Option, Some, [], ap, arith, false, if◌then◌else◌, inl, inr, length, map, nat_lt, option_map, refl, slice_get, subst, suc, sym, take, true, zero, ℕ, ◌++◌, ◌-◌, ◌<◌, ◌^◌, ◌↔◌, ◌∙◌, ◌∷◌, ◌≡◌, ◌≢◌, ◌⊎◌}
pub use Rattle.assigned_flow.specs.CheckedReads.{AssignedBefore}
pub use Rattle.assigned_flow.specs.FewEntries.{HasFewEntries}
pub use Rattle.assigned_flow.specs.Passed.{IsClosed, IsPassed}
pub use Rattle.assigned_flow.specs.Successors.{HasRegister, successors_of}
pub use Rattle.dominator_tree.specs.Walks.{Dominates, IsEdge}
pub use Rattle.ir_core.specs.Assigned.{IsAssigned}
pub use Rattle.ir_core.specs.Blocks.{HasInst, Names, targets_of}
pub use Rattle.ir_core.specs.Reads.{Read, end_of, reads_at, reads_at_end, reads_by, reads_in, reads_of}
pub use Rattle.ir_core.specs.declared.function.Block.{Block}
pub use Rattle.ir_core.specs.declared.function.Function.{Function}
pub use Rattle.ir_core.specs.declared.instruction.Inst.{Inst}
pub use Rattle.ir_core.specs.declared.instruction.Op.{Op}
pub use Rattle.ir_core.specs.declared.instruction.Op.TheVariants.{Binary, Compare, Convert, Freeze, Phi, Select, Unary}
pub use Rattle.ir_core.specs.declared.operand.Register.{Register}
pub use Rattle.ir_core.specs.declared.terminator.Terminator.{Terminator}
pub use Rattle.std.proofs.lemmas.Bool.{cases_lt, lt-ltb, ltb-true}
pub use Rattle.std.proofs.lemmas.Grind.{common_steps}
pub use Rattle.std.proofs.lemmas.List.{length-map}
pub use Rattle.std.proofs.lemmas.List.Elements.{All-head, All-tail, Contains-append_cases, Contains-append_left, Contains-append_right, Contains-push, Contains-push_cases}
pub use Rattle.std.proofs.lemmas.Option.{none-some, same_Some, slice_get-map}
pub use Rattle.std.specs.Prelude.{unwrap_or}
