-- What the proofs of this crate cite of definitions, of other crates and of the libraries, passed on from one place.
pub use Rattle.std.proofs.Common.{AllPairs, Contains, IsSome, List, None, Option, Some, [], ap, arith, cond, get_or, get_or-set_other, inl, inr, length, length-append, map, option_and_then, option_map, refl, replicate, rules, slice_get, slice_set, subst, suc, sym, take, zero, ℕ, ◌++◌, ◌+◌, ◌<◌, ◌∙◌, ◌∷◌, ◌≡◌, ◌≤◌, ◌⊎◌}
pub use Rattle.ir_core.specs.Assigned.{IsBefore}
pub use Rattle.ir_core.specs.Checks.{IsKnown}
pub use Rattle.ir_core.specs.Reads.{IsRead, Read, end_of, reads_at, reads_at_end, reads_by, reads_in}
pub use Rattle.ir_core.specs.declared.function.Block.{Block}
pub use Rattle.ir_core.specs.declared.function.Function.{Function}
pub use Rattle.ir_core.specs.declared.function.Parameter.{Parameter}
pub use Rattle.ir_core.specs.declared.instruction.Inst.{Inst}
pub use Rattle.ir_core.specs.declared.operand.Operand.{Operand}
pub use Rattle.ir_core.specs.declared.operand.Register.{Register}
pub use Rattle.std.proofs.lemmas.Bool.{cases_eq, ne_eqb}
pub use Rattle.std.proofs.lemmas.Grind.{get_or-set_at}
pub use Rattle.std.proofs.lemmas.List.{get_or-replicate, get_or_past, length-map, length-replicate, length-set}
pub use Rattle.std.proofs.lemmas.List.Elements.{Contains-append_left, Contains-get_or, Contains-push, Contains-push_cases}
pub use Rattle.std.proofs.lemmas.List.Quantifiers.{all_pairs_push}
pub use Rattle.std.proofs.lemmas.Option.{get_or_from_slice_get, same_Some, slice_get-map, slice_get_cases, slice_get_within}
pub use Rattle.std.proofs.lemmas.Result.{on_ok_weaker}
pub use Rattle.std.specs.Prelude.{unwrap_or}
pub use Rattle.use_counts.specs.Counting.{AreCountsAmong, AreUsesAmong, IsCountAmong, IsCounted, one_more}
pub use Rattle.use_counts.specs.Laws.{CountOfOneIsOneUse, UseCountsAreOne}
pub use Rattle.use_counts.specs.Tables.{AreCounts, HasNumber, count_of}
pub use Rattle.use_counts.specs.Uses.{AreUsesOf, IsNamedAt, IsUseCount, IsUsedOnce, StandsBefore, UsePlace}
pub use Rattle.use_counts.specs.declared.uses.Uses.{Uses}
