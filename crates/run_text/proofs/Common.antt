-- What the proofs of this crate cite of definitions, of other crates and of the libraries, passed on from one place.
pub use Rattle.std.proofs.Common.{Bool, Contains, IfSome, IsSome, IsSomeAnd, List, MatchOption, None, Ok, Option, Result, Some, [], ap, arith, below_more, codes, false, get_or, if◌then◌else◌, inl, inr, length, map, nat_le, nat_lt, not, option_map, refl, slice_get, slice_index, subst, suc, sym, take, true, zero, ℕ, ◌&&◌, ◌++◌, ◌+◌, ◌<◌, ◌==◌, ◌^◌, ◌||◌, ◌↔◌, ◌∙◌, ◌∷◌, ◌≡◌, ◌≢◌, ◌≤◌}
pub use Rattle.ir_core.specs.Checks.{MeetsChecks, ModuleMeetsChecks}
pub use Rattle.ir_core.specs.Refines.{AreArguments}
pub use Rattle.ir_core.specs.declared.function.Function.{Function}
pub use Rattle.ir_core.specs.declared.function.Parameter.{Parameter}
pub use Rattle.ir_core.specs.declared.module.Entry.{Entry}
pub use Rattle.ir_core.specs.declared.module.Module.{Module}
pub use Rattle.ir_meaning.specs.Laws.{FunctionsHaveOutcomes}
pub use Rattle.ir_reader.proofs.CheckLemmas.{module_meets}
pub use Rattle.ir_reader.specs.Faults.{IsFault}
pub use Rattle.ir_reader.specs.IrFaultKind.{IrFaultKind}
pub use Rattle.ir_reader.specs.Laws.{TextsHaveOneModuleOrFault}
pub use Rattle.ops.specs.Integer.{bits}
pub use Rattle.ops.specs.Number.{Number}
pub use Rattle.ops.specs.Value.{IsValueOf}
pub use Rattle.ops.specs.declared.value.Value.{Value}
pub use Rattle.ops.specs.declared.value.Value.TheVariants.{Bits, Poison}
pub use Rattle.refusal.specs.Refusals.{IfRefused}
pub use Rattle.refusal.specs.declared.fault.Fault.{Fault}
pub use Rattle.refusal.specs.declared.refusal.Refusal.{Refusal}
pub use Rattle.refusal.specs.declared.refusal.Refusal.TheVariants.{NoMemory, Refused}
pub use Rattle.run_text.specs.Arguments.{AreSaid, DoNotFit, begins_as_none, decimal_said, is_decimal, is_false, is_true, number, value_said, values_said}
pub use Rattle.run_text.specs.OutcomeLaws.{ModuleHasOutcomes, RunsAreNotMisnamed}
pub use Rattle.run_text.specs.RunFaults.{IsRunFault, of_text}
pub use Rattle.run_text.specs.Runs.{HasNoRun, IsMisnamed, IsNamed, IsReadAs, unfit, unnamed}
pub use Rattle.run_text.specs.declared.fault.RunFault.{RunFault}
pub use Rattle.std.proofs.Math.Pow.{pow_mono}
pub use Rattle.std.proofs.lemmas.Bool.{and_from, and_parts, both_ways, eq-eqb, eqb-false, eqb-true, false_from_ne_true, le-leb, leb-true, lt-ltb, ltb-false, ltb-true, or_parts}
pub use Rattle.std.proofs.lemmas.List.{length-map, map-append, take_all, take_more}
pub use Rattle.std.proofs.lemmas.Option.{get_or_from_slice_get, same_Some, slice_get-get_or, slice_get-map, slice_get_read, slice_get_within}
pub use Rattle.std.proofs.lemmas.Result.{OkIff-at_ok}
pub use Rattle.std.proofs.lemmas.Slice.Eq.{bytes_eq-Decides}
pub use Rattle.std.proofs.lemmas.Str.Parse.{IsNumeralModel, numerals_by_value, parse_gives, parse_plain, tells_all_ascii_digits}
pub use Rattle.std.specs.Borrow.{Bor}
pub use Rattle.std.specs.Str.{all_ascii_digits, bytes_eq}
pub use Rattle.std.specs.Str.Parse.{ParsesUnsigned, digits_value}
