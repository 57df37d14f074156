-- What the proofs of this crate cite of definitions, of other crates and of the libraries, passed on from one place.
pub use Rattle.std.proofs.Common.{All, Bool, Contains, Err, IfOk, IsTrue, List, None, Ok, Option, Result, Some, [], add-one, add-zero, ap, append_assoc, arith, drop, false, flat_map, get_or, inl, inr, length, map, refl, rules, slice_get, slice_index, subst, suc, sum_by, sym, take, true, zero, ℕ, ◌&&◌, ◌*◌, ◌++◌, ◌+◌, ◌-◌, ◌<◌, ◌^◌, ◌↔◌, ◌∙◌, ◌∷◌, ◌≡◌, ◌≤◌}
pub use Rattle.aig.specs.Graph.{value_of}
pub use Rattle.blast_rule.specs.Gates.{most_gates, root_width}
pub use Rattle.blast_rule.specs.Laws.{RulesWithoutCounterexampleReadAreValid}
pub use Rattle.blast_rule.specs.Parts.{Refutes, number_held}
pub use Rattle.blast_rule.specs.Settings.{setting_of}
pub use Rattle.blast_setting.proofs.Few.{few_in_target, few_named}
pub use Rattle.blast_setting.specs.Inputs.{constant_widths, input_widths, number_bits, value_bits, widths_chosen}
pub use Rattle.blast_setting.specs.declared.named.Kind.TheVariants.{Constant, Input}
pub use Rattle.cdcl_log.proofs.DistinctCount.{distinct_count_le}
pub use Rattle.cdcl_log.specs.Found.{IsFound, IsHonestLimit, IsModel}
pub use Rattle.circuits.specs.Word.{bit, number}
pub use Rattle.clauses.proofs.SettingLemmas.{StandsFor-same, UnitsDetermine-from_StandsFor, input_values-assignment_of, model_passes, none_passes}
pub use Rattle.clauses.specs.ClauseSet.{IsRefutation, all_clauses}
pub use Rattle.clauses.specs.Literal.{Meets, assignment_of}
pub use Rattle.clauses.specs.Settings.{StandsFor, input_values}
pub use Rattle.clauses.specs.declared.cnf.Cnf.{Cnf}
pub use Rattle.clauses.specs.declared.step.Step.{Step}
pub use Rattle.ops.specs.Number.{Number}
pub use Rattle.ops.specs.Value.{AllowsEffect}
pub use Rattle.ops.specs.declared.value.Effect.{Effect}
pub use Rattle.rule_core.proofs.Members.{class_stands, source_statement, term_class_stands, witness_term}
pub use Rattle.rule_core.proofs.Unchosen.{undefined_source}
pub use Rattle.rule_core.specs.Checks.{IsRule}
pub use Rattle.rule_core.specs.Laws.{RulesHaveOneOutcome}
pub use Rattle.rule_core.specs.Positions.{choices_among, classes_of}
pub use Rattle.rule_core.specs.Run.{Held, Holds, TemporariesEnd, Undefines}
pub use Rattle.rule_core.specs.Typing.{IsTyping}
pub use Rattle.rule_core.specs.Valid.{HaveEffects, IsCounterexample, IsValid, Setting, witness_number, witness_width}
pub use Rattle.rule_core.specs.declared.example.Example.{Example}
pub use Rattle.rule_core.specs.declared.rule.Choice.{Choice}
pub use Rattle.rule_core.specs.declared.rule.Operand.{Operand}
pub use Rattle.rule_core.specs.declared.rule.Rule.{Rule}
pub use Rattle.rule_typing.specs.AllTypings.{IsAnswer}
pub use Rattle.std.proofs.Math.ListN.{get_or-map}
pub use Rattle.std.proofs.Math.Nat.{mod-eq_of_lt, pow-succ'}
pub use Rattle.std.proofs.Math.Seq.{take-length}
pub use Rattle.std.proofs.lemmas.Bool.{cases_lt}
pub use Rattle.std.proofs.lemmas.Grind.{flat_map-append}
pub use Rattle.std.proofs.lemmas.List.{get_or_past, length-map, length-take-le, map-append, map-id, take_more}
pub use Rattle.std.proofs.lemmas.List.Elements.{All-append, All-cons, All-contains_itself, All-head, All-map, All-nil, All-tail, All-weaker, Contains-get_or}
pub use Rattle.std.proofs.lemmas.List.FromFn.{length-enumerate_from, length-map-range_with_len}
pub use Rattle.std.proofs.lemmas.List.Sums.{sum_by-le}
pub use Rattle.std.proofs.lemmas.Option.{get_or_from_slice_get, slice_get-map, slice_get_within}
pub use Rattle.std.proofs.lemmas.Result.{on_ok_weaker}
pub use Rattle.std.proofs.lemmas.Slice.Zip.{AllZip-long, all_zipped_more}
pub use Rattle.std.specs.List.{enumerate_from, range_with_len, zip}
pub use Rattle.std.specs.Option.{option_map_or}
pub use Rattle.std.specs.Vec.Iter.{into_iter_items}
pub use Rattle.verdict.specs.Additions.{AddsRows, AddsRule}
pub use Rattle.verdict.specs.Findings.{Decided, Finding, IsFinding, IsRowOf, TooMany, finding_text, rows_of}
pub use Rattle.verdict.specs.Honest.{IsHonest, IsHonestBudget, IsRefutedBy, StandsForRule, setting_in}
pub use Rattle.verdict.specs.Limits.{most_typings}
pub use Rattle.verdict.specs.Proved.{IsAttempt, IsUnrefutedBy, Keeps}
pub use Rattle.verdict.specs.Table.{IsHonestRow, IsHonestTable, row_text}
pub use Rattle.verdict.specs.Verified.{IsVerified}
pub use Rattle.verdict.specs.WideWords.{IsWide}
pub use Rattle.verdict.specs.declared.verification.Verified.{Verified}
pub use Rattle.verdict_core.specs.Texts.{too_many_text, verdict_text}
pub use Rattle.verdict_core.specs.declared.verdicts.Row.{Row}
pub use Rattle.verdict_core.specs.declared.verdicts.Verdict.{Verdict}
pub use Rattle.verdict_core.specs.declared.verdicts.Verdict.TheVariants.{Admitted, Budget, Refuted, WitnessFails}
