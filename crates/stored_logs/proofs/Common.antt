-- What the proofs of this crate cite of definitions, of other crates and of the libraries, passed on from one place.
pub use Rattle.std.proofs.Common.{All, Bool, Contains, IfSome, IsTrue, List, Option, Some, [], add-zero, ap, append_assoc, ap₂, arith, false, flat_map, get_or, inl, inr, length, map, refl, rules, slice_get, subst, suc, sym, take, true, zero, ℕ, ◌&&◌, ◌++◌, ◌+◌, ◌<◌, ◌↔◌, ◌∙◌, ◌∷◌, ◌≡◌, ◌≢◌}
pub use Rattle.clauses.specs.ClauseSet.{IsRefutation}
pub use Rattle.clauses.specs.declared.cnf.Cnf.{Cnf}
pub use Rattle.clauses.specs.declared.step.Step.{Step}
pub use Rattle.proof_reader.proofs.RuleNames.{name_at}
pub use Rattle.proof_reader.specs.Faults.{IsAmong}
pub use Rattle.proof_reader.specs.Names.{HasNameAt}
pub use Rattle.proof_reader.specs.Reading.{IsProofOf, IsReadOf, IsTypedIn}
pub use Rattle.proof_reader.specs.declared.proof.RuleProof.{RuleProof}
pub use Rattle.proof_text.specs.Texts.{proof_text}
pub use Rattle.proof_text.specs.declared.proof.Proof.{Proof}
pub use Rattle.rule_core.specs.Checks.{AreDistinct, IsRule}
pub use Rattle.rule_core.specs.Typing.{IsTyping}
pub use Rattle.rule_core.specs.declared.rule.Rule.{Rule}
pub use Rattle.rule_typing.specs.AllTypings.{IsAnswer}
pub use Rattle.rule_typing.specs.Classes.{IsClassified}
pub use Rattle.std.proofs.lemmas.Bool.{cases_lt, false≢true}
pub use Rattle.std.proofs.lemmas.Grind.{flat_map-append}
pub use Rattle.std.proofs.lemmas.List.{append-nil, length-take-le, map-append, nil_from_length, take_more}
pub use Rattle.std.proofs.lemmas.List.Elements.{All-append, All-cons, All-contains, All-contains_itself, All-filter, All-head, All-nil, All-tail, All-weaker, filter-append}
pub use Rattle.std.proofs.lemmas.Option.{get_or_from_slice_get, same_Some, slice_get-get_or, slice_get_within}
pub use Rattle.std.proofs.lemmas.Result.{on_ok_weaker}
pub use Rattle.std.proofs.lemmas.Slice.Zip.{all_zipped_more}
pub use Rattle.std.specs.List.{AllZip, enumerate_from, zip}
pub use Rattle.std.specs.Option.{option_map_or}
pub use Rattle.std.specs.Vec.Iter.{into_iter_items}
pub use Rattle.stored_logs.specs.Additions.{AddsProof, AddsProved, AddsProvedRule, AddsVerdict}
pub use Rattle.stored_logs.specs.Proved.{IsProved}
pub use Rattle.stored_logs.specs.Rechecked.{IsRechecked, IsVerdictOn}
pub use Rattle.stored_logs.specs.Refutations.{AreRefutationsOf, IsRefutationOf, Refutes, admitted_in, is_admitted, proof_of, proofs_text, row_proof_text}
pub use Rattle.stored_logs.specs.Stored.{AreKeptTo, AreOfPairsOnce, AreStored, IsLogStored, pair_of}
pub use Rattle.stored_logs.specs.declared.proved.Proved.{Proved}
pub use Rattle.stored_logs.specs.declared.rechecked.Rechecked.{Rechecked}
pub use Rattle.stored_logs.specs.declared.refutation.Refutation.{Refutation}
pub use Rattle.strategy_core.specs.Asked.{Pair}
pub use Rattle.verdict.specs.Findings.{Decided, Finding, IsAdmitted, IsFinding, IsReadRule, IsRowOf, TooMany, rows_of}
pub use Rattle.verdict.specs.Honest.{IsHonest}
pub use Rattle.verdict.specs.Limits.{most_typings}
pub use Rattle.verdict.specs.Proved.{IsLogOf, IsUnrefutedBy}
pub use Rattle.asked_verdicts.specs.Stored.{IsUnrefutedIn, log_of}
pub use Rattle.verdict.specs.Table.{IsHonestRow, IsHonestTable, row_text, table_text}
pub use Rattle.asked_verdicts.specs.declared.stored.StoredLogs.{StoredLogs}
pub use Rattle.verdict_core.specs.Texts.{verdict_text}
pub use Rattle.verdict_core.specs.declared.verdicts.Row.{Row}
pub use Rattle.verdict_core.specs.declared.verdicts.Verdict.{Verdict}
pub use Rattle.verdict_core.specs.declared.verdicts.Verdict.TheVariants.{Admitted, Budget, Refuted, WitnessFails}
