-- What the proofs of this crate cite of definitions, of other crates and of the libraries, passed on from one place.
pub use Rattle.std.proofs.Common.{All, Bool, Contains, Err, IfOk, List, MatchOption, None, Ok, OnOk, Option, Result, Some, [], ap, ap₂, arith, codes, cond, eqb, false, flat_map, get_or, if◌then◌else◌, inl, inr, length, length-append, map, nat_eq, not, refl, slice_get, subst, suc, sym, take, true, zero, ℕ, ⊎_elim, ◌++◌, ◌+◌, ◌<◌, ◌||◌, ◌∙◌, ◌∷◌, ◌≡◌, ◌≤◌}
pub use Rattle.clauses.specs.Literal.{Lit}
pub use Rattle.clauses.specs.declared.step.Step.{Step}
pub use Rattle.proof_reader.specs.Faults.{AreGood, IsAmong, IsAtProof, IsBad, IsFault, IsGood, IsRuleOf, IsTextOfGood, badly_typed, of_proof, of_text, repeated, unknown}
pub use Rattle.proof_reader.specs.Names.{ArePlaces, HasNameAt, IsNamed}
pub use Rattle.proof_reader.specs.Reading.{AddsKey, AreKeysOf, AreTaken, HasKey, IsProofOf, IsTypedAt, Key, RefusesProof, TakesProof, is_same_key}
pub use Rattle.proof_reader.specs.declared.proof.RuleProof.{RuleProof}
pub use Rattle.proof_text.proofs.Decodings.{no_digit_10}
pub use Rattle.proof_text.proofs.Numerals.{numeral_digits}
pub use Rattle.proof_text.specs.Faults.{IsTextOf, LogFault}
pub use Rattle.proof_text.specs.Laws.{TextsHaveOneReading}
pub use Rattle.proof_text.specs.Limits.{most_bytes}
pub use Rattle.proof_text.specs.Numerals.{numeral}
pub use Rattle.proof_text.specs.Texts.{clause_text, head_text, hints_text, literal_text, log_text, proof_text, step_text, text_of, widths_text}
unfoldable pub use Rattle.proof_text.specs.WellFormed.{in_name}
pub use Rattle.proof_text.specs.WellFormed.{IsName, IsWellFormed}
pub use Rattle.proof_text.specs.declared.fault.LogFaultKind.{LogFaultKind}
pub use Rattle.proof_text.specs.declared.fault.LogFaultKind.TheVariants.{Repeated}
pub use Rattle.proof_text.specs.declared.proof.Proof.{Proof}
pub use Rattle.refusal.specs.Refusals.{IfRefused}
pub use Rattle.refusal.specs.declared.refusal.Refusal.{Refusal}
pub use Rattle.refusal.specs.declared.refusal.Refusal.TheVariants.{NoMemory, Refused}
pub use Rattle.rule_core.specs.Checks.{AreDistinct}
pub use Rattle.rule_core.specs.Typing.{IsTyping}
pub use Rattle.rule_core.specs.declared.rule.Rule.{Rule}
pub use Rattle.rule_typing.specs.Classes.{IsClassified}
pub use Rattle.scan.proofs.Fronts.{which}
pub use Rattle.scan.proofs.PlaceLemmas.{feeds_append}
unfoldable pub use Rattle.scan.specs.Bytes.{is_blank, is_printable}
pub use Rattle.scan.specs.Bytes.{is_digit}
pub use Rattle.scan.specs.Lines.{feeds}
pub use Rattle.std.proofs.Math.Seq.{take-append_seam}
pub use Rattle.std.proofs.lemmas.Bool.{cases_lt, eqb-true, false≢true}
pub use Rattle.std.proofs.lemmas.Bool.Decides.{Decides-and, Decides-eqb}
pub use Rattle.std.proofs.lemmas.List.{append-nil, nil_from_length, take-append-le}
pub use Rattle.std.proofs.lemmas.List.Concat.{flat_map-append}
pub use Rattle.std.proofs.lemmas.List.Elements.{All-contains_itself, All-weaker}
pub use Rattle.std.proofs.lemmas.Option.{same_Some, slice_get-get_or, slice_get_within}
pub use Rattle.std.proofs.lemmas.Result.{IfErr-weaker, IfOk-weaker, err_from_is_err_and}
pub use Rattle.std.proofs.lemmas.Slice.Eq.{bytes_eq-Decides}
pub use Rattle.std.proofs.lemmas.Slice.Zip.{all_zipped_more}
pub use Rattle.std.specs.Bool.{Decides}
pub use Rattle.std.specs.List.{AllByRecursion, AllZip, list_any}
pub use Rattle.std.specs.Map.{lookup}
pub use Rattle.std.specs.Str.{bytes_eq}
pub use Rattle.std.specs.Vec.Iter.{into_iter_items}
