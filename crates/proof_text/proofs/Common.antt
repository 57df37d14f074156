-- What the proofs of this crate cite of definitions, of other crates and of the libraries, passed on from one place.
pub use Rattle.std.proofs.Common.{Bool, Err, IfNone, IfOk, List, MatchOption, None, Ok, Option, Result, Some, [], ap, append_assoc, arith, codes, cond, decimal, drop, false, flat_map, get_or, if◌then◌else◌, inl, inr, length, length-append, map, refl, rules, subst, suc, sym, take, true, zero, ℕ, ◌%◌, ◌*◌, ◌++◌, ◌+◌, ◌-◌, ◌/◌, ◌<◌, ◌==◌, ◌^◌, ◌∙◌, ◌∷◌, ◌≡◌, ◌≢◌, ◌≤◌, ◌⊎◌}
pub use Rattle.clauses.specs.Literal.{Lit}
pub use Rattle.clauses.specs.declared.step.Step.{Step}
pub use Rattle.proof_text.specs.Faults.{Fits, IsAtByte, IsAtEnd, IsLogFault, IsTextOf, LogFault, at_byte, at_end, kind_of, too_long}
pub use Rattle.proof_text.specs.Laws.{TextsHaveOneReading, WrittenIsRead}
pub use Rattle.proof_text.specs.Limits.{most_bytes, most_number, most_variable}
unfoldable pub use Rattle.proof_text.specs.Numerals.{numeral}
pub use Rattle.proof_text.specs.Reading.{BeginsNoNumber, Clauses, EndsName, FaultAt, Fixed, GoesOn, Heads, Hints, IsEnd, IsHeld, IsLonger, IsLongest, Lacks, Language, Lists, Literals, Logs, NoLine, NoParts, NoWidths, NotNext, Numbers, Proofs, ReadsNumber, Steps, Stops, StopsAt, StopsIn, Takes, held, line_text}
pub use Rattle.proof_text.specs.Texts.{clause_text, head_text, hints_text, literal_text, log_text, proof_text, step_text, text_of, widths_text}
unfoldable pub use Rattle.proof_text.specs.WellFormed.{in_name}
pub use Rattle.proof_text.specs.WellFormed.{AreWellFormed, AreWidths, IsLiteral, IsName, IsNumber, IsStep, IsWellFormed}
pub use Rattle.proof_text.specs.declared.fault.LogFaultKind.{LogFaultKind}
pub use Rattle.proof_text.specs.declared.fault.LogFaultKind.TheVariants.{Syntax}
pub use Rattle.proof_text.specs.declared.proof.Proof.{Proof}
pub use Rattle.refusal.specs.declared.refusal.Refusal.{Refusal}
pub use Rattle.refusal.specs.declared.refusal.Refusal.TheVariants.{NoMemory, Refused}
unfoldable pub use Rattle.scan.specs.Bytes.{is_blank, is_digit, is_printable}
pub use Rattle.scan.specs.Lines.{feeds, last_line}
pub use Rattle.std.proofs.lemmas.Bool.Decides.{nat_tests}
pub use Rattle.std.proofs.lemmas.Fmt.{decimal-digits_of, decimal_digit}
pub use Rattle.std.proofs.lemmas.Int.Digits.{all_below_base_digits_of, digits_of_step, first_digits_of, number_after_append, number_after_ge, number_digits_of}
pub use Rattle.std.proofs.lemmas.List.{append-nil, append_cancel_left, append_cancel_right, length-map, length-take, map-append, take-append-drop, take_more}
pub use Rattle.std.proofs.lemmas.List.Concat.{flat_map-append}
pub use Rattle.std.specs.Int.Digits.{digits_of, number_from_digits_after}
pub use Rattle.std.specs.List.{AllByRecursion, join_with_byte, prefix_len}
pub use Rattle.std.specs.Result.{IfErr, IsErr, IsErrAnd}
