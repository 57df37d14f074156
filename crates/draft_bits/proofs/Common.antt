-- What the proofs of this crate cite of definitions, of other crates and of the libraries, passed on from one place.
pub use Rattle.std.proofs.Common.{All, IfSome, [], get_or, get_or-set_other, get_or-set_same, length-set, slice_set, sum_by, ◌+◌, ◌*◌, ◌-◌, ◌++◌, ◌∷◌, Contains, List, None, Option, Some, ap, ap₂, arith, if◌then◌else◌, inl, inr, length, nat_lt, ne_eqb, eq-eqb, refl, slice_get, subst, suc, sym, take, unwrap_or, zero, ℕ, ◌<◌, ◌∙◌, ◌≡◌, ◌≤◌, ◌⊎◌}
pub use Rattle.bindings.specs.Laws.{ReadsStandBefore}
pub use Rattle.bindings.specs.Known.{known_by, known_in}
pub use Rattle.circuits.specs.declared.known_bit.KnownBit.{KnownBit}
pub use Rattle.draft.proofs.Substituted.{itself, op_itself, operand_itself}
pub use Rattle.draft.proofs.NumberedInsts.{inst-numbered}
pub use Rattle.draft.proofs.Wholeness.{few_insts, stands_there}
pub use Rattle.draft.specs.Drafts.{Stands, arena_of, function_of, numbers_in, numbers_of, placed}
pub use Rattle.draft.specs.Whole.{IsSettled, IsWhole}
pub use Rattle.draft.specs.declared.draft.Draft.{Draft}
pub use Rattle.draft_bits.specs.DraftBits.{AreBitsBefore, AreBitsOf, AreFactsIn, HasFewBits, HasSameBits, IsIdle, IsRight, KeepsNoneWaiting, StandsReached, facts_at, results_at}
pub use Rattle.draft_bits.specs.Laws.{DraftBitsAreKnownBits}
pub use Rattle.draft_bits.specs.Updates.{AreGrown, HasEntries, IsLonger, IsPut, IsReplaced, IsUpdating, Takes}
pub use Rattle.draft_bits.specs.declared.bits.DraftBits.{DraftBits}
pub use Rattle.draft_steps.proofs.Arranged.{is_arranged}
pub use Rattle.draft_steps.proofs.Places.{inst_on}
pub use Rattle.draft_steps.proofs.Positions.{reads_up}
pub use Rattle.draft_steps.proofs.WalkDrafts.{place-among}
pub use Rattle.draft_steps.proofs.WhoReads.{end_of-is}
pub use Rattle.draft_steps.proofs.WorklistSteps.{stands-comes}
pub use Rattle.draft_steps.specs.Arranged.{AreArranged, arranged, row_of}
pub use Rattle.draft_steps.specs.MatchLaws.{KnowsTheUntouched}
pub use Rattle.ir_core.specs.Checks.{IsInst, IsPhi, MeetsChecks}
pub use Rattle.ir_core.specs.Reads.{IsRead, Read, end_of, read, reads_of}
pub use Rattle.ir_core.specs.Walks.{IsReached}
pub use Rattle.ir_core.specs.declared.function.Block.{Block}
pub use Rattle.ir_core.specs.declared.function.Function.{Function}
pub use Rattle.ir_core.specs.declared.instruction.Inst.{Inst}
pub use Rattle.ir_core.specs.declared.instruction.Op.{Op}
pub use Rattle.ir_core.specs.declared.operand.Operand.{Operand}
pub use Rattle.ir_core.specs.declared.operand.Register.{Register}
pub use Rattle.ir_meaning.proofs.Equations.{one_inst}
pub use Rattle.ir_meaning.proofs.Pieces.{some_at}
pub use Rattle.known_bits.proofs.BlockResults.{inst_has_widths, result_at}
pub use Rattle.known_bits.proofs.Places.{inst_there}
pub use Rattle.known_bits.specs.KnownBits.{insts_of, known_at, known_operand, known_result, known_results, shifted}
pub use Rattle.known_bits.specs.declared.facts.Facts.{Facts}
pub use Rattle.known_bits.specs.Widths.{HaveWidths}
pub use Rattle.known_bits.specs.Words.{bit_by_bit, known_of, top_of, unknown}
pub use Rattle.bindings.proofs.Reading.{reads_at_inst}
pub use Rattle.rule_typing.proofs.Among.{fails, holds}
pub use Rattle.rule_typing.proofs.Images.{get-append_cases}
pub use Rattle.std.proofs.lemmas.Bool.{cases_eq, cases_lt, cases_order, eqb-false, eqb-true, false≢true}
pub use Rattle.std.proofs.lemmas.List.{get_or_append_left, get_or_default, get_or_past, length_push, take_all}
pub use Rattle.std.proofs.lemmas.List.Elements.{All-contains, All-get_or, All-nil, All-push, All-set, Contains-append_left, Contains-push}
pub use Rattle.std.proofs.lemmas.List.Sums.{get_or-le-sum_by}
pub use Rattle.std.proofs.Math.Nat.{mul-le-mul_right}
pub use Rattle.std.proofs.lemmas.Option.{get_or_from_slice_get, none-some, same_Some, slice_get-get_or, slice_get_past, slice_get_read, slice_get_within}
pub use Rattle.std.proofs.lemmas.Result.{on_ok_weaker}
pub use Rattle.std.specs.Option.{option_map}
pub use Rattle.places.proofs.Tallies.{cases_has}
pub use Rattle.places.specs.Sets.{Has, Rows}
pub use Rattle.places.specs.declared.place.Place.{Place}
pub use Rattle.readers.proofs.Reading.{arena_place_inst, same_place}
pub use Rattle.readers.specs.Readers.{IsPlaceIn, arena_place}
pub use Rattle.substitution.specs.Substitution.{Substitution, substituted_inst, substituted_op, substituted_operand}
