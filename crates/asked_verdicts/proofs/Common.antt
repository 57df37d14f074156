-- What the proofs of this crate cite of definitions, of other crates and of the libraries, passed on from one place.
pub use Rattle.std.proofs.Common.{All, Any, Bool, Contains, Err, IfSome, IsTrue, List, MatchBool, Ok, OnErr, Result, Some, [], ap, append_assoc, arith, false, get_or, if◌then◌else◌, inl, inr, length, length-append, map, nat_eq, not, refl, slice_get, subst, suc, sym, take, true, zero, ℕ, ◌&&◌, ◌++◌, ◌+◌, ◌<◌, ◌||◌, ◌∙◌, ◌∷◌, ◌≡◌, ◌≢◌, ◌≤◌, ◌⊎◌}
pub use Rattle.asked_verdicts.specs.AskedAgain.{PairsWithRowsChangeNothing}
pub use Rattle.asked_verdicts.specs.Asks.{AreVerdicts, AreVerdictsOn, Asks, AsksAll, AsksUpTo, IsAnywhere}
pub use Rattle.asked_verdicts.specs.Parts.{AsksToPlace, IsInBlock}
pub use Rattle.asked_verdicts.specs.Stored.{IsUnrefutedIn, Key, is_key_of, log_of, pair_of_key}
pub use Rattle.asked_verdicts.specs.declared.stored.StoredLogs.{StoredLogs}
pub use Rattle.asked_verdicts.specs.declared.verdicts.Verdicts.{Verdicts}
pub use Rattle.bindings.specs.Known.{Knowledge}
pub use Rattle.bindings.specs.Matches.{AreMatchesWhere, ComesBefore, IsAt, IsMatchAmong, IsMatchInAnyOrder, MatchesAmong}
pub use Rattle.bindings.specs.Ready.{AreReady}
pub use Rattle.bindings.specs.declared.rule_match.Match.{Match}
pub use Rattle.circuits.specs.declared.known_bit.KnownBit.{KnownBit}
pub use Rattle.indexmap.specs.IndexSet.{insert_key}
pub use Rattle.ir_core.specs.Checks.{IsFormed, IsInst}
pub use Rattle.ir_core.specs.Reads.{end_of}
pub use Rattle.ir_core.specs.declared.function.Function.{Function}
pub use Rattle.ir_core.specs.declared.instruction.Inst.{Inst}
pub use Rattle.ir_meaning.proofs.Pieces.{contains_at, place_in, some_at}
pub use Rattle.known_bits.proofs.BlockResults.{inst_has_widths, results_more, results_none}
pub use Rattle.known_bits.proofs.Places.{inst_there}
pub use Rattle.known_bits.specs.KnownBits.{insts_of, known_operand, known_result, known_results}
pub use Rattle.known_bits.specs.Widths.{HaveWidths}
pub use Rattle.rule_core.specs.Checks.{IsRule}
pub use Rattle.rule_core.specs.Typing.{IsTyping}
pub use Rattle.rule_core.specs.declared.rule.Rule.{Rule}
pub use Rattle.rule_matches.proofs.Joining.{before_chosen, joined, joined_before, none_where, same_where}
pub use Rattle.rule_matches.proofs.Rooting.{before_end, root_stands}
pub use Rattle.rule_typing.proofs.Images.{Contains-map, from_map, get-append_cases}
pub use Rattle.std.proofs.lemmas.Bool.{cases_lt, false≢true}
pub use Rattle.std.proofs.lemmas.Bool.Decides.{Decides-and, Decides-eqb, Decides-like, when_false, when_true}
pub use Rattle.std.proofs.lemmas.List.{length-map, map-append, take-append-le, take_all, take_more}
pub use Rattle.std.proofs.lemmas.List.Elements.{All-append, All-cons, All-contains, All-head, All-nil, All-push, All-tail, Contains-append_left, Contains-append_right, Contains-get_or, Contains-push, Contains-push_cases}
pub use Rattle.std.proofs.lemmas.List.Folds.{Any-from_list_any}
pub use Rattle.std.proofs.lemmas.List.Quantifiers.{Any-push}
pub use Rattle.std.proofs.lemmas.Option.{get_or_from_slice_get, same_Some, slice_get-get_or, slice_get-map, slice_get_read, slice_get_within}
pub use Rattle.std.proofs.lemmas.Result.{on_ok_weaker}
pub use Rattle.std.proofs.lemmas.Slice.Eq.{bytes_eq-Decides}
pub use Rattle.std.specs.Bool.{Decides}
pub use Rattle.std.specs.List.{list_any}
unfoldable pub use Rattle.std.specs.Map.{KeepsOthers}
pub use Rattle.std.specs.Map.{lookup}
pub use Rattle.std.specs.Option.{option_map}
pub use Rattle.std.specs.Str.{bytes_eq}
pub use Rattle.strategy_core.specs.Asked.{AreFirstAsked, HasVerdict, IsAskedBefore, IsTurnedDown, Pair, pair_in, pair_of}
pub use Rattle.verdict.specs.Honest.{IsHonest}
pub use Rattle.verdict.specs.Proved.{IsUnrefutedBy}
pub use Rattle.verdict.specs.Table.{IsHonestRow, IsHonestTable}
pub use Rattle.verdict_core.specs.declared.verdicts.Row.{Row}
pub use Rattle.verdict_core.specs.declared.verdicts.Verdict.TheVariants.{Admitted}
