-- What the proofs of this crate cite of definitions, of other crates and of the libraries, passed on from one place.
pub use Rattle.std.proofs.Common.{Bool, Err, List, None, Ok, Option, Result, Some, [], ap, append_assoc, arith, drop, eqb, false, fold, get_or, if◌then◌else◌, inl, inr, length, negsuc, not, pos, refl, subst, suc, sym, take, true, unsigned_abs, zero, ℕ, ℤ, ⊎_elim, ◌*◌, ◌++◌, ◌+◌, ◌-◌, ◌<◌, ◌^◌, ◌∙◌, ◌∷◌, ◌≡◌, ◌≢◌, ◌≤◌, ◌⊎◌}
unfoldable pub use Rattle.ir_tokens.specs.Numbers.{constant_of, is_in_range}
pub use Rattle.ir_tokens.specs.Numbers.{decimal_value, number_of}
pub use Rattle.ir_tokens.specs.Order.{AreTokens, HasExtent, IsTokenAt, TokensFrom, bad_byte, itself, kept_group, kept_line, last, token, unclosed}
unfoldable pub use Rattle.ir_tokens.specs.Places.{begins_kept, extent_of}
pub use Rattle.ir_tokens.specs.Places.{place_behind}
pub use Rattle.ir_tokens.specs.ReaderPlaces.{HasPassed, IsOneEntry, MayBegin, place_behind_all}
pub use Rattle.ir_tokens.specs.SeenTokens.{seen_placed}
pub use Rattle.ir_tokens.specs.Tokens.{Bad, Kept, KeptGroup, Other, Placed, is_last, token_of}
pub use Rattle.ir_tokens.specs.declared.place.Extent.{Extent}
pub use Rattle.ir_tokens.specs.declared.place.Section.{Section}
pub use Rattle.ir_tokens.specs.declared.place.Section.TheVariants.{AtEntry, InBody, InHeader}
pub use Rattle.scan.proofs.Fronts.{which}
pub use Rattle.scan.proofs.GapLemmas.{GapTo, gap_to}
pub use Rattle.scan.proofs.KeptLemmas.{closed, closing, group_at, no_group_at, not_closed}
pub use Rattle.scan.proofs.ModulePlaces.{longest_some, next_bad, next_token}
pub use Rattle.scan.proofs.ModuleTokens.{begins_other, begins_token, longest_token, short_holds_none}
pub use Rattle.scan.proofs.PlaceLemmas.{Behind}
pub use Rattle.scan.proofs.QuotedLemmas.{zero_contained, zero_found}
pub use Rattle.scan.specs.Bytes.{begins_with, is_bad}
pub use Rattle.scan.specs.GapFronts.{behind_gap, in_gap}
pub use Rattle.scan.specs.IrTokens.{Begins, BeginsBadly, BeginsNoToken, HoldsZero, IsBadToken, IsLongestFront, IsLongestToken, IsNextToken, line_at, spells}
pub use Rattle.scan.specs.Kept.{HasNoGroup, IsGroup, IsKeptLine, rest_to_feed}
pub use Rattle.scan.specs.Laws.{IsNextOfModule, OneGroupAtAPlace, OneModuleTokenAtAPlace}
pub use Rattle.scan.specs.Lines.{between, feeds}
pub use Rattle.scan.specs.Names.{blanks_behind}
unfoldable pub use Rattle.scan.specs.Quoted.{unquoted}
pub use Rattle.scan.specs.Quoted.{in_quotes}
pub use Rattle.scan.specs.declared.bad_byte.BadByte.{BadByte}
pub use Rattle.scan.specs.declared.ir.token.Token.{Token}
pub use Rattle.scan.specs.declared.ir.token.TokenKind.{TokenKind}
pub use Rattle.scan.specs.declared.span.Span.{Span}
pub use Rattle.std.proofs.Math.Pow.{pow_mono}
pub use Rattle.std.proofs.Math.Seq.{take-append_seam}
pub use Rattle.std.proofs.lemmas.Bool.{cases_lt, false≢true}
pub use Rattle.std.proofs.lemmas.Int.{ints}
pub use Rattle.std.proofs.lemmas.List.{length-append, length-drop, length-take, map_push, nil_from_length, take-append-le, take_all}
pub use Rattle.std.proofs.lemmas.List.Folds.{length-prefix_len}
pub use Rattle.std.proofs.lemmas.List.Sums.{fold-append, fold_more, prefix_len-le-length}
pub use Rattle.std.specs.List.{list_any}
