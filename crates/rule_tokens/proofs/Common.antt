-- What the proofs of this crate cite of definitions, of other crates and of the libraries, passed on from one place.
pub use Rattle.std.proofs.Common.{Bool, Err, List, None, Ok, Option, Result, Some, [], ap, append_assoc, arith, codes, cond, drop, eqb, false, find, inl, inr, leb, length, max, min, refl, subst, suc, sym, take, true, zero, ℕ, ⊎_elim, ◌&&◌, ◌++◌, ◌+◌, ◌-◌, ◌<◌, ◌==◌, ◌^◌, ◌∙◌, ◌∷◌, ◌≡◌, ◌≢◌, ◌≤◌, ◌⊎◌}
pub use Rattle.ops.proofs.KeywordLemmas.{found-passes, same_word}
pub use Rattle.rule_tokens.specs.Contexts.{at_start, behind_name, context_behind}
pub use Rattle.rule_tokens.specs.Limits.{Limits}
unfoldable pub use Rattle.rule_tokens.specs.Numbers.{type_in}
pub use Rattle.rule_tokens.specs.Numbers.{IsWrittenType, decimal_value}
unfoldable pub use Rattle.rule_tokens.specs.PartReaders.{maybe_type, name_within, type_at}
pub use Rattle.rule_tokens.specs.PartReaders.{fault, line_end, or_left_out, type_or_word}
pub use Rattle.rule_tokens.specs.Parts.{Is, Maybe, Nothing, Part, ◌⨾◌}
pub use Rattle.rule_tokens.specs.RuleFaults.{RuleFault}
pub use Rattle.rule_tokens.specs.SeenTokens.{seen, seen_token}
pub use Rattle.rule_tokens.specs.Steps.{◌>>=◌}
pub use Rattle.rule_tokens.specs.Tokens.{AreTokens, AtName, AtToken, Bad, IsNameToken, Line, Mark, Name, Place, Token, TokensFrom, Word, bad_name, bad_token, bytes_at, ends, is_called, name, place_behind, token, token_at, token_of, token_on}
pub use Rattle.rule_tokens.specs.TypeTokens.{SpellsType}
unfoldable pub use Rattle.rule_tokens.specs.Versions.{version_in}
pub use Rattle.rule_tokens.specs.Versions.{version_number, versions}
pub use Rattle.rule_tokens.specs.declared.context.Context.{Context}
pub use Rattle.rule_tokens.specs.declared.fault.RuleFaultKind.TheVariants.{TooMany}
pub use Rattle.rule_tokens.specs.declared.version.Version.{Version}
pub use Rattle.rule_tokens.specs.declared.version.Version.TheVariants.{One, Two}
pub use Rattle.scan.proofs.Fronts.{and_left, and_right, which}
pub use Rattle.scan.proofs.GapLemmas.{GapTo, gap_to}
pub use Rattle.scan.proofs.KindLemmas.{begins_other, begins_token, kind_of-empty}
pub use Rattle.scan.proofs.PlaceLemmas.{Behind, next_bad, next_token, rest_within}
pub use Rattle.scan.specs.Bytes.{are_digits, begins_with, is_bad, is_blank}
pub use Rattle.scan.specs.GapFronts.{behind_gap, in_gap}
pub use Rattle.scan.specs.Laws.{IsNext, OneTokenAtAPlace}
pub use Rattle.scan.specs.Lines.{between, feeds, line_of}
pub use Rattle.scan.specs.Longest.{IsLongestOf}
pub use Rattle.scan.specs.Names.{IsNameNext, blanks_before, blanks_behind, rest_of_line}
pub use Rattle.scan.specs.RuleTokens.{Begins, IsBadNext, IsLongestToken, IsNextRuleToken, in_operator_place, kind_of, line_at}
pub use Rattle.scan.specs.declared.bad_byte.BadByte.{BadByte}
pub use Rattle.scan.specs.declared.rule_token.RuleKind.{RuleKind}
pub use Rattle.scan.specs.declared.rule_token.RuleKind.TheVariants.{End, Number, Other}
pub use Rattle.scan.specs.declared.rule_token.RuleToken.{RuleToken}
pub use Rattle.scan.specs.declared.span.Span.{Span}
pub use Rattle.std.proofs.lemmas.Bool.{eqb-true, false≢true, le-leb, leb-true}
pub use Rattle.std.proofs.lemmas.List.{append-nil, map_push, nil_from_length}
pub use Rattle.std.proofs.lemmas.List.Sums.{prefix_len-le-length}
pub use Rattle.std.specs.List.{list_any}
pub use Rattle.std.specs.Str.{bytes_eq}
