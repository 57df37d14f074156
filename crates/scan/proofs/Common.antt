-- What the proofs of this crate cite of definitions, of other crates and of the libraries, passed on from one place.
pub use Rattle.std.proofs.Common.{Bool, Err, List, None, Ok, Option, Some, [], add-one, ap, append_assoc, arith, codes, cond, drop, eqb, false, get_or, inl, inr, leb, length, ltb, map, max, not, refl, sub-one, subst, suc, sym, take, true, zero, ℕ, ⊎_elim, ◌&&◌, ◌*◌, ◌++◌, ◌+◌, ◌-◌, ◌<◌, ◌||◌, ◌∙◌, ◌∷◌, ◌≡◌, ◌≢◌, ◌≤◌, ◌⊎◌}
unfoldable pub use Rattle.scan.specs.Bytes.{begins_name, begins_word, is_bad, is_blank, is_digit, is_letter, is_name_byte, is_printable, is_space}
pub use Rattle.scan.specs.Bytes.{begins_with, is_register_byte, is_run, is_run_behind, is_word_byte}
pub use Rattle.scan.specs.GapFronts.{behind_gap, in_gap}
pub use Rattle.scan.specs.Gaps.{IsGap, IsInLine, IsLastGap, comment, space}
unfoldable pub use Rattle.scan.specs.IrTokens.{is_function, is_group, is_label, is_metadata, is_name, is_number, is_plain_name, is_word}
pub use Rattle.scan.specs.IrTokens.{BeginsBadly, HoldsZero, IsBadToken, IsLongestFront, IsNextToken, is_behind, spells}
unfoldable pub use Rattle.scan.specs.Kept.{is_plain}
pub use Rattle.scan.specs.Kept.{HasNoGroup, IsBalanced, IsGroup, byte, group, quoted}
pub use Rattle.scan.specs.Laws.{OneGroupAtAPlace, OneModuleTokenAtAPlace, OneTokenAtAPlace}
pub use Rattle.scan.specs.Lines.{between, feeds, line_of}
pub use Rattle.scan.specs.Longest.{IsLongest, IsLongestOf}
unfoldable pub use Rattle.scan.specs.Names.{is_in_rest}
pub use Rattle.scan.specs.Names.{rest_of_line}
pub use Rattle.scan.specs.Places.{Place}
unfoldable pub use Rattle.scan.specs.Quoted.{is_hex, is_quotable, is_quoted, unquoted}
pub use Rattle.scan.specs.Quoted.{hex_value, in_quotes}
unfoldable pub use Rattle.scan.specs.RuleTokens.{is_choice, is_constant, is_literal, is_mark, is_negative, is_placed_operator, is_remainder, is_rule_word, is_unsigned_operator, kind_of}
pub use Rattle.scan.specs.RuleTokens.{IsBadNext, IsNextRuleToken, arrows, begins_argument, heads, in_operator_place, is_among}
pub use Rattle.scan.specs.declared.bad_byte.BadByte.{BadByte}
pub use Rattle.scan.specs.declared.ir.token.Token.{Token}
pub use Rattle.scan.specs.declared.ir.token.TokenKind.{TokenKind}
pub use Rattle.scan.specs.declared.ir.token.TokenKind.TheVariants.{Function, Group, Label, Metadata, Quoted}
pub use Rattle.scan.specs.declared.rule_token.RuleKind.{RuleKind}
pub use Rattle.scan.specs.declared.rule_token.RuleKind.TheVariants.{Arrow, Head}
pub use Rattle.scan.specs.declared.rule_token.RuleToken.{RuleToken}
pub use Rattle.scan.specs.declared.span.Span.{Span}
pub use Rattle.std.proofs.Math.Nat.{max-zero, zero-max}
pub use Rattle.std.proofs.Math.Numerals.{one-add}
pub use Rattle.std.proofs.Math.Seq.{drop-cons}
pub use Rattle.std.proofs.lemmas.Bool.{cases_lt, eqb-false, eqb-true, false≢true, leb-false, leb-true}
pub use Rattle.std.proofs.lemmas.List.{append-nil, at_drop_all, at_drop_more, drop-drop, drop-take, drop_all, drop_at, drop_more, get_or-take, length-append, length-drop, length-take, length-take-le, map-append, nil_from_length, take-append-drop, take-take, take_all, take_at, take_more, take_rest}
pub use Rattle.std.proofs.lemmas.List.Folds.{list_all-append, list_all_more, list_any-append, list_any_at}
pub use Rattle.std.proofs.lemmas.List.Sums.{count_by_more_no, count_by_more_yes, prefix_len-le-length, sum_by-append}
pub use Rattle.std.proofs.lemmas.Slice.Eq.{bytes_eq-Decides}
pub use Rattle.std.specs.List.{AllByRecursion, Contains, list_all, list_any, prefix_len, take_while}
pub use Rattle.std.specs.Str.{bytes_eq}
