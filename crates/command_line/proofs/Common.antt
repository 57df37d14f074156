-- What the proofs of this crate cite of definitions, of other crates and of the libraries, passed on from one place.
pub use Rattle.std.proofs.Common.{Bool, Err, IsSomeAnd, List, None, Ok, Option, Result, Some, [], ap, append_assoc, ap₂, arith, codes, drop, encode_utf8, false, filter, find, fold, get_or, if◌then◌else◌, inl, inr, is_some, leb-true, length, lit<, map, nat_le, nat_lt, not, refl, rules, slice_get, slice_index, string_bytes, subst, suc, sym, take, true, zero, ℕ, ◌&&◌, ◌++◌, ◌+◌, ◌-◌, ◌<◌, ◌==◌, ◌^◌, ◌||◌, ◌∙◌, ◌∷◌, ◌≡◌, ◌≢◌, ◌≤◌}
pub use Rattle.clap.proofs.CallerLemmas.{some_of_text}
unfoldable pub use Rattle.clap.proofs.OnLiterals.{clap_on_literals}
pub use Rattle.clap.proofs.SimpleLemmas.{plain_fields}
pub use Rattle.clap.proofs.ValueTestLemmas.{accepts-Accepts}
pub use Rattle.clap.proofs.WalkLemmas.{both, first_value-rows, list_any-map, one_text-rows, raw_values-rows}
pub use Rattle.clap.specs.Facts.{explicit_source, parser_of_value, unwrap_or_range}
pub use Rattle.clap.specs.Kinds.{Kinds, or_else, range_kinds, value_kinds, values_kinds}
pub use Rattle.clap.specs.Lexer.{long_of, short_of}
pub use Rattle.clap.specs.Simple.{argument_words, built, built_leaf, entered, inherited, label_of, names_of, new_shape, rows_at}
pub use Rattle.clap.specs.ValueTests.{accepts}
pub use Rattle.clap.specs.Values.{is_request, read_as}
unfoldable pub use Rattle.clap.specs.Walk.{bundle_met, walked}
pub use Rattle.clap.specs.Walk.{Held, Names, Outcome, Step, Waiting, Walk, action_of, after_flag, after_step, answers_to, arg_by_id, arg_by_index, arg_by_long, arg_by_short, at_row, attached_value, bundle, bundle_step, default_rows, done, finished, first_of, flag_met, has_row, idle, is_empty, is_pending, long_met, long_or_other, more_values, most_values, next, nothing_held, one_of, option, option_met, option_word, plain, plain_word, positional, reacted, reading_by, refused, row_text, rows_after, settled, settled_rows, short_met, short_or_plain, stop_after, subcommand, subcommand_met, subcommand_or_other, takes_several, takes_values, to_positional, trailing, used, used_as, used_by_id, value, values_or_missing, waits, walk, walk_from, walked_from, with_default, with_values, without, word_met}
pub use Rattle.clap.specs.Words.{AddsArg, AddsInTurn, AddsSubcommand, HasMatchesOf, ReadsOne, app_of, fault_of, found_of, is_simple_and_free, kind_of, one_text, rows_of, subcommand_of, subcommand_rows_of, takes, with_rule, with_subcommand}
pub use Rattle.clap.specs.declared.builder.Arg.{Arg}
pub use Rattle.clap.specs.declared.builder.action.ArgAction.{ArgAction}
pub use Rattle.clap.specs.declared.builder.action.ArgAction.TheVariants.{Append, Count, Help, HelpLong, HelpShort, Set, SetFalse, SetTrue, Version}
pub use Rattle.clap.specs.declared.builder.value_parser.Reading.{Reading}
pub use Rattle.clap.specs.declared.builder.value_parser.ValueParser.{ValueParser}
pub use Rattle.clap.specs.declared.builder.value_parser.ValueParser.TheVariants.{Unsigned}
pub use Rattle.clap.specs.declared.error.kind.ErrorKind.{ErrorKind}
pub use Rattle.clap.specs.declared.error.kind.ErrorKind.TheVariants.{OutOfMemory}
pub use Rattle.clap.specs.declared.parser.matches.ArgMatches.{ArgMatches}
pub use Rattle.clap.specs.declared.parser.matches.Found.{Found}
pub use Rattle.clap.specs.declared.parser.matches.ValueSource.{ValueSource}
pub use Rattle.clap.specs.declared.parser.matches.ValueSource.TheVariants.{CommandLine, DefaultValue}
pub use Rattle.command_line.specs.Arguments.{HasLoad, HasNumberUpTo, HasOptimise, HasRecheck, HasRun, HasTruth, HasVerify, IsKnown, IsUntaken}
pub use Rattle.command_line.specs.Definition.{load_shape, optimise_shape, program, recheck_shape, run_shape, verify_shape}
pub use Rattle.command_line.specs.Descriptions.{IsDescribedArgument, rule_described, shape_described}
pub use Rattle.command_line.specs.Laws.{SameCommand}
pub use Rattle.command_line.specs.Leaf.{IsLeaf}
pub use Rattle.command_line.specs.Limits.{most_blocks, most_conflicts, most_number, most_steps}
pub use Rattle.command_line.specs.Spans.{begins_with_zero_or_plus, is_in, is_in_some, span_in, span_of, width_of}
unfoldable pub use Rattle.command_line.specs.Widths.{up_to}
pub use Rattle.command_line.specs.Widths.{is_hyphen, is_item, is_width, is_width_list, items, last_of_item, names, number, widths_named}
unfoldable pub use Rattle.command_line.specs.Words.{are_taken, command_and_rows}
pub use Rattle.command_line.specs.Words.{HasFlag, SaysOf, number_said}
pub use Rattle.command_line.specs.declared.command.Command.TheVariants.{Load, Optimise, Recheck, Run, Verify}
pub use Rattle.command_line.specs.declared.command.CommandError.{CommandError}
pub use Rattle.command_line.specs.declared.command.CommandError.TheVariants.{NoMemory, Usage}
pub use Rattle.command_line.specs.declared.command.OptimiseOptions.{OptimiseOptions}
pub use Rattle.command_line.specs.declared.command.RecheckOptions.{RecheckOptions}
pub use Rattle.command_line.specs.declared.command.RunOptions.{RunOptions}
pub use Rattle.command_line.specs.declared.command.VerifyOptions.{VerifyOptions}
pub use Rattle.command_line.specs.declared.descriptions.Argument.{Argument}
pub use Rattle.command_line.specs.declared.descriptions.Described.{Described}
pub use Rattle.command_line.specs.declared.widths.Span.{Span}
pub use Rattle.std.proofs.lemmas.Bool.{le-leb}
pub use Rattle.std.proofs.lemmas.Bool.Decides.{nat_tests}
pub use Rattle.std.proofs.lemmas.Iterator.Consumers.{map_from_collect}
pub use Rattle.std.proofs.lemmas.Iterator.Splits.{YieldsList-from_str_split}
pub use Rattle.std.proofs.lemmas.List.{append-nil, map-append, take_all, take_more}
pub use Rattle.std.proofs.lemmas.List.Elements.{filter-append}
pub use Rattle.std.proofs.lemmas.List.Folds.{list_all-append, list_all-map, list_all_at, list_all_more}
pub use Rattle.std.proofs.lemmas.Option.{MatchOption-at_none, MatchOption-at_some}
pub use Rattle.std.proofs.lemmas.Result.{IfOk-weaker, OkIff-at_ok}
pub use Rattle.std.proofs.lemmas.Slice.Eq.{bytes_eq-Decides}
pub use Rattle.std.proofs.lemmas.Slice.Zip.{all_zipped_more}
pub use Rattle.std.proofs.lemmas.Str.Parse.{IsNumeralModel, numerals_by_value, parse_gives, parse_plain, tells_all_ascii_digits}
pub use Rattle.std.specs.Borrow.{Bor}
unfoldable pub use Rattle.std.specs.Fmt.{digits}
pub use Rattle.std.specs.List.{AllByRecursion, AllZip, list_all, list_any, position_or_len}
pub use Rattle.std.specs.Option.{option_map, option_map_or}
pub use Rattle.std.specs.Prelude.{unwrap_or}
pub use Rattle.std.specs.Str.{all_ascii_digits, bytes_eq, chars}
pub use Rattle.std.specs.Str.Parse.{ExplainsUnsignedError, HasUnsignedDigitsIfOk, ParsesUnsigned, digits_value}
