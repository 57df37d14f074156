-- What the proofs of this crate cite of definitions, of other crates and of the libraries, passed on from one place.
pub use Rattle.std.proofs.Common.{All, Bool, Bor, List, MatchOption, None, Option, Some, [], add-one, ap, append_assoc, arith, codes, cond, drop, drop-cons, eqb, false, get_or, inl, inr, length, map, refl, rules, slice_get, subst, suc, sym, take, tests, zero, zero-add, ℕ, ◌++◌, ◌+◌, ◌<◌, ◌^◌, ◌∙◌, ◌∷◌, ◌≡◌, ◌≤◌}
pub use Rattle.ir_core.specs.Names.{Name, block_names, block_place, names_of, place_of}
pub use Rattle.ir_core.specs.declared.function.Block.{Block}
pub use Rattle.ir_core.specs.declared.function.Function.{Function}
pub use Rattle.ir_core.specs.declared.module.Entry.{Entry}
pub use Rattle.ir_core.specs.declared.module.Module.{Module}
pub use Rattle.ir_core.specs.declared.operand.Register.{Register}
pub use Rattle.ir_printer.specs.FewNames.{EntryHasFewNames, HasFewNames}
pub use Rattle.ir_printer.specs.Gaps.{gap_before}
pub use Rattle.ir_printer.specs.Pieces.{piece_text, pieces_text, text_with}
pub use Rattle.ir_printer.specs.Rest.{rest_of_report}
pub use Rattle.ir_printer.specs.Series.{Adds, AreBlockStarts, next_after, seen}
pub use Rattle.ir_printer.specs.declared.piece.Piece.{Piece}
pub use Rattle.ir_reader.specs.Faults.{IsModuleText}
pub use Rattle.ir_resolve.specs.Identifiers.{identifier_of, identifiers_from, identifiers_of}
pub use Rattle.ir_text.specs.Laws.{HasFewThings}
pub use Rattle.ir_text.specs.NameText.{escaped}
pub use Rattle.ir_text.specs.PrintedText.{between_text, block_identifier, block_text, case_text, entries_text, entry_text, flag_text, incoming_text, inst_text, item_text, parameter_text}
pub use Rattle.ir_text.specs.Report.{entries_report}
pub use Rattle.ir_tokens.specs.declared.called.Identifier.{Identifier}
pub use Rattle.ir_tokens.specs.declared.called.Identifier.TheVariants.{Named, Numbered}
pub use Rattle.std.proofs.lemmas.Bool.{cases_lt}
pub use Rattle.std.proofs.lemmas.List.{drop_all, flat_map_more, get_or_append_left, get_or_default, get_or_push, length-append, length-map, length-take-le, map_more, take-take, take_all, take_more}
pub use Rattle.std.proofs.lemmas.List.Concat.{flat_map-append}
pub use Rattle.std.proofs.lemmas.List.Elements.{All-more}
pub use Rattle.std.proofs.lemmas.List.FromFn.{get_or-enumerate_from, length-enumerate_from}
pub use Rattle.std.proofs.lemmas.Option.{get_or_from_slice_get, slice_get-get_or, slice_get_past, slice_get_within}
pub use Rattle.std.specs.List.{enumerate_from, flat_map, join_by}
pub use Rattle.std.specs.Option.{option_copied}
