-- What the proofs of this crate cite of definitions, of other crates and of the libraries, passed on from one place.
pub use Rattle.std.proofs.Common.{Bool, Contains, List, None, Option, Some, [], ap, arith, cond, false, get_or, inl, inr, length, map, refl, slice_get, subst, suc, sym, true, zero, ℕ, ◌<◌, ◌==◌, ◌^◌, ◌∙◌, ◌∷◌, ◌≡◌}
pub use Rattle.bindings.specs.Ready.{AreReady}
pub use Rattle.bindings.specs.declared.binding.Binding.{Binding}
pub use Rattle.fold_branch.proofs.Naming.{name_was}
pub use Rattle.fold_branch.proofs.Reading.{read_back}
pub use Rattle.fold_branch.specs.Choices.{chosen, jump_or}
pub use Rattle.fold_branch.specs.Folded.{choices_of, folded_as, folded_function}
pub use Rattle.ir_core.specs.Blocks.{IsBlock}
pub use Rattle.ir_core.specs.Checks.{IsInst}
pub use Rattle.ir_core.specs.Names.{Name, block_names, names_of}
pub use Rattle.ir_core.specs.Reads.{IsRead, Read, end_of, read, reads_at_end, reads_by, reads_in, reads_of}
pub use Rattle.ir_core.specs.declared.function.Block.{Block}
pub use Rattle.ir_core.specs.declared.function.Function.{Function}
pub use Rattle.ir_core.specs.declared.instruction.Inst.{Inst}
pub use Rattle.ir_core.specs.declared.instruction.Op.{Op}
pub use Rattle.ir_core.specs.declared.module.Entry.{Entry}
pub use Rattle.ir_core.specs.declared.module.Module.{Module}
pub use Rattle.ir_core.specs.declared.operand.Operand.{Operand}
pub use Rattle.ir_core.specs.declared.terminator.Terminator.{Terminator}
pub use Rattle.ir_meaning.proofs.Pieces.{cases_in, contains_at, place_in}
pub use Rattle.ir_meaning.specs.HistoryLaws.{NumbersFit}
pub use Rattle.ir_round_trip.specs.Laws.{CleanedFunctionsHaveForms, HasAtMost, ModuleTextsAreSmall}
pub use Rattle.ir_text.specs.Forms.{CasesHaveForms, EntryHasForms, FunctionHasForms, IsWidth, ModuleHasForms, OperandFits, ReadHasForms}
pub use Rattle.ops.specs.Number.{Number}
pub use Rattle.optimised_forms.specs.Laws.{FoldedFunctionsHaveForms, FormedModulesNumbersFit, ModuleTextsAreCountable, OptimisedModulesHaveForms, RewrittenFunctionsHaveForms}
pub use Rattle.rewriter.proofs.Fitting.{rewrite_fits}
pub use Rattle.rewriter.proofs.Placed.{PutFor, all_aligned, put_from}
pub use Rattle.rewriter.proofs.Putting.{IsNoCopy, put_op}
pub use Rattle.rewriter.specs.Put.{class_width, rewrite_of}
pub use Rattle.rule_core.proofs.Members.{Contains-flat_map, Contains-from_get, class_stands, flat_map-from, operand_class_stands, target_statement}
pub use Rattle.rule_core.specs.Positions.{classes_of, operands_of}
pub use Rattle.rule_core.specs.Typing.{IsTyping}
pub use Rattle.rule_core.specs.declared.rule.Rule.{Rule}
pub use Rattle.rule_core.specs.declared.rule.Statement.{Statement}
pub use Rattle.std.proofs.lemmas.List.Elements.{Contains-append_cases, Contains-append_left, Contains-append_right, Contains-get_or}
pub use Rattle.std.proofs.lemmas.Option.{get_or_from_slice_get, same_Some, slice_get-get_or, slice_get_within}
pub use Rattle.std.specs.List.{flat_map}
pub use Rattle.strategy_core.proofs.Refining.{IsKept, PartLaws, parts, strategy_keeps}
pub use Rattle.strategy_core.specs.Asked.{Pair}
pub use Rattle.strategy_core.specs.PlainStrategy.{AreOptimised, function, kept, none}
pub use Rattle.substitution.proofs.Arriving.{inst_reads}
pub use Rattle.substitution.proofs.Assigning.{end_reads}
pub use Rattle.substitution.proofs.Pieces.{in_map, map_in}
pub use Rattle.substitution.proofs.Placing.{InstPut, block_back, inst_back}
pub use Rattle.substitution.specs.Fits.{Fits}
pub use Rattle.substitution.specs.Rewritten.{rewritten_function, stands_for}
pub use Rattle.substitution.specs.Substitution.{Substitution, substituted_end, substituted_entries, substituted_op}
pub use Rattle.substitution.specs.declared.rewrite.Rewrite.{Rewrite}
pub use Rattle.verdict_core.specs.declared.verdicts.Row.{Row}
