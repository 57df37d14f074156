-- What the proofs of this crate cite of definitions, of other crates and of the libraries, passed on from one place.
pub use Rattle.std.proofs.Common.{Bool, Contains, List, None, Option, Some, [], add-one, add-zero, ap, append-nil, append_assoc, arith, cond, drop, drop-cons, eq-eqb, eqb-true, false, flat_map, get_or, if◌then◌else◌, length, map, refl, slice_get, slice_index, subst, suc, sum_by, sym, take, true, zero, ℕ, ◌%◌, ◌*◌, ◌++◌, ◌+◌, ◌/◌, ◌<◌, ◌==◌, ◌^◌, ◌∙◌, ◌∷◌, ◌≡◌, ◌≤◌}
pub use Rattle.blast_setting.specs.Inputs.{argument_of, choice_widths, constant_widths, input_bits, input_widths, named_width, named_widths, names, number_bits, value_bits, widths_chosen}
pub use Rattle.blast_setting.specs.Laws.{FittingSettingsAreRead, ReadSettingsFit}
pub use Rattle.blast_setting.specs.Names.{AreNamed, HaveWidths, IsNamed}
pub use Rattle.blast_setting.specs.SettingBits.{SettingIsOwn, setting_held}
pub use Rattle.blast_setting.specs.Settings.{all_read, behind_constants, behind_inputs, number_read, numbers_read, setting_of, value_read, values_read}
pub use Rattle.blast_setting.specs.declared.named.Kind.{Kind}
pub use Rattle.blast_setting.specs.declared.named.Kind.TheVariants.{Constant, Input}
pub use Rattle.blast_setting.specs.declared.setting_bits.SettingBits.{SettingBits}
pub use Rattle.blast_value.proofs.Kept.{AllAll-kept, AllOwn-kept, IsOwn-kept, held_value-kept, number_held-kept, numbers_held-kept, values-kept}
pub use Rattle.blast_value.specs.Effect.{IsOwn, held_value}
pub use Rattle.blast_value.specs.Words.{number_held}
pub use Rattle.blast_value.specs.declared.held.Held.{Held}
pub use Rattle.circuits.proofs.Kept.{All-kept, Keeps-refl, Keeps-trans, map-kept}
pub use Rattle.circuits.proofs.Words.{number-below, number-push}
pub use Rattle.circuits.specs.Circuit.{Keeps}
pub use Rattle.circuits.specs.Word.{bit, number, number_of}
pub use Rattle.circuits.specs.declared.state.State.{Ghosts}
pub use Rattle.ops.specs.Integer.{bits}
pub use Rattle.ops.specs.Number.{Number}
pub use Rattle.ops.specs.Value.{IsValueOf}
pub use Rattle.ops.specs.declared.value.Value.{Value}
pub use Rattle.ops.specs.declared.value.Value.TheVariants.{Bits, Poison}
pub use Rattle.rule_core.proofs.Members.{Contains-flat_map, Contains-from_get, choice_opens, class_stands, flat_map-from, freezes, operand_class_stands, reads_undef, source_operand, target_statement}
pub use Rattle.rule_core.proofs.Ready.{class_width}
pub use Rattle.rule_core.specs.Checks.{ChoicesInOrder, IsRule, StandsAt}
pub use Rattle.rule_core.specs.Positions.{IsOperandAmong, IsStatementOf, LeavesOpen, Names, choices_among, choices_of, chooses, classes_of, frozen_in, name, operands_among, operands_in, operands_of, reads, reads_constant, undef_in}
pub use Rattle.rule_core.specs.Typing.{IsTyping}
pub use Rattle.rule_core.specs.Valid.{ConstantsFit, InputsFit, Setting, TargetChoicesFit}
pub use Rattle.rule_core.specs.declared.rule.Argument.{Argument}
pub use Rattle.rule_core.specs.declared.rule.Choice.{Choice}
pub use Rattle.rule_core.specs.declared.rule.Name.{Name}
pub use Rattle.rule_core.specs.declared.rule.Op.{Op}
pub use Rattle.rule_core.specs.declared.rule.Op.TheVariants.{Binary, Compare, Convert, Copy, Freeze, Select, Unary}
pub use Rattle.rule_core.specs.declared.rule.Operand.{Operand}
pub use Rattle.rule_core.specs.declared.rule.Rule.{Rule}
pub use Rattle.rule_core.specs.declared.rule.Statement.{Statement}
pub use Rattle.std.proofs.Math.Nat.{mod-eq_of_lt, pow-le-pow_right, pow-succ'}
pub use Rattle.std.proofs.Math.Seq.{drop-append-add, get_or-append_seam, take-append_seam}
pub use Rattle.std.proofs.lemmas.Grind.{flat_map-append}
pub use Rattle.std.proofs.lemmas.List.{drop-drop, drop_all, get_or-drop, get_or-map, length-map, length-take, length_push, map-append, take_all, take_more}
pub use Rattle.std.proofs.lemmas.List.Concat.{flat_map-cons}
pub use Rattle.std.proofs.lemmas.List.Elements.{All-push, All-same}
pub use Rattle.std.proofs.lemmas.List.Folds.{find-append}
pub use Rattle.std.proofs.lemmas.List.FromFn.{get_or-map-range_with_len, get_or-range_with_len, length-map-range_with_len}
pub use Rattle.std.proofs.lemmas.List.Sums.{sum_by-cons, sum_by_push}
pub use Rattle.std.proofs.lemmas.Option.{get_or_from_slice_get, same_Some, slice_get-get_or, slice_get-map, slice_get_read, slice_get_within}
pub use Rattle.std.specs.List.{All, find}
pub use Rattle.std.specs.Option.{option_map, option_map_or, option_or}
