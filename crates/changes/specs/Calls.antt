-- How instructions move in a function to which a rule is applied, and in one from which dead code is removed, and what
-- changed there.
use Rattle.std.specs.Prelude.{◌≡◌, ◌+◌, ◌-◌, if◌then◌else◌, Bool, false, length, None, Some, slice_get}
use Rattle.std.specs.Option.{option_map_or}
use Rattle.ir_core.specs.Checks.{IsInst}
use Rattle.ir_core.specs.declared.function.Function.{Function}
use Rattle.ir_core.specs.declared.instruction.Inst.{Inst}
use Rattle.needed.specs.Cleaned.{KeepsNeeded}
use Rattle.needed.specs.KeptFunction.{KeptMarks, kept_before, kept_function}
use Rattle.rule_core.specs.declared.rule.Rule.{Rule}
use Rattle.bindings.specs.declared.binding.Binding.{Binding}
use Rattle.substitution.specs.Rewritten.{is_root, moved_place}
use Rattle.substitution.specs.declared.rewrite.Rewrite.{Rewrite}
use Rattle.rewriter.specs.Put.{is_copy, rewrite_of}
use Rattle.changes.specs.Changed.{Moves, AreChanges}
use Rattle.changes.specs.declared.changed.Changes.{Changes}

-- the target's root is a copy
abbrev pub root_is_copy : Rule → Bool
root_is_copy rule = option_map_or (λ s. is_copy s.op) (slice_get rule.target (length rule.target - 1)) false

-- The root is removed, or becomes the last of the inserted instructions; each other instruction stays.
abbrev pub rewritten_moves : Rewrite → Bool → Moves
rewritten_moves w goes b k = if is_root w b k then (if goes then None else Some (w.place + length w.put - 1)) else Some (moved_place w b k)

-- what changed where a rule was applied: the root is written anew
pub record AreChangesOfRule (f : Function) (binding : Binding) (rule : Rule) (new : Function) (changes : Changes) : Type 0 where
  pub root : Inst
  pub is_root : IsInst f binding.block binding.place root
  pub are : AreChanges f new (rewritten_moves (rewrite_of rule binding root.name) (root_is_copy rule)) (λ b k. (b ≡ binding.block) × (k ≡ binding.place)) changes

-- what is kept has as its new place how many are kept before it, and all else is removed
abbrev pub kept_moves : KeptMarks → Moves
kept_moves kept b k = if kept b k then Some (kept_before kept b k) else None

-- what changed where a function was cleaned: nothing is written anew
pub record AreChangesOfCleaning (f new : Function) (changes : Changes) : Type 0 where
  pub kept : KeptMarks
  pub keeps : KeepsNeeded f kept
  pub is : new ≡ kept_function kept f
  pub are : AreChanges f new (kept_moves kept) (λ b k. ⊥) changes
