-- What folding leaves, and which rewrites leave nothing more to fold.
use Rattle.std.specs.Prelude.{◌≡◌, ℕ, ◌-◌, Bool, true, false, List, length, None, Some, slice_get, slice_index_or}
use Rattle.bindings.specs.declared.binding.Binding.{Binding}
use Rattle.bindings.specs.declared.rule_match.Match.{Match}
use Rattle.draft.specs.Drafts.{function_of}
use Rattle.draft.specs.declared.draft.Draft.{Draft}
use Rattle.draft_steps.specs.MatchLaws.{placed_match}
use Rattle.fold_branch.specs.Choices.{literal}
use Rattle.fold_branch.specs.Folded.{IsFolded, choices_of}
use Rattle.ir_core.specs.declared.function.Function.{Function}
use Rattle.ir_core.specs.declared.operand.Operand.TheVariants as operands
use Rattle.rewriter.specs.Applied.{IsRewritten}
use Rattle.rule_core.specs.declared.rule.Argument.{Argument}
use Rattle.rule_core.specs.declared.rule.Argument.TheVariants as arguments
use Rattle.rule_core.specs.declared.rule.Op.{Op}
use Rattle.rule_core.specs.declared.rule.Op.TheVariants as rule_ops
use Rattle.rule_core.specs.declared.rule.Register.TheVariants as names
use Rattle.rule_core.specs.declared.rule.Rule.{Rule}
use Rattle.rule_core.specs.declared.rule.Statement.{Statement}

-- where folding is asked for, the function is folded already
abbrev pub HasNothingToFold : Bool → Function → Type 0
HasNothingToFold true f = IsFolded f f
HasNothingToFold false f = Unit {0}

-- what a target reads is put as no number: it is a source's register, an `undef`, or an input that is bound to none
abbrev pub IsPutAsNoNumber : Binding → Argument → Type 0
IsPutAsNoNumber binding (arguments.Register (names.Input i)) = literal (slice_index_or binding.inputs i operands.Poison) ≡ None
IsPutAsNoNumber binding (arguments.Register (names.Source j)) = Unit {0}
IsPutAsNoNumber binding (arguments.Register (names.Target j)) = ⊥
IsPutAsNoNumber binding (arguments.Literal z) = ⊥
IsPutAsNoNumber binding (arguments.Truth b) = ⊥
IsPutAsNoNumber binding (arguments.Constant k) = ⊥
IsPutAsNoNumber binding (arguments.Undef k) = Unit {0}
IsPutAsNoNumber binding (arguments.Term n) = ⊥

-- a statement for whose register no number is put: it is no copy, or one of what is put as none
abbrev pub GivesNoNumber : Binding → Op → Type 0
GivesNoNumber binding (rule_ops.Copy a) = IsPutAsNoNumber binding a.value
GivesNoNumber binding op = Unit {0}

-- the rule puts no number in the place of its root's register
abbrev pub PutsNoNumber : Rule → Binding → Type 0
PutsNoNumber rule binding = (last : Statement) → slice_get rule.target (length rule.target - 1) ≡ Some last → GivesNoNumber binding last.op

-- the function of the draft, rewritten at the match
abbrev pub IsRewrittenAt : List Rule → Draft → Match → Function → Type 0
IsRewrittenAt rules d chosen new = (rule : Rule) → slice_get rules chosen.rule ≡ Some rule → IsRewritten (function_of d) (placed_match d chosen).binding rule new

-- once it is, a number chooses where each branch and each switch goes that one chose before, and of no other
abbrev pub KeepsChoices : List Rule → Draft → Match → Type 0
KeepsChoices rules d chosen = (rule : Rule) (new : Function) → slice_get rules chosen.rule ≡ Some rule
    → IsRewritten (function_of d) (placed_match d chosen).binding rule new → choices_of new ≡ choices_of (function_of d)
