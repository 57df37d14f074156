-- Laws of matches.
use Rattle.std.specs.Prelude.{◌≡◌, ℕ, Bool}
use Rattle.ir_core.specs.declared.function.Function.{Function}
use Rattle.rule_core.specs.Checks.{IsRule}
use Rattle.rule_core.specs.declared.rule.Rule.{Rule}
use Rattle.rule_typing.specs.Faults.{HasNoFault}
use Rattle.bindings.specs.Match.{IsMatch}
use Rattle.bindings.specs.declared.binding.Binding.{Binding}

-- a rule that was read from a file matches at an instruction with one binding at most, across blocks, too
abbrev pub MatchesHaveOneBinding : Type 0
MatchesHaveOneBinding =
    (across : Bool) (f : Function) (b k : ℕ) (rule : Rule) (x y : Binding) → IsRule rule → HasNoFault rule → IsMatch across f b k rule x → IsMatch across f b k rule y → x ≡ y
