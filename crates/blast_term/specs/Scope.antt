-- What the literals of a scope stand for: the registers, constants, choices and terms that may be read.
use Rattle.std.specs.Prelude.{Bool, List, map, Option, slice_get}
use Rattle.std.specs.List.{All}
use Rattle.rule_core.specs.declared.rule.Register.{Register}
use Rattle.rule_core.specs.declared.rule.Register.TheVariants as registers
use Rattle.rule_core.specs.Run as run
use Rattle.blast_value.specs.declared.held.Held.{Held}
use Rattle.blast_value.specs.Effect.{held_value, IsOwn}
use Rattle.blast_term.specs.declared.scope.Scope.{Scope}

-- what the registers hold, where these are the literals of the inputs and of what the statements of source and target
-- have assigned
abbrev pub holds : {L : Type 0} → (L → Bool) → List (Held L) → List (Held L) → List (Held L) → run.Held
holds value inputs source target =
    record { inputs = map (held_value value) inputs; source = map (held_value value) source; target = map (held_value value) target }

-- the literals of a register, if it has any
abbrev pub held_at : {L : Type 0} → Scope L → Register → Option (Held L)
held_at s (registers.Input k) = slice_get s.inputs.now k
held_at s (registers.Source k) = slice_get s.source.now k
held_at s (registers.Target k) = slice_get s.target.now k

abbrev pub seen : {L : Type 0} → (L → Bool) → Scope L → run.Held
seen value s = holds value s.inputs.now s.source.now s.target.now

-- all literals of the scope are a circuit's own
pub record ScopeIsOwn {L : Type 0} (has_literal : L → Type 0) (s : Scope L) : Type 0 where
  pub inputs : All (IsOwn has_literal) s.inputs.now
  pub source : All (IsOwn has_literal) s.source.now
  pub target : All (IsOwn has_literal) s.target.now
  pub constants : All (All has_literal) s.constants.now
  pub choices : All (All has_literal) s.choices.now
  pub terms : All (All has_literal) s.terms.now
