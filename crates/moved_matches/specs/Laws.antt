-- The laws of matches that stay.
use Rattle.std.specs.Prelude.{ℕ, Bool}
use Rattle.ir_core.specs.declared.function.Function.{Function}
use Rattle.rule_core.specs.declared.rule.Rule.{Rule}
use Rattle.substitution.specs.Substitution.{Substitution, IsDefinite}
use Rattle.bindings.specs.Known.{Knowledge}
use Rattle.bindings.specs.Match.{IsAvailable, IsInScope, MatchesWhere}
use Rattle.bindings.specs.declared.binding.Binding.{Binding}
use Rattle.moved_matches.specs.Moved.{StandsThere, moved_binding}

-- Where all that a match depends on is in another function, the rule matches there too, at the same widths and with the
-- same constants. `Before` relates temporaries to the root in a function, and `known` and `known'` are what is known of
-- bits in each. With a substitution to the other function and one back, these are all the matches there.
abbrev pub MatchesStay : (Function → ℕ → ℕ → ℕ → ℕ → Type 0) → Type 0
MatchesStay Before = (known known' : Knowledge) (f f' : Function) (to : Substitution) (rule : Rule) (m : Binding) (k : ℕ)
    → IsDefinite to → MatchesWhere (Before f) known f m.block m.place rule m → StandsThere (Before f) (Before f') known known' f f' to rule m k
    → MatchesWhere (Before f') known' f' m.block k rule (moved_binding to k m)

-- inside a block or across blocks: temporaries stand before the root, or their order isn't asked for
abbrev pub MatchesStayInOrder : Type 0
MatchesStayInOrder = (across : Bool) → MatchesStay (IsAvailable across)

abbrev pub MatchesStayInAnyOrder : Type 0
MatchesStayInAnyOrder = (across : Bool) → MatchesStay (λ f. IsInScope across)
