-- The match of one rule, as a search through the rules finds it.
use Rattle.std.specs.Prelude.{◌≡◌, ℕ}
use Rattle.bindings.specs.declared.rule_match.Match.{Match}

-- the match is of this rule, at this instruction
abbrev pub IsOf : ℕ → ℕ → ℕ → Match → Type 0
IsOf b k r m = (m.binding.block ≡ b) × (m.binding.place ≡ k) × (m.rule ≡ r)
