-- Where the rules of a file match in a function, in the order in which a search finds the matches.
use Rattle.std.specs.Prelude.{◌≡◌, ℕ, Bool, List, Some, All, AllPairs, Contains, slice_get}
use Rattle.ir_core.specs.Assigned.{IsBefore}
use Rattle.ir_core.specs.declared.function.Function.{Function}
use Rattle.rule_core.specs.declared.rule.Rule.{Rule}
use Rattle.bindings.specs.Known.{Knowledge, known_in}
use Rattle.bindings.specs.Match.{MatchesWhere, IsAvailable, IsInScope}
use Rattle.bindings.specs.declared.rule_match.Match.{Match}

-- the rule that the match names matches in the function, at the instruction and with the names that its binding has;
-- `Before` relates temporaries to the root, and `known` is what is known of bits
pub record MatchesAmong (Before : ℕ → ℕ → ℕ → ℕ → Type 0) (known : Knowledge) (rules : List Rule) (f : Function) (m : Match) : Type 0 where
  pub rule : Rule
  pub is_rule : slice_get rules m.rule ≡ Some rule
  pub matches : MatchesWhere Before known f m.binding.block m.binding.place rule m.binding

-- where temporaries stand before the root, and where their order isn't asked for; in its block, or across blocks
abbrev pub IsMatchAmong : Bool → List Rule → Function → Match → Type 0
IsMatchAmong across rules f = MatchesAmong (IsAvailable across f) (known_in f) rules f

abbrev pub IsMatchInAnyOrder : Bool → Knowledge → List Rule → Function → Match → Type 0
IsMatchInAnyOrder across = MatchesAmong (IsInScope across)

-- the first comes before the second: in order of blocks, in a block of instructions, and at an instruction of rules
abbrev pub ComesBefore : Match → Match → Type 0
ComesBefore m n = IsBefore m.binding.block m.binding.place m.rule n.binding.block n.binding.place n.rule

-- these are all matches of the rules in the function, in order
pub record AreMatches (across : Bool) (rules : List Rule) (f : Function) (matches : List Match) : Type 0 where
  pub each : All (IsMatchAmong across rules f) matches
  pub all : (m : Match) → IsMatchAmong across rules f m → Contains matches m
  pub in_order : AllPairs ComesBefore matches

-- these are all matches with a property, in order
pub record AreMatchesAmong (Before : ℕ → ℕ → ℕ → ℕ → Type 0) (known : Knowledge) (rules : List Rule) (f : Function) (P : Match → Type 0) (matches : List Match) : Type 0 where
  pub each : All (λ m. MatchesAmong Before known rules f m × P m) matches
  pub all : (m : Match) → MatchesAmong Before known rules f m → P m → Contains matches m
  pub in_order : AllPairs ComesBefore matches

abbrev pub AreMatchesWhere : Bool → List Rule → Function → (Match → Type 0) → List Match → Type 0
AreMatchesWhere across rules f = AreMatchesAmong (IsAvailable across f) (known_in f) rules f

abbrev pub AreMatchesInAnyOrder : Bool → Knowledge → List Rule → Function → (Match → Type 0) → List Match → Type 0
AreMatchesInAnyOrder across = AreMatchesAmong (IsInScope across)

-- these are all that come before this one, in order
abbrev pub AreMatchesBefore : Bool → List Rule → Function → Match → List Match → Type 0
AreMatchesBefore across rules f chosen matches = AreMatchesWhere across rules f (λ m. ComesBefore m chosen) matches

-- the match is at this instruction
abbrev pub IsAt : ℕ → ℕ → Match → Type 0
IsAt b k m = (m.binding.block ≡ b) × (m.binding.place ≡ k)
