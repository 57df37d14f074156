-- The laws of matches in drafts.
use Rattle.std.specs.Prelude.{◌≡◌, ◌↔◌, ◌≤◌, ℕ, suc, Bool, List, length, map, Some, Contains, slice_get}
use Rattle.ir_core.specs.Checks.{MeetsChecks}
use Rattle.ir_core.specs.Walks.{IsReached}
use Rattle.ir_core.specs.declared.operand.Operand.{Operand}
use Rattle.ir_core.specs.declared.operand.Operand.TheVariants as operands
use Rattle.ir_core.specs.declared.operand.Register.TheVariants as registers
use Rattle.rule_core.specs.declared.rule.Register.{Register as Name}
use Rattle.rule_core.specs.declared.rule.Rule.{Rule}
use Rattle.bindings.specs.declared.rule_match.Match.{Match}
use Rattle.bindings.specs.Known.{AskBits, AsksBitsOf, Knowledge}
use Rattle.bindings.specs.Matches.{AreMatchesInAnyOrder, AreMatchesWhere, IsAt}
use Rattle.bindings.specs.Ready.{AreReady}
use Rattle.draft.specs.declared.draft.Draft.{Draft}
use Rattle.places.specs.declared.place.Place.{Place}
use Rattle.draft.specs.Drafts.{AreTouched, Reaches, Stands, function_of, numbers_in, numbers_of, placed_binding, arena_of}
use Rattle.places.specs.Orders.{place_in}
use Rattle.draft.specs.Whole.{IsSettled}
use Rattle.draft_steps.specs.Arranged.{KnowsTheFunction}

-- a match in the arena, as one in the function: with positions in place of numbers
abbrev pub placed_match : Draft → Match → Match
placed_match d m = record { rule = m.rule; binding = placed_binding d m.binding }

-- The matches at an instruction of the arena, whatever the order of the numbers that their statements have, are those
-- at its position in the draft's function, with numbers in place of positions; where a rule asks for bits, if what is
-- known at the instruction is what is known there.
abbrev pub MatchesOfTheArena : Type 0
MatchesOfTheArena = (across : Bool) (known : Knowledge) (rules : List Rule) (d : Draft) (b n : ℕ) (matches : List Match)
    → AreReady rules → IsSettled d → MeetsChecks (function_of d) → Stands d b n
    → (AskBits rules → IsReached (arena_of d) b → KnowsTheFunction (arena_of d) (numbers_of d) known b n)
    → AreMatchesInAnyOrder across known rules (arena_of d) (IsAt b n) matches
    → AreMatchesWhere across rules (function_of d) (IsAt b (place_in (numbers_in d b) n)) (map (placed_match d) matches)

-- No rule's source has more than `depth` + 1 statements, and one that asks for bits has one less: what an operand holds
-- that it names is one further from the root than a statement.
abbrev pub AreSourcesWithin : ℕ → List Rule → Type 0
AreSourcesWithin depth rules = (r : ℕ) (rule : Rule) → slice_get rules r ≡ Some rule
    → (length rule.source ≤ suc depth) × ((name : Name) → AsksBitsOf rule name → length rule.source ≤ depth)

-- the same is known in both at instruction n of block b, of each operand that is no result of the block, or one of an
-- untouched instruction
abbrev pub KnowsTheUntouched : Knowledge → Knowledge → Draft → List Place → ℕ → ℕ → Type 0
KnowsTheUntouched was now new touched b n = (x : Operand)
    → ((m : ℕ) → x ≡ operands.Register (registers.Result b m) → Stands new b m × ¬ Contains touched (record { block = b; number = m }))
    → was b n x ≡ now b n x

-- Where no chain of at most `depth` operands, in the block or across blocks, leads from an instruction to a touched
-- one, it has no match that it didn't have before.
abbrev pub MatchesOfTheUntouched : Type 0
MatchesOfTheUntouched = (across : Bool) (was now : Knowledge) (rules : List Rule) (old new : Draft) (touched : List Place) (depth b n : ℕ) (matches : List Match)
    → AreReady rules → AreSourcesWithin depth rules → IsSettled new → AreTouched old new touched → (IsReached (arena_of old) b ↔ IsReached (arena_of new) b)
    → Stands new b n → ((c m : ℕ) → Reaches across new depth b n c m → ¬ Contains touched (record { block = c; number = m }))
    → (AskBits rules → IsReached (arena_of new) b → KnowsTheUntouched was now new touched b n)
    → AreMatchesInAnyOrder across was rules (arena_of old) (IsAt b n) matches
    → (kept : List Match) × AreMatchesInAnyOrder across now rules (arena_of new) (IsAt b n) kept × ((m : Match) → Contains kept m → Contains matches m)
