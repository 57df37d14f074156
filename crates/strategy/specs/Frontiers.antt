-- What is known of the matches of a draft while it is rewritten, and what a search asks. The frontier is a draft with
-- what is known of its bits and its worklist, which holds every place where a match may be that is not turned down. A
-- place waits while it is on the worklist.
use Rattle.std.specs.Prelude.{◌≡◌, ◌⊎◌, ℕ, Bool, false, List, [], All, Option, None, Some, slice_get, option_and_then}
use Rattle.ir_core.specs.declared.function.Function.{Function}
use Rattle.rule_core.specs.declared.rule.Rule.{Rule}
use Rattle.verdict_core.specs.declared.verdicts.Row.{Row}
use Rattle.bindings.specs.declared.rule_match.Match.{Match}
use Rattle.bindings.specs.Known.{AskBits, Knowledge, known_by}
use Rattle.bindings.specs.Matches.{AreMatchesInAnyOrder, IsAt}
use Rattle.draft.specs.declared.draft.Draft.{Draft}
use Rattle.places.specs.declared.place.Place.{Place}
use Rattle.draft_steps.specs.DeadCode.{HasNoDeadCode}
use Rattle.draft.specs.Drafts.{Stands, function_of, arena_of}
use Rattle.draft_steps.specs.DraftWorklists.{IsWorklistOf, members_of}
use Rattle.places.specs.Sets.{Rows, Has}
use Rattle.draft.specs.Whole.{IsSettled}
use Rattle.draft_bits.specs.DraftBits.{AreBitsOf, HasFewBits, facts_at}
use Rattle.draft_bits.specs.declared.bits.DraftBits.{DraftBits}
use Rattle.draft_steps.specs.MatchLaws.{AreSourcesWithin, placed_match}
use Rattle.asked_verdicts.specs.declared.verdicts.Verdicts.{Verdicts}
use Rattle.strategy_core.specs.Asked.{IsTurnedDown}
use Rattle.strategy_core.specs.PlainStrategy.{IsTidied}
use Rattle.asked_verdicts.specs.Asks.{AsksAll, AsksUpTo, IsAnywhere}
use Rattle.asked_verdicts.specs.Parts.{AsksToPlace}
use Rattle.strategy.specs.Folding.{IsRewrittenAt}
use Rattle.strategy.specs.declared.frontier.Frontier.{Frontier}

-- all matches at an instruction of the arena are turned down: the table has their verdicts, and none is `Admitted`
pub record AreTurnedDownAt (across : Bool) (rules : List Rule) (table : List Row) (known : Knowledge) (arena : Function) (b n : ℕ) : Type 0 where
  pub matches : List Match
  pub are : AreMatchesInAnyOrder across known rules arena (IsAt b n) matches
  pub turned_down : All (IsTurnedDown table) matches

-- all matches are turned down at each instruction that still stands in the function, except at places on the worklist
-- and those of `Out`
abbrev pub AreTurnedDownBut : Bool → List Rule → List Row → (ℕ → ℕ → Type 0) → Draft → DraftBits → Rows → Type 0
AreTurnedDownBut across rules table Out d bits waiting =
    (b n : ℕ) → Stands d b n → ¬ Has waiting b n → ¬ Out b n → AreTurnedDownAt across rules table (known_by (facts_at bits b)) (arena_of d) b n

abbrev pub Nowhere : ℕ → ℕ → Type 0
Nowhere b n = ⊥

-- the match is at this place, by the number of its root's instruction
abbrev pub PlaceOf : Match → ℕ → ℕ → Type 0
PlaceOf m b n = (m.binding.block ≡ b) × (m.binding.place ≡ n)

-- where a rule asks for bits, those of the draft are known; else perhaps nothing is kept of them
abbrev pub HasBitsFor : List Rule → Draft → DraftBits → Type 0
HasBitsFor rules d bits = AreBitsOf d bits ⊎ (¬ AskBits rules × (bits.blocks.items ≡ []))

-- between steps: at every place that is not on the worklist all matches are turned down
pub record IsFrontier (across : Bool) (rules : List Rule) (table : List Row) (frontier : Frontier) : Type 0 where
  pub draft : IsSettled frontier.draft
  pub clean : HasNoDeadCode frontier.draft
  pub worklist : IsWorklistOf frontier.draft frontier.worklist
  pub depth : AreSourcesWithin frontier.depth rules
  pub bits : HasBitsFor rules frontier.draft frontier.bits
  pub few : HasFewBits frontier.bits
  pub turned_down : AreTurnedDownBut across rules table Nowhere frontier.draft frontier.bits (members_of frontier.worklist)

-- of the matches at an instruction of the arena the verdicts up to the first that is admitted are asked, or all, if
-- none is
abbrev pub AsksAt : Bool → List Rule → ℕ → Knowledge → Function → ℕ → ℕ → Verdicts → Verdicts → Option Match → Type 0
AsksAt across rules conflicts known arena b n old new found = (matches : List Match) × (place : Option ℕ) × AreMatchesInAnyOrder across known rules arena (IsAt b n) matches
    × AsksToPlace rules conflicts matches old new place × (found ≡ option_and_then (slice_get matches) place)

-- the same where the instruction still stands; where it was removed, nothing is asked
abbrev pub LooksAt : Bool → List Rule → ℕ → Draft → Knowledge → Place → Verdicts → Verdicts → Option Match → Type 0
LooksAt across rules conflicts d known p old new found = (Stands d p.block p.number × AsksAt across rules conflicts known (arena_of d) p.block p.number old new found)
    ⊎ (¬ Stands d p.block p.number × (found ≡ None) × (new ≡ old))

-- A search through the draft's function asks for verdicts up to the first match that is admitted, in order, or for all,
-- if none is. Afterwards all matches are turned down, except at places on the worklist and at the match itself.
abbrev pub SearchesTo : Bool → List Rule → ℕ → Draft → DraftBits → Rows → Verdicts → Verdicts → Option Match → Type 0
SearchesTo across rules conflicts d bits waiting old new None = AsksAll across rules conflicts (function_of d) IsAnywhere old new false
    × AreTurnedDownBut across rules new.table Nowhere d bits waiting
SearchesTo across rules conflicts d bits waiting old new (Some chosen) = AsksUpTo across rules conflicts (function_of d) IsAnywhere old new (placed_match d chosen)
    × AreTurnedDownBut across rules new.table (PlaceOf chosen) d bits waiting

-- the draft's function is rewritten at the match, and then tidied
abbrev pub IsSteppedAt : Bool → List Rule → Draft → Draft → Match → Type 0
IsSteppedAt fold rules old new chosen = (rewritten : Function) × IsTidied fold rewritten (function_of new) × IsRewrittenAt rules old chosen rewritten
