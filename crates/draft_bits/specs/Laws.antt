-- That the bits of a draft are known bits.
use Rattle.std.specs.Prelude.{ℕ}
use Rattle.ir_core.specs.Checks.{MeetsChecks}
use Rattle.ir_core.specs.Walks.{IsReached}
use Rattle.bindings.specs.Known.{known_by}
use Rattle.draft.specs.Drafts.{Stands, arena_of, function_of, numbers_of}
use Rattle.draft.specs.Whole.{IsSettled}
use Rattle.draft.specs.declared.draft.Draft.{Draft}
use Rattle.draft_steps.specs.Arranged.{KnowsTheFunction}
use Rattle.draft_bits.specs.DraftBits.{AreBitsOf, facts_at}
use Rattle.draft_bits.specs.declared.bits.DraftBits.{DraftBits}

-- What a draft keeps at an instruction is what is known at its position in the draft's function, by the instructions
-- before it.
abbrev pub DraftBitsAreKnownBits : Type 0
DraftBitsAreKnownBits = (d : Draft) (bits : DraftBits) (b n : ℕ)
    → IsSettled d → MeetsChecks (function_of d) → AreBitsOf d bits → IsReached (arena_of d) b → Stands d b n
    → KnowsTheFunction (arena_of d) (numbers_of d) (known_by (facts_at bits b)) b n
