-- Worklists of places, from which the first in the order of a draft is taken first.
use Rattle.std.specs.Prelude.{ℕ, List, length}
use Rattle.ir_core.specs.Blocks.{HasInst}
use Rattle.draft.specs.declared.draft.Draft.{Draft}
use Rattle.places.specs.declared.place.Place.{Place}
use Rattle.draft_steps.specs.declared.worklist.DraftWorklist.{DraftWorklist}
use Rattle.draft.specs.Drafts.{Stands, StandsBefore, orders_of}
use Rattle.draft.specs.KeptOrders.{KeepsOrders}
use Rattle.places.specs.Sets.{Rows, Has}
use Rattle.places.specs.Worklist.{IsWorklist}

-- the set of the places on a worklist
abbrev pub members_of : DraftWorklist → Rows
members_of q = q.marks

-- instruction n of block b is on the worklist
abbrev pub IsOnWorklist : DraftWorklist → ℕ → ℕ → Type 0
IsOnWorklist q b n = Has (members_of q) b n

-- the worklist has places of the draft's blocks, and gives them by their orders
abbrev pub IsWorklistOf : Draft → DraftWorklist → Type 0
IsWorklistOf d q = IsWorklist (orders_of d) q

-- how many places are on the worklist
abbrev pub size_of : DraftWorklist → ℕ
size_of q = length q.heap

-- An instruction on the worklist. If it stands, no other one on the worklist that stands is before it.
pub record ComesNext (d : Draft) (q : DraftWorklist) (p : Place) : Type 0 where
  pub waits : IsOnWorklist q p.block p.number
  pub inst : HasInst d.arena p.block p.number
  pub none_before : Stands d p.block p.number → (b n : ℕ) → IsOnWorklist q b n → Stands d b n → ¬ StandsBefore d b n p.block p.number

-- a worklist by the old orders is one by the new
abbrev pub WorklistsStay : Type 0
WorklistsStay = (old new : List (List ℕ)) (q : DraftWorklist) → KeepsOrders old new → IsWorklist old q → IsWorklist new q
