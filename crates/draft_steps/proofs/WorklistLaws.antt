-- Worklists stay worklists where orders are kept.
use Rattle.draft_steps.proofs.Common.{ℕ, List, sym, ◌∙◌, KeepsOrders, DraftWorklist, IsWorklist, heap-stays}

pub worklist-stays : (old new : List (List ℕ)) (q : DraftWorklist) → KeepsOrders old new → IsWorklist old q → IsWorklist new q
worklist-stays old new q keeps h = record {
  blocks = h.blocks ∙ sym keeps.blocks;
  heap = heap-stays old new q.heap keeps h.heap;
  once = h.once;
}
