use Rattle.draft_steps.proofs.Common.{◌≡◌, ℕ, ◌+◌, List, ◌++◌, length, Function, AreRead, HaveInsts, IsEliminating, KeepsUses, registers_read, numbers_of, orders_of, IsWhole, Draft}
use Rattle.draft_steps.proofs.dead_code.remove_unused.Given as goal

-- what held with the registers on the worklist and the listed ones at first holds with those that there are
abbrev pub invariant-loop-register : goal.invariant-loop-register
invariant-loop-register l =
    record {
      whole : IsWhole l.draft;
      orders : orders_of l.draft ≡ orders_of l.initial.draft;
      cleaning : (f : Function) (rows : List (List ℕ)) → IsEliminating f rows l.initial.draft.arena (numbers_of l.initial.draft) (l.initial.draft.dead_candidates.items ++ l.initial.used.items)
          → IsEliminating f rows l.draft.arena (numbers_of l.draft) (l.draft.dead_candidates.items ++ l.used.items);
      used : HaveInsts l.initial.draft l.initial.used.items → HaveInsts l.draft l.used.items;
      reads : (was : Draft) → KeepsUses was l.initial.draft (l.initial.draft.dead_candidates.items ++ l.initial.used.items) → KeepsUses was l.draft (l.draft.dead_candidates.items ++ l.used.items);
      read : AreRead l.initial.draft l.initial.draft.dead_candidates.items → AreRead l.draft l.draft.dead_candidates.items;
    }

-- an operand of a removed instruction goes on the worklist once
abbrev pub decreases-loop-register : goal.decreases-loop-register
decreases-loop-register l = registers_read l.draft.arena + length l.draft.dead_candidates.items
