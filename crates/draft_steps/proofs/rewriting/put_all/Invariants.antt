use Rattle.draft_steps.proofs.Common.{◌≡◌, ◌++◌, into_iter_items}
use Rattle.draft_steps.proofs.PutAll.{ArePut}
use Rattle.draft_steps.proofs.rewriting.put_all.Given as goal

-- the instructions so far were inserted, and the others are left
abbrev pub invariant-loop-inst : goal.invariant-loop-inst
invariant-loop-inst l =
    record {
      so_far : ArePut l.initial.draft l.draft l.at l.yielded l.put.items;
      left : l.yielded ++ into_iter_items l.inst-iterator ≡ l.fn.insts.items;
    }
