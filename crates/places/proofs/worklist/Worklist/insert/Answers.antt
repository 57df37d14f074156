use Rattle.places.proofs.Common.{sym, subst, ◌∙◌, iff_false, IsHeap, AreMarked, IsWorklist}
use Rattle.places.proofs.Tallies.{marked-pushed, marked-same}
use Rattle.places.proofs.worklist.Worklist.insert.Goals as goal

pub push-requires-clause-heap : goal.push-requires-clause-heap
push-requires-clause-heap c =
    let was = subst (IsWorklist c.args.orders.now) (sym c.self.view_is) c.requires.arranged in
    subst (IsHeap c.args.orders.now) (sym c.in_ok-reserve.ensures.items) was.heap

pub returns-clause-arranged : goal.returns-clause-arranged
returns-clause-arranged c =
    let was = subst (IsWorklist c.args.orders.now) (sym c.self.view_is) c.requires.arranged in
    record {
      blocks = c.in_ok-insert.ensures.blocks ∙ was.blocks;
      heap = c.push.ensures.heap;
      once = marked-pushed c.self.inside.marks c.insert.new.self c.reserve.new.self.items c.push.new.heap.items c.args.place
          (subst (AreMarked c.self.inside.marks) (sym c.in_ok-reserve.ensures.items) was.once) (iff_false c.has.ensures c.if-has.false) c.in_ok-insert.ensures.added c.push.ensures.pushed;
    }

pub returns-in_err-insert-clause-arranged : goal.returns-in_err-insert-clause-arranged
returns-in_err-insert-clause-arranged c =
    let was = subst (IsWorklist c.args.orders.now) (sym c.self.view_is) c.requires.arranged in
    record {
      blocks = c.in_err-insert.ensures.blocks ∙ was.blocks;
      heap = subst (IsHeap c.args.orders.now) (sym c.in_ok-reserve.ensures.items) was.heap;
      once = subst (AreMarked c.insert.new.self) (sym c.in_ok-reserve.ensures.items)
          (marked-same c.self.inside.marks c.insert.new.self c.self.inside.heap.items was.once c.in_err-insert.ensures.refused);
    }
