use Rattle.places.proofs.Common.{◌<◌, ◌∷◌, Contains, length, sym, subst, ◌∙◌, arith, All-contains, Contains-permutation, IsPermutation-sym, length_permutation, IsNumbered, AreMarked, IsWorklist, IsFirst, WorklistView}
use Rattle.places.proofs.Members.{contains_first}
use Rattle.places.proofs.Ranks.{numbered-block}
use Rattle.places.proofs.Tallies.{marked-popped, first-marked}
use Rattle.places.proofs.worklist.Worklist.take_first.Goals as goal

pub pop-requires : goal.pop-requires
pop-requires c = (let was = subst (IsWorklist c.args.orders.now) (sym c.self.view_is) c.requires in was.heap)

pub returns-in_err-first-clause-arranged : goal.returns-in_err-first-clause-arranged
returns-in_err-first-clause-arranged c =
    let was = subst (IsWorklist c.args.orders.now) (sym c.self.view_is) c.requires in
    record {
      blocks = was.blocks;
      heap = c.pop.ensures.heap;
      once = subst (AreMarked c.self.inside.marks) (sym c.in_err-first.ensures.kept) was.once;
    }

pub remove-requires : goal.remove-requires
remove-requires c =
    let was = subst (IsWorklist c.args.orders.now) (sym c.self.view_is) c.requires in
    let first = c.in_ok-first.first in
    let heap = c.self.inside.heap.items in
    let rest = c.pop.new.heap.items in
    let there : Contains heap first = Contains-permutation (first ∷ rest) heap first (IsPermutation-sym heap (first ∷ rest) c.in_ok-first.ensures.popped) (contains_first first rest) in
    subst (λ n. first.block < n) (sym was.blocks) (numbered-block c.args.orders.now first (All-contains (IsNumbered c.args.orders.now) heap first was.heap.numbered there))

pub returns-clause-arranged : goal.returns-clause-arranged
returns-clause-arranged c =
    let was = subst (IsWorklist c.args.orders.now) (sym c.self.view_is) c.requires in
    record {
      blocks = c.remove.ensures.blocks ∙ was.blocks;
      heap = c.pop.ensures.heap;
      once = marked-popped c.self.inside.marks c.remove.new.self c.self.inside.heap.items c.pop.new.heap.items c.in_ok-first.first was.once c.remove.ensures.removed c.in_ok-first.ensures.popped;
    }

pub returns-clause-first : goal.returns-clause-first
returns-clause-first c =
    let was = subst (IsWorklist c.args.orders.now) (sym c.self.view_is) c.requires in
    subst (λ (w : WorklistView). IsFirst c.args.orders.now w.marks c.in_ok-first.first) c.self.view_is
    (first-marked c.args.orders.now c.self.inside.marks c.self.inside.heap.items c.pop.new.heap.items c.in_ok-first.first was.once c.in_ok-first.ensures.popped c.in_ok-first.ensures.first)

pub returns-clause-fewer : goal.returns-clause-fewer
returns-clause-fewer c =
    let same = length_permutation c.self.inside.heap.items (c.in_ok-first.first ∷ c.pop.new.heap.items) c.in_ok-first.ensures.popped in
    subst (λ (w : WorklistView). length c.pop.new.heap.items < length w.heap) c.self.view_is (omega arith)
