use Rattle.changes.proofs.Common.{ℕ, List, sym, subst, arith, ListedTo, ReadsRoot, AreAscending}
use Rattle.changes.proofs.InOrder.{none_yet, all_past}
use Rattle.changes.proofs.applying.readers_of.Goals as goal

pub loop-block-init : goal.loop-block-init
loop-block-init c = λ w p.
    let f = c.args.f.now in
    subst (λ (places : List (ℕ × ℕ)). AreAscending (ListedTo f (ReadsRoot f w) 0 0) places) (sym c.new-places.ensures) (none_yet f (ReadsRoot f w))

pub loop-block-preserved : goal.loop-block-preserved
loop-block-preserved c = λ w p. c.in_ok-push_readers.ensures w p (c.loop-block.invariant w p)

pub returns : goal.returns
returns c = λ w p. all_past c.args.f.now (ReadsRoot c.args.f.now w) c.loop-block.block c.loop-block.places (omega arith) (c.loop-block.invariant w p)
