use Rattle.scan.proofs.Common.{◌≡◌, sym, ◌∙◌, false, drop, arith, take_rest}
use Rattle.scan.proofs.KeptLemmas.{closing, closed, not_closed, closing-feed, closing-bracket, closing-end}
use Rattle.scan.proofs.kept.behind_group.Goals as goal

pub returns-in-10 : goal.returns-in-10
returns-in-10 c content rest =
    not_closed c.args.text.now content rest (sym c.loop-i.invariant.1 ∙ closing-feed c.loop-i.in_quotes c.loop-i.depth c.args.text.now c.loop-i.i _ (omega arith) c.in-10.is)

pub returns-in-41 : goal.returns-in-41
returns-in-41 c =
    let found : closing false 0 (drop c.loop-i.i c.args.text.now) ≡ closing false 0 c.args.text.now = rw (c.if-not-in_quotes-2.true, c.if-depth-eq0.true) at c.loop-i.invariant.1 in
    closed c.args.text.now _ (rw take_rest (sym found ∙ closing-bracket c.args.text.now c.loop-i.i _ (omega arith) c.in-41.is))

pub returns : goal.returns
returns c content rest = not_closed c.args.text.now content rest (sym c.loop-i.invariant.1 ∙ closing-end c.loop-i.in_quotes c.loop-i.depth c.args.text.now c.loop-i.i (omega arith))
