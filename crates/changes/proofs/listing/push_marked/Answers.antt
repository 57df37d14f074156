use Rattle.changes.proofs.Common.{◌+◌, ◌<◌, ◌∙◌, ℕ, List, refl, sym, subst, arith, both_ways, HasInst, end_of, IsIn, ListedTo, AreAscending}
use Rattle.changes.proofs.InOrder.{inst_before_end, one_place, in_order, listed_more, listed_none, row_past}
use Rattle.changes.proofs.listing.push_marked.Goals as goal
use Rattle.changes.proofs.listing.push_marked.Goals.{then-has+in_ok-push, else-has}

pub loop-number-preserved : goal.loop-number-preserved
loop-number-preserved c =
    let f = c.args.f.now in
    let rows = c.args.marks.now in
    let b = c.args.block in
    let l = c.loop-number in
    let end = c.end_of-number-end.ensures in
    let test = c.loop-number-test.true in
    let below : c.loop-number.number < end_of c.args.f.now c.args.block = omega arith in
    let there : HasInst f b l.number = inst_before_end f b l.number below in
    elim c.if-has.branch [
      | then-has+in_ok-push w ↦
          listed_more f (IsIn rows) (one_place rows) (in_order rows) b l.number l.number l.places c.if-has.places (w.places-is ∙ w.in_ok-push.ensures.ok) there
          (c.has.ensures.0 w.if-has.true, refl) l.invariant
      | else-has w ↦
          subst (λ (places : List (ℕ × ℕ)). AreAscending (ListedTo f (IsIn rows) b (l.number + 1)) places) (sym w.places-is)
          (listed_none f (IsIn rows) b l.number l.places (λ n r. both_ways c.has.result w.if-has.false (c.has.ensures.1 r.0)) l.invariant)
    ]

pub returns : goal.returns
returns c =
    let end = c.end_of-number-end.ensures in
    let test = c.loop-number-test.false in
    let most = c.loop-number.auto.number-end in
    row_past c.args.f.now (IsIn c.args.marks.now) c.args.block c.loop-number.number c.loop-number.places (omega arith) c.loop-number.invariant
