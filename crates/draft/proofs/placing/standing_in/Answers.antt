use Rattle.draft.proofs.Common.{ℕ, ◌++◌, ◌∙◌, List, [], Option, ap, length, subst, sym, append-nil}
use Rattle.draft.proofs.Rows.{Walked, first_gone, first_stands, none_left, walked_end, walked_next}
use Rattle.draft.proofs.placing.standing_in.Goals as goal
use Rattle.draft.proofs.placing.standing_in.Goals.{then-stand-number+in_ok-push, else-stand-number}

pub loop-at-preserved : goal.loop-at-preserved
loop-at-preserved c =
    let l = c.loop-at in
    let stand = c.args.stand.now in
    let n = c.in-Some.number in
    let walked = subst (λ (o : Option ℕ). Walked stand c.args.order.now o l.numbers) c.in-Some.is l.invariant in
    walked_next stand c.args.order.now (length stand) n l.numbers c.requires walked c.next-at.result c.if-stand-number.numbers c.next-at.ensures (elim c.if-stand-number.branch [
      | then-stand-number+in_ok-push w ↦ w.numbers-is ∙ w.in_ok-push.ensures.ok ∙ ap (λ (t : List ℕ). l.numbers ++ t) (sym (first_stands stand n [] w.if-stand-number.true))
      | else-stand-number w ↦ w.numbers-is ∙ sym (append-nil l.numbers) ∙ ap (λ (t : List ℕ). l.numbers ++ t) (sym (first_gone stand n [] w.if-stand-number.false))
    ])

pub returns : goal.returns
returns c = walked_end c.args.stand.now c.args.order.now c.loop-at.numbers
    (subst (λ (o : Option ℕ). Walked c.args.stand.now c.args.order.now o c.loop-at.numbers) (none_left c.loop-at.at c.in_default.not-Some) c.loop-at.invariant)
