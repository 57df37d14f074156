use Rattle.blast_value.proofs.Common.{⊎_elim, IfOk-weaker, poison_where_true}
use Rattle.blast_value.proofs.Moves.{asked_value}
use Rattle.blast_value.proofs.one_operand.is_poison.Goals as goal

pub returns-in-Abs-clause-value : goal.returns-in-Abs-clause-value
unfolding poison_where_true
returns-in-Abs-clause-value g c =
    IfOk-weaker c.equals.result _ _ (λ made known inputs admitted.
    rw c.in-Abs.is (asked_value c.args.truth _ _ c.if-not-truth.false (rw c.least.ensures.value at (known inputs admitted))))
    c.equals.ensures.value

pub returns-in-CtPop-clause-value : goal.returns-in-CtPop-clause-value
unfolding poison_where_true
returns-in-CtPop-clause-value g c inputs admitted =
    rw c.in-CtPop.is (asked_value c.args.truth _ _ c.if-not-truth.false (c.zero-in-CtPop.ensures.value inputs admitted))

pub returns-in-CtLz-clause-value : goal.returns-in-CtLz-clause-value
unfolding poison_where_true
returns-in-CtLz-clause-value g c =
    IfOk-weaker c.equals-in-CtLz.result _ _ (λ made known inputs admitted.
    let value = asked_value c.args.truth _ _ c.if-not-truth.false (known inputs admitted) in
    ⊎_elim (λ e. rw e value) (λ e. rw e value) c.in-CtLz.is)
    c.equals-in-CtLz.ensures.value
