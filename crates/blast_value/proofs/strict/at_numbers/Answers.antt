use Rattle.blast_value.proofs.Common.{sym, ap, ◌∙◌, IfOk-weaker, Gives, on_numbers, lshr, ashr}
use Rattle.blast_value.proofs.Effects.{arithmetic_numbers}
use Rattle.blast_value.proofs.strict.at_numbers.Goals as goal

pub returns-in-Arithmetic-clause-value : goal.returns-in-Arithmetic-clause-value
returns-in-Arithmetic-clause-value g c =
    IfOk-weaker c.checked.result _ _ (λ made known inputs admitted.
    rw c.in-Arithmetic.is (ap Gives (known inputs admitted) ∙ sym (arithmetic_numbers c.in-Arithmetic.which c.args.flags c.args.width _ _)))
    c.checked.ensures.value

pub returns-in-Shl-clause-value : goal.returns-in-Shl-clause-value
unfolding on_numbers
returns-in-Shl-clause-value g c =
    IfOk-weaker c.moved_left.result _ _ (λ made known inputs admitted. rw c.in-Shl.is (ap Gives (known inputs admitted))) c.moved_left.ensures.value

pub returns-in-LShr-clause-value : goal.returns-in-LShr-clause-value
unfolding on_numbers lshr
returns-in-LShr-clause-value g c =
    IfOk-weaker c.moved_right.result _ _ (λ made known inputs admitted. rw c.in-LShr.is (ap Gives (known inputs admitted))) c.moved_right.ensures.value

pub returns-in-AShr-clause-value : goal.returns-in-AShr-clause-value
unfolding on_numbers ashr
returns-in-AShr-clause-value g c =
    IfOk-weaker c.moved_right-in-AShr.result _ _ (λ made known inputs admitted. rw c.in-AShr.is (ap Gives (known inputs admitted))) c.moved_right-in-AShr.ensures.value

pub returns-in-Bitwise-clause-value : goal.returns-in-Bitwise-clause-value
returns-in-Bitwise-clause-value g c =
    IfOk-weaker c.bit_by_bit.result _ _ (λ made known inputs admitted. rw c.in-Bitwise.is (known inputs admitted)) c.bit_by_bit.ensures.value

pub returns-in-Extreme-clause-value : goal.returns-in-Extreme-clause-value
returns-in-Extreme-clause-value g c =
    IfOk-weaker c.one_of_two.result _ _ (λ made known inputs admitted. rw c.in-Extreme.is (known inputs admitted)) c.one_of_two.ensures.value
