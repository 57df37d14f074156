use Rattle.blast_term.proofs.Common.{◌-◌, ◌^◌, nat_lt, ap, subst, ◌∙◌, arith, IfOk-weaker, Adds, comparison_gates, number_of, Adds-none, shifted}
use Rattle.blast_term.proofs.function.is_below_least.Goals as goal

pub less_unsigned-requires-clause-same_width : goal.less_unsigned-requires-clause-same_width
less_unsigned-requires-clause-same_width g c = c.in_ok-least.ensures.width ∙ c.len.ensures

pub less_unsigned-requires-clause-own_a : goal.less_unsigned-requires-clause-own_a
less_unsigned-requires-clause-own_a g c = c.requires.own

pub less_unsigned-requires-clause-own_b : goal.less_unsigned-requires-clause-own_b
less_unsigned-requires-clause-own_b g c = c.in_ok-least.ensures.own

pub returns-in_err-least-clause-adds : goal.returns-in_err-least-clause-adds
returns-in_err-least-clause-adds g c = Adds-none

pub returns-clause-value : goal.returns-clause-value
returns-clause-value g c =
    IfOk-weaker c.less_unsigned.result _ _
    (λ below known inputs admitted.
    let least_is = c.in_ok-least.ensures.number inputs admitted ∙ shifted (c.bits.result - 1) (omega arith) ∙ ap (λ n. 2 ^ (n - 1)) c.bits.ensures.bits in
    known inputs admitted ∙ ap (nat_lt (number_of (g.C.State.value c.args.c.now inputs) c.args.word.now)) least_is)
    c.less_unsigned.ensures.value

pub returns-clause-own : goal.returns-clause-own
returns-clause-own g c = c.less_unsigned.ensures.own

pub returns-clause-adds : goal.returns-clause-adds
returns-clause-adds g c = subst (λ n. Adds g.C.State c.args.c.now c.less_unsigned.new.c (comparison_gates n)) c.requires.width c.less_unsigned.ensures.adds
