use Rattle.blast_term.proofs.Common.{[], ◌∷◌, map, subst, All, All-from_recursion, IfOk-weaker, Adds, Adds-none, held_value, effect_of, widths_of, IsOwn, gates_of, greatest, HasEffect}
use Rattle.blast_term.proofs.pair.blast_pair.Goals as goal

pub blast_value-requires-clause-operands : goal.blast_value-requires-clause-operands
blast_value-requires-clause-operands g c = rw c.in_ok-operands.ensures c.requires.operands

pub blast_value-requires-clause-own : goal.blast_value-requires-clause-own
blast_value-requires-clause-own g c =
    rw c.in_ok-operands.ensures (All-from_recursion (IsOwn (g.C.State.has_literal c.args.c.now)) (c.args.left.now ∷ c.args.right.now ∷ []) (c.requires.own_left, (c.requires.own_right, tt)))

pub returns-in_err-operands-clause-adds : goal.returns-in_err-operands-clause-adds
returns-in_err-operands-clause-adds g c = Adds-none

pub returns-clause-effect : goal.returns-clause-effect
returns-clause-effect g c = IfOk-weaker c.blast_value.result _ _
    (λ made known inputs admitted.
    let start = g.C.State.value c.args.c.now inputs in
    subst (λ operands. HasEffect c.args.what c.args.width (map (held_value start) operands) (effect_of (g.C.State.value c.blast_value.new.c inputs) made)) c.in_ok-operands.ensures (known inputs admitted))
    c.blast_value.ensures.effect

pub returns-clause-width : goal.returns-clause-width
returns-clause-width g c = c.blast_value.ensures.width

pub returns-clause-own : goal.returns-clause-own
returns-clause-own g c = c.blast_value.ensures.own

pub returns-clause-adds : goal.returns-clause-adds
returns-clause-adds g c =
    subst (λ operands. Adds g.C.State c.args.c.now c.blast_value.new.c (gates_of c.args.what c.args.width (greatest (widths_of operands)))) c.in_ok-operands.ensures c.blast_value.ensures.adds
