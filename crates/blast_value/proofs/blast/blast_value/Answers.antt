use Rattle.blast_value.proofs.Common.{◌≡◌, [], ◌∷◌, length, ap, sym, subst, ◌∙◌, arith, IfOk-weaker, Gives, number_of, Adds, Adds-weaken, own_at, IsOwn, cast_gates, greatest}
use Rattle.blast_value.proofs.Operands.{operand_there, operand_width, one_operand, two_operands, three_operands, comparison_width, conversion_width}
use Rattle.blast_value.proofs.blast.blast_value.Goals as goal

pub bounds-operands-0 : goal.bounds-operands-0
bounds-operands-0 g c =
    let takes = rw c.in-Binary.is at c.requires.operands in
    rw c.as_slice-operands.ensures (operand_there c.args.operands.now _ 0 takes (omega arith))

pub bounds-operands-1 : goal.bounds-operands-1
bounds-operands-1 g c =
    let takes = rw c.in-Binary.is at c.requires.operands in
    rw c.as_slice-operands.ensures (operand_there c.args.operands.now _ 1 takes (omega arith))

pub bounds-operands-0-in-Compare : goal.bounds-operands-0-in-Compare
bounds-operands-0-in-Compare g c =
    let takes = rw c.in-Compare.is at c.requires.operands in
    rw c.as_slice-operands.ensures (operand_there c.args.operands.now _ 0 takes.2 (omega arith))

pub bounds-operands-1-in-Compare : goal.bounds-operands-1-in-Compare
bounds-operands-1-in-Compare g c =
    let takes = rw c.in-Compare.is at c.requires.operands in
    rw c.as_slice-operands.ensures (operand_there c.args.operands.now _ 1 takes.2 (omega arith))

pub bounds-operands-0-in-Select : goal.bounds-operands-0-in-Select
bounds-operands-0-in-Select g c =
    let takes = rw c.in-Select.is at c.requires.operands in
    rw c.as_slice-operands.ensures (operand_there c.args.operands.now _ 0 takes (omega arith))

pub bounds-operands-1-in-Select : goal.bounds-operands-1-in-Select
bounds-operands-1-in-Select g c =
    let takes = rw c.in-Select.is at c.requires.operands in
    rw c.as_slice-operands.ensures (operand_there c.args.operands.now _ 1 takes (omega arith))

pub bounds-operands-2 : goal.bounds-operands-2
bounds-operands-2 g c =
    let takes = rw c.in-Select.is at c.requires.operands in
    rw c.as_slice-operands.ensures (operand_there c.args.operands.now _ 2 takes (omega arith))

pub bounds-operands-0-in-Convert : goal.bounds-operands-0-in-Convert
bounds-operands-0-in-Convert g c =
    let takes = rw c.in-Convert.is at c.requires.operands in
    rw c.as_slice-operands.ensures (operand_there c.args.operands.now _ 0 takes.2 (omega arith))

pub bounds-operands-0-in-Unary : goal.bounds-operands-0-in-Unary
bounds-operands-0-in-Unary g c =
    let takes = rw c.in-Unary.is at c.requires.operands in
    rw c.as_slice-operands.ensures (operand_there c.args.operands.now _ 0 takes (omega arith))

pub binary-requires-clause-width_a : goal.binary-requires-clause-width_a
binary-requires-clause-width_a g c =
    let takes = rw c.in-Binary.is at c.requires.operands in
    let at_0 = rw c.as_slice-operands.ensures at c.index-operands-0.is in
    operand_width c.args.operands.now _ 0 c.index-operands-0.result takes at_0

pub binary-requires-clause-width_b : goal.binary-requires-clause-width_b
binary-requires-clause-width_b g c =
    let takes = rw c.in-Binary.is at c.requires.operands in
    let at_1 = rw c.as_slice-operands.ensures at c.index-operands-1.is in
    operand_width c.args.operands.now _ 1 c.index-operands-1.result takes at_1

pub binary-requires-clause-own_a : goal.binary-requires-clause-own_a
binary-requires-clause-own_a g c =
    let takes = rw c.in-Binary.is at c.requires.operands in
    let at_0 = rw c.as_slice-operands.ensures at c.index-operands-0.is in
    own_at (IsOwn (g.C.State.has_literal c.args.c.now)) c.args.operands.now 0 c.index-operands-0.result c.requires.own (operand_there c.args.operands.now _ 0 takes (omega arith)) at_0

pub binary-requires-clause-own_b : goal.binary-requires-clause-own_b
binary-requires-clause-own_b g c =
    let takes = rw c.in-Binary.is at c.requires.operands in
    let at_1 = rw c.as_slice-operands.ensures at c.index-operands-1.is in
    own_at (IsOwn (g.C.State.has_literal c.args.c.now)) c.args.operands.now 1 c.index-operands-1.result c.requires.own (operand_there c.args.operands.now _ 1 takes (omega arith)) at_1

pub compare-requires-clause-width : goal.compare-requires-clause-width
compare-requires-clause-width g c =
    let takes = rw c.in-Compare.is at c.requires.operands in
    let at_0 = rw c.as_slice-operands.ensures at c.index-operands-0-in-Compare.is in
    let width = operand_width c.args.operands.now _ 0 c.index-operands-0-in-Compare.result takes.2 at_0 in
    rw width takes.1

pub compare-requires-clause-same_width : goal.compare-requires-clause-same_width
compare-requires-clause-same_width g c =
    let takes = rw c.in-Compare.is at c.requires.operands in
    let at_0 = rw c.as_slice-operands.ensures at c.index-operands-0-in-Compare.is in
    let at_1 = rw c.as_slice-operands.ensures at c.index-operands-1-in-Compare.is in
    operand_width c.args.operands.now _ 1 c.index-operands-1-in-Compare.result takes.2 at_1
    ∙ sym (operand_width c.args.operands.now _ 0 c.index-operands-0-in-Compare.result takes.2 at_0)

pub compare-requires-clause-own_a : goal.compare-requires-clause-own_a
compare-requires-clause-own_a g c =
    let takes = rw c.in-Compare.is at c.requires.operands in
    let at_0 = rw c.as_slice-operands.ensures at c.index-operands-0-in-Compare.is in
    own_at (IsOwn (g.C.State.has_literal c.args.c.now)) c.args.operands.now 0 c.index-operands-0-in-Compare.result c.requires.own (operand_there c.args.operands.now _ 0 takes.2 (omega arith)) at_0

pub compare-requires-clause-own_b : goal.compare-requires-clause-own_b
compare-requires-clause-own_b g c =
    let takes = rw c.in-Compare.is at c.requires.operands in
    let at_1 = rw c.as_slice-operands.ensures at c.index-operands-1-in-Compare.is in
    own_at (IsOwn (g.C.State.has_literal c.args.c.now)) c.args.operands.now 1 c.index-operands-1-in-Compare.result c.requires.own (operand_there c.args.operands.now _ 1 takes.2 (omega arith)) at_1

pub choose-requires-clause-condition : goal.choose-requires-clause-condition
choose-requires-clause-condition g c =
    let takes = rw c.in-Select.is at c.requires.operands in
    let at_0 = rw c.as_slice-operands.ensures at c.index-operands-0-in-Select.is in
    operand_width c.args.operands.now _ 0 c.index-operands-0-in-Select.result takes at_0

pub choose-requires-clause-same_width : goal.choose-requires-clause-same_width
choose-requires-clause-same_width g c =
    let takes = rw c.in-Select.is at c.requires.operands in
    let at_1 = rw c.as_slice-operands.ensures at c.index-operands-1-in-Select.is in
    let at_2 = rw c.as_slice-operands.ensures at c.index-operands-2.is in
    operand_width c.args.operands.now _ 2 c.index-operands-2.result takes at_2
    ∙ sym (operand_width c.args.operands.now _ 1 c.index-operands-1-in-Select.result takes at_1)

pub choose-requires-clause-own_condition : goal.choose-requires-clause-own_condition
choose-requires-clause-own_condition g c =
    let takes = rw c.in-Select.is at c.requires.operands in
    let at_0 = rw c.as_slice-operands.ensures at c.index-operands-0-in-Select.is in
    own_at (IsOwn (g.C.State.has_literal c.args.c.now)) c.args.operands.now 0 c.index-operands-0-in-Select.result c.requires.own (operand_there c.args.operands.now _ 0 takes (omega arith)) at_0

pub choose-requires-clause-own_a : goal.choose-requires-clause-own_a
choose-requires-clause-own_a g c =
    let takes = rw c.in-Select.is at c.requires.operands in
    let at_1 = rw c.as_slice-operands.ensures at c.index-operands-1-in-Select.is in
    own_at (IsOwn (g.C.State.has_literal c.args.c.now)) c.args.operands.now 1 c.index-operands-1-in-Select.result c.requires.own (operand_there c.args.operands.now _ 1 takes (omega arith)) at_1

pub choose-requires-clause-own_b : goal.choose-requires-clause-own_b
choose-requires-clause-own_b g c =
    let takes = rw c.in-Select.is at c.requires.operands in
    let at_2 = rw c.as_slice-operands.ensures at c.index-operands-2.is in
    own_at (IsOwn (g.C.State.has_literal c.args.c.now)) c.args.operands.now 2 c.index-operands-2.result c.requires.own (operand_there c.args.operands.now _ 2 takes (omega arith)) at_2

pub convert-requires-clause-width : goal.convert-requires-clause-width
convert-requires-clause-width g c =
    let takes = rw c.in-Convert.is at c.requires.operands in
    let at_0 = rw c.as_slice-operands.ensures at c.index-operands-0-in-Convert.is in
    rw (operand_width c.args.operands.now _ 0 c.index-operands-0-in-Convert.result takes.2 at_0) takes.1

pub convert-requires-clause-cast : goal.convert-requires-clause-cast
convert-requires-clause-cast g c =
    let takes = rw c.in-Convert.is at c.requires.operands in
    let at_0 = rw c.as_slice-operands.ensures at c.index-operands-0-in-Convert.is in
    rw (operand_width c.args.operands.now _ 0 c.index-operands-0-in-Convert.result takes.2 at_0) takes.3

pub convert-requires-clause-own : goal.convert-requires-clause-own
convert-requires-clause-own g c =
    let takes = rw c.in-Convert.is at c.requires.operands in
    let at_0 = rw c.as_slice-operands.ensures at c.index-operands-0-in-Convert.is in
    own_at (IsOwn (g.C.State.has_literal c.args.c.now)) c.args.operands.now 0 c.index-operands-0-in-Convert.result c.requires.own (operand_there c.args.operands.now _ 0 takes.2 (omega arith)) at_0

pub unary_effect-requires-clause-width_a : goal.unary_effect-requires-clause-width_a
unary_effect-requires-clause-width_a g c =
    let takes = rw c.in-Unary.is at c.requires.operands in
    let at_0 = rw c.as_slice-operands.ensures at c.index-operands-0-in-Unary.is in
    operand_width c.args.operands.now _ 0 c.index-operands-0-in-Unary.result takes at_0

pub unary_effect-requires-clause-own_a : goal.unary_effect-requires-clause-own_a
unary_effect-requires-clause-own_a g c =
    let takes = rw c.in-Unary.is at c.requires.operands in
    let at_0 = rw c.as_slice-operands.ensures at c.index-operands-0-in-Unary.is in
    own_at (IsOwn (g.C.State.has_literal c.args.c.now)) c.args.operands.now 0 c.index-operands-0-in-Unary.result c.requires.own (operand_there c.args.operands.now _ 0 takes (omega arith)) at_0

pub returns-in-Binary-clause-adds : goal.returns-in-Binary-clause-adds
returns-in-Binary-clause-adds g c = rw c.in-Binary.is c.binary.ensures.adds

pub returns-in-Unary-clause-adds : goal.returns-in-Unary-clause-adds
returns-in-Unary-clause-adds g c = rw c.in-Unary.is c.unary_effect.ensures.adds

pub returns-in-Compare-clause-adds : goal.returns-in-Compare-clause-adds
returns-in-Compare-clause-adds g c =
    let takes = rw c.in-Compare.is at c.requires.operands in
    let at_0 = rw c.as_slice-operands.ensures at c.index-operands-0-in-Compare.is in
    let adds = rw (operand_width c.args.operands.now _ 0 c.index-operands-0-in-Compare.result takes.2 at_0) at c.compare.ensures.adds in
    rw (c.in-Compare.is, takes.2) (Adds-weaken adds (omega arith))

pub returns-in-Select-clause-adds : goal.returns-in-Select-clause-adds
returns-in-Select-clause-adds g c =
    let takes = rw c.in-Select.is at c.requires.operands in
    let at_1 = rw c.as_slice-operands.ensures at c.index-operands-1-in-Select.is in
    let adds = rw (operand_width c.args.operands.now _ 1 c.index-operands-1-in-Select.result takes at_1) at c.choose.ensures.adds in
    rw c.in-Select.is adds

pub returns-in-Convert-clause-adds : goal.returns-in-Convert-clause-adds
returns-in-Convert-clause-adds g c =
    let takes = rw c.in-Convert.is at c.requires.operands in
    let at_0 = rw c.as_slice-operands.ensures at c.index-operands-0-in-Convert.is in
    let adds = rw (operand_width c.args.operands.now _ 0 c.index-operands-0-in-Convert.result takes.2 at_0) at c.convert.ensures.adds in
    let wide : takes.0 ≡ greatest (takes.0 ∷ []) = omega arith in
    rw (c.in-Convert.is, takes.2) (subst (λ n. Adds g.C.State c.args.c.now c.convert.new.c (cast_gates c.in-Convert.cast n)) wide adds)

pub returns-in-Compare-clause-width : goal.returns-in-Compare-clause-width
returns-in-Compare-clause-width g c =
    let takes = rw c.in-Compare.is at c.requires.operands in
    IfOk-weaker c.compare.result _ _ (λ made is. is ∙ sym takes.3) c.compare.ensures.width

pub returns-in-Select-clause-width : goal.returns-in-Select-clause-width
returns-in-Select-clause-width g c =
    let takes = rw c.in-Select.is at c.requires.operands in
    let at_1 = rw c.as_slice-operands.ensures at c.index-operands-1-in-Select.is in
    let width = operand_width c.args.operands.now _ 1 c.index-operands-1-in-Select.result takes at_1 in
    IfOk-weaker c.choose.result _ _ (λ made is. is ∙ width) c.choose.ensures.width

pub returns-in-Binary-clause-effect : goal.returns-in-Binary-clause-effect
returns-in-Binary-clause-effect g c =
    let takes = rw c.in-Binary.is at c.requires.operands in
    let at_0 = rw c.as_slice-operands.ensures at c.index-operands-0.is in
    let at_1 = rw c.as_slice-operands.ensures at c.index-operands-1.is in
    let list = two_operands c.args.operands.now _ _ c.index-operands-0.result c.index-operands-1.result takes at_0 at_1 in
    IfOk-weaker c.binary.result _ _ (λ made known inputs admitted. rw (c.in-Binary.is, list) (known inputs admitted)) c.binary.ensures.effect

pub returns-in-Compare-clause-effect : goal.returns-in-Compare-clause-effect
returns-in-Compare-clause-effect g c =
    let takes = rw c.in-Compare.is at c.requires.operands in
    let x = c.index-operands-0-in-Compare.result in
    let y = c.index-operands-1-in-Compare.result in
    let at_0 = rw c.as_slice-operands.ensures at c.index-operands-0-in-Compare.is in
    let at_1 = rw c.as_slice-operands.ensures at c.index-operands-1-in-Compare.is in
    let list = two_operands c.args.operands.now _ _ x y takes.2 at_0 at_1 in
    IfOk-weaker c.compare.result _ _ (λ made known inputs admitted.
    let value = g.C.State.value c.args.c.now inputs in
    rw (c.in-Compare.is, list) (λ m width_x width_y.
    known inputs admitted ∙ ap Gives (comparison_width (value x.poison) (value y.poison) c.in-Compare.pred c.in-Compare.samesign (length x.bits) (length y.bits) (number_of value x.bits) (number_of value y.bits) m width_x)))
    c.compare.ensures.effect

pub returns-in-Select-clause-effect : goal.returns-in-Select-clause-effect
returns-in-Select-clause-effect g c =
    let takes = rw c.in-Select.is at c.requires.operands in
    let at_0 = rw c.as_slice-operands.ensures at c.index-operands-0-in-Select.is in
    let at_1 = rw c.as_slice-operands.ensures at c.index-operands-1-in-Select.is in
    let at_2 = rw c.as_slice-operands.ensures at c.index-operands-2.is in
    let list = three_operands c.args.operands.now _ _ _ c.index-operands-0-in-Select.result c.index-operands-1-in-Select.result c.index-operands-2.result takes at_0 at_1 at_2 in
    IfOk-weaker c.choose.result _ _ (λ made known inputs admitted. rw (c.in-Select.is, list) (known inputs admitted)) c.choose.ensures.effect

pub returns-in-Convert-clause-effect : goal.returns-in-Convert-clause-effect
returns-in-Convert-clause-effect g c =
    let takes = rw c.in-Convert.is at c.requires.operands in
    let x = c.index-operands-0-in-Convert.result in
    let at_0 = rw c.as_slice-operands.ensures at c.index-operands-0-in-Convert.is in
    let list = one_operand c.args.operands.now _ x takes.2 at_0 in
    IfOk-weaker c.convert.result _ _ (λ made known inputs admitted.
    let value = g.C.State.value c.args.c.now inputs in
    rw (c.in-Convert.is, list) (λ m width_x.
    known inputs admitted ∙ ap Gives (conversion_width (value x.poison) c.in-Convert.cast c.in-Convert.flags (length x.bits) c.args.width (number_of value x.bits) m width_x)))
    c.convert.ensures.effect

pub returns-in-Unary-clause-effect : goal.returns-in-Unary-clause-effect
returns-in-Unary-clause-effect g c =
    let takes = rw c.in-Unary.is at c.requires.operands in
    let x = c.index-operands-0-in-Unary.result in
    let at_0 = rw c.as_slice-operands.ensures at c.index-operands-0-in-Unary.is in
    let list = one_operand c.args.operands.now _ x takes at_0 in
    IfOk-weaker c.unary_effect.result _ _ (λ made known inputs admitted. rw (c.in-Unary.is, list) (known inputs admitted)) c.unary_effect.ensures.effect
