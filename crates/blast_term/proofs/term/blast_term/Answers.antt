use Rattle.blast_term.proofs.Common.{◌≤◌, ◌+◌, ◌∙◌, ap, sym, subst, map, length, refl, arith, slice_index, All, slice_get_within, IfOk-weaker, select_gates, Adds-refl, Adds-weaken, held_value, widths_of, IsOwn, opcode_gates, node_gives, within, function_gates, term_gates, NodeIsHeld}
use Rattle.blast_term.proofs.Nodes.{width_of_word, width_of_register, register_own, constant-value, choice-value, register-value, unary-value}
use Rattle.blast_term.proofs.Formulas.{width_read}
use Rattle.blast_term.proofs.Turns.{binary-value, own_from_get, held_there}
use Rattle.blast_term.proofs.term.blast_term.Goals as goal

pub width_of-width-requires : goal.width_of-width-requires
width_of-width-requires g c = c.requires.ready.0

pub width_of-requires : goal.width_of-requires
width_of-requires g c = subst (NodeIsHeld c.args.typing.now c.args.scope (widths_of c.args.before.now) (slice_index c.args.typing.now c.args.term.class)) c.in-Width.is c.requires.ready.1

pub at-requires : goal.at-requires
at-requires g c =
    let need = subst (NodeIsHeld c.args.typing.now c.args.scope (widths_of c.args.before.now) (slice_index c.args.typing.now c.args.term.class)) c.in-Constant.is c.requires.ready.1 in
    slice_get_within c.args.scope.constants.now c.in-Constant.k need.0 need.1

pub of_word-requires : goal.of_word-requires
of_word-requires g c =
    own_from_get (All (g.C.State.has_literal c.args.c.now)) c.args.scope.constants.now c.in-Constant.k c.at.result.now c.requires.own.constants c.at.ensures

pub at-requires-in-Choice : goal.at-requires-in-Choice
at-requires-in-Choice g c =
    let need = subst (NodeIsHeld c.args.typing.now c.args.scope (widths_of c.args.before.now) (slice_index c.args.typing.now c.args.term.class)) c.in-Choice.is c.requires.ready.1 in
    slice_get_within c.args.scope.choices.now c.in-Choice.k need.0 need.1

pub of_word-requires-in-Choice : goal.of_word-requires-in-Choice
of_word-requires-in-Choice g c =
    own_from_get (All (g.C.State.has_literal c.args.c.now)) c.args.scope.choices.now c.in-Choice.k c.at-in-Choice.result.now c.requires.own.choices c.at-in-Choice.ensures

pub register_held-requires : goal.register_held-requires
register_held-requires g c =
    let need = subst (NodeIsHeld c.args.typing.now c.args.scope (widths_of c.args.before.now) (slice_index c.args.typing.now c.args.term.class)) c.in-Register.is c.requires.ready.1 in
    rw need.1 refl

pub of_register-requires : goal.of_register-requires
of_register-requires g c =
    register_own (g.C.State.has_literal c.args.c.now) c.args.scope c.in-Register.register c.register_held.result.now c.requires.own c.register_held.ensures

pub at-requires-in-Unary : goal.at-requires-in-Unary
at-requires-in-Unary g c =
    let need = subst (NodeIsHeld c.args.typing.now c.args.scope (widths_of c.args.before.now) (slice_index c.args.typing.now c.args.term.class)) c.in-Unary.is c.requires.ready.1 in
    held_there c.args.before.now c.in-Unary.operand (slice_index c.args.typing.now c.args.term.class) need

pub blast_function-requires-clause-width : goal.blast_function-requires-clause-width
blast_function-requires-clause-width g c =
    let need = subst (NodeIsHeld c.args.typing.now c.args.scope (widths_of c.args.before.now) (slice_index c.args.typing.now c.args.term.class)) c.in-Unary.is c.requires.ready.1 in
    width_read c.args.before.now c.in-Unary.operand (slice_index c.args.typing.now c.args.term.class) c.at-in-Unary.result.now need c.at-in-Unary.ensures ∙ sym c.width_of-width.ensures

pub blast_function-requires-clause-own : goal.blast_function-requires-clause-own
blast_function-requires-clause-own g c =
    own_from_get (IsOwn (g.C.State.has_literal c.args.c.now)) c.args.before.now c.in-Unary.operand c.at-in-Unary.result.now c.requires.own_before c.at-in-Unary.ensures

pub at-requires-in-Binary : goal.at-requires-in-Binary
at-requires-in-Binary g c =
    let need = subst (NodeIsHeld c.args.typing.now c.args.scope (widths_of c.args.before.now) (slice_index c.args.typing.now c.args.term.class)) c.in-Binary.is c.requires.ready.1 in
    held_there c.args.before.now c.in-Binary.left (slice_index c.args.typing.now c.args.term.class) need.0

pub blast_operator-requires-clause-width_left : goal.blast_operator-requires-clause-width_left
blast_operator-requires-clause-width_left g c =
    let need = subst (NodeIsHeld c.args.typing.now c.args.scope (widths_of c.args.before.now) (slice_index c.args.typing.now c.args.term.class)) c.in-Binary.is c.requires.ready.1 in
    width_read c.args.before.now c.in-Binary.left (slice_index c.args.typing.now c.args.term.class) c.at-in-Binary.result.now need.0 c.at-in-Binary.ensures ∙ sym c.width_of-width.ensures

pub blast_operator-requires-clause-own_left : goal.blast_operator-requires-clause-own_left
blast_operator-requires-clause-own_left g c =
    own_from_get (IsOwn (g.C.State.has_literal c.args.c.now)) c.args.before.now c.in-Binary.left c.at-in-Binary.result.now c.requires.own_before c.at-in-Binary.ensures

pub at-requires-in-Binary-2 : goal.at-requires-in-Binary-2
at-requires-in-Binary-2 g c =
    let need = subst (NodeIsHeld c.args.typing.now c.args.scope (widths_of c.args.before.now) (slice_index c.args.typing.now c.args.term.class)) c.in-Binary.is c.requires.ready.1 in
    held_there c.args.before.now c.in-Binary.right (slice_index c.args.typing.now c.args.term.class) need.1

pub blast_operator-requires-clause-width_right : goal.blast_operator-requires-clause-width_right
blast_operator-requires-clause-width_right g c =
    let need = subst (NodeIsHeld c.args.typing.now c.args.scope (widths_of c.args.before.now) (slice_index c.args.typing.now c.args.term.class)) c.in-Binary.is c.requires.ready.1 in
    width_read c.args.before.now c.in-Binary.right (slice_index c.args.typing.now c.args.term.class) c.at-in-Binary-2.result.now need.1 c.at-in-Binary-2.ensures ∙ sym c.width_of-width.ensures

pub blast_operator-requires-clause-own_right : goal.blast_operator-requires-clause-own_right
blast_operator-requires-clause-own_right g c =
    own_from_get (IsOwn (g.C.State.has_literal c.args.c.now)) c.args.before.now c.in-Binary.right c.at-in-Binary-2.result.now c.requires.own_before c.at-in-Binary-2.ensures

pub returns-in-Constant-clause-value : goal.returns-in-Constant-clause-value
returns-in-Constant-clause-value g c = IfOk-weaker c.of_word.result _ _ (λ made known inputs names admitted means.
    known inputs admitted ∙ constant-value (g.C.State.value c.args.c.now inputs) c.args.typing.now c.args.scope names (map (held_value (g.C.State.value c.args.c.now inputs)) c.args.before.now) c.args.term c.in-Constant.k c.at.result.now c.in-Constant.is means c.at.ensures) c.of_word.ensures.value

pub returns-in-Choice-clause-value : goal.returns-in-Choice-clause-value
returns-in-Choice-clause-value g c = IfOk-weaker c.of_word-in-Choice.result _ _ (λ made known inputs names admitted means.
    known inputs admitted ∙ choice-value (g.C.State.value c.args.c.now inputs) c.args.typing.now c.args.scope names (map (held_value (g.C.State.value c.args.c.now inputs)) c.args.before.now) c.args.term c.in-Choice.k c.at-in-Choice.result.now c.in-Choice.is means c.at-in-Choice.ensures) c.of_word-in-Choice.ensures.value

pub returns-in-Register-clause-value : goal.returns-in-Register-clause-value
returns-in-Register-clause-value g c = IfOk-weaker c.of_register.result _ _ (λ made known inputs names admitted means.
    known inputs admitted ∙ register-value (g.C.State.value c.args.c.now inputs) c.args.typing.now c.args.scope names (map (held_value (g.C.State.value c.args.c.now inputs)) c.args.before.now) c.args.term c.in-Register.register c.register_held.result.now c.in-Register.is means c.register_held.ensures
    (width_of_register c.args.scope c.in-Register.register (slice_index c.args.typing.now c.args.term.class) c.register_held.result.now (subst (NodeIsHeld c.args.typing.now c.args.scope (widths_of c.args.before.now) (slice_index c.args.typing.now c.args.term.class)) c.in-Register.is c.requires.ready.1) c.register_held.ensures)) c.of_register.ensures.value

pub returns-in-Unary-clause-value : goal.returns-in-Unary-clause-value
returns-in-Unary-clause-value g c = IfOk-weaker c.blast_function.result _ _ (λ made known inputs names admitted means.
    known inputs admitted ∙ unary-value (g.C.State.value c.args.c.now inputs) c.args.typing.now names c.args.before.now c.args.term c.in-Unary.function c.in-Unary.operand c.width_of-width.result c.at-in-Unary.result.now c.in-Unary.is c.width_of-width.ensures c.at-in-Unary.ensures) c.blast_function.ensures.value

pub returns-in-Binary-clause-value : goal.returns-in-Binary-clause-value
returns-in-Binary-clause-value g c = IfOk-weaker c.blast_operator.result _ _ (λ made known inputs names admitted means.
    known inputs admitted ∙ binary-value (g.C.State.value c.args.c.now inputs) c.args.typing.now names c.args.before.now c.args.term c.in-Binary.op c.in-Binary.left c.in-Binary.right c.width_of-width.result c.at-in-Binary.result.now c.at-in-Binary-2.result.now c.in-Binary.is c.width_of-width.ensures c.at-in-Binary.ensures c.at-in-Binary-2.ensures) c.blast_operator.ensures.value

pub returns-in-Literal-clause-width : goal.returns-in-Literal-clause-width
returns-in-Literal-clause-width g c = IfOk-weaker c.number.result _ _ (λ made same. same ∙ c.width_of-width.ensures) c.number.ensures.width

pub returns-in-Width-clause-width : goal.returns-in-Width-clause-width
returns-in-Width-clause-width g c = IfOk-weaker c.within.result _ _ (λ made same. same ∙ c.width_of-width.ensures) c.within.ensures.width

pub returns-in-Unary-clause-width : goal.returns-in-Unary-clause-width
returns-in-Unary-clause-width g c = IfOk-weaker c.blast_function.result _ _ (λ made same. same ∙ c.width_of-width.ensures) c.blast_function.ensures.width

pub returns-in-Binary-clause-width : goal.returns-in-Binary-clause-width
returns-in-Binary-clause-width g c = IfOk-weaker c.blast_operator.result _ _ (λ made same. same ∙ c.width_of-width.ensures) c.blast_operator.ensures.width

pub returns-in-Constant-clause-width : goal.returns-in-Constant-clause-width
returns-in-Constant-clause-width g c = IfOk-weaker c.of_word.result _ _ (λ made same. ap length same ∙ width_of_word c.args.scope.constants.now c.in-Constant.k (slice_index c.args.typing.now c.args.term.class) c.at.result.now (subst (NodeIsHeld c.args.typing.now c.args.scope (widths_of c.args.before.now) (slice_index c.args.typing.now c.args.term.class)) c.in-Constant.is c.requires.ready.1) c.at.ensures) c.of_word.ensures.bits

pub returns-in-Choice-clause-width : goal.returns-in-Choice-clause-width
returns-in-Choice-clause-width g c = IfOk-weaker c.of_word-in-Choice.result _ _ (λ made same. ap length same ∙ width_of_word c.args.scope.choices.now c.in-Choice.k (slice_index c.args.typing.now c.args.term.class) c.at-in-Choice.result.now (subst (NodeIsHeld c.args.typing.now c.args.scope (widths_of c.args.before.now) (slice_index c.args.typing.now c.args.term.class)) c.in-Choice.is c.requires.ready.1) c.at-in-Choice.ensures) c.of_word-in-Choice.ensures.bits

pub returns-in-Register-clause-width : goal.returns-in-Register-clause-width
returns-in-Register-clause-width g c = IfOk-weaker c.of_register.result _ _ (λ made same. same ∙ width_of_register c.args.scope c.in-Register.register (slice_index c.args.typing.now c.args.term.class) c.register_held.result.now (subst (NodeIsHeld c.args.typing.now c.args.scope (widths_of c.args.before.now) (slice_index c.args.typing.now c.args.term.class)) c.in-Register.is c.requires.ready.1) c.register_held.ensures) c.of_register.ensures.width

pub returns-in-Literal-clause-adds : goal.returns-in-Literal-clause-adds
returns-in-Literal-clause-adds g c = Adds-weaken Adds-refl (omega arith)

pub returns-in-Constant-clause-adds : goal.returns-in-Constant-clause-adds
returns-in-Constant-clause-adds g c = Adds-weaken Adds-refl (omega arith)

pub returns-in-Choice-clause-adds : goal.returns-in-Choice-clause-adds
returns-in-Choice-clause-adds g c = Adds-weaken Adds-refl (omega arith)

pub returns-in-Width-clause-adds : goal.returns-in-Width-clause-adds
returns-in-Width-clause-adds g c = Adds-weaken Adds-refl (omega arith)

pub returns-in-Register-clause-adds : goal.returns-in-Register-clause-adds
returns-in-Register-clause-adds g c =
    let few : select_gates (length c.register_held.result.now.bits) ≤ term_gates c.args.typing.now c.args.term = rw (c.in-Register.is, width_of_register c.args.scope c.in-Register.register (slice_index c.args.typing.now c.args.term.class) c.register_held.result.now (subst (NodeIsHeld c.args.typing.now c.args.scope (widths_of c.args.before.now) (slice_index c.args.typing.now c.args.term.class)) c.in-Register.is c.requires.ready.1) c.register_held.ensures) (omega arith) in
    Adds-weaken c.of_register.ensures.adds few

pub returns-in-Unary-clause-adds : goal.returns-in-Unary-clause-adds
returns-in-Unary-clause-adds g c =
    let few : function_gates c.in-Unary.function c.width_of-width.result ≤ term_gates c.args.typing.now c.args.term = rw (c.in-Unary.is, c.width_of-width.ensures) (omega arith) in
    Adds-weaken c.blast_function.ensures.adds few

pub returns-in-Binary-clause-adds : goal.returns-in-Binary-clause-adds
returns-in-Binary-clause-adds g c =
    let few : opcode_gates c.in-Binary.op c.width_of-width.result + 1 ≤ term_gates c.args.typing.now c.args.term = rw (c.in-Binary.is, c.width_of-width.ensures) (omega arith) in
    Adds-weaken c.blast_operator.ensures.adds few

pub returns-in-Width-clause-value : goal.returns-in-Width-clause-value
returns-in-Width-clause-value g c = IfOk-weaker c.within.result _ _ (λ made known inputs names admitted means.
    let typing = c.args.typing.now in
    known inputs admitted
    ∙ ap (λ n. within c.width_of-width.result n) (c.bits.ensures.bits ∙ c.width_of.ensures)
    ∙ ap (λ N. within N (slice_index typing c.in-Width.class)) c.width_of-width.ensures
    ∙ ap (node_gives typing names (map (held_value (g.C.State.value c.args.c.now inputs)) c.args.before.now) (slice_index typing c.args.term.class)) (sym c.in-Width.is)) c.within.ensures.value

pub returns-in-Literal-clause-own : goal.returns-in-Literal-clause-own
returns-in-Literal-clause-own g c = c.number.ensures.own

pub returns-in-Constant-clause-own : goal.returns-in-Constant-clause-own
returns-in-Constant-clause-own g c = c.of_word.ensures.own

pub returns-in-Register-clause-own : goal.returns-in-Register-clause-own
returns-in-Register-clause-own g c = c.of_register.ensures.own

pub returns-in-Choice-clause-own : goal.returns-in-Choice-clause-own
returns-in-Choice-clause-own g c = c.of_word-in-Choice.ensures.own

pub returns-in-Width-clause-own : goal.returns-in-Width-clause-own
returns-in-Width-clause-own g c = c.within.ensures.own

pub returns-in-Unary-clause-own : goal.returns-in-Unary-clause-own
returns-in-Unary-clause-own g c = c.blast_function.ensures.own

pub returns-in-Binary-clause-own : goal.returns-in-Binary-clause-own
returns-in-Binary-clause-own g c = c.blast_operator.ensures.own
