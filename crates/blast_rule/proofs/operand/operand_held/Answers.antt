use Rattle.blast_rule.proofs.Common.{◌≡◌, ◌≤◌, length, Some, sym, ap, subst, ◌∙◌, arith, rules, All, to_z-of_z, SFits, w128, IfOk-weaker, slice_get_within, same_Some, IsOwn, register_own, own_from_get, seen}
use Rattle.blast_rule.proofs.Reading.{register_ready, register_gives, width_told, literal_gives, truth_gives, digit-below, is_some, some_bits, constant_at, choice_at, term_at, constant_gives, choice_gives, term_gives}
use Rattle.blast_rule.proofs.operand.operand_held.Goals as goal

pub width_of-width-requires : goal.width_of-width-requires
width_of-width-requires g c = slice_get_within c.args.typing.now c.args.operand.class c.requires.ready.0 c.requires.ready.1.0

pub register_held-requires : goal.register_held-requires
register_held-requires g c =
    let h = register_ready c.args.scope c.args.typing.now c.requires.ready.0 c.args.operand c.in-Register.register c.requires.ready.1 c.in-Register.is in
    is_some _ h.0 h.1

pub returns-in-Register-clause-gives : goal.returns-in-Register-clause-gives
returns-in-Register-clause-gives g c =
    IfOk-weaker c.copied.result _ _ (λ held same inputs given admitted is_given.
    let gives = register_gives c.args.scope c.args.typing.now given (g.C.State.value c.args.c.now inputs) c.requires.ready.0 c.args.operand c.in-Register.register c.register_held.result.now c.requires.ready.1.0 c.in-Register.is c.register_held.ensures in
    rw same gives)
    c.copied.ensures

pub returns-in-Register-clause-width : goal.returns-in-Register-clause-width
returns-in-Register-clause-width g c =
    let h = register_ready c.args.scope c.args.typing.now c.requires.ready.0 c.args.operand c.in-Register.register c.requires.ready.1 c.in-Register.is in
    let here : h.0 ≡ c.register_held.result.now = same_Some h.0 c.register_held.result.now (sym h.1 ∙ c.register_held.ensures) in
    IfOk-weaker c.copied.result _ _ (λ held same. c.requires.ready.1.0 ∙ ap (λ N. Some N) (sym (ap (λ x. length x.bits) (same ∙ sym here) ∙ h.2))) c.copied.ensures

pub returns-in-Register-clause-own : goal.returns-in-Register-clause-own
returns-in-Register-clause-own g c =
    let own = register_own (g.C.State.has_literal c.args.c.now) c.args.scope c.in-Register.register c.register_held.result.now c.requires.own c.register_held.ensures in
    IfOk-weaker c.copied.result _ _ (λ held same. subst (IsOwn (g.C.State.has_literal c.args.c.now)) (sym same) own) c.copied.ensures

pub number-requires-in-Truth : goal.number-requires-in-Truth
number-requires-in-Truth g c =
    let one : c.requires.ready.0 ≡ 1 = rw c.in-Truth.is at c.requires.ready.1.1 in
    let width : c.width_of-width.result ≡ 1 = width_told c.args.typing.now c.args.operand.class c.requires.ready.0 c.width_of-width.result c.requires.ready.1.0 c.width_of-width.ensures ∙ one in
    record { fits = rw width (omega (arith, digit-below c.in-Truth.truth c.digit_of.result c.digit_of.ensures)) }

pub returns-in-Literal-clause-gives : goal.returns-in-Literal-clause-gives
returns-in-Literal-clause-gives g c =
    let fits : SFits w128 c.in-Literal.literal = search rules in
    let number = simp to_z-of_z at c.residue.ensures.residue in
    IfOk-weaker c.number.result _ _ (λ held value inputs given admitted is_given.
    literal_gives c.args.typing.now given (seen (g.C.State.value c.args.c.now inputs) c.args.scope) c.requires.ready.0 c.width_of-width.result c.args.operand _ c.requires.ready.1.0 c.width_of-width.ensures
    c.in-Literal.literal c.in-Literal.is (rw number at (value inputs admitted)))
    c.number.ensures.value

pub returns-in-Literal-clause-width : goal.returns-in-Literal-clause-width
returns-in-Literal-clause-width g c =
    let width = width_told c.args.typing.now c.args.operand.class c.requires.ready.0 c.width_of-width.result c.requires.ready.1.0 c.width_of-width.ensures in
    IfOk-weaker c.number.result _ _ (λ held is. c.requires.ready.1.0 ∙ ap (λ N. Some N) (sym (is ∙ width))) c.number.ensures.width

pub returns-in-Truth-clause-gives : goal.returns-in-Truth-clause-gives
returns-in-Truth-clause-gives g c =
    IfOk-weaker c.number-in-Truth.result _ _ (λ held value inputs given admitted is_given.
    truth_gives c.args.typing.now given (seen (g.C.State.value c.args.c.now inputs) c.args.scope) c.requires.ready.0 c.width_of-width.result c.args.operand _ c.requires.ready.1.0 c.width_of-width.ensures
    c.in-Truth.truth c.in-Truth.is (rw c.digit_of.ensures at (value inputs admitted)))
    c.number-in-Truth.ensures.value

pub returns-in-Truth-clause-width : goal.returns-in-Truth-clause-width
returns-in-Truth-clause-width g c =
    let width = width_told c.args.typing.now c.args.operand.class c.requires.ready.0 c.width_of-width.result c.requires.ready.1.0 c.width_of-width.ensures in
    IfOk-weaker c.number-in-Truth.result _ _ (λ held is. c.requires.ready.1.0 ∙ ap (λ N. Some N) (sym (is ∙ width))) c.number-in-Truth.ensures.width

pub returns-in-Register-clause-some : goal.returns-in-Register-clause-some
returns-in-Register-clause-some g c =
    let some : 1 ≤ c.width_of-width.result = omega arith in
    some_bits c.args.typing.now c.args.operand.class c.width_of-width.result c.copied.result some c.width_of-width.ensures (returns-in-Register-clause-width g c)

pub returns-in-Literal-clause-some : goal.returns-in-Literal-clause-some
returns-in-Literal-clause-some g c =
    let some : 1 ≤ c.width_of-width.result = omega arith in
    some_bits c.args.typing.now c.args.operand.class c.width_of-width.result c.number.result some c.width_of-width.ensures (returns-in-Literal-clause-width g c)

pub returns-in-Truth-clause-some : goal.returns-in-Truth-clause-some
returns-in-Truth-clause-some g c =
    let some : 1 ≤ c.width_of-width.result = omega arith in
    some_bits c.args.typing.now c.args.operand.class c.width_of-width.result c.number-in-Truth.result some c.width_of-width.ensures (returns-in-Truth-clause-width g c)

pub at-requires : goal.at-requires
at-requires g c = let w = constant_at c.args.scope c.args.typing.now c.requires.ready.0 c.args.operand c.in-Constant.k c.requires.ready.1 c.in-Constant.is in slice_get_within c.args.scope.constants.now c.in-Constant.k w.0 w.1

pub of_word-requires : goal.of_word-requires
of_word-requires g c = own_from_get (All (g.C.State.has_literal c.args.c.now)) c.args.scope.constants.now c.in-Constant.k c.at.result.now c.requires.own.constants c.at.ensures

pub returns-in-Constant-clause-gives : goal.returns-in-Constant-clause-gives
returns-in-Constant-clause-gives g c =
    let w = constant_at c.args.scope c.args.typing.now c.requires.ready.0 c.args.operand c.in-Constant.k c.requires.ready.1 c.in-Constant.is in
    let same : w.0 ≡ c.at.result.now = same_Some w.0 c.at.result.now (sym w.1 ∙ c.at.ensures) in
    IfOk-weaker c.of_word.result _ _ (λ held value inputs given admitted is_given.
    constant_gives c.args.scope c.args.typing.now c.requires.ready.0 c.args.operand c.in-Constant.k c.requires.ready.1 (g.C.State.value c.args.c.now inputs) given c.at.result.now _ c.in-Constant.is c.at.ensures is_given (value inputs admitted))
    c.of_word.ensures.value

pub returns-in-Constant-clause-width : goal.returns-in-Constant-clause-width
returns-in-Constant-clause-width g c =
    let w = constant_at c.args.scope c.args.typing.now c.requires.ready.0 c.args.operand c.in-Constant.k c.requires.ready.1 c.in-Constant.is in
    let same : w.0 ≡ c.at.result.now = same_Some w.0 c.at.result.now (sym w.1 ∙ c.at.ensures) in
    IfOk-weaker c.of_word.result _ _ (λ held is. c.requires.ready.1.0 ∙ ap (λ N. Some N) (sym (ap length (is ∙ sym same) ∙ w.2))) c.of_word.ensures.bits

pub returns-in-Constant-clause-some : goal.returns-in-Constant-clause-some
returns-in-Constant-clause-some g c =
    let some : 1 ≤ c.width_of-width.result = omega arith in
    some_bits c.args.typing.now c.args.operand.class c.width_of-width.result c.of_word.result some c.width_of-width.ensures (returns-in-Constant-clause-width g c)

pub at-requires-in-Undef : goal.at-requires-in-Undef
at-requires-in-Undef g c = let w = choice_at c.args.scope c.args.typing.now c.requires.ready.0 c.args.operand c.in-Undef.k c.requires.ready.1 c.in-Undef.is in slice_get_within c.args.scope.choices.now c.in-Undef.k w.0 w.1

pub of_word-requires-in-Undef : goal.of_word-requires-in-Undef
of_word-requires-in-Undef g c = own_from_get (All (g.C.State.has_literal c.args.c.now)) c.args.scope.choices.now c.in-Undef.k c.at-in-Undef.result.now c.requires.own.choices c.at-in-Undef.ensures

pub returns-in-Undef-clause-gives : goal.returns-in-Undef-clause-gives
returns-in-Undef-clause-gives g c =
    let w = choice_at c.args.scope c.args.typing.now c.requires.ready.0 c.args.operand c.in-Undef.k c.requires.ready.1 c.in-Undef.is in
    let same : w.0 ≡ c.at-in-Undef.result.now = same_Some w.0 c.at-in-Undef.result.now (sym w.1 ∙ c.at-in-Undef.ensures) in
    IfOk-weaker c.of_word-in-Undef.result _ _ (λ held value inputs given admitted is_given.
    choice_gives c.args.scope c.args.typing.now c.requires.ready.0 c.args.operand c.in-Undef.k c.requires.ready.1 (g.C.State.value c.args.c.now inputs) given c.at-in-Undef.result.now _ c.in-Undef.is c.at-in-Undef.ensures is_given (value inputs admitted))
    c.of_word-in-Undef.ensures.value

pub returns-in-Undef-clause-width : goal.returns-in-Undef-clause-width
returns-in-Undef-clause-width g c =
    let w = choice_at c.args.scope c.args.typing.now c.requires.ready.0 c.args.operand c.in-Undef.k c.requires.ready.1 c.in-Undef.is in
    let same : w.0 ≡ c.at-in-Undef.result.now = same_Some w.0 c.at-in-Undef.result.now (sym w.1 ∙ c.at-in-Undef.ensures) in
    IfOk-weaker c.of_word-in-Undef.result _ _ (λ held is. c.requires.ready.1.0 ∙ ap (λ N. Some N) (sym (ap length (is ∙ sym same) ∙ w.2))) c.of_word-in-Undef.ensures.bits

pub returns-in-Undef-clause-some : goal.returns-in-Undef-clause-some
returns-in-Undef-clause-some g c =
    let some : 1 ≤ c.width_of-width.result = omega arith in
    some_bits c.args.typing.now c.args.operand.class c.width_of-width.result c.of_word-in-Undef.result some c.width_of-width.ensures (returns-in-Undef-clause-width g c)

pub at-requires-in-Term : goal.at-requires-in-Term
at-requires-in-Term g c = let w = term_at c.args.scope c.args.typing.now c.requires.ready.0 c.args.operand c.in-Term.n c.requires.ready.1 c.in-Term.is in slice_get_within c.args.scope.terms.now c.in-Term.n w.0 w.1

pub of_word-requires-in-Term : goal.of_word-requires-in-Term
of_word-requires-in-Term g c = own_from_get (All (g.C.State.has_literal c.args.c.now)) c.args.scope.terms.now c.in-Term.n c.at-in-Term.result.now c.requires.own.terms c.at-in-Term.ensures

pub returns-in-Term-clause-gives : goal.returns-in-Term-clause-gives
returns-in-Term-clause-gives g c =
    let w = term_at c.args.scope c.args.typing.now c.requires.ready.0 c.args.operand c.in-Term.n c.requires.ready.1 c.in-Term.is in
    let same : w.0 ≡ c.at-in-Term.result.now = same_Some w.0 c.at-in-Term.result.now (sym w.1 ∙ c.at-in-Term.ensures) in
    IfOk-weaker c.of_word-in-Term.result _ _ (λ held value inputs given admitted is_given.
    term_gives c.args.scope c.args.typing.now c.requires.ready.0 c.args.operand c.in-Term.n c.requires.ready.1 (g.C.State.value c.args.c.now inputs) given c.at-in-Term.result.now _ c.in-Term.is c.at-in-Term.ensures (ap length (sym same) ∙ w.2) is_given (value inputs admitted))
    c.of_word-in-Term.ensures.value

pub returns-in-Term-clause-width : goal.returns-in-Term-clause-width
returns-in-Term-clause-width g c =
    let w = term_at c.args.scope c.args.typing.now c.requires.ready.0 c.args.operand c.in-Term.n c.requires.ready.1 c.in-Term.is in
    let same : w.0 ≡ c.at-in-Term.result.now = same_Some w.0 c.at-in-Term.result.now (sym w.1 ∙ c.at-in-Term.ensures) in
    IfOk-weaker c.of_word-in-Term.result _ _ (λ held is. c.requires.ready.1.0 ∙ ap (λ N. Some N) (sym (ap length (is ∙ sym same) ∙ w.2))) c.of_word-in-Term.ensures.bits

pub returns-in-Term-clause-some : goal.returns-in-Term-clause-some
returns-in-Term-clause-some g c =
    let some : 1 ≤ c.width_of-width.result = omega arith in
    some_bits c.args.typing.now c.args.operand.class c.width_of-width.result c.of_word-in-Term.result some c.width_of-width.ensures (returns-in-Term-clause-width g c)
