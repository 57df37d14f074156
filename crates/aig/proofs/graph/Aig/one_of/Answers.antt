use Rattle.aig.proofs.Common.{Bool, List, sym, ◌∙◌, subst, xor, value_of, Stands}
use Rattle.aig.proofs.Truth.{beq_same, beq_apart}
use Rattle.aig.proofs.Standing.{same_table, negated_table, same_signs, unlike_signs}
use Rattle.aig.proofs.graph.Aig.one_of.Goals as goal

pub returns-then-is_negated-clause-stands : goal.returns-then-is_negated-clause-stands
returns-then-is_negated-clause-stands c =
    let old = c.args.self.now in
    let a = c.args.a in
    let b = c.args.b in
    same_table c.one_of_plain.new.self (λ inputs. xor (value_of old inputs c.plain.result) (value_of old inputs c.plain-2.result))
    (λ inputs. xor (value_of old inputs a) (value_of old inputs b)) c.in_ok-made.made
    (same_signs old a b c.plain.result c.plain-2.result c.plain.ensures c.plain-2.ensures
    (sym c.is_negated.ensures ∙ beq_same _ _ c.if-is_negated.true ∙ c.is_negated-2.ensures))
    c.in_ok-made.ensures.stands

pub returns-else-is_negated-clause-stands : goal.returns-else-is_negated-clause-stands
returns-else-is_negated-clause-stands c =
    let old = c.args.self.now in
    let new = c.one_of_plain.new.self in
    let a = c.args.a in
    let b = c.args.b in
    let t : List Bool → Bool = λ inputs. xor (value_of old inputs a) (value_of old inputs b) in
    subst (Stands new t) (sym c.negation.ensures)
    (negated_table new (λ inputs. xor (value_of old inputs c.plain.result) (value_of old inputs c.plain-2.result)) t c.in_ok-made.made
    (unlike_signs old a b c.plain.result c.plain-2.result c.plain.ensures c.plain-2.ensures
    (λ e. beq_apart _ _ c.if-is_negated.false (c.is_negated.ensures ∙ e ∙ sym c.is_negated-2.ensures)))
    c.in_ok-made.ensures.stands)
