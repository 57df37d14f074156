use Rattle.aig.proofs.Common.{Bool, List, ◌&&◌, length, sym, ap, subst, ◌∙◌, IfOk-weaker, OperandsAmong, value_of, gate_value, gate_values, Stands}
use Rattle.aig.proofs.Ordered.{ordered_and-operands, ordered_and-value}
use Rattle.aig.proofs.Standing.{and_stands, same_table}
use Rattle.aig.proofs.graph.Aig.both.Goals as goal

pub returns-in-Some-clause-stands : goal.returns-in-Some-clause-stands
returns-in-Some-clause-stands c =
    and_stands c.args.self.now c.args.a c.args.b c.in-Some.known c.requires.own_a c.requires.own_b c.in-Some.ensures.value c.in-Some.ensures.over

pub push-requires-clause-operands : goal.push-requires-clause-operands
push-requires-clause-operands c =
    let graph = c.args.self.now in
    subst (OperandsAmong graph.inputs (length graph.gates)) (sym c.and.ensures)
    (ordered_and-operands c.args.a c.args.b graph.inputs (length graph.gates) (c.requires.own_a, c.requires.own_b))

pub returns-clause-stands : goal.returns-clause-stands
returns-clause-stands c =
    let old = c.args.self.now in
    let new = c.push.new.self in
    let a = c.args.a in
    let b = c.args.b in
    let t : List Bool → Bool = λ inputs. gate_value inputs (gate_values inputs old.gates) c.and.result in
    let u : List Bool → Bool = λ inputs. value_of old inputs a && value_of old inputs b in
    IfOk-weaker c.push.result (Stands new t) (Stands new u)
    (λ l. same_table new t u l (λ inputs. ap (gate_value inputs (gate_values inputs old.gates)) c.and.ensures ∙ ordered_and-value a b inputs (gate_values inputs old.gates)))
    c.push.ensures.stands
