use Rattle.aig.proofs.Common.{Bool, List, ap, ◌∙◌, xor, IfOk-weaker, value_of, gate_value, gate_values, Stands}
use Rattle.aig.proofs.Ordered.{ordered_xor-value}
use Rattle.aig.proofs.Standing.{xor_stands, same_table}
use Rattle.aig.proofs.graph.Aig.one_of_plain.Goals as goal

pub returns-in-Some-clause-stands : goal.returns-in-Some-clause-stands
returns-in-Some-clause-stands c =
    xor_stands c.args.self.now c.args.a c.args.b c.in-Some.known c.requires.own_a c.requires.own_b c.in-Some.ensures.value c.in-Some.ensures.over

pub returns-in-None-clause-stands : goal.returns-in-None-clause-stands
returns-in-None-clause-stands c =
    let old = c.args.self.now in
    let new = c.push.new.self in
    let a = c.args.a in
    let b = c.args.b in
    let t : List Bool → Bool = λ inputs. gate_value inputs (gate_values inputs old.gates) c.xor.result in
    let u : List Bool → Bool = λ inputs. xor (value_of old inputs a) (value_of old inputs b) in
    IfOk-weaker c.push.result (Stands new t) (Stands new u)
    (λ l. same_table new t u l (λ inputs. ap (gate_value inputs (gate_values inputs old.gates)) c.xor.ensures ∙ ordered_xor-value a b inputs (gate_values inputs old.gates)))
    c.push.ensures.stands
