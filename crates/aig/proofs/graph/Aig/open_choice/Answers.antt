use Rattle.aig.proofs.Common.{◌≡◌, Bool, true, false, not, List, if◌then◌else◌, sym, ap, ◌∙◌, subst, Literal, negation_of, Mux, Graph, gate_value, gate_values, value_of, Stands}
use Rattle.aig.proofs.Standing.{nodes_of, negated_table, value_under-negation}
use Rattle.aig.proofs.graph.Aig.open_choice.Goals as goal

-- the negation of a choice between two negations is the choice between the literals
mux_negated : (graph : Graph) (c y n y' n' : Literal) → y' ≡ negation_of y → n' ≡ negation_of n → (inputs : List Bool) → not (gate_value inputs (gate_values inputs graph.gates) (Mux c y' n')) ≡ (if value_of graph inputs c then value_of graph inputs y else value_of graph inputs n)
mux_negated graph c y n y' n' is_y is_n inputs =
    let v = value_of graph inputs in
    let e : value_of graph inputs y' ≡ not (value_of graph inputs y) = ap v is_y ∙ value_under-negation (nodes_of graph inputs) y in
    let f : value_of graph inputs n' ≡ not (value_of graph inputs n) = ap v is_n ∙ value_under-negation (nodes_of graph inputs) n in
    by (v c) (v y) (v n) (v y') (v n') e f
  where
    by : (p q r a b : Bool) → a ≡ not q → b ≡ not r → not (if p then a else b) ≡ (if p then q else r)
    by true true r a b e f = ap not e
    by true false r a b e f = ap not e
    by false q true a b e f = ap not f
    by false q false a b e f = ap not f

pub returns-in_ok-made-clause-stands : goal.returns-in_ok-made-clause-stands
returns-in_ok-made-clause-stands c =
    let old = c.args.self.now in
    let new = c.push.new.self in
    let t : List Bool → Bool = λ inputs. gate_value inputs (gate_values inputs old.gates) (Mux c.args.condition c.negation.result c.negation-then-is_negated.result) in
    let u : List Bool → Bool = λ inputs. if value_of old inputs c.args.condition then value_of old inputs c.args.yes else value_of old inputs c.args.no in
    subst (Stands new u) (sym c.negation-then-is_negated-2.ensures)
    (negated_table new t u c.in_ok-made.made
    (mux_negated old c.args.condition c.args.yes c.args.no c.negation.result c.negation-then-is_negated.result c.negation.ensures c.negation-then-is_negated.ensures)
    c.in_ok-made.ensures.stands)
