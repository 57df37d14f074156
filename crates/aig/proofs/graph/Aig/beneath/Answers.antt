use Rattle.aig.proofs.Common.{◌&&◌, Whole, value_of}
use Rattle.aig.proofs.Truth.{and_turned}
use Rattle.aig.proofs.Standing.{parts_stand, same_table}
use Rattle.aig.proofs.graph.Aig.beneath.Goals as goal

pub returns-in-Some : goal.returns-in-Some
returns-in-Some c =
    parts_stand c.args.self.now c.args.a c.args.b c.in-Some.known c.requires.own_a c.requires.own_b c.parts-parts.result Whole
    c.in-Some.ensures.value c.in-Some.ensures.over c.parts-parts.ensures.value (λ inputs. tt) c.parts-parts.ensures.own tt

pub returns-in-Some-settled : goal.returns-in-Some-settled
returns-in-Some-settled c =
    let graph = c.args.self.now in
    let a = c.args.a in
    let b = c.args.b in
    let l = c.in-Some-settled.known in
    same_table graph (λ inputs. value_of graph inputs b && value_of graph inputs a) (λ inputs. value_of graph inputs a && value_of graph inputs b) l
    (λ inputs. and_turned (value_of graph inputs b) (value_of graph inputs a))
    (parts_stand graph b a l c.requires.own_b c.requires.own_a c.parts-others.result Whole
    c.in-Some-settled.ensures.value c.in-Some-settled.ensures.over c.parts-others.ensures.value (λ inputs. tt) c.parts-others.ensures.own tt)

pub returns-in-Some-met : goal.returns-in-Some-met
returns-in-Some-met c =
    parts_stand c.args.self.now c.args.a c.args.b c.in-Some-met.known c.requires.own_a c.requires.own_b c.parts-parts.result c.parts-others.result
    c.in-Some-met.ensures.value c.in-Some-met.ensures.over c.parts-parts.ensures.value c.parts-others.ensures.value c.parts-parts.ensures.own
    c.parts-others.ensures.own
