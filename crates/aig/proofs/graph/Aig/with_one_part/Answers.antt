use Rattle.aig.proofs.Common.{◌&&◌, sym, subst, eqb-true, HasParts, value_of}
use Rattle.aig.proofs.LiteralLemmas.{same_code}
use Rattle.aig.proofs.Standing.{nodes_of, some_same_table, first_part, second_part}
use Rattle.aig.proofs.graph.Aig.with_one_part.Goals as goal

pub returns-in-NotBoth : goal.returns-in-NotBoth
returns-in-NotBoth c =
    let graph = c.args.self.now in
    let a = c.args.a in
    let b = c.args.b in
    let x = c.in-NotBoth.x in
    let y = c.in-NotBoth.y in
    let n = c.negation.result in
    some_same_table graph (λ inputs. value_of graph inputs b && value_of graph inputs n) (λ inputs. value_of graph inputs a && value_of graph inputs b) c.found.result
    (λ inputs. first_part graph a x y b n inputs (same_code x b (eqb-true _ _ (sym c.if-eq.ensures))) c.negation.ensures
    (subst (HasParts (nodes_of graph inputs) a) c.in-NotBoth.is (c.requires.parts inputs)))
    c.found.ensures

pub returns-in-NotBoth-2 : goal.returns-in-NotBoth-2
returns-in-NotBoth-2 c =
    let graph = c.args.self.now in
    let a = c.args.a in
    let b = c.args.b in
    let x = c.in-NotBoth-2.x in
    let y = c.in-NotBoth-2.y in
    let n = c.negation-in-NotBoth-2.result in
    some_same_table graph (λ inputs. value_of graph inputs b && value_of graph inputs n) (λ inputs. value_of graph inputs a && value_of graph inputs b) c.found-in-NotBoth-2.result
    (λ inputs. second_part graph a x y b n inputs (same_code y b (eqb-true _ _ (sym c.if-eq-2.ensures))) c.negation-in-NotBoth-2.ensures
    (subst (HasParts (nodes_of graph inputs) a) c.in-NotBoth-2.is (c.requires.parts inputs)))
    c.found-in-NotBoth-2.ensures
