use Rattle.verdict.proofs.Common.{◌≡◌, true, ap, length, arith, value_of}
use Rattle.blast_rule.specs.Inputs.{input_bits}
use Rattle.verdict.proofs.Chain.{stand_for_rule}
use Rattle.verdict.proofs.InputBits.{input_bits_few}
use Rattle.verdict.proofs.decision.counterexample_clauses.Goals as goal

pub clauses_of-requires-clause-few : goal.clauses_of-requires-clause-few
clauses_of-requires-clause-few c =
    let rule = c.args.rule.now in
    let typing = c.args.typing.now in
    let inputs : c.blast_rule.new.c.inputs ≡ input_bits rule typing = c.rests_tell_counts.ensures _ _ (λ inputs. c.in_ok-made.ensures.inputs inputs tt) in
    omega (
      arith,
      inputs,
      ap (λ g. length g.gates) c.new-graph.ensures,
      c.blast_rule.ensures.gates,
      c.gates_are_few.ensures.below rule typing c.requires.rule c.requires.typing,
      input_bits_few rule typing c.requires.rule c.requires.typing,
    )

pub returns : goal.returns
returns c =
    let graph = c.blast_rule.new.c in
    stand_for_rule c.args.rule.now c.args.typing.now (λ values. value_of graph values c.in_ok-made.made.bad ≡ true) graph.inputs (length graph.gates)
    (λ values. c.in_ok-made.ensures.bad values tt) (c.rests_tell_counts.ensures _ _ (λ inputs. c.in_ok-made.ensures.inputs inputs tt))
    (omega (arith, ap (λ g. length g.gates) c.new-graph.ensures, c.blast_rule.ensures.gates)) c.clauses_of.result
    c.clauses_of.ensures.stands c.clauses_of.ensures.count c.clauses_of.ensures.inputs
