use Rattle.cnf_build.proofs.Common.{◌≡◌, ◌+◌, length, sym, subst, ap, arith, VariablesWithin, clauses_from}
use Rattle.cnf_build.proofs.SetLemmas.{VariablesWithin-clauses_from, VariablesWithin-root, IsVariable-inputs, length-clauses_from}
use Rattle.cnf_build.proofs.encoding.encode.Goals as goal

pub invariant_of-result-clause-gate_variables : goal.invariant_of-result-clause-gate_variables
invariant_of-result-clause-gate_variables c =
    let ds = c.args.definitions.now in
    subst (VariablesWithin (c.args.inputs + length ds)) (sym c.in_ok-gates.ensures) (VariablesWithin-clauses_from c.args.inputs ds c.requires.over_smaller)

pub invariant_of-result-clause-root_variables : goal.invariant_of-result-clause-root_variables
invariant_of-result-clause-root_variables c =
    let count = c.args.inputs + length c.args.definitions.now in
    subst (VariablesWithin count) (sym c.in_ok-root_clauses.ensures) (VariablesWithin-root count c.args.root c.requires.root)

pub invariant_of-result-clause-input_variables : goal.invariant_of-result-clause-input_variables
invariant_of-result-clause-input_variables c =
    let e = c.in_ok-input_variables.ensures in
    let n = e.count in
    IsVariable-inputs (c.args.inputs + length c.args.definitions.now) c.in_ok-input_variables.field-0 (omega arith) e.each

pub invariant_of-result-clause-few_clauses : goal.invariant_of-result-clause-few_clauses
invariant_of-result-clause-few_clauses c =
    let ds = c.args.definitions.now in
    let few = c.requires.few in
    let gates : length c.in_ok-gates.gates ≡ length (clauses_from (c.args.inputs + 1) ds) = ap length c.in_ok-gates.ensures in
    let roots : length c.in_ok-root_clauses.field-0 ≡ 1 = ap length c.in_ok-root_clauses.ensures in
    omega (arith, length-clauses_from (c.args.inputs + 1) ds)
