use Rattle.cnf_build.proofs.Common.{◌≡◌, ◌+◌, ◌*◌, ◌≤◌, All, length, subst, sym, ap, ◌∙◌, slice_get, Some, arith, IfOk-weaker, clauses_from, NamesOnce}
use Rattle.cnf_build.proofs.MarksLemmas.{OperandsBelow-from_OperandsAmong}
use Rattle.cnf_build.proofs.EncodingLemmas.{variable_within, stands_for_root, clauses_once}
use Rattle.cnf_build.proofs.encoding.clauses_of.Goals as goal

pub by-requires-clause-in_order : goal.by-requires-clause-in_order
by-requires-clause-in_order c =
    λ k gate at.
    OperandsBelow-from_OperandsAmong c.args.aig.now.inputs k gate
    (c.gates-gates.ensures.in_order k gate (subst (λ gs. slice_get gs k ≡ Some gate) c.gates-gates.ensures.gates at))

pub encode-requires-clause-root : goal.encode-requires-clause-root
encode-requires-clause-root c =
    variable_within c.args.aig.now c.args.root c.in_ok-needed.needed c.in_ok-naming.naming c.gates-gates.ensures.in_order c.requires.own
    c.gates-gates.result.now c.gates-gates.ensures.gates c.in_ok-needed.ensures c.in_ok-naming.ensures.named
    (c.in_ok-naming.ensures.inputs ∙ c.input_count-inputs.ensures) c.input_count-inputs.result c.input_count-inputs.ensures c.definitions.result.now c.definitions.ensures
    c.literal.result c.literal.ensures

pub returns-clause-stands : goal.returns-clause-stands
returns-clause-stands c =
    stands_for_root c.args.aig.now c.args.root c.in_ok-needed.needed c.in_ok-naming.naming c.gates-gates.ensures.in_order c.requires.own
    c.gates-gates.result.now c.gates-gates.ensures.gates c.in_ok-needed.ensures c.in_ok-naming.ensures.named
    (c.in_ok-naming.ensures.inputs ∙ c.input_count-inputs.ensures) c.input_count-inputs.result c.input_count-inputs.ensures c.definitions.result.now c.definitions.ensures
    c.literal.result c.literal.ensures c.encode.result c.encode.ensures.gates c.encode.ensures.roots c.encode.ensures.input_count c.encode.ensures.inputs c.encode.ensures.count

pub returns-clause-once : goal.returns-clause-once
returns-clause-once c =
    IfOk-weaker c.encode.result (λ set. set.gates ≡ clauses_from (c.input_count-inputs.result + 1) c.definitions.result.now) (λ set. All NamesOnce set.gates)
    (λ set is. subst (All NamesOnce) (sym is)
    (clauses_once c.args.aig.now c.args.root c.in_ok-needed.needed c.in_ok-naming.naming c.gates-gates.ensures.in_order c.requires.own
    c.gates-gates.result.now c.gates-gates.ensures.gates c.in_ok-needed.ensures c.in_ok-naming.ensures.named
    (c.in_ok-naming.ensures.inputs ∙ c.input_count-inputs.ensures) c.input_count-inputs.result c.input_count-inputs.ensures
    c.definitions.result.now c.definitions.ensures c.literal.result c.literal.ensures c.gates-gates.ensures.proper))
    c.encode.ensures.gates

pub returns-clause-gates : goal.returns-clause-gates
returns-clause-gates c =
    let n = c.input_count-inputs.result + 1 in
    IfOk-weaker c.encode.result (λ set. set.gates ≡ clauses_from n c.definitions.result.now) (λ set. length set.gates ≤ 4 * length c.args.aig.now.gates + 1)
    (λ set is.
    omega (
      arith,
      ap length is,
      ap (λ ds. length (clauses_from n ds)) c.definitions.ensures,
      c.in_ok-naming.ensures.named.few_clauses n,
      ap length c.gates-gates.ensures.gates,
    ))
    c.encode.ensures.gates
