use Rattle.cnf_build.proofs.Common.{◌≡◌, ◌+◌, ◌-◌, ◌<◌, ◌≤◌, false, length, get_or, refl, sym, subst, arith, slice_get_read, Output, IsOperand, IsMarked}
use Rattle.cnf_build.proofs.MarksLemmas.{MarkedFrom, Adds, Adds-operands, OperandsBelow-more, MarkedFrom-marked, MarkedFrom-skipped, AreNeeded-from}
use Rattle.cnf_build.proofs.needed.Needed.by.Goals as goal

pub mark_operands-requires : goal.mark_operands-requires
mark_operands-requires c =
    let gates = c.args.gates.now in
    let k = c.loop-k.k - 1 in
    let within : k < length gates = omega arith in
    let le : k ≤ length c.loop-k.needed.gates = let n = c.loop-k.invariant.count in omega arith in
    let gate = c.index-gates-k.result in
    OperandsBelow-more k (length c.loop-k.needed.gates) le gate
    (c.requires.in_order k gate (slice_get_read gates (length gates) k gate refl within c.index-gates-k.is))

pub loop-k-preserved-then-has_gate : goal.loop-k-preserved-then-has_gate
loop-k-preserved-then-has_gate c =
    let gates = c.args.gates.now in
    let old = c.loop-k.needed in
    let k = c.loop-k.k - 1 in
    let place : c.loop-k.k ≡ k + 1 = omega arith in
    let within : k < length gates = omega arith in
    let le : k ≤ length old.gates = let n = c.loop-k.invariant.count in omega arith in
    let gate = c.index-gates-k.result in
    let at = slice_get_read gates (length gates) k gate refl within c.index-gates-k.is in
    let below = c.requires.in_order k gate at in
    let adds : Adds (λ node. IsOperand node gate) old c.mark_operands.new.self =
    subst (Adds (λ node. IsOperand node gate) old) (sym c.mark_operands.ensures)
    (Adds-operands old gate (OperandsBelow-more k (length old.gates) le gate below)) in
    let marked : IsMarked old (Output k) = cc in
    MarkedFrom-marked gates c.args.root k gate old c.mark_operands.new.self at below marked
    (subst (λ i. MarkedFrom gates c.args.root i old) place c.loop-k.invariant) adds

pub loop-k-preserved : goal.loop-k-preserved
loop-k-preserved c =
    let gates = c.args.gates.now in
    let old = c.loop-k.needed in
    let k = c.loop-k.k - 1 in
    let place : c.loop-k.k ≡ k + 1 = omega arith in
    let free : get_or old.gates k false ≡ false = cc in
    MarkedFrom-skipped gates c.args.root k old free (subst (λ i. MarkedFrom gates c.args.root i old) place c.loop-k.invariant)

pub returns : goal.returns
returns c =
    let done : c.loop-k.k ≡ 0 = omega arith in
    AreNeeded-from c.args.gates.now c.args.root c.loop-k.needed
    (subst (λ i. MarkedFrom c.args.gates.now c.args.root i c.loop-k.needed) done c.loop-k.invariant)
