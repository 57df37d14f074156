use Rattle.cnf_build.proofs.Common.{◌≡◌, ◌+◌, ◌<◌, length, refl, sym, ap, ◌∙◌, subst, arith, slice_get_read, IsInOrder, Names, NamesFirst, with_gate}
use Rattle.cnf_build.proofs.NamesLemmas.{NamesFirst-next, inputs-with_gate}
use Rattle.cnf_build.proofs.naming.Naming.of.Goals as goal

pub loop-place-preserved : goal.loop-place-preserved
loop-place-preserved c =
    let gates = c.args.gates.now in
    let k = c.loop-place.place in
    let names = c.loop-place.naming in
    let within : k < length gates = omega arith in
    let gate = c.index-gates-place.result in
    let order : IsInOrder names.inputs gates = subst (λ n. IsInOrder n gates) (sym c.loop-place.invariant.inputs) c.requires.in_order in
    let next : NamesFirst gates c.args.needed.now (k + 1) (with_gate names gate c.has_gate.result) =
    NamesFirst-next gates c.args.needed.now k names gate order c.requires.closed
    (slice_get_read gates (length gates) k gate refl within c.index-gates-place.is) c.loop-place.invariant.named c.has_gate.result (sym c.has_gate.ensures) in
    record {
      inputs = ap (λ (n : Names). n.inputs) c.in_ok-name_gate.ensures ∙ inputs-with_gate names gate c.has_gate.result ∙ c.loop-place.invariant.inputs;
      named = subst (NamesFirst gates c.args.needed.now (k + 1)) (sym c.in_ok-name_gate.ensures) next;
    }

pub returns-clause-named : goal.returns-clause-named
returns-clause-named c =
    let gates = c.args.gates.now in
    let whole : c.loop-place.place ≡ length gates = omega (arith, c.loop-place.auto.place-end, c.loop-place-test.false) in
    subst (λ k. NamesFirst gates c.args.needed.now k c.loop-place.naming) whole c.loop-place.invariant.named
