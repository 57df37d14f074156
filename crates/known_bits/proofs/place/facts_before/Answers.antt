use Rattle.known_bits.proofs.Common.{◌≡◌, ◌≤◌, List, length, take, refl, sym, ap, subst, ◌∙◌, arith, All, take_all, All-push, KnownBit, known_operand, known_result, known_results, insts_of}
use Rattle.known_bits.proofs.BlockResults.{results_none, results_more, insts_are, read_has_widths}
use Rattle.known_bits.proofs.place.facts_before.Goals as goal

pub loop-inst-init : goal.loop-inst-init
loop-inst-init c = (refl, c.new.ensures ∙ sym (results_none c.args.block), λ k d below. absurd (omega (arith, ap length c.new.ensures)))

pub result_bits-requires : goal.result_bits-requires
result_bits-requires c =
    let block = c.index-as_slice-block.result in
    let inst = c.inst-item.result in
    let widths = read_has_widths c.args.f.now c.args.block block c.requires.block (rw c.as_slice.ensures at c.index-as_slice-block.is) c.requires.formed c.args.place c.loop-inst.inst-index inst
    (rw c.as_slice-2.ensures at c.loop-inst-test.true) (rw c.as_slice-2.ensures at c.inst-item.is) in
    rw (c.loop-inst.invariant.0, c.loop-inst.invariant.1, c.as_slice-2.ensures) widths

pub loop-inst-preserved : goal.loop-inst-preserved
loop-inst-preserved c =
    let insts = take c.args.place c.as_slice-2.result.now in
    let inst = c.inst-item.result in
    let is : c.in_ok-bits.bits ≡ known_result (known_operand c.args.block c.loop-inst.facts.results) inst.width inst.op = rw c.loop-inst.invariant.0 at c.in_ok-bits.ensures.bits in (
      c.loop-inst.invariant.0,
      results_more c.args.block insts c.loop-inst.inst-index inst c.loop-inst.facts.results c.push.new.self c.in_ok-bits.bits c.loop-inst-test.true c.inst-item.is c.loop-inst.invariant.1 is c.in_ok-push.ensures.ok,
      subst (All (λ (bits : List KnownBit). length bits ≤ 64)) (sym c.in_ok-push.ensures.ok) (All-push (λ (bits : List KnownBit). length bits ≤ 64) c.loop-inst.facts.results c.in_ok-bits.bits c.loop-inst.invariant.2 c.in_ok-bits.ensures.few),
    )

pub returns-clause-results : goal.returns-clause-results
returns-clause-results c =
    let insts = take c.args.place c.as_slice-2.result.now in
    let block = c.index-as_slice-block.result in
    let all : take c.loop-inst.inst-index insts ≡ insts = take_all c.loop-inst.inst-index insts (omega arith) in
    let are : c.as_slice-2.result.now ≡ insts_of c.args.f.now c.args.block = c.as_slice-2.ensures ∙ sym (insts_are c.args.f.now c.args.block block c.requires.block (rw c.as_slice.ensures at c.index-as_slice-block.is)) in
    c.loop-inst.invariant.1 ∙ ap (known_results c.args.block) (all ∙ ap (take c.args.place) are)
