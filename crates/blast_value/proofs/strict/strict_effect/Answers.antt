use Rattle.blast_value.proofs.Common.{sym, ◌∙◌, ◌≤◌, ◌+◌, arith, IfOk-weaker, Adds-trans, Adds-weaken, number_gates, poison_gates, strict_opcode}
use Rattle.blast_value.proofs.Effects.{strict_instruction, strict_poison}
use Rattle.blast_value.proofs.strict.strict_effect.Goals as goal

pub returns-clause-effect : goal.returns-clause-effect
returns-clause-effect g c =
    let keeps = c.at_numbers.ensures.adds.keeps in
    IfOk-weaker c.with_poison.result _ _ (λ made known inputs admitted.
    let poison_a = keeps.values inputs c.args.a.now.poison admitted c.requires.own_a.poison in
    let poison_b = keeps.values inputs c.args.b.now.poison admitted c.requires.own_b.poison in
    (rw (poison_a, poison_b) at (known inputs (keeps.admitted inputs admitted)))
    ∙ strict_instruction (strict_opcode c.args.op) c.args.flags c.args.width _ _ _ _ _ _ _ (strict_poison c.args.op c.args.width) (sym (c.in_ok-made.ensures.value inputs admitted)) c.requires.width_a c.requires.width_b)
    c.with_poison.ensures.effect

pub returns-in_err-made-clause-adds : goal.returns-in_err-made-clause-adds
returns-in_err-made-clause-adds g c =
    let few : number_gates c.args.op c.args.width ≤ number_gates c.args.op c.args.width + poison_gates = omega arith in
    Adds-weaken c.at_numbers.ensures.adds few

pub returns-clause-adds : goal.returns-clause-adds
returns-clause-adds g c =
    let few : number_gates c.args.op c.args.width + poison_gates ≤ number_gates c.args.op c.args.width + poison_gates = omega arith in
    Adds-weaken (Adds-trans c.at_numbers.ensures.adds c.with_poison.ensures.adds) few
