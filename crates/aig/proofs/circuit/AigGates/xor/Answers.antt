use Rattle.aig.proofs.Common.{ap, ◌∙◌, IfOk-weaker, certain, certain_xor, value_of}
use Rattle.aig.proofs.circuit.AigGates.xor.Goals as goal

pub returns-clause-known : goal.returns-clause-known
returns-clause-known c =
    let old = c.args.self.now in
    IfOk-weaker c.one_of.result _ _ (λ made stands inputs. ap certain (stands.value inputs) ∙ certain_xor (value_of old inputs c.args.a) (value_of old inputs c.args.b)) c.one_of.ensures.stands
