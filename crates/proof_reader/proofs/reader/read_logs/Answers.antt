use Rattle.proof_reader.proofs.Common.{List, subst, IfOk-weaker, IfErr-weaker, IsTextOf, IsFault, of_proof}
use Rattle.proof_reader.proofs.Refusing.{IfRefused-weaker}
use Rattle.proof_reader.proofs.reader.read_logs.Goals as goal

pub taken-requires-clause-text : goal.taken-requires-clause-text
taken-requires-clause-text c =
    let text = c.in_ok-proofs.ensures.ok in
    subst (λ (bytes : List _). IsTextOf bytes c.in_ok-proofs.proofs.items) text.2 text

pub returns-clause-ok : goal.returns-clause-ok
returns-clause-ok c =
    IfOk-weaker c.taken.result _ _ (λ read are. record {
      proofs = c.in_ok-proofs.proofs.items;
      text_is = (c.in_ok-proofs.ensures.ok, are.0);
      each = are.1;
    }) c.taken.ensures.ok

pub returns-clause-refused : goal.returns-clause-refused
returns-clause-refused c =
    IfErr-weaker c.taken.result _ _ (λ e. IfRefused-weaker e _ (IsFault c.args.rules.now c.args.bytes.now)
    (λ fault at. of_proof c.in_ok-proofs.proofs.items c.in_ok-proofs.ensures.ok at)) c.taken.ensures.refused
