use Rattle.test_texts.proofs.Readiness.{are_bytes}
use Rattle.test_texts.proofs.rewriting.reading.read_formed.Goals as goal

pub returns-clause-forms : goal.returns-clause-forms
returns-clause-forms c =
    c.module_texts_have_forms.ensures c.args.bytes.now c.in_ok-module.module (are_bytes c.args.bytes.now (λ k. (c.type_inv.bytes k).fits)) c.in_ok-module.ensures.ok
