use Rattle.stored_logs.proofs.Common.{refl, sym, subst, slice_get_within, on_ok_weaker, Rule, IsRule, IsTyping}
use Rattle.stored_logs.proofs.Rechecking.{one_verdict, read_at}
use Rattle.stored_logs.proofs.rechecked.push_verdict_on.Goals as goal

pub bounds-rules-proof : goal.bounds-rules-proof
bounds-rules-proof c = slice_get_within c.args.rules.now c.args.proof.rule c.requires.proof.0 c.requires.proof.1

pub readmit-requires-clause-rule : goal.readmit-requires-clause-rule
readmit-requires-clause-rule c =
    let within = slice_get_within c.args.rules.now c.args.proof.rule c.requires.proof.0 c.requires.proof.1 in
    subst IsRule (sym c.index-rules-proof.is) (c.requires.rules c.args.proof.rule c.index-rules-proof.result within).checks

pub readmit-requires-clause-typing : goal.readmit-requires-clause-typing
readmit-requires-clause-typing c =
    let at = read_at c.args.rules.now c.args.proof.rule c.requires.proof.0 c.index-rules-proof.result c.requires.proof.1 c.index-rules-proof.is in
    subst (λ (r : Rule). IsTyping r c.args.proof.typing) at.0 c.requires.proof.2

pub returns : goal.returns
returns c =
    let at = read_at c.args.rules.now c.args.proof.rule c.requires.proof.0 c.index-rules-proof.result c.requires.proof.1 c.index-rules-proof.is in
    on_ok_weaker c.push.result (λ table. one_verdict c.args.rules.now c.args.conflicts c.args.proof c.index-rules-proof.result c.in_ok-verdict.verdict c.is_admitted.result c.args.rechecked.now _ at.1
    c.in_ok-verdict.ensures.honest c.in_ok-verdict.ensures.unrefuted c.is_admitted.ensures table c.in_ok-push_verdict.ensures refl) c.push.ensures.ok
