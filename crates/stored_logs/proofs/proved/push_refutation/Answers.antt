use Rattle.stored_logs.proofs.Common.{◌≡◌, ℕ, List, ◌++◌, refl, ap₂, ◌∙◌, on_ok_weaker, proof_text}
use Rattle.stored_logs.proofs.proved.push_refutation.Goals as goal

pub returns : goal.returns
returns c =
    let log = c.in_ok-log.log in
    let name : c.in_ok-name.name ≡ c.args.rule.now.name = c.in_ok-name.ensures ∙ c.as_slice.ensures in
    let text = c.in_ok-push_proof.ensures ∙ ap₂ (λ (n ws : List ℕ). c.args.proved.now.text.items ++ proof_text (record { name = n; widths = ws; log = log })) name c.in_ok-widths.ensures in
    on_ok_weaker c.push.result (λ refutations. record {
      refutation = record { set = c.args.set; log = log };
      right = (c.requires.stands, c.in_ok-log.ensures.refutes c.requires.refutes);
      refutations = refutations;
      text = text;
      table = refl;
      all_admitted = refl;
    }) c.push.ensures.ok
