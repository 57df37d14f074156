use Rattle.stored_logs.proofs.Common.{[], ◌∷◌, ◌++◌, refl, sym, ap, subst, ◌∙◌, false≢true, Proved, AddsProof}
use Rattle.stored_logs.proofs.Proving.{row_at, refutation_of, admitted_row, other_row}
use Rattle.stored_logs.proofs.proved.push_row.Goals as goal
use Rattle.stored_logs.proofs.proved.push_row.Goals.{then-is_admitted+in_ok-push_refutation, else-is_admitted}

pub push_refutation-requires-clause-refutes : goal.push_refutation-requires-clause-refutes
push_refutation-requires-clause-refutes c =
    refutation_of c.in_ok-verdict.verdict c.in_ok-verdict.set c.in_ok-verdict.log (c.is_admitted.ensures.0 c.if-is_admitted.true) c.in_ok-verdict.ensures.log

pub returns : goal.returns
returns c =
    let rule = c.args.rule.now in
    let typing = c.args.typing in
    let verdict = c.in_ok-verdict.verdict in
    let old = c.args.proved.now in
    let mid = c.if-is_admitted.proved in
    elim c.if-is_admitted.branch [
      | then-is_admitted+in_ok-push_refutation w ↦
          admitted_row c.args.conflicts c.args.place rule typing verdict old mid _ (c.is_admitted.ensures.0 w.if-is_admitted.true) c.in_ok-verdict.ensures.honest
          (subst (AddsProof rule typing old) (sym w.proved-is) w.in_ok-push_refutation.ensures) c.in_ok-push.ensures.ok refl refl refl
      | else-is_admitted w ↦
          other_row c.args.conflicts c.args.place rule typing verdict old _ (λ is. false≢true (sym w.if-is_admitted.false ∙ c.is_admitted.ensures.1 is)) c.in_ok-verdict.ensures.honest
          (c.in_ok-push.ensures.ok ∙ ap (λ (p : Proved). p.table ++ row_at c.args.place typing verdict ∷ []) w.proved-is)
          (ap (λ (p : Proved). p.refutations) w.proved-is) (ap (λ (p : Proved). p.text.items) w.proved-is) (ap (λ (p : Proved). p.all_admitted) w.proved-is)
    ]
