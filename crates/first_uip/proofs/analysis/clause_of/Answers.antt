use Rattle.first_uip.proofs.Common.{◌≡◌, Bool, true, false, Some, [], ◌∷◌, sym, refl, ap, ◌∙◌, slice_get, slice_get-get_or, append-nil, sameb, Lit, Entry, the_type, Kept, is_kept, part_of, role_of}
use Rattle.first_uip.proofs.RoleLemmas.{clause_next, kept_is}
use Rattle.first_uip.proofs.analysis.clause_of.Goals as goal
use Rattle.first_uip.proofs.analysis.clause_of.Goals.{then-eq+in_ok-push, else-eq}

pub loop-entry-preserved : goal.loop-entry-preserved
loop-entry-preserved c =
    let shown = c.args.shown.now in
    let roles = c.args.roles.now in
    let k = c.loop-entry.entry-index in
    let e : Entry = c.entry-item.result in
    let at : slice_get shown k ≡ Some e = slice_get-get_or shown k e c.loop-entry-test.true ∙ ap Some (sym c.entry-item.is) in
    let part : (b : Bool) → sameb the_type (role_of roles c.variable.result) Kept ≡ b → is_kept (part_of roles e) ≡ b =
    λ b same. sym (ap (λ n. is_kept (role_of roles n)) c.variable.ensures) ∙ kept_is (role_of roles c.variable.result) b same in
    elim c.if-eq.branch [
      | then-eq+in_ok-push w ↦
          clause_next shown roles k e c.loop-entry.clause c.if-eq.clause (w.negation.result ∷ []) true at (part true (sym c.eq.ensures ∙ w.if-eq.true))
          (ap (λ (l : Lit). l ∷ []) w.negation.ensures) c.loop-entry.invariant (w.clause-is ∙ w.in_ok-push.ensures.ok)
      | else-eq w ↦
          clause_next shown roles k e c.loop-entry.clause c.if-eq.clause [] false at (part false (sym c.eq.ensures ∙ w.if-eq.false))
          refl c.loop-entry.invariant (w.clause-is ∙ sym (append-nil c.loop-entry.clause))
    ]
