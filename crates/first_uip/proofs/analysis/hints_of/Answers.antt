use Rattle.first_uip.proofs.Common.{◌≡◌, Bool, true, false, Some, [], ◌∷◌, refl, sym, ap, ◌∙◌, slice_get, option_to_list, slice_get-get_or, append-nil, Entry, sameb, the_type, Resolved, is_resolved, part_of, role_of}
use Rattle.first_uip.proofs.RoleLemmas.{hints_next, resolved_is}
use Rattle.first_uip.proofs.analysis.hints_of.Goals as goal
use Rattle.first_uip.proofs.analysis.hints_of.Goals.{then-eq+in-Some+in_ok-push, then-eq+in_default, else-eq}

pub loop-entry-preserved : goal.loop-entry-preserved
loop-entry-preserved c =
    let shown = c.args.shown.now in
    let roles = c.args.roles.now in
    let k = c.loop-entry.entry-index in
    let e : Entry = c.entry-item.result in
    let at : slice_get shown k ≡ Some e = slice_get-get_or shown k e c.loop-entry-test.true ∙ ap Some (sym c.entry-item.is) in
    let so_far = c.loop-entry.invariant in
    let part : (b : Bool) → sameb the_type (role_of roles c.variable.result) Resolved ≡ b → is_resolved (part_of roles e) ≡ b =
    λ b same. sym (ap (λ n. is_resolved (role_of roles n)) c.variable.ensures) ∙ resolved_is (role_of roles c.variable.result) b same in
    elim c.if-eq.branch [
      | then-eq+in-Some+in_ok-push w ↦
          hints_next shown roles k e c.loop-entry.hints c.if-eq.hints (w.in-Some.number ∷ []) true at (part true (sym c.eq.ensures ∙ w.if-eq.true))
          (sym (ap option_to_list (sym w.reason.ensures ∙ w.in-Some.is))) so_far (w.hints-is ∙ w.in_ok-push.ensures.ok)
      | then-eq+in_default w ↦
          hints_next shown roles k e c.loop-entry.hints c.if-eq.hints [] true at (part true (sym c.eq.ensures ∙ w.if-eq.true))
          (sym (ap option_to_list (sym w.reason.ensures ∙ w.in_default.is))) so_far (w.hints-is ∙ sym (append-nil c.loop-entry.hints))
      | else-eq w ↦
          hints_next shown roles k e c.loop-entry.hints c.if-eq.hints [] false at (part false (sym c.eq.ensures ∙ w.if-eq.false))
          refl so_far (w.hints-is ∙ sym (append-nil c.loop-entry.hints))
    ]
