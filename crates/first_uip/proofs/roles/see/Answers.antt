use Rattle.first_uip.proofs.Common.{◌≡◌, ◌+◌, ◌<◌, true, Some, length, take, get_or, set, sym, ap, ◌∙◌, subst, arith, slice_get, slice_get-get_or, Lit, Resolved, Sees, is_seen, role_of, EachMarked, is_marked}
use Rattle.first_uip.proofs.Marked.{EachMarked-set}
use Rattle.first_uip.proofs.RoleLemmas.{Sees-skip, Sees-next, unseen_if, seen_if}
use Rattle.first_uip.proofs.roles.see.Goals as goal
use Rattle.first_uip.proofs.roles.see.Goals.{then-eq, else-eq}

pub loop-literal-preserved : goal.loop-literal-preserved
loop-literal-preserved c =
    let clause = c.args.clause.now in
    let k = c.loop-literal.literal-index in
    let old = c.args.roles.now in
    let mid = c.loop-literal.roles in
    let l : Lit = c.literal-item.result in
    let at : slice_get clause k ≡ Some l = slice_get-get_or clause k l c.loop-literal-test.true ∙ ap Some (sym c.literal-item.is) in
    let variable : c.variable-variable.result ≡ l.variable = c.variable-variable.ensures in
    let within : (get_or clause k l).variable < length old = c.requires.within k l c.loop-literal-test.true in
    let room : l.variable < length mid =
    omega (arith, within, ap (λ (m : Lit). m.variable) c.literal-item.is, c.loop-literal.auto.roles) in
    let places = c.args.places.now in
    let inv = c.loop-literal.invariant in
    elim c.if-eq.branch [
      | then-eq w ↦
          let roles_are : c.if-eq.roles ≡ set mid l.variable Resolved = w.roles-is ∙ ap (λ n. set mid n Resolved) variable in
          let here : is_marked w.mark.new.blocks (get_or places l.variable 0) ≡ true =
          subst (λ n. is_marked w.mark.new.blocks (get_or places n 0) ≡ true) variable w.mark.ensures.here in
          record {
            sees =
                subst (Sees (take (k + 1) clause) old) (sym roles_are)
                (Sees-next clause old mid k l at room
                (sym (ap (role_of mid) variable) ∙ unseen_if (role_of mid c.variable-variable.result) (sym c.eq.ensures ∙ w.if-eq.true)) inv.sees);
            marked =
                subst (λ bs. EachMarked bs places c.if-eq.roles) (sym w.blocks-is)
                (subst (EachMarked w.mark.new.blocks places) (sym roles_are)
                (EachMarked-set c.loop-literal.blocks w.mark.new.blocks places mid l.variable Resolved w.mark.ensures.still here inv.marked));
          }
      | else-eq w ↦
          record {
            sees =
                subst (Sees (take (k + 1) clause) old) (sym w.roles-is)
                (Sees-skip clause old mid k l at
                (sym (ap (λ n. is_seen (role_of mid n)) variable) ∙ seen_if (role_of mid c.variable-variable.result) (sym c.eq.ensures ∙ w.if-eq.false))
                inv.sees);
            marked = subst (λ bs. EachMarked bs places c.if-eq.roles) (sym w.blocks-is) (subst (EachMarked c.loop-literal.blocks places) (sym w.roles-is) inv.marked);
          }
    ]
