use Rattle.draft_steps.proofs.Common.{◌≡◌, List, [], ◌++◌, Contains, Vec, Global, refl, sym, ap, subst, ◌∙◌, Register, not_in_empty, HaveInsts, IsEliminating, KeepsUses, numbers_of, Draft, insts-stay}
use Rattle.ir_core.specs.declared.operand.Register.TheVariants as registers
use Rattle.draft_steps.proofs.Clearing.{IsMadeClean, clean_by_uses, clean_without_cycles, cleaned_again, cleaning_starts}
use Rattle.draft_steps.proofs.PutAll.{append_none}
use Rattle.draft_steps.proofs.dead_code.eliminate_dead_code.Goals as goal
use Rattle.draft_steps.proofs.dead_code.eliminate_dead_code.Goals.{then-draft+then-not-are_needed+in_ok-remove_dead+in_ok-remove_unused-2, else-draft, else-draft-via-then-draft+else-not-are_needed, else-draft-via-else-draft}

pub are_needed-requires-clause-result : goal.are_needed-requires-clause-result
are_needed-requires-clause-result c = λ r is.
    let d = c.args.draft.now in
    let start : IsEliminating d.arena (numbers_of d) d.arena (numbers_of d) (d.dead_candidates.items ++ c.new-used.result.items) =
    subst (λ (l : List Register). IsEliminating d.arena (numbers_of d) d.arena (numbers_of d) (d.dead_candidates.items ++ l)) (sym c.new-used.ensures.items) (cleaning_starts d d.dead_candidates.items c.requires.waits) in
    (c.in_ok-remove_unused.ensures.cleaning d.arena (numbers_of d) start).needed r (c.requires.result r is)

pub returns : goal.returns
returns c =
    let d = c.args.draft.now in
    let one = c.remove_unused.new.draft in
    let used = c.remove_unused.new.used.items in
    let e = c.in_ok-remove_unused.ensures in
    let start : IsEliminating d.arena (numbers_of d) d.arena (numbers_of d) (d.dead_candidates.items ++ c.new-used.result.items) =
    subst (λ (l : List Register). IsEliminating d.arena (numbers_of d) d.arena (numbers_of d) (d.dead_candidates.items ++ l)) (sym c.new-used.ensures.items) (cleaning_starts d d.dead_candidates.items c.requires.waits) in
    let is : IsEliminating d.arena (numbers_of d) one.arena (numbers_of one) used = e.cleaning d.arena (numbers_of d) start in
    let have : HaveInsts one used = e.used (λ b n has. absurd (not_in_empty (registers.Result b n) (subst (λ (l : List Register). Contains l (registers.Result b n)) c.new-used.ensures.items has))) in
    let fell : d.dead_candidates.items ≡ d.dead_candidates.items ++ c.new-used.result.items = sym (append_none d.dead_candidates.items) ∙ ap (λ (l : List Register). d.dead_candidates.items ++ l) (sym c.new-used.ensures.items) in
    let reads : (was : Draft) → KeepsUses was d d.dead_candidates.items → KeepsUses was one used = λ was keeps. e.reads was (subst (KeepsUses was d) fell keeps) in
    let r : IsMadeClean d c.if-draft.draft c.if-draft.used.items =
    elim c.if-draft.branch [
      | then-draft+then-not-are_needed+in_ok-remove_dead+in_ok-remove_unused-2 w ↦
          let two = w.remove_dead.new.draft in
          let three = w.remove_unused-then-not-are_needed.new.draft in
          let last = w.remove_unused-then-not-are_needed.new.used.items in
          let t = w.in_ok-remove_dead.ensures in
          let s = w.in_ok-remove_unused-2.ensures in
          subst (λ (x : Draft). IsMadeClean d x c.if-draft.used.items) (sym w.draft-is)
          (subst (λ (v : Vec Register Global). IsMadeClean d three v.items) (sym w.used-is) (record {
            whole = s.whole;
            orders = s.orders ∙ (t.orders ∙ e.orders);
            none_fell = s.none_fell;
            cleaned = cleaned_again d.arena (numbers_of d) two three t.whole s.whole (two.dead_candidates.items ++ used) last (t.cleaning d.arena (numbers_of d) used is) s.cleaning;
            have = s.used (λ b n has. insts-stay one two e.whole t.whole t.orders b n (have b n has));
            reads = λ was keeps. s.reads was (t.reads was used (subst (λ (l : List Register). KeepsUses was one (l ++ used)) (sym e.none_fell) (reads was keeps)));
          }))
      | else-draft w ↦
          let cleaned : IsEliminating d.arena (numbers_of d) one.arena (numbers_of one) [] =
          elim w.else-draft.branch [
            | else-draft-via-then-draft+else-not-are_needed v ↦
                clean_by_uses d one c.requires.whole e.whole used is (λ b n among stands.
                v.if-not-are_needed.ensures refl b n (subst (λ (l : List Register). Contains l (registers.Result b n)) (sym v.as_slice.ensures.value) among) stands)
            | else-draft-via-else-draft v ↦
                clean_without_cycles d one c.requires.whole e.whole used is c.requires.reads_stand c.requires.checks (e.whole.cycles v.if-draft.false) (e.read c.requires.read)
          ] in
          subst (λ (x : Draft). IsMadeClean d x c.if-draft.used.items) (sym w.draft-is)
          (subst (λ (v : Vec Register Global). IsMadeClean d one v.items) (sym w.used-is) (record {
            whole = e.whole;
            orders = e.orders;
            none_fell = e.none_fell;
            cleaned = cleaned;
            have = have;
            reads = reads;
          }))
    ] in
    record {
      whole = r.whole;
      orders = r.orders;
      none_fell = r.none_fell;
      cleaned = r.cleaned;
      used = r.have;
      reads = r.reads;
    }
