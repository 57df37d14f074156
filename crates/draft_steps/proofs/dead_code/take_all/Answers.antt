use Rattle.draft_steps.proofs.Common.{◌≡◌, ℕ, true, false, All, get_or, take, refl, subst, arith, take_all, All-contains, All-more, All-weaker, Contains-get_or, IsNeeded, Stands, stands_there}
use Rattle.ir_core.specs.declared.operand.Register.TheVariants as registers
use Rattle.draft_steps.proofs.Lessening.{none_less, one_less, stood_other}
use Rattle.draft_steps.proofs.dead_code.take_all.Goals as goal
use Rattle.draft_steps.proofs.dead_code.take_all.Goals.{then-is_standing+in_ok-remove_inst, else-is_standing}

pub loop-block-init : goal.loop-block-init
loop-block-init c = record { less = none_less c.args.draft.now c.requires.whole; gone = λ k d lt. absurd (omega arith) }

pub remove_inst-requires-clause-at : goal.remove_inst-requires-clause-at
remove_inst-requires-clause-at c =
    let p = get_or c.args.unneeded.now c.loop-block.block-index (0, 0) in
    stands_there c.loop-block.draft c.loop-block.invariant.less.whole p.0 p.1 ((c.if-is_standing.ensures.result p.0 p.1 refl).0 refl)

pub loop-block-preserved : goal.loop-block-preserved
loop-block-preserved c =
    let all = c.args.unneeded.now in
    let index = c.loop-block.block-index in
    let old = c.args.draft.now in
    let now = c.loop-block.draft in
    let h = c.loop-block.invariant in
    let b : ℕ = (get_or c.args.unneeded.now c.loop-block.block-index (0, 0)).0 in
    let n : ℕ = (get_or c.args.unneeded.now c.loop-block.block-index (0, 0)).1 in
    elim c.if-is_standing.branch [
      | then-is_standing+in_ok-remove_inst w ↦
          let new = w.remove_inst.new.draft in
          let e = w.in_ok-remove_inst.ensures in
          let stands : Stands now (get_or c.args.unneeded.now c.loop-block.block-index (0, 0)).0 (get_or c.args.unneeded.now c.loop-block.block-index (0, 0)).1 =
          (w.if-is_standing.ensures.result (get_or c.args.unneeded.now c.loop-block.block-index (0, 0)).0 (get_or c.args.unneeded.now c.loop-block.block-index (0, 0)).1 refl).0 refl in
          let un : ¬ IsNeeded old.arena (registers.Result (get_or c.args.unneeded.now c.loop-block.block-index (0, 0)).0 (get_or c.args.unneeded.now c.loop-block.block-index (0, 0)).1) =
          c.requires.unneeded (get_or c.args.unneeded.now c.loop-block.block-index (0, 0)).0 (get_or c.args.unneeded.now c.loop-block.block-index (0, 0)).1 (Contains-get_or all index (0, 0) c.loop-block-test.true) in
          rw w.draft-is (record {
            less = one_less old now new h.less b n stands un e.arena e.numbers e.dead_candidates e.whole e.orders;
            gone = All-more (λ (p : ℕ × ℕ). ¬ Stands new p.0 p.1) all index (0, 0) c.loop-block-test.true
                (All-weaker (λ (p : ℕ × ℕ). ¬ Stands now p.0 p.1) (λ (p : ℕ × ℕ). ¬ Stands new p.0 p.1) (λ q gone there. gone (stood_other old now new h.less b n stands un e.arena e.numbers e.dead_candidates q.0 q.1 there).0) (take index all) h.gone)
                (λ there. (stood_other old now new h.less b n stands un e.arena e.numbers e.dead_candidates b n there).1 (refl, refl));
          })
      | else-is_standing w ↦ rw w.draft-is (record {
        less = h.less;
        gone = All-more (λ (p : ℕ × ℕ). ¬ Stands now p.0 p.1) all index (0, 0) c.loop-block-test.true h.gone
            (λ there. let clash : false ≡ true = (w.if-is_standing.ensures.result b n refl).1 there in cc);
      })
    ]

pub returns-clause-gone : goal.returns-clause-gone
returns-clause-gone c = λ b n has.
    let h = c.loop-block.invariant in
    All-contains (λ (p : ℕ × ℕ). ¬ Stands c.loop-block.draft p.0 p.1) c.args.unneeded.now (b, n)
    (subst (All (λ (p : ℕ × ℕ). ¬ Stands c.loop-block.draft p.0 p.1)) (take_all c.loop-block.block-index c.args.unneeded.now (omega arith)) h.gone) has
