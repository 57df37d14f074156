use Rattle.needed.proofs.Common.{◌≡◌, ◌+◌, ◌<◌, ℕ, length, get_or, refl, sym, ap, subst, ◌∙◌, arith, All, Vec, Global, Inst, All-get_or, IsNumbered, marks_by, number_of, operands_of}
use Rattle.needed.proofs.KeptLemmas.{mark_read}
use Rattle.needed.proofs.Settling.{Settled, next_was, settled_more, settled_other}
use Rattle.needed.proofs.moving.kept_insts.Goals.{then-index, else-index}
use Rattle.needed.proofs.moving.kept_insts.Goals as goal

pub move_operands-requires : goal.move_operands-requires
move_operands-requires c =
    let kept = c.args.kept.now in
    let l = c.loop-place in
    let size = l.invariant.size in
    let inst = c.index_mut.result.now in
    let is = l.insts.ok.0 in
    let fresh = c.into_vec-insts.result.ok.0 in
    let same = ap length c.into_vec-insts.ensures in
    let end = c.len-place-end.ensures in
    let below = c.loop-place-test.true in
    let within : l.place < length l.insts.items = omega arith in
    let was : inst ≡ get_or c.args.insts l.place inst = next_was (marks_by kept.firsts.items kept.marks.items) c.args.block c.args.insts l.insts.items l.place l.count inst l.invariant within c.index_mut.ensures.value in
    subst (λ (i : Inst). All (IsNumbered kept.firsts.items (length kept.marks.items)) (operands_of i.op)) (sym was)
    (All-get_or (λ (i : Inst). All (IsNumbered kept.firsts.items (length kept.marks.items)) (operands_of i.op)) c.args.insts l.place inst (omega arith) c.requires.operands)

pub loop-place-preserved : goal.loop-place-preserved
loop-place-preserved c =
    let kept = c.args.kept.now in
    let l = c.loop-place in
    let size = l.invariant.size in
    let fresh = c.into_vec-insts.result.ok.0 in
    let same = ap length c.into_vec-insts.ensures in
    let end = c.len-place-end.ensures in
    let below = c.loop-place-test.true in
    let numbers = c.requires.numbers in
    let within : l.place < length l.insts.items = omega arith in
    let in_table : number_of kept.firsts.items c.args.block l.place < length kept.marks.items = omega arith in
    let mark : marks_by kept.firsts.items kept.marks.items c.args.block l.place ≡ c.index.result.now = mark_read kept.firsts.items kept.marks.items c.args.block l.place c.index-first.result.now c.index.result.now c.requires.block in_table c.index-first.ensures c.index.ensures in
    elim c.if-index.branch [
      | then-index w ↦ subst (λ (n : ℕ). Settled (marks_by kept.firsts.items kept.marks.items) c.args.block c.args.insts (l.place + 1) n c.if-index.insts.items) (sym w.count-is)
          (settled_more (marks_by kept.firsts.items kept.marks.items) c.args.block c.args.insts l.insts.items _ c.if-index.insts.items l.place l.count w.index_mut.result.now w.move_operands.new.inst l.invariant within (mark ∙ w.if-index.true)
          w.index_mut.ensures.value w.move_operands.ensures refl (ap (λ (v : Vec Inst Global). v.items) w.insts-is ∙ w.swap.ensures.by_index.3 w.move_operands.new.inst))
      | else-index w ↦ rw w.count-is (rw w.insts-is (settled_other (marks_by kept.firsts.items kept.marks.items) c.args.block c.args.insts l.insts.items l.place l.count l.invariant within (mark ∙ w.if-index.false)))
    ]
