use Rattle.fold_branch.proofs.Common.{◌≡◌, ◌<◌, ℕ, List, length, map, get_or, sym, subst, arith, All-get_or, Inst, next_as_before, folded_inst, EntriesAreBelow}
use Rattle.fold_branch.proofs.folding.fold_insts.Goals as goal

pub fold_inst-requires-clause-entries : goal.fold_inst-requires-clause-entries
fold_inst-requires-clause-entries c =
    let l = c.loop-inst in
    let i = l.inst-index in
    let inst = c.inst-item.result in
    let test = c.loop-inst-test.true in
    let same = l.auto.inst-items in
    let size = l.invariant.written.size in
    let lt : i < length l.inst-items = omega arith in
    let fold : ℕ → List Inst → List Inst = λ n insts. map (folded_inst c.args.plan.now.choices.items c.args.plan.now.reached.items c.args.block) insts in
    let was : inst ≡ get_or c.args.insts i inst = next_as_before fold c.args.insts i l.inst-items inst l.invariant.written lt c.inst-item.is in
    let below : EntriesAreBelow (length c.args.marks.now) inst.op = subst (λ (x : Inst). EntriesAreBelow (length c.args.marks.now) x.op) (sym was) (All-get_or (λ (x : Inst). EntriesAreBelow (length c.args.marks.now) x.op) c.args.insts i inst (omega arith) c.requires.entries) in
    subst (λ (x : Inst). EntriesAreBelow (length l.marks) x.op) c.inst-item.is (subst (λ n. EntriesAreBelow n inst.op) (sym l.auto.marks) below)
