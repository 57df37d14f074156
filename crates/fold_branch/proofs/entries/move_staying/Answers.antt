use Rattle.fold_branch.proofs.Common.{◌≡◌, ◌<◌, [], length, take, sym, subst, ◌∙◌, arith, AreBelow}
use Rattle.fold_branch.proofs.Staying.{Entries, entry_below, moved_more, moved_other, moved_all, staying_below}
use Rattle.fold_branch.proofs.entries.move_staying.Goals.{then-stays, else-stays}
use Rattle.fold_branch.proofs.entries.move_staying.Goals as goal

pub bounds-marks-from : goal.bounds-marks-from
bounds-marks-from c =
    let l = c.loop-place in
    let same = l.auto.marks in
    let below = entry_below c.args.plan.now.choices.items c.args.plan.now.reached.items c.args.block c.args.entries.now l.place l.count l.entries l.marks c.index-entries-place.result (length c.args.marks.now) l.invariant c.requires.entries (omega arith) c.index-entries-place.is in
    omega arith

pub stays-requires-clause-choices : goal.stays-requires-clause-choices
stays-requires-clause-choices c =
    let l = c.loop-place in
    let same = c.requires.choices in
    let below = entry_below c.args.plan.now.choices.items c.args.plan.now.reached.items c.args.block c.args.entries.now l.place l.count l.entries l.marks c.index-entries-place.result (length c.args.marks.now) l.invariant c.requires.entries (omega arith) c.index-entries-place.is in
    omega arith

pub stays-requires-clause-reached : goal.stays-requires-clause-reached
stays-requires-clause-reached c =
    let l = c.loop-place in
    let same = c.requires.reached in
    let below = entry_below c.args.plan.now.choices.items c.args.plan.now.reached.items c.args.block c.args.entries.now l.place l.count l.entries l.marks c.index-entries-place.result (length c.args.marks.now) l.invariant c.requires.entries (omega arith) c.index-entries-place.is in
    omega arith

pub loop-place-preserved : goal.loop-place-preserved
loop-place-preserved c =
    let l = c.loop-place in
    let choices = c.args.plan.now.choices.items in
    let reached = c.args.plan.now.reached.items in
    let e = c.index-entries-place.result in
    let size = l.invariant.size in
    let same = l.auto.marks in
    let within : l.place < length l.entries = omega arith in
    let below : e.1 < length c.args.marks.now = entry_below choices reached c.args.block c.args.entries.now l.place l.count l.entries l.marks e (length c.args.marks.now) l.invariant c.requires.entries within c.index-entries-place.is in
    elim c.if-stays.branch [
      | then-stays w ↦ rw w.count-is (rw w.entries-is (rw w.marks-is (moved_more choices reached c.args.block c.args.entries.now l.place l.count l.entries l.marks e l.invariant within c.index-entries-place.is (omega arith) (sym c.stays.ensures ∙ w.if-stays.true))))
      | else-stays w ↦ rw w.count-is (rw w.entries-is (rw w.marks-is (moved_other choices reached c.args.block c.args.entries.now l.place l.count l.entries l.marks e l.invariant within c.index-entries-place.is (sym c.stays.ensures ∙ w.if-stays.false))))
    ]

pub returns-clause-below : goal.returns-clause-below
returns-clause-below c =
    let l = c.loop-place in
    let choices = c.args.plan.now.choices.items in
    let reached = c.args.plan.now.reached.items in
    let entries : Entries = c.args.entries.now in
    let past = c.loop-place-test.false in
    let same = l.auto.marks in
    let are : take l.count l.entries ≡ _ = moved_all choices reached c.args.block entries l.place l.count l.entries l.marks l.invariant (omega arith) in
    subst (AreBelow (length l.marks)) (sym are)
    (staying_below choices reached c.args.block (length l.marks) [] entries (subst (λ n. AreBelow n entries) (sym same) c.requires.entries))
