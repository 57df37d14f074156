use Rattle.changes.proofs.Common.{◌+◌, ◌∙◌, ℕ, List, sym, subst, arith, HasInst, ListedTo, ReadsRoot, AreAscending}
use Rattle.changes.proofs.InOrder.{inst_before_end, listed_more, listed_none, row_past}
use Rattle.changes.proofs.Readers.{one_place, in_order}
use Rattle.changes.proofs.applying.push_readers.Goals as goal
use Rattle.changes.proofs.applying.push_readers.Goals.{in-Some+in_ok-push, in_default}

pub reader_at-requires-clause-there : goal.reader_at-requires-clause-there
reader_at-requires-clause-there c =
    let end = c.end_of-place-end.ensures in
    let test = c.loop-place-test.true in
    inst_before_end c.args.f.now c.args.block c.loop-place.place (omega arith)

pub reader_at-requires-clause-room : goal.reader_at-requires-clause-room
reader_at-requires-clause-room c = λ same.
    let end = c.end_of-place-end.ensures in
    let test = c.loop-place-test.true in
    let there : HasInst c.args.f.now c.args.block c.loop-place.place = inst_before_end c.args.f.now c.args.block c.loop-place.place (omega arith) in
    let (block, at, within) = subst (λ (b : ℕ). HasInst c.args.f.now b c.loop-place.place) same there in
    let room = c.requires.room block at in
    omega arith

pub loop-place-preserved : goal.loop-place-preserved
loop-place-preserved c = λ w p before.
    let f = c.args.f.now in
    let b = c.args.block in
    let l = c.loop-place in
    let end = c.end_of-place-end.ensures in
    let test = c.loop-place-test.true in
    let there : HasInst c.args.f.now c.args.block c.loop-place.place = inst_before_end c.args.f.now c.args.block c.loop-place.place (omega arith) in
    elim c.match-reader_at.branch [
      | in-Some+in_ok-push x ↦
          listed_more f (ReadsRoot f w) (one_place w f) (in_order w f) b l.place x.in-Some.moved l.places c.match-reader_at.places (x.places-is ∙ x.in_ok-push.ensures.ok) there
          ((c.reader_at.ensures w x.in-Some.moved p).0 x.in-Some.is) (l.invariant w p before)
      | in_default x ↦
          subst (λ (places : List (ℕ × ℕ)). AreAscending (ListedTo f (ReadsRoot f w) b (l.place + 1)) places) (sym x.places-is)
          (listed_none f (ReadsRoot f w) b l.place l.places (λ n r. x.in_default.not-Some n ((c.reader_at.ensures w n p).1 r)) (l.invariant w p before))
    ]

pub returns : goal.returns
returns c = λ w p before.
    let end = c.end_of-place-end.ensures in
    let test = c.loop-place-test.false in
    let most = c.loop-place.auto.place-end in
    row_past c.args.f.now (ReadsRoot c.args.f.now w) c.args.block c.loop-place.place c.loop-place.places (omega arith) (c.loop-place.invariant w p before)
