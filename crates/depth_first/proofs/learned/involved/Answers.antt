use Rattle.depth_first.proofs.Common.{◌≡◌, ◌+◌, ◌-◌, ◌<◌, Some, length, get_or, refl, sym, ap, ◌∙◌, subst, arith, false, slice_get, true≢false, get_or_read, slice_get_read, Reason, clauses_with, IsInvolved, is_marked}
use Rattle.depth_first.proofs.Lists.{slice_get_below}
use Rattle.depth_first.proofs.Sets.{below_from_within}
use Rattle.depth_first.proofs.States.{EachForced-from_caused}
use Rattle.depth_first.proofs.Involved.{IsInvolved-start, IsInvolved-skip, IsInvolved-mark, with_within, cause_of_reason, no_reason}
use Rattle.depth_first.proofs.learned.involved.Goals as goal

pub mark-requires : goal.mark-requires
mark-requires c =
    let set = c.args.cnf.now in
    let size : length c.in_ok-marked.marked.items ≡ set.count + 1 = omega (arith, c.in_ok-marked.ensures.len, c.in_ok-marked.marked.ok.0) in
    below_from_within set.count (length c.in_ok-marked.marked.items) c.numbered.result.now size
    (with_within set c.args.log.now c.args.conflict c.numbered.result.now c.requires.follows c.numbered.ensures)

pub loop-place-init : goal.loop-place-init
loop-place-init c =
    let set = c.args.cnf.now in
    let entries = c.args.trail.now.entries in
    let whole : c.len-place.result ≡ length entries.items = omega (arith, c.len-place.ensures, entries.ok.0) in
    record {
      size = omega (arith, c.mark.ensures.size, c.in_ok-marked.ensures.len, c.in_ok-marked.marked.ok.0);
      within = omega (arith, whole);
      involved =
          IsInvolved-start (clauses_with set c.args.log.now) entries.items c.args.conflict c.len-place.result c.numbered.result.now c.in_ok-marked.marked.items c.mark.new.marked.items
          whole c.numbered.ensures c.mark.ensures.marks;
    }

pub index-requires : goal.index-requires
index-requires c =
    let trail = c.args.trail.now in
    let entries = trail.entries.items in
    let place = c.loop-place.place - 1 in
    let e = c.index-entry.result.now in
    let at : slice_get entries place ≡ Some e =
    slice_get_read entries (length entries) place e refl (omega (arith, c.loop-place-test.true, c.loop-place.invariant.within)) c.index-entry.ensures in
    omega (arith, (trail.fresh place e at).1, c.variable.ensures, c.requires.variables, c.loop-place.invariant.size, c.loop-place.marked.ok.0)

pub numbered-requires-in-Some : goal.numbered-requires-in-Some
numbered-requires-in-Some c =
    let set = c.args.cnf.now in
    let cs = clauses_with set c.args.log.now in
    let entries = c.args.trail.now.entries.items in
    let place = c.loop-place.place - 1 in
    let e = c.index-entry.result.now in
    let at : slice_get entries place ≡ Some e =
    slice_get_read entries (length entries) place e refl (omega (arith, c.loop-place-test.true, c.loop-place.invariant.within)) c.index-entry.ensures in
    let cause : e.cause ≡ Reason c.in-Some.number = cause_of_reason e.cause c.in-Some.number (sym c.reason.ensures ∙ c.in-Some.is) in
    let (clause, named, unit) = (EachForced-from_caused set c.args.log.now entries c.requires.caused).each place e c.in-Some.number at cause in
    slice_get_below cs c.in-Some.number clause named

pub mark-requires-in-Some : goal.mark-requires-in-Some
mark-requires-in-Some c =
    let set = c.args.cnf.now in
    below_from_within set.count (length c.loop-place.marked.items) c.numbered-in-Some.result.now c.loop-place.invariant.size
    (with_within set c.args.log.now c.in-Some.number c.numbered-in-Some.result.now c.requires.follows c.numbered-in-Some.ensures)

pub loop-place-preserved-in-Some : goal.loop-place-preserved-in-Some
loop-place-preserved-in-Some c =
    let set = c.args.cnf.now in
    let trail = c.args.trail.now in
    let entries = trail.entries.items in
    let place = c.loop-place.place - 1 in
    let e = c.index-entry.result.now in
    let at : slice_get entries place ≡ Some e =
    slice_get_read entries (length entries) place e refl (omega (arith, c.loop-place-test.true, c.loop-place.invariant.within)) c.index-entry.ensures in
    let cause : e.cause ≡ Reason c.in-Some.number = cause_of_reason e.cause c.in-Some.number (sym c.reason.ensures ∙ c.in-Some.is) in
    record {
      size = c.mark-in-Some.ensures.size ∙ c.loop-place.invariant.size;
      within = omega (arith, c.loop-place.invariant.within);
      involved =
          IsInvolved-mark (clauses_with set c.args.log.now) trail.values.items entries c.args.conflict place c.loop-place.place c.in-Some.number e c.numbered-in-Some.result.now c.loop-place.marked.items c.mark-in-Some.new.marked.items
          trail.fresh (EachForced-from_caused set c.args.log.now entries c.requires.caused) (omega (arith, c.loop-place-test.true)) at cause c.numbered-in-Some.ensures
          c.mark-in-Some.ensures.marks c.loop-place.invariant.involved;
    }

pub loop-place-preserved-in_default : goal.loop-place-preserved-in_default
loop-place-preserved-in_default c =
    let entries = c.args.trail.now.entries.items in
    let place = c.loop-place.place - 1 in
    let e = c.index-entry.result.now in
    let at : slice_get entries place ≡ Some e =
    slice_get_read entries (length entries) place e refl (omega (arith, c.loop-place-test.true, c.loop-place.invariant.within)) c.index-entry.ensures in
    record {
      size = c.loop-place.invariant.size;
      within = omega (arith, c.loop-place.invariant.within);
      involved =
          IsInvolved-skip (clauses_with c.args.cnf.now c.args.log.now) entries c.args.conflict place c.loop-place.place e c.loop-place.marked.items (omega (arith, c.loop-place-test.true)) at
          (λ number cause marked. no_reason e.cause number (sym c.reason.ensures ∙ c.in_default.is) cause) c.loop-place.invariant.involved;
    }

pub loop-place-preserved : goal.loop-place-preserved
loop-place-preserved c =
    let trail = c.args.trail.now in
    let entries = trail.entries.items in
    let place = c.loop-place.place - 1 in
    let e = c.index-entry.result.now in
    let marks = c.loop-place.marked.items in
    let at : slice_get entries place ≡ Some e =
    slice_get_read entries (length entries) place e refl (omega (arith, c.loop-place-test.true, c.loop-place.invariant.within)) c.index-entry.ensures in
    let room : e.literal.variable < length marks = omega (arith, (trail.fresh place e at).1, c.requires.variables, c.loop-place.invariant.size) in
    let mark : c.index.result.now ≡ get_or marks e.literal.variable c.index.result.now =
    c.index.ensures ∙ ap (λ n. get_or marks n c.index.result.now) c.variable.ensures in
    let free : is_marked marks e.literal.variable ≡ false = sym (get_or_read marks e.literal.variable c.index.result.now room mark false) ∙ c.if-index.false in
    record {
      size = c.loop-place.invariant.size;
      within = omega (arith, c.loop-place.invariant.within);
      involved =
          IsInvolved-skip (clauses_with c.args.cnf.now c.args.log.now) entries c.args.conflict place c.loop-place.place e marks (omega (arith, c.loop-place-test.true)) at
          (λ number cause marked. true≢false (sym marked ∙ free)) c.loop-place.invariant.involved;
    }

pub returns-clause-marks : goal.returns-clause-marks
returns-clause-marks c =
    let none : c.loop-place.place ≡ 0 = omega (arith, c.loop-place-test.false) in
    subst (λ from. IsInvolved (clauses_with c.args.cnf.now c.args.log.now) c.args.trail.now.entries.items c.args.conflict from c.loop-place.marked.items) none c.loop-place.invariant.involved
