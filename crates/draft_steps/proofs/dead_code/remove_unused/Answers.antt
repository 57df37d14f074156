use Rattle.draft_steps.proofs.Common.{List, [], ◌++◌, length, ap, subst, ◌∙◌, arith, length_push, Register, AreRead, IsEliminating, KeepsUses, registers_read, numbers_of}
use Rattle.draft_steps.proofs.DeadCandidates.{among_last, last_among, now_cleaning, now_have, now_keeps, now_read}
use Rattle.draft_steps.proofs.dead_code.remove_unused.Goals as goal

pub loop-register-preserved : goal.loop-register-preserved
loop-register-preserved c =
    let h = c.loop-register.invariant in
    let now = c.loop-register.draft in
    let used = c.loop-register.used in
    let mid = c.next_candidate.new.draft in
    let n = c.next_candidate.ensures in
    let e = c.in_ok-take_or_list.ensures in
    let last = c.in-Some.ensures.some in
    record {
      whole = e.whole;
      orders = e.orders ∙ (n.orders ∙ h.orders);
      cleaning = λ f rows is. e.cleaning f rows (now.dead_candidates.items ++ used.items) (among_last now.dead_candidates.items mid.dead_candidates.items used.items c.in-Some.register last)
          (now_cleaning now mid n.arena n.numbers f rows (now.dead_candidates.items ++ used.items) (h.cleaning f rows is));
      used = λ had. e.used (now_have now mid n.arena used.items (h.used had));
      reads = λ was keeps. e.reads was (now.dead_candidates.items ++ used.items) (among_last now.dead_candidates.items mid.dead_candidates.items used.items c.in-Some.register last)
          (now_keeps was now mid n.arena n.numbers (now.dead_candidates.items ++ used.items) (h.reads was keeps));
      read = λ are. e.read now.dead_candidates.items (last_among now.dead_candidates.items mid.dead_candidates.items c.in-Some.register last) (now_read now mid n.arena n.numbers now.dead_candidates.items (h.read are));
    }

pub loop-register-smaller : goal.loop-register-smaller
loop-register-smaller c =
    let n = c.next_candidate.ensures in
    let as_many = c.in_ok-take_or_list.ensures.as_many in
    let arenas = ap registers_read n.arena in
    let size = ap length c.in-Some.ensures.some in
    let longer = length_push c.next_candidate.new.draft.dead_candidates.items c.in-Some.register in
    omega arith

-- ---- an empty worklist

pub returns-clause-cleaning : goal.returns-clause-cleaning
returns-clause-cleaning c = λ f rows is.
    let now = c.loop-register.draft in
    let used = c.loop-register.used.items in
    let n = c.next_candidate.ensures in
    now_cleaning now c.next_candidate.new.draft n.arena n.numbers f rows used
    (subst (λ (l : List Register). IsEliminating f rows now.arena (numbers_of now) (l ++ used)) c.in_default.ensures.none.0 (c.loop-register.invariant.cleaning f rows is))

pub returns-clause-used : goal.returns-clause-used
returns-clause-used c = λ had. now_have c.loop-register.draft c.next_candidate.new.draft c.next_candidate.ensures.arena c.loop-register.used.items (c.loop-register.invariant.used had)

pub returns-clause-reads : goal.returns-clause-reads
returns-clause-reads c = λ was keeps.
    let now = c.loop-register.draft in
    let used = c.loop-register.used.items in
    let n = c.next_candidate.ensures in
    now_keeps was now c.next_candidate.new.draft n.arena n.numbers used
    (subst (λ (l : List Register). KeepsUses was now (l ++ used)) c.in_default.ensures.none.0 (c.loop-register.invariant.reads was keeps))

pub returns-clause-read : goal.returns-clause-read
returns-clause-read c = λ are.
    let now = c.loop-register.draft in
    let n = c.next_candidate.ensures in
    now_read now c.next_candidate.new.draft n.arena n.numbers [] (subst (AreRead now) c.in_default.ensures.none.0 (c.loop-register.invariant.read are))
