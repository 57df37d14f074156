use Rattle.draft_steps.proofs.Common.{List, Contains, sym, subst, Register, function_of, orders_of, KeepsOrders, IsPlaceIn, Place}
use Rattle.ir_core.specs.declared.operand.Register.TheVariants as registers
use Rattle.draft_steps.proofs.Room.{room_stays}
use Rattle.draft_steps.proofs.Settled.{is_clean, is_cleaned, is_settled}
use Rattle.draft_steps.proofs.OneStep.{are_read, are_touched, bound, checks_then, good_then, is_rewritten, keeps_then, put_places, readable, replaced_places, result_is_needed, result_readable, room_then, root_inst, root_is, root_place, root_stands, waits}
use Rattle.draft_steps.proofs.Touching.{all_among, put_among, replaced_among, root_among}
use Rattle.draft_steps.proofs.stepping.step_in.Goals as goal

pub rewrite_draft-requires-clause-bound : goal.rewrite_draft-requires-clause-bound
rewrite_draft-requires-clause-bound c =
    bound c.args.draft.now c.requires.settled c.args.rule.now c.args.binding.now c.requires.checks c.requires.rule c.requires.matches.1

pub rewrite_draft-requires-clause-root : goal.rewrite_draft-requires-clause-root
rewrite_draft-requires-clause-root c =
    root_stands c.args.draft.now c.requires.settled c.args.rule.now c.args.binding.now c.requires.checks c.requires.rule c.requires.matches.1

pub rewrite_draft-requires-clause-readable : goal.rewrite_draft-requires-clause-readable
rewrite_draft-requires-clause-readable c =
    readable c.args.draft.now c.requires.settled c.args.rule.now c.args.binding.now c.requires.checks c.requires.rule c.requires.matches.1

pub rewrite_draft-requires-clause-result : goal.rewrite_draft-requires-clause-result
rewrite_draft-requires-clause-result c =
    result_readable c.args.draft.now c.requires.settled c.args.rule.now c.args.binding.now c.requires.checks c.requires.rule c.requires.matches.1

pub eliminate_dead_code-requires-clause-waits : goal.eliminate_dead_code-requires-clause-waits
eliminate_dead_code-requires-clause-waits c =
    let r = root_is c.args.draft.now c.requires.settled c.args.rule.now c.args.binding.now c.requires.checks c.requires.rule c.requires.matches.1 in
    let p = c.in_ok-rewritten.ensures.rewritten (root_inst c.args.draft.now c.requires.settled c.args.rule.now c.args.binding.now c.requires.checks c.requires.rule c.requires.matches.1) r in
    waits c.args.draft.now c.requires.settled c.args.rule.now c.args.binding.now c.requires.checks c.requires.rule c.requires.matches.1 c.rewrite_draft.new.draft c.in_ok-rewritten.ensures.whole c.in_ok-rewritten.rewritten p c.requires.clean

pub eliminate_dead_code-requires-clause-result : goal.eliminate_dead_code-requires-clause-result
eliminate_dead_code-requires-clause-result c =
    let r = root_is c.args.draft.now c.requires.settled c.args.rule.now c.args.binding.now c.requires.checks c.requires.rule c.requires.matches.1 in
    let p = c.in_ok-rewritten.ensures.rewritten (root_inst c.args.draft.now c.requires.settled c.args.rule.now c.args.binding.now c.requires.checks c.requires.rule c.requires.matches.1) r in
    result_is_needed c.args.draft.now c.requires.settled c.args.rule.now c.args.binding.now c.requires.checks c.requires.rule c.requires.matches.1 c.rewrite_draft.new.draft c.in_ok-rewritten.ensures.whole c.in_ok-rewritten.rewritten p c.requires.clean

pub eliminate_dead_code-requires-clause-read : goal.eliminate_dead_code-requires-clause-read
eliminate_dead_code-requires-clause-read c =
    let r = root_is c.args.draft.now c.requires.settled c.args.rule.now c.args.binding.now c.requires.checks c.requires.rule c.requires.matches.1 in
    let p = c.in_ok-rewritten.ensures.rewritten (root_inst c.args.draft.now c.requires.settled c.args.rule.now c.args.binding.now c.requires.checks c.requires.rule c.requires.matches.1) r in
    are_read c.args.draft.now c.requires.settled c.args.rule.now c.args.binding.now c.requires.checks c.requires.rule c.requires.matches.1 c.rewrite_draft.new.draft c.in_ok-rewritten.ensures.whole c.in_ok-rewritten.rewritten p c.requires.clean

pub eliminate_dead_code-requires-clause-reads_stand : goal.eliminate_dead_code-requires-clause-reads_stand
eliminate_dead_code-requires-clause-reads_stand c =
    let r = root_is c.args.draft.now c.requires.settled c.args.rule.now c.args.binding.now c.requires.checks c.requires.rule c.requires.matches.1 in
    let p = c.in_ok-rewritten.ensures.rewritten (root_inst c.args.draft.now c.requires.settled c.args.rule.now c.args.binding.now c.requires.checks c.requires.rule c.requires.matches.1) r in
    (good_then c.args.draft.now c.requires.settled c.args.rule.now c.args.binding.now c.requires.checks c.requires.rule c.requires.matches.1 c.rewrite_draft.new.draft c.in_ok-rewritten.ensures.whole c.in_ok-rewritten.rewritten p).read

pub eliminate_dead_code-requires-clause-checks : goal.eliminate_dead_code-requires-clause-checks
eliminate_dead_code-requires-clause-checks c =
    let r = root_is c.args.draft.now c.requires.settled c.args.rule.now c.args.binding.now c.requires.checks c.requires.rule c.requires.matches.1 in
    let p = c.in_ok-rewritten.ensures.rewritten (root_inst c.args.draft.now c.requires.settled c.args.rule.now c.args.binding.now c.requires.checks c.requires.rule c.requires.matches.1) r in
    checks_then c.args.draft.now c.requires.settled c.args.rule.now c.args.binding.now c.requires.checks c.requires.rule c.requires.matches.1 c.rewrite_draft.new.draft c.in_ok-rewritten.ensures.whole c.in_ok-rewritten.rewritten p c.requires.matches.0 c.requires.matches.1 c.rewritten_functions_meet_checks.ensures.checks c.requires.typed c.requires.numbers

pub returns-clause-settled : goal.returns-clause-settled
returns-clause-settled c =
    let r = root_is c.args.draft.now c.requires.settled c.args.rule.now c.args.binding.now c.requires.checks c.requires.rule c.requires.matches.1 in
    let p = c.in_ok-rewritten.ensures.rewritten (root_inst c.args.draft.now c.requires.settled c.args.rule.now c.args.binding.now c.requires.checks c.requires.rule c.requires.matches.1) r in
    is_settled c.rewrite_draft.new.draft c.eliminate_dead_code.new.draft c.in_ok-used.ensures.whole (good_then c.args.draft.now c.requires.settled c.args.rule.now c.args.binding.now c.requires.checks c.requires.rule c.requires.matches.1 c.rewrite_draft.new.draft c.in_ok-rewritten.ensures.whole c.in_ok-rewritten.rewritten p) c.in_ok-used.ensures.cleaned c.in_ok-used.ensures.none_fell

pub returns-clause-clean : goal.returns-clause-clean
returns-clause-clean c =
    let r = root_is c.args.draft.now c.requires.settled c.args.rule.now c.args.binding.now c.requires.checks c.requires.rule c.requires.matches.1 in
    let p = c.in_ok-rewritten.ensures.rewritten (root_inst c.args.draft.now c.requires.settled c.args.rule.now c.args.binding.now c.requires.checks c.requires.rule c.requires.matches.1) r in
    is_clean c.rewrite_draft.new.draft c.eliminate_dead_code.new.draft c.in_ok-used.ensures.whole (good_then c.args.draft.now c.requires.settled c.args.rule.now c.args.binding.now c.requires.checks c.requires.rule c.requires.matches.1 c.rewrite_draft.new.draft c.in_ok-rewritten.ensures.whole c.in_ok-rewritten.rewritten p) c.in_ok-used.ensures.cleaned

pub returns-clause-steps : goal.returns-clause-steps
returns-clause-steps c =
    let r = root_is c.args.draft.now c.requires.settled c.args.rule.now c.args.binding.now c.requires.checks c.requires.rule c.requires.matches.1 in
    let p = c.in_ok-rewritten.ensures.rewritten (root_inst c.args.draft.now c.requires.settled c.args.rule.now c.args.binding.now c.requires.checks c.requires.rule c.requires.matches.1) r in
    (function_of c.rewrite_draft.new.draft, is_rewritten c.args.draft.now c.requires.settled c.args.rule.now c.args.binding.now c.requires.checks c.requires.rule c.requires.matches.1 c.rewrite_draft.new.draft c.in_ok-rewritten.ensures.whole c.in_ok-rewritten.rewritten p, is_cleaned c.rewrite_draft.new.draft c.eliminate_dead_code.new.draft c.in_ok-used.ensures.whole (good_then c.args.draft.now c.requires.settled c.args.rule.now c.args.binding.now c.requires.checks c.requires.rule c.requires.matches.1 c.rewrite_draft.new.draft c.in_ok-rewritten.ensures.whole c.in_ok-rewritten.rewritten p) c.in_ok-used.ensures.cleaned)

pub returns-clause-room : goal.returns-clause-room
returns-clause-room c =
    let r = root_is c.args.draft.now c.requires.settled c.args.rule.now c.args.binding.now c.requires.checks c.requires.rule c.requires.matches.1 in
    let p = c.in_ok-rewritten.ensures.rewritten (root_inst c.args.draft.now c.requires.settled c.args.rule.now c.args.binding.now c.requires.checks c.requires.rule c.requires.matches.1) r in
    λ steps room. room_stays steps c.rewrite_draft.new.draft c.eliminate_dead_code.new.draft c.in_ok-rewritten.ensures.whole c.in_ok-used.ensures.whole c.in_ok-used.ensures.orders
    (room_then c.args.draft.now c.requires.settled c.args.rule.now c.args.binding.now c.requires.checks c.requires.rule c.requires.matches.1 c.rewrite_draft.new.draft c.in_ok-rewritten.ensures.whole c.in_ok-rewritten.rewritten p steps room)

pub returns-clause-orders : goal.returns-clause-orders
returns-clause-orders c =
    subst (KeepsOrders (orders_of c.args.draft.now)) (sym c.in_ok-used.ensures.orders) c.in_ok-rewritten.ensures.orders

pub push_used-requires-clause-used : goal.push_used-requires-clause-used
push_used-requires-clause-used c = λ b n has. c.in_ok-used.ensures.used b n (subst (λ (l : List Register). Contains l (registers.Result b n)) c.as_slice-2.ensures.value has)

pub returns-clause-touched : goal.returns-clause-touched
returns-clause-touched c =
    let root : Place = record { block = c.args.binding.now.block; number = c.args.binding.now.place } in
    let r = root_is c.args.draft.now c.requires.settled c.args.rule.now c.args.binding.now c.requires.checks c.requires.rule c.requires.matches.1 in
    let p = c.in_ok-rewritten.ensures.rewritten (root_inst c.args.draft.now c.requires.settled c.args.rule.now c.args.binding.now c.requires.checks c.requires.rule c.requires.matches.1) r in
    are_touched c.args.draft.now c.requires.settled c.args.rule.now c.args.binding.now c.requires.checks c.requires.rule c.requires.matches.1 c.rewrite_draft.new.draft c.in_ok-rewritten.ensures.whole c.in_ok-rewritten.rewritten p c.requires.clean c.eliminate_dead_code.new.draft c.in_ok-used.ensures.whole c.in_ok-used.ensures.cleaned c.in_ok-used.used.items
    (c.in_ok-used.ensures.reads c.args.draft.now (keeps_then c.args.draft.now c.requires.settled c.args.rule.now c.args.binding.now c.requires.checks c.requires.rule c.requires.matches.1 c.rewrite_draft.new.draft c.in_ok-rewritten.ensures.whole c.in_ok-rewritten.rewritten p)) c.push_used.new.places.items
    (put_among c.in_ok-rewritten.rewritten.put.items c.in_ok-rewritten.rewritten.replaced.items c.as_slice.result.now c.push.new.self.items c.extend_from_slice.new.self.items c.push_used.new.places.items root c.in_ok-push.ensures.items c.in_ok-extend_from_slice.ensures.items c.as_slice.ensures.value c.in_ok-push_used.ensures.others)
    (replaced_among c.in_ok-rewritten.rewritten.put.items c.in_ok-rewritten.rewritten.replaced.items c.as_slice.result.now c.push.new.self.items c.extend_from_slice.new.self.items c.push_used.new.places.items root c.in_ok-push.ensures.items c.in_ok-extend_from_slice.ensures.items c.as_slice.ensures.value c.in_ok-push_used.ensures.others)
    (λ b n among once. c.in_ok-push_used.ensures.used b n (subst (λ (l : List Register). Contains l (registers.Result b n)) (sym c.as_slice-2.ensures.value) among) once)

pub returns-clause-root : goal.returns-clause-root
returns-clause-root c =
    let root : Place = record { block = c.args.binding.now.block; number = c.args.binding.now.place } in
    root_among c.in_ok-rewritten.rewritten.put.items c.in_ok-rewritten.rewritten.replaced.items c.as_slice.result.now c.push.new.self.items c.extend_from_slice.new.self.items c.push_used.new.places.items root c.in_ok-push.ensures.items c.in_ok-extend_from_slice.ensures.items c.as_slice.ensures.value c.in_ok-push_used.ensures.others

pub returns-clause-places : goal.returns-clause-places
returns-clause-places c =
    let root : Place = record { block = c.args.binding.now.block; number = c.args.binding.now.place } in
    let r = root_is c.args.draft.now c.requires.settled c.args.rule.now c.args.binding.now c.requires.checks c.requires.rule c.requires.matches.1 in
    let p = c.in_ok-rewritten.ensures.rewritten (root_inst c.args.draft.now c.requires.settled c.args.rule.now c.args.binding.now c.requires.checks c.requires.rule c.requires.matches.1) r in
    c.in_ok-push_used.ensures.places (all_among c.in_ok-rewritten.rewritten.put.items c.in_ok-rewritten.rewritten.replaced.items c.as_slice.result.now c.push.new.self.items c.extend_from_slice.new.self.items c.push_used.new.places.items root c.in_ok-push.ensures.items c.in_ok-extend_from_slice.ensures.items c.as_slice.ensures.value c.in_ok-push_used.ensures.others (IsPlaceIn c.eliminate_dead_code.new.draft.arena)
    (put_places c.args.draft.now c.requires.settled c.args.rule.now c.args.binding.now c.requires.checks c.requires.rule c.requires.matches.1 c.rewrite_draft.new.draft c.in_ok-rewritten.ensures.whole c.in_ok-rewritten.rewritten p c.eliminate_dead_code.new.draft c.in_ok-used.ensures.whole c.in_ok-used.ensures.orders)
    (root_place c.args.draft.now c.requires.settled c.args.rule.now c.args.binding.now c.requires.checks c.requires.rule c.requires.matches.1 c.rewrite_draft.new.draft c.in_ok-rewritten.ensures.whole c.in_ok-rewritten.rewritten p c.eliminate_dead_code.new.draft c.in_ok-used.ensures.whole c.in_ok-used.ensures.orders)
    (replaced_places c.args.draft.now c.requires.settled c.args.rule.now c.args.binding.now c.requires.checks c.requires.rule c.requires.matches.1 c.rewrite_draft.new.draft c.in_ok-rewritten.ensures.whole c.in_ok-rewritten.rewritten p c.eliminate_dead_code.new.draft c.in_ok-used.ensures.whole c.in_ok-used.ensures.orders))
