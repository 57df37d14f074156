use Rattle.draft_steps.proofs.Common.{◌≡◌, List, [], ◌∷◌, ◌++◌, sym, ap, subst, ◌∙◌, append_assoc, arith, nil_from_length, into_iter_items, Inst, Place}
use Rattle.draft_steps.proofs.PutAll.{ArePut, append_none, next_known, next_room, none_put, put_more, still_stands}
use Rattle.draft_steps.proofs.rewriting.put_all.Goals as goal

pub loop-inst-init : goal.loop-inst-init
loop-inst-init c = record {
  so_far = subst (λ (p : List Place). ArePut c.args.draft.now c.args.draft.now c.args.at [] p) (sym c.new-put.ensures.items) (none_put c.args.draft.now c.args.at c.requires.whole);
  left = c.into_iter-inst-iterator.ensures.into_iter_gives.0;
}

pub put_before-requires-clause-at : goal.put_before-requires-clause-at
put_before-requires-clause-at c =
    let l = c.loop-inst in
    still_stands c.args.draft.now l.draft c.args.at l.yielded l.put.items c.requires.whole c.requires.at l.invariant.so_far

pub put_before-requires-clause-room : goal.put_before-requires-clause-room
put_before-requires-clause-room c =
    let l = c.loop-inst in
    next_room c.args.draft.now l.draft c.args.at l.yielded l.put.items c.requires.whole c.requires.at l.invariant.so_far c.args.insts.items (into_iter_items c.next.new.self) c.in-Some.inst
    (rw (← c.in-Some.ensures.steps.0) l.invariant.left) c.requires.room

pub put_before-requires-clause-known : goal.put_before-requires-clause-known
put_before-requires-clause-known c =
    let l = c.loop-inst in
    next_known c.args.draft.now l.draft c.args.at l.yielded l.put.items c.requires.whole c.requires.at l.invariant.so_far c.args.insts.items (into_iter_items c.next.new.self) c.in-Some.inst
    (rw (← c.in-Some.ensures.steps.0) l.invariant.left) c.requires.readable

pub loop-inst-preserved : goal.loop-inst-preserved
loop-inst-preserved c =
    let l = c.loop-inst in
    let e = c.in_ok-put_before.ensures in
    record {
      so_far = subst (λ (p : List Place). ArePut c.args.draft.now c.put_before.new.draft c.args.at (l.yielded ++ c.in-Some.inst ∷ []) p) (sym c.in_ok-push.ensures.items)
          (put_more c.args.draft.now l.draft c.args.at l.yielded l.put.items c.requires.whole c.requires.at l.invariant.so_far c.put_before.new.draft c.in-Some.inst c.in_ok-put_before.field-0
          e.whole e.arena e.place e.numbers e.orders e.dead_candidates);
      left = append_assoc l.yielded (c.in-Some.inst ∷ []) (into_iter_items c.next.new.self) ∙ rw (← c.in-Some.ensures.steps.0) l.invariant.left;
    }

pub returns : goal.returns
returns c =
    let l = c.loop-inst in
    let none : into_iter_items c.loop-inst.inst-iterator ≡ [] = nil_from_length _ (omega (arith, c.in-None.ensures.steps.0, c.loop-inst.inst-iterator.rest.ok.0)) in
    let all : c.loop-inst.yielded ≡ c.args.insts.items = sym (append_none l.yielded) ∙ (ap (λ (rest : List Inst). l.yielded ++ rest) (sym none) ∙ l.invariant.left) in
    let done : ArePut c.args.draft.now c.loop-inst.draft c.args.at c.args.insts.items c.loop-inst.put.items =
    subst (λ (insts : List Inst). ArePut c.args.draft.now c.loop-inst.draft c.args.at insts c.loop-inst.put.items) all l.invariant.so_far in
    record {
      whole = done.whole;
      put = done.told;
      fell = done.fell;
      orders = done.orders;
      arena = done.arena;
      numbers = done.numbers;
    }
