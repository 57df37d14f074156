use Rattle.draft_steps.proofs.Common.{inl, List, [], ◌∷◌, All, Contains, refl, sym, subst, arith, take_all, All-contains, All-push, Contains-append_left, Register, IsUseCount, use_counts_are_one, IsPlaceIn, Place}
use Rattle.ir_core.specs.declared.operand.Register.TheVariants as registers
use Rattle.draft_steps.proofs.Touching.{IsTold, among_here, pushed_there, told_here, told_none}
use Rattle.draft_steps.proofs.stepping.push_used.Goals as goal
use Rattle.draft_steps.proofs.stepping.push_used.Goals.{in-Result+then-uses_of-eq1+in_ok-push, in-Result+else-uses_of-eq1, in_default}

pub loop-register-preserved : goal.loop-register-preserved
loop-register-preserved c =
    let f = c.args.draft.now.arena in
    let used = c.args.used.now in
    let index = c.loop-register.register-index in
    let old = c.loop-register.places.items in
    let lt = c.loop-register-test.true in
    let h = c.loop-register.invariant in
    elim c.match-register.branch [
      | in-Result+then-uses_of-eq1+in_ok-push w ↦
          let new = w.push.new.self.items in
          let p : Place = record { block = w.in-Result.block; number = w.in-Result.number } in
          let e = w.in_ok-push.ensures.items in
          let keeps : (q : Place) → Contains old q → Contains new q = λ q has. subst (λ (l : List Place). Contains l q) (sym e) (Contains-append_left old (p ∷ []) q has) in
          let inst = c.requires.used w.in-Result.block w.in-Result.number (among_here used index _ (registers.Result w.in-Result.block w.in-Result.number) w.in-Result.is lt) in
          rw w.places-is (record {
            others = λ q has. keeps q (h.others q has);
            used = told_here f old new used index _ (registers.Result w.in-Result.block w.in-Result.number) w.in-Result.is lt keeps h.used (pushed_there f old new w.in-Result.block w.in-Result.number e);
            places = λ all. subst (All (IsPlaceIn f)) (sym e) (All-push (IsPlaceIn f) old p (h.places all) (inst.0, inst.1, inl inst.2));
          })
      | in-Result+else-uses_of-eq1 w ↦
          let count : IsUseCount f (registers.Result w.in-Result.block w.in-Result.number) w.uses_of.result = w.uses_of.ensures.count f c.requires.whole.facts.uses in
          rw w.places-is (record {
            others = h.others;
            used = told_here f old old used index _ (registers.Result w.in-Result.block w.in-Result.number) w.in-Result.is lt (λ q has. has) h.used
                (λ b n same once. absurd (w.if-uses_of-eq1.false (use_counts_are_one f (registers.Result w.in-Result.block w.in-Result.number) w.uses_of.result 1 count (subst (λ (r : Register). IsUseCount f r 1) (sym same) once))));
            places = h.places;
          })
      | in_default w ↦ rw w.places-is (record {
        others = h.others;
        used = told_none f old used index _ w.in_default.not-Result lt h.used;
        places = h.places;
      })
    ]

pub returns-clause-used : goal.returns-clause-used
returns-clause-used c = λ b n has once.
    let f = c.args.draft.now.arena in
    let places = c.loop-register.places.items in
    All-contains (IsTold f places) c.args.used.now (registers.Result b n) (subst (All (IsTold f places)) (take_all c.loop-register.register-index c.args.used.now (omega arith)) c.loop-register.invariant.used) has b n refl once
