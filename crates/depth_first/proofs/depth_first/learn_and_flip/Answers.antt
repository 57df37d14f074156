use Rattle.depth_first.proofs.Common.{◌≡◌, ◌+◌, length, sym, subst, arith, NamesFalse, LogFollows, StepFollows, clauses_with, EachCaused, IsFlipped, literals}
use Rattle.depth_first.proofs.States.{length-clauses_with}
use Rattle.depth_first.proofs.depth_first.learn_and_flip.Goals as goal

pub overflow_cast-number : goal.overflow_cast-number
overflow_cast-number c =
    omega (arith, length-clauses_with c.args.cnf.now c.args.log.now.items, c.requires.few, c.len.ensures, c.args.log.now.ok.0)

pub overflow_add-number : goal.overflow_add-number
overflow_add-number c =
    omega (arith, length-clauses_with c.args.cnf.now c.args.log.now.items, c.requires.few, c.clause_count.ensures, c.len.ensures, c.args.log.now.ok.0)

pub learned-requires-clause-caused : goal.learned-requires-clause-caused
learned-requires-clause-caused c =
    subst (λ steps. EachCaused c.args.cnf.now steps c.args.trail.now.entries.items) (sym c.deref.ensures.value) c.requires.caused

pub learned-requires-clause-falsified : goal.learned-requires-clause-falsified
learned-requires-clause-falsified c =
    subst (λ steps. NamesFalse (clauses_with c.args.cnf.now steps) (literals c.args.trail.now.entries.items) c.args.conflict) (sym c.deref.ensures.value) c.requires.falsified

pub learned-requires-clause-follows : goal.learned-requires-clause-follows
learned-requires-clause-follows c = subst (LogFollows c.args.cnf.now) (sym c.deref.ensures.value) c.requires.follows

pub returns-clause-learns : goal.returns-clause-learns
returns-clause-learns c =
    let set = c.args.cnf.now in
    let step = c.in_ok-step.step in
    record {
      step = step;
      is = c.in_ok-push.ensures.items;
      clause_is = c.in_ok-step.ensures.shown.clause_is;
      follows = subst (λ steps. StepFollows set (clauses_with set steps) step) c.deref.ensures.value c.in_ok-step.ensures.follows;
    }

pub returns-clause-flipped : goal.returns-clause-flipped
returns-clause-flipped c =
    let set = c.args.cnf.now in
    let log = c.args.log.now in
    let number : c.clause_count.result + c.len.result ≡ length (clauses_with set log.items) =
    omega (arith, c.clause_count.ensures, c.len.ensures, log.ok.0, length-clauses_with set log.items) in
    subst (λ n. IsFlipped c.args.trail.now.entries.items c.args.place n c.flip_decision.new.self.entries.items) number c.in_ok-flip_decision.ensures.ok
