use Rattle.ir_reader.proofs.Common.{◌++◌, subst, StandsIn, HasCome, seen}
use Rattle.ir_reader.proofs.following.take_rest.Goals as goal

pub loop-behind-preserved : goal.loop-behind-preserved
loop-behind-preserved c = record {
  stands = subst (λ t. StandsIn t c.in_ok-behind.behind) c.loop-behind.invariant.stands.of_text c.in_ok-behind.ensures.stands;
  passed = λ text front h. subst (λ b. HasCome text (front ++ seen c.take_entry.new.tokens.items) b c.in_ok-behind.behind) c.if-are_last.false
      (c.in_ok-behind.ensures.come text front (c.loop-behind.invariant.passed text front h));
}

pub returns-then-are_last : goal.returns-then-are_last
returns-then-are_last c = λ text front h.
    subst (λ b. HasCome text (front ++ seen c.take_entry.new.tokens.items) b c.in_ok-behind.behind) c.if-are_last.true
    (c.in_ok-behind.ensures.come text front (c.loop-behind.invariant.passed text front h))
