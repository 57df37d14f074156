use Rattle.bindings.proofs.TemporariesBefore.{temporaries_before}
use Rattle.bindings.proofs.laws.temporaries_stand_before_roots.Goals as goal

pub returns : goal.returns
returns c = temporaries_before c.assigned_registers_keep_their_order.ensures.not_both c.named_registers_are_assigned.ensures
