use Rattle.bindings.proofs.Common.{refl, flags_equal}
use Rattle.bindings.proofs.Promising.{promises_equal}
use Rattle.bindings.proofs.check.are_same.Goals as goal

pub returns : goal.returns
returns c = promises_equal c.args.found c.args.asked _ c.eq.result (flags_equal c.args.found.flags c.args.asked.flags _ refl) c.eq.ensures
