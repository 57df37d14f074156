use Rattle.ir_resolve.proofs.Common.{known_by}
use Rattle.ir_resolve.proofs.Unknowns.{value_unknown}
use Rattle.ir_resolve.proofs.unknown.is_unknown.Goals as goal

pub returns-in-Register : goal.returns-in-Register
returns-in-Register c = value_unknown (known_by c.args.names.now) c.args.value.now c.in-Register.identifier _ _ c.in-Register.is c.register.ensures c.is_none.ensures
