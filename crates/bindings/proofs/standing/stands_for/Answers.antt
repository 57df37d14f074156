use Rattle.bindings.proofs.standing.stands_for.Goals as goal

pub returns-in-Register : goal.returns-in-Register
returns-in-Register c = rw c.in-Register.is (c.names.ensures c.args.width)

pub returns-in-Constant : goal.returns-in-Constant
returns-in-Constant c = rw c.in-Constant.is c.is_constant.ensures
