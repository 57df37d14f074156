use Rattle.readers.proofs.Reading.{no_operand}
use Rattle.readers.proofs.uses.operand_at.Goals as goal

pub returns-in-None : goal.returns-in-None
returns-in-None c = no_operand c.args.arena.now c.args.place c.arena_place.result c.args.index c.arena_place.ensures c.in-None.ensures
