use Rattle.draft_bits.proofs.Common.{◌≡◌, Some, length, refl, slice_get, slice_get_read}
use Rattle.draft_bits.proofs.rows.put_at.Goals as goal
use Rattle.draft_bits.proofs.rows.put_at.Goals.{After-index_mut}

row_there : (c : After-index_mut) → slice_get c.args.blocks.now.items c.args.place.block ≡ Some c.index_mut.result.now
row_there c = slice_get_read c.args.blocks.now.items (length c.args.blocks.now.items) c.args.place.block c.index_mut.result.now refl c.requires.block c.index_mut.ensures.value

pub put_in-requires : goal.put_in-requires
put_in-requires c = c.requires.number c.index_mut.result.now (row_there (goal.at.put_in-requires c).After-index_mut)

pub returns : goal.returns
returns c = (c.index_mut.result.now, c.put_in.new.facts, record { there = row_there (goal.at.returns c).After-index_mut; is = refl }, c.put_in.ensures)
