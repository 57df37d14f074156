use Rattle.ir_meaning.proofs.Tables.{write_held, write_table}
use Rattle.ir_meaning.proofs.table.Table.set.Goals as goal

pub returns-clause-table : goal.returns-clause-table
returns-clause-table c =
    let t = c.args.self.now in
    rw c.place-place.ensures.place (write_table c.args.f.now t.firsts.items t.values.items c.args.b c.args.k c.args.v c.requires.table c.requires.fits)

pub returns-clause-held : goal.returns-clause-held
returns-clause-held c =
    let t = c.args.self.now in
    rw c.place-place.ensures.place (write_held c.args.f.now t.firsts.items t.values.items c.args.b c.args.k c.args.v c.requires.table c.requires.fits)
