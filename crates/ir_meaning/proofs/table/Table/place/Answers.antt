use Rattle.ir_meaning.proofs.Common.{arith}
use Rattle.ir_meaning.proofs.Tables.{inst_within, read_first}
use Rattle.ir_meaning.proofs.table.Table.place.Goals as goal

pub overflow_add-result : goal.overflow_add-result
overflow_add-result c =
    let t = c.args.self.now in
    omega (arith, read_first c.args.f.now t.firsts.items t.values.items c.args.b c.args.k c.index.result.now c.requires.table c.requires.inst c.index.ensures, inst_within c.args.f.now t.firsts.items t.values.items c.args.b c.args.k c.requires.table c.requires.inst, t.values.ok.0)

pub returns-clause-place : goal.returns-clause-place
returns-clause-place c =
    let t = c.args.self.now in
    omega (arith, read_first c.args.f.now t.firsts.items t.values.items c.args.b c.args.k c.index.result.now c.requires.table c.requires.inst c.index.ensures)

pub returns-clause-within : goal.returns-clause-within
returns-clause-within c =
    let t = c.args.self.now in
    omega (arith, read_first c.args.f.now t.firsts.items t.values.items c.args.b c.args.k c.index.result.now c.requires.table c.requires.inst c.index.ensures, inst_within c.args.f.now t.firsts.items t.values.items c.args.b c.args.k c.requires.table c.requires.inst)
