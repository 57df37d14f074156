use Rattle.draft.proofs.Common.{few_counted}
use Rattle.draft.proofs.Fresh.{few_of}
use Rattle.draft.proofs.draft.Tables.of.Goals as goal

pub of-requires-clause-known : goal.of-requires-clause-known
of-requires-clause-known c = c.requires.checks.formed.registers

pub of-requires-2-clause-insts : goal.of-requires-2-clause-insts
of-requires-2-clause-insts c = few_counted c.args.f.now (few_of c.args.f.now c.requires.insts)

pub has_cycles-has_cycles-requires-clause-flow : goal.has_cycles-has_cycles-requires-clause-flow
has_cycles-has_cycles-requires-clause-flow c = c.in_ok-facts.ensures.flow

pub returns-clause-facts : goal.returns-clause-facts
returns-clause-facts c = c.in_ok-facts.ensures

pub returns-clause-orders : goal.returns-clause-orders
returns-clause-orders c = c.in_ok-orders.ensures

pub returns-clause-stand : goal.returns-clause-stand
returns-clause-stand c = c.in_ok-stand.ensures

pub returns-clause-readers : goal.returns-clause-readers
returns-clause-readers c = c.in_ok-readers.ensures.readers

pub returns-clause-cycles : goal.returns-clause-cycles
returns-clause-cycles c = c.has_cycles-has_cycles.ensures
