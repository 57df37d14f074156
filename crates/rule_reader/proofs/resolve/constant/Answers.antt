use Rattle.rule_reader.proofs.Common.{arith, slice_get_within}
use Rattle.rule_reader.proofs.InputLemmas.{few_constants}
use Rattle.rule_reader.proofs.Found.{of_constant}
use Rattle.rule_reader.proofs.resolve.constant.Goals as goal

pub overflow_cast-result : goal.overflow_cast-result
overflow_cast-result c =
    let few = few_constants c.args.rule.now.source c.args.names.now c.requires.names c.requires.rule.source.few in
    omega (arith, slice_get_within c.args.names.now.constants c.in-Some.place c.args.name.now (rw c.as_slice.ensures at c.in-Some.ensures.some))

pub unreachable-requires : goal.unreachable-requires
unreachable-requires c = c.in-None.ensures.none (rw c.as_slice.ensures (of_constant c.args.rule.now.source c.args.names.now c.requires.names c.args.name.now c.requires.bound))
