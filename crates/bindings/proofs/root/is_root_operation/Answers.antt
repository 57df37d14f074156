use Rattle.bindings.proofs.Common.{ap, length, arith}
use Rattle.bindings.proofs.Lists.{last_of}
use Rattle.bindings.proofs.Roots.{root_operation, no_root_operation}
use Rattle.bindings.proofs.root.is_root_operation.Goals as goal

pub overflow_sub-root : goal.overflow_sub-root
overflow_sub-root c = omega (arith, c.requires.rule.source_root, ap length c.as_slice-source.ensures)

pub bounds-source-source : goal.bounds-source-source
bounds-source-source c = omega (arith, c.requires.rule.source_root, ap length c.as_slice-source.ensures)

pub returns-in-Some : goal.returns-in-Some
returns-in-Some c =
    root_operation c.args.f.now c.args.block c.args.place c.args.rule.now c.index-source-source.result c.in-Some.inst.now c.is_same_operation.result
    (last_of c.as_slice-source.result.now c.args.rule.now.source c.index-source-source.result c.as_slice-source.ensures c.requires.rule.source_root c.index-source-source.is)
    c.in-Some.ensures.some c.is_same_operation.ensures

pub returns-in-None : goal.returns-in-None
returns-in-None c = no_root_operation c.args.f.now c.args.block c.args.place c.args.rule.now c.in-None.ensures.none
