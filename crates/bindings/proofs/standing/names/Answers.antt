use Rattle.bindings.proofs.Common.{rules}
use Rattle.bindings.proofs.Lists.{lent, not_lent_past}
use Rattle.bindings.proofs.Naming.{input_stands, source_stands, no_input, no_source, no_target}
use Rattle.bindings.proofs.standing.names.Goals as goal

pub returns-in-Some : goal.returns-in-Some
returns-in-Some c N =
    input_stands c.args.binding.now N c.in-Input.i c.args.name c.in-Some.bound.now c.args.operand c.eq.result c.in-Input.is
    (lent c.as_slice.result.now c.args.binding.now.inputs c.in-Input.i c.in-Some.bound.now c.as_slice.ensures c.in-Some.ensures.lookup.3.0 c.in-Some.ensures.lookup.3.1) (search rules)

pub returns-in-None : goal.returns-in-None
returns-in-None c N =
    no_input c.args.binding.now N c.in-Input.i c.args.name c.args.operand c.in-Input.is
    (not_lent_past c.as_slice.result.now c.args.binding.now.inputs c.in-Input.i c.as_slice.ensures c.in-None.ensures.lookup.3)

pub returns-in-Some-get : goal.returns-in-Some-get
returns-in-Some-get c N =
    source_stands c.args.binding.now N c.in-Source.j c.args.name c.in-Some-get.register.now c.args.operand c.eq-in-Some-get.result c.in-Source.is
    (lent c.as_slice-in-Source.result.now c.args.binding.now.statements c.in-Source.j c.in-Some-get.register.now c.as_slice-in-Source.ensures c.in-Some-get.ensures.lookup.3.0 c.in-Some-get.ensures.lookup.3.1) (search rules)

pub returns-in-None-get : goal.returns-in-None-get
returns-in-None-get c N =
    no_source c.args.binding.now N c.in-Source.j c.args.name c.args.operand c.in-Source.is
    (not_lent_past c.as_slice-in-Source.result.now c.args.binding.now.statements c.in-Source.j c.as_slice-in-Source.ensures c.in-None-get.ensures.lookup.3)

pub returns-in-Target : goal.returns-in-Target
returns-in-Target c N = no_target c.args.binding.now N c.in-Target.field-0 c.args.name c.args.operand c.in-Target.is
