use Rattle.matcher.proofs.Common.{subst, Argument, StandsFor, HasName}
use Rattle.rule_core.specs.declared.rule.Argument.TheVariants as arguments
use Rattle.matcher.proofs.Knowing.{as_many_themselves, keeps_itself, known_as, knows_nothing}
use Rattle.matcher.proofs.slots.Slots.take_value.Goals as goal

pub take_register-requires : goal.take_register-requires
take_register-requires c = subst (λ (a : Argument). HasName c.args.self.now a) c.in-Register.is c.requires

pub take_constant-requires : goal.take_constant-requires
take_constant-requires c = subst (λ (a : Argument). HasName c.args.self.now a) c.in-Constant.is c.requires

pub returns-in-Register-clause-sizes : goal.returns-in-Register-clause-sizes
returns-in-Register-clause-sizes c = c.take_register.ensures.sizes

pub returns-in-Register-clause-knows : goal.returns-in-Register-clause-knows
returns-in-Register-clause-knows c m N stands =
    let knows = c.take_register.ensures.knows m N (subst (λ (a : Argument). StandsFor m N a c.args.operand) c.in-Register.is stands) in
    (knows.0, known_as c.take_register.new.self m (arguments.Register c.in-Register.name) c.args.value c.in-Register.is knows.1)

pub returns-in-Constant-clause-sizes : goal.returns-in-Constant-clause-sizes
returns-in-Constant-clause-sizes c = c.take_constant.ensures.sizes

pub returns-in-Constant-clause-knows : goal.returns-in-Constant-clause-knows
returns-in-Constant-clause-knows c m N stands =
    let knows = c.take_constant.ensures.knows m N (subst (λ (a : Argument). StandsFor m N a c.args.operand) c.in-Constant.is stands) in
    (knows.0, known_as c.take_constant.new.self m (arguments.Constant c.in-Constant.k) c.args.value c.in-Constant.is knows.1)

pub returns-in_default : goal.returns-in_default
returns-in_default c = record {
  sizes = as_many_themselves c.args.self.now;
  knows = λ m N stands. (keeps_itself m c.args.self.now, knows_nothing c.args.self.now m c.args.value c.in_default.not-Register c.in_default.not-Constant);
}
