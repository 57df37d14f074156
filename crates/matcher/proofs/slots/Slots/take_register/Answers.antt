use Rattle.matcher.proofs.Common.{◌≡◌, ◌<◌, Some, length, refl, arith, slice_get, length-set, input_at, source_at, source_register, target_stands}
use Rattle.matcher.proofs.Knowing.{as_many_themselves, keeps_slots, knows_here}
use Rattle.matcher.proofs.NameSlots.{has_input, has_source, knows_input, knows_source}
use Rattle.matcher.proofs.slots.Slots.take_register.Goals as goal

pub index_mut-requires : goal.index_mut-requires
index_mut-requires c = omega (arith, has_input c.args.self.now c.args.name c.in-Input.i c.in-Input.is c.requires, c.args.self.now.inputs.ok.0)

pub index_mut-requires-in-Register : goal.index_mut-requires-in-Register
index_mut-requires-in-Register c = omega (arith, has_source c.args.self.now c.args.name c.in-Source.j c.in-Source.is c.requires, c.args.self.now.statements.ok.0)

pub returns-in-Input-clause-sizes : goal.returns-in-Input-clause-sizes
returns-in-Input-clause-sizes c = record { statements = refl; inputs = length-set c.args.self.now.inputs.items _ _; constants = refl; widths = refl }

pub returns-in-Input-clause-knows : goal.returns-in-Input-clause-knows
returns-in-Input-clause-knows c m N stands =
    let within : c.in-Input.i < length c.args.self.now.inputs.items = has_input c.args.self.now c.args.name c.in-Input.i c.in-Input.is c.requires in
    let at : slice_get m.inputs c.in-Input.i ≡ Some c.args.operand = input_at m N c.in-Input.i c.args.name c.args.operand c.in-Input.is stands in (
      record {
        statements = λ j h. h;
        inputs = keeps_slots c.args.self.now.inputs.items m.inputs c.in-Input.i c.args.operand within at;
        constants = λ k h. h;
        widths = λ k h. h;
      },
      knows_input c.args.self.now m c.args.name c.in-Input.i c.args.operand c.in-Input.is (knows_here c.args.self.now.inputs.items m.inputs c.in-Input.i c.args.operand within at),
    )

pub returns-in-Register-clause-sizes : goal.returns-in-Register-clause-sizes
returns-in-Register-clause-sizes c = record { statements = length-set c.args.self.now.statements.items _ _; inputs = refl; constants = refl; widths = refl }

pub returns-in-Register-clause-knows : goal.returns-in-Register-clause-knows
returns-in-Register-clause-knows c m N stands =
    let within : c.in-Source.j < length c.args.self.now.statements.items = has_source c.args.self.now c.args.name c.in-Source.j c.in-Source.is c.requires in
    let at : slice_get m.statements c.in-Source.j ≡ Some c.in-Register.register = source_at m N c.in-Source.j c.args.name c.args.operand c.in-Register.register c.in-Source.is c.in-Register.is stands in (
      record {
        statements = keeps_slots c.args.self.now.statements.items m.statements c.in-Source.j c.in-Register.register within at;
        inputs = λ i h. h;
        constants = λ k h. h;
        widths = λ k h. h;
      },
      knows_source c.args.self.now m c.args.name c.in-Source.j c.in-Register.register c.in-Source.is (knows_here c.args.self.now.statements.items m.statements c.in-Source.j c.in-Register.register within at),
    )

pub returns-in_default : goal.returns-in_default
returns-in_default c = record {
  sizes = as_many_themselves c.args.self.now;
  knows = λ m N stands. let (r, is) = source_register m N c.in-Source.j c.args.name c.args.operand c.in-Source.is stands in absurd (c.in_default.not-Register r is);
}

pub returns-in-Target-clause-sizes : goal.returns-in-Target-clause-sizes
returns-in-Target-clause-sizes c = as_many_themselves c.args.self.now

pub returns-in-Target-clause-knows : goal.returns-in-Target-clause-knows
returns-in-Target-clause-knows c m N stands = absurd (target_stands m N c.in-Target.field-0 c.args.name c.args.operand c.in-Target.is stands)
