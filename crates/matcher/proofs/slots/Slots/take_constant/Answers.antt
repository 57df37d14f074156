use Rattle.matcher.proofs.Common.{◌≡◌, Some, refl, arith, slice_get, length-set, constant_at}
use Rattle.matcher.proofs.Knowing.{as_many_themselves, keeps_slots, knows_here}
use Rattle.matcher.proofs.slots.Slots.take_constant.Goals as goal

pub index_mut-requires : goal.index_mut-requires
index_mut-requires c = omega (arith, c.args.self.now.constants.ok.0)

pub returns-in-Number-clause-sizes : goal.returns-in-Number-clause-sizes
returns-in-Number-clause-sizes c = record { statements = refl; inputs = refl; constants = length-set c.args.self.now.constants.items _ _; widths = refl }

pub returns-in-Number-clause-knows : goal.returns-in-Number-clause-knows
returns-in-Number-clause-knows c m N stands =
    let at : slice_get m.constants c.args.k ≡ Some c.in-Number.number = constant_at m N c.args.k c.args.operand c.in-Number.number c.in-Number.is stands in (
      record {
        statements = λ j h. h;
        inputs = λ i h. h;
        constants = keeps_slots c.args.self.now.constants.items m.constants c.args.k c.in-Number.number c.requires at;
        widths = λ k h. h;
      },
      knows_here c.args.self.now.constants.items m.constants c.args.k c.in-Number.number c.requires at,
    )

pub returns-in_default : goal.returns-in_default
returns-in_default c = record { sizes = as_many_themselves c.args.self.now; knows = λ m N stands. absurd (c.in_default.not-Number stands.0 stands.3) }
