use Rattle.matcher.proofs.Common.{refl, arith, length-set}
use Rattle.matcher.proofs.Knowing.{keeps_slots, knows_here}
use Rattle.matcher.proofs.slots.Slots.take_width.Goals as goal

pub index_mut-requires : goal.index_mut-requires
index_mut-requires c = omega (arith, c.args.self.now.widths.ok.0)

pub returns-clause-sizes : goal.returns-clause-sizes
returns-clause-sizes c = record { statements = refl; inputs = refl; constants = refl; widths = length-set c.args.self.now.widths.items _ _ }

pub returns-clause-knows : goal.returns-clause-knows
returns-clause-knows c m at = (
  record {
    statements = λ j h. h;
    inputs = λ i h. h;
    constants = λ k h. h;
    widths = keeps_slots c.args.self.now.widths.items m.typing c.args.class c.args.width c.requires at;
  },
  knows_here c.args.self.now.widths.items m.typing c.args.class c.args.width c.requires at,
)
