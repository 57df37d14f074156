use Rattle.depth_first.proofs.Common.{Some, sym, ap, ◌∙◌, arith, slice_get-get_or}
use Rattle.depth_first.proofs.Index.{AddsClause-next}
use Rattle.depth_first.proofs.occurrences.Occurrences.add.Goals as goal

pub loop-literal-preserved : goal.loop-literal-preserved
loop-literal-preserved c =
    record {
      covers =
          record {
            positive = omega (arith, c.add_literal.ensures.positive, c.loop-literal.invariant.covers.positive);
            negative = omega (arith, c.add_literal.ensures.negative, c.loop-literal.invariant.covers.negative);
          };
      adds =
          AddsClause-next c.args.self.now c.loop-literal.self c.add_literal.new.self c.args.clause.now c.loop-literal.literal-index c.args.number c.literal-item.result
          (slice_get-get_or c.args.clause.now c.loop-literal.literal-index c.literal-item.result c.loop-literal-test.true ∙ ap Some (sym c.literal-item.is))
          c.loop-literal.invariant.adds
          c.in_ok-add_literal.ensures.adds;
    }
