use Rattle.circuits.proofs.Common.{◌<◌, length, sym, ◌∙◌, arith}
use Rattle.circuits.proofs.Kept.{Adds-trans, own_at}
use Rattle.circuits.proofs.Words.{list_any-take_more}
use Rattle.circuits.proofs.disjunction.any.Goals as goal

pub loop-bit-preserved : goal.loop-bit-preserved
loop-bit-preserved g c =
    let m = g.C.State in
    let before = c.loop-bit.invariant in
    let inside : c.loop-bit.bit-index < length c.args.a.now = omega arith in (
      Adds-trans before.0 c.or.ensures.adds,
      c.in_ok-some.ensures.own,
      λ inputs admitted.
          let bit_kept = before.0.keeps.values inputs c.bit-item.result admitted (own_at (m.has_literal c.args.c.now) c.args.a.now c.loop-bit.bit-index c.bit-item.result c.requires inside c.bit-item.is) in
          c.in_ok-some.ensures.value inputs (before.0.keeps.admitted inputs admitted)
          ∙ rw (before.2 inputs admitted, bit_kept)
          (sym (list_any-take_more (m.value c.args.c.now inputs) c.args.a.now c.loop-bit.bit-index c.bit-item.result inside c.bit-item.is)),
    )
