use Rattle.blast_value.proofs.Common.{◌<◌, length, ◌+◌, ◌∙◌, ap, arith, length_push, All-push, Adds-trans, All-kept, map-kept, own_at}
use Rattle.blast_value.proofs.Digits.{combined_more}
use Rattle.blast_value.proofs.bitwise.each_bit.Goals as goal

pub loop-i-preserved : goal.loop-i-preserved
loop-i-preserved g c =
    let m = g.C.State in
    let before = c.loop-i.invariant in
    let i = c.loop-i.i in
    let keeps = c.gate.ensures.adds.keeps in
    let in_a : i < length c.args.a.now = omega arith in
    let in_b : i < length c.args.b.now = omega arith in
    let own_x = own_at (m.has_literal c.args.c.now) c.args.a.now i c.index-a-i.result c.requires.own_a in_a c.index-a-i.is in
    let own_y = own_at (m.has_literal c.args.c.now) c.args.b.now i c.index-b-i.result c.requires.own_b in_b c.index-b-i.is in
    let own = All-push (m.has_literal c.gate.new.c) c.loop-i.word c.in_ok-bit.bit (All-kept keeps c.loop-i.word before.1) c.in_ok-bit.ensures.own in (
      Adds-trans before.0 c.gate.ensures.adds,
      rw c.in_ok-push.ensures.ok own,
      rw c.in_ok-push.ensures.ok (length_push c.loop-i.word c.in_ok-bit.bit ∙ ap (λ n. n + 1) before.2),
      λ inputs admitted.
          let now_admitted = before.0.keeps.admitted inputs admitted in
          rw c.in_ok-push.ensures.ok
          (combined_more c.args.op (m.value c.args.c.now inputs) (m.value c.loop-i.c inputs) (m.value c.gate.new.c inputs) c.args.a.now c.args.b.now c.loop-i.word i c.index-a-i.result c.index-b-i.result c.in_ok-bit.bit in_a in_b c.index-a-i.is c.index-b-i.is
          (before.0.keeps.values inputs c.index-a-i.result admitted own_x) (before.0.keeps.values inputs c.index-b-i.result admitted own_y) before.2
          (map-kept keeps inputs now_admitted c.loop-i.word before.1) (c.in_ok-bit.ensures.value inputs now_admitted) (before.3 inputs admitted)),
    )
