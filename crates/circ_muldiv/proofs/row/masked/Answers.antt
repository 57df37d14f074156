use Rattle.circ_muldiv.proofs.Common.{◌<◌, length, ◌+◌, ◌∙◌, ap, arith, length_push, All-push, Adds-trans, Adds-weaken, All-kept, map-kept, own_at}
use Rattle.circ_muldiv.proofs.Masks.{mask_more}
use Rattle.circ_muldiv.proofs.row.masked.Goals as goal

pub loop-bit-preserved : goal.loop-bit-preserved
loop-bit-preserved g c =
    let m = g.C.State in
    let before = c.loop-bit.invariant in
    let i = c.loop-bit.bit-index in
    let inside : i < length c.args.word.now = omega arith in
    let own_bit = own_at (m.has_literal c.args.c.now) c.args.word.now i c.bit-item.result c.requires.own_word inside c.bit-item.is in
    let own = All-push (m.has_literal c.and.new.self) c.loop-bit.masked c.in_ok-both.both (All-kept c.and.ensures.adds.keeps c.loop-bit.masked before.1) c.in_ok-both.ensures.own in (
      Adds-trans before.0 c.and.ensures.adds,
      rw c.in_ok-push.ensures.ok own,
      rw c.in_ok-push.ensures.ok (length_push c.loop-bit.masked c.in_ok-both.both ∙ ap (λ n. n + 1) before.2),
      λ inputs admitted.
          let now_admitted = before.0.keeps.admitted inputs admitted in
          rw c.in_ok-push.ensures.ok
          (mask_more (m.value c.args.c.now inputs) (m.value c.loop-bit.c inputs) (m.value c.and.new.self inputs) c.args.word.now c.loop-bit.masked i c.bit-item.result c.args.digit c.in_ok-both.both inside c.bit-item.is before.2 (map-kept c.and.ensures.adds.keeps inputs now_admitted c.loop-bit.masked before.1) (before.0.keeps.values inputs c.bit-item.result admitted own_bit) (before.0.keeps.values inputs c.args.digit admitted c.requires.own_digit) (c.in_ok-both.ensures.value inputs now_admitted) (before.3 inputs admitted)),
    )

pub returns-in_err-both-clause-adds : goal.returns-in_err-both-clause-adds
returns-in_err-both-clause-adds g c = Adds-weaken (Adds-trans c.loop-bit.invariant.0 c.and.ensures.adds) (omega arith)

pub returns-in_err-push-clause-adds : goal.returns-in_err-push-clause-adds
returns-in_err-push-clause-adds g c = Adds-weaken (Adds-trans c.loop-bit.invariant.0 c.and.ensures.adds) (omega arith)
