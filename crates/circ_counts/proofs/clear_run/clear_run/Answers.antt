use Rattle.circ_counts.proofs.Common.{◌<◌, ◌+◌, not, length, ap, sym, ◌∙◌, arith, length_push, All-push, Adds-trans, Adds-weaken, All-kept, own_at}
use Rattle.circ_counts.proofs.Counted.{count_push, count-kept, run_take_more}
use Rattle.circ_counts.proofs.clear_run.clear_run.Goals as goal

pub loop-bit-preserved : goal.loop-bit-preserved
loop-bit-preserved g c =
    let m = g.C.State in
    let before = c.loop-bit.invariant in
    let keeps = c.and.ensures.adds.keeps in
    let inside : c.loop-bit.bit-index < length c.args.a.now = omega arith in
    let own_bit = own_at (m.has_literal c.args.c.now) c.args.a.now c.loop-bit.bit-index c.bit-item.result c.requires inside c.bit-item.is in
    let own = All-push (m.has_literal c.and.new.self) c.loop-bit.run c.in_ok-clear.clear (All-kept keeps c.loop-bit.run before.2) c.in_ok-clear.ensures.own in (
      Adds-trans before.0 c.and.ensures.adds,
      c.in_ok-clear.ensures.own,
      rw c.in_ok-push.ensures.ok own,
      rw c.in_ok-push.ensures.ok (length_push c.loop-bit.run c.in_ok-clear.clear ∙ ap (λ n. n + 1) before.3),
      λ inputs admitted.
          let now_admitted = before.0.keeps.admitted inputs admitted in
          let bit_kept = before.0.keeps.values inputs c.bit-item.result admitted own_bit in
          let more = run_take_more (λ x. not (m.value c.args.c.now inputs x)) c.args.a.now c.loop-bit.bit-index c.bit-item.result inside c.bit-item.is in
          c.in_ok-clear.ensures.value inputs now_admitted
          ∙ rw (before.4 inputs admitted, c.not.ensures.value inputs now_admitted, bit_kept) (sym more.0),
      λ inputs admitted.
          let now_admitted = before.0.keeps.admitted inputs admitted in
          let bit_kept = before.0.keeps.values inputs c.bit-item.result admitted own_bit in
          let more = run_take_more (λ x. not (m.value c.args.c.now inputs x)) c.args.a.now c.loop-bit.bit-index c.bit-item.result inside c.bit-item.is in
          rw (c.in_ok-push.ensures.ok, count_push (m.value c.and.new.self inputs) c.loop-bit.run c.in_ok-clear.clear, count-kept keeps inputs now_admitted c.loop-bit.run before.2, before.5 inputs admitted, c.in_ok-clear.ensures.value inputs now_admitted, before.4 inputs admitted, c.not.ensures.value inputs now_admitted, bit_kept) (sym more.1),
    )

pub not-requires : goal.not-requires
not-requires g c =
    let inside : c.loop-bit.bit-index < length c.args.a.now = omega arith in
    c.loop-bit.invariant.0.keeps.literals c.bit-item.result (own_at (g.C.State.has_literal c.args.c.now) c.args.a.now c.loop-bit.bit-index c.bit-item.result c.requires inside c.bit-item.is)

pub returns-in_err-clear-clause-adds : goal.returns-in_err-clear-clause-adds
returns-in_err-clear-clause-adds g c = Adds-weaken (Adds-trans c.loop-bit.invariant.0 c.and.ensures.adds) (omega arith)

pub returns-in_err-push-clause-adds : goal.returns-in_err-push-clause-adds
returns-in_err-push-clause-adds g c = Adds-weaken (Adds-trans c.loop-bit.invariant.0 c.and.ensures.adds) (omega arith)
