use Rattle.blast_value.proofs.Common.{◌≡◌, ◌+◌, ◌^◌, ◌∙◌, ap, arith, length_push, All-push}
use Rattle.blast_value.proofs.Digits.{constant_more, constant_whole}
use Rattle.blast_value.proofs.known.constant.Goals as goal

pub loop-i-preserved : goal.loop-i-preserved
loop-i-preserved g c =
    let m = g.C.State in
    let before = c.loop-i.invariant in
    let own = All-push (m.has_literal c.args.c.now) c.loop-i.word c.truth.result before.0 c.truth.ensures.own in (
      rw c.in_ok-push.ensures.ok own,
      rw c.in_ok-push.ensures.ok (length_push c.loop-i.word c.truth.result ∙ ap (λ n. n + 1) before.1),
      λ inputs admitted.
          rw c.in_ok-push.ensures.ok (constant_more (m.value c.args.c.now inputs) c.loop-i.word c.truth.result c.loop-i._i c.loop-i.rest c.args.number before.1 (before.2 inputs admitted) (c.truth.ensures.value inputs admitted)),
    )

pub returns-clause-number : goal.returns-clause-number
returns-clause-number g c inputs admitted =
    let end : c.loop-i._i ≡ c.args.width = omega arith in
    constant_whole (2 ^ c.args.width) _ c.loop-i.rest c.args.number (rw end at (c.loop-i.invariant.2 inputs admitted)) c.requires
