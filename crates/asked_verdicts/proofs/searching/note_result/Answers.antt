use Rattle.asked_verdicts.proofs.Common.{◌≤◌, List, length, sym, subst, ◌∙◌, All, All-push, false≢true, on_ok_weaker, KnownBit}
use Rattle.asked_verdicts.proofs.Noting.{next_results, next_widths}
use Rattle.asked_verdicts.proofs.searching.note_result.Goals as goal

pub returns-then-not-asks-clause-results : goal.returns-then-not-asks-clause-results
returns-then-not-asks-clause-results c asks = absurd (false≢true (sym c.if-not-asks.true ∙ asks))

pub result_bits-requires : goal.result_bits-requires
result_bits-requires c =
    next_widths c.args.f.now c.args.known.now.block c.args.place c.inst_at-inst.result.now c.inst_at-inst.ensures c.requires.formed c.args.known.now.results (c.requires.results c.if-not-asks.false)

pub returns-clause-few : goal.returns-clause-few
returns-clause-few c = on_ok_weaker c.push.result (λ pushed.
    subst (All (λ (bits : List KnownBit). length bits ≤ 64)) (sym pushed) (All-push (λ (bits : List KnownBit). length bits ≤ 64) c.args.known.now.results c.in_ok-bits.bits c.requires.few c.in_ok-bits.ensures.few)) c.push.ensures.ok

pub returns-clause-results : goal.returns-clause-results
returns-clause-results c = on_ok_weaker c.push.result (λ pushed asks.
    next_results c.args.f.now c.args.known.now.block c.args.place c.inst_at-inst.result.now c.inst_at-inst.ensures c.args.known.now.results c.push.new.self c.in_ok-bits.bits (c.requires.results asks)
    c.in_ok-bits.ensures.bits pushed) c.push.ensures.ok
