use Rattle.run_text.proofs.Common.{length, List, ap, ◌∙◌, arith, slice_get, Entry}
use Rattle.run_text.proofs.NamedLemmas.{none_more, none_named, kept, other_name}
use Rattle.run_text.proofs.named.function_named.Goals as goal
use Rattle.run_text.proofs.named.function_named.Goals.{in-Function+else-eq, in-Kept}

pub loop-entry-preserved : goal.loop-entry-preserved
loop-entry-preserved c = none_more c.as_slice-entry-items.result.now c.args.name.now c.loop-entry.entry-index c.entry-item.result c.entry-item.result c.loop-entry-test.true c.entry-item.is c.loop-entry.invariant
    (elim c.match-entry.branch [
      | in-Function+else-eq w ↦ other_name c.entry-item.result w.in-Function.f w.as_slice.result.now c.args.name.now w.eq.result w.in-Function.is w.as_slice.ensures w.eq.ensures w.if-eq.false
      | in-Kept w ↦ kept c.entry-item.result _ c.args.name.now w.in-Kept.is
    ])

pub returns-clause-none : goal.returns-clause-none
returns-clause-none c =
    let all = ap length c.as_slice-entry-items.ensures in
    let past = c.loop-entry-test.false in
    let before = c.loop-entry.invariant in
    none_named c.args.m.now c.args.name.now c.loop-entry.entry-index (omega arith) (λ k lt f at. before k lt f (ap (λ (es : List Entry). slice_get es k) c.as_slice-entry-items.ensures ∙ at))
