use Rattle.bindings.proofs.Common.{◌≡◌, ℕ, pos, ◌<◌, List, length, Some, sym, ap, ◌∙◌, arith, get_or, slice_get, slice_get-get_or, few_terms, Rule, Term, holds, fails}
use Rattle.rule_core.specs.declared.rule.Node.TheVariants as nodes
use Rattle.bindings.proofs.NamedTemporaries.{next_measures, next_measured, added, left_out, all_walked}
use Rattle.bindings.proofs.temporaries.measuring_nodes.Goals as goal
use Rattle.bindings.proofs.temporaries.measuring_nodes.Goals.{then-measures_temporary, else-measures_temporary}

read : List Term → ℕ → Term
read terms i = get_or terms i (record { class = 0; node = nodes.Literal (pos 0) })

-- the node that is read is the one with this index
stands : (rule : Rule) (terms : List Term) (i : ℕ) → terms ≡ rule.terms → i < length terms → slice_get rule.terms i ≡ Some (read terms i)
unfolding read
stands rule terms i same within = ap (λ ts. slice_get ts i) (sym same) ∙ slice_get-get_or terms i (record { class = 0; node = nodes.Literal (pos 0) }) within

pub insert-requires : goal.insert-requires
insert-requires c = omega (arith, few_terms c.args.rule.now c.requires, ap length c.as_slice-term-items.ensures, c.loop-n-test.true)

pub loop-n-preserved : goal.loop-n-preserved
unfolding read
loop-n-preserved c =
    let at = stands c.args.rule.now c.as_slice-term-items.result.now c.loop-n.n c.as_slice-term-items.ensures c.loop-n-test.true in
    elim c.if-measures_temporary.branch [
      | then-measures_temporary w ↦ rw w.measuring-is
          (added c.args.rule.now c.requires c.loop-n.n c.loop-n.measuring c.loop-n.invariant w.insert.new.self w.insert.ensures
          (next_measures c.args.rule.now c.requires c.loop-n.n c.loop-n.measuring c.loop-n.invariant (read c.as_slice-term-items.result.now c.loop-n.n) at
          (holds c.measures_temporary.result c.measures_temporary.ensures w.if-measures_temporary.true)))
      | else-measures_temporary w ↦ rw w.measuring-is
          (left_out c.args.rule.now c.requires c.loop-n.n c.loop-n.measuring c.loop-n.invariant
          (λ there. fails c.measures_temporary.result c.measures_temporary.ensures w.if-measures_temporary.false
          (next_measured c.args.rule.now c.requires c.loop-n.n c.loop-n.measuring c.loop-n.invariant (read c.as_slice-term-items.result.now c.loop-n.n) at there)))
    ]

pub returns : goal.returns
returns c = all_walked c.args.rule.now c.requires c.loop-n.n c.loop-n.measuring c.loop-n.invariant (omega (arith, ap length c.as_slice-term-items.ensures, c.loop-n-test.false))
