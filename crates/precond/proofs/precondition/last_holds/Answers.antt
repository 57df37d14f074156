use Rattle.precond.proofs.Common.{◌≡◌, ℕ, ◌+◌, ◌<◌, Bool, List, length, take, ◌∙◌, arith, get_or, set, length-set, slice_get-get_or, Eq, Value, Formula, formula_holds, truths_of}
use Rattle.rule_core.specs.declared.rule.Formula.TheVariants as formulas
use Rattle.precond.proofs.Stored.{stored}
use Rattle.precond.proofs.precondition.last_holds.Goals as goal

-- the default for a place without a node
none : Formula
none = formulas.Compare Eq 0 0

more : (values : List Value) (nodes : List Formula) (truths : List Bool) (n : ℕ) (b : Bool) → n < length nodes → n < length truths → take n truths ≡ truths_of values (take n nodes)
    → b ≡ formula_holds values (take n truths) (get_or nodes n none) → take (n + 1) (set truths n b) ≡ truths_of values (take (n + 1) nodes)
more values nodes truths n b within fits are is = stored (formula_holds values) nodes truths n (get_or nodes n none) b (slice_get-get_or nodes n none within) fits are is

pub loop-n-preserved : goal.loop-n-preserved
unfolding none
loop-n-preserved c =
    record {
      count = length-set c.loop-n.truths c.loop-n.n c.formula_holds.result ∙ c.loop-n.invariant.count;
      are = more c.args.values.now c.args.formulas.now c.loop-n.truths c.loop-n.n c.formula_holds.result c.loop-n-test.true (omega (arith, c.loop-n.invariant.count, c.requires.few)) c.loop-n.invariant.are c.formula_holds.ensures;
    }
