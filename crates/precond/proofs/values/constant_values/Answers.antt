use Rattle.precond.proofs.Common.{◌≡◌, ℕ, pos, ◌+◌, ◌<◌, List, length, take, Some, sym, ap, ◌∙◌, lit<, arith, get_or, slice_get, set, length-set, slice_get-get_or, Number, Value, Rule, Term, IsRule, IsTyping, ConstantsFit, of_constants, term_value, values_of, TermIsReady, term_next, few_terms}
use Rattle.rule_core.specs.declared.rule.Node.TheVariants as nodes
use Rattle.precond.proofs.Stored.{stored}
use Rattle.precond.proofs.values.constant_values.Goals as goal

read : List Term → ℕ → Term
read terms i = get_or terms i (record { class = 0; node = nodes.Literal (pos 0) })

few : (rule : Rule) (terms : List Term) (i : ℕ) → IsRule rule → terms ≡ rule.terms → i < length terms → i < 256
few rule terms i checked same within = omega (arith, few_terms rule checked, ap length same)

-- the node that the loop reads at i is the rule's node i
module _ (rule : Rule) (typing lent : List ℕ) (constants given : List Number) (terms : List Term) (values : List Value) (i : ℕ)
    (lends : lent ≡ typing) (gives : given ≡ constants) (same : terms ≡ rule.terms) (within : i < length terms)
    (are : take i values ≡ values_of typing (of_constants constants) (take i rule.terms)) where
  stands : slice_get rule.terms i ≡ Some (read terms i)
  unfolding read
  stands = ap (λ ts. slice_get ts i) (sym same) ∙ slice_get-get_or terms i (record { class = 0; node = nodes.Literal (pos 0) }) within

  next : IsRule rule → IsTyping rule typing → ConstantsFit rule typing constants → TermIsReady lent given (take i values) (read terms i)
  next checked typed fits = rw (lends, gives, are) (term_next rule typing constants checked typed fits i (read terms i) stands)

  more : (v : Value) → i < length values → v ≡ term_value lent (of_constants given) (take i values) (read terms i) → take (i + 1) (set values i v) ≡ values_of typing (of_constants constants) (take (i + 1) rule.terms)
  more v fits is =
      stored (term_value typing (of_constants constants)) rule.terms values i (read terms i) v stands fits are
      (is ∙ ap (λ widths. term_value widths (of_constants given) (take i values) (read terms i)) lends ∙ ap (λ numbers. term_value typing (of_constants numbers) (take i values) (read terms i)) gives)

pub shared_whole_as_front-term_value : goal.shared_whole_as_front-term_value
shared_whole_as_front-term_value c =
    let below : c.loop-n.n < 256 = few c.args.rule.now c.as_slice-term-items.result.now c.loop-n.n c.requires.rule c.as_slice-term-items.ensures c.loop-n-test.true in
    (omega arith, lit< tt)

pub term_value-requires : goal.term_value-requires
unfolding read
term_value-requires c =
    next c.args.rule.now c.args.typing.now c.as_slice.result.now c.args.constants.now c.as_slice-in-loop-n.result.now c.as_slice-term-items.result.now c.loop-n.values c.loop-n.n
    c.as_slice.ensures c.as_slice-in-loop-n.ensures c.as_slice-term-items.ensures c.loop-n-test.true c.loop-n.invariant.are c.requires.rule c.requires.typing c.requires.constants

pub listed : goal.listed
listed c = omega (arith, few c.args.rule.now c.as_slice-term-items.result.now c.loop-n.n c.requires.rule c.as_slice-term-items.ensures c.loop-n-test.true, c.loop-n.invariant.count)

pub bounds-values-n : goal.bounds-values-n
bounds-values-n c = few c.args.rule.now c.as_slice-term-items.result.now c.loop-n.n c.requires.rule c.as_slice-term-items.ensures c.loop-n-test.true

pub loop-n-preserved : goal.loop-n-preserved
unfolding read
loop-n-preserved c =
    let below : c.loop-n.n < 256 = few c.args.rule.now c.as_slice-term-items.result.now c.loop-n.n c.requires.rule c.as_slice-term-items.ensures c.loop-n-test.true in
    record {
      count = length-set c.loop-n.values c.loop-n.n c.term_value.result ∙ c.loop-n.invariant.count;
      are = more c.args.rule.now c.args.typing.now c.as_slice.result.now c.args.constants.now c.as_slice-in-loop-n.result.now c.as_slice-term-items.result.now c.loop-n.values c.loop-n.n
          c.as_slice.ensures c.as_slice-in-loop-n.ensures c.as_slice-term-items.ensures c.loop-n-test.true c.loop-n.invariant.are c.term_value.result
          (omega (arith, c.loop-n.invariant.count)) c.term_value.ensures.value;
    }

pub returns-clause-count : goal.returns-clause-count
returns-clause-count c = omega (arith, few_terms c.args.rule.now c.requires.rule)
