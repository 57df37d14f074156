use Rattle.rule_core.proofs.Common.{◌≡◌, ℕ, pos, ◌+◌, ◌<◌, List, [], ◌∷◌, ◌++◌, length, take, Some, sym, ap, ◌∙◌, arith, get_or, slice_get, take_all, slice_get-get_or, Value, Number, Rule, Term, IsRule, IsTyping, ConstantsFit, of_constants, term_value, values_of, TermIsReady}
use Rattle.rule_core.specs.declared.rule.Node.TheVariants as nodes
use Rattle.rule_core.proofs.Turns.{in_turn-step}
use Rattle.rule_core.proofs.Ready.{term_next}
use Rattle.rule_core.proofs.run.constant_values.Goals as goal

read : List Term → ℕ → Term
read slice i = get_or slice i (record { class = 0; node = nodes.Literal (pos 0) })

-- the node that the loop reads at i is the rule's node i
module _ (rule : Rule) (typing : List ℕ) (constants : List Number) (slice : List Term) (values before : List Value) (i : ℕ)
    (same : slice ≡ rule.terms) (within : i < length slice) (are : values ≡ values_of typing (of_constants constants) (take i rule.terms)) (lent : before ≡ values) where
  stands : slice_get rule.terms i ≡ Some (read slice i)
  unfolding read
  stands = ap (λ terms. slice_get terms i) (sym same) ∙ slice_get-get_or slice i (record { class = 0; node = nodes.Literal (pos 0) }) within

  next : IsRule rule → IsTyping rule typing → ConstantsFit rule typing constants → TermIsReady typing constants before (read slice i)
  next checked typed fits = rw (lent ∙ are) (term_next rule typing constants checked typed fits i (read slice i) stands)

  more : (v : Value) (items : List Value) → items ≡ values ++ v ∷ [] → v ≡ term_value typing (of_constants constants) before (read slice i) → items ≡ values_of typing (of_constants constants) (take (i + 1) rule.terms)
  more v items pushed is =
      let step = in_turn-step (term_value typing (of_constants constants)) rule.terms i (read slice i) stands in
      rw (pushed, is, lent, are) (sym step)

pub term_value-value-requires : goal.term_value-value-requires
unfolding read
term_value-value-requires c =
    next c.args.rule.now c.args.typing.now c.args.constants.now c.as_slice-term-items.result.now c.loop-term.values.items c.deref.result.now c.loop-term.term-index
    c.as_slice-term-items.ensures c.loop-term-test.true c.loop-term.invariant c.deref.ensures.value c.requires.rule c.requires.typing c.requires.constants

pub loop-term-preserved : goal.loop-term-preserved
unfolding read
loop-term-preserved c =
    more c.args.rule.now c.args.typing.now c.args.constants.now c.as_slice-term-items.result.now c.loop-term.values.items c.deref.result.now c.loop-term.term-index
    c.as_slice-term-items.ensures c.loop-term-test.true c.loop-term.invariant c.deref.ensures.value c.term_value-value.result c.push.new.self.items c.in_ok-push.ensures.items c.term_value-value.ensures.value

pub returns : goal.returns
returns c = c.loop-term.invariant ∙ ap (values_of c.args.typing.now (of_constants c.args.constants.now)) (take_all c.loop-term.term-index c.args.rule.now.terms (omega (arith, ap length c.as_slice-term-items.ensures)))
