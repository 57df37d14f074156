use Rattle.blast_term.proofs.Common.{◌≡◌, ℕ, get_or, List, Some, ◌+◌, ◌<◌, ◌∷◌, [], length, map, take, refl, sym, ap, ◌∙◌, arith, slice_get, map-append, length_push, take_all, slice_get-get_or, get_or_from_slice_get, Eq, Formula, All-push, Adds-none, Adds-trans, Adds-weaken, All-kept, map-kept, formula_holds, truths_of, in_turn-step, held_value, widths_of, formula_gates, AllOwn-kept, values-kept}
use Rattle.rule_core.specs.declared.rule.Formula.TheVariants as formulas
use Rattle.blast_term.proofs.Turns.{sum-more, sum-fewer}
use Rattle.blast_term.proofs.formula.blast_formulas.Goals as goal

abbrev read : List Formula → ℕ → Formula
read xs i = get_or xs i (formulas.Compare Eq 0 0)

-- the node that is read at a place stands there
stands : (xs : List Formula) (i : ℕ) → i < length xs → slice_get xs i ≡ Some (read xs i)
stands xs i within = slice_get-get_or xs i (formulas.Compare Eq 0 0) within

is_read : (xs : List Formula) (i : ℕ) → i < length xs → read xs i ≡ get_or xs i (read xs i)
is_read xs i within = sym (get_or_from_slice_get xs i (read xs i) (read xs i) (stands xs i within))

pub blast_formula-requires-clause-ready : goal.blast_formula-requires-clause-ready
blast_formula-requires-clause-ready g c =
    let i = c.loop-formula.formula-index in
    let at = stands c.args.formulas.now i (omega arith) in
    rw (c.deref.ensures.value, c.loop-formula.invariant.count) (c.requires.ready i (read c.args.formulas.now i) at)

pub blast_formula-requires-clause-own : goal.blast_formula-requires-clause-own
blast_formula-requires-clause-own g c = AllOwn-kept c.loop-formula.invariant.adds.keeps c.args.terms.now c.requires.own

pub blast_formula-requires-clause-own_before : goal.blast_formula-requires-clause-own_before
blast_formula-requires-clause-own_before g c = rw c.deref.ensures.value c.loop-formula.invariant.own

pub returns-in_err-truth-clause-adds : goal.returns-in_err-truth-clause-adds
returns-in_err-truth-clause-adds g c =
    let f = formula_gates (widths_of c.args.terms.now) in
    let more = sum-more f c.args.formulas.now c.loop-formula.formula-index (read c.args.formulas.now c.loop-formula.formula-index) (omega arith) (is_read c.args.formulas.now c.loop-formula.formula-index (omega arith)) in
    Adds-weaken (Adds-trans c.loop-formula.invariant.adds c.blast_formula.ensures.adds) (omega (arith, more, sum-fewer f c.args.formulas.now (c.loop-formula.formula-index + 1)))

pub returns-in_err-push-clause-adds : goal.returns-in_err-push-clause-adds
returns-in_err-push-clause-adds g c =
    let f = formula_gates (widths_of c.args.terms.now) in
    let more = sum-more f c.args.formulas.now c.loop-formula.formula-index (read c.args.formulas.now c.loop-formula.formula-index) (omega arith) (is_read c.args.formulas.now c.loop-formula.formula-index (omega arith)) in
    Adds-weaken (Adds-trans c.loop-formula.invariant.adds c.blast_formula.ensures.adds) (omega (arith, more, sum-fewer f c.args.formulas.now (c.loop-formula.formula-index + 1)))

pub loop-formula-preserved : goal.loop-formula-preserved
loop-formula-preserved g c =
    let m = g.C.State in
    let before = c.loop-formula.invariant in
    let i = c.loop-formula.formula-index in
    let within : i < length c.args.formulas.now = omega arith in
    let at = stands c.args.formulas.now i within in
    let keeps = c.blast_formula.ensures.adds.keeps in
    let items = c.loop-formula.truths.items in
    let truth = c.in_ok-truth.truth in
    rw c.in_ok-push.ensures.items record {
      values = λ inputs admitted.
          let now_admitted = before.adds.keeps.admitted inputs admitted in
          let terms = map (held_value (m.value c.args.c.now inputs)) c.args.terms.now in
          let terms_same = values-kept before.adds.keeps inputs admitted c.args.terms.now c.requires.own in
          let old = map-kept keeps inputs now_admitted items before.own ∙ before.values inputs admitted in
          let new = rw (c.deref.ensures.value, terms_same, before.values inputs admitted) at (c.in_ok-truth.ensures.value inputs now_admitted) in
          map-append (m.value c.blast_formula.new.c inputs) items (truth ∷ []) ∙ rw (old, new) (sym (in_turn-step (formula_holds terms) c.args.formulas.now i (read c.args.formulas.now i) at));
      count = length_push items truth ∙ ap (λ n. n + 1) before.count;
      own = All-push (m.has_literal c.blast_formula.new.c) items truth (All-kept keeps items before.own) c.in_ok-truth.ensures.own;
      adds = Adds-weaken (Adds-trans before.adds c.blast_formula.ensures.adds) (omega (arith, sum-more (formula_gates (widths_of c.args.terms.now)) c.args.formulas.now i (read c.args.formulas.now i) within (is_read c.args.formulas.now i within)));
    }

pub loop-formula-init : goal.loop-formula-init
loop-formula-init g c = rw c.new-truths.ensures.items record {
  values = λ inputs admitted. refl;
  count = refl;
  own = λ k d within. absurd (omega arith);
  adds = Adds-none;
}

pub returns-clause-values : goal.returns-clause-values
returns-clause-values g c = λ inputs admitted.
    c.loop-formula.invariant.values inputs admitted
    ∙ ap (truths_of (map (held_value (g.C.State.value c.args.c.now inputs)) c.args.terms.now)) (take_all c.loop-formula.formula-index c.args.formulas.now c.loop-formula-test.false)

pub returns-clause-own : goal.returns-clause-own
returns-clause-own g c = c.loop-formula.invariant.own

pub returns-clause-adds : goal.returns-clause-adds
returns-clause-adds g c =
    let whole : take c.loop-formula.formula-index c.args.formulas.now ≡ c.args.formulas.now = take_all c.loop-formula.formula-index c.args.formulas.now c.loop-formula-test.false in
    rw whole at c.loop-formula.invariant.adds
