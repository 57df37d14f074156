use Rattle.blast_term.proofs.Common.{◌≡◌, ℕ, get_or, List, ◌+◌, ◌<◌, Bool, ◌&&◌, ◌||◌, length, map, take, sym, ap, ◌∙◌, arith, slice_get, take_all, slice_get-get_or, get_or_from_slice_get, number_of, Adds-none, Adds-trans, Adds-weaken, own_at, Eq, Formula, fact_holds, facts_hold, numbers_of-kept, fact_gates, seen, FactIsHeld}
use Rattle.rule_core.specs.declared.rule.Formula.TheVariants as formulas
use Rattle.blast_term.proofs.Said.{kept-none, kept-more, all-more}
use Rattle.blast_term.proofs.Kept.{scope_own-kept, seen-kept}
use Rattle.blast_term.proofs.Turns.{sum-more, sum-fewer}
use Rattle.blast_term.proofs.facts.blast_facts.Goals as goal

abbrev read : List Formula → ℕ → Formula
read xs i = get_or xs i (formulas.Compare Eq 0 0)

is_read : (xs : List Formula) (i : ℕ) → i < length xs → read xs i ≡ get_or xs i (read xs i)
is_read xs i within = sym (get_or_from_slice_get xs i (read xs i) (read xs i) (slice_get-get_or xs i (formulas.Compare Eq 0 0) within))

pub blast_fact-requires-clause-ready : goal.blast_fact-requires-clause-ready
blast_fact-requires-clause-ready g c =
    own_at (FactIsHeld c.args.scope) c.args.formulas.now c.loop-formula.formula-index (read c.args.formulas.now c.loop-formula.formula-index) c.requires.ready (omega arith) (is_read c.args.formulas.now c.loop-formula.formula-index (omega arith))

pub blast_fact-requires-clause-own : goal.blast_fact-requires-clause-own
blast_fact-requires-clause-own g c = scope_own-kept c.loop-formula.invariant.adds.keeps c.args.scope c.requires.own

pub blast_fact-requires-clause-own_undefined : goal.blast_fact-requires-clause-own_undefined
blast_fact-requires-clause-own_undefined g c = c.loop-formula.invariant.adds.keeps.literals c.args.undefined c.requires.own_undefined

pub blast_fact-requires-clause-own_met : goal.blast_fact-requires-clause-own_met
blast_fact-requires-clause-own_met g c = c.loop-formula.invariant.own

pub returns-in_err-kept-clause-adds : goal.returns-in_err-kept-clause-adds
returns-in_err-kept-clause-adds g c =
    let f = fact_gates (map length c.args.scope.terms.now) in
    let more = sum-more f c.args.formulas.now c.loop-formula.formula-index (read c.args.formulas.now c.loop-formula.formula-index) (omega arith) (is_read c.args.formulas.now c.loop-formula.formula-index (omega arith)) in
    Adds-weaken (Adds-trans c.loop-formula.invariant.adds c.blast_fact.ensures.adds) (omega (arith, more, sum-fewer f c.args.formulas.now (c.loop-formula.formula-index + 1)))

pub loop-formula-init : goal.loop-formula-init
loop-formula-init g c = record {
  value = λ inputs admitted. kept-none (g.C.State.value c.args.c.now inputs c.args.met) (g.C.State.value c.args.c.now inputs c.args.undefined);
  own = c.requires.own_met;
  adds = Adds-none;
}

pub loop-formula-preserved : goal.loop-formula-preserved
loop-formula-preserved g c =
    let m = g.C.State in
    let before = c.loop-formula.invariant in
    let scope = c.args.scope in
    let i = c.loop-formula.formula-index in
    let f = read c.args.formulas.now i in
    let within : i < length c.args.formulas.now = omega arith in
    record {
      value = λ inputs admitted.
          let keeps = before.adds.keeps in
          let start = m.value c.args.c.now inputs in
          let said = fact_holds (seen start scope) (map (number_of start) scope.terms.now) in
          let next = rw (before.value inputs admitted, keeps.values inputs c.args.undefined admitted c.requires.own_undefined, seen-kept keeps inputs admitted scope c.requires.own, numbers_of-kept keeps inputs admitted scope.terms.now c.requires.own.terms)
          at (c.in_ok-kept.ensures.value inputs (keeps.admitted inputs admitted)) in
          next ∙ kept-more (start c.args.met) (start c.args.undefined) (facts_hold (seen start scope) (map (number_of start) scope.terms.now) (take i c.args.formulas.now)) (said f)
          ∙ ap (λ (b : Bool). start c.args.met && (start c.args.undefined || b)) (sym (all-more said c.args.formulas.now i f within (is_read c.args.formulas.now i within)));
      own = c.in_ok-kept.ensures.own;
      adds = Adds-weaken (Adds-trans before.adds c.blast_fact.ensures.adds) (omega (arith, sum-more (fact_gates (map length scope.terms.now)) c.args.formulas.now i f within (is_read c.args.formulas.now i within)));
    }

pub returns-clause-value : goal.returns-clause-value
returns-clause-value g c = λ inputs admitted.
    let start = g.C.State.value c.args.c.now inputs in
    c.loop-formula.invariant.value inputs admitted
    ∙ ap (λ (fs : List Formula). start c.args.met && (start c.args.undefined || facts_hold (seen start c.args.scope) (map (number_of start) c.args.scope.terms.now) fs)) (take_all c.loop-formula.formula-index c.args.formulas.now c.loop-formula-test.false)

pub returns-clause-own : goal.returns-clause-own
returns-clause-own g c = c.loop-formula.invariant.own

pub returns-clause-adds : goal.returns-clause-adds
returns-clause-adds g c = rw (take_all c.loop-formula.formula-index c.args.formulas.now c.loop-formula-test.false) at c.loop-formula.invariant.adds
