use Rattle.rule_typing.proofs.Common.{get_or, Formula, LineOf, formula_pairs, formula_naming}
use Rattle.rule_core.specs.declared.rule.Formula.TheVariants as formulas
use Rattle.ops.specs.declared.comparison.Pred.TheVariants as preds
use Rattle.rule_typing.proofs.Walks.{AreOne, stands_still, split_here, none_splits}
use Rattle.rule_typing.proofs.Among.{one_further}
use Rattle.rule_typing.proofs.term_lines.split_by_formulas.Goals as goal

-- the default for a place without a formula
abbrev none_formula : Formula
none_formula = formulas.Compare preds.Eq 0 0

pub returns-in-Some : goal.returns-in-Some
returns-in-Some c = split_here (λ (f : Formula). LineOf c.args.rule.now (formula_pairs c.args.terms.now) (formula_naming c.args.terms.now) f) c.args.formulas.now c.loop-formula.formula-index (get_or c.args.formulas.now c.loop-formula.formula-index none_formula) c.in-Some.pair (stands_still c.args.formulas.now c.loop-formula.formula-index none_formula c.loop-formula-test.true) c.loop-formula-test.true c.in-Some.ensures

pub loop-formula-preserved : goal.loop-formula-preserved
loop-formula-preserved c = one_further (λ (f : Formula). AreOne (LineOf c.args.rule.now (formula_pairs c.args.terms.now) (formula_naming c.args.terms.now) f)) c.args.formulas.now c.loop-formula.formula-index (get_or c.args.formulas.now c.loop-formula.formula-index none_formula) (stands_still c.args.formulas.now c.loop-formula.formula-index none_formula c.loop-formula-test.true) c.in_default.ensures c.loop-formula.invariant

pub returns : goal.returns
returns c = none_splits (λ (f : Formula). LineOf c.args.rule.now (formula_pairs c.args.terms.now) (formula_naming c.args.terms.now) f) c.args.formulas.now c.loop-formula.formula-index c.loop-formula.invariant c.loop-formula-test.false
