use Rattle.rule_typing.proofs.Common.{Formula, LineOf, formula_pairs, formula_naming}
use Rattle.rule_typing.proofs.Walks.{AreOne}
use Rattle.rule_typing.proofs.Among.{SoFar}
use Rattle.rule_typing.proofs.term_lines.split_by_formulas.Given as goal

abbrev pub invariant-loop-formula : goal.invariant-loop-formula
invariant-loop-formula l = SoFar (λ (f : Formula). AreOne (LineOf l.rule (formula_pairs l.terms) (formula_naming l.terms) f)) l.formulas l.formula-index
