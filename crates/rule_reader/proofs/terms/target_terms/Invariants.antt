-- the nodes of the terms so far are appended
use Rattle.rule_reader.proofs.Common.{TermsMean}
use Rattle.rule_reader.proofs.Building.{terms_upto}
use Rattle.rule_reader.proofs.terms.target_terms.Given as goal

abbrev pub invariant-loop-place : goal.invariant-loop-place
invariant-loop-place l = TermsMean l.rule l.names (terms_upto l.rule.target l.place) l.terms
