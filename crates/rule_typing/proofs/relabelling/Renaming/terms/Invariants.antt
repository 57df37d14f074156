use Rattle.rule_typing.proofs.Common.{◌≡◌, ◌++◌, map, take, drop, mapped_term, renamed}
use Rattle.rule_typing.proofs.relabelling.Renaming.terms.Given as goal

abbrev pub invariant-loop-place : goal.invariant-loop-place
invariant-loop-place l = l.terms ≡ take l.place (map (mapped_term (renamed l.self)) l.initial.terms) ++ drop l.place l.initial.terms
