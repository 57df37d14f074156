use Rattle.rule_typing.proofs.Common.{◌≡◌, ◌++◌, map, take, drop, mapped_statement, renamed}
use Rattle.rule_typing.proofs.relabelling.Renaming.statements.Given as goal

abbrev pub invariant-loop-place : goal.invariant-loop-place
invariant-loop-place l = l.statements ≡ take l.place (map (mapped_statement (renamed l.self)) l.initial.statements) ++ drop l.place l.initial.statements
