-- the names of the expressions so far may be used
use Rattle.rule_reader.proofs.Common.{take, Each, TermIsBound}
use Rattle.rule_reader.specs.declared.place.UseSite.TheVariants as places
use Rattle.rule_reader.proofs.bound.expressions_are_bound.Given as goal

abbrev pub invariant-loop-expression : goal.invariant-loop-expression
invariant-loop-expression l = Each (TermIsBound l.rule places.Heading) (take l.expression-index l.expressions)
