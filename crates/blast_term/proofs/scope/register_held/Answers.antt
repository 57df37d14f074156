use Rattle.blast_term.proofs.Turns.{some_within}
use Rattle.blast_term.proofs.scope.register_held.Goals as goal

pub at-requires : goal.at-requires
at-requires g c = some_within c.args.scope.inputs.now c.in-Input.k (rw c.in-Input.is at c.requires)

pub at-requires-in-Source : goal.at-requires-in-Source
at-requires-in-Source g c = some_within c.args.scope.source.now c.in-Source.k (rw c.in-Source.is at c.requires)

pub at-requires-in-Target : goal.at-requires-in-Target
at-requires-in-Target g c = some_within c.args.scope.target.now c.in-Target.k (rw c.in-Target.is at c.requires)

pub returns-in-Input : goal.returns-in-Input
returns-in-Input g c = rw c.in-Input.is c.at.ensures

pub returns-in-Source : goal.returns-in-Source
returns-in-Source g c = rw c.in-Source.is c.at-in-Source.ensures

pub returns-in-Target : goal.returns-in-Target
returns-in-Target g c = rw c.in-Target.is c.at-in-Target.ensures
