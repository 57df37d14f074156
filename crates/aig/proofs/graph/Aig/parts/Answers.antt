use Rattle.aig.proofs.graph.Aig.parts.Goals as goal

pub returns-clause-own : goal.returns-clause-own
returns-clause-own c = c.parts_of.ensures.among _ _ c.gate.ensures.operands
