use Rattle.alive_top.proofs.optimised.optimise.Goals as goal

pub returns-clause-ok : goal.returns-clause-ok
returns-clause-ok c = c.in_ok-optimised.ensures.prints c.args.bytes.now c.in_ok-source.ensures.read.source
