use Rattle.readers.proofs.Common.{◌∙◌, [], List, ap, map, length, replicate, arith, rules, take_all, Block, Place}
use Rattle.readers.proofs.Listed.{none_listed, none_there}
use Rattle.readers.proofs.uses.Readers.none.Goals as goal

pub returns-clause-there : goal.returns-clause-there
returns-clause-there c = none_there c.args.f.now (record { parameters = c.in_ok-parameters.parameters; results = c.loop-block.results }) (search rules)
    (c.loop-block.invariant ∙ ap (λ (l : List Block). map (λ (b : Block). replicate {A = List Place} (length b.insts) []) l) (take_all c.loop-block.block-index c.args.f.now.blocks (omega (arith, ap length c.as_slice-block-items.ensures))))

pub returns-clause-none : goal.returns-clause-none
returns-clause-none c = none_listed c.args.f.now (record { parameters = c.in_ok-parameters.parameters; results = c.loop-block.results }) (search rules)
    (c.loop-block.invariant ∙ ap (λ (l : List Block). map (λ (b : Block). replicate {A = List Place} (length b.insts) []) l) (take_all c.loop-block.block-index c.args.f.now.blocks (omega (arith, ap length c.as_slice-block-items.ensures))))
