use Rattle.use_counts.proofs.Common.{rules, ◌≡◌, map, length, replicate, Block}
use Rattle.use_counts.proofs.Rows.{none_counted}
use Rattle.use_counts.proofs.uses.Uses.none.Goals as goal

pub returns : goal.returns
returns c =
    let parameters : c.in_ok-parameters.parameters ≡ replicate (length c.args.f.now.parameters) 0 = search rules in
    let results : c.in_ok-results.results.items ≡ map (λ (b : Block). replicate (length b.insts) 0) c.args.f.now.blocks = search rules in
    none_counted c.args.f.now (record { parameters = c.in_ok-parameters.parameters; results = c.in_ok-results.results }) parameters results
