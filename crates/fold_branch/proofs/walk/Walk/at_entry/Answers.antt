use Rattle.fold_branch.proofs.Common.{false, replicate, ap, ◌∙◌}
use Rattle.fold_branch.proofs.Walking.{walked_start}
use Rattle.fold_branch.proofs.walk.Walk.at_entry.Goals as goal

pub returns : goal.returns
returns c = walked_start c.args.f.now (record { reached = c.in_ok-vec.field-0; work = c.new.result }) c.come_to.new.self (c.in_ok-vec.ensures.items_if_clones_equal (λ y same. same) ∙ ap (λ n. replicate n false) c.len.ensures) c.new.ensures.items c.in_ok-come_to.ensures
