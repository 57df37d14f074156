use Rattle.ir_reader.proofs.Common.{◌≡◌, ◌∙◌, length, ap, subst, sym, ArePredecessors}
use Rattle.ir_reader.proofs.Sets.{all_predecessors, all_targets, whole}
use Rattle.ir_reader.proofs.predecessors.predecessors.Goals as goal

pub add_blocks-requires-clause-targets : goal.add_blocks-requires-clause-targets
add_blocks-requires-clause-targets c =
    let f = c.args.f.now in
    rw c.as_slice-blocks.ensures
    (all_targets f (length c.as_mut_slice.result.now) (ap length c.as_mut_slice.ensures.value ∙ c.in_ok-sets.ensures.count ∙ ap length c.as_slice-blocks.ensures) c.requires.targets)

pub returns : goal.returns
returns c =
    let f = c.args.f.now in
    let sets = c.in_ok-sets.sets in
    let adds = rw (c.as_slice-blocks.ensures, c.as_mut_slice.ensures.value) at c.in_ok-add_blocks.ensures in
    let long : sets.len ≡ length sets.items = sym c.as_mut_slice.ensures.len ∙ ap length c.as_mut_slice.ensures.value in
    subst (ArePredecessors f) (sym (whole sets.len c.add_blocks.new.sets sets.items long adds.count))
    (all_predecessors f sets.items c.add_blocks.new.sets (c.in_ok-sets.ensures.count ∙ ap length c.as_slice-blocks.ensures) c.in_ok-sets.ensures.empty adds)
