use Rattle.fold_branch.proofs.Common.{◌≡◌, length, All, sym, subst, arith, Block, AllAreBelow}
use Rattle.fold_branch.proofs.Sources.{entries_below}
use Rattle.fold_branch.proofs.folding.fold.Goals as goal

pub fold_blocks-requires-clause-entries : goal.fold_blocks-requires-clause-entries
fold_blocks-requires-clause-entries c =
    let f = c.args.f.now in
    let size : length c.deref_mut.result.now ≡ length f.blocks = omega (arith, c.deref_mut.ensures.len, c.in_ok-marks.ensures.len, c.len.ensures, c.in_ok-marks.marks.ok.0) in
    subst (All (λ (block : Block). AllAreBelow (length c.deref_mut.result.now) block.insts)) (sym c.replace-blocks.ensures.value)
    (subst (λ n. All (λ (block : Block). AllAreBelow n block.insts) f.blocks) (sym size) (entries_below f c.requires.formed))
