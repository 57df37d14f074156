use Rattle.needed.proofs.Common.{length, sym, subst, All, BlockIsNumbered}
use Rattle.needed.proofs.SearchLemmas.{blocks_numbered}
use Rattle.needed.proofs.cleaning.clean.Goals as goal

pub cleaned_blocks-requires-clause-operands : goal.cleaned_blocks-requires-clause-operands
cleaned_blocks-requires-clause-operands c =
    let kept = c.in_ok-kept.kept in
    subst (All (BlockIsNumbered kept.firsts.items (length kept.marks.items))) (sym c.replace-blocks.ensures.value)
    (blocks_numbered c.args.f.now c.requires.registers kept.firsts.items (length kept.marks.items) c.in_ok-kept.ensures.numbers)
