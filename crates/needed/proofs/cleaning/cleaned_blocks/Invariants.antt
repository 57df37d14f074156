use Rattle.needed.proofs.Common.{kept_blocks, marks_by}
use Rattle.needed.proofs.KeptLemmas.{Written}
use Rattle.needed.proofs.cleaning.cleaned_blocks.Given as goal

-- the blocks before the index are cleaned
abbrev pub invariant-loop-index : goal.invariant-loop-index
invariant-loop-index l = Written (kept_blocks (marks_by l.kept.firsts.items l.kept.marks.items)) l.fn.blocks l.index l.block-items
