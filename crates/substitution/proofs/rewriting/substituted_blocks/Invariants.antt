use Rattle.substitution.proofs.Common.{stands_for, substituted_block}
use Rattle.substitution.proofs.Mapping.{Mapped}
use Rattle.substitution.proofs.rewriting.substituted_blocks.Given as goal

-- the blocks before the index are substituted
abbrev pub invariant-loop-block : goal.invariant-loop-block
invariant-loop-block l = Mapped (substituted_block (stands_for l.fn.rewrite)) l.fn.blocks l.block-index l.block-items
