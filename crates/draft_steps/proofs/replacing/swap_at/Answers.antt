use Rattle.draft_steps.proofs.Common.{◌≡◌, ◌<◌, Some, get_or, inl, inr, length, slice_get, slice_get-get_or, substituted_end, substituted_inst, instead, block_ended, block_with}
use Rattle.draft_steps.proofs.replacing.swap_at.Goals as goal

pub returns-then-place-eq-END-clause-end : goal.returns-then-place-eq-END-clause-end
returns-then-place-eq-END-clause-end c = λ is. block_ended c.args.blocks.now c.args.place.block (substituted_end (instead c.args.swap.now.from c.args.swap.now.to)) c.get_mut-block.result.now c.substitute_end.new.end
    c.requires.block c.get_mut-block.ensures.value c.substitute_end.ensures

pub returns-else-place-eq-END-clause-inst : goal.returns-else-place-eq-END-clause-inst
returns-else-place-eq-END-clause-inst c = λ other.
    let blocks = c.args.blocks.now in
    let p = c.args.place in
    let now = c.get_mut-block.result.now in
    let at : slice_get blocks p.block ≡ Some (get_or blocks p.block now) = slice_get-get_or blocks p.block now c.requires.block in
    let less : p.number < length (get_or blocks p.block now).insts = elim (c.requires.inst (get_or blocks p.block now) at) [ inl inside ↦ inside | inr end ↦ absurd (other end) ] in
    block_with blocks p.block p.number (substituted_inst (instead c.args.swap.now.from c.args.swap.now.to)) now c.get_mut.result.now c.substitute_inst.new.inst (get_or blocks p.block now, at, less)
    c.get_mut-block.ensures.value c.get_mut.ensures.value c.substitute_inst.ensures
