use Rattle.draft.proofs.Common.{List, get_or, length, sym, ap, ◌∙◌, arith, slice_get-get_or, Block, end_of-is}
use Rattle.draft.proofs.Wholeness.{few_insts}
use Rattle.draft.proofs.draft.Draft.count_in.Goals as goal

pub overflow_cast-result : goal.overflow_cast-result
overflow_cast-result c =
    let blocks = c.args.self.now.arena.blocks in
    let x = c.index-as_slice-block.result in
    let less = few_insts c.args.self.now c.requires.whole c.args.block (get_or blocks c.args.block x) (slice_get-get_or blocks c.args.block x c.requires.block) in
    let size = c.len.ensures ∙ ap (λ (l : List Block). length (get_or l c.args.block x).insts) c.as_slice.ensures in
    record { fits = omega arith }

pub returns : goal.returns
returns c =
    let blocks = c.args.self.now.arena.blocks in
    let x = c.index-as_slice-block.result in
    c.len.ensures ∙ ap (λ (l : List Block). length (get_or l c.args.block x).insts) c.as_slice.ensures ∙ sym (end_of-is c.args.self.now.arena c.args.block (get_or blocks c.args.block x) (slice_get-get_or blocks c.args.block x c.requires.block))
