use Rattle.draft_bits.proofs.Common.{length, refl, on_ok_weaker, slice_get_read, Facts}
use Rattle.draft_bits.proofs.rows.lengthen_at.Goals as goal

pub returns : goal.returns
returns c =
    let was : Facts = c.index_mut.result.now in
    on_ok_weaker c.lengthen.result (λ longer. (
      was,
      c.lengthen.new.facts,
      record { there = slice_get_read c.args.blocks.now.items (length c.args.blocks.now.items) c.args.block was refl c.requires c.index_mut.ensures.value; is = refl },
      longer,
    )) c.lengthen.ensures
