use Rattle.readers.proofs.Common.{◌≡◌, [], List, ap, get_or, slice_set, ◌∙◌, get_or_default, Place}
use Rattle.readers.proofs.uses.exchange_at.Goals as goal

pub returns-clause-was : goal.returns-clause-was
returns-clause-was c =
    let rows : List (List (List Place)) = c.args.rows.now.items in
    let row : c.index_mut.result.now ≡ get_or rows c.args.block [] = c.index_mut.ensures.value ∙ get_or_default rows c.args.block c.index_mut.result.now [] c.requires.block in
    c.exchange_in.ensures.was ∙ ap (λ (l : List (List Place)). get_or l c.args.number []) row

pub returns-clause-is : goal.returns-clause-is
returns-clause-is c =
    let rows : List (List (List Place)) = c.args.rows.now.items in
    let row : c.index_mut.result.now ≡ get_or rows c.args.block [] = c.index_mut.ensures.value ∙ get_or_default rows c.args.block c.index_mut.result.now [] c.requires.block in
    ap (slice_set rows c.args.block) (c.exchange_in.ensures.is ∙ ap (λ (l : List (List Place)). slice_set l c.args.number c.args.places) row)
