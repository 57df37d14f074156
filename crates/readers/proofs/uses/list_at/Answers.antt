use Rattle.readers.proofs.Common.{◌≡◌, [], List, ap, get_or, slice_set, subst, ◌∙◌, get_or_default, set-get_or, on_err_weaker, on_ok_weaker, IsListedAmong, Place}
use Rattle.readers.proofs.uses.list_at.Goals as goal

pub returns-clause-listed : goal.returns-clause-listed
returns-clause-listed c =
    let rows : List (List (List Place)) = c.args.rows.now.items in
    let row : c.index_mut.result.now ≡ get_or rows c.args.block [] = c.index_mut.ensures.value ∙ get_or_default rows c.args.block c.index_mut.result.now [] c.requires.block in
    on_ok_weaker c.list_in.result (λ found. (
      found.0,
      subst (λ (l : List (List Place)). IsListedAmong c.args.place (get_or l c.args.number []) found.0) row found.1,
      ap (slice_set rows c.args.block) (found.2 ∙ ap (λ (l : List (List Place)). slice_set l c.args.number found.0) row),
    )) c.list_in.ensures.listed

pub returns-clause-refused : goal.returns-clause-refused
returns-clause-refused c =
    let rows : List (List (List Place)) = c.args.rows.now.items in
    let row : c.index_mut.result.now ≡ get_or rows c.args.block [] = c.index_mut.ensures.value ∙ get_or_default rows c.args.block c.index_mut.result.now [] c.requires.block in
    on_err_weaker c.list_in.result (λ same. ap (slice_set rows c.args.block) (same ∙ row) ∙ set-get_or rows c.args.block []) c.list_in.ensures.refused
