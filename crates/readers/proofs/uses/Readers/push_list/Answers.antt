use Rattle.readers.proofs.Common.{◌≡◌, [], List, ap, get_or, slice_set, ◌∙◌, get_or_default, set-get_or, on_err_weaker, Place}
use Rattle.readers.proofs.uses.Readers.push_list.Goals as goal

pub returns-clause-refused : goal.returns-clause-refused
returns-clause-refused c =
    let rows : List (List (List Place)) = c.args.self.now.results.items in
    let row : c.index_mut.result.now ≡ get_or rows c.args.block [] = c.index_mut.ensures.value ∙ get_or_default rows c.args.block c.index_mut.result.now [] c.requires in
    on_err_weaker c.push.result (λ same. ap (slice_set rows c.args.block) (same ∙ row) ∙ set-get_or rows c.args.block []) c.push.ensures.err
