use Rattle.readers.proofs.Common.{[], List, ap, refl, slice_set, subst, ◌∙◌, get_or_default, set-get_or, on_err_weaker, on_ok_weaker, IsListedAmong, Place}
use Rattle.readers.proofs.uses.list_in.Goals as goal

pub returns-clause-listed : goal.returns-clause-listed
returns-clause-listed c = on_ok_weaker c.list_last.result (λ among. (
  c.list_last.new.places,
  subst (λ (l : List Place). IsListedAmong c.args.place l c.list_last.new.places) (c.get_mut.ensures.value ∙ get_or_default c.args.rows.now c.args.index c.get_mut.result.now [] c.requires) among,
  refl,
)) c.list_last.ensures.listed

pub returns-clause-refused : goal.returns-clause-refused
returns-clause-refused c = on_err_weaker c.list_last.result (λ same.
    ap (slice_set c.args.rows.now c.args.index) (same ∙ c.get_mut.ensures.value ∙ get_or_default c.args.rows.now c.args.index c.get_mut.result.now [] c.requires) ∙ set-get_or c.args.rows.now c.args.index []) c.list_last.ensures.refused
