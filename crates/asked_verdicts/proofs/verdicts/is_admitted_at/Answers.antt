use Rattle.asked_verdicts.proofs.Common.{◌≡◌, subst, ◌≢◌, MatchBool, get_or_from_slice_get, Row, Admitted}
use Rattle.asked_verdicts.proofs.verdicts.is_admitted_at.Goals as goal

pub returns : goal.returns
returns c =
    λ row at.
    let read = c.index-table-place.result in
    subst (λ (r : Row). MatchBool c.is_admitted.result (r.verdict ≡ Admitted) (r.verdict ≢ Admitted)) (get_or_from_slice_get c.args.table.now c.args.place row read at) c.is_admitted.ensures
