use Rattle.draft_bits.proofs.Common.{◌<◌, Some, List, length, sym, ap, subst, ◌∙◌, refl, slice_get, slice_get_read, KnownBit}
use Rattle.draft_bits.proofs.rows.is_other.Goals as goal

pub returns : goal.returns
returns c same =
    let rows = c.as_slice.result.now in
    let word = c.index-as_slice-number.result in
    let rows_are = c.as_slice.ensures in
    let within = subst (λ (l : List (List KnownBit)). c.args.number < length l) (sym rows_are) c.requires in
    ap (λ (l : List (List KnownBit)). slice_get l c.args.number) (sym rows_are) ∙ slice_get_read rows (length rows) c.args.number word refl within c.index-as_slice-number.is
    ∙ ap Some (sym c.as_slice-2.ensures ∙ c.differ.ensures same)
