use Rattle.draft_bits.proofs.Common.{◌≡◌, ◌<◌, length, Some, refl, sym, ap, subst, ◌∙◌, get_or_from_slice_get, slice_get, Facts, results_at}
use Rattle.draft_bits.proofs.Entries.{as_many, put_blocks, put_few, put_others, put_rows, put_there}
use Rattle.draft_bits.proofs.updating.write_result.Goals as goal

pub is_other-differs-requires : goal.is_other-differs-requires
is_other-differs-requires c = subst (λ (x : Facts). c.args.place.number < length x.results) (sym c.at.ensures) c.requires.room

pub put_at-requires-clause-number : goal.put_at-requires-clause-number
put_at-requires-clause-number c was there =
    subst (λ (x : Facts). c.args.place.number < length x.results) (get_or_from_slice_get c.args.bits.now.blocks.items c.args.place.block was c.args.bits.now.none there) c.requires.room

pub returns-clause-few : goal.returns-clause-few
returns-clause-few c =
    let (was, now, is, put) = c.put_at.ensures in
    put_few c.args.bits.now (record { blocks = c.put_at.new.blocks; none = c.args.bits.now.none; waiting = c.args.bits.now.waiting }) c.args.place.block was now is refl c.args.place.number c.in_ok-word.word put c.requires.room c.in_ok-word.ensures.few c.requires.few

pub returns-clause-as_many : goal.returns-clause-as_many
returns-clause-as_many c =
    let (was, now, is, put) = c.put_at.ensures in
    as_many c.args.bits.now (record { blocks = c.put_at.new.blocks; none = c.args.bits.now.none; waiting = c.args.bits.now.waiting }) c.args.place.block was now is refl

pub returns-clause-blocks : goal.returns-clause-blocks
returns-clause-blocks c =
    let (was, now, is, put) = c.put_at.ensures in
    put_blocks c.args.bits.now (record { blocks = c.put_at.new.blocks; none = c.args.bits.now.none; waiting = c.args.bits.now.waiting }) c.args.place.block was now is refl c.args.place.number c.in_ok-word.word put c.requires.room

pub returns-clause-rows : goal.returns-clause-rows
returns-clause-rows c =
    let (was, now, is, put) = c.put_at.ensures in
    put_rows c.args.bits.now (record { blocks = c.put_at.new.blocks; none = c.args.bits.now.none; waiting = c.args.bits.now.waiting }) c.args.place.block was now is refl c.args.place.number c.in_ok-word.word put c.requires.room

pub returns-clause-others : goal.returns-clause-others
returns-clause-others c =
    let (was, now, is, put) = c.put_at.ensures in
    put_others c.args.bits.now (record { blocks = c.put_at.new.blocks; none = c.args.bits.now.none; waiting = c.args.bits.now.waiting }) c.args.place.block was now is refl c.args.place.number c.in_ok-word.word put c.requires.room

pub returns-clause-right : goal.returns-clause-right
returns-clause-right c inst is_inst =
    let (was, now, is, put) = c.put_at.ensures in
    put_there c.args.bits.now (record { blocks = c.put_at.new.blocks; none = c.args.bits.now.none; waiting = c.args.bits.now.waiting }) c.args.place.block was now is refl c.args.place.number c.in_ok-word.word put c.requires.room
    ∙ ap Some (c.in_ok-word.ensures.table inst is_inst)

pub returns-clause-same : goal.returns-clause-same
returns-clause-same c same =
    let (was, now, is, put) = c.put_at.ensures in
    let said : slice_get (results_at c.args.bits.now c.args.place.block) c.args.place.number ≡ Some c.in_ok-word.word =
    ap (λ (x : Facts). slice_get x.results c.args.place.number) (sym c.at.ensures) ∙ c.is_other-differs.ensures same ∙ ap Some c.as_slice.ensures in
    put_there c.args.bits.now (record { blocks = c.put_at.new.blocks; none = c.args.bits.now.none; waiting = c.args.bits.now.waiting }) c.args.place.block was now is refl c.args.place.number c.in_ok-word.word put c.requires.room ∙ sym said
