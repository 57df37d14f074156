use Rattle.draft.proofs.Common.{◌≡◌, ◌∙◌, ℕ, Bool, List, [], ap, get_or, length, sym, subst, arith, slice_get, on_ok_weaker, Block, Function, blocks_of, numbers_of, standing, IsOrdering, at_places}
use Rattle.draft.proofs.Rows.{standing_length}
use Rattle.draft.proofs.Standing.{numbers_few, numbers_ordered, placed_blocks_are, stand_ordering}
use Rattle.draft.proofs.Wholeness.{counted_insts}
use Rattle.draft.proofs.placing.place_insts.Goals as goal

pub standing_numbers-requires-clause-ordered : goal.standing_numbers-requires-clause-ordered
standing_numbers-requires-clause-ordered c = λ b within.
    let d = c.args.draft.now in
    let size = ap length c.deref.ensures.value in
    subst (λ (rows : List (List Bool)). IsOrdering (length (get_or rows b [])) (get_or c.deref.result.now b [])) (sym c.deref-2.ensures.value)
    (subst (λ (rows : List (List ℕ)). IsOrdering (length (get_or d.stand.items b [])) (get_or rows b [])) (sym c.deref.ensures.value) (stand_ordering d c.requires.whole b (omega arith)))

pub places_of-requires-clause-blocks : goal.places_of-requires-clause-blocks
places_of-requires-clause-blocks c =
    let d = c.args.draft.now in
    let rows : c.deref-3.result.now ≡ numbers_of d = c.deref-3.ensures.value ∙ c.in_ok-numbers.ensures ∙ ap (λ (s : List (List Bool)). standing s c.deref.result.now) c.deref-2.ensures.value ∙ ap (standing d.stand.items) c.deref.ensures.value in
    ap length rows ∙ standing_length d.stand.items d.orders.items ∙ c.requires.whole.ordered

pub places_of-requires-clause-insts : goal.places_of-requires-clause-insts
places_of-requires-clause-insts c = counted_insts c.args.draft.now c.requires.whole

pub places_of-requires-clause-ordered : goal.places_of-requires-clause-ordered
places_of-requires-clause-ordered c = λ b block at.
    let d = c.args.draft.now in
    let rows : c.deref-3.result.now ≡ numbers_of d = c.deref-3.ensures.value ∙ c.in_ok-numbers.ensures ∙ ap (λ (s : List (List Bool)). standing s c.deref.result.now) c.deref-2.ensures.value ∙ ap (standing d.stand.items) c.deref.ensures.value in
    subst (λ (r : List (List ℕ)). IsOrdering (length block.insts) (get_or r b [])) (sym rows) (numbers_ordered d c.requires.whole b block at)

pub places_of-requires-clause-few : goal.places_of-requires-clause-few
places_of-requires-clause-few c = λ b.
    let d = c.args.draft.now in
    let rows : c.deref-3.result.now ≡ numbers_of d = c.deref-3.ensures.value ∙ c.in_ok-numbers.ensures ∙ ap (λ (s : List (List Bool)). standing s c.deref.result.now) c.deref-2.ensures.value ∙ ap (standing d.stand.items) c.deref.ensures.value in
    let few = numbers_few d c.requires.whole b in
    let size = ap (λ (r : List (List ℕ)). length (get_or r b [])) rows in
    omega arith

pub place_blocks-requires-clause-blocks : goal.place_blocks-requires-clause-blocks
place_blocks-requires-clause-blocks c =
    let d = c.args.draft.now in
    let rows : c.deref-4.result.now ≡ numbers_of d = c.deref-4.ensures.value ∙ c.in_ok-numbers.ensures ∙ ap (λ (s : List (List Bool)). standing s c.deref.result.now) c.deref-2.ensures.value ∙ ap (standing d.stand.items) c.deref.ensures.value in
    ap length rows ∙ standing_length d.stand.items d.orders.items ∙ c.requires.whole.ordered

pub place_blocks-requires-clause-ordered : goal.place_blocks-requires-clause-ordered
place_blocks-requires-clause-ordered c = λ b block at.
    let d = c.args.draft.now in
    let rows : c.deref-4.result.now ≡ numbers_of d = c.deref-4.ensures.value ∙ c.in_ok-numbers.ensures ∙ ap (λ (s : List (List Bool)). standing s c.deref.result.now) c.deref-2.ensures.value ∙ ap (standing d.stand.items) c.deref.ensures.value in
    subst (λ (r : List (List ℕ)). IsOrdering (length block.insts) (get_or r b [])) (sym rows) (numbers_ordered d c.requires.whole b block at)

pub returns : goal.returns
returns c =
    let d = c.args.draft.now in
    let rows3 : c.deref-3.result.now ≡ numbers_of d = c.deref-3.ensures.value ∙ c.in_ok-numbers.ensures ∙ ap (λ (s : List (List Bool)). standing s c.deref.result.now) c.deref-2.ensures.value ∙ ap (standing d.stand.items) c.deref.ensures.value in
    let rows4 : c.deref-4.result.now ≡ numbers_of d = c.deref-4.ensures.value ∙ c.in_ok-numbers.ensures ∙ ap (λ (s : List (List Bool)). standing s c.deref.result.now) c.deref-2.ensures.value ∙ ap (standing d.stand.items) c.deref.ensures.value in
    let places : List (List ℕ) = c.in_ok-places.places.rows.items in
    let by : List Block → Function = λ (l : List Block). record { name = d.arena.name; before = d.arena.before; width = d.arena.width; parameters = d.arena.parameters; after = d.arena.after; blocks = l } in
    on_ok_weaker c.place_blocks.result
    (λ is. ap by (is ∙ ap (λ (r : List (List ℕ)). blocks_of (at_places places) r d.arena.blocks) rows4
    ∙ placed_blocks_are d c.requires places (λ b k n at. c.in_ok-places.ensures b k n (ap (λ (r : List (List ℕ)). slice_get (get_or r b []) k) rows3 ∙ at))))
    c.place_blocks.ensures
