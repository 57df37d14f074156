-- The uses of the register are replaced place by place.
use Rattle.draft_steps.proofs.Common.{◌≡◌, ◌+◌, ◌<◌, ◌≤◌, ◌∙◌, ◌∷◌, ℕ, suc, List, Bool, Contains, ap, drop, length, sym, subst, arith, drop-cons, drop_all, slice_get-get_or, IsKnown, Function, numbers_of, standing, nowhere, place_at, IsPlaceIn, IsReader, listed_for, Place, IsReplacing, replacing_begins, replacing_ends, replacing_goes}
use Rattle.ir_core.specs.declared.operand.Operand.TheVariants as operands
use Rattle.needed.proofs.Counting.{contains_at}
use Rattle.draft_steps.proofs.replacing.replace.Goals as goal

here : (places : List Place) (k : ℕ) → k < length places → Contains places (place_at places k)
here places k within = contains_at places (place_at places k) k (slice_get-get_or places k nowhere within)

split : (places : List Place) (k : ℕ) → k < length places → drop k places ≡ place_at places k ∷ drop (k + 1) places
split places k within = drop-cons places k nowhere within ∙ ap (λ (j : ℕ). place_at places k ∷ drop j places) (let next : suc k ≡ k + 1 = omega arith in next)

pub readers_of-requires-clause-known : goal.readers_of-requires-clause-known
readers_of-requires-clause-known c = subst (λ (f : Function). IsKnown f (operands.Register c.args.swap.now.from)) (sym c.trim_readers.ensures.arena) c.requires.from

pub loop-place-init : goal.loop-place-init
loop-place-init c =
    let old = c.args.draft.now in
    let now = c.trim_readers.new.self in
    let same : numbers_of now ≡ numbers_of old = ap (λ (s : List (List Bool)). standing s now.orders.items) c.trim_readers.ensures.stand ∙ ap (standing old.stand.items) c.trim_readers.ensures.orders in
    replacing_begins old now c.args.swap.now.from c.args.swap.now.to c.deref-place-items.result.now c.trim_readers.ensures.whole c.trim_readers.ensures.arena same c.trim_readers.ensures.orders c.trim_readers.ensures.dead_candidates c.requires.to
    (λ p inside reads. subst (λ (l : List Place). Contains l p) (sym (c.deref-place-items.ensures.value ∙ c.in_ok-places.ensures.items)) (c.readers_of.ensures.readers p inside reads))

pub replace_at-requires-clause-place : goal.replace_at-requires-clause-place
replace_at-requires-clause-place c =
    let l = c.loop-place in
    let places : List Place = c.deref-place-items.result.now in
    let p : Place = place_at places l.place-index in
    let within : l.place-index < length places = omega arith in
    let listed : Contains (listed_for c.trim_readers.new.self.readers c.args.swap.now.from) p = subst (λ (x : List Place). Contains x p) (c.deref-place-items.ensures.value ∙ c.in_ok-places.ensures.items ∙ c.readers_of.ensures.listed) (here places l.place-index within) in
    l.invariant.places p (subst (λ (f : Function). IsPlaceIn f p) c.trim_readers.ensures.arena ((c.trim_readers.ensures.exact p).0 listed).0)

pub loop-place-preserved : goal.loop-place-preserved
loop-place-preserved c =
    let l = c.loop-place in
    let old = c.args.draft.now in
    let places : List Place = c.deref-place-items.result.now in
    let p : Place = place_at places l.place-index in
    let within : l.place-index < length places = omega arith in
    let listed : Contains (listed_for c.trim_readers.new.self.readers c.args.swap.now.from) p = subst (λ (x : List Place). Contains x p) (c.deref-place-items.ensures.value ∙ c.in_ok-places.ensures.items ∙ c.readers_of.ensures.listed) (here places l.place-index within) in
    let inside = l.invariant.places p (subst (λ (f : Function). IsPlaceIn f p) c.trim_readers.ensures.arena ((c.trim_readers.ensures.exact p).0 listed).0) in
    let so_far = subst (IsReplacing old l.draft c.args.swap.now.from c.args.swap.now.to) (split places l.place-index within) l.invariant in
    let done = c.in_ok-replace_at.ensures in
    replacing_goes old l.draft c.replace_at.new.draft c.args.swap.now.from c.args.swap.now.to p (drop (l.place-index + 1) places) so_far inside done.whole done.arena done.numbers done.orders done.dead_candidates

pub returns-clause-arena : goal.returns-clause-arena
returns-clause-arena c =
    let l = c.loop-place in
    let places : List Place = c.deref-place-items.result.now in
    let past : length places ≤ l.place-index = omega arith in
    replacing_ends c.args.draft.now l.draft c.args.swap.now.from c.args.swap.now.to (subst (IsReplacing c.args.draft.now l.draft c.args.swap.now.from c.args.swap.now.to) (drop_all l.place-index places past) l.invariant)

pub returns-clause-places : goal.returns-clause-places
returns-clause-places c = λ p.
    let from = c.args.swap.now.from in
    let listed : c.in_ok-places.places.items ≡ listed_for c.trim_readers.new.self.readers c.args.swap.now.from = c.in_ok-places.ensures.items ∙ c.readers_of.ensures.listed in (
      λ h.
          let (inside, reads) = (c.trim_readers.ensures.exact p).0 (subst (λ (l : List Place). Contains l p) listed h) in
          (subst (λ (f : Function). IsPlaceIn f p) c.trim_readers.ensures.arena inside, subst (λ (f : Function). IsReader f from p) c.trim_readers.ensures.arena reads),
      λ (inside, reads). subst (λ (l : List Place). Contains l p) (sym listed)
          ((c.trim_readers.ensures.exact p).1 (subst (λ (f : Function). IsPlaceIn f p) (sym c.trim_readers.ensures.arena) inside, subst (λ (f : Function). IsReader f from p) (sym c.trim_readers.ensures.arena) reads)),
    )
