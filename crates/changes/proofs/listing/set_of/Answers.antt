use Rattle.changes.proofs.Common.{◌≡◌, ◌↔◌, ◌∙◌, ℕ, List, get_or, take, subst, arith, Contains, take_all, Contains-get_or, Rows, Has}
use Rattle.changes.proofs.InOrder.{set_more}
use Rattle.changes.proofs.listing.set_of.Goals as goal

abbrev Shows : Rows → List (ℕ × ℕ) → ℕ → ℕ → Type 0
Shows rows l b k = Has rows b k ↔ Contains l (b, k)

pub insert-requires : goal.insert-requires
insert-requires c =
    let places = c.args.places.now in
    let i = c.loop-place.place-index in
    let size = c.loop-place.invariant.0 in
    let x : ℕ × ℕ = get_or places i (0, 0) in
    let below = c.requires x.0 x.1 (Contains-get_or places i (0, 0) c.loop-place-test.true) in
    omega (arith, below, size)

pub loop-place-preserved : goal.loop-place-preserved
loop-place-preserved c = (
  c.in_ok-insert.ensures.blocks ∙ c.loop-place.invariant.0,
  set_more c.args.places.now c.loop-place.place-index c.loop-place.marks c.insert.new.self c.loop-place-test.true c.loop-place.invariant.1 c.in_ok-insert.ensures.added,
)

pub returns-clause-has : goal.returns-clause-has
returns-clause-has c =
    let places = c.args.places.now in
    let test = c.loop-place-test.false in
    let all : take c.loop-place.place-index c.args.places.now ≡ c.args.places.now = take_all c.loop-place.place-index c.args.places.now (omega arith) in
    λ b k. subst (λ (l : List (ℕ × ℕ)). Shows c.loop-place.marks l b k) all (c.loop-place.invariant.1 b k)
