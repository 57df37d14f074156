use Rattle.strategy.proofs.Common.{◌≡◌, ◌<◌, List, length, None, Some, refl, sym, ap, subst, ◌∙◌, arith, All, slice_get, ◌^◌, get_or_from_slice_get, slice_get_within, HasInst, Block, Function, AreFactsOf, Match, AreMatchesInAnyOrder, IsAt, arena_of, counted_insts, known_by, AsksToPlace}
use Rattle.strategy.proofs.frontier.admitted_at.Goals as goal
use Rattle.strategy.proofs.frontier.admitted_at.Goals.{After-as_slice-matches, In-Some}

are_there : (c : After-as_slice-matches) → AreMatchesInAnyOrder c.args.rules.now.across (known_by c.args.known.now) c.args.rules.now.all.now (arena_of c.args.draft.now) (IsAt c.args.place.block c.args.place.number) c.as_slice-matches.result.now
are_there c =
    subst (λ (f : Function). AreMatchesInAnyOrder c.args.rules.now.across (known_by c.args.known.now) c.args.rules.now.all.now f (IsAt c.args.place.block c.args.place.number) c.as_slice-matches.result.now) c.arena.ensures
    (subst (AreMatchesInAnyOrder c.args.rules.now.across (known_by c.args.known.now) c.args.rules.now.all.now c.arena.result.now (IsAt c.args.place.block c.args.place.number)) (sym c.as_slice-matches.ensures) c.in_ok-found.ensures)

pub matches_in_any_order-requires-clause-insts : goal.matches_in_any_order-requires-clause-insts
matches_in_any_order-requires-clause-insts c =
    subst (λ (f : Function). All (λ (b : Block). length b.insts < 2 ^ 32) f.blocks) (sym c.arena.ensures) (counted_insts c.args.draft.now c.requires.settled.whole)

pub matches_in_any_order-requires-clause-place : goal.matches_in_any_order-requires-clause-place
matches_in_any_order-requires-clause-place c = subst (λ (f : Function). HasInst f c.args.place.block c.args.place.number) (sym c.arena.ensures) c.requires.place

pub matches_in_any_order-requires-clause-facts : goal.matches_in_any_order-requires-clause-facts
matches_in_any_order-requires-clause-facts c = subst (λ (f : Function). AreFactsOf f c.facts.result.now) (sym c.arena.ensures) c.facts.ensures

pub first_admitted-requires-clause-matches : goal.first_admitted-requires-clause-matches
first_admitted-requires-clause-matches c =
    let are = are_there (goal.at.first_admitted-requires-clause-matches c).After-as_slice-matches in
    (c.args.rules.now.across, known_by c.args.known.now, arena_of c.args.draft.now, λ k d lt. (are.each k d lt).0)

asks_to : (c : In-Some) → AsksToPlace c.args.rules.now.all.now c.args.conflicts c.as_slice-matches.result.now c.args.verdicts.now c.first_admitted.new.verdicts (Some c.in-Some.first)
asks_to c = subst (AsksToPlace c.args.rules.now.all.now c.args.conflicts c.as_slice-matches.result.now c.args.verdicts.now c.first_admitted.new.verdicts) c.in-Some.is c.in_ok-admitted.ensures

pub swap_remove-requires : goal.swap_remove-requires
swap_remove-requires c =
    let first = asks_to (goal.at.swap_remove-requires c).In-Some in
    let within : c.in-Some.first < length c.as_slice-matches.result.now = slice_get_within c.as_slice-matches.result.now c.in-Some.first first.0 first.1 in
    let same : length c.as_slice-matches.result.now ≡ length c.into_vec.result.items = ap length (c.as_slice-matches.ensures ∙ sym c.into_vec.ensures) in
    omega (arith, within, same, c.into_vec.result.ok.0)

pub returns-in-Some : goal.returns-in-Some
returns-in-Some c =
    let matches = c.as_slice-matches.result.now in
    let items = c.into_vec.result.items in
    let first = asks_to (goal.at.returns-in-Some c).In-Some in
    let at : slice_get items c.in-Some.first ≡ Some first.0 = subst (λ (l : List Match). slice_get l c.in-Some.first ≡ Some first.0) (c.as_slice-matches.ensures ∙ sym c.into_vec.ensures) first.1 in
    let same : first.0 ≡ c.swap_remove.result = sym (c.swap_remove.ensures.value ∙ get_or_from_slice_get items c.in-Some.first first.0 c.swap_remove.result at) in
    (matches, Some c.in-Some.first, are_there (goal.at.returns-in-Some c).After-as_slice-matches, first, ap Some (sym same) ∙ sym first.1)

pub returns : goal.returns
returns c =
    let matches = c.as_slice-matches.result.now in
    let asks = subst (AsksToPlace c.args.rules.now.all.now c.args.conflicts matches c.args.verdicts.now c.first_admitted.new.verdicts) c.in_default.is c.in_ok-admitted.ensures in
    (matches, None, are_there (goal.at.returns c).After-as_slice-matches, asks, refl)
