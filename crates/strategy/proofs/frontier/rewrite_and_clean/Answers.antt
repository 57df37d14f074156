use Rattle.strategy.proofs.Common.{◌≡◌, ℕ, List, length, ◌+◌, ◌*◌, ◌≤◌, sym, subst, ◌∙◌, All, Contains, MeetsChecks, Block, Function, NumbersFit, IsCleaned, Place, arena_of, function_of, orders_of, members_of, IsPlaceIn, same_numbers, still_clean, still_settled, placed_match, PlaceOf, AreBitsOf, inl, inr}
use Rattle.places.specs.Orders.{none}
use Rattle.strategy.proofs.Reaching.{reached_as_before}
use Rattle.strategy.proofs.KeptBits.{bits_before, bits_stay, knows_still}
use Rattle.strategy.proofs.Requeueing.{same_function, still_down}
use Rattle.strategy.proofs.frontier.rewrite_and_clean.Goals as goal

pub rewrite_draft-requires-clause-matches : goal.rewrite_draft-requires-clause-matches
rewrite_draft-requires-clause-matches c = (c.args.rules.now.across, c.requires.matches)

pub update-requires-clause-bits : goal.update-requires-clause-bits
update-requires-clause-bits c =
    let old = c.args.frontier.draft in
    let new = c.in_ok-rewritten.rewritten in
    let stepped = c.in_ok-rewritten.ensures.stepped in
    let is = c.requires.matches in
    let settled = c.in_ok-rewritten.ensures.settled in
    let blocks : length (arena_of new).blocks ≡ length (arena_of old).blocks = sym settled.whole.ordered ∙ c.in_ok-rewritten.ensures.orders.blocks ∙ c.requires.settled.whole.ordered in
    let reached = reached_as_before old new stepped.0 is.rule (placed_match old c.args.chosen.now).binding c.requires.settled settled (stepped.2 is.rule is.is_rule) stepped.1 in
    elim c.requires.bits [
      | inl are ↦ inl (bits_before old new c.args.frontier.bits c.in_ok-rewritten.touched.items are c.requires.settled c.in_ok-rewritten.ensures.touched blocks reached)
      | inr none ↦ inr none.1
    ]

pub insert_reaching-requires-clause-worklist : goal.insert_reaching-requires-clause-worklist
insert_reaching-requires-clause-worklist c =
    c.orders_are_kept.ensures.queues (orders_of c.args.frontier.draft) (orders_of c.in_ok-rewritten.rewritten) c.args.frontier.worklist c.in_ok-rewritten.ensures.orders c.requires.worklist

pub insert_reaching-requires-clause-places : goal.insert_reaching-requires-clause-places
insert_reaching-requires-clause-places c = subst (All (IsPlaceIn (arena_of c.in_ok-rewritten.rewritten))) (sym c.as_slice-places.ensures.value) c.in_ok-bits.ensures.places

pub returns-clause-stepped : goal.returns-clause-stepped
returns-clause-stepped c =
    let stepped = c.in_ok-rewritten.ensures.stepped in
    let same : function_of c.in_ok-waiting.last ≡ function_of c.in_ok-rewritten.rewritten =
    same_function c.in_ok-rewritten.rewritten c.in_ok-waiting.last c.in_ok-waiting.ensures.draft.arena (same_numbers c.in_ok-rewritten.rewritten c.in_ok-waiting.last c.in_ok-waiting.ensures.draft) in
    (stepped.0, subst (IsCleaned stepped.0) (sym same) stepped.1, stepped.2)

pub returns-clause-frontier : goal.returns-clause-frontier
returns-clause-frontier c table others =
    let across = c.args.rules.now.across in
    let rules = c.args.rules.now.all.now in
    let old = c.args.frontier.draft in
    let new = c.in_ok-rewritten.rewritten in
    let last = c.in_ok-waiting.last in
    let touched : List Place = c.in_ok-rewritten.touched.items in
    let changed : List Place = c.in_ok-bits.changed.items in
    let was = c.args.frontier.bits in
    let now = c.in_ok-bits.bits in
    let stepped = c.in_ok-rewritten.ensures.stepped in
    let settled = c.in_ok-rewritten.ensures.settled in
    let is = c.requires.matches in
    let chosen = c.args.chosen.now in
    let blocks : length (arena_of new).blocks ≡ length (arena_of old).blocks = sym settled.whole.ordered ∙ c.in_ok-rewritten.ensures.orders.blocks ∙ c.requires.settled.whole.ordered in
    let reached = reached_as_before old new stepped.0 is.rule (placed_match old chosen).binding c.requires.settled settled (stepped.2 is.rule is.is_rule) stepped.1 in
    let bits : AreBitsOf old was → AreBitsOf new now = λ are. c.in_ok-bits.ensures.bits (bits_before old new was touched are c.requires.settled c.in_ok-rewritten.ensures.touched blocks reached) in
    record {
      draft = still_settled new last c.in_ok-waiting.ensures.draft settled;
      clean = still_clean new last c.in_ok-waiting.ensures.draft c.in_ok-rewritten.ensures.clean;
      worklist = c.in_ok-waiting.ensures.worklist;
      depth = c.requires.depth;
      bits = elim c.requires.bits [
        | inl are ↦ inl (bits_stay new last now c.in_ok-waiting.ensures.draft (bits are))
        | inr none ↦ inr (none.0, c.in_ok-bits.ensures.none none.1)
      ];
      few = c.in_ok-bits.ensures.few;
      turned_down = still_down across c.matches_of_the_untouched.ensures rules c.requires.ready old new last was now changed c.args.frontier.depth c.requires.depth settled
          (λ b n stands free. c.in_ok-rewritten.ensures.touched b n stands (λ has. free (c.in_ok-bits.ensures.touched (record { block = b; number = n }) has)))
          reached
          (λ asks. elim c.requires.bits [
            | inl are ↦ knows_still was now old new touched changed are (bits are) c.requires.settled settled c.in_ok-rewritten.ensures.touched blocks reached c.in_ok-bits.ensures.touched c.in_ok-bits.ensures.same
            | inr none ↦ absurd (none.0 asks)
          ])
          c.in_ok-waiting.ensures.draft.arena (same_numbers c.in_ok-rewritten.rewritten c.in_ok-waiting.last c.in_ok-waiting.ensures.draft) (members_of c.args.frontier.worklist) (members_of c.in_ok-waiting.waiting) c.in_ok-waiting.ensures.stay
          (λ b n e m has. c.in_ok-waiting.ensures.reaching (record { block = e; number = m }) b n (subst (λ (l : List Place). Contains l (record { block = e; number = m })) (sym c.as_slice-places.ensures.value) has))
          (PlaceOf chosen)
          (λ b n of. c.in_ok-bits.ensures.touched (record { block = b; number = n })
          (subst (λ (x : ℕ). Contains touched (record { block = b; number = x })) of.1 (subst (λ (x : ℕ). Contains touched (record { block = x; number = chosen.binding.place })) of.0 c.in_ok-rewritten.ensures.root)))
          table others;
    }

pub returns-clause-checks : goal.returns-clause-checks
returns-clause-checks c =
    subst MeetsChecks (sym (same_function c.in_ok-rewritten.rewritten c.in_ok-waiting.last c.in_ok-waiting.ensures.draft.arena (same_numbers c.in_ok-rewritten.rewritten c.in_ok-waiting.last c.in_ok-waiting.ensures.draft))) c.in_ok-rewritten.ensures.checks

pub returns-clause-numbers : goal.returns-clause-numbers
returns-clause-numbers c =
    subst NumbersFit (sym (same_function c.in_ok-rewritten.rewritten c.in_ok-waiting.last c.in_ok-waiting.ensures.draft.arena (same_numbers c.in_ok-rewritten.rewritten c.in_ok-waiting.last c.in_ok-waiting.ensures.draft))) c.in_ok-rewritten.ensures.numbers

pub returns-clause-room : goal.returns-clause-room
returns-clause-room c steps room =
    subst (λ (a : Function). All (λ (b : Block). length b.insts + 32 * steps ≤ none) a.blocks) (sym c.in_ok-waiting.ensures.draft.arena) (c.in_ok-rewritten.ensures.room steps room)
