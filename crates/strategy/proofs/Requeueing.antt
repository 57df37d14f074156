-- After a step all matches are turned down at every place that is not on the worklist.
use Rattle.strategy.proofs.Common.{◌≡◌, ◌↔◌, ◌+◌, ◌*◌, ◌-◌, ◌<◌, ◌≤◌, ℕ, Bool, List, length, get_or, sym, ap, subst, ◌∙◌, arith, All, Contains, All-contains, Contains-get_or, IsReached, Block, Function, Rule, Row, AreMatchesInAnyOrder, IsAt, AreReady, Draft, Place, AreTouched, HasRoomFor, Reaches, Stands, numbers_of, arena_of, function_of, Has, Rows, IsSettled, arranged, row_of, AreSourcesWithin, MatchesOfTheUntouched, IsTurnedDown, IsCountable, AreTurnedDownAt, AreTurnedDownBut, Nowhere, AskBits, known_by, DraftBits, facts_at, KnowsTheUntouched}
use Rattle.places.specs.Orders.{none}
use Rattle.draft_steps.proofs.Reaching.{itself}

module _ (across : Bool) (of_the_untouched : MatchesOfTheUntouched) (rules : List Rule) (ready : AreReady rules) (old new last : Draft) (was now : DraftBits) (touched : List Place) (depth : ℕ)
    (few : AreSourcesWithin depth rules) (settled : IsSettled new) (are_touched : AreTouched old new touched)
    (reached : (b : ℕ) → IsReached (arena_of old) b ↔ IsReached (arena_of new) b)
    (knows : AskBits rules → (b n : ℕ) → IsReached (arena_of new) b → Stands new b n → KnowsTheUntouched (known_by (facts_at was b)) (known_by (facts_at now b)) new touched b n)
    (arena : (arena_of last) ≡ (arena_of new)) (numbers : numbers_of last ≡ numbers_of new)
    (waiting left : Rows) (stay : (b n : ℕ) → Has waiting b n → Has left b n)
    (reaching : (b n c m : ℕ) → Contains touched (record { block = c; number = m }) → Stands new b n → Reaches across new depth b n c m → Has left b n)
    (Out : ℕ → ℕ → Type 0) (out : (b n : ℕ) → Out b n → Contains touched (record { block = b; number = n })) where
  pub still_down : (table : List Row) → AreTurnedDownBut across rules table Out old was waiting → AreTurnedDownBut across rules table Nowhere last now left
  still_down table others b n stands_last away nowhere =
      let stands : Stands new b n = subst (λ (rows : List (List ℕ)). Contains (row_of rows b) n) numbers stands_last in
      let free : (c m : ℕ) → Reaches across new depth b n c m → ¬ Contains touched (record { block = c; number = m }) = λ c m reaches has. away (reaching b n c m has stands reaches) in
      let itself_free : ¬ Contains touched (record { block = b; number = n }) = free b n (itself across new depth b n) in
      let untouched = are_touched b n stands itself_free in
      let down : AreTurnedDownAt across rules table (known_by (facts_at was b)) (arena_of old) b n = others b n untouched.stood (λ has. away (stay b n has)) (λ is. itself_free (out b n is)) in
      let (kept, are, were) = of_the_untouched across (known_by (facts_at was b)) (known_by (facts_at now b)) rules old new touched depth b n down.matches ready few settled are_touched (reached b) stands free (λ asks is_reached. knows asks b n is_reached stands) down.are in
      record {
        matches = kept;
        are = subst (λ (a : Function). AreMatchesInAnyOrder across (known_by (facts_at now b)) rules a (IsAt b n) kept) (sym arena) are;
        turned_down = λ i d lt. All-contains (IsTurnedDown table) down.matches (get_or kept i d) down.turned_down (were (get_or kept i d) (Contains-get_or kept i d lt));
      }

-- a draft's function depends on its arena and on which numbers stand
pub same_function : (new last : Draft) → arena_of last ≡ arena_of new → numbers_of last ≡ numbers_of new → function_of last ≡ function_of new
same_function new last arena numbers = ap (λ (a : Function). arranged a (numbers_of last)) arena ∙ ap (arranged (arena_of new)) numbers

-- ---- numbers for instructions that are still free

pub room_for_fewer : (more steps : ℕ) (d : Draft) → steps ≤ more → HasRoomFor more d → HasRoomFor steps d
room_for_fewer more steps d fewer room k x lt = (let few = room k x lt in omega (arith, few, fewer))

pub room_at_first : (steps : ℕ) (f : Function) → 0 < steps → IsCountable steps f → All (λ (b : Block). length b.insts + 32 * steps ≤ none) f.blocks
room_at_first steps f some countable k x lt = (let few = countable.insts k x lt in omega (arith, few, some))

pub few_numbers : (steps : ℕ) (f : Function) → 0 < steps → IsCountable steps f → All (λ (b : Block). length b.insts ≤ none) f.blocks
few_numbers steps f some countable k x lt = (let few = countable.insts k x lt in omega (arith, few, some))

pub room_left : (steps : ℕ) (f : Function) → IsCountable steps f → All (λ (b : Block). length b.insts + 32 * steps ≤ none) f.blocks
room_left steps f countable k x lt = (let few = countable.insts k x lt in omega (arith, few))
