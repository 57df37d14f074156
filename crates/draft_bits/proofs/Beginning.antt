-- The worklist of what an edit touched, and rows of entries that grow.
use Rattle.draft_bits.proofs.Common.{◌≡◌, ◌⊎◌, ℕ, ◌+◌, ◌<◌, ◌≤◌, List, [], ◌∷◌, length, Option, refl, sym, subst, ◌∙◌, arith, inl, inr, Contains, cases_eq, get_or_default, place-among, Draft, DraftBits, Place, Has, StandsReached, AreGrown, HasEntries, IsIdle}
use Rattle.places.specs.Heaps.{IsHeap, nowhere, place_at}
use Rattle.places.specs.Worklist.{AreMarked, IsWorklist, WorklistView, tally}
use Rattle.places.proofs.Members.{contains_first}
use Rattle.places.proofs.Tallies.{contains-marked}

empty_heap : (orders : List (List ℕ)) (heap : List Place) → heap ≡ [] → IsHeap orders heap
empty_heap orders heap is = subst (IsHeap orders) (sym is) (record { numbered = λ k e within. absurd (omega arith); ordered = λ k over below within before. omega arith })

pub empty_worklist : (orders : List (List ℕ)) (w : WorklistView) → IsIdle (length orders) w → IsWorklist orders w
empty_worklist orders w idle = record {
  blocks = idle.as_many;
  heap = empty_heap orders w.heap idle.none;
  once = record {
    once = λ b n has. absurd (idle.unmarked b n has);
    only = λ b n free. subst (λ (l : List Place). tally l b n ≡ 0) (sym idle.none) refl;
  };
}

-- a worklist on which nothing is left is idle
no_heap : (w : WorklistView) → AreMarked w.marks w.heap → ((b n : ℕ) → ¬ Has w.marks b n) → (heap : List Place) → w.heap ≡ heap → w.heap ≡ []
no_heap w marked unmarked [] is = is
no_heap w marked unmarked (p ∷ rest) is = absurd (unmarked p.block p.number (contains-marked w.marks w.heap p marked (subst (λ (l : List Place). Contains l p) (sym is) (contains_first p rest))))

pub idle_again : (orders : List (List ℕ)) (w : WorklistView) → IsWorklist orders w → ((b n : ℕ) → ¬ Has w.marks b n) → IsIdle (length orders) w
idle_again orders w is unmarked = record { as_many = is.blocks; unmarked = unmarked; none = no_heap w is.once unmarked w.heap refl }

-- nothing has grown, whatever worklist is kept; and what grows twice has grown
pub grown_itself : (bits : DraftBits) (kept : Option WorklistView) → AreGrown bits (record { blocks = bits.blocks; none = bits.none; waiting = kept })
grown_itself bits kept = record { as_many = refl; blocks = λ b. refl; few = λ few. few; longer = λ b. omega arith; kept = λ b n less. refl }

pub grown_twice : (a b c : DraftBits) → AreGrown a b → AreGrown b c → AreGrown a c
grown_twice a b c one two = record {
  as_many = two.as_many ∙ one.as_many;
  blocks = λ k. two.blocks k ∙ one.blocks k;
  few = λ few. two.few (one.few few);
  longer = λ k. omega (arith, one.longer k, two.longer k);
  kept = λ k n less. two.kept k n (omega (arith, less, one.longer k)) ∙ one.kept k n less;
}

entries_stay : (d : Draft) (old new : DraftBits) (b : ℕ) → AreGrown old new → HasEntries d old b → HasEntries d new b
entries_stay d old new b grown room = omega (arith, room, grown.longer b)

-- the first of the touched places wait, and their rows have grown
pub record HasBegun (d : Draft) (touched : List Place) (count : ℕ) (first now : DraftBits) (waiting : WorklistView) : Type 0 where
  pub grown : AreGrown first now
  pub room : (k : ℕ) → k < count → HasEntries d now (place_at touched k).block
  pub worklist : IsWorklist d.orders.items waiting
  pub added : (k : ℕ) → k < count → StandsReached d (place_at touched k).block (place_at touched k).number → Has waiting.marks (place_at touched k).block (place_at touched k).number
  pub only : (b n : ℕ) → Has waiting.marks b n → StandsReached d b n × Contains touched (record { block = b; number = n })

pub one_begun : (d : Draft) (touched : List Place) (count : ℕ) (first was now : DraftBits) (waited waiting : WorklistView) → count < length touched → HasBegun d touched count first was waited
    → AreGrown was now → HasEntries d now (place_at touched count).block → IsWorklist d.orders.items waiting → ((b n : ℕ) → Has waited.marks b n → Has waiting.marks b n)
    → (StandsReached d (place_at touched count).block (place_at touched count).number → Has waiting.marks (place_at touched count).block (place_at touched count).number)
    → ((b n : ℕ) → Has waiting.marks b n → Has waited.marks b n ⊎ (StandsReached d b n × (place_at touched count ≡ record { block = b; number = n })))
    → HasBegun d touched (count + 1) first now waiting
one_begun d touched count first was now waited waiting within h on room worklist stay added only = record {
  grown = grown_twice first was now h.grown on;
  room = λ k below. elim (cases_eq count k) [
    | inl e ↦ subst (λ (i : ℕ). HasEntries d now (place_at touched i).block) e room
    | inr ne ↦ entries_stay d was now (place_at touched k).block on (h.room k (omega (arith, below, ne)))
  ];
  worklist = worklist;
  added = λ k below. elim (cases_eq count k) [
    | inl e ↦ subst (λ (i : ℕ). StandsReached d (place_at touched i).block (place_at touched i).number → Has waiting.marks (place_at touched i).block (place_at touched i).number) e added
    | inr ne ↦ λ stands. stay (place_at touched k).block (place_at touched k).number (h.added k (omega (arith, below, ne)) stands)
  ];
  only = λ b n has. elim (only b n has) [
    | inl before ↦ h.only b n before
    | inr (stands, is) ↦ (stands, subst (Contains touched) is (place-among touched count within))
  ];
}

-- each touched place has had its turn
pub all_begun : (d : Draft) (touched : List Place) (count : ℕ) (first now : DraftBits) (waiting : WorklistView) → length touched ≤ count → HasBegun d touched count first now waiting
    → (b n : ℕ) → Contains touched (record { block = b; number = n }) → HasEntries d now b × (StandsReached d b n → Has waiting.marks b n)
all_begun d touched count first now waiting over h b n (k, within, at) =
    let is : place_at touched k ≡ record { block = b; number = n } = get_or_default touched k nowhere (record { block = b; number = n }) within ∙ at in
    let below : k < count = omega (arith, over, within) in (
      subst (λ (p : Place). HasEntries d now p.block) is (h.room k below),
      subst (λ (p : Place). StandsReached d p.block p.number → Has waiting.marks p.block p.number) is (h.added k below),
    )
