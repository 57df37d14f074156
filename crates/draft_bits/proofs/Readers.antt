-- What reads a result goes on the worklist.
use Rattle.draft_bits.proofs.Common.{◌⊎◌, ℕ, ◌+◌, ◌<◌, List, subst, arith, inl, inr, cases_eq, Draft, Place, arena_of, Has, StandsReached, Takes}
use Rattle.places.specs.Heaps.{place_at}
use Rattle.places.specs.Worklist.{IsWorklist, WorklistView}

-- of the first places of a use list those wait at which the result is taken, and what waited
pub record ReadersWait (d : Draft) (p : Place) (listed : List Place) (count : ℕ) (first now : WorklistView) : Type 0 where
  pub worklist : IsWorklist d.orders.items now
  pub stay : (b n : ℕ) → Has first.marks b n → Has now.marks b n
  pub readers : (k : ℕ) → k < count → StandsReached d (place_at listed k).block (place_at listed k).number → Takes (arena_of d) p (place_at listed k).block (place_at listed k).number
      → Has now.marks (place_at listed k).block (place_at listed k).number
  pub only : (b n : ℕ) → Has now.marks b n → Has first.marks b n ⊎ (StandsReached d b n × Takes (arena_of d) p b n)

pub none_wait : (d : Draft) (p : Place) (listed : List Place) (w : WorklistView) → IsWorklist d.orders.items w → ReadersWait d p listed 0 w w
none_wait d p listed w worklist = record { worklist = worklist; stay = λ b n has. has; readers = λ k below. absurd (omega arith); only = λ b n has. inl has }

pub one_waits : (d : Draft) (p : Place) (listed : List Place) (count : ℕ) (first was now : WorklistView) → ReadersWait d p listed count first was → IsWorklist d.orders.items now
    → ((b n : ℕ) → Has was.marks b n → Has now.marks b n)
    → (StandsReached d (place_at listed count).block (place_at listed count).number → Takes (arena_of d) p (place_at listed count).block (place_at listed count).number
    → Has now.marks (place_at listed count).block (place_at listed count).number)
    → ((b n : ℕ) → Has now.marks b n → Has was.marks b n ⊎ (StandsReached d b n × Takes (arena_of d) p b n)) → ReadersWait d p listed (count + 1) first now
one_waits d p listed count first was now h worklist stay this only = record {
  worklist = worklist;
  stay = λ b n has. stay b n (h.stay b n has);
  readers = λ k below. elim (cases_eq count k) [
    | inl e ↦ subst (λ (i : ℕ). StandsReached d (place_at listed i).block (place_at listed i).number → Takes (arena_of d) p (place_at listed i).block (place_at listed i).number
        → Has now.marks (place_at listed i).block (place_at listed i).number) e this
    | inr ne ↦ λ stands takes. stay (place_at listed k).block (place_at listed k).number (h.readers k (omega (arith, below, ne)) stands takes)
  ];
  only = λ b n has. elim (only b n has) [
    | inl before ↦ h.only b n before
    | inr taken ↦ inr taken
  ];
}
