-- A search through the function of a draft that looks at the places on the worklist only.
use Rattle.strategy.proofs.Common.{◌≡◌, ◌⊎◌, inl, inr, ℕ, suc, ◌+◌, ◌<◌, ◌≤◌, Bool, false, List, ◌∷◌, [], ◌++◌, length, get_or, map, take, Option, None, Some, sym, ap, subst, ◌∙◌, arith, All, Contains, slice_get, option_and_then, cases_eq, cases_lt, map-append, take-map, All-contains, Contains-get_or, none-some, same_Some, MeetsChecks, end_of, IsReached, Function, contains_at, some_at, Rule, from_map, get-map, map-map, Row, Match, AreMatchesInAnyOrder, AreMatchesWhere, IsAt, IsMatchInAnyOrder, AreReady, none_where, before_end, Draft, Place, Stands, StandsBefore, function_of, numbers_in, numbers_of, arena_of, place_in, Has, IsPlace, IsRemoved, Rows, IsSettled, AreArranged, MatchesOfTheArena, placed_match, inst_on, number_at, number_there, is_arranged, Verdicts, Pair, pair_of, IsTurnedDown, Asks, AsksAll, AsksUpTo, IsAnywhere, AsksToPlace, all_turned_down_stay, IsPast, asks_again, asks_first, asks_these, nothing_past, past_first, past_place, row_stays, AreTurnedDownAt, AreTurnedDownBut, AsksAt, LooksAt, Nowhere, PlaceOf, SearchesTo, AskBits, AsksBitsOf, RuleRegister, Knowledge, known_by, DraftBits, facts_at, KnowsTheFunction, HasBitsFor, DraftBitsAreKnownBits}
use Rattle.strategy.proofs.Advancing.{IsPlaceBefore, come_through, come_to}

-- what is turned down stays so as rows are appended to the table
pub still_turned_down : (across : Bool) (rules : List Rule) (table larger : List Row) → ((row : Row) → Contains table row → Contains larger row) → (known : Knowledge) (arena : Function) (b n : ℕ) → AreTurnedDownAt across rules table known arena b n → AreTurnedDownAt across rules larger known arena b n
still_turned_down across rules table larger grows known arena b n at =
    record { matches = at.matches; are = at.are; turned_down = all_turned_down_stay rules table larger grows at.matches at.turned_down }

-- place j of block c isn't before place k of block b
abbrev pub IsBehind : ℕ → ℕ → ℕ → ℕ → Type 0
IsBehind b k c j = (b < c) ⊎ ((b ≡ c) × (k ≤ j))

-- the place is on the worklist, and no standing place before it is
pub record IsNext (d : Draft) (waiting : Rows) (p : Place) : Type 0 where
  pub there : Has waiting p.block p.number
  pub none_before : (b n : ℕ) → Has waiting b n → Stands d b n → ¬ StandsBefore d b n p.block p.number

-- how far a search has come: the verdicts of all matches before some place are asked, and all turned down, and no
-- standing place before it is on the worklist
pub record Gone (across : Bool) (rules : List Rule) (conflicts : ℕ) (d : Draft) (u v : Verdicts) (waiting : Rows) : Type 0 where
  pub b : ℕ
  pub k : ℕ
  pub asked : AsksAll across rules conflicts (function_of d) (IsPast b k) u v false
  pub behind : (c n : ℕ) → Has waiting c n → Stands d c n → IsBehind b k c (place_in (numbers_in d c) n)

-- in a block that isn't reached nothing matches
pub unreached_down : (across : Bool) (rules : List Rule) (table : List Row) (known : Knowledge) (arena : Function) (b n : ℕ) → ¬ IsReached arena b → AreTurnedDownAt across rules table known arena b n
unreached_down across rules table known arena b n unreached =
    let never : (m : Match) → IsMatchInAnyOrder across known rules arena m → ¬ IsAt b n m = λ m is of. unreached (subst (IsReached arena) of.0 is.matches.reached) in
    record { matches = []; are = none_where rules arena (IsAt b n) never; turned_down = λ i d lt. absurd (omega arith) }

-- no match of the rule stands further from its root
abbrev pub IsSourceWithin : ℕ → Rule → Type 0
IsSourceWithin depth rule = (length rule.source ≤ suc depth) × ((name : RuleRegister) → AsksBitsOf rule name → length rule.source ≤ depth)

pub source_within_more : (depth more : ℕ) (rule : Rule) → depth ≤ more → IsSourceWithin depth rule → IsSourceWithin more rule
source_within_more depth more rule further (source, bits) = (omega (arith, source, further), λ name asks. omega (arith, bits name asks, further))

-- what a draft keeps is known in its function
pub known_there : (d : Draft) (bits : DraftBits) (rules : List Rule) → IsSettled d → MeetsChecks (function_of d) → HasBitsFor rules d bits → DraftBitsAreKnownBits
    → AskBits rules → (b n : ℕ) → IsReached (arena_of d) b → Stands d b n → KnowsTheFunction (arena_of d) (numbers_of d) (known_by (facts_at bits b)) b n
known_there d bits rules settled checks has are_known asks b n reached stands = elim has [
  | inl are ↦ are_known d bits b n settled checks are reached stands
  | inr none ↦ absurd (none.0 asks)
]

module _ (across : Bool) (of_the_arena : MatchesOfTheArena) (rules : List Rule) (conflicts : ℕ) (ready : AreReady rules) (d : Draft) (settled : IsSettled d) (checks : MeetsChecks (function_of d)) (bits : DraftBits)
    (knows : AskBits rules → (b n : ℕ) → IsReached (arena_of d) b → Stands d b n → KnowsTheFunction (arena_of d) (numbers_of d) (known_by (facts_at bits b)) b n) where
  abbrev F : Function
  F = function_of d

  abbrev put : Match → Match
  put m = placed_match d m

  abbrev place : ℕ → ℕ → ℕ
  place b n = place_in (numbers_in d b) n

  are : AreArranged (arena_of d) (numbers_of d)
  are = is_arranged d settled

  -- ---- the matches at a place

  all_put : (P : Match → Type 0) (ms : List Match) → ((m : Match) → P m → P (put m)) → All P ms → All P (map put ms)
  all_put P ms on all i m lt =
      let (x, among, is) = from_map put ms (get_or (map put ms) i m) (Contains-get_or (map put ms) i m lt) in
      subst P (sym is) (on x (All-contains P ms x all among))

  same_pairs : (ms : List Match) → map pair_of (map put ms) ≡ map pair_of ms
  same_pairs ms = map-map pair_of put ms

  asks_put : (ms : List Match) (a c : Verdicts) (found : Option ℕ) → AsksToPlace rules conflicts ms a c found → AsksToPlace rules conflicts (map put ms) a c found
  asks_put ms a c None asks = (
    subst (λ (l : List Pair). Asks rules conflicts l a c) (sym (same_pairs ms)) asks.0,
    all_put (IsTurnedDown c.table) ms (λ m h. h) asks.1,
  )
  asks_put ms a c (Some i) (chosen, at, asks, down, up) =
      let before : take i (map put ms) ≡ map put (take i ms) = take-map put i ms in
      let these : take i (map put ms) ++ put chosen ∷ [] ≡ map put (take i ms ++ chosen ∷ []) = ap (λ (l : List Match). l ++ put chosen ∷ []) before ∙ sym (map-append put (take i ms) (chosen ∷ [])) in
      let pairs : map pair_of (take i (map put ms) ++ put chosen ∷ []) ≡ map pair_of (take i ms ++ chosen ∷ []) = ap (map pair_of) these ∙ same_pairs (take i ms ++ chosen ∷ []) in (
        put chosen,
        get-map put ms i chosen at,
        subst (λ (l : List Pair). Asks rules conflicts l a c) (sym pairs) asks,
        subst (All (IsTurnedDown c.table)) (sym before) (all_put (IsTurnedDown c.table) (take i ms) (λ m h. h) down),
        up,
      )

  -- where all matches were turned down before, they are so again
  down_again : (v : Verdicts) (waiting : Rows) (c j : ℕ) → AreTurnedDownBut across rules v.table Nowhere d bits waiting → j < end_of F c
      → ((n : ℕ) → slice_get (numbers_in d c) j ≡ Some n → ¬ Has waiting c n) → AsksAll across rules conflicts F (IsAt c j) v v false
  down_again v waiting c j others less away =
      let (n, at) = number_at (arena_of d) (numbers_of d) are c j less in
      let stands : Stands d c n = contains_at (numbers_in d c) j n at in
      let down = others c n stands (away n at) (λ none. none) in
      let there : AreMatchesWhere across rules F (IsAt c (place c n)) (map put down.matches) = of_the_arena across (known_by (facts_at bits c)) rules d c n down.matches ready settled checks stands (λ asks reached. knows asks c n reached stands) down.are in
      subst (λ (k : ℕ). AsksAll across rules conflicts F (IsAt c k) v v false) (are.once c j n at)
      (asks_again across rules conflicts F (IsAt c (place c n)) (map put down.matches) v there (all_put (IsTurnedDown v.table) down.matches (λ m h. h) down.turned_down))

  -- ---- how far a search is

  module _ (u : Verdicts) where
    pub not_gone : (waiting : Rows) → Gone across rules conflicts d u u waiting
    not_gone waiting = record {
      b = 0;
      k = 0;
      asked = nothing_past across rules conflicts F u;
      behind = λ c n has stands. elim (cases_eq 0 c) [ inl same ↦ inr (same, omega arith) | inr other ↦ inl (omega (arith, other)) ];
    }

    -- the first place is taken from the worklist
    module _ (v : Verdicts) (waiting left : Rows) (p : Place) (gone : Gone across rules conflicts d u v waiting) (others : AreTurnedDownBut across rules v.table Nowhere d bits waiting)
        (removed : IsRemoved waiting left p) where
      -- what is left on the worklist was on it
      still_waits : (b n : ℕ) → Has left b n → Has waiting b n
      still_waits b n has = ((removed b n).0 has).1

      waits_no_more : (b n : ℕ) → ¬ Has left b n → ¬ IsPlace p b n → ¬ Has waiting b n
      waits_no_more b n away other has = away ((removed b n).1 (other, has))

      this_or_other : (b n : ℕ) → IsPlace p b n ⊎ ¬ IsPlace p b n
      this_or_other b n = elim (cases_eq p.block b) [
        | inr other ↦ inr (λ is. other is.0)
        | inl block ↦ elim (cases_eq p.number n) [ inl number ↦ inl (block, number) | inr other ↦ inr (λ is. other is.1) ]
      ]

      -- its instruction was removed
      pub skipped : ¬ Stands d p.block p.number → Gone across rules conflicts d u v left × AreTurnedDownBut across rules v.table Nowhere d bits left
      skipped fell = (
        record { b = gone.b; k = gone.k; asked = gone.asked; behind = λ c n has stands. gone.behind c n (still_waits c n has) stands },
        λ b n stands away none. elim (this_or_other b n) [
          | inl this ↦ absurd (fell (subst (λ (x : ℕ). Stands d x p.number) (sym this.0) (subst (λ (x : ℕ). Stands d b x) (sym this.1) stands)))
          | inr other ↦ others b n stands (waits_no_more b n away other) none
        ],
      )

      module _ (stands : Stands d p.block p.number) (first : IsNext d waiting p) where
        abbrev here : ℕ
        here = place p.block p.number

        within : here ≤ end_of F p.block
        within =
            let (block, at, less) = are.there p.block p.number stands in
            let (inst, at_inst) = some_at block.insts p.number less in
            let is = inst_on (arena_of d) (numbers_of d) are p.block p.number inst stands (record { block = block; is_block = at; is_inst = at_inst }) in
            let below : here < end_of F p.block = before_end F p.block here _ is in
            omega (arith, below)

        -- no place before it in the function is on the worklist
        earlier : (c j n : ℕ) → slice_get (numbers_in d c) j ≡ Some n → IsPlaceBefore c j p.block here → StandsBefore d c n p.block p.number
        earlier c j n at before = elim before [
          | inl block ↦ inl block
          | inr same ↦
              let place_n : place c n ≡ j = are.once c j n at in
              let place_p : place c p.number ≡ here = ap (λ (b : ℕ). place b p.number) same.0 in
              let less : j < here = same.1 in
              inr (same.0, omega (arith, place_n, place_p, less))
        ]

        down : (c j : ℕ) → IsPlaceBefore c j p.block here → j < end_of F c → AsksAll across rules conflicts F (IsAt c j) v v false
        down c j before less = down_again v waiting c j others less (λ n at has. first.none_before c n has (contains_at (numbers_in d c) j n at) (earlier c j n at before))

        -- so all matches before it are turned down
        come : AsksAll across rules conflicts F (IsPast p.block here) u v false
        come = come_to across rules conflicts F ready u v gone.b gone.k p.block here (gone.behind p.block p.number first.there stands) within down gone.asked

        -- and the standing places that are left on the worklist are behind it
        behind_here : (c n : ℕ) → c ≡ p.block → Has left c n → Stands d c n → here + 1 ≤ place c n
        behind_here c n same has stands_n =
            let place_p : place c p.number ≡ here = ap (λ (b : ℕ). place b p.number) same in
            elim (cases_lt (place c n) here) [
              | inl before ↦ absurd (first.none_before c n (still_waits c n has) stands_n (inr (same, omega (arith, before, place_p))))
              | inr late ↦ elim (cases_eq (place c n) here) [
                | inr other ↦ omega (arith, late, other)
                | inl equal ↦
                    let stands_p : Stands d c p.number = subst (λ (b : ℕ). Stands d b p.number) (sym same) stands in
                    let one : p.number ≡ n = same_Some p.number n (sym (number_there (numbers_in d c) p.number stands_p)
                    ∙ ap (slice_get (numbers_in d c)) (place_p ∙ sym equal) ∙ number_there (numbers_in d c) n stands_n) in
                    absurd (((removed c n).0 has).0 (sym same, one))
              ]
            ]

        after : (c n : ℕ) → Has left c n → Stands d c n → IsBehind p.block (here + 1) c (place c n)
        after c n has stands_n = elim (cases_lt p.block c) [
          | inl later ↦ inl later
          | inr not_later ↦ elim (cases_eq c p.block) [
            | inr other ↦ absurd (first.none_before c n (still_waits c n has) stands_n (inl (omega (arith, not_later, other))))
            | inl same ↦ inr (sym same, behind_here c n same has stands_n)
          ]
        ]

        -- the matches at this place
        module _ (w : Verdicts) (ms : List Match) (found : AreMatchesInAnyOrder across (known_by (facts_at bits p.block)) rules (arena_of d) (IsAt p.block p.number) ms) where
          there : AreMatchesWhere across rules F (IsAt p.block here) (map put ms)
          there = of_the_arena across (known_by (facts_at bits p.block)) rules d p.block p.number ms ready settled checks stands (λ asks reached. knows asks p.block p.number reached stands) found

          -- none of them is admitted
          module _ (asks : AsksToPlace rules conflicts ms v w None) where
            at_place : AsksAll across rules conflicts F (IsAt p.block here) v w false
            at_place =
                let both = asks_put ms v w None asks in
                asks_these across rules conflicts F (IsAt p.block here) (map put ms) v w false there both.0 both.1

            gone_on : Gone across rules conflicts d u w left
            gone_on = record { b = p.block; k = here + 1; asked = past_place across rules conflicts F p.block here u v w come at_place; behind = after }

            all_down : AreTurnedDownBut across rules w.table Nowhere d bits left
            all_down b n stands_n away none = elim (this_or_other b n) [
              | inl this ↦ subst (λ (x : ℕ). AreTurnedDownAt across rules w.table (known_by (facts_at bits x)) (arena_of d) x n) this.0
                  (subst (λ (x : ℕ). AreTurnedDownAt across rules w.table (known_by (facts_at bits p.block)) (arena_of d) p.block x) this.1 (record { matches = ms; are = found; turned_down = asks.1 }))
              | inr other ↦ still_turned_down across rules v.table w.table (row_stays rules conflicts (map pair_of ms) v w asks.0) (known_by (facts_at bits b)) (arena_of d) b n (others b n stands_n (waits_no_more b n away other) none)
            ]

          passed_by : (at : Option ℕ) → AsksToPlace rules conflicts ms v w at → None ≡ option_and_then (slice_get ms) at → Gone across rules conflicts d u w left × AreTurnedDownBut across rules w.table Nowhere d bits left
          passed_by None asks none = (gone_on asks, all_down asks)
          passed_by (Some i) asks none = absurd (none-some asks.0 (none ∙ asks.1))

          -- one of them is
          module _ (i : ℕ) (asks : AsksToPlace rules conflicts ms v w (Some i)) where
            is_first : IsMatchInAnyOrder across (known_by (facts_at bits p.block)) rules (arena_of d) asks.0 × IsAt p.block p.number asks.0
            is_first = All-contains (λ m. IsMatchInAnyOrder across (known_by (facts_at bits p.block)) rules (arena_of d) m × IsAt p.block p.number m) ms asks.0 found.each (contains_at ms i asks.0 asks.1)

            asked_to : AsksUpTo across rules conflicts F IsAnywhere u w (put asks.0)
            asked_to =
                let put_there = asks_put ms v w (Some i) asks in
                past_first across rules conflicts F p.block here (put asks.0) u v w come
                (subst (AsksUpTo across rules conflicts F (IsAt p.block here) v w) (same_Some put_there.0 (put asks.0) (sym put_there.1 ∙ get-map put ms i asks.0 asks.1))
                (asks_first across rules conflicts F (IsAt p.block here) (map put ms) i v w there put_there))

            others_down : AreTurnedDownBut across rules w.table (PlaceOf asks.0) d bits left
            others_down b n stands_n away out = elim (this_or_other b n) [
              | inl this ↦ absurd (out (is_first.1.0 ∙ this.0, is_first.1.1 ∙ this.1))
              | inr other ↦ still_turned_down across rules v.table w.table (row_stays rules conflicts (map pair_of (take i ms ++ asks.0 ∷ [])) v w asks.2) (known_by (facts_at bits b)) (arena_of d) b n (others b n stands_n (waits_no_more b n away other) (λ none. none))
            ]

            searches_to : SearchesTo across rules conflicts d bits left u w (Some asks.0)
            searches_to = (asked_to, others_down)

          stopped_by : (chosen : Match) (at : Option ℕ) → AsksToPlace rules conflicts ms v w at → Some chosen ≡ option_and_then (slice_get ms) at → SearchesTo across rules conflicts d bits left u w (Some chosen)
          stopped_by chosen None asks is = absurd (none-some chosen (sym is))
          stopped_by chosen (Some i) asks is =
              subst (λ (m : Match). SearchesTo across rules conflicts d bits left u w (Some m)) (same_Some asks.0 chosen (sym asks.1 ∙ sym is)) (searches_to i asks)

        pub passed : (w : Verdicts) → AsksAt across rules conflicts (known_by (facts_at bits p.block)) (arena_of d) p.block p.number v w None → Gone across rules conflicts d u w left × AreTurnedDownBut across rules w.table Nowhere d bits left
        passed w asked = passed_by w asked.0 asked.2 asked.1 asked.3 asked.4

        pub stopped : (w : Verdicts) (chosen : Match) → AsksAt across rules conflicts (known_by (facts_at bits p.block)) (arena_of d) p.block p.number v w (Some chosen) → SearchesTo across rules conflicts d bits left u w (Some chosen)
        stopped w chosen asked = stopped_by w asked.0 asked.2 chosen asked.1 asked.3 asked.4

      -- the place is looked at
      module _ (first : Stands d p.block p.number → IsNext d waiting p) where
        pub looked_past : (w : Verdicts) → LooksAt across rules conflicts d (known_by (facts_at bits p.block)) p v w None → Gone across rules conflicts d u w left × AreTurnedDownBut across rules w.table Nowhere d bits left
        looked_past w looked = elim looked [
          | inl (stands, asked) ↦ passed stands (first stands) w asked
          | inr (fell, none, same) ↦ subst (λ (x : Verdicts). Gone across rules conflicts d u x left × AreTurnedDownBut across rules x.table Nowhere d bits left) (sym same) (skipped fell)
        ]

        pub looked_found : (w : Verdicts) (chosen : Match) → LooksAt across rules conflicts d (known_by (facts_at bits p.block)) p v w (Some chosen) → SearchesTo across rules conflicts d bits left u w (Some chosen)
        looked_found w chosen looked = elim looked [
          | inl (stands, asked) ↦ stopped stands (first stands) w chosen asked
          | inr (fell, none, same) ↦ absurd (none-some chosen (sym none))
        ]

    -- the worklist is empty
    pub searched : (v : Verdicts) (waiting left : Rows) → Gone across rules conflicts d u v waiting → AreTurnedDownBut across rules v.table Nowhere d bits waiting → ((b n : ℕ) → ¬ Has waiting b n)
        → SearchesTo across rules conflicts d bits left u v None
    searched v waiting left gone others empty = (
      come_through across rules conflicts F ready u v gone.b gone.k (λ c j less. down_again v waiting c j others less (λ n at. empty c n)) gone.asked,
      λ b n stands away none. others b n stands (empty b n) none,
    )
