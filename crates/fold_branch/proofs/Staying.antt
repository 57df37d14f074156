-- Which entries of a phi stay, where those that do are moved to the front one by one.
use Rattle.fold_branch.proofs.Common.{◌≡◌, ℕ, ◌+◌, ◌<◌, ◌≤◌, ◌==◌, ◌&&◌, ◌||◌, not, Bool, true, false, ◌⊎◌, inl, inr, List, [], ◌∷◌, ◌++◌, length, take, drop, set, get_or, Option, None, Some, Contains, refl, sym, ap, subst, ◌∙◌, append_assoc, append-nil, arith, and_from, and_parts, cases_eq, eq-eqb, eqb-true, ne_eqb, or_cases, or_from, get_or-set_same, get_or-set_other, length-set, drop_more, drop-set-lt, take_more_set, drop_all, All-contains, All-get_or, Contains-append_left, Contains-get_or, Contains-push, Operand, first_in, later_in, cases_in, not_in_empty, is_among, stays_by, stays, stays_first, staying, IsMarked, HasEntry, AreBelow}

abbrev pub Entries : Type 0
Entries = List (Operand × ℕ)

-- ---- marks

-- one more block is marked
pub marked_more : (marks : List Bool) (b c : ℕ) (before : List ℕ) → b < length marks → get_or marks c false ≡ is_among c before → get_or (set marks b true) c false ≡ is_among c (b ∷ before)
marked_more marks b c before within was =
    elim (cases_eq c b) [
      | inl same ↦ ap (λ d. get_or (set marks b true) d false) same ∙ get_or-set_same marks b true false within ∙ sym (ap (λ t. t || is_among c before) (eq-eqb c b same))
      | inr ne ↦ get_or-set_other marks b c true false ne ∙ was ∙ sym (ap (λ t. t || is_among c before) (ne_eqb c b ne))
    ]

-- ---- entries that stay

module _ (choices : List (Option ℕ)) (reached : List Bool) (b : ℕ) where
  -- each is one of the entries
  pub staying_among : (before : List ℕ) (entries : Entries) (x : Operand × ℕ) → Contains (staying choices reached b before entries) x → Contains entries x
  staying_among before [] x h = h
  staying_among before (e ∷ entries) x h = by (stays choices reached b before e.1) (staying_among (e.1 ∷ before) entries x) (staying_among before entries x) h
    where
      by : (stay : Bool) → (Contains (staying choices reached b (e.1 ∷ before) entries) x → Contains entries x) → (Contains (staying choices reached b before entries) x → Contains entries x)
          → Contains (stays_first stay e (staying choices reached b (e.1 ∷ before) entries) (staying choices reached b before entries)) x → Contains (e ∷ entries) x
      by true with_it without_it h = elim (cases_in e (staying choices reached b (e.1 ∷ before) entries) x h) [
        | inl is ↦ subst (Contains (e ∷ entries)) is (first_in e entries)
        | inr later ↦ later_in e entries x (with_it later)
      ]
      by false with_it without_it h = later_in e entries x (without_it h)

  pub staying_below : (n : ℕ) (before : List ℕ) (entries : Entries) → AreBelow n entries → AreBelow n (staying choices reached b before entries)
  staying_below n before entries h k d lt =
      let x : Operand × ℕ = get_or (staying choices reached b before entries) k d in
      All-contains (λ (x : Operand × ℕ). x.1 < n) entries x h (staying_among before entries x (Contains-get_or (staying choices reached b before entries) k d lt))

-- where no number chooses, or one chooses b
abbrev pub LeadsHere : ℕ → Option ℕ → Type 0
LeadsHere b choice = (choice ≡ None) ⊎ (choice ≡ Some b)

stays_where : (b : ℕ) (before : Bool) (choice : Option ℕ) → stays_by b before choice ≡ true → LeadsHere b choice
stays_where b before None is = inl refl
stays_where b before (Some to) is = inr (ap (λ c. Some c) (eqb-true to b (and_parts (to == b) (not before) is).0))

stays_at : (b : ℕ) (choice : Option ℕ) → LeadsHere b choice → stays_by b false choice ≡ true
stays_at b choice (inl none) = ap (stays_by b false) none
stays_at b choice (inr here) = ap (stays_by b false) here ∙ and_from (b == b) true (eq-eqb b b refl) refl

-- the first of these is for the block, where it stays, and else a later one is
entry_first : (stay : Bool) (e : Operand × ℕ) (with_it without_it : Entries) (c : ℕ) → e.1 ≡ c → stay ≡ true → HasEntry (stays_first stay e with_it without_it) c
entry_first true e with_it without_it c at is = (e.0, subst (λ d. Contains (e ∷ with_it) (e.0, d)) at (first_in e with_it))
entry_first false e with_it without_it c at is = absurd cc

entry_of : (stay : Bool) (e : Operand × ℕ) (with_it without_it : Entries) (c : ℕ) → (e.1 ≡ c) ⊎ HasEntry with_it c → HasEntry without_it c → HasEntry (stays_first stay e with_it without_it) c
entry_of true e with_it without_it c (inl at) other = entry_first true e with_it without_it c at refl
entry_of true e with_it without_it c (inr later) other = (later.0, later_in e with_it (later.0, c) later.1)
entry_of false e with_it without_it c how other = other

module _ (choices : List (Option ℕ)) (reached : List Bool) (b : ℕ) where
  -- an entry that stays is for a block that is reached and leads here
  pub staying_reached : (before : List ℕ) (entries : Entries) (x : Operand × ℕ) → Contains (staying choices reached b before entries) x → IsMarked reached x.1 × LeadsHere b (get_or choices x.1 None)
  staying_reached before [] x h = absurd (not_in_empty x h)
  staying_reached before (e ∷ entries) x h = by (stays choices reached b before e.1) refl (staying_reached (e.1 ∷ before) entries x) (staying_reached before entries x) h
    where
      by : (stay : Bool) → stays choices reached b before e.1 ≡ stay
          → (Contains (staying choices reached b (e.1 ∷ before) entries) x → IsMarked reached x.1 × LeadsHere b (get_or choices x.1 None))
          → (Contains (staying choices reached b before entries) x → IsMarked reached x.1 × LeadsHere b (get_or choices x.1 None))
          → Contains (stays_first stay e (staying choices reached b (e.1 ∷ before) entries) (staying choices reached b before entries)) x → IsMarked reached x.1 × LeadsHere b (get_or choices x.1 None)
      by true is with_it without_it h =
          let parts : (get_or reached e.1 false ≡ true) × (stays_by b (is_among e.1 before) (get_or choices e.1 None) ≡ true) = and_parts (get_or reached e.1 false) (stays_by b (is_among e.1 before) (get_or choices e.1 None)) is in
          let own : IsMarked reached e.1 × LeadsHere b (get_or choices e.1 None) = (parts.0, stays_where b (is_among e.1 before) (get_or choices e.1 None) parts.1) in
          elim (cases_in e (staying choices reached b (e.1 ∷ before) entries) x h) [
            | inl same ↦ subst (λ (y : Operand × ℕ). IsMarked reached y.1 × LeadsHere b (get_or choices y.1 None)) same own
            | inr later ↦ with_it later
          ]
      by false is with_it without_it h = without_it h

  -- for such a block some entry stays
  pub staying_some : (before : List ℕ) (entries : Entries) (a : Operand) (c : ℕ) → Contains entries (a, c) → IsMarked reached c → LeadsHere b (get_or choices c None) → is_among c before ≡ false → HasEntry (staying choices reached b before entries) c
  staying_some before [] a c h mark here new = absurd (not_in_empty (a, c) h)
  staying_some before (e ∷ entries) a c h mark here new =
      elim (cases_in e entries (a, c) h) [
        | inl same ↦
            let at : e.1 ≡ c = ap (λ (x : Operand × ℕ). x.1) same in
            let own : stays choices reached b before c ≡ true = and_from (get_or reached c false) (stays_by b (is_among c before) (get_or choices c None)) mark (ap (λ t. stays_by b t (get_or choices c None)) new ∙ stays_at b (get_or choices c None) here) in
            entry_first (stays choices reached b before e.1) e (staying choices reached b (e.1 ∷ before) entries) (staying choices reached b before entries) c at (ap (stays choices reached b before) at ∙ own)
        | inr later ↦
            entry_of (stays choices reached b before e.1) e (staying choices reached b (e.1 ∷ before) entries) (staying choices reached b before entries) c
            (fresh (cases_eq c e.1) (λ among. staying_some (e.1 ∷ before) entries a c later mark here among))
            (staying_some before entries a c later mark here new)
      ]
    where
      fresh : (c ≡ e.1) ⊎ (c ≡ e.1 → ⊥) → (is_among c (e.1 ∷ before) ≡ false → HasEntry (staying choices reached b (e.1 ∷ before) entries) c) → (e.1 ≡ c) ⊎ HasEntry (staying choices reached b (e.1 ∷ before) entries) c
      fresh (inl same) rest = inl (sym same)
      fresh (inr other) rest = inr (rest (or_from (c == e.1) (is_among c before) (ne_eqb c e.1 other) new))

-- ---- entries that are moved to the front

module _ (choices : List (Option ℕ)) (reached : List Bool) (b : ℕ) where
  -- The first `count` of the items are what stays of the first `place`, their blocks are marked, and from there on all
  -- are as they were.
  pub record Moved (all : Entries) (place count : ℕ) (items : Entries) (marks : List Bool) : Type 0 where
    pub before : List ℕ
    pub moved : take count items ++ staying choices reached b before (drop place items) ≡ staying choices reached b [] all
    pub low : count ≤ place
    pub size : length items ≡ length all
    pub rest : drop place items ≡ drop place all
    pub marked : (c : ℕ) → get_or marks c false ≡ is_among c before
    pub from : (c : ℕ) → is_among c before ≡ true → HasEntry (take count items) c

  -- the next entry is the old one
  pub next_entry : (all : Entries) (place count : ℕ) (items : Entries) (marks : List Bool) (d : Operand × ℕ) → Moved all place count items marks → place < length items → get_or items place d ≡ get_or all place d
  next_entry all place count items marks d m lt =
      let size : length items ≡ length all = m.size in
      let same : get_or items place d ∷ drop (place + 1) items ≡ get_or all place d ∷ drop (place + 1) all =
      sym (drop_more items place d lt) ∙ m.rest ∙ drop_more all place d (omega arith) in
      cc

  pub entry_below : (all : Entries) (place count : ℕ) (items : Entries) (marks : List Bool) (e : Operand × ℕ) (n : ℕ) → Moved all place count items marks → AreBelow n all → place < length items → e ≡ get_or items place e → e.1 < n
  entry_below all place count items marks e n m below lt here =
      let size : length items ≡ length all = m.size in
      let was : e ≡ get_or all place e = here ∙ next_entry all place count items marks e m lt in
      subst (λ (x : Operand × ℕ). x.1 < n) (sym was) (All-get_or (λ (x : Operand × ℕ). x.1 < n) all place e (omega arith) below)

  rest_next : (all : Entries) (place : ℕ) (items : Entries) (d : Operand × ℕ) → length items ≡ length all → drop place items ≡ drop place all → place < length items → drop (place + 1) items ≡ drop (place + 1) all
  rest_next all place items d size rest lt =
      let same : get_or items place d ∷ drop (place + 1) items ≡ get_or all place d ∷ drop (place + 1) all =
      sym (drop_more items place d lt) ∙ rest ∙ drop_more all place d (omega arith) in
      cc

  -- an entry that stays
  pub moved_more : (all : Entries) (place count : ℕ) (items : Entries) (marks : List Bool) (e : Operand × ℕ) → Moved all place count items marks → place < length items → e ≡ get_or items place e → e.1 < length marks
      → (get_or reached e.1 false && stays_by b (get_or marks e.1 false) (get_or choices e.1 None)) ≡ true
      → Moved all (place + 1) (count + 1) (set items count e) (set marks e.1 true)
  moved_more all place count items marks e m lt here within stay =
      let low : count ≤ place = m.low in
      let fronts : take (count + 1) (set items count e) ≡ take count items ++ e ∷ [] = take_more_set items count e (omega arith) in
      let backs : drop (place + 1) (set items count e) ≡ drop (place + 1) items = drop-set-lt (place + 1) items count e (omega arith) in
      let split : drop place items ≡ e ∷ drop (place + 1) items = drop_more items place e lt ∙ ap (λ (x : Operand × ℕ). x ∷ drop (place + 1) items) (sym here) in
      let is : stays choices reached b m.before e.1 ≡ true = ap (λ t. get_or reached e.1 false && stays_by b t (get_or choices e.1 None)) (sym (m.marked e.1)) ∙ stay in
      let rest : Entries = drop (place + 1) items in
      let step : staying choices reached b m.before (e ∷ rest) ≡ e ∷ staying choices reached b (e.1 ∷ m.before) rest =
      ap (λ t. stays_first t e (staying choices reached b (e.1 ∷ m.before) rest) (staying choices reached b m.before rest)) is in
      record {
        before = e.1 ∷ m.before;
        moved = ap (λ (l : Entries). l ++ staying choices reached b (e.1 ∷ m.before) (drop (place + 1) (set items count e))) fronts
            ∙ ap (λ (l : Entries). (take count items ++ e ∷ []) ++ staying choices reached b (e.1 ∷ m.before) l) backs
            ∙ append_assoc (take count items) (e ∷ []) (staying choices reached b (e.1 ∷ m.before) rest)
            ∙ ap (λ (l : Entries). take count items ++ l) (sym step)
            ∙ ap (λ (l : Entries). take count items ++ staying choices reached b m.before l) (sym split)
            ∙ m.moved;
        low = omega arith;
        size = length-set items count e ∙ m.size;
        rest = backs ∙ rest_next all place items e m.size m.rest lt;
        marked = λ c. marked_more marks e.1 c m.before within (m.marked c);
        from = λ c among. subst (λ (l : Entries). HasEntry l c) (sym fronts) (from c (or_cases (c == e.1) (is_among c m.before) among));
      }
    where
      from : (c : ℕ) → ((c == e.1) ≡ true) ⊎ (is_among c m.before ≡ true) → HasEntry (take count items ++ e ∷ []) c
      from c (inl same) = (e.0, subst (λ (d : ℕ). Contains (take count items ++ e ∷ []) (e.0, d)) (sym (eqb-true c e.1 same)) (Contains-push (take count items) e))
      from c (inr old) = let was : HasEntry (take count items) c = m.from c old in (was.0, Contains-append_left (take count items) (e ∷ []) (was.0, c) was.1)

  -- an entry that goes
  pub moved_other : (all : Entries) (place count : ℕ) (items : Entries) (marks : List Bool) (e : Operand × ℕ) → Moved all place count items marks → place < length items → e ≡ get_or items place e
      → (get_or reached e.1 false && stays_by b (get_or marks e.1 false) (get_or choices e.1 None)) ≡ false
      → Moved all (place + 1) count items marks
  moved_other all place count items marks e m lt here go =
      let low : count ≤ place = m.low in
      let split : drop place items ≡ e ∷ drop (place + 1) items = drop_more items place e lt ∙ ap (λ (x : Operand × ℕ). x ∷ drop (place + 1) items) (sym here) in
      let is : stays choices reached b m.before e.1 ≡ false = ap (λ t. get_or reached e.1 false && stays_by b t (get_or choices e.1 None)) (sym (m.marked e.1)) ∙ go in
      let rest : Entries = drop (place + 1) items in
      let step : staying choices reached b m.before (e ∷ rest) ≡ staying choices reached b m.before rest =
      ap (λ t. stays_first t e (staying choices reached b (e.1 ∷ m.before) rest) (staying choices reached b m.before rest)) is in
      record {
        before = m.before;
        moved = ap (λ (l : Entries). take count items ++ l) (sym step) ∙ ap (λ (l : Entries). take count items ++ staying choices reached b m.before l) (sym split) ∙ m.moved;
        low = omega arith;
        size = m.size;
        rest = rest_next all place items e m.size m.rest lt;
        marked = m.marked;
        from = m.from;
      }

  -- behind the last entry
  pub moved_all : (all : Entries) (place count : ℕ) (items : Entries) (marks : List Bool) → Moved all place count items marks → length items ≤ place → take count items ≡ staying choices reached b [] all
  moved_all all place count items marks m past =
      sym (append-nil (take count items)) ∙ ap (λ (l : Entries). take count items ++ staying choices reached b m.before l) (sym (drop_all place items past)) ∙ m.moved

-- ---- entries whose blocks are marked no more
