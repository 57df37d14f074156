-- How far propagation has come, entry by entry along the trail and clause by clause along a list.
use Rattle.depth_first.proofs.Common.{◌≡◌, ℕ, ◌+◌, ◌<◌, ◌≤◌, true, List, [], ◌∷◌, ◌++◌, Some, length, take, refl, sym, ap, ◌∙◌, arith, inl, inr, subst, length-append, append_assoc, slice_get, ◌⊎◌, cases_Bool, cases_order, append-nil, Lit, negation_of, IsUnit, NamesUnit, is_held, Entry, Reason, literals, Grows, IsForced, IsPropagated, AllPropagated, IsTouched, StandsFrom, IsPropagatedUpTo, IsPropagatedBut, PropagatesClause, numbers_of, FindsBelow, Occurrences}
use Rattle.depth_first.proofs.Lists.{some_same, slice_get_left, slice_get_last, slice_get_below, slice_get_cases, slice_get_one, take_left, take_right}
use Rattle.depth_first.proofs.HeldLists.{literals-append}
use Rattle.depth_first.proofs.Open.{IsPropagated-push, IsPropagated-forced}

-- the clause is propagated, or an entry of the propagation queue, which begins at the head, made a literal of it false
abbrev pub IsPropagatedOrTouched : List Entry → ℕ → List Lit → Type 0
IsPropagatedOrTouched entries head clause = IsPropagated (literals entries) clause ⊎ IsTouched entries head clause

touched_left : (entries more : List Entry) (head : ℕ) (clause : List Lit) → IsTouched entries head clause → IsTouched (entries ++ more) head clause
touched_left entries more head clause t = (t.0, t.1, t.2, slice_get_left entries more t.0 t.1 t.3, t.4)

touched_last : (entries : List Entry) (e : Entry) (head : ℕ) (clause : List Lit) → head ≤ length entries → is_held clause (negation_of e.literal) ≡ true → IsTouched (entries ++ e ∷ []) head clause
touched_last entries e head clause within h = (length entries, e, within, slice_get_last entries e, h)

propagated_at : (entries : List Entry) (e : Entry) (clause : List Lit) → IsPropagated (literals entries ++ e.literal ∷ []) clause → IsPropagated (literals (entries ++ e ∷ [])) clause
propagated_at entries e clause s = subst (λ held. IsPropagated held clause) (sym (literals-append entries (e ∷ []))) s

-- a clause that is propagated or touched is so after one more entry
pub IsPropagatedOrTouched-push : (entries : List Entry) (e : Entry) (head : ℕ) (clause : List Lit) → head ≤ length entries → IsPropagatedOrTouched entries head clause → IsPropagatedOrTouched (entries ++ e ∷ []) head clause
IsPropagatedOrTouched-push entries e head clause within (inl propagated) =
    elim (cases_Bool (is_held clause (negation_of e.literal))) [
      | inl touches ↦ inr (touched_last entries e head clause within touches)
      | inr none ↦ inl (propagated_at entries e clause (IsPropagated-push (literals entries) clause e.literal none propagated))
    ]
IsPropagatedOrTouched-push entries e head clause within (inr touched) = inr (touched_left entries (e ∷ []) head clause touched)

-- a clause is propagated or touched after the entry of its unit literal
IsPropagatedOrTouched-forced : (entries : List Entry) (e : Entry) (head : ℕ) (clause : List Lit) → head ≤ length entries → IsUnit (literals entries) clause e.literal → IsPropagatedOrTouched (entries ++ e ∷ []) head clause
IsPropagatedOrTouched-forced entries e head clause within unit =
    elim (cases_Bool (is_held clause (negation_of e.literal))) [
      | inl touches ↦ inr (touched_last entries e head clause within touches)
      | inr none ↦ inl (propagated_at entries e clause (IsPropagated-forced (literals entries) clause e.literal none unit))
    ]

pub IsPropagatedUpTo-push : (clauses : List (List Lit)) (entries : List Entry) (e : Entry) (head : ℕ) → head ≤ length entries → IsPropagatedUpTo clauses entries head → IsPropagatedUpTo clauses (entries ++ e ∷ []) head
IsPropagatedUpTo-push clauses entries e head within up_to_head number clause at =
    IsPropagatedOrTouched-push entries e head clause within (up_to_head number clause at)

-- a number that stands in the list from a place on stands at that place or from the next on
pub stands_cases : (numbers : List ℕ) (from number n : ℕ) → slice_get numbers from ≡ Some number → StandsFrom numbers from n → (n ≡ number) ⊎ StandsFrom numbers (from + 1) n
stands_cases numbers from number n at s =
    elim (cases_order s.0 from) [
      | inl same ↦ inl (some_same n number (sym s.2 ∙ ap (slice_get numbers) same ∙ at))
      | inr (inl less) ↦ absurd (omega (arith, s.1))
      | inr (inr more) ↦ inr (s.0, omega arith, s.2)
    ]

-- a clause that is propagated already propagates without a new entry
pub PropagatesClause-propagated : (clauses : List (List Lit)) (number : ℕ) (entries : List Entry) (clause : List Lit) → slice_get clauses number ≡ Some clause → IsPropagated (literals entries) clause → PropagatesClause clauses number entries entries
PropagatesClause-propagated clauses number entries clause at propagated numbers from head next within up_to_head n d there =
    elim (up_to_head n d there) [
      | inl stands ↦
          elim (stands_cases numbers from number n next stands) [
            | inl same ↦
                let e : clause ≡ d = some_same clause d (sym at ∙ ap (slice_get clauses) (sym same) ∙ there) in
                inr (inl (subst (IsPropagated (literals entries)) e propagated))
            | inr later ↦ inl later
          ]
      | inr fine ↦ inr fine
    ]

pub PropagatesClause-forced : (clauses : List (List Lit)) (number : ℕ) (entries : List Entry) (e : Entry) (clause : List Lit) → slice_get clauses number ≡ Some clause → IsUnit (literals entries) clause e.literal → PropagatesClause clauses number entries (entries ++ e ∷ [])
PropagatesClause-forced clauses number entries e clause at unit numbers from head next within up_to_head n d there =
    elim (up_to_head n d there) [
      | inl stands ↦
          elim (stands_cases numbers from number n next stands) [
            | inl same ↦
                let is : clause ≡ d = some_same clause d (sym at ∙ ap (slice_get clauses) (sym same) ∙ there) in
                inr (IsPropagatedOrTouched-forced entries e head d within (subst (λ c. IsUnit (literals entries) c e.literal) is unit))
            | inr later ↦ inl later
          ]
      | inr fine ↦ inr (IsPropagatedOrTouched-push entries e head d within fine)
    ]

-- a trail grows from itself by no entries
pub Grows-none : (clauses : List (List Lit)) (entries : List Entry) → Grows clauses entries entries
Grows-none clauses entries =
    record {
      more = [];
      is = sym (append-nil entries);
      forced = λ place e at. let none : slice_get [] place ≡ Some e = at in cc;
    }

pub Grows-one : (clauses : List (List Lit)) (entries : List Entry) (e : Entry) (number : ℕ) → e.cause ≡ Reason number → NamesUnit clauses (literals entries) number e.literal → Grows clauses entries (entries ++ e ∷ [])
Grows-one clauses entries e number cause unit =
    record {
      more = e ∷ [];
      is = refl;
      forced = λ place f at.
          let one = slice_get_one e place f at in
          let before : entries ++ take place (e ∷ []) ≡ entries = ap (λ k. entries ++ take k (e ∷ [])) one.0 ∙ append-nil entries in (
            number,
            sym (ap (λ (y : Entry). y.cause) one.1) ∙ cause,
            subst (λ es. NamesUnit clauses (literals es) number f.literal) (sym before)
                (subst (λ (y : Entry). NamesUnit clauses (literals entries) number y.literal) one.1 unit),
          );
    }

pub Grows-then : (clauses : List (List Lit)) (old mid new : List Entry) → Grows clauses old mid → Grows clauses mid new → Grows clauses old new
Grows-then clauses old mid new g h =
    record {
      more = g.more ++ h.more;
      is = h.is ∙ ap (λ es. es ++ h.more) g.is ∙ append_assoc old g.more h.more;
      forced = λ place e at.
          elim (slice_get_cases g.more h.more place e at) [
            | inl left ↦
                let prefix : old ++ take place (g.more ++ h.more) ≡ old ++ take place g.more = ap (λ es. old ++ es) (take_left g.more h.more place e left) in
                subst (λ es. IsForced clauses (literals es) e) (sym prefix) (g.forced place e left)
            | inr (j, is, right) ↦
                let prefix : old ++ take place (g.more ++ h.more) ≡ mid ++ take j h.more =
                ap (λ es. old ++ es) (take_right g.more h.more place j is)
                ∙ sym (append_assoc old g.more (take j h.more))
                ∙ ap (λ es. es ++ take j h.more) (sym g.is) in
                subst (λ es. IsForced clauses (literals es) e) (sym prefix) (h.forced j e right)
          ];
    }

pub Grows-length : (clauses : List (List Lit)) (old new : List Entry) → Grows clauses old new → length old ≤ length new
Grows-length clauses old new g = omega (arith, ap length g.is, length-append old g.more)

-- at the end of the list of clauses, propagation has come to the head
pub IsPropagatedUpTo-end : (clauses : List (List Lit)) (numbers : List ℕ) (from : ℕ) (entries : List Entry) (head : ℕ) → length numbers ≤ from → IsPropagatedBut clauses numbers from entries head → IsPropagatedUpTo clauses entries head
IsPropagatedUpTo-end clauses numbers from entries head past up_to_head number clause at =
    elim (up_to_head number clause at) [
      | inl stands ↦ let h : stands.0 < length numbers = slice_get_below numbers stands.0 number stands.2 in absurd (omega (arith, stands.1))
      | inr fine ↦ fine
    ]

-- The entry at the head is taken off the queue: the clauses that it touches are those that the list of its negation
-- has.
pub IsPropagatedUpTo-next : (clauses : List (List Lit)) (lists : Occurrences) (entries : List Entry) (head : ℕ) (e : Entry) (number_list : List ℕ) → FindsBelow clauses (length clauses) lists → slice_get entries head ≡ Some e → number_list ≡ numbers_of lists (negation_of e.literal) → IsPropagatedUpTo clauses entries head → IsPropagatedBut clauses number_list 0 entries (head + 1)
IsPropagatedUpTo-next clauses lists entries head e number_list finds here is up_to_head number clause at =
    elim (up_to_head number clause at) [
      | inl propagated ↦ inr (inl propagated)
      | inr (place, f, from, there, touches) ↦
          elim (cases_order place head) [
            | inl same ↦
                let es : e ≡ f = some_same e f (sym here ∙ ap (slice_get entries) (sym same) ∙ there) in
                let stands = finds.finds number clause (negation_of e.literal) (slice_get_below clauses number clause at) at
                (ap (λ (y : Entry). is_held clause (negation_of y.literal)) es ∙ touches) in
                inl (subst (λ ns. StandsFrom ns 0 number) (sym is) stands)
            | inr (inl less) ↦ absurd (omega arith)
            | inr (inr more) ↦ inr (inr (place, f, omega arith, there, touches))
          ]
    ]

-- once the queue is empty all clauses are propagated
pub AllPropagated-end : (clauses : List (List Lit)) (entries : List Entry) (head : ℕ) → length entries ≤ head → IsPropagatedUpTo clauses entries head → AllPropagated clauses (literals entries)
AllPropagated-end clauses entries head past up_to_head number clause at =
    elim (up_to_head number clause at) [
      | inl propagated ↦ propagated
      | inr (place, e, from, there, touches) ↦ let h : place < length entries = slice_get_below entries place e there in absurd (omega arith)
    ]

-- where all clauses are propagated, propagation has come to each head
pub IsPropagatedUpTo-propagated : (clauses : List (List Lit)) (entries : List Entry) (head : ℕ) → AllPropagated clauses (literals entries) → IsPropagatedUpTo clauses entries head
IsPropagatedUpTo-propagated clauses entries head propagated number clause at = inl (propagated number clause at)
