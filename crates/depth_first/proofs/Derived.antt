-- What unit propagation derives from the decisions of a trail.
use Rattle.depth_first.proofs.Common.{◌≡◌, ℕ, zero, suc, ◌<◌, ◌≤◌, Bool, true, false, cond, List, [], ◌∷◌, ◌++◌, Some, length, take, filter, refl, sym, ap, ◌∙◌, arith, inl, inr, subst, slice_get, filter_map, or_cases, or_left, or_right, cases_Bool, cases_order, true≢false, filter-append, append-nil, take_all, Lit, negation_of, is_same, Derives, HintsRefute, NamesFalse, IsUnit, is_held, is_false, is_same-self, is_same-true, falsified_each, unit_only, IsFalsified-agree, IsUnit-agree, HeldWithin, HeldWithin-cons, not_held, Derives-push, Entry, Cause, InputDecision, NonInputDecision, Reason, literals, decisions, reasons, is_decision, reason_of, EachForced, is_marked, marked_entries, IsInvolved}
use Rattle.depth_first.proofs.Lists.{take_next, element_at, slice_get_take, some_same}
use Rattle.depth_first.proofs.HeldLists.{Consistent, not_held_nil, literal_at}
use Rattle.depth_first.proofs.Decisions.{reasons-append}

-- the clause number of a cause that is a reason, and none of a decision
abbrev filter_one : Cause → List ℕ
filter_one cause = filter_map reason_of (cause ∷ [])

keep_one : (b : Bool) (e : Entry) (ds : List Entry) (ls : List Lit) (l : Lit) → (is_held (literals ds) l ≡ true → is_held ls l ≡ true) → is_held (literals (cond b (e ∷ ds) ds)) l ≡ true → is_held (e.literal ∷ ls) l ≡ true
keep_one true e ds ls l h is =
    elim (or_cases (is_same l e.literal) (is_held (literals ds) l) is) [
      | inl same ↦ or_left (is_same l e.literal) (is_held ls l) same
      | inr rest ↦ or_right (is_same l e.literal) (is_held ls l) (h rest)
    ]
keep_one false e ds ls l h is = or_right (is_same l e.literal) (is_held ls l) (h is)

-- each decision is held in the trail
pub decision_held : (entries : List Entry) (l : Lit) → is_held (decisions entries) l ≡ true → is_held (literals entries) l ≡ true
decision_held [] l h = h
decision_held (e ∷ es) l h =
    keep_one (is_decision e.cause) e (filter (λ (f : Entry). is_decision f.cause) es) (literals es) l (decision_held es l) h

pub HeldWithin-decisions : (entries : List Entry) → HeldWithin (decisions entries) (literals entries)
HeldWithin-decisions entries = record { each = decision_held entries }

kept_or_not : (b : Bool) (e : Entry) (ds : List Entry) (l : Lit) → is_held (literals ds) l ≡ true → is_held (literals (cond b (e ∷ ds) ds)) l ≡ true
kept_or_not true e ds l h = or_right (is_same l e.literal) (is_held (literals ds) l) h
kept_or_not false e ds l h = h

-- an entry that was decided is among the decisions
pub decision_at : (entries : List Entry) (place : ℕ) (e : Entry) → slice_get entries place ≡ Some e → is_decision e.cause ≡ true → is_held (decisions entries) e.literal ≡ true
decision_at [] place e at is = cc
decision_at (f ∷ fs) zero e at is =
    let same : f ≡ e = cc in
    let rest = filter (λ (g : Entry). is_decision g.cause) fs in
    let decided : is_decision f.cause ≡ true = ap (λ (g : Entry). is_decision g.cause) same ∙ is in
    ap (λ b. is_held (literals (cond b (f ∷ rest) rest)) e.literal) decided
    ∙ or_left (is_same e.literal f.literal) (is_held (literals rest) e.literal) (ap (λ (g : Entry). is_same e.literal g.literal) same ∙ is_same-self e.literal)
decision_at (f ∷ fs) (suc place) e at is =
    kept_or_not (is_decision f.cause) f (filter (λ (g : Entry). is_decision g.cause) fs) e.literal (decision_at fs place e at is)

-- each literal that is held stands at some place of the trail
held_place : (entries : List Entry) (l : Lit) → is_held (literals entries) l ≡ true → (place : ℕ) × (e : Entry) × (slice_get entries place ≡ Some e) × (e.literal ≡ l)
held_place [] l h = absurd (not_held_nil l h)
held_place (f ∷ fs) l h =
    elim (or_cases (is_same l f.literal) (is_held (literals fs) l) h) [
      | inl same ↦ (0, f, refl, sym (is_same-true l f.literal same))
      | inr rest ↦ let (place, e, at, is) = held_place fs l rest in (suc place, e, at, is)
    ]

-- From the decisions alone, the reasons of the marked entries among the first n derive a state that holds all these
-- marked entries, and nothing that the trail doesn't hold.
pub record DerivesFirst (clauses : List (List Lit)) (entries : List Entry) (marks : List Bool) (n : ℕ) : Type 0 where
  pub after : List Lit
  pub derived : Derives clauses (decisions entries) (reasons (marked_entries marks (take n entries))) after
  pub decided : HeldWithin (decisions entries) after
  pub first : (place : ℕ) (e : Entry) → place < n → slice_get entries place ≡ Some e → is_marked marks e.literal.variable ≡ true → is_held after e.literal ≡ true
  pub within : HeldWithin after (literals entries)

pub next_reasons : (entries : List Entry) (marks : List Bool) (n : ℕ) (e : Entry) (b : Bool) → slice_get entries n ≡ Some e → is_marked marks e.literal.variable ≡ b → reasons (marked_entries marks (take (suc n) entries)) ≡ reasons (marked_entries marks (take n entries)) ++ reasons (cond b (e ∷ []) [])
next_reasons entries marks n e b at is =
    ap (λ es. reasons (marked_entries marks es)) (take_next entries n e at)
    ∙ ap reasons (filter-append (λ (f : Entry). is_marked marks f.literal.variable) (take n entries) (e ∷ []))
    ∙ reasons-append (marked_entries marks (take n entries)) (marked_entries marks (e ∷ []))
    ∙ ap (λ c. reasons (marked_entries marks (take n entries)) ++ reasons (cond c (e ∷ []) [])) is

held_after : (held after : List Lit) (l : Lit) → HeldWithin held after → HeldWithin held (l ∷ after)
held_after held after l h = record { each = λ m is. or_right (is_same m l) (is_held after m) (h.each m is) }

module _ (clauses : List (List Lit)) (entries : List Entry) (marks : List Bool) (conflict : ℕ) (forced : EachForced clauses entries) (ok : Consistent (literals entries)) (involved : IsInvolved clauses entries conflict 0 marks) where
  -- a literal of a marked variable that the first entries make false is false in the derived state
  false_after : (n : ℕ) (so_far : DerivesFirst clauses entries marks n) (m : Lit) → is_marked marks m.variable ≡ true → is_false (literals (take n entries)) m ≡ true → is_false so_far.after m ≡ true
  false_after n so_far m marked closed =
      let (place, f, at, is) = held_place (take n entries) (negation_of m) closed in
      let (there, below) = slice_get_take n entries place f at in
      let same : f.literal.variable ≡ m.variable = ap (λ (k : Lit). k.variable) is in
      sym (ap (is_held so_far.after) is) ∙ so_far.first place f below there (ap (is_marked marks) same ∙ marked)

  -- the next entry adds no reason: it was decided, or its variable isn't marked
  derives_same : (n : ℕ) (e : Entry) → slice_get entries n ≡ Some e → reasons (marked_entries marks (take (suc n) entries)) ≡ reasons (marked_entries marks (take n entries)) → (so_far : DerivesFirst clauses entries marks n) → (is_marked marks e.literal.variable ≡ true → is_held so_far.after e.literal ≡ true) → DerivesFirst clauses entries marks (suc n)
  derives_same n e at same so_far here =
      record {
        after = so_far.after;
        derived = subst (λ ns. Derives clauses (decisions entries) ns so_far.after) (sym same) so_far.derived;
        decided = so_far.decided;
        first = λ place f below there marked.
            elim (cases_order place n) [
              | inl last ↦
                  let is : e ≡ f = some_same e f (sym at ∙ ap (slice_get entries) (sym last) ∙ there) in
                  subst (λ (g : Entry). is_held so_far.after g.literal ≡ true) is (here (ap (λ (g : Entry). is_marked marks g.literal.variable) is ∙ marked))
              | inr (inl less) ↦ so_far.first place f less there marked
              | inr (inr more) ↦ absurd (omega arith)
            ];
        within = so_far.within;
      }

  -- the next entry is marked, and its reason derives it
  derives_forced : (n : ℕ) (e : Entry) (number : ℕ) → slice_get entries n ≡ Some e → e.cause ≡ Reason number → is_marked marks e.literal.variable ≡ true → DerivesFirst clauses entries marks n → DerivesFirst clauses entries marks (suc n)
  derives_forced n e number at is marked so_far =
      let l = e.literal in
      let after = so_far.after in
      let before = literals (take n entries) in
      let (clause, named, unit) = forced.each n e number at is in
      let held : is_held (literals entries) l ≡ true = literal_at entries n e at in
      let kept : is_false after l ≡ false = not_held after (literals entries) (negation_of l) so_far.within (ok.each l held) in
      let covered = involved.reasons_too n e number (omega arith) at is marked clause named in
      let agree : (m : Lit) → is_held clause m ≡ true → is_false after m ≡ is_false before m =
      λ m stands.
      elim (cases_Bool (is_false before m)) [
        | inl closed ↦ false_after n so_far m (covered m stands) closed ∙ sym closed
        | inr free ↦ ap (is_false after) (unit_only before clause l m unit stands free) ∙ kept ∙ sym free
      ] in
      let still : IsUnit after clause l = IsUnit-agree before after clause l agree unit in
      let numbers : reasons (marked_entries marks (take (suc n) entries)) ≡ reasons (marked_entries marks (take n entries)) ++ number ∷ [] =
      next_reasons entries marks n e true at marked ∙ ap (λ c. reasons (marked_entries marks (take n entries)) ++ filter_one c) is in
      record {
        after = l ∷ after;
        derived =
            subst (λ ns. Derives clauses (decisions entries) ns (l ∷ after)) (sym numbers)
            (Derives-push clauses (decisions entries) (reasons (marked_entries marks (take n entries))) after number l so_far.derived (clause, named, still));
        decided = held_after (decisions entries) after l so_far.decided;
        first = λ place f below there is_in.
            elim (cases_order place n) [
              | inl last ↦
                  let same : e ≡ f = some_same e f (sym at ∙ ap (slice_get entries) (sym last) ∙ there) in
                  subst (λ (g : Entry). is_held (l ∷ after) g.literal ≡ true) same (or_left (is_same l l) (is_held after l) (is_same-self l))
              | inr (inl less) ↦ or_right (is_same f.literal l) (is_held after f.literal) (so_far.first place f less there is_in)
              | inr (inr more) ↦ absurd (omega arith)
            ];
        within = HeldWithin-cons l after (literals entries) held so_far.within;
      }

  none_more : (b : Bool) (e : Entry) → filter_one e.cause ≡ [] → reasons (cond b (e ∷ []) []) ≡ []
  none_more true e none = none
  none_more false e none = refl

  derives_decision : (n : ℕ) (e : Entry) (cause : Cause) → slice_get entries n ≡ Some e → e.cause ≡ cause → is_decision cause ≡ true → filter_one cause ≡ [] → DerivesFirst clauses entries marks n → DerivesFirst clauses entries marks (suc n)
  derives_decision n e cause at is decided none so_far =
      let b = is_marked marks e.literal.variable in
      derives_same n e at
      (next_reasons entries marks n e b at refl
      ∙ ap (λ ns. reasons (marked_entries marks (take n entries)) ++ ns) (none_more b e (ap filter_one is ∙ none))
      ∙ append-nil (reasons (marked_entries marks (take n entries)))) so_far
      (λ marked. so_far.decided.each e.literal (decision_at entries n e at (ap is_decision is ∙ decided)))

  derives_next : (n : ℕ) (e : Entry) (cause : Cause) → slice_get entries n ≡ Some e → e.cause ≡ cause → DerivesFirst clauses entries marks n → DerivesFirst clauses entries marks (suc n)
  derives_next n e InputDecision at is so_far = derives_decision n e InputDecision at is refl refl so_far
  derives_next n e NonInputDecision at is so_far = derives_decision n e NonInputDecision at is refl refl so_far
  derives_next n e (Reason number) at is so_far =
      elim (cases_Bool (is_marked marks e.literal.variable)) [
        | inl marked ↦ derives_forced n e number at is marked so_far
        | inr free ↦
            derives_same n e at (next_reasons entries marks n e false at free ∙ append-nil (reasons (marked_entries marks (take n entries)))) so_far
            (λ marked. absurd (true≢false (sym marked ∙ free)))
      ]

  derives_first : (n : ℕ) → n ≤ length entries → DerivesFirst clauses entries marks n
  derives_first zero within =
      record {
        after = decisions entries;
        derived = refl;
        decided = record { each = λ l h. h };
        first = λ place e below there marked. absurd (omega arith);
        within = HeldWithin-decisions entries;
      }
  derives_first (suc n) within =
      let (e, at) = element_at entries n (omega arith) in derives_next n e e.cause at refl (derives_first n (omega arith))

  -- the reasons of what a conflict rests on, and then the clause that is false, are hints that refute the decisions
  pub decisions_refuted : NamesFalse clauses (literals entries) conflict → HintsRefute clauses (decisions entries) (reasons (marked_entries marks entries) ++ conflict ∷ [])
  decisions_refuted (clause, named, none) =
      let d = derives_first (length entries) (omega arith) in
      let whole : take (length entries) entries ≡ entries = take_all (length entries) entries (omega arith) in
      let agree : (m : Lit) → is_held clause m ≡ true → is_false d.after m ≡ is_false (literals entries) m =
      λ m stands.
      let closed = falsified_each (literals entries) clause m none stands in
      false_after (length entries) d m (involved.falsified clause named m stands) (ap (λ es. is_false (literals es) m) whole ∙ closed) ∙ sym closed in (
        reasons (marked_entries marks entries),
        conflict,
        d.after,
        refl,
        subst (λ es. Derives clauses (decisions entries) (reasons (marked_entries marks es)) d.after) whole d.derived,
        (clause, named, IsFalsified-agree (literals entries) d.after clause agree none),
      )
