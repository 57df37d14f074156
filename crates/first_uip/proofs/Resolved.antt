-- The kept literals derive the conflict by the reasons of the resolved entries, in the order of the trail.
use Rattle.first_uip.proofs.Common.{◌≡◌, ℕ, zero, suc, ◌<◌, ◌≤◌, Bool, true, false, cond, List, [], ◌∷◌, ◌++◌, Some, length, take, refl, sym, ap, ◌∙◌, arith, inl, inr, subst, slice_get, ◌⊎◌, filter_map, or_cases, or_left, or_right, cases_Bool, cases_order, true≢false, filter-append, append-nil, take_all, Lit, negation_of, is_same, Derives, HintsRefute, NamesFalse, IsUnit, is_held, is_false, is_same-self, is_same-true, falsified_each, unit_only, IsFalsified-agree, IsUnit-agree, HeldWithin, HeldWithin-cons, not_held, Derives-push, Entry, Cause, Reason, literals, reasons, reason_of, take_next, element_at, slice_get_take, some_same, Consistent, not_held_nil, literal_at, reasons-append, EachForced, Role, Unseen, Resolved, Kept, part_of, role_of, is_seen, is_kept, is_resolved, resolved_entries, IsResolution, NamesSeen}

-- each literal that is held stands at some place of the trail
pub held_place : (entries : List Entry) (l : Lit) → is_held (literals entries) l ≡ true → (place : ℕ) × (e : Entry) × (slice_get entries place ≡ Some e) × (e.literal ≡ l)
held_place [] l h = absurd (not_held_nil l h)
held_place (f ∷ fs) l h =
    elim (or_cases (is_same l f.literal) (is_held (literals fs) l) h) [
      | inl same ↦ (0, f, refl, sym (is_same-true l f.literal same))
      | inr rest ↦ let (place, e, at, is) = held_place fs l rest in (suc place, e, at, is)
    ]

kept_isnt_resolved : (r : Role) → is_kept r ≡ true → is_resolved r ≡ false
kept_isnt_resolved Unseen h = refl
kept_isnt_resolved Resolved h = absurd (true≢false (sym h))
kept_isnt_resolved Kept h = refl

seen_or_not : (r : Role) → (is_seen r ≡ false) ⊎ ((is_kept r ≡ true) ⊎ ((is_seen r ≡ true) × (is_kept r ≡ false) × (is_resolved r ≡ true)))
seen_or_not Unseen = inl refl
seen_or_not Resolved = inr (inr (refl, refl, refl))
seen_or_not Kept = inr (inl refl)

unseen_isnt_resolved : (r : Role) → is_seen r ≡ false → is_resolved r ≡ false
unseen_isnt_resolved Unseen h = refl
unseen_isnt_resolved Resolved h = absurd (true≢false h)
unseen_isnt_resolved Kept h = refl

held_after : (held after : List Lit) (l : Lit) → HeldWithin held after → HeldWithin held (l ∷ after)
held_after held after l h = record { each = λ m is. or_right (is_same m l) (is_held after m) (h.each m is) }

-- the reasons of the resolved entries among the first n, and that of the next one where it is resolved
next_reasons : (entries : List Entry) (roles : List Role) (n : ℕ) (e : Entry) (b : Bool) → slice_get entries n ≡ Some e → is_resolved (part_of roles e) ≡ b → reasons (resolved_entries roles (take (suc n) entries)) ≡ reasons (resolved_entries roles (take n entries)) ++ reasons (cond b (e ∷ []) [])
next_reasons entries roles n e b at is =
    ap (λ es. reasons (resolved_entries roles es)) (take_next entries n e at)
    ∙ ap reasons (filter-append (λ (f : Entry). is_resolved (part_of roles f)) (take n entries) (e ∷ []))
    ∙ reasons-append (resolved_entries roles (take n entries)) (resolved_entries roles (e ∷ []))
    ∙ ap (λ c. reasons (resolved_entries roles (take n entries)) ++ reasons (cond c (e ∷ []) [])) is

-- the clause number of a cause that is a reason, and none of a decision
abbrev named_by : Cause → List ℕ
named_by cause = filter_map reason_of (cause ∷ [])

-- the literals that are given, with the reasons of the resolved entries among the first n, derive each seen entry among
-- these
pub record DerivesSeen (clauses : List (List Lit)) (entries : List Entry) (roles : List Role) (given : List Lit) (n : ℕ) : Type 0 where
  pub after : List Lit
  pub derived : Derives clauses given (reasons (resolved_entries roles (take n entries))) after
  pub kept : HeldWithin given after
  pub first : (place : ℕ) (e : Entry) → place < n → slice_get entries place ≡ Some e → is_seen (part_of roles e) ≡ true → is_held after e.literal ≡ true
  pub within : HeldWithin after (literals entries)

module _ (clauses : List (List Lit)) (entries : List Entry) (roles : List Role) (given : List Lit) (conflict : ℕ) (forced : EachForced clauses entries) (ok : Consistent (literals entries)) (resolution : IsResolution clauses entries conflict 0 roles) (given_kept : (place : ℕ) (e : Entry) → slice_get entries place ≡ Some e → is_kept (part_of roles e) ≡ true → is_held given e.literal ≡ true) (given_within : HeldWithin given (literals entries)) where
  -- a literal of a seen variable that the first entries make false is false in the derived state
  false_after : (n : ℕ) (so_far : DerivesSeen clauses entries roles given n) (m : Lit) → is_seen (role_of roles m.variable) ≡ true → is_false (literals (take n entries)) m ≡ true → is_false so_far.after m ≡ true
  false_after n so_far m seen closed =
      let (place, f, at, is) = held_place (take n entries) (negation_of m) closed in
      let (there, below) = slice_get_take n entries place f at in
      let same : f.literal.variable ≡ m.variable = ap (λ (k : Lit). k.variable) is in
      sym (ap (is_held so_far.after) is) ∙ so_far.first place f below there (ap (λ v. is_seen (role_of roles v)) same ∙ seen)

  -- the next entry isn't resolved: it isn't seen, or it is kept and so given
  derives_same : (n : ℕ) (e : Entry) → slice_get entries n ≡ Some e → is_resolved (part_of roles e) ≡ false → (so_far : DerivesSeen clauses entries roles given n) → (is_seen (part_of roles e) ≡ true → is_held so_far.after e.literal ≡ true) → DerivesSeen clauses entries roles given (suc n)
  derives_same n e at other so_far here =
      let same : reasons (resolved_entries roles (take (suc n) entries)) ≡ reasons (resolved_entries roles (take n entries)) =
      next_reasons entries roles n e false at other ∙ append-nil (reasons (resolved_entries roles (take n entries))) in
      record {
        after = so_far.after;
        derived = subst (λ ns. Derives clauses given ns so_far.after) (sym same) so_far.derived;
        kept = so_far.kept;
        first = λ place f below there seen.
            elim (cases_order place n) [
              | inl last ↦
                  let is : e ≡ f = some_same e f (sym at ∙ ap (slice_get entries) (sym last) ∙ there) in
                  subst (λ (g : Entry). is_held so_far.after g.literal ≡ true) is (here (ap (λ (g : Entry). is_seen (part_of roles g)) is ∙ seen))
              | inr (inl less) ↦ so_far.first place f less there seen
              | inr (inr more) ↦ absurd (omega arith)
            ];
        within = so_far.within;
      }

  -- the next entry is resolved: its reason derives it
  derives_forced : (n : ℕ) (e : Entry) (number : ℕ) → slice_get entries n ≡ Some e → e.cause ≡ Reason number → is_resolved (part_of roles e) ≡ true → NamesSeen clauses roles number → DerivesSeen clauses entries roles given n → DerivesSeen clauses entries roles given (suc n)
  derives_forced n e number at is resolved names so_far =
      let l = e.literal in
      let after = so_far.after in
      let before = literals (take n entries) in
      let (clause, named, unit) = forced.each n e number at is in
      let held : is_held (literals entries) l ≡ true = literal_at entries n e at in
      let kept : is_false after l ≡ false = not_held after (literals entries) (negation_of l) so_far.within (ok.each l held) in
      let covered = names clause named in
      let agree : (m : Lit) → is_held clause m ≡ true → is_false after m ≡ is_false before m =
      λ m stands.
      elim (cases_Bool (is_false before m)) [
        | inl closed ↦ false_after n so_far m (covered m stands) closed ∙ sym closed
        | inr free ↦ ap (is_false after) (unit_only before clause l m unit stands free) ∙ kept ∙ sym free
      ] in
      let still : IsUnit after clause l = IsUnit-agree before after clause l agree unit in
      let numbers : reasons (resolved_entries roles (take (suc n) entries)) ≡ reasons (resolved_entries roles (take n entries)) ++ number ∷ [] =
      next_reasons entries roles n e true at resolved ∙ ap (λ c. reasons (resolved_entries roles (take n entries)) ++ named_by c) is in
      record {
        after = l ∷ after;
        derived =
            subst (λ ns. Derives clauses given ns (l ∷ after)) (sym numbers)
            (Derives-push clauses given (reasons (resolved_entries roles (take n entries))) after number l so_far.derived (clause, named, still));
        kept = held_after given after l so_far.kept;
        first = λ place f below there seen.
            elim (cases_order place n) [
              | inl last ↦
                  let same : e ≡ f = some_same e f (sym at ∙ ap (slice_get entries) (sym last) ∙ there) in
                  subst (λ (g : Entry). is_held (l ∷ after) g.literal ≡ true) same (or_left (is_same l l) (is_held after l) (is_same-self l))
              | inr (inl less) ↦ or_right (is_same f.literal l) (is_held after f.literal) (so_far.first place f less there seen)
              | inr (inr more) ↦ absurd (omega arith)
            ];
        within = HeldWithin-cons l after (literals entries) held so_far.within;
      }

  derives_next : (n : ℕ) (e : Entry) → slice_get entries n ≡ Some e → DerivesSeen clauses entries roles given n → DerivesSeen clauses entries roles given (suc n)
  derives_next n e at so_far =
      elim (seen_or_not (part_of roles e)) [
        | inl unseen ↦ derives_same n e at (unseen_isnt_resolved (part_of roles e) unseen) so_far (λ seen. absurd (true≢false (sym seen ∙ unseen)))
        | inr (inl is_given) ↦ derives_same n e at (kept_isnt_resolved (part_of roles e) is_given) so_far (λ seen. so_far.kept.each e.literal (given_kept n e at is_given))
        | inr (inr (seen, free, resolved)) ↦
            let (number, cause, names) = resolution.reasons_too n e (omega arith) at seen free in derives_forced n e number at cause resolved names so_far
      ]

  derives_first : (n : ℕ) → n ≤ length entries → DerivesSeen clauses entries roles given n
  derives_first zero within =
      record {
        after = given;
        derived = refl;
        kept = record { each = λ l h. h };
        first = λ place e below there seen. absurd (omega arith);
        within = given_within;
      }
  derives_first (suc n) within = let (e, at) = element_at entries n (omega arith) in derives_next n e at (derives_first n (omega arith))

  -- the reasons of the resolved entries, and then the clause that is false, refute the kept literals
  pub kept_refuted : NamesFalse clauses (literals entries) conflict → HintsRefute clauses given (reasons (resolved_entries roles entries) ++ conflict ∷ [])
  kept_refuted (clause, named, none) =
      let d = derives_first (length entries) (omega arith) in
      let whole : take (length entries) entries ≡ entries = take_all (length entries) entries (omega arith) in
      let agree : (m : Lit) → is_held clause m ≡ true → is_false d.after m ≡ is_false (literals entries) m =
      λ m stands.
      let closed = falsified_each (literals entries) clause m none stands in
      false_after (length entries) d m (resolution.falsified clause named m stands) (ap (λ es. is_false (literals es) m) whole ∙ closed) ∙ sym closed in (
        reasons (resolved_entries roles entries),
        conflict,
        d.after,
        refl,
        subst (λ es. Derives clauses given (reasons (resolved_entries roles es)) d.after) whole d.derived,
        (clause, named, IsFalsified-agree (literals entries) d.after clause agree none),
      )
