-- How far the entries were propagated, watcher by watcher. An entry is seen once all clauses that watch its negation
-- were looked at.
use Rattle.first_uip.proofs.Common.{◌≡◌, ℕ, suc, ◌+◌, ◌<◌, ◌≤◌, true, false, List, [], ◌∷◌, ◌++◌, Some, length, length-set, take, refl, sym, ap, ◌∙◌, arith, inl, inr, subst, slice_get, ◌⊎◌, swap_remove, cases_Bool, cases_eq, true≢false, false_from_ne_true, take-append-le, take_all, Lit, negation_of, is_held, is_false, negation-negation, HeldWithin, Entry, literals, is_decision, Grows, StandsFrom, IsPropagated, AllPropagated, IsSatisfied, some_same, slice_get_below, slice_get_cases, slice_get_left, take_left, take_next, element_at, Consistent, held_cases, held_one, held_one_same, held_left, held_right, literals-append, HeldWithin-take, HeldWithin-entries, both_held, IsPropagated-from_held, IsPropagated-from_different, stands_cases, Watches, Watched, Alone, Two, watched_literals, numbers_of, IsListed, EachBlocked, IsWatch, EachIsWatch, IsGuarded, EachGuarded, EachLevelGuarded, IsWatchingUpTo, WatchesBoth, MovesWatch, clauses_in, watched_in}
use Rattle.first_uip.proofs.Sets.{slice_get-set_cases, kept_by_drop}
use Rattle.first_uip.proofs.LookLemmas.{NamesSatisfied, other_stands}

satisfied_more : (held all clause : List Lit) → HeldWithin held all → IsSatisfied held clause → IsSatisfied all clause
satisfied_more held all clause more (l, stands, is) = (l, stands, more.each l is)

pub guard_satisfied : (seen held clause : List Lit) (w : Watched) → IsSatisfied held clause → IsGuarded seen held clause w
guard_satisfied seen held clause Alone s = s
guard_satisfied seen held clause (Two a b) s = (λ h. s, λ h. s)

pub guard_grown : (seen held all clause : List Lit) (w : Watched) → HeldWithin held all → IsGuarded seen held clause w → IsGuarded seen all clause w
guard_grown seen held all clause Alone more s = satisfied_more held all clause more s
guard_grown seen held all clause (Two a b) more (first, second) =
    (λ h. satisfied_more held all clause more (first h), λ h. satisfied_more held all clause more (second h))

guard_of_other : (seen held clause : List Lit) (w : Watched) (l other : Lit) → WatchesBoth w l other → IsGuarded seen held clause w → is_false seen other ≡ true → IsSatisfied held clause
guard_of_other seen held clause w l other (inl is) g closed = let both = subst (IsGuarded seen held clause) is g in both.1 closed
guard_of_other seen held clause w l other (inr is) g closed = let both = subst (IsGuarded seen held clause) is g in both.0 closed

-- a literal that is false by one more seen entry was false before, or is the negation of that entry
seen_next : (entries : List Entry) (head : ℕ) (e : Entry) (l : Lit) → slice_get entries head ≡ Some e → is_false (literals (take (head + 1) entries)) l ≡ true → (is_false (literals (take head entries)) l ≡ true) ⊎ (l ≡ negation_of e.literal)
seen_next entries head e l at closed =
    let next : take (head + 1) entries ≡ take head entries ++ e ∷ [] =
    let s : head + 1 ≡ suc head = omega arith in ap (λ n. take n entries) s ∙ take_next entries head e at in
    let split : is_held (literals (take head entries) ++ e.literal ∷ []) (negation_of l) ≡ true =
    sym (ap (λ es. is_held (literals es) (negation_of l)) next ∙ ap (λ ls. is_held ls (negation_of l)) (literals-append (take head entries) (e ∷ []))) ∙ closed in
    elim (held_cases (literals (take head entries)) (e.literal ∷ []) (negation_of l) split) [
      | inl before ↦ inl before
      | inr here ↦ inr (sym (negation-negation l) ∙ ap negation_of (held_one_same e.literal (negation_of l) here))
    ]

-- a clause that doesn't watch the literal that became false is guarded as before
pub guard_next : (entries : List Entry) (head : ℕ) (e : Entry) (held clause : List Lit) (w : Watched) → slice_get entries head ≡ Some e → is_held (watched_literals w) (negation_of e.literal) ≡ false → IsGuarded (literals (take head entries)) held clause w → IsGuarded (literals (take (head + 1) entries)) held clause w
guard_next entries head e held clause Alone at none s = s
guard_next entries head e held clause (Two a b) at none (first, second) =
    let f = negation_of e.literal in (
      λ closed.
          elim (seen_next entries head e a at closed) [
            | inl before ↦ first before
            | inr is ↦ absurd (both_held (a ∷ b ∷ []) f (ap (is_held (a ∷ b ∷ [])) (sym is) ∙ held_left (a ∷ []) (b ∷ []) a (held_one a)) none)
          ],
      λ closed.
          elim (seen_next entries head e b at closed) [
            | inl before ↦ second before
            | inr is ↦ absurd (both_held (a ∷ b ∷ []) f (ap (is_held (a ∷ b ∷ [])) (sym is) ∙ held_right (a ∷ []) (b ∷ []) b (held_one b)) none)
          ],
    )

-- a clause that watches another literal, which isn't false, in place of the false one is guarded
guard_moved : (seen held clause : List Lit) (w : Watched) (l moved other : Lit) → HeldWithin seen held → is_false held moved ≡ false → WatchesBoth w l other → IsGuarded seen held clause w → IsGuarded seen held clause (Two moved other)
guard_moved seen held clause w l moved other within kept both g = (
  λ closed. absurd (both_held held (negation_of moved) (within.each (negation_of moved) closed) kept),
  λ closed. guard_of_other seen held clause w l other both g closed,
)

guard_moved_next : (entries : List Entry) (head : ℕ) (e : Entry) (clause : List Lit) (w : Watched) (moved other : Lit) → slice_get entries head ≡ Some e → is_false (literals entries) moved ≡ false → WatchesBoth w (negation_of e.literal) other → ((other ≡ negation_of e.literal) → ⊥) → IsGuarded (literals (take head entries)) (literals entries) clause w → IsGuarded (literals (take (head + 1) entries)) (literals entries) clause (Two moved other)
guard_moved_next entries head e clause w moved other at kept both differ g = (
  λ closed. absurd (both_held (literals entries) (negation_of moved) ((HeldWithin-take (head + 1) entries).each (negation_of moved) closed) kept),
  λ closed.
      elim (seen_next entries head e other at closed) [
        | inl before ↦ guard_of_other (literals (take head entries)) (literals entries) clause w (negation_of e.literal) other both g before
        | inr is ↦ absurd (differ is)
      ],
)

-- Each clause is guarded, but those with numbers in the list from a place on, which are still to be looked at.
abbrev pub EachGuardedBut : List (List Lit) → List Watched → List ℕ → ℕ → List Lit → List Lit → Type 0
EachGuardedBut clauses watched numbers place seen held =
    (number : ℕ) (clause : List Lit) (w : Watched) → slice_get clauses number ≡ Some clause → slice_get watched number ≡ Some w →
    StandsFrom numbers place number ⊎ IsGuarded seen held clause w

pub EachGuardedBut-start : (clauses : List (List Lit)) (watches : Watches) (entries : List Entry) (head : ℕ) (e : Entry) (falsified : Lit) → slice_get entries head ≡ Some e → falsified ≡ negation_of e.literal → IsListed watches → EachGuarded clauses (watched_in watches.arena) (literals (take head entries)) (literals entries) → EachGuardedBut clauses (watched_in watches.arena) (numbers_of watches falsified) 0 (literals (take (head + 1) entries)) (literals entries)
EachGuardedBut-start clauses watches entries head e falsified here is listed guarded number clause w at at' =
    elim (cases_Bool (is_held (watched_literals w) falsified)) [
      | inl watches_it ↦ inl (listed.each number w falsified at' watches_it)
      | inr none ↦
          inr (guard_next entries head e (literals entries) clause w here (sym (ap (is_held (watched_literals w)) is) ∙ none) (guarded number clause w at at'))
    ]

-- a satisfied clause stays in the list of watchers, and the next one is looked at
pub EachGuardedBut-stays : (clauses : List (List Lit)) (watched : List Watched) (numbers : List ℕ) (place number : ℕ) (seen held all : List Lit) → slice_get numbers place ≡ Some number → HeldWithin held all → NamesSatisfied clauses all number → EachGuardedBut clauses watched numbers place seen held → EachGuardedBut clauses watched numbers (place + 1) seen all
EachGuardedBut-stays clauses watched numbers place number seen held all here more satisfied but n clause w at at' =
    elim (but n clause w at at') [
      | inl stands ↦
          elim (stands_cases numbers place number n here stands) [
            | inl same ↦ inr (guard_satisfied seen all clause w (satisfied clause (sym (ap (slice_get clauses) same) ∙ at)))
            | inr later ↦ inl later
          ]
      | inr g ↦ inr (guard_grown seen held all clause w more g)
    ]

-- a guarded clause is dropped from the list of watchers, and the last one is looked at in its place
pub EachGuardedBut-leaves : (clauses : List (List Lit)) (watched new : List Watched) (numbers left : List ℕ) (place number : ℕ) (seen held : List Lit) → slice_get numbers place ≡ Some number → left ≡ swap_remove numbers place 0 → ((n : ℕ) (w : Watched) → (n ≡ number → ⊥) → slice_get new n ≡ Some w → slice_get watched n ≡ Some w) → ((clause : List Lit) (w : Watched) → slice_get clauses number ≡ Some clause → slice_get new number ≡ Some w → IsGuarded seen held clause w) → EachGuardedBut clauses watched numbers place seen held → EachGuardedBut clauses new left place seen held
EachGuardedBut-leaves clauses watched new numbers left place number seen held here drops others guarded but n clause w at at' =
    elim (cases_eq n number) [
      | inl same ↦ inr (guarded clause w (sym (ap (slice_get clauses) same) ∙ at) (sym (ap (slice_get new) same) ∙ at'))
      | inr differ ↦
          elim (but n clause w at (others n w differ at')) [
            | inl (k, past, there) ↦
                let elsewhere : k ≡ place → ⊥ = λ q. differ (some_same n number (sym there ∙ ap (slice_get numbers) q ∙ here)) in
                let (j, from, stands) = kept_by_drop numbers place (slice_get_below numbers place number here) k n elsewhere there in
                inl (j, from past, ap (λ ns. slice_get ns j) drops ∙ stands)
            | inr g ↦ inr g
          ]
    ]

pub EachGuardedBut-end : (clauses : List (List Lit)) (watched : List Watched) (numbers : List ℕ) (place : ℕ) (seen held : List Lit) → length numbers ≤ place → EachGuardedBut clauses watched numbers place seen held → EachGuarded clauses watched seen held
EachGuardedBut-end clauses watched numbers place seen held past but number clause w at at' =
    elim (but number clause w at at') [
      | inl (k, from, there) ↦ let below : k < length numbers = slice_get_below numbers k number there in absurd (omega arith)
      | inr g ↦ g
    ]

pub EachGuarded-grown : (clauses : List (List Lit)) (watched : List Watched) (seen held all : List Lit) → HeldWithin held all → EachGuarded clauses watched seen held → EachGuarded clauses watched seen all
EachGuarded-grown clauses watched seen held all more guarded number clause w at at' = guard_grown seen held all clause w more (guarded number clause w at at')

-- a trail that grew by propagation has the same levels before the last
pub EachLevelGuarded-grown : (clauses : List (List Lit)) (watched : List Watched) (old new : List Entry) → Grows clauses old new → EachLevelGuarded clauses watched old → EachLevelGuarded clauses watched new
EachLevelGuarded-grown clauses watched old new g levels place e at decides =
    let split : slice_get (old ++ g.more) place ≡ Some e = sym (ap (λ es. slice_get es place) g.is) ∙ at in
    elim (slice_get_cases old g.more place e split) [
      | inl before ↦
          let same : take place new ≡ take place old = ap (take place) g.is ∙ take_left old g.more place e before in
          subst (λ es. EachGuarded clauses watched (literals es) (literals es)) (sym same) (levels place e before decides)
      | inr (j, is, later) ↦ absurd (true≢false (sym decides ∙ ap is_decision (g.forced j e later).1))
    ]

-- one clause watches another literal in place of a false one
module _ (clauses : List (List Lit)) (held : List Lit) (old new : List Watched) (number : ℕ) (l : Lit) (moves : MovesWatch clauses held old new number l) where
  after_move : (n : ℕ) (w : Watched) → slice_get new n ≡ Some w → ((n ≡ number) × (Two moves.moved moves.other ≡ w)) ⊎ (((n ≡ number) → ⊥) × (slice_get old n ≡ Some w))
  after_move n w at =
      slice_get-set_cases old number n (Two moves.moved moves.other) w (slice_get_below old number moves.watch moves.before) (sym (ap (λ ws. slice_get ws n) moves.after) ∙ at)

  pub others_stay : (n : ℕ) (w : Watched) → ((n ≡ number) → ⊥) → slice_get new n ≡ Some w → slice_get old n ≡ Some w
  others_stay n w differ at = elim (after_move n w at) [ inl (same, is) ↦ absurd (differ same) | inr (other, there) ↦ there ]

  pub EachIsWatch-moved : EachIsWatch clauses old → EachIsWatch clauses new
  EachIsWatch-moved each n clause w at at' =
      elim (after_move n w at') [
        | inl (same, is) ↦
            let there : slice_get clauses number ≡ Some clause = sym (ap (slice_get clauses) same) ∙ at in
            subst (IsWatch clause) is
            (moves.stands clause there, (other_stands clause moves.watch l moves.other (each number clause moves.watch there moves.before) moves.both).0, moves.differs)
        | inr (other, there) ↦ each n clause w at there
      ]

  pub EachGuarded-moved : (seen all : List Lit) → HeldWithin all held → HeldWithin seen all → EachGuarded clauses old seen all → EachGuarded clauses new seen all
  EachGuarded-moved seen all less within guarded n clause w at at' =
      elim (after_move n w at') [
        | inl (same, is) ↦
            let there : slice_get clauses number ≡ Some clause = sym (ap (slice_get clauses) same) ∙ at in
            let kept : is_false all moves.moved ≡ false =
            elim (cases_Bool (is_false all moves.moved)) [
              | inl closed ↦ absurd (both_held held (negation_of moves.moved) (less.each (negation_of moves.moved) closed) moves.not_false)
              | inr kept ↦ kept
            ] in
            subst (IsGuarded seen all clause) is
            (guard_moved seen all clause moves.watch l moves.moved moves.other within kept moves.both (guarded number clause moves.watch there moves.before))
        | inr (other, there) ↦ guarded n clause w at there
      ]

pub EachLevelGuarded-moved : (clauses : List (List Lit)) (entries : List Entry) (old new : List Watched) (number : ℕ) (l : Lit) → MovesWatch clauses (literals entries) old new number l → EachLevelGuarded clauses old entries → EachLevelGuarded clauses new entries
EachLevelGuarded-moved clauses entries old new number l moves levels place e at decides =
    let first = literals (take place entries) in
    EachGuarded-moved clauses (literals entries) old new number l moves first first (HeldWithin-take place entries) (record { each = λ m h. h }) (levels place e at decides)

-- the clause that watches another literal is guarded
pub moved_guarded : (clauses : List (List Lit)) (entries : List Entry) (head : ℕ) (e : Entry) (falsified : Lit) (old new : List Watched) (number : ℕ) → slice_get entries head ≡ Some e → falsified ≡ negation_of e.literal → MovesWatch clauses (literals entries) old new number falsified → EachIsWatch clauses old → EachGuarded clauses old (literals (take head entries)) (literals entries) → (clause : List Lit) (w : Watched) → slice_get clauses number ≡ Some clause → slice_get new number ≡ Some w → IsGuarded (literals (take (head + 1) entries)) (literals entries) clause w
moved_guarded clauses entries head e falsified old new number here is moves each guarded clause w at at' =
    elim (after_move clauses (literals entries) old new number falsified moves number w at') [
      | inl (same, now) ↦
          let both : WatchesBoth moves.watch (negation_of e.literal) moves.other = subst (λ l. WatchesBoth moves.watch l moves.other) is moves.both in
          subst (IsGuarded (literals (take (head + 1) entries)) (literals entries) clause) now
          (guard_moved_next entries head e clause moves.watch moves.moved moves.other here moves.not_false both
          (other_stands clause moves.watch (negation_of e.literal) moves.other (each number clause moves.watch at moves.before) both).1
          (guarded number clause moves.watch at moves.before))
      | inr (other, there) ↦ absurd (other refl)
    ]

-- the first entries of a trail are those of the trail that it grew to
pub take_grown : (clauses : List (List Lit)) (old new : List Entry) (n : ℕ) → Grows clauses old new → n ≤ length old → take n new ≡ take n old
take_grown clauses old new n g within = ap (take n) g.is ∙ take-append-le n old g.more within

pub HeldWithin-grown : (clauses : List (List Lit)) (old new : List Entry) → Grows clauses old new → HeldWithin (literals old) (literals new)
HeldWithin-grown clauses old new g = subst (λ es. HeldWithin (literals old) (literals es)) (sym g.is) (HeldWithin-entries old g.more)

-- where all clauses are guarded by all entries, the state is closed under unit propagation
pub AllPropagated-from_guarded : (clauses : List (List Lit)) (watched : List Watched) (held : List Lit) → Consistent held → length watched ≡ length clauses → EachIsWatch clauses watched → EachGuarded clauses watched held held → AllPropagated clauses held
AllPropagated-from_guarded clauses watched held ok count each guarded number clause at =
    let (w, at') = element_at watched number (omega (arith, count, slice_get_below clauses number clause at)) in
    settled w (each number clause w at at') (guarded number clause w at at')
  where
    by_satisfied : IsSatisfied held clause → IsPropagated held clause
    by_satisfied (l, stands, is) = IsPropagated-from_held held clause l ok stands is

    settled : (w : Watched) → IsWatch clause w → IsGuarded held held clause w → IsPropagated held clause
    settled Alone watch s = by_satisfied s
    settled (Two a b) (in_a, in_b, differ) (first, second) =
        elim (cases_Bool (is_false held a)) [
          | inl closed ↦ by_satisfied (first closed)
          | inr open_a ↦
              elim (cases_Bool (is_false held b)) [
                | inl closed ↦ by_satisfied (second closed)
                | inr open_b ↦ IsPropagated-from_different held clause a b in_a open_a in_b open_b differ
              ]
        ]

pub slice_get_grown : (clauses : List (List Lit)) (old new : List Entry) (n : ℕ) (e : Entry) → Grows clauses old new → slice_get old n ≡ Some e → slice_get new n ≡ Some e
slice_get_grown clauses old new n e g at = ap (λ es. slice_get es n) g.is ∙ slice_get_left old g.more n e at

-- the watches after a clause was looked at that stays in the list of watchers
pub IsWatchingUpTo-stays : (clauses : List (List Lit)) (old new : Watches) (before after : List Entry) (head : ℕ) → head ≤ length before → Grows clauses before after → clauses_in new.arena ≡ clauses → watched_in new.arena ≡ watched_in old.arena → IsListed new → EachBlocked clauses new → IsWatchingUpTo clauses old before head → IsWatchingUpTo clauses new after head
IsWatchingUpTo-stays clauses old new before after head within g unchanged same listed blocked w =
    record {
      watching =
          record {
            same = unchanged;
            blocked = blocked;
            count = ap length same ∙ w.watching.count;
            each = subst (EachIsWatch clauses) (sym same) w.watching.each;
            listed = listed;
            levels = subst (λ ws. EachLevelGuarded clauses ws after) (sym same) (EachLevelGuarded-grown clauses (watched_in old.arena) before after g w.watching.levels);
          };
      guarded =
          subst (λ ws. EachGuarded clauses ws (literals (take head after)) (literals after)) (sym same)
          (subst (λ es. EachGuarded clauses (watched_in old.arena) (literals es) (literals after)) (sym (take_grown clauses before after head g within))
          (EachGuarded-grown clauses (watched_in old.arena) (literals (take head before)) (literals before) (literals after) (HeldWithin-grown clauses before after g) w.guarded));
    }

-- The clause of this number doesn't watch the literal, or watches another one in its place.
abbrev pub LeavesWatch : List (List Lit) → List Lit → List Watched → List Watched → ℕ → Lit → Type 0
LeavesWatch clauses held old new number l =
    ((new ≡ old) × ((w : Watched) → slice_get old number ≡ Some w → is_held (watched_literals w) l ≡ false)) ⊎ MovesWatch clauses held old new number l

not_among : (a b l : Lit) → (l ≡ a → ⊥) → (l ≡ b → ⊥) → is_held (a ∷ b ∷ []) l ≡ false
not_among a b l not_a not_b =
    false_from_ne_true (is_held (a ∷ b ∷ []) l) (λ is.
    elim (held_cases (a ∷ []) (b ∷ []) l is) [ inl one ↦ not_a (held_one_same a l one) | inr two ↦ not_b (held_one_same b l two) ])

-- such a clause doesn't watch the literal in the end
pub leaves_unwatched : (clauses : List (List Lit)) (held : List Lit) (old new : List Watched) (number : ℕ) (l : Lit) → is_false held l ≡ true → number < length clauses → EachIsWatch clauses old → LeavesWatch clauses held old new number l → (w : Watched) → slice_get new number ≡ Some w → is_held (watched_literals w) l ≡ false
leaves_unwatched clauses held old new number l closed within each (inl (same, none)) w at = none w (sym (ap (λ ws. slice_get ws number) same) ∙ at)
leaves_unwatched clauses held old new number l closed within each (inr moves) w at =
    elim (after_move clauses held old new number l moves number w at) [
      | inl (same, now) ↦
          let (clause, there) = element_at clauses number within in
          let not_moved : l ≡ moves.moved → ⊥ = λ e. both_held held (negation_of l) closed (ap (is_false held) e ∙ moves.not_false) in
          let not_other : l ≡ moves.other → ⊥ = λ e. (other_stands clause moves.watch l moves.other (each number clause moves.watch there moves.before) moves.both).1 (sym e) in
          sym (ap (λ v. is_held (watched_literals v) l) now) ∙ not_among moves.moved moves.other l not_moved not_other
      | inr (other, there) ↦ absurd (other refl)
    ]

-- the watches after a clause was looked at that is dropped from the list of watchers
pub IsWatchingUpTo-leaves : (clauses : List (List Lit)) (old new : Watches) (mid : List Watched) (entries : List Entry) (head number : ℕ) (l : Lit) → LeavesWatch clauses (literals entries) (watched_in old.arena) mid number l → clauses_in new.arena ≡ clauses → watched_in new.arena ≡ mid → IsListed new → EachBlocked clauses new → IsWatchingUpTo clauses old entries head → IsWatchingUpTo clauses new entries head
IsWatchingUpTo-leaves clauses old new mid entries head number l (inl (same, none)) unchanged is listed blocked w =
    IsWatchingUpTo-same (is ∙ same)
  where
    IsWatchingUpTo-same : watched_in new.arena ≡ watched_in old.arena → IsWatchingUpTo clauses new entries head
    IsWatchingUpTo-same all_same =
        record {
          watching =
              record {
                same = unchanged;
                blocked = blocked;
                count = ap length all_same ∙ w.watching.count;
                each = subst (EachIsWatch clauses) (sym all_same) w.watching.each;
                listed = listed;
                levels = subst (λ ws. EachLevelGuarded clauses ws entries) (sym all_same) w.watching.levels;
              };
          guarded = subst (λ ws. EachGuarded clauses ws (literals (take head entries)) (literals entries)) (sym all_same) w.guarded;
        }
IsWatchingUpTo-leaves clauses old new mid entries head number l (inr moves) unchanged is listed blocked w =
    let held = literals entries in
    record {
      watching =
          record {
            same = unchanged;
            blocked = blocked;
            count = ap length (is ∙ moves.after) ∙ length-set (watched_in old.arena) number (Two moves.moved moves.other) ∙ w.watching.count;
            each = subst (EachIsWatch clauses) (sym is) (EachIsWatch-moved clauses held (watched_in old.arena) mid number l moves w.watching.each);
            listed = listed;
            levels = subst (λ ws. EachLevelGuarded clauses ws entries) (sym is) (EachLevelGuarded-moved clauses entries (watched_in old.arena) mid number l moves w.watching.levels);
          };
      guarded =
          subst (λ ws. EachGuarded clauses ws (literals (take head entries)) held) (sym is)
          (EachGuarded-moved clauses held (watched_in old.arena) mid number l moves (literals (take head entries)) held (record { each = λ m h. h }) (HeldWithin-take head entries) w.guarded);
    }

-- the clauses that are still to be looked at once that one is dropped
pub EachGuardedBut-left : (clauses : List (List Lit)) (old new : List Watched) (numbers left : List ℕ) (place number : ℕ) (entries : List Entry) (head : ℕ) (e : Entry) (falsified : Lit) → slice_get numbers place ≡ Some number → left ≡ swap_remove numbers place 0 → slice_get entries head ≡ Some e → falsified ≡ negation_of e.literal → EachIsWatch clauses old → EachGuarded clauses old (literals (take head entries)) (literals entries) → LeavesWatch clauses (literals entries) old new number falsified → EachGuardedBut clauses old numbers place (literals (take (head + 1) entries)) (literals entries) → EachGuardedBut clauses new left place (literals (take (head + 1) entries)) (literals entries)
EachGuardedBut-left clauses old new numbers left place number entries head e falsified at drops here is each guarded (inl (same, none)) but =
    EachGuardedBut-leaves clauses old new numbers left place number (literals (take (head + 1) entries)) (literals entries) at drops
    (λ n w differ there. sym (ap (λ ws. slice_get ws n) same) ∙ there)
    (λ clause w there now.
    let before : slice_get old number ≡ Some w = sym (ap (λ ws. slice_get ws number) same) ∙ now in
    guard_next entries head e (literals entries) clause w here (sym (ap (is_held (watched_literals w)) is) ∙ none w before) (guarded number clause w there before))
    but
EachGuardedBut-left clauses old new numbers left place number entries head e falsified at drops here is each guarded (inr moves) but =
    EachGuardedBut-leaves clauses old new numbers left place number (literals (take (head + 1) entries)) (literals entries) at drops
    (λ n w differ there. others_stay clauses (literals entries) old new number falsified moves n w differ there)
    (moved_guarded clauses entries head e falsified old new number here is moves each guarded)
    but

-- all entries were propagated: the propagation queue is empty
pub IsWatchingUpTo-end : (clauses : List (List Lit)) (watches : Watches) (entries : List Entry) (head : ℕ) → length entries ≤ head → IsWatchingUpTo clauses watches entries head → IsWatchingUpTo clauses watches entries (length entries)
IsWatchingUpTo-end clauses watches entries head past w =
    let same : take head entries ≡ take (length entries) entries = take_all head entries past ∙ sym (take_all (length entries) entries (omega arith)) in
    record {
      watching = w.watching;
      guarded = subst (λ es. EachGuarded clauses (watched_in watches.arena) (literals es) (literals entries)) same w.guarded;
    }
