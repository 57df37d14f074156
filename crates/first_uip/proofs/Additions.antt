-- The watches after one more clause, one more entry, a decision, or a backjump.
use Rattle.first_uip.proofs.Common.{◌≡◌, ℕ, ◌<◌, ◌≤◌, true, false, List, [], ◌∷◌, ◌++◌, Some, length, length-append, take, sym, ap, ◌∙◌, arith, inl, inr, subst, Contains, option_map, slice_get, true≢false, take-append-le, take_all, slice_get-get_or, slice_get-map, Lit, is_held, Entry, literals, is_decision, slice_get_push_cases, slice_get_take, take_left, take_whole, take_take_below, slice_get_below, HeldWithin-entries, held_cases, held_one_same, not_held_nil, Watches, Watcher, Watched, Alone, Two, clauses_in, watched_in, watched_literals, watchers_of, AddsNumbers, KeepsOnly, EachBlocked, IsListed, IsWatch, EachIsWatch, IsGuarded, EachGuarded, EachLevelGuarded, IsWatching, IsWatchingUpTo}
use Rattle.first_uip.proofs.Listing.{IsListed-add}
use Rattle.first_uip.proofs.Guards.{EachGuarded-grown}

-- one more clause is in the arena, with the literals that it watches
pub record IsAdded (old new : Watches) (clause : List Lit) (w : Watched) : Type 0 where
  pub clauses : clauses_in new.arena ≡ clauses_in old.arena ++ clause ∷ []
  pub watched : watched_in new.arena ≡ watched_in old.arena ++ w ∷ []
  pub listed : AddsNumbers old new (watched_literals w) (length (watched_in old.arena))
  pub only : KeepsOnly old new (λ v. (v.number ≡ length (watched_in old.arena)) × (is_held (watched_literals w) v.blocker ≡ true))

watched_stands : (clause : List Lit) (w : Watched) (l : Lit) → IsWatch clause w → is_held (watched_literals w) l ≡ true → is_held clause l ≡ true
watched_stands clause Alone l watch h = absurd (not_held_nil l h)
watched_stands clause (Two a b) l (one, two, differ) h =
    elim (held_cases (a ∷ []) (b ∷ []) l h) [
      | inl first ↦ ap (is_held clause) (held_one_same a l first) ∙ one
      | inr second ↦ ap (is_held clause) (held_one_same b l second) ∙ two
    ]

number_below : (watches : Watches) (l : Lit) (v : Watcher) → IsListed watches → Contains (watchers_of watches l) v → v.number < length (watched_in watches.arena)
number_below watches l v listed (k, below, at) =
    let kept = watchers_of watches l in
    listed.known l k v.number (slice_get-map (λ (x : Watcher). x.number) kept k ∙ ap (option_map (λ (x : Watcher). x.number)) (slice_get-get_or kept k v below ∙ ap Some at))

EachBlocked-add : (clauses : List (List Lit)) (clause : List Lit) (old new : Watches) (w : Watched) → length (watched_in old.arena) ≡ length clauses → IsListed old → IsAdded old new clause w → IsWatch clause w → EachBlocked clauses old → EachBlocked (clauses ++ clause ∷ []) new
EachBlocked-add clauses clause old new w count listed added watch blocked l v c kept at =
    elim (added.only l v kept) [
      | inl before ↦
          elim (slice_get_push_cases clauses clause v.number c at) [
            | inl there ↦ blocked l v c before there
            | inr (last, is) ↦ absurd (omega (arith, last, count, number_below old l v listed before))
          ]
      | inr (number, stands) ↦
          elim (slice_get_push_cases clauses clause v.number c at) [
            | inl there ↦ absurd (omega (arith, number, count, slice_get_below clauses v.number c there))
            | inr (last, is) ↦ ap (λ d. is_held d v.blocker) (sym is) ∙ watched_stands clause w v.blocker watch stands
          ]
    ]

module _ (clauses : List (List Lit)) (clause : List Lit) (watched : List Watched) (w : Watched) (count : length watched ≡ length clauses) where
  -- a clause with a number is an older one, or the new one
  older : (P : List Lit → Watched → Type 0) → ((number : ℕ) (c : List Lit) (v : Watched) → slice_get clauses number ≡ Some c → slice_get watched number ≡ Some v → P c v) → P clause w → (number : ℕ) (c : List Lit) (v : Watched) → slice_get (clauses ++ clause ∷ []) number ≡ Some c → slice_get (watched ++ w ∷ []) number ≡ Some v → P c v
  older P each new number c v at at' =
      elim (slice_get_push_cases clauses clause number c at) [
        | inl before ↦
            elim (slice_get_push_cases watched w number v at') [
              | inl there ↦ each number c v before there
              | inr (last, is) ↦ absurd (omega (arith, last, count, slice_get_below clauses number c before))
            ]
        | inr (last, is) ↦
            elim (slice_get_push_cases watched w number v at') [
              | inl there ↦ absurd (omega (arith, last, count, slice_get_below watched number v there))
              | inr (last', is') ↦ subst (P c) is' (subst (λ d. P d w) is new)
            ]
      ]

-- one more clause, which is guarded before each decision and at the end
pub IsWatchingUpTo-add : (clauses : List (List Lit)) (clause : List Lit) (old new : Watches) (w : Watched) (entries : List Entry) (head : ℕ) → IsAdded old new clause w → IsWatch clause w → ((place : ℕ) (e : Entry) → slice_get entries place ≡ Some e → is_decision e.cause ≡ true → IsGuarded (literals (take place entries)) (literals (take place entries)) clause w) → IsGuarded (literals (take head entries)) (literals entries) clause w → IsWatchingUpTo clauses old entries head → IsWatchingUpTo (clauses ++ clause ∷ []) new entries head
IsWatchingUpTo-add clauses clause old new w entries head added watch levels guard state =
    let count = state.watching.count in
    let is = added.watched in
    let all = clauses ++ clause ∷ [] in
    record {
      watching =
          record {
            same = added.clauses ∙ ap (λ cs. cs ++ clause ∷ []) state.watching.same;
            count = ap length is ∙ omega (arith, count, length-append (watched_in old.arena) (w ∷ []), length-append clauses (clause ∷ []));
            each =
                subst (EachIsWatch all) (sym is)
                (older clauses clause (watched_in old.arena) w count (λ c v. IsWatch c v) state.watching.each watch);
            listed = IsListed-add old new w state.watching.listed is added.listed;
            blocked = EachBlocked-add clauses clause old new w count state.watching.listed added watch state.watching.blocked;
            levels =
                subst (λ ws. EachLevelGuarded all ws entries) (sym is)
                (λ place e at decides.
                older clauses clause (watched_in old.arena) w count (λ c v. IsGuarded (literals (take place entries)) (literals (take place entries)) c v) (state.watching.levels place e at decides) (levels place e at decides));
          };
      guarded =
          subst (λ ws. EachGuarded all ws (literals (take head entries)) (literals entries)) (sym is)
          (older clauses clause (watched_in old.arena) w count (λ c v. IsGuarded (literals (take head entries)) (literals entries) c v) state.guarded guard);
    }

-- one more entry, which isn't a decision
pub IsWatchingUpTo-push : (clauses : List (List Lit)) (watches : Watches) (entries : List Entry) (e : Entry) (head : ℕ) → head ≤ length entries → is_decision e.cause ≡ false → IsWatchingUpTo clauses watches entries head → IsWatchingUpTo clauses watches (entries ++ e ∷ []) head
IsWatchingUpTo-push clauses watches entries e head within reason state =
    record {
      watching =
          record {
            same = state.watching.same;
            count = state.watching.count;
            each = state.watching.each;
            listed = state.watching.listed;
            blocked = state.watching.blocked;
            levels = λ place f at decides.
                elim (slice_get_push_cases entries e place f at) [
                  | inl before ↦
                      subst (λ es. EachGuarded clauses (watched_in watches.arena) (literals es) (literals es)) (sym (take_left entries (e ∷ []) place f before))
                      (state.watching.levels place f before decides)
                  | inr (last, is) ↦ absurd (true≢false (sym decides ∙ sym (ap (λ (x : Entry). is_decision x.cause) is) ∙ reason))
                ];
          };
      guarded =
          subst (λ es. EachGuarded clauses (watched_in watches.arena) (literals es) (literals (entries ++ e ∷ []))) (sym (take-append-le head entries (e ∷ []) within))
          (EachGuarded-grown clauses (watched_in watches.arena) (literals (take head entries)) (literals entries) (literals (entries ++ e ∷ [])) (HeldWithin-entries entries (e ∷ [])) state.guarded);
    }

-- one more decision, where all entries were propagated
pub IsWatchingUpTo-decide : (clauses : List (List Lit)) (watches : Watches) (entries : List Entry) (e : Entry) → IsWatchingUpTo clauses watches entries (length entries) → IsWatchingUpTo clauses watches (entries ++ e ∷ []) (length entries)
IsWatchingUpTo-decide clauses watches entries e state =
    let closed : EachGuarded clauses (watched_in watches.arena) (literals entries) (literals entries) =
    subst (λ es. EachGuarded clauses (watched_in watches.arena) (literals es) (literals entries)) (take_all (length entries) entries (omega arith)) state.guarded in
    let first : take (length entries) (entries ++ e ∷ []) ≡ entries = take_whole entries (e ∷ []) in
    record {
      watching =
          record {
            same = state.watching.same;
            count = state.watching.count;
            each = state.watching.each;
            listed = state.watching.listed;
            blocked = state.watching.blocked;
            levels = λ place f at decides.
                elim (slice_get_push_cases entries e place f at) [
                  | inl before ↦
                      subst (λ es. EachGuarded clauses (watched_in watches.arena) (literals es) (literals es)) (sym (take_left entries (e ∷ []) place f before))
                      (state.watching.levels place f before decides)
                  | inr (last, is) ↦
                      subst (λ es. EachGuarded clauses (watched_in watches.arena) (literals es) (literals es)) (sym (ap (λ n. take n (entries ++ e ∷ [])) last ∙ first)) closed
                ];
          };
      guarded =
          subst (λ es. EachGuarded clauses (watched_in watches.arena) (literals es) (literals (entries ++ e ∷ []))) (sym first)
          (EachGuarded-grown clauses (watched_in watches.arena) (literals entries) (literals entries) (literals (entries ++ e ∷ [])) (HeldWithin-entries entries (e ∷ [])) closed);
    }

-- all entries from a decision on are popped
pub IsWatchingUpTo-cut : (clauses : List (List Lit)) (watches : Watches) (entries : List Entry) (place : ℕ) (e : Entry) → slice_get entries place ≡ Some e → is_decision e.cause ≡ true → IsWatching clauses watches entries → IsWatchingUpTo clauses watches (take place entries) place
IsWatchingUpTo-cut clauses watches entries place e at decides state =
    let same : take place (take place entries) ≡ take place entries = take_take_below place place entries (omega arith) in
    record {
      watching =
          record {
            same = state.same;
            count = state.count;
            each = state.each;
            listed = state.listed;
            blocked = state.blocked;
            levels = λ k f there decided.
                let (stood, below) = slice_get_take place entries k f there in
                subst (λ es. EachGuarded clauses (watched_in watches.arena) (literals es) (literals es)) (sym (take_take_below k place entries (omega arith)))
                (state.levels k f stood decided);
          };
      guarded =
          subst (λ es. EachGuarded clauses (watched_in watches.arena) (literals es) (literals (take place entries))) (sym same)
          (state.levels place e at decides);
    }
