-- Lists of the clauses that watch a literal (watch lists), change by change.
use Rattle.first_uip.proofs.Common.{◌≡◌, ℕ, ◌+◌, ◌<◌, ◌≤◌, true, false, List, [], ◌∷◌, ◌++◌, Some, length, set, sym, ap, ◌∙◌, arith, inl, inr, subst, length-append, length-set, slice_get, ◌⊎◌, swap_remove, cases_Bool, true≢false, Lit, is_same, is_held, is_same-true, StandsFrom, some_same, slice_get_left, slice_get_last, slice_get_push_cases, slice_get_below, held_cases, held_one, held_one_same, not_held_nil, held_right, held_left, Watches, Watched, Two, watched_literals, numbers_of, AddsNumber, AddsNumbers, IsListed, WatchesBoth, watched_in}
use Rattle.first_uip.proofs.Sets.{slice_get-set_cases, kept_by_drop, only_by_drop}

-- the watch list of a literal to which a number was added
grown : (old new : Watches) (l : Lit) (number : ℕ) → AddsNumber old new l number → (m : Lit) → is_same m l ≡ true → numbers_of new m ≡ numbers_of old m ++ number ∷ []
grown old new l number adds m same =
    subst (λ k. numbers_of new k ≡ numbers_of old k ++ number ∷ []) (sym (is_same-true m l same)) adds.here

kept_one : (old new : Watches) (l : Lit) (number : ℕ) → AddsNumber old new l number → (m : Lit) (place n : ℕ) → slice_get (numbers_of old m) place ≡ Some n → slice_get (numbers_of new m) place ≡ Some n
kept_one old new l number adds m place n at =
    elim (cases_Bool (is_same m l)) [
      | inl same ↦
          ap (λ ns. slice_get ns place) (grown old new l number adds m same)
          ∙ slice_get_left (numbers_of old m) (number ∷ []) place n at
      | inr differ ↦ ap (λ ns. slice_get ns place) (adds.others m differ) ∙ at
    ]

only_one : (old new : Watches) (l : Lit) (number : ℕ) → AddsNumber old new l number → (m : Lit) (place n : ℕ) → slice_get (numbers_of new m) place ≡ Some n → (slice_get (numbers_of old m) place ≡ Some n) ⊎ (n ≡ number)
only_one old new l number adds m place n at =
    elim (cases_Bool (is_same m l)) [
      | inl same ↦
          elim (slice_get_push_cases (numbers_of old m) number place n (sym (ap (λ ns. slice_get ns place) (grown old new l number adds m same)) ∙ at)) [
            | inl before ↦ inl before
            | inr here ↦ inr (sym here.1)
          ]
      | inr differ ↦ inl (sym (ap (λ ns. slice_get ns place) (adds.others m differ)) ∙ at)
    ]

stands_here : (old new : Watches) (l : Lit) (number : ℕ) → AddsNumber old new l number → StandsFrom (numbers_of new l) 0 number
stands_here old new l number adds = (
  length (numbers_of old l),
  omega arith,
  ap (λ ns. slice_get ns (length (numbers_of old l))) adds.here ∙ slice_get_last (numbers_of old l) number,
)

-- no watch list changed
pub AddsNumbers-none : (old new : Watches) (number : ℕ) → ((l : Lit) → numbers_of new l ≡ numbers_of old l) → AddsNumbers old new [] number
AddsNumbers-none old new number same =
    record {
      kept = λ l place n at. ap (λ ns. slice_get ns place) (same l) ∙ at;
      listed = λ l h. absurd (not_held_nil l h);
      only = λ l place n at. inl (sym (ap (λ ns. slice_get ns place) (same l)) ∙ at);
    }

-- a number is added to the watch list of one of two literals, and then to that of the other
pub AddsNumbers-two : (old mid new : Watches) (a b : Lit) (number : ℕ) → AddsNumber old mid a number → AddsNumber mid new b number → AddsNumbers old new (a ∷ b ∷ []) number
AddsNumbers-two old mid new a b number first second =
    record {
      kept = λ m place n at. kept_one mid new b number second m place n (kept_one old mid a number first m place n at);
      listed = λ m h.
          elim (held_cases (a ∷ []) (b ∷ []) m h) [
            | inl one ↦
                let s = stands_here old mid a number first in
                subst (λ k. StandsFrom (numbers_of new k) 0 number) (sym (held_one_same a m one))
                (s.0, s.1, kept_one mid new b number second a s.0 number s.2)
            | inr other ↦
                subst (λ k. StandsFrom (numbers_of new k) 0 number) (sym (held_one_same b m other)) (stands_here mid new b number second)
          ];
      only = λ m place n at.
          elim (only_one mid new b number second m place n at) [
            | inl before ↦ only_one old mid a number first m place n before
            | inr is ↦ inr is
          ];
    }

-- neither the watch lists nor the watched literals changed
pub IsListed-same : (old new : Watches) → IsListed old → watched_in new.arena ≡ watched_in old.arena → ((l : Lit) → numbers_of new l ≡ numbers_of old l) → IsListed new
IsListed-same old new listed watched same =
    record {
      each = λ number w l at h.
          subst (λ ns. StandsFrom ns 0 number) (sym (same l)) (listed.each number w l (sym (ap (λ ws. slice_get ws number) watched) ∙ at) h);
      known = λ l place n at.
          omega (arith, listed.known l place n (sym (ap (λ ns. slice_get ns place) (same l)) ∙ at), ap length watched);
    }

-- one more clause, in the watch lists of the literals that it watches
pub IsListed-add : (old new : Watches) (w : Watched) → IsListed old → (watched_in new.arena) ≡ (watched_in old.arena) ++ w ∷ [] → AddsNumbers old new (watched_literals w) (length (watched_in old.arena)) → IsListed new
IsListed-add old new w listed is adds =
    let size : length (watched_in new.arena) ≡ length (watched_in old.arena) + 1 = ap length is ∙ length-append (watched_in old.arena) (w ∷ []) in
    record {
      each = λ number v l at h.
          elim (slice_get_push_cases (watched_in old.arena) w number v (sym (ap (λ ws. slice_get ws number) is) ∙ at)) [
            | inl before ↦ let s = listed.each number v l before h in (s.0, s.1, adds.kept l s.0 number s.2)
            | inr (last, same) ↦
                subst (λ n. StandsFrom (numbers_of new l) 0 n) (sym last)
                (adds.listed l (ap (λ x. is_held (watched_literals x) l) same ∙ h))
          ];
      known = λ l place n at.
          elim (adds.only l place n at) [
            | inl before ↦ omega (arith, listed.known l place n before, size)
            | inr here ↦ omega (arith, here, size)
          ];
    }

other_watched : (w : Watched) (l other : Lit) → WatchesBoth w l other → is_held (watched_literals w) other ≡ true
other_watched w l other (inl is) = ap (λ v. is_held (watched_literals v) other) is ∙ held_right (l ∷ []) (other ∷ []) other (held_one other)
other_watched w l other (inr is) = ap (λ v. is_held (watched_literals v) other) is ∙ held_left (other ∷ []) (l ∷ []) other (held_one other)

-- a clause watches another literal, and is added to the watch list of that
pub IsListed-rewatch : (old new : Watches) (number : ℕ) (w : Watched) (l moved other : Lit) → IsListed old → slice_get (watched_in old.arena) number ≡ Some w → WatchesBoth w l other → (watched_in new.arena) ≡ set (watched_in old.arena) number (Two moved other) → AddsNumber old new moved number → IsListed new
IsListed-rewatch old new number w l moved other listed before both is adds =
    let within : number < length (watched_in old.arena) = slice_get_below (watched_in old.arena) number w before in
    let size : length (watched_in new.arena) ≡ length (watched_in old.arena) = ap length is ∙ length-set (watched_in old.arena) number (Two moved other) in
    let keep : (n : ℕ) (m : Lit) → StandsFrom (numbers_of old m) 0 n → StandsFrom (numbers_of new m) 0 n =
    λ n m s. (s.0, s.1, kept_one old new moved number adds m s.0 n s.2) in
    record {
      each = λ n v m at h.
          elim (slice_get-set_cases (watched_in old.arena) number n (Two moved other) v within (sym (ap (λ ws. slice_get ws n) is) ∙ at)) [
            | inl (here, same) ↦
                subst (λ k. StandsFrom (numbers_of new m) 0 k) (sym here)
                (elim (held_cases (moved ∷ []) (other ∷ []) m (ap (λ x. is_held (watched_literals x) m) same ∙ h)) [
                  | inl one ↦ subst (λ k. StandsFrom (numbers_of new k) 0 number) (sym (held_one_same moved m one)) (stands_here old new moved number adds)
                  | inr two ↦
                      subst (λ k. StandsFrom (numbers_of new k) 0 number) (sym (held_one_same other m two))
                      (keep number other (listed.each number w other before (other_watched w l other both)))
                ])
            | inr (differ, there) ↦ keep n m (listed.each n v m there h)
          ];
      known = λ m place n at.
          elim (only_one old new moved number adds m place n at) [
            | inl there ↦ omega (arith, listed.known m place n there, size)
            | inr here ↦ omega (arith, here, within, size)
          ];
    }

-- a number is dropped from the watch list of a literal that its clause doesn't watch
pub IsListed-drop : (old new : Watches) (l : Lit) (place number : ℕ) → IsListed old → slice_get (numbers_of old l) place ≡ Some number → ((w : Watched) → slice_get (watched_in old.arena) number ≡ Some w → is_held (watched_literals w) l ≡ false) → (watched_in new.arena) ≡ (watched_in old.arena) → numbers_of new l ≡ swap_remove (numbers_of old l) place 0 → ((m : Lit) → is_same m l ≡ false → numbers_of new m ≡ numbers_of old m) → IsListed new
IsListed-drop old new l place number listed here leaves watched drops others =
    let within : place < length (numbers_of old l) = slice_get_below (numbers_of old l) place number here in
    record {
      each = λ n w m at h.
          let before : slice_get (watched_in old.arena) n ≡ Some w = sym (ap (λ ws. slice_get ws n) watched) ∙ at in
          let s = listed.each n w m before h in
          elim (cases_Bool (is_same m l)) [
            | inl same ↦
                let e : m ≡ l = is_same-true m l same in
                let stood : slice_get (numbers_of old l) s.0 ≡ Some n = subst (λ k. slice_get (numbers_of old k) s.0 ≡ Some n) e s.2 in
                let elsewhere : s.0 ≡ place → ⊥ =
                λ q.
                let numbers : number ≡ n = some_same number n (sym here ∙ sym (ap (slice_get (numbers_of old l)) q) ∙ stood) in
                true≢false (sym (sym (ap (is_held (watched_literals w)) e) ∙ h) ∙ leaves w (ap (slice_get (watched_in old.arena)) numbers ∙ before)) in
                let (j, past, there) =
                subst (λ (ns : List ℕ). (i : ℕ) × (place ≤ s.0 → place ≤ i) × (slice_get ns i ≡ Some n)) (sym drops)
                (kept_by_drop (numbers_of old l) place within s.0 n elsewhere stood) in
                subst (λ k. StandsFrom (numbers_of new k) 0 n) (sym e) (j, omega arith, there)
            | inr differ ↦ (s.0, s.1, ap (λ ns. slice_get ns s.0) (others m differ) ∙ s.2)
          ];
      known = λ m j n at.
          let size : length (watched_in new.arena) ≡ length (watched_in old.arena) = ap length watched in
          elim (cases_Bool (is_same m l)) [
            | inl same ↦
                let e : m ≡ l = is_same-true m l same in
                let there : slice_get (swap_remove (numbers_of old l) place 0) j ≡ Some n =
                sym (ap (λ ns. slice_get ns j) drops) ∙ sym (ap (λ k. slice_get (numbers_of new k) j) e) ∙ at in
                let (k, stood) = only_by_drop (numbers_of old l) place within j n there in
                omega (arith, listed.known l k n stood, size)
            | inr differ ↦ omega (arith, listed.known m j n (sym (ap (λ ns. slice_get ns j) (others m differ)) ∙ at), size)
          ];
    }
