-- Lists whose elements are numbered one after the other, each from the first number behind those of the element before
-- it.
use Rattle.rule_typing.proofs.Common.{◌≡◌, inl, inr, ℕ, zero, suc, ◌+◌, ◌<◌, ◌≤◌, List, [], ◌∷◌, ◌++◌, length, map, take, drop, get_or, Some, refl, sym, ap, ◌∙◌, arith, add-zero, add-one, add_assoc, length-append, slice_get, slice_set, flat_map, take_all, drop_all, length-flat_map-take, get-append_left, get-append_right, numbered_from}
use Rattle.std.proofs.lemmas.List.{append-nil}
use Rattle.rule_typing.proofs.Images.{get-append_cases}
use Rattle.rule_typing.proofs.Seams.{seam_length, seam_get, seam_next}

pub none_there : {X : Type 0} (k : ℕ) (x : X) → slice_get [] k ≡ Some x → ⊥
none_there zero x at = cc
none_there (suc k) x at = cc

-- the numbers are the places, counted from n
abbrev pub AreFrom : ℕ → List ℕ → Type 0
AreFrom n xs = (k c : ℕ) → slice_get xs k ≡ Some c → c ≡ n + k

pub from_both : (n m : ℕ) (xs ys : List ℕ) → m ≡ n + length xs → AreFrom n xs → AreFrom m ys → AreFrom n (xs ++ ys)
from_both n m xs ys behind first second k c at = elim (get-append_cases xs ys k c at) [
  | inl here ↦ first k c here
  | inr (j, place, there) ↦ let h = second j c there in omega arith
]

-- f, at the places from n on, gives these numbers
abbrev pub Gives : (ℕ → ℕ) → ℕ → List ℕ → Type 0
Gives f n xs = (k c : ℕ) → slice_get xs k ≡ Some c → f (n + k) ≡ c

pub gives_left : (f : ℕ → ℕ) (n : ℕ) (xs ys : List ℕ) → Gives f n (xs ++ ys) → Gives f n xs
gives_left f n xs ys gives k c at = gives k c (get-append_left xs ys k c at)

pub gives_right : (f : ℕ → ℕ) (n m : ℕ) (xs ys : List ℕ) → m ≡ n + length xs → Gives f n (xs ++ ys) → Gives f m ys
gives_right f n m xs ys behind gives k c at =
    let same : m + k ≡ n + (length xs + k) = omega arith in
    ap f same ∙ gives (length xs + k) c (get-append_right xs ys k ∙ at)

module _ (X : Type 0) (classes : X → List ℕ) (number : ℕ → X → X) where
  pub length_numbered : (n : ℕ) (xs : List X) → length (numbered_from classes number n xs) ≡ length xs
  length_numbered n [] = refl
  length_numbered n (x ∷ xs) = ap suc (length_numbered (n + length (classes x)) xs)

  -- the element at a place is numbered from the number of positions before it
  pub get_numbered : (n : ℕ) (xs : List X) (i : ℕ) (x d : X) → i < length xs → x ≡ get_or xs i x → get_or (numbered_from classes number n xs) i d ≡ number (n + length (flat_map classes (take i xs))) x
  get_numbered n [] i x d within is = absurd (omega arith)
  get_numbered n (a ∷ xs) zero x d within is = rw (add-zero, is) refl
  get_numbered n (a ∷ xs) (suc i) x d within is =
      get_numbered (n + length (classes a)) xs i x d (omega arith) is
      ∙ ap (λ k. number k x) (add_assoc n (length (classes a)) (length (flat_map classes (take i xs))) ∙ ap (λ k. n + k) (sym (length-append (classes a) (flat_map classes (take i xs)))))

  -- the positions up to and with an element are those before it and its own
  count_next : (xs : List X) (i : ℕ) (x : X) → i < length xs → x ≡ get_or xs i x → length (flat_map classes (take (suc i) xs)) ≡ length (flat_map classes (take i xs)) + length (classes x)
  count_next [] i x within is = absurd (omega arith)
  count_next (a ∷ xs) zero x within is = rw is (length-append (classes a) [] ∙ omega arith)
  count_next (a ∷ xs) (suc i) x within is =
      length-append (classes a) (flat_map classes (take (suc i) xs))
      ∙ ap (λ k. length (classes a) + k) (count_next xs i x (omega arith) is)
      ∙ sym (add_assoc (length (classes a)) (length (flat_map classes (take i xs))) (length (classes x)))
      ∙ ap (λ k. k + length (classes x)) (sym (length-append (classes a) (flat_map classes (take i xs))))

  -- the loop: elements before `place` are numbered from `first` on, and `following` is the next number
  pub record AreNumbered (first : ℕ) (old now : List X) (place following : ℕ) : Type 0 where
    pub written : now ≡ take place (numbered_from classes number first old) ++ drop place old
    pub next : following ≡ first + length (flat_map classes (take place old))

  pub length_so_far : (first place next : ℕ) (old now : List X) → AreNumbered first old now place next → length now ≡ length old
  length_so_far first place next old now so_far = ap length so_far.written ∙ seam_length (numbered_from classes number first old) old place (length_numbered first old)

  stood_at : (first place next : ℕ) (old now : List X) (x : X) → AreNumbered first old now place next → x ≡ get_or now place x → x ≡ get_or old place x
  stood_at first place next old now x so_far read = read ∙ ap (λ l. get_or l place x) so_far.written ∙ seam_get (numbered_from classes number first old) old place x (length_numbered first old)

  pub has_room : (first place next : ℕ) (old now : List X) (x : X) → AreNumbered first old now place next → place < length old → x ≡ get_or now place x → next + length (classes x) ≤ first + length (flat_map classes old)
  has_room first place next old now x so_far within read =
      let stood = stood_at first place next old now x so_far read in
      let most = rw (sym stood) at (length-flat_map-take classes old place x within) in
      omega (arith, so_far.next)

  pub one_numbered : (first place next behind : ℕ) (old now : List X) (x y : X) → AreNumbered first old now place next → place < length old → x ≡ get_or now place x
      → y ≡ number next x → behind ≡ next + length (classes x) → AreNumbered first old (slice_set now place y) (place + 1) behind
  one_numbered first place next behind old now x y so_far within read is count =
      let stood = stood_at first place next old now x so_far read in
      record {
        written = seam_next (numbered_from classes number first old) old now place x y so_far.written (length_numbered first old) within read
            (λ here. is ∙ ap (λ n. number n x) so_far.next ∙ sym (get_numbered first old place x y within here));
        next = rw add-one (count ∙ ap (λ n. n + length (classes x)) so_far.next
            ∙ add_assoc first (length (flat_map classes (take place old))) (length (classes x)) ∙ ap (λ k. first + k) (sym (count_next old place x within stood)));
      }

  -- at its end all elements are numbered
  pub all_numbered : (first place next : ℕ) (old now : List X) → AreNumbered first old now place next → length old ≤ place → now ≡ numbered_from classes number first old
  all_numbered first place next old now so_far past =
      let past' : length (numbered_from classes number first old) ≤ place = omega (arith, length_numbered first old) in
      so_far.written ∙ rw (take_all place (numbered_from classes number first old) past', drop_all place old past) (append-nil (numbered_from classes number first old))

  module _ (count : (n : ℕ) (x : X) → length (classes (number n x)) ≡ length (classes x)) where
    pub count-numbered : (n : ℕ) (xs : List X) → length (flat_map classes (numbered_from classes number n xs)) ≡ length (flat_map classes xs)
    count-numbered n [] = refl
    count-numbered n (x ∷ xs) =
        omega (arith, length-append (classes (number n x)) (flat_map classes (numbered_from classes number (n + length (classes x)) xs)), length-append (classes x) (flat_map classes xs), count n x, count-numbered (n + length (classes x)) xs)

    pub classes-numbered : ((n : ℕ) (x : X) → AreFrom n (classes (number n x))) → (n : ℕ) (xs : List X) → AreFrom n (flat_map classes (numbered_from classes number n xs))
    classes-numbered own n [] = λ k c at. absurd (none_there k c at)
    classes-numbered own n (x ∷ xs) =
        from_both n (n + length (classes x)) (classes (number n x)) (flat_map classes (numbered_from classes number (n + length (classes x)) xs)) (omega (arith, count n x)) (own n x)
        (classes-numbered own (n + length (classes x)) xs)

  -- mapping elements by g first makes no difference, where g changes their classes alone
  module _ (g : X → X) where
    pub numbered_image : ((n : ℕ) (x : X) → g (number n x) ≡ g x) → (n : ℕ) (xs : List X) → map g (numbered_from classes number n xs) ≡ map g xs
    numbered_image bare n [] = refl
    numbered_image bare n (x ∷ xs) = rw (bare n x) (ap (λ l. g x ∷ l) (numbered_image bare (n + length (classes x)) xs))

    pub numbered_anew : ((n : ℕ) (x : X) → number n (g x) ≡ number n x) → ((x : X) → length (classes (g x)) ≡ length (classes x)) → (n : ℕ) (xs : List X) → numbered_from classes number n (map g xs) ≡ numbered_from classes number n xs
    numbered_anew blind count n [] = refl
    numbered_anew blind count n (x ∷ xs) = rw (count x, blind n x) (ap (λ l. number n x ∷ l) (numbered_anew blind count (n + length (classes x)) xs))

    pub restored_list : (f : ℕ → ℕ) → ((n : ℕ) (x : X) → Gives f n (classes x) → g (number n x) ≡ x) → (n : ℕ) (xs : List X) → Gives f n (flat_map classes xs) → map g (numbered_from classes number n xs) ≡ xs
    restored_list f restore n [] gives = refl
    restored_list f restore n (x ∷ xs) gives =
        let here : g (number n x) ≡ x = restore n x (gives_left f n (classes x) (flat_map classes xs) gives) in
        let later = restored_list f restore (n + length (classes x)) xs (gives_right f n (n + length (classes x)) (classes x) (flat_map classes xs) refl gives) in
        rw (here, later) refl
