-- The longest prefix (front) of a text that passes a test.
use Rattle.scan.proofs.Common.{◌≡◌, ◌≢◌, ℕ, zero, suc, ◌+◌, ◌<◌, ◌≤◌, max, Bool, true, false, eqb, ltb, ◌&&◌, ◌||◌, List, [], ◌∷◌, ◌++◌, length, take, drop, refl, sym, ap, subst, ◌∙◌, ⊎_elim, ◌⊎◌, inl, inr, arith, add-one, map, get_or, list_all, prefix_len, false≢true, one-add, prefix_len-le-length, bytes_eq, bytes_eq-Decides, length-take-le, take_more, take_all, map-append, list_any-append, is_among, begins_with, is_run, is_run_behind, IsLongest}
use Rattle.std.proofs.Common.{eq-eqb, ltb-true, ltb-false}

-- a test holds or fails
pub which : (b : Bool) → (b ≡ true) ⊎ (b ≡ false)
which true = inl refl
which false = inr refl

-- ---- runs

pub run_passes : (p : ℕ → Bool) (xs : List ℕ) → list_all p (take (prefix_len p xs) xs) ≡ true
run_passes p [] = refl
run_passes p (x ∷ xs) = ⊎_elim
    (λ (h : p x ≡ true). rw (h, one-add) (rw h (run_passes p xs)))
    (λ (h : p x ≡ false). rw h refl)
    (which (p x))

pub run_longest : (p : ℕ → Bool) (xs : List ℕ) (m : ℕ) → m ≤ length xs → list_all p (take m xs) ≡ true → m ≤ prefix_len p xs
run_longest p xs zero h e = omega arith
run_longest p [] (suc m) h e = absurd (omega arith)
run_longest p (x ∷ xs) (suc m) h e = ⊎_elim
    (λ (k : p x ≡ true). let le : m ≤ prefix_len p xs = run_longest p xs m (omega arith) (rw k at e) in rw k (omega arith))
    (λ (k : p x ≡ false). absurd (false≢true (rw k at e)))
    (which (p x))

-- ---- tests

pub and_left : (a b : Bool) → (a && b) ≡ true → a ≡ true
and_left true b e = refl
and_left false b e = absurd (false≢true e)

pub and_right : (a b : Bool) → (a && b) ≡ true → b ≡ true
and_right true b e = e
and_right false b e = absurd (false≢true e)

pub and_both : (a b : Bool) → a ≡ true → b ≡ true → (a && b) ≡ true
and_both a b p q = rw (p, q) refl

-- a prefix of at least one byte begins as its text does
pub front_begins : (p : ℕ → Bool) (xs : List ℕ) (n : ℕ) → 0 < n → begins_with p (take n xs) ≡ begins_with p xs
front_begins p xs zero h = absurd (omega arith)
front_begins p [] (suc n) h = refl
front_begins p (x ∷ xs) (suc n) h = refl

run_begins : (p : ℕ → Bool) (xs : List ℕ) → 0 < prefix_len p xs → begins_with p xs ≡ true
run_begins p [] h = absurd (omega arith)
run_begins p (x ∷ xs) h = ⊎_elim
    (λ (k : p x ≡ true). k)
    (λ (k : p x ≡ false). absurd (let none : 0 < 0 = rw k at h in omega arith))
    (which (p x))

-- ---- prefixes of one form

-- tests that agree on the prefixes of a text have the same longest prefix
pub longest_along : (f g : List ℕ → List ℕ → Bool) (text : List ℕ) (n : ℕ) → ((m : ℕ) → f (take m text) (drop m text) ≡ g (take m text) (drop m text)) → IsLongest g text n → IsLongest f text n
longest_along f g text n same h = record {
  within = h.within;
  found = λ k. same n ∙ h.found k;
  longest = λ m k e. h.longest m k (sym (same m) ∙ e);
}

-- no prefix passes
pub longest_none : (f : List ℕ → List ℕ → Bool) (text : List ℕ) → ((m : ℕ) → 0 < m → m ≤ length text → f (take m text) (drop m text) ≡ false) → IsLongest f text 0
longest_none f text none = record {
  within = omega arith;
  found = λ h. absurd (omega arith);
  longest = only;
}
  where
    only : (m : ℕ) → m ≤ length text → f (take m text) (drop m text) ≡ true → m ≤ 0
    only zero k e = omega arith
    only (suc m) k e = absurd (false≢true (sym (none (suc m) (omega arith) k) ∙ e))

-- the first byte passes p, and all bytes pass q
abbrev pub is_begun : (ℕ → Bool) → (ℕ → Bool) → List ℕ → List ℕ → Bool
is_begun p q bytes rest = begins_with p bytes && list_all q bytes

pub begun_longest : (p q : ℕ → Bool) (text : List ℕ) → begins_with p text ≡ true → IsLongest (is_begun p q) text (prefix_len q text)
begun_longest p q text e = record {
  within = prefix_len-le-length q text;
  found = λ h. and_both (begins_with p (take (prefix_len q text) text)) (list_all q (take (prefix_len q text) text)) (front_begins p text (prefix_len q text) h ∙ e) (run_passes q text);
  longest = λ m k h. run_longest q text m k (and_right (begins_with p (take m text)) (list_all q (take m text)) h);
}

pub begun_none : (p q : ℕ → Bool) (text : List ℕ) → begins_with p text ≡ false → IsLongest (is_begun p q) text 0
begun_none p q text e = longest_none (is_begun p q) text (λ m h k. ap (λ (b : Bool). b && list_all q (take m text)) (front_begins p text m h ∙ e))

pub run_is_longest : (p : ℕ → Bool) (text : List ℕ) → IsLongest (λ bytes rest. is_run p bytes) text (prefix_len p text)
run_is_longest p text = record {
  within = prefix_len-le-length p text;
  found = λ h. and_both (begins_with p (take (prefix_len p text) text)) (list_all p (take (prefix_len p text) text)) (front_begins p text (prefix_len p text) h ∙ run_begins p text h) (run_passes p text);
  longest = λ m k h. run_longest p text m k (and_right (begins_with p (take m text)) (list_all p (take m text)) h);
}

-- one more byte at the front, where at least one byte has to follow it
pub behind_none : (f g : List ℕ → List ℕ → Bool) (b : ℕ) (text : List ℕ) → ((rest : List ℕ) → g [] rest ≡ false) → ((bytes rest : List ℕ) → f (b ∷ bytes) rest ≡ g bytes rest) → IsLongest g text 0 → IsLongest f (b ∷ text) 0
behind_none f g b text nothing same h = longest_none f (b ∷ text) none
  where
    none : (m : ℕ) → 0 < m → m ≤ length (b ∷ text) → f (take m (b ∷ text)) (drop m (b ∷ text)) ≡ false
    none zero k l = absurd (omega arith)
    none (suc zero) k l = same [] text ∙ nothing text
    none (suc (suc m)) k l = same (take (suc m) text) (drop (suc m) text) ∙ ⊎_elim
        (λ (e : g (take (suc m) text) (drop (suc m) text) ≡ true). absurd (let le : suc m ≤ 0 = h.longest (suc m) (omega arith) e in omega arith))
        (λ (e : g (take (suc m) text) (drop (suc m) text) ≡ false). e)
        (which (g (take (suc m) text) (drop (suc m) text)))

pub behind_more : (f g : List ℕ → List ℕ → Bool) (b : ℕ) (text : List ℕ) (n : ℕ) → ((bytes rest : List ℕ) → f (b ∷ bytes) rest ≡ g bytes rest) → 0 < n → IsLongest g text n → IsLongest f (b ∷ text) (n + 1)
behind_more f g b text n same some h = rw add-one (record {
  within = let w : n ≤ length text = h.within in omega arith;
  found = λ k. same (take n text) (drop n text) ∙ h.found some;
  longest = longest;
})
  where
    longest : (m : ℕ) → m ≤ length (b ∷ text) → f (take m (b ∷ text)) (drop m (b ∷ text)) ≡ true → m ≤ suc n
    longest zero k e = omega arith
    longest (suc m) k e = let le : m ≤ n = h.longest m (omega arith) (sym (same (take m text) (drop m text)) ∙ e) in omega arith

-- ---- one form or another

pub or_left : (a b : Bool) → a ≡ true → (a || b) ≡ true
or_left a b p = rw p refl

pub or_right : (a b : Bool) → b ≡ true → (a || b) ≡ true
or_right true b q = refl
or_right false b q = q

pub or_true : (a b : Bool) → (a || b) ≡ true → (a ≡ true) ⊎ (b ≡ true)
or_true true b e = inl refl
or_true false b e = inr e

pub or_longest : (f g : List ℕ → List ℕ → Bool) (text : List ℕ) (n k : ℕ) → IsLongest f text n → IsLongest g text k → IsLongest (λ bytes rest. f bytes rest || g bytes rest) text (max n k)
or_longest f g text n k a b = record {
  within = let v : n ≤ length text = a.within in let w : k ≤ length text = b.within in omega arith;
  found = found;
  longest = λ m l e. ⊎_elim
      (λ (h : f (take m text) (drop m text) ≡ true). let le : m ≤ n = a.longest m l h in omega arith)
      (λ (h : g (take m text) (drop m text) ≡ true). let le : m ≤ k = b.longest m l h in omega arith)
      (or_true (f (take m text) (drop m text)) (g (take m text) (drop m text)) e);
}
  where
    found : 0 < max n k → (f (take (max n k) text) (drop (max n k) text) || g (take (max n k) text) (drop (max n k) text)) ≡ true
    found h = ⊎_elim
        (λ (e : ltb n k ≡ true). let lt : n < k = ltb-true n k e in let is : k ≡ max n k = omega arith in
        subst (λ (m : ℕ). (f (take m text) (drop m text) || g (take m text) (drop m text)) ≡ true) is (or_right (f (take k text) (drop k text)) (g (take k text) (drop k text)) (b.found (omega arith))))
        (λ (e : ltb n k ≡ false). let le : k ≤ n = ltb-false n k e in let is : n ≡ max n k = omega arith in
        subst (λ (m : ℕ). (f (take m text) (drop m text) || g (take m text) (drop m text)) ≡ true) is (or_left (f (take n text) (drop n text)) (g (take n text) (drop n text)) (a.found (omega arith))))
        (which (ltb n k))

-- ---- a byte, and a run behind it

pub marked_none : (c : ℕ) (p : ℕ → Bool) (text : List ℕ) → begins_with (λ b. eqb b c) text ≡ false → IsLongest (λ bytes rest. is_run_behind c p bytes) text 0
marked_none c p text e = longest_none (λ bytes rest. is_run_behind c p bytes) text (none text e)
  where
    none : (text : List ℕ) → begins_with (λ b. eqb b c) text ≡ false → (m : ℕ) → 0 < m → m ≤ length text → is_run_behind c p (take m text) ≡ false
    none text e zero h k = absurd (omega arith)
    none [] e (suc m) h k = refl
    none (b ∷ text) e (suc m) h k = rw e refl

marked_behind : (c : ℕ) (p : ℕ → Bool) (bytes : List ℕ) → is_run_behind c p (c ∷ bytes) ≡ is_run p bytes
marked_behind c p bytes = ap (λ (b : Bool). b && is_run p bytes) (eq-eqb c c refl)

pub marked_empty : (c : ℕ) (p : ℕ → Bool) (text run : List ℕ) → text ≡ c ∷ run → prefix_len p run ≡ 0 → IsLongest (λ bytes rest. is_run_behind c p bytes) text 0
marked_empty c p text run e none = subst (λ (t : List ℕ). IsLongest (λ bytes rest. is_run_behind c p bytes) t 0) (sym e)
    (behind_none (λ bytes rest. is_run_behind c p bytes) (λ bytes rest. is_run p bytes) c run (λ rest. refl) (λ bytes rest. marked_behind c p bytes)
    (subst (λ (n : ℕ). IsLongest (λ bytes rest. is_run p bytes) run n) none (run_is_longest p run)))

pub marked_some : (c : ℕ) (p : ℕ → Bool) (text run : List ℕ) (n : ℕ) → text ≡ c ∷ run → n ≡ prefix_len p run → n ≢ 0 → IsLongest (λ bytes rest. is_run_behind c p bytes) text (n + 1)
marked_some c p text run n e is some = subst (λ (t : List ℕ). IsLongest (λ bytes rest. is_run_behind c p bytes) t (n + 1)) (sym e)
    (behind_more (λ bytes rest. is_run_behind c p bytes) (λ bytes rest. is_run p bytes) c run n (λ bytes rest. marked_behind c p bytes) (omega arith)
    (subst (λ (k : ℕ). IsLongest (λ bytes rest. is_run p bytes) run k) (sym is) (run_is_longest p run)))

-- a run behind a byte is shorter than its text
pub marked_fits : (c : ℕ) (p : ℕ → Bool) (text run : List ℕ) → text ≡ c ∷ run → prefix_len p run < length text
marked_fits c p text run e = let le : prefix_len p run ≤ length run = prefix_len-le-length p run in rw e (omega arith)

-- ---- a form that counts only in some places

or_false : (a : Bool) → (a || false) ≡ a
or_false true = refl
or_false false = refl

pub longest_without : (f g : List ℕ → List ℕ → Bool) (here : Bool) (text : List ℕ) (n : ℕ) → here ≡ false → IsLongest f text n → IsLongest (λ bytes rest. f bytes rest || (here && g bytes rest)) text n
longest_without f g here text n e h = longest_along (λ bytes rest. f bytes rest || (here && g bytes rest)) f text n
    (λ m. ap (λ (b : Bool). f (take m text) (drop m text) || (b && g (take m text) (drop m text))) e ∙ or_false (f (take m text) (drop m text))) h

pub longest_with : (f g : List ℕ → List ℕ → Bool) (here : Bool) (text : List ℕ) (n k : ℕ) → here ≡ true → IsLongest f text n → IsLongest g text k → IsLongest (λ bytes rest. f bytes rest || (here && g bytes rest)) text (max n k)
longest_with f g here text n k e a b = longest_along (λ bytes rest. f bytes rest || (here && g bytes rest)) (λ bytes rest. f bytes rest || g bytes rest) text (max n k)
    (λ m. ap (λ (b : Bool). f (take m text) (drop m text) || (b && g (take m text) (drop m text))) e) (or_longest f g text n k a b)

-- ---- words

among_push : (words : List (List ℕ)) (word bytes : List ℕ) → is_among (words ++ word ∷ []) bytes ≡ (is_among words bytes || bytes_eq bytes word)
among_push words word bytes = list_any-append (bytes_eq bytes) words (word ∷ []) ∙ ap (λ (b : Bool). is_among words bytes || b) (or_false (bytes_eq bytes word))

-- a prefix that is the word has its length
front_is : (text word : List ℕ) (m : ℕ) → m ≤ length text → bytes_eq (take m text) word ≡ true → m ≡ length word
front_is text word m h e = sym (length-take-le m text h) ∙ ap length ((bytes_eq-Decides (take m text) word).0 e)

-- the word is longer than the longest so far, and the text begins with it
pub among_longer : (words : List (List ℕ)) (text word : List ℕ) (n : ℕ) → n < length word → length word ≤ length text → bytes_eq word (take (length word) text) ≡ true → IsLongest (λ bytes rest. is_among words bytes) text n → IsLongest (λ bytes rest. is_among (words ++ word ∷ []) bytes) text (length word)
among_longer words text word n more fits e h = record {
  within = fits;
  found = λ k. among_push words word (take (length word) text) ∙ or_right (is_among words (take (length word) text)) (bytes_eq (take (length word) text) word)
      ((bytes_eq-Decides (take (length word) text) word).1 (sym ((bytes_eq-Decides word (take (length word) text)).0 e)));
  longest = λ m k b. ⊎_elim
      (λ (a : is_among words (take m text) ≡ true). let le : m ≤ n = h.longest m k a in omega arith)
      (λ (a : bytes_eq (take m text) word ≡ true). let is : m ≡ length word = front_is text word m k a in omega arith)
      (or_true (is_among words (take m text)) (bytes_eq (take m text) word) (sym (among_push words word (take m text)) ∙ b));
}

-- the word is not longer than the longest so far, or the text doesn't begin with it
pub among_no_longer : (words : List (List ℕ)) (text word : List ℕ) (n : ℕ) → (length word ≤ n) ⊎ (bytes_eq word (take (length word) text) ≡ false) → IsLongest (λ bytes rest. is_among words bytes) text n → IsLongest (λ bytes rest. is_among (words ++ word ∷ []) bytes) text n
among_no_longer words text word n refused h = record {
  within = h.within;
  found = λ k. among_push words word (take n text) ∙ or_left (is_among words (take n text)) (bytes_eq (take n text) word) (h.found k);
  longest = λ m k b. ⊎_elim
      (λ (a : is_among words (take m text) ≡ true). h.longest m k a)
      (λ (a : bytes_eq (take m text) word ≡ true).
      let is : m ≡ length word = front_is text word m k a in
      ⊎_elim
      (λ (le : length word ≤ n). omega arith)
      (λ (differ : bytes_eq word (take (length word) text) ≡ false).
      let same : bytes_eq word (take (length word) text) ≡ true = (bytes_eq-Decides word (take (length word) text)).1 (sym (ap (λ (i : ℕ). take i text) (sym is) ∙ (bytes_eq-Decides (take m text) word).0 a)) in
      absurd (false≢true (sym differ ∙ same)))
      refused)
      (or_true (is_among words (take m text)) (bytes_eq (take m text) word) (sym (among_push words word (take m text)) ∙ b));
}

-- one word more
pub words_more : {X : Type 0} (f : X → List ℕ) (xs : List X) (i : ℕ) (d : X) (text : List ℕ) (n : ℕ) → i < length xs → IsLongest (λ bytes rest. is_among (map f (take i xs) ++ f (get_or xs i d) ∷ []) bytes) text n → IsLongest (λ bytes rest. is_among (map f (take (i + 1) xs)) bytes) text n
words_more f xs i d text n h was = subst (λ (words : List (List ℕ)). IsLongest (λ bytes rest. is_among words bytes) text n) (sym (ap (map f) (take_more xs i d h) ∙ map-append f (take i xs) (get_or xs i d ∷ []))) was

pub words_all : {X : Type 0} (f : X → List ℕ) (xs : List X) (i : ℕ) (text : List ℕ) (n : ℕ) → length xs ≤ i → IsLongest (λ bytes rest. is_among (map f (take i xs)) bytes) text n → IsLongest (λ bytes rest. is_among (map f xs) bytes) text n
words_all f xs i text n h was = subst (λ (ys : List _). IsLongest (λ bytes rest. is_among (map f ys) bytes) text n) (take_all i xs h) was

-- ---- words of one length, followed by something

-- the words are of k bytes each
abbrev pub AreOf : ℕ → List (List ℕ) → Type 0
AreOf k words = (bytes : List ℕ) → is_among words bytes ≡ true → length bytes ≡ k

pub before_some : (words : List (List ℕ)) (k : ℕ) (follows : List ℕ → Bool) (text : List ℕ) → AreOf k words → 0 < k → IsLongest (λ bytes rest. is_among words bytes) text k → follows (drop k text) ≡ true → IsLongest (λ bytes rest. is_among words bytes && follows rest) text k
before_some words k follows text of some h e = record {
  within = h.within;
  found = λ l. and_both (is_among words (take k text)) (follows (drop k text)) (h.found l) e;
  longest = λ m l b. h.longest m l (and_left (is_among words (take m text)) (follows (drop m text)) b);
}

pub before_none : (words : List (List ℕ)) (k : ℕ) (follows : List ℕ → Bool) (text : List ℕ) (n : ℕ) → AreOf k words → 0 < k → IsLongest (λ bytes rest. is_among words bytes) text n → (n ≢ k) ⊎ (follows (drop k text) ≡ false) → IsLongest (λ bytes rest. is_among words bytes && follows rest) text 0
before_none words k follows text n of some h differs = longest_none (λ bytes rest. is_among words bytes && follows rest) text none
  where
    none : (m : ℕ) → 0 < m → m ≤ length text → (is_among words (take m text) && follows (drop m text)) ≡ false
    none m l j = ⊎_elim
        (λ (e : (is_among words (take m text) && follows (drop m text)) ≡ true).
        let among : is_among words (take m text) ≡ true = and_left (is_among words (take m text)) (follows (drop m text)) e in
        let is : m ≡ k = sym (length-take-le m text j) ∙ of (take m text) among in
        let le : m ≤ n = h.longest m j among in
        let of_n : n ≡ k = sym (length-take-le n text h.within) ∙ of (take n text) (h.found (omega arith)) in
        absurd (⊎_elim
        (λ (d : n ≢ k). d of_n)
        (λ (f : follows (drop k text) ≡ false). false≢true (sym f ∙ subst (λ (i : ℕ). follows (drop i text) ≡ true) is (and_right (is_among words (take m text)) (follows (drop m text)) e)))
        differs))
        (λ (e : (is_among words (take m text) && follows (drop m text)) ≡ false). e)
        (which (is_among words (take m text) && follows (drop m text)))

-- the list is of one word, or of two of one length
pub one_of : (word : List ℕ) → AreOf (length word) (word ∷ [])
one_of word bytes e = ap length ((bytes_eq-Decides bytes word).0 (sym (or_false (bytes_eq bytes word)) ∙ e))

pub two_of : (word other : List ℕ) → length other ≡ length word → AreOf (length word) (word ∷ other ∷ [])
two_of word other same bytes e = ⊎_elim
    (λ (h : bytes_eq bytes word ≡ true). ap length ((bytes_eq-Decides bytes word).0 h))
    (λ (h : is_among (other ∷ []) bytes ≡ true). one_of other bytes h ∙ same)
    (or_true (bytes_eq bytes word) (is_among (other ∷ []) bytes) e)
