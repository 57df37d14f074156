-- The longest name that a text begins with.
use Rattle.scan.proofs.Common.{◌≡◌, ℕ, zero, suc, ◌+◌, ◌<◌, ◌≤◌, max, Bool, true, false, not, eqb, ◌&&◌, ◌||◌, List, [], ◌∷◌, ◌++◌, length, take, drop, refl, sym, ap, subst, ◌∙◌, ⊎_elim, ◌⊎◌, inl, inr, append_assoc, add-one, arith, bytes_eq, list_all, prefix_len, false≢true, eqb-true, bytes_eq-Decides, length-append, length-take-le, take-append-drop, take_at, drop_at, is_digit, is_letter, begins_name, is_name_byte, begins_with, is_run, IsLongest, is_quotable, in_quotes, is_quoted, is_plain_name, is_name}
use Rattle.scan.proofs.Fronts.{which, and_left, and_right, and_both, or_true, longest_none, or_longest, run_is_longest, run_passes}

-- ---- quoted texts

-- a prefix of bytes that pass ends at the first byte that doesn't
prefix_end : (p : ℕ → Bool) (front : List ℕ) (b : ℕ) (rest : List ℕ) → list_all p front ≡ true → p b ≡ false → prefix_len p (front ++ b ∷ rest) ≡ length front
prefix_end p [] b rest all fails = rw fails refl
prefix_end p (c ∷ front) b rest all fails = rw (and_left (p c) (list_all p front) all) (let more : prefix_len p (front ++ b ∷ rest) ≡ length front = prefix_end p front b rest (and_right (p c) (list_all p front) all) fails in omega arith)

-- a quotable byte is no quote
pub no_quotes : (text : List ℕ) → list_all is_quotable text ≡ true → list_all (λ b. not (eqb b 34)) text ≡ true
unfolding is_quotable
no_quotes [] all = refl
no_quotes (b ∷ text) all = ⊎_elim
    (λ (h : eqb b 34 ≡ true). absurd (false≢true (rw h at all)))
    (λ (h : eqb b 34 ≡ false). rw h (no_quotes text (and_right (is_quotable b) (list_all is_quotable text) all)))
    (which (eqb b 34))

pub in_quotes-quoted : (inner rest : List ℕ) → list_all is_quotable inner ≡ true → in_quotes (34 ∷ (inner ++ 34 ∷ rest)) ≡ inner
in_quotes-quoted inner rest all = ap (λ (n : ℕ). take n (inner ++ 34 ∷ rest)) (prefix_end (λ b. not (eqb b 34)) inner 34 rest (no_quotes inner all) refl) ∙ take_at inner (34 ∷ rest) (length inner) refl

pub quoted_from : (inner : List ℕ) → list_all is_quotable inner ≡ true → is_quoted (34 ∷ (inner ++ 34 ∷ [])) ≡ true
unfolding is_quoted
quoted_from inner all =
    let same : in_quotes (34 ∷ (inner ++ 34 ∷ [])) ≡ inner = in_quotes-quoted inner [] all in
    and_both _ _
    ((bytes_eq-Decides (34 ∷ (inner ++ 34 ∷ [])) (34 ∷ (in_quotes (34 ∷ (inner ++ 34 ∷ [])) ++ 34 ∷ []))).1 (ap (λ (bytes : List ℕ). 34 ∷ (bytes ++ 34 ∷ [])) (sym same)))
    (ap (list_all is_quotable) same ∙ all)

-- the form of a quoted text
pub quoted_is : (text : List ℕ) → is_quoted text ≡ true → (text ≡ 34 ∷ (in_quotes text ++ 34 ∷ [])) × (list_all is_quotable (in_quotes text) ≡ true)
unfolding is_quoted
quoted_is text e = (
  (bytes_eq-Decides text (34 ∷ (in_quotes text ++ 34 ∷ []))).0 (and_left _ (list_all is_quotable (in_quotes text)) e),
  and_right (bytes_eq text (34 ∷ (in_quotes text ++ 34 ∷ []))) _ e,
)

-- a prefix that is a quoted text ends at the first quote behind the one that opens it
record Closed (rest : List ℕ) (m : ℕ) : Type 0 where
  pub length_is : m ≡ prefix_len is_quotable rest + 2
  pub closed : begins_with (λ b. eqb b 34) (drop (prefix_len is_quotable rest) rest) ≡ true

closed_front : (inner rest : List ℕ) (m : ℕ) → m ≤ length rest → take m rest ≡ inner ++ 34 ∷ [] → list_all is_quotable inner ≡ true → Closed rest (suc m)
unfolding is_quotable
closed_front inner rest m h e all =
    let split : rest ≡ inner ++ 34 ∷ drop m rest = sym (take-append-drop m rest) ∙ ap (λ (bytes : List ℕ). bytes ++ drop m rest) e ∙ append_assoc inner (34 ∷ []) (drop m rest) in
    let run : prefix_len is_quotable rest ≡ length inner = ap (prefix_len is_quotable) split ∙ prefix_end is_quotable inner 34 (drop m rest) all refl in
    let long : m ≡ length inner + 1 = sym (length-take-le m rest h) ∙ ap length e ∙ length-append inner (34 ∷ []) in
    record {
      length_is = omega arith;
      closed = ap (λ (n : ℕ). begins_with (λ b. eqb b 34) (drop n rest)) run ∙ ap (λ (bytes : List ℕ). begins_with (λ b. eqb b 34) (drop (length inner) bytes)) split
          ∙ ap (begins_with (λ b. eqb b 34)) (drop_at inner (34 ∷ drop m rest) (length inner) refl);
    }

head_is : (a b : ℕ) (xs ys : List ℕ) → a ∷ xs ≡ b ∷ ys → a ≡ b
head_is a b xs ys e = cc

tail_is : (a b : ℕ) (xs ys : List ℕ) → a ∷ xs ≡ b ∷ ys → xs ≡ ys
tail_is a b xs ys e = cc

quoted_front : (rest : List ℕ) (m : ℕ) → m ≤ length (34 ∷ rest) → is_quoted (take m (34 ∷ rest)) ≡ true → Closed rest m
unfolding is_quoted
quoted_front rest zero h e = absurd (false≢true e)
quoted_front rest (suc m) h e =
    let q = quoted_is (34 ∷ take m rest) e in
    closed_front (in_quotes (34 ∷ take m rest)) rest m (omega arith) (tail_is 34 34 _ _ q.0) q.1

-- the run behind a quote, and the quote behind it
front_more : (p : ℕ → Bool) (xs : List ℕ) (n : ℕ) → begins_with p (drop n xs) ≡ true → (b : ℕ) × (p b ≡ true) × (n < length xs) × (take (n + 1) xs ≡ take n xs ++ b ∷ [])
front_more p [] zero e = absurd (false≢true e)
front_more p [] (suc n) e = absurd (false≢true e)
front_more p (x ∷ xs) zero e = (x, e, omega arith, refl)
front_more p (x ∷ xs) (suc n) e = let m = front_more p xs n e in (m.0, m.1, omega (arith, m.2), rw add-one (ap (λ (bytes : List ℕ). x ∷ bytes) (rw add-one at m.3)))

pub quoted_some : (text rest : List ℕ) (n : ℕ) → text ≡ 34 ∷ rest → n ≡ prefix_len is_quotable rest → begins_with (λ b. eqb b 34) (drop n rest) ≡ true → IsLongest (λ bytes _. is_quoted bytes) text (n + 2)
quoted_some text rest n e run closed = subst (λ (t : List ℕ). IsLongest (λ bytes _. is_quoted bytes) t (n + 2)) (sym e) (record {
  within = omega (arith, m.2);
  found = λ some. ap is_quoted (ap (λ (i : ℕ). take i (34 ∷ rest)) there ∙ ap (λ (bytes : List ℕ). 34 ∷ bytes) (m.3 ∙ ap (λ (b : ℕ). take n rest ++ b ∷ []) (eqb-true m.0 34 m.1)))
      ∙ quoted_from (take n rest) (ap (λ (i : ℕ). list_all is_quotable (take i rest)) run ∙ run_passes is_quotable rest);
  longest = λ k l h. let f : Closed rest k = quoted_front rest k l h in omega (arith, f.length_is);
})
  where
    m : (b : ℕ) × (eqb b 34 ≡ true) × (n < length rest) × (take (n + 1) rest ≡ take n rest ++ b ∷ [])
    m = front_more (λ b. eqb b 34) rest n closed

    there : n + 2 ≡ suc (n + 1)
    there = omega arith

pub quoted_open : (text rest : List ℕ) (n : ℕ) → text ≡ 34 ∷ rest → n ≡ prefix_len is_quotable rest → begins_with (λ b. eqb b 34) (drop n rest) ≡ false → IsLongest (λ bytes _. is_quoted bytes) text 0
quoted_open text rest n e run fails = subst (λ (t : List ℕ). IsLongest (λ bytes _. is_quoted bytes) t 0) (sym e) (record {
  within = omega arith;
  found = λ none. absurd (omega arith);
  longest = λ k l h. absurd (false≢true (sym fails ∙ ap (λ (i : ℕ). begins_with (λ b. eqb b 34) (drop i rest)) run ∙ (quoted_front rest k l h).closed));
})

pub quoted_none : (text : List ℕ) → begins_with (λ b. eqb b 34) text ≡ false → IsLongest (λ bytes _. is_quoted bytes) text 0
unfolding is_quoted
quoted_none text fails = longest_none (λ bytes _. is_quoted bytes) text (none text fails)
  where
    none : (text : List ℕ) → begins_with (λ b. eqb b 34) text ≡ false → (m : ℕ) → 0 < m → m ≤ length text → is_quoted (take m text) ≡ false
    none text fails zero h k = absurd (omega arith)
    none [] fails (suc m) h k = refl
    none (b ∷ text) fails (suc m) h k = ⊎_elim
        (λ (e : is_quoted (b ∷ take m text) ≡ true). absurd (false≢true (sym fails ∙ ap (λ (c : ℕ). eqb c 34) (head_is b 34 _ _ (quoted_is (b ∷ take m text) e).0))))
        (λ (e : is_quoted (b ∷ take m text) ≡ false). e)
        (which (is_quoted (b ∷ take m text)))

-- ---- names

pub name_longest : (text : List ℕ) (plain digits quoted : ℕ) → IsLongest (λ bytes _. is_plain_name bytes) text plain → digits ≡ prefix_len is_digit text → IsLongest (λ bytes _. is_quoted bytes) text quoted → IsLongest (λ bytes _. is_name bytes) text (max (max plain digits) quoted)
unfolding is_name
name_longest text plain digits quoted p d q =
    or_longest (λ bytes _. is_plain_name bytes || is_run is_digit bytes) (λ bytes _. is_quoted bytes) text (max plain digits) quoted
    (or_longest (λ bytes _. is_plain_name bytes) (λ bytes _. is_run is_digit bytes) text plain digits p
    (subst (λ (n : ℕ). IsLongest (λ bytes _. is_run is_digit bytes) text n) (sym d) (run_is_longest is_digit text))) q

pub is_name-empty : is_name [] ≡ false
unfolding is_name is_plain_name is_quoted
is_name-empty = refl

-- the three forms of a name
pub name_cases : (bytes : List ℕ) → is_name bytes ≡ true → ((begins_with begins_name bytes && list_all is_name_byte bytes) ≡ true) ⊎ ((is_run is_digit bytes ≡ true) ⊎ (is_quoted bytes ≡ true))
unfolding is_name is_plain_name
name_cases bytes e = ⊎_elim
    (λ (h : (is_plain_name bytes || is_run is_digit bytes) ≡ true). ⊎_elim
    (λ (k : is_plain_name bytes ≡ true). inl k)
    (λ (k : is_run is_digit bytes ≡ true). inr (inl k))
    (or_true (is_plain_name bytes) (is_run is_digit bytes) h))
    (λ (h : is_quoted bytes ≡ true). inr (inr h))
    (or_true (is_plain_name bytes || is_run is_digit bytes) (is_quoted bytes) e)

-- ---- the byte behind a shorter name

-- each byte of a prefix that passes does so
pub inside : (p : ℕ → Bool) (text : List ℕ) (n m : ℕ) → n ≤ length text → m < n → list_all p (take n text) ≡ true → begins_with p (drop m text) ≡ true
inside p text zero m h k all = absurd (omega arith)
inside p [] (suc n) m h k all = absurd (omega arith)
inside p (b ∷ text) (suc n) zero h k all = and_left (p b) (list_all p (take n text)) all
inside p (b ∷ text) (suc n) (suc m) h k all = inside p text n m (omega arith) (omega arith) (and_right (p b) (list_all p (take n text)) all)

-- a byte that passes isn't one that doesn't
pub begins_other : (p : ℕ → Bool) (c : ℕ) (text : List ℕ) → p c ≡ false → begins_with p text ≡ true → begins_with (λ b. eqb b c) text ≡ false
begins_other p c [] fails e = refl
begins_other p c (b ∷ text) fails e = ⊎_elim
    (λ (h : eqb b c ≡ true). absurd (false≢true (sym fails ∙ ap p (sym (eqb-true b c h)) ∙ e)))
    (λ (h : eqb b c ≡ false). h)
    (which (eqb b c))

-- no proper prefix of a quoted text is a name
no_shorter : (text : List ℕ) (n m : ℕ) → n ≤ length text → m < n → is_quoted (take n text) ≡ true → is_name (take m text) ≡ true → ⊥
unfolding begins_name is_letter is_digit
no_shorter text n zero h k q e = false≢true (sym is_name-empty ∙ e)
no_shorter [] n (suc m) h k q e = omega arith
no_shorter (b ∷ text) n (suc m) h k q e = ⊎_elim
    (λ (l : eqb b 34 ≡ true).
    let is : b ≡ 34 = eqb-true b 34 l in
    let f : Closed text n = quoted_front text n h (subst (λ (c : ℕ). is_quoted (take n (c ∷ text)) ≡ true) is q) in
    ⊎_elim
    (λ (i : (begins_name b && list_all is_name_byte (b ∷ take m text)) ≡ true). false≢true (ap begins_name (sym is) ∙ and_left (begins_name b) _ i))
    (λ (o : (is_run is_digit (b ∷ take m text) ≡ true) ⊎ (is_quoted (b ∷ take m text) ≡ true)). ⊎_elim
    (λ (i : is_run is_digit (b ∷ take m text) ≡ true). false≢true (ap is_digit (sym is) ∙ and_left (is_digit b) _ i))
    (λ (i : is_quoted (b ∷ take m text) ≡ true).
    let g : Closed text (suc m) = quoted_front text (suc m) (omega arith) (subst (λ (c : ℕ). is_quoted (c ∷ take m text) ≡ true) is i) in
    omega (arith, f.length_is, g.length_is))
    o)
    (name_cases (b ∷ take m text) e))
    (λ (l : eqb b 34 ≡ false). let none : n ≤ 0 = (quoted_none (b ∷ text) l).longest n h q in omega arith)
    (which (eqb b 34))

pub shorter_name : (text : List ℕ) (n m : ℕ) → n ≤ length text → m < n → is_name (take n text) ≡ true → is_name (take m text) ≡ true → begins_with (λ b. eqb b 58) (drop m text) ≡ false
unfolding is_name_byte begins_name is_letter is_digit
shorter_name text n m h k e f = ⊎_elim
    (λ (i : (begins_with begins_name (take n text) && list_all is_name_byte (take n text)) ≡ true). begins_other is_name_byte 58 (drop m text) refl (inside is_name_byte text n m h k (and_right (begins_with begins_name (take n text)) _ i)))
    (λ (o : (is_run is_digit (take n text) ≡ true) ⊎ (is_quoted (take n text) ≡ true)). ⊎_elim
    (λ (i : is_run is_digit (take n text) ≡ true). begins_other is_digit 58 (drop m text) refl (inside is_digit text n m h k (and_right (begins_with is_digit (take n text)) _ i)))
    (λ (i : is_quoted (take n text) ≡ true). absurd (no_shorter text n m h k i f))
    o)
    (name_cases (take n text) e)
