-- For each kind of token of a module, the longest prefix of a text that is one.
use Rattle.scan.proofs.Common.{◌≡◌, ◌≢◌, ℕ, zero, suc, ◌+◌, ◌-◌, ◌<◌, ◌≤◌, Bool, true, false, not, eqb, ◌&&◌, List, [], ◌∷◌, length, take, drop, get_or, refl, sym, ap, subst, ◌∙◌, ⊎_elim, ◌⊎◌, add-one, arith, list_all, prefix_len, false≢true, eqb-true, cases_lt, one-add, length-drop, length-take-le, take-take, get_or-take, at_drop_more, prefix_len-le-length, is_digit, is_letter, begins_name, is_name_byte, begins_with, is_run, IsLongest, is_negative, is_literal, is_name, is_behind, is_label, is_number}
use Rattle.std.proofs.Common.{eq-eqb}
use Rattle.scan.proofs.Fronts.{which, and_left, and_right, and_both, or_true, longest_none, behind_none, run_passes, run_longest}
use Rattle.scan.proofs.PlaceLemmas.{begins_some}
use Rattle.scan.proofs.NameLemmas.{is_name-empty, shorter_name}

-- ---- a byte, and bytes of a form behind it

pub behind_fails : (c : ℕ) (test : List ℕ → Bool) (text : List ℕ) → begins_with (λ b. eqb b c) text ≡ false → IsLongest (λ bytes _. is_behind c test bytes) text 0
behind_fails c test text e = longest_none (λ bytes _. is_behind c test bytes) text (none text e)
  where
    none : (text : List ℕ) → begins_with (λ b. eqb b c) text ≡ false → (m : ℕ) → 0 < m → m ≤ length text → is_behind c test (take m text) ≡ false
    none text e zero h k = absurd (omega arith)
    none [] e (suc m) h k = refl
    none (b ∷ text) e (suc m) h k = rw e refl

behind_is : (c : ℕ) (test : List ℕ → Bool) (bytes : List ℕ) → is_behind c test (c ∷ bytes) ≡ test bytes
behind_is c test bytes = ap (λ (b : Bool). b && test bytes) (eq-eqb c c refl)

pub behind_short : (c : ℕ) (test : List ℕ → Bool) (text rest : List ℕ) (n : ℕ) → text ≡ c ∷ rest → n ≡ 0 → test [] ≡ false → IsLongest (λ bytes _. test bytes) rest n → IsLongest (λ bytes _. is_behind c test bytes) text 0
behind_short c test text rest n e none nothing h = subst (λ (t : List ℕ). IsLongest (λ bytes _. is_behind c test bytes) t 0) (sym e)
    (behind_none (λ bytes _. is_behind c test bytes) (λ bytes _. test bytes) c rest (λ _. nothing) (λ bytes _. behind_is c test bytes)
    (subst (λ (m : ℕ). IsLongest (λ bytes _. test bytes) rest m) none h))

-- the byte c, and any number of bytes that pass behind it
pub behind_any : (c : ℕ) (p : ℕ → Bool) (text rest : List ℕ) (n : ℕ) → text ≡ c ∷ rest → n ≡ prefix_len p rest → IsLongest (λ bytes _. is_behind c (list_all p) bytes) text (n + 1)
behind_any c p text rest n e run = subst (λ (t : List ℕ). IsLongest (λ bytes _. is_behind c (list_all p) bytes) t (n + 1)) (sym e) (rw add-one (record {
  within = let le : prefix_len p rest ≤ length rest = prefix_len-le-length p rest in omega arith;
  found = λ some. behind_is c (list_all p) (take n rest) ∙ ap (λ (i : ℕ). list_all p (take i rest)) run ∙ run_passes p rest;
  longest = longest;
}))
  where
    longest : (m : ℕ) → m ≤ length (c ∷ rest) → is_behind c (list_all p) (take m (c ∷ rest)) ≡ true → m ≤ suc n
    longest zero k h = omega arith
    longest (suc m) k h = let le : m ≤ prefix_len p rest = run_longest p rest m (omega arith) (sym (behind_is c (list_all p) (take m rest)) ∙ h) in omega arith

-- ---- labels

label_front : (text : List ℕ) (m : ℕ) → suc m ≤ length text → is_label (take (suc m) text) ≡ (is_name (take m text) && begins_with (λ b. eqb b 58) (drop m text))
unfolding is_label
label_front text m h =
    let long : length (take (suc m) text) - 1 ≡ m = omega (arith, length-take-le (suc m) text h) in
    let byte : get_or (take (suc m) text) m 0 ≡ get_or text m 0 = get_or-take (suc m) text m 0 (omega arith) in
    ap (λ (n : ℕ). is_name (take n (take (suc m) text)) && eqb (get_or (take (suc m) text) n 0) 58) long
    ∙ ap (λ (bytes : List ℕ). is_name bytes && eqb (get_or (take (suc m) text) m 0) 58) (take-take m (suc m) text (omega arith))
    ∙ ap (λ (b : ℕ). is_name (take m text) && eqb b 58) byte
    ∙ ap (λ (b : Bool). is_name (take m text) && b) (sym (at_drop_more (begins_with (λ b. eqb b 58)) text m 0 (omega arith)))

pub label_some : (text : List ℕ) (n : ℕ) → 0 < n → begins_with (λ b. eqb b 58) (drop n text) ≡ true → IsLongest (λ bytes _. is_name bytes) text n → IsLongest (λ bytes _. is_label bytes) text (n + 1)
label_some text n some e h = rw add-one (record {
  within = omega (arith, fits);
  found = λ _. label_front text n (omega (arith, fits)) ∙ and_both (is_name (take n text)) (begins_with (λ b. eqb b 58) (drop n text)) (h.found some) e;
  longest = longest;
})
  where
    fits : n < length text
    fits = omega (arith, begins_some (λ b. eqb b 58) (drop n text) e, length-drop n text)

    longest : (m : ℕ) → m ≤ length text → is_label (take m text) ≡ true → m ≤ suc n
    longest zero k f = omega arith
    longest (suc m) k f = let le : m ≤ n = h.longest m (omega arith) (and_left (is_name (take m text)) (begins_with (λ b. eqb b 58) (drop m text)) (sym (label_front text m k) ∙ f)) in omega arith

pub label_none : (text : List ℕ) (n : ℕ) → (n ≡ 0) ⊎ (begins_with (λ b. eqb b 58) (drop n text) ≡ false) → IsLongest (λ bytes _. is_name bytes) text n → IsLongest (λ bytes _. is_label bytes) text 0
label_none text n fails h = record {
  within = omega arith;
  found = λ none. absurd (omega arith);
  longest = longest;
}
  where
    no_label : (m : ℕ) → suc m ≤ length text → is_name (take m text) ≡ true → begins_with (λ b. eqb b 58) (drop m text) ≡ true → ⊥
    no_label m k f colon =
        let le : m ≤ n = h.longest m (omega arith) f in
        let some : m ≢ 0 = λ none. false≢true (sym is_name-empty ∙ ap (λ (i : ℕ). is_name (take i text)) (sym none) ∙ f) in
        ⊎_elim
        (λ (none : n ≡ 0). omega arith)
        (λ (other : begins_with (λ b. eqb b 58) (drop n text) ≡ false). ⊎_elim
        (λ (lt : m < n). false≢true (sym (shorter_name text n m h.within lt (h.found (omega arith)) f) ∙ colon))
        (λ (same : n ≤ m). let is : m ≡ n = omega arith in false≢true (sym other ∙ subst (λ (i : ℕ). begins_with (λ b. eqb b 58) (drop i text) ≡ true) is colon))
        (cases_lt m n))
        fails

    longest : (m : ℕ) → m ≤ length text → is_label (take m text) ≡ true → m ≤ 0
    longest zero k f = omega arith
    longest (suc m) k f =
        let both : (is_name (take m text) && begins_with (λ b. eqb b 58) (drop m text)) ≡ true = sym (label_front text m k) ∙ f in
        absurd (no_label m k (and_left (is_name (take m text)) _ both) (and_right (is_name (take m text)) _ both))

-- ---- numbers

pub list_all-along : (p q : ℕ → Bool) (text : List ℕ) → ((b : ℕ) → p b ≡ true → q b ≡ true) → list_all p text ≡ true → list_all q text ≡ true
list_all-along p q [] along all = refl
list_all-along p q (b ∷ text) along all = and_both (q b) (list_all q text) (along b (and_left (p b) (list_all p text) all)) (list_all-along p q text along (and_right (p b) (list_all p text) all))

pub digit_name : (b : ℕ) → is_digit b ≡ true → is_name_byte b ≡ true
unfolding is_name_byte
digit_name b e = ⊎_elim
    (λ (h : begins_name b ≡ true). rw h refl)
    (λ (h : begins_name b ≡ false). rw h e)
    (which (begins_name b))

pub literal_names : (text : List ℕ) → is_literal false text ≡ true → list_all is_name_byte text ≡ true
unfolding is_literal is_negative is_name_byte begins_name is_letter
literal_names [] e = refl
literal_names (b ∷ text) e = ⊎_elim
    (λ (h : is_run is_digit (b ∷ text) ≡ true). list_all-along is_digit is_name_byte (b ∷ text) digit_name (and_right (is_digit b) (list_all is_digit (b ∷ text)) h))
    (λ (h : is_negative (b ∷ text) ≡ true). and_both (is_name_byte b) (list_all is_name_byte text)
    (ap is_name_byte (eqb-true b 45 (and_left (eqb b 45) (is_run is_digit text) h)))
    (list_all-along is_digit is_name_byte text digit_name (and_right (begins_with is_digit text) (list_all is_digit text) (and_right (eqb b 45) (is_run is_digit text) h))))
    (or_true (is_run is_digit (b ∷ text)) (is_negative (b ∷ text)) e)

run_stops : (p : ℕ → Bool) (text : List ℕ) → begins_with p (drop (prefix_len p text) text) ≡ false
run_stops p [] = refl
run_stops p (b ∷ text) = ⊎_elim
    (λ (h : p b ≡ true). rw (h, one-add) (run_stops p text))
    (λ (h : p b ≡ false). rw h h)
    (which (p b))

whole_run : (p : ℕ → Bool) (text : List ℕ) (m : ℕ) → m ≤ length text → list_all p (take m text) ≡ true → begins_with p (drop m text) ≡ false → prefix_len p text ≡ m
whole_run p [] zero h all e = refl
whole_run p [] (suc m) h all e = absurd (omega arith)
whole_run p (b ∷ text) zero h all e = rw e refl
whole_run p (b ∷ text) (suc m) h all e = rw (and_left (p b) (list_all p (take m text)) all) (let same : prefix_len p text ≡ m = whole_run p text m (omega arith) (and_right (p b) (list_all p (take m text)) all) e in omega arith)

pub number_run : (text : List ℕ) (m : ℕ) → m ≤ length text → is_number (take m text) (drop m text) ≡ true → (prefix_len is_name_byte text ≡ m) × (is_literal false (take m text) ≡ true)
unfolding is_number is_literal
number_run text m h e =
    let literal : is_literal false (take m text) ≡ true = and_left (is_literal false (take m text)) (not (begins_with is_name_byte (drop m text))) e in
    (whole_run is_name_byte text m h (literal_names (take m text) literal) (not_true (begins_with is_name_byte (drop m text)) (and_right (is_literal false (take m text)) (not (begins_with is_name_byte (drop m text))) e)), literal)
  where
    not_true : (b : Bool) → not b ≡ true → b ≡ false
    not_true true e = absurd (false≢true e)
    not_true false e = refl

pub number_some : (text : List ℕ) (run literal : ℕ) → run ≡ prefix_len is_name_byte text → literal ≡ run → IsLongest (λ bytes _. is_literal false bytes) text literal → IsLongest is_number text run
unfolding is_number is_literal
number_some text run literal e same h = record {
  within = subst (λ (n : ℕ). n ≤ length text) same h.within;
  found = λ some. and_both (is_literal false (take run text)) (not (begins_with is_name_byte (drop run text)))
      (subst (λ (n : ℕ). is_literal false (take n text) ≡ true) same (h.found (omega arith)))
      (ap not (ap (λ (n : ℕ). begins_with is_name_byte (drop n text)) e ∙ run_stops is_name_byte text));
  longest = λ m k f. omega (arith, (number_run text m k f).0);
}

pub number_none : (text : List ℕ) (run literal : ℕ) → run ≡ prefix_len is_name_byte text → literal ≢ run → IsLongest (λ bytes _. is_literal false bytes) text literal → IsLongest is_number text 0
number_none text run literal e differ h = record {
  within = omega arith;
  found = λ none. absurd (omega arith);
  longest = λ m k f. absurd (no_number m k f);
}
  where
    fits : literal ≤ run
    fits = ⊎_elim
        (λ (some : 0 < literal). let le : literal ≤ prefix_len is_name_byte text = run_longest is_name_byte text literal h.within (literal_names (take literal text) (h.found some)) in omega arith)
        (λ (none : literal ≤ 0). omega arith)
        (cases_lt 0 literal)

    no_number : (m : ℕ) → m ≤ length text → is_number (take m text) (drop m text) ≡ true → ⊥
    no_number m k f =
        let run_is : prefix_len is_name_byte text ≡ m = (number_run text m k f).0 in
        let le : m ≤ literal = h.longest m k (number_run text m k f).1 in
        differ (omega (arith, fits))
