-- How many lines the text of proofs has.
use Rattle.proof_reader.proofs.Common.{◌≡◌, ℕ, suc, ◌+◌, ◌≤◌, Bool, true, false, eqb, List, [], ◌∷◌, ◌++◌, length, length-append, flat_map, codes, refl, sym, ap, ap₂, ◌∙◌, ⊎_elim, arith, if◌then◌else◌, AllByRecursion, eqb-true, false≢true, append-nil, flat_map-append, is_digit, is_printable, is_blank, feeds, which, feeds_append, Lit, Step, Proof, numeral, literal_text, clause_text, hints_text, step_text, log_text, widths_text, head_text, proof_text, text_of, in_name, IsName, IsWellFormed, no_digit_10, numeral_digits}

two : (xs ys : List ℕ) (m n : ℕ) → feeds xs ≡ m → feeds ys ≡ n → feeds (xs ++ ys) ≡ m + n
two xs ys m n e f = feeds_append xs ys ∙ ap₂ (λ (a b : ℕ). a + b) e f

-- bytes that pass a test which a line feed fails hold no line feed
feedless : (p : ℕ → Bool) (xs : List ℕ) → p 10 ≡ false → AllByRecursion (λ c. p c ≡ true) xs → feeds xs ≡ 0
feedless p [] fails all = refl
feedless p (x ∷ xs) fails all = feeds_append (x ∷ []) xs ∙ ⊎_elim
    (λ (h : eqb x 10 ≡ true). absurd (false≢true (sym fails ∙ ap p (sym (eqb-true x 10 h)) ∙ all.0)))
    (λ (h : eqb x 10 ≡ false). let none : feeds xs ≡ 0 = feedless p xs fails all.1 in rw h (omega arith))
    (which (eqb x 10))

number : (n : ℕ) → feeds (numeral n) ≡ 0
number n = feedless is_digit (numeral n) no_digit_10 (numeral_digits n)

flat_none : {X : Type 0} (f : X → List ℕ) → ((x : X) → feeds (f x) ≡ 0) → (xs : List X) → feeds (flat_map f xs) ≡ 0
flat_none f each [] = refl
flat_none f each (x ∷ xs) = two (f x) (flat_map f xs) 0 0 (each x) (flat_none f each xs)

flat_ones : {X : Type 0} (f : X → List ℕ) → ((x : X) → feeds (f x) ≡ 1) → (xs : List X) → feeds (flat_map f xs) ≡ length xs
flat_ones f each [] = refl
flat_ones f each (x ∷ xs) =
    let sum : 1 + length xs ≡ suc (length xs) = omega arith in two (f x) (flat_map f xs) 1 (length xs) (each x) (flat_ones f each xs) ∙ sum

sign : (negated : Bool) → feeds (if negated then codes "-" else []) ≡ 0
sign true = refl
sign false = refl

literal : (l : Lit) → feeds (literal_text l ++ codes " ") ≡ 0
literal l = two (literal_text l) (codes " ") 0 0 (two (if l.negated then codes "-" else []) (numeral l.variable) 0 0 (sign l.negated) (number l.variable)) refl

step : (s : Step) → feeds (step_text s) ≡ 1
step s =
    let clause = two (flat_map (λ l. literal_text l ++ codes " ") s.clause) (codes ":") 0 0 (flat_none (λ l. literal_text l ++ codes " ") literal s.clause) refl in
    let hint = λ (h : ℕ). two (codes " ") (numeral h) 0 0 refl (number h) in
    let hints = two (flat_map (λ h. codes " " ++ numeral h) s.hints) (codes "\n") 0 1 (flat_none (λ h. codes " " ++ numeral h) hint s.hints) refl in
    two (clause_text s.clause) (hints_text s.hints) 0 1 clause hints

log_lines : (steps : List Step) → feeds (log_text steps) ≡ suc (length steps)
log_lines steps =
    let count = two (codes "log ") (numeral (length steps)) 0 0 refl (number (length steps)) in
    let first = two (codes "log " ++ numeral (length steps)) (codes "\n") 0 1 count refl in
    let sum : 1 + length steps ≡ suc (length steps) = omega arith in
    two ((codes "log " ++ numeral (length steps)) ++ codes "\n") (flat_map step_text steps) 1 (length steps) first (flat_ones step_text step steps) ∙ sum

widths : (ws : List ℕ) → feeds (widths_text ws) ≡ 0
widths [] = refl
widths (w ∷ []) = number w
widths (w ∷ v ∷ ws) =
    let rest : feeds (32 ∷ widths_text (v ∷ ws)) ≡ 0 = two (32 ∷ []) (widths_text (v ∷ ws)) 0 0 refl (widths (v ∷ ws)) in
    two (numeral w) (32 ∷ widths_text (v ∷ ws)) 0 0 (number w) rest

no_feed_in_name : in_name 10 ≡ false
unfolding in_name is_printable is_blank
no_feed_in_name = refl

head_lines : (name ws : List ℕ) → IsName name → feeds (head_text name ws) ≡ 1
head_lines name ws is =
    let named = two (codes "proof ") name 0 0 refl (feedless in_name name no_feed_in_name is) in
    let open_ = two (codes "proof " ++ name) (codes " [") 0 0 named refl in
    let all = two ((codes "proof " ++ name) ++ codes " [") (widths_text ws) 0 0 open_ (widths ws) in
    two (((codes "proof " ++ name) ++ codes " [") ++ widths_text ws) (codes "]\n") 0 1 all refl

-- a proof has two lines, and one for each step
pub proof_lines : (p : Proof) → IsWellFormed p → feeds (proof_text p) ≡ 2 + length p.log
proof_lines p is =
    let sum : 1 + suc (length p.log) ≡ 2 + length p.log = omega arith in
    two (head_text p.name p.widths) (log_text p.log) 1 (suc (length p.log)) (head_lines p.name p.widths is.0) (log_lines p.log) ∙ sum

-- one proof more has as many lines more
pub lines_more : (earlier : List Proof) (p : Proof) → IsWellFormed p → feeds (text_of (earlier ++ p ∷ [])) ≡ feeds (text_of earlier) + (2 + length p.log)
lines_more earlier p good =
    ap feeds (flat_map-append proof_text earlier (p ∷ [])) ∙ feeds_append (text_of earlier) (text_of (p ∷ []))
    ∙ ap (λ (n : ℕ). feeds (text_of earlier) + n) (ap feeds (append-nil (proof_text p)) ∙ proof_lines p good)

few : (xs : List ℕ) → feeds xs ≤ length xs
few [] = omega arith
few (x ∷ xs) = ⊎_elim
    (λ (h : eqb x 10 ≡ true). let rest = few xs in let one : feeds (x ∷ []) ≡ 1 = rw h refl in omega (arith, feeds_append (x ∷ []) xs))
    (λ (h : eqb x 10 ≡ false). let rest = few xs in let none : feeds (x ∷ []) ≡ 0 = rw h refl in omega (arith, feeds_append (x ∷ []) xs))
    (which (eqb x 10))

-- there are no more lines than bytes
pub lines_few : (earlier rest : List Proof) → feeds (text_of earlier) ≤ length (text_of (earlier ++ rest))
lines_few earlier rest =
    omega (arith, few (text_of earlier), ap (λ (l : List ℕ). length l) (flat_map-append proof_text earlier rest), length-append (text_of earlier) (text_of rest))
