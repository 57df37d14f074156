-- Where readings stop: of a part, and so of what it is a part of.
use Rattle.proof_text.proofs.Common.{◌≡◌, ◌≢◌, ℕ, zero, suc, ◌+◌, ◌-◌, ◌<◌, ◌≤◌, ◌==◌, Bool, true, false, Result, Ok, Err, List, [], ◌∷◌, ◌++◌, length, get_or, take, drop, refl, ap, subst, sym, ◌∙◌, append_assoc, length-append, arith, IsErr, IsErrAnd, IfErr, append_cancel_left, Language, GoesOn, Stops, StopsIn, Fixed, NotNext, Refusal, Refused, NoMemory}

-- behind the front that was read of a word of L, a word of M comes next
pub record Next (L : Language) (front : List ℕ) (M : Language) : Type 0 where
  pub into : (word : List ℕ) → M word → (tail : List ℕ) × L (front ++ (word ++ tail))
  pub out : (behind word after : List ℕ) → L word → front ++ behind ≡ word ++ after → (found : List ℕ) × (left : List ℕ) × M found × (behind ≡ found ++ left)

pub stops_behind : (L M : Language) (front text mid rest : List ℕ) → Next L front M → text ≡ front ++ mid → Stops M mid rest → Stops L text rest
stops_behind L M front text mid rest n e s =
    let i = n.into (s.passed ++ s.stops.more) s.stops.fits in
    record {
      passed = front ++ s.passed;
      goes = e ∙ ap (λ (k : List ℕ). front ++ k) s.goes ∙ sym (append_assoc front s.passed rest);
      stops = record {
        more = s.stops.more ++ i.0;
        fits = subst L (ap (λ (k : List ℕ). front ++ k) (append_assoc s.passed s.stops.more i.0) ∙ sym (append_assoc front s.passed (s.stops.more ++ i.0))) i.1;
        none = λ behind word after g w f.
            let o = n.out (s.passed ++ behind) word after w (sym (append_assoc front s.passed behind) ∙ f) in
            s.stops.none behind o.0 o.1 g o.2 o.3;
      };
    }

-- ---- first bytes

goes_first : (text behind after : List ℕ) (w : ℕ) → GoesOn text behind → behind ≡ w ∷ after → (more : List ℕ) × (text ≡ w ∷ more)
goes_first [] behind after w g e = absurd cc
goes_first (b ∷ text) behind after w g e = (text, let f = g.1 in let h : b ≡ w = cc in ap (λ (k : ℕ). k ∷ text) h)

pub same_first : (passed text behind after : List ℕ) (w : ℕ) → GoesOn text behind → passed ++ behind ≡ w ∷ after → (more : List ℕ) × (passed ++ text ≡ w ∷ more)
same_first [] text behind after w g e = goes_first text behind after w g e
same_first (p ∷ passed) text behind after w g e = (passed ++ text, let h : p ≡ w = cc in ap (λ (k : ℕ). k ∷ (passed ++ text)) h)

-- ---- fixed texts

pub not_next_end : (w : ℕ) (text : List ℕ) → text ≡ [] → NotNext w text
not_next_end w text e more f = let g : [] ≡ w ∷ more = sym e ∙ f in absurd cc

pub not_next_other : (w b : ℕ) (text behind : List ℕ) → text ≡ b ∷ behind → b ≢ w → NotNext w text
not_next_other w b text behind e deny more f = deny (let g : b ∷ behind ≡ w ∷ more = sym e ∙ f in cc)

pub fixed_next : (front tail : List ℕ) (w : ℕ) → Next (Fixed (front ++ w ∷ tail)) front (Fixed (w ∷ []))
fixed_next front tail w = record {
  into = λ word m. (tail, ap (λ (k : List ℕ). front ++ (k ++ tail)) m);
  out = λ behind word after l e. (w ∷ [], tail ++ after, refl, append_cancel_left front behind (w ∷ (tail ++ after)) (e ∙ ap (λ (k : List ℕ). k ++ after) l ∙ append_assoc front (w ∷ tail) after));
}

parts : (wanted : List ℕ) (i d : ℕ) → i < length wanted → (tail : List ℕ) × (wanted ≡ take i wanted ++ get_or wanted i d ∷ tail)
parts [] i d h = absurd (omega arith)
parts (w ∷ wanted) zero d h = (wanted, refl)
parts (w ∷ wanted) (suc i) d h =
    let p = parts wanted i d (omega arith) in
    (p.0, ap (λ (k : List ℕ). w ∷ k) p.1)

pub text_stops : (wanted : List ℕ) (i d byte : ℕ) (old mid rest : List ℕ) → i < length wanted → byte ≡ get_or wanted i d → old ≡ take i wanted ++ mid → Stops (Fixed (byte ∷ [])) mid rest → Stops (Fixed wanted) old rest
text_stops wanted i d byte old mid rest h is e s =
    let p = parts wanted i d h in
    let whole : take i wanted ++ byte ∷ p.0 ≡ wanted = ap (λ (k : ℕ). take i wanted ++ k ∷ p.0) is ∙ sym p.1 in
    let n : Next (Fixed wanted) (take i wanted) (Fixed (byte ∷ [])) = subst (λ (l : List ℕ). Next (Fixed l) (take i wanted) (Fixed (byte ∷ []))) whole (fixed_next (take i wanted) p.0 byte) in
    stops_behind (Fixed wanted) (Fixed (byte ∷ [])) (take i wanted) old mid rest n e s

-- ---- what stops, or want of memory

pub stops_in : {E : Type 0} (L M : Language) (e : Refusal E) (text mid rest : List ℕ) → (Stops M mid rest → Stops L text rest) → StopsIn M e mid rest → StopsIn L e text rest
stops_in L M (Refused x) text mid rest f s = f s
stops_in L M NoMemory text mid rest f s = tt

pub text_stops_in : {E : Type 0} (wanted : List ℕ) (i d byte : ℕ) (e : Refusal E) (old mid rest : List ℕ) → i < length wanted → byte ≡ get_or wanted i d → old ≡ take i wanted ++ mid → StopsIn (Fixed (byte ∷ [])) e mid rest → StopsIn (Fixed wanted) e old rest
text_stops_in wanted i d byte e old mid rest h is w s = stops_in (Fixed wanted) (Fixed (byte ∷ [])) e old mid rest (λ s. text_stops wanted i d byte old mid rest h is w s) s

-- a refusal is passed on
pub pass : {T E : Type 0} (r : Result T (Refusal E)) (e : Refusal E) (L : Language) (old new : List ℕ) → IsErr r × IsErrAnd r (λ x. x ≡ e) → StopsIn L e old new → IfErr r (λ x. StopsIn L x old new)
pass (Ok x) e L old new h s = tt
pass {E = E} (Err x) e L old new h s = subst (λ (y : Refusal E). StopsIn L y old new) (sym h.1) s

-- ---- fronts of texts

pub no_bytes : (text : List ℕ) → length text < 1 → text ≡ []
no_bytes [] h = refl
no_bytes (b ∷ text) h = absurd (omega arith)

pub not_empty : (text : List ℕ) (b : Bool) → b ≡ (length text == 0) → b ≡ false → text ≢ []
not_empty [] b is full e = let yes : b ≡ true = is in absurd cc
not_empty (x ∷ text) b is full e = absurd cc

take_whole : (text : List ℕ) → take (length text) text ≡ text
take_whole [] = refl
take_whole (b ∷ text) = ap (λ (k : List ℕ). b ∷ k) (take_whole text)

pub first_byte : (text : List ℕ) (d : ℕ) → 1 ≤ length text → text ≡ get_or text 0 d ∷ take (length text - 1) (drop 1 text)
first_byte [] d h = absurd (omega arith)
first_byte (b ∷ text) d h =
    let n : length (b ∷ text) - 1 ≡ length text = omega arith in
    ap (λ (k : List ℕ). b ∷ k) (sym (ap (λ (m : ℕ). take m text) n ∙ take_whole text))

some_cons : (b : ℕ) (text : List ℕ) → 0 < length (b ∷ text)
some_cons b text = omega arith

pub some_bytes : (front : List ℕ) (b : ℕ) (behind : List ℕ) → 0 < length (front ++ b ∷ behind)
some_bytes [] b behind = some_cons b behind
some_bytes (x ∷ front) b behind = some_cons x (front ++ b ∷ behind)

pub behind_short : (front rest text : List ℕ) (most : ℕ) → text ≡ front ++ rest → length text ≤ most → length rest ≤ most
behind_short front rest text most e short =
    let a : length text ≡ length front + length rest = ap length e ∙ length-append front rest in
    omega arith

-- a part is passed, and a reading of it stops
pub passes : {T E : Type 0} (r : Result T (Refusal E)) (e : Refusal E) (L M : Language) (old mid new : List ℕ) → (Stops M mid new → Stops L old new) → IsErr r × IsErrAnd r (λ x. x ≡ e) → StopsIn M e mid new → IfErr r (λ x. StopsIn L x old new)
passes r e L M old mid new f h s = pass r e L old new h (stops_in L M e old mid new f s)
