-- Texts in front of others are the same only where what they write is.
use Rattle.proof_text.proofs.Common.{◌≡◌, ◌≢◌, ℕ, Bool, true, false, if◌then◌else◌, List, [], ◌∷◌, ◌++◌, flat_map, length, codes, refl, ap, subst, sym, ◌∙◌, append_assoc, arith, AllByRecursion, append-nil, append_cancel_left, append_cancel_right, is_digit, is_printable, is_blank, Lit, Step, Proof, numeral, literal_text, clause_text, hints_text, step_text, log_text, widths_text, head_text, proof_text, text_of, in_name, IsName, IsWellFormed, AreWellFormed, Lacks, line_text}
use Rattle.proof_text.proofs.Numerals.{numeral_digits, begins, one, on, two_numbers, same, longer, shorter, split}

-- ---- bytes that are no digits

pub no_digit_10 : is_digit 10 ≡ false
unfolding is_digit
no_digit_10 = refl

pub no_digit_32 : is_digit 32 ≡ false
unfolding is_digit
no_digit_32 = refl

pub no_digit_45 : is_digit 45 ≡ false
unfolding is_digit
no_digit_45 = refl

pub no_digit_58 : is_digit 58 ≡ false
unfolding is_digit
no_digit_58 = refl

pub no_digit_93 : is_digit 93 ≡ false
unfolding is_digit
no_digit_93 = refl

-- a number before a byte that is no digit
pub same_numbers : (n m b e : ℕ) (rest more : List ℕ) → is_digit b ≡ false → is_digit e ≡ false → numeral n ++ b ∷ rest ≡ numeral m ++ e ∷ more → (n ≡ m) × (b ≡ e) × (rest ≡ more)
same_numbers n m b e rest more no_b no_e text =
    elim (two_numbers n m b e rest more no_e text) [
      | one p q r ↦ (p, q, r)
      | on d some more ↦ absurd (cc)
    ]

-- ---- literals

-- the first byte of a number is a digit
first_is : (n x : ℕ) (more rest : List ℕ) → numeral n ++ more ≡ x ∷ rest → is_digit x ≡ true
first_is n x more rest e =
    let b = begins n in
    let d = b.digit in
    let e2 : b.first ∷ (b.others ++ more) ≡ x ∷ rest = ap (λ (l : List ℕ). l ++ more) (sym b.whole) ∙ e in
    let f : b.first ≡ x = cc in
    cc

pub not_first : (n x : ℕ) (more rest : List ℕ) → is_digit x ≡ false → numeral n ++ more ≡ x ∷ rest → ⊥
not_first n x more rest deny e = let d = first_is n x more rest e in cc

abbrev written : Bool → ℕ → List ℕ
written negated variable = (if negated then 45 ∷ [] else []) ++ numeral variable

written_same : (b c : Bool) (v w : ℕ) (rest more : List ℕ) → written b v ++ 32 ∷ rest ≡ written c w ++ 32 ∷ more → (b ≡ c) × (v ≡ w) × (rest ≡ more)
written_same true true v w rest more e =
    let tail : numeral v ++ 32 ∷ rest ≡ numeral w ++ 32 ∷ more = cc in
    let s = same_numbers v w 32 32 rest more no_digit_32 no_digit_32 tail in
    (refl, s.0, s.2)
written_same true false v w rest more e = absurd (not_first w 45 (32 ∷ more) (numeral v ++ 32 ∷ rest) no_digit_45 (sym e))
written_same false true v w rest more e = absurd (not_first v 45 (32 ∷ rest) (numeral w ++ 32 ∷ more) no_digit_45 e)
written_same false false v w rest more e =
    let s = same_numbers v w 32 32 rest more no_digit_32 no_digit_32 e in
    (refl, s.0, s.2)

written_begins : (b : Bool) (v x : ℕ) (more rest : List ℕ) → x ≢ 45 → is_digit x ≡ false → written b v ++ more ≡ x ∷ rest → ⊥
written_begins true v x more rest no_sign deny e = no_sign (let f : 45 ∷ (numeral v ++ more) ≡ x ∷ rest = e in cc)
written_begins false v x more rest no_sign deny e = not_first v x more rest deny e

lit_same : (l m : Lit) → l.variable ≡ m.variable → l.negated ≡ m.negated → l ≡ m
lit_same l m p q =
    let f : ℕ → Lit = λ v. record { variable = v; negated = l.negated } in
    let g : Bool → Lit = λ b. record { variable = m.variable; negated = b } in
    ap f p ∙ ap g q

pub same_literals : (l m : Lit) (rest more : List ℕ) → literal_text l ++ 32 ∷ rest ≡ literal_text m ++ 32 ∷ more → (l ≡ m) × (rest ≡ more)
same_literals l m rest more e =
    let s = written_same l.negated m.negated l.variable m.variable rest more e in
    (lit_same l m s.1 s.0, s.2)

pub no_literal : (l : Lit) (more rest : List ℕ) → literal_text l ++ more ≡ 58 ∷ rest → ⊥
no_literal l more rest e = written_begins l.negated l.variable 58 more rest (λ f. absurd cc) no_digit_58 e

-- ---- clauses

pub clause_cons : (l : Lit) (clause : List Lit) (rest : List ℕ) → clause_text (l ∷ clause) ++ rest ≡ literal_text l ++ 32 ∷ (clause_text clause ++ rest)
clause_cons l clause rest =
    let t = flat_map (λ (x : Lit). literal_text x ++ codes " ") clause in
    ap (λ (k : List ℕ). k ++ rest) (append_assoc (literal_text l ++ 32 ∷ []) t (58 ∷ []))
    ∙ append_assoc (literal_text l ++ 32 ∷ []) (t ++ 58 ∷ []) rest
    ∙ append_assoc (literal_text l) (32 ∷ []) ((t ++ 58 ∷ []) ++ rest)

pub same_clauses : (c d : List Lit) (rest more : List ℕ) → clause_text c ++ rest ≡ clause_text d ++ more → (c ≡ d) × (rest ≡ more)
same_clauses [] [] rest more e = (refl, cc)
same_clauses [] (m ∷ d) rest more e = absurd (no_literal m (32 ∷ (clause_text d ++ more)) rest (sym (clause_cons m d more) ∙ sym e))
same_clauses (l ∷ c) [] rest more e = absurd (no_literal l (32 ∷ (clause_text c ++ rest)) more (sym (clause_cons l c rest) ∙ e))
same_clauses (l ∷ c) (m ∷ d) rest more e =
    let s = same_literals l m (clause_text c ++ rest) (clause_text d ++ more) (sym (clause_cons l c rest) ∙ e ∙ clause_cons m d more) in
    let t = same_clauses c d rest more s.1 in
    (ap (λ (x : Lit). x ∷ c) s.0 ∙ ap (λ (k : List Lit). m ∷ k) t.0, t.1)

-- ---- hints

pub hints_cons : (h : ℕ) (hints : List ℕ) (rest : List ℕ) → hints_text (h ∷ hints) ++ rest ≡ 32 ∷ (numeral h ++ (hints_text hints ++ rest))
hints_cons h hints rest =
    let t = flat_map (λ (x : ℕ). codes " " ++ numeral x) hints in
    ap (λ (k : List ℕ). 32 ∷ k)
    (ap (λ (k : List ℕ). k ++ rest) (append_assoc (numeral h) t (10 ∷ [])) ∙ append_assoc (numeral h) (t ++ 10 ∷ []) rest)

record Behind (text : List ℕ) : Type 0 where
  first : ℕ
  others : List ℕ
  whole : text ≡ first ∷ others
  no_digit : is_digit first ≡ false

behind_number : (hints rest : List ℕ) → Behind (hints_text hints ++ rest)
behind_number [] rest = record { first = 10; others = rest; whole = refl; no_digit = no_digit_10 }
behind_number (h ∷ hints) rest = record { first = 32; others = numeral h ++ (hints_text hints ++ rest); whole = hints_cons h hints rest; no_digit = no_digit_32 }

pub same_hints : (c d : List ℕ) (rest more : List ℕ) → hints_text c ++ rest ≡ hints_text d ++ more → (c ≡ d) × (rest ≡ more)
same_hints [] [] rest more e = (refl, cc)
same_hints [] (m ∷ d) rest more e = absurd (let f : 10 ∷ rest ≡ 32 ∷ (numeral m ++ (hints_text d ++ more)) = e ∙ hints_cons m d more in cc)
same_hints (l ∷ c) [] rest more e = absurd (let f : 32 ∷ (numeral l ++ (hints_text c ++ rest)) ≡ 10 ∷ more = sym (hints_cons l c rest) ∙ e in cc)
same_hints (l ∷ c) (m ∷ d) rest more e =
    let f : 32 ∷ (numeral l ++ (hints_text c ++ rest)) ≡ 32 ∷ (numeral m ++ (hints_text d ++ more)) = sym (hints_cons l c rest) ∙ e ∙ hints_cons m d more in
    let tail : numeral l ++ (hints_text c ++ rest) ≡ numeral m ++ (hints_text d ++ more) = cc in
    let p = behind_number c rest in
    let q = behind_number d more in
    let g : numeral l ++ p.first ∷ p.others ≡ numeral m ++ q.first ∷ q.others = ap (λ (k : List ℕ). numeral l ++ k) (sym p.whole) ∙ tail ∙ ap (λ (k : List ℕ). numeral m ++ k) q.whole in
    let s = same_numbers l m p.first q.first p.others q.others p.no_digit q.no_digit g in
    let u : hints_text c ++ rest ≡ hints_text d ++ more = p.whole ∙ ap (λ (k : ℕ). k ∷ p.others) s.1 ∙ ap (λ (k : List ℕ). q.first ∷ k) s.2 ∙ sym q.whole in
    let t = same_hints c d rest more u in
    (ap (λ (x : ℕ). x ∷ c) s.0 ∙ ap (λ (k : List ℕ). m ∷ k) t.0, t.1)

-- ---- steps

step_same : (s t : Step) → s.clause ≡ t.clause → s.hints ≡ t.hints → s ≡ t
step_same s t p q =
    let f : List Lit → Step = λ c. record { clause = c; hints = s.hints } in
    let g : List ℕ → Step = λ h. record { clause = t.clause; hints = h } in
    ap f p ∙ ap g q

pub same_steps : (s t : Step) (rest more : List ℕ) → step_text s ++ rest ≡ step_text t ++ more → (s ≡ t) × (rest ≡ more)
same_steps s t rest more e =
    let c = same_clauses s.clause t.clause (hints_text s.hints ++ rest) (hints_text t.hints ++ more) (sym (append_assoc (clause_text s.clause) (hints_text s.hints) rest) ∙ e ∙ append_assoc (clause_text t.clause) (hints_text t.hints) more) in
    let h = same_hints s.hints t.hints rest more c.1 in
    (step_same s t c.0 h.0, h.1)

-- ---- logs

same_lines : (s t : List Step) (rest more : List ℕ) → length s ≡ length t → flat_map step_text s ++ rest ≡ flat_map step_text t ++ more → (s ≡ t) × (rest ≡ more)
same_lines [] [] rest more l e = (refl, e)
same_lines [] (y ∷ t) rest more l e = absurd (omega arith)
same_lines (x ∷ s) [] rest more l e = absurd (omega arith)
same_lines (x ∷ s) (y ∷ t) rest more l e =
    let p = same_steps x y (flat_map step_text s ++ rest) (flat_map step_text t ++ more) (sym (append_assoc (step_text x) (flat_map step_text s) rest) ∙ e ∙ append_assoc (step_text y) (flat_map step_text t) more) in
    let q = same_lines s t rest more (omega arith) p.1 in
    (ap (λ (z : Step). z ∷ s) p.0 ∙ ap (λ (k : List Step). y ∷ k) q.0, q.1)

pub log_is : (steps : List Step) (rest : List ℕ) → log_text steps ++ rest ≡ codes "log " ++ (numeral (length steps) ++ 10 ∷ (flat_map step_text steps ++ rest))
log_is steps rest =
    let n = numeral (length steps) in
    let t = flat_map step_text steps in
    ap (λ (k : List ℕ). codes "log " ++ k) (append_assoc (n ++ 10 ∷ []) t rest ∙ append_assoc n (10 ∷ []) (t ++ rest))

pub log_whole : (steps : List Step) → log_text steps ≡ codes "log " ++ (numeral (length steps) ++ 10 ∷ flat_map step_text steps)
log_whole steps = ap (λ (k : List ℕ). codes "log " ++ k) (append_assoc (numeral (length steps)) (10 ∷ []) (flat_map step_text steps))

pub same_logs : (s t : List Step) (rest more : List ℕ) → log_text s ++ rest ≡ log_text t ++ more → (s ≡ t) × (rest ≡ more)
same_logs s t rest more e =
    let f : codes "log " ++ (numeral (length s) ++ 10 ∷ (flat_map step_text s ++ rest)) ≡ codes "log " ++ (numeral (length t) ++ 10 ∷ (flat_map step_text t ++ more)) = sym (log_is s rest) ∙ e ∙ log_is t more in
    let g = append_cancel_left (codes "log ") (numeral (length s) ++ 10 ∷ (flat_map step_text s ++ rest)) (numeral (length t) ++ 10 ∷ (flat_map step_text t ++ more)) f in
    let n = same_numbers (length s) (length t) 10 10 (flat_map step_text s ++ rest) (flat_map step_text t ++ more) no_digit_10 no_digit_10 g in
    same_lines s t rest more n.0 n.2

-- ---- widths

pub widths_cons : (n m : ℕ) (ns rest : List ℕ) → widths_text (n ∷ m ∷ ns) ++ rest ≡ numeral n ++ 32 ∷ (widths_text (m ∷ ns) ++ rest)
widths_cons n m ns rest = append_assoc (numeral n) (32 ∷ widths_text (m ∷ ns)) rest

pub same_widths : (ns ms rest more : List ℕ) (e : ℕ) → is_digit e ≡ false → e ≢ 32 → ns ≢ [] → ms ≢ [] → widths_text ns ++ e ∷ rest ≡ widths_text ms ++ e ∷ more → (ns ≡ ms) × (rest ≡ more)
same_widths [] ms rest more e no_e no_blank some others text = absurd (some refl)
same_widths (n ∷ ns) [] rest more e no_e no_blank some others text = absurd (others refl)
same_widths (n ∷ []) (m ∷ []) rest more e no_e no_blank some others text =
    let s = same_numbers n m e e rest more no_e no_e text in
    (ap (λ (x : ℕ). x ∷ []) s.0, s.2)
same_widths (n ∷ []) (m ∷ k ∷ ms) rest more e no_e no_blank some others text =
    let s = same_numbers n m e 32 rest (widths_text (k ∷ ms) ++ e ∷ more) no_e no_digit_32 (text ∙ widths_cons m k ms (e ∷ more)) in
    absurd (no_blank s.1)
same_widths (n ∷ l ∷ ns) (m ∷ []) rest more e no_e no_blank some others text =
    let s = same_numbers n m 32 e (widths_text (l ∷ ns) ++ e ∷ rest) more no_digit_32 no_e (sym (widths_cons n l ns (e ∷ rest)) ∙ text) in
    absurd (no_blank (sym s.1))
same_widths (n ∷ l ∷ ns) (m ∷ k ∷ ms) rest more e no_e no_blank some others text =
    let s = same_numbers n m 32 32 (widths_text (l ∷ ns) ++ e ∷ rest) (widths_text (k ∷ ms) ++ e ∷ more) no_digit_32 no_digit_32 (sym (widths_cons n l ns (e ∷ rest)) ∙ text ∙ widths_cons m k ms (e ∷ more)) in
    let t = same_widths (l ∷ ns) (k ∷ ms) rest more e no_e no_blank (λ f. absurd cc) (λ f. absurd cc) s.2 in
    (ap (λ (x : ℕ). x ∷ l ∷ ns) s.0 ∙ ap (λ (x : List ℕ). m ∷ x) t.0, t.1)

-- ---- lines

pub lacks_all : (x : ℕ) (text more : List ℕ) → Lacks x text → Lacks x more → Lacks x (text ++ more)
lacks_all x [] more h k = k
lacks_all x (b ∷ text) more h k = (h.0, lacks_all x text more h.1 k)

lacks_at : (x : ℕ) (text more : List ℕ) → Lacks x (text ++ x ∷ more) → ⊥
lacks_at x [] more h = h.0 refl
lacks_at x (b ∷ text) more h = lacks_at x text more h.1

-- texts up to the first such byte
pub same_fronts : (x : ℕ) (before other rest more : List ℕ) → Lacks x before → Lacks x other → before ++ x ∷ rest ≡ other ++ x ∷ more → (before ≡ other) × (rest ≡ more)
same_fronts x before other rest more h k e =
    elim (split before other rest more x x e) [
      | same p q r ↦ (p, r)
      | longer zs p q ↦ absurd (lacks_at x before zs (subst (λ (l : List ℕ). Lacks x l) p k))
      | shorter zs p q ↦ absurd (lacks_at x other zs (subst (λ (l : List ℕ). Lacks x l) p h))
    ]

-- and texts behind the last one
pub same_backs : (x : ℕ) (before other rest more : List ℕ) → Lacks x rest → Lacks x more → before ++ x ∷ rest ≡ other ++ x ∷ more → (before ≡ other) × (rest ≡ more)
same_backs x before other rest more h k e =
    elim (split before other rest more x x e) [
      | same p q r ↦ (p, r)
      | longer zs p q ↦ absurd (lacks_at x zs more (subst (λ (l : List ℕ). Lacks x l) q h))
      | shorter zs p q ↦ absurd (lacks_at x zs rest (subst (λ (l : List ℕ). Lacks x l) q k))
    ]

lacks_digits : (x : ℕ) (cs : List ℕ) → is_digit x ≡ false → AllByRecursion (λ c. is_digit c ≡ true) cs → Lacks x cs
lacks_digits x [] deny h = tt
lacks_digits x (c ∷ cs) deny h = (λ (e : c ≡ x). absurd (let d : is_digit c ≡ true = h.0 in let f : is_digit c ≡ is_digit x = ap is_digit e in cc), lacks_digits x cs deny h.1)

lacks_number : (x n : ℕ) → is_digit x ≡ false → Lacks x (numeral n)
lacks_number x n deny = lacks_digits x (numeral n) deny (numeral_digits n)

pub lacks_widths : (x : ℕ) (ns : List ℕ) → is_digit x ≡ false → x ≢ 32 → Lacks x (widths_text ns)
lacks_widths x [] deny no_blank = tt
lacks_widths x (n ∷ []) deny no_blank = lacks_number x n deny
lacks_widths x (n ∷ m ∷ ns) deny no_blank = lacks_all x (numeral n) (32 ∷ widths_text (m ∷ ns)) (lacks_number x n deny) (λ (e : 32 ≡ x). no_blank (sym e), lacks_widths x (m ∷ ns) deny no_blank)

not_in_name_10 : in_name 10 ≡ false
unfolding in_name is_printable is_blank
not_in_name_10 = refl

pub lacks_name : (name : List ℕ) → IsName name → Lacks 10 name
lacks_name [] h = tt
lacks_name (b ∷ name) h = (λ (e : b ≡ 10). absurd (let p : in_name b ≡ true = h.0 in let q = not_in_name_10 in let f : in_name b ≡ in_name 10 = ap in_name e in cc), lacks_name name h.1)

no_digit_91 : is_digit 91 ≡ false
unfolding is_digit
no_digit_91 = refl

pub lacks_line : (name widths : List ℕ) → IsName name → Lacks 10 (line_text name widths)
lacks_line name widths h =
    lacks_all 10 (name ++ 32 ∷ []) (91 ∷ (widths_text widths ++ 93 ∷ []))
    (lacks_all 10 name (32 ∷ []) (lacks_name name h) (λ (e : 32 ≡ 10). absurd (omega arith), tt))
    (λ (e : 91 ≡ 10). absurd (omega arith), lacks_all 10 (widths_text widths) (93 ∷ []) (lacks_widths 10 widths no_digit_10 (λ (e : 10 ≡ 32). absurd (omega arith))) (λ (e : 93 ≡ 10). absurd (omega arith), tt))

pub lacks_bracket : (widths : List ℕ) → Lacks 91 (widths_text widths ++ 93 ∷ [])
lacks_bracket widths = lacks_all 91 (widths_text widths) (93 ∷ []) (lacks_widths 91 widths no_digit_91 (λ (e : 91 ≡ 32). absurd (omega arith))) (λ (e : 93 ≡ 91). absurd (omega arith), tt)

pub head_whole : (name widths : List ℕ) → head_text name widths ≡ codes "proof " ++ (name ++ 32 ∷ 91 ∷ (widths_text widths ++ 93 ∷ 10 ∷ []))
head_whole name widths =
    let w = widths_text widths in
    ap (λ (k : List ℕ). codes "proof " ++ k) (append_assoc (name ++ 32 ∷ 91 ∷ []) w (93 ∷ 10 ∷ []) ∙ append_assoc name (32 ∷ 91 ∷ []) (w ++ 93 ∷ 10 ∷ []))

pub head_is : (name widths rest : List ℕ) → head_text name widths ++ rest ≡ codes "proof " ++ (line_text name widths ++ 10 ∷ rest)
head_is name widths rest =
    let w = widths_text widths in
    let one : (name ++ 32 ∷ 91 ∷ (w ++ 93 ∷ 10 ∷ [])) ++ rest ≡ name ++ 32 ∷ 91 ∷ (w ++ 93 ∷ 10 ∷ rest)
    = append_assoc name (32 ∷ 91 ∷ (w ++ 93 ∷ 10 ∷ [])) rest ∙ ap (λ (k : List ℕ). name ++ 32 ∷ 91 ∷ k) (append_assoc w (93 ∷ 10 ∷ []) rest) in
    let two : line_text name widths ++ 10 ∷ rest ≡ name ++ 32 ∷ 91 ∷ (w ++ 93 ∷ 10 ∷ rest)
    = append_assoc (name ++ 32 ∷ []) (91 ∷ (w ++ 93 ∷ [])) (10 ∷ rest) ∙ append_assoc name (32 ∷ []) (91 ∷ ((w ++ 93 ∷ []) ++ 10 ∷ rest)) ∙ ap (λ (k : List ℕ). name ++ 32 ∷ 91 ∷ k) (append_assoc w (93 ∷ []) (10 ∷ rest)) in
    ap (λ (k : List ℕ). k ++ rest) (head_whole name widths) ∙ ap (λ (k : List ℕ). codes "proof " ++ k) (one ∙ sym two)

same_wide : (ns ms : List ℕ) → ns ≢ [] → ms ≢ [] → widths_text ns ++ 93 ∷ [] ≡ widths_text ms ++ 93 ∷ [] → ns ≡ ms
same_wide ns ms some others e = (same_widths ns ms [] [] 93 no_digit_93 (λ (f : 93 ≡ 32). absurd (omega arith)) some others e).0

-- a line is of one name and one list of widths
pub same_names : (r s ns ms : List ℕ) → ns ≢ [] → ms ≢ [] → line_text r ns ≡ line_text s ms → (r ≡ s) × (ns ≡ ms)
same_names r s ns ms some others e =
    let b = same_backs 91 (r ++ 32 ∷ []) (s ++ 32 ∷ []) (widths_text ns ++ 93 ∷ []) (widths_text ms ++ 93 ∷ []) (lacks_bracket ns) (lacks_bracket ms) e in
    (append_cancel_right r s (32 ∷ []) b.0, same_wide ns ms some others b.1)

pub same_heads : (r s ns ms rest more : List ℕ) → IsName r → IsName s → ns ≢ [] → ms ≢ [] → head_text r ns ++ rest ≡ head_text s ms ++ more → (r ≡ s) × (ns ≡ ms) × (rest ≡ more)
same_heads r s ns ms rest more h k some others e =
    let f = append_cancel_left (codes "proof ") (line_text r ns ++ 10 ∷ rest) (line_text s ms ++ 10 ∷ more) (sym (head_is r ns rest) ∙ e ∙ head_is s ms more) in
    let l = same_fronts 10 (line_text r ns) (line_text s ms) rest more (lacks_line r ns h) (lacks_line s ms k) f in
    let n = same_names r s ns ms some others l.0 in
    (n.0, n.1, l.1)

-- ---- proofs

proof_same : (p q : Proof) → p.name ≡ q.name → p.widths ≡ q.widths → p.log ≡ q.log → p ≡ q
proof_same p q r w l =
    let f : List ℕ → Proof = λ x. record { name = x; widths = p.widths; log = p.log } in
    let g : List ℕ → Proof = λ x. record { name = q.name; widths = x; log = p.log } in
    let h : List Step → Proof = λ x. record { name = q.name; widths = q.widths; log = x } in
    ap f r ∙ ap g w ∙ ap h l

pub same_proofs : (p q : Proof) (rest more : List ℕ) → IsWellFormed p → IsWellFormed q → proof_text p ++ rest ≡ proof_text q ++ more → (p ≡ q) × (rest ≡ more)
same_proofs p q rest more h k e =
    let s = same_heads p.name q.name p.widths q.widths (log_text p.log ++ rest) (log_text q.log ++ more) h.0 k.0 h.1.0 k.1.0 (sym (append_assoc (head_text p.name p.widths) (log_text p.log) rest) ∙ e ∙ append_assoc (head_text q.name q.widths) (log_text q.log) more) in
    let l = same_logs p.log q.log rest more s.2 in
    (proof_same p q s.0 s.1 l.0, l.1)

pub proof_begins : (p : Proof) (rest : List ℕ) → proof_text p ++ rest ≡ [] → ⊥
proof_begins p rest e = cc

-- what stands behind the text of proofs, in a text of proofs that begins with it
pub rest_of : (ps qs : List Proof) (rest : List ℕ) → AreWellFormed ps → AreWellFormed qs → text_of ps ++ rest ≡ text_of qs → (more : List Proof) × AreWellFormed more × (rest ≡ text_of more) × (qs ≡ ps ++ more)
rest_of [] qs rest h k e = (qs, k, e, refl)
rest_of (p ∷ ps) [] rest h k e = absurd (proof_begins p (text_of ps ++ rest) (sym (append_assoc (proof_text p) (text_of ps) rest) ∙ e))
rest_of (p ∷ ps) (q ∷ qs) rest h k e =
    let s = same_proofs p q (text_of ps ++ rest) (text_of qs) h.0 k.0 (sym (append_assoc (proof_text p) (text_of ps) rest) ∙ e) in
    let t = rest_of ps qs rest h.1 k.1 s.1 in
    (t.0, t.1, t.2, ap (λ (x : Proof). x ∷ qs) (sym s.0) ∙ ap (λ (xs : List Proof). p ∷ xs) t.3)

no_more : (more : List Proof) → [] ≡ text_of more → more ≡ []
no_more [] e = refl
no_more (p ∷ more) e = absurd (proof_begins p (text_of more) (sym e))

-- a text is of one list of proofs
pub one_list : (ps qs : List Proof) → AreWellFormed ps → AreWellFormed qs → text_of ps ≡ text_of qs → ps ≡ qs
one_list ps qs h k e =
    let r = rest_of ps qs [] h k (append-nil (text_of ps) ∙ e) in
    let n = no_more r.0 r.2 in
    sym (r.3 ∙ ap (λ (xs : List Proof). ps ++ xs) n ∙ append-nil ps)
