-- What the code skips before a token is a gap.
use Rattle.scan.proofs.Common.{◌≡◌, ◌≢◌, ℕ, ◌+◌, ◌-◌, ◌<◌, ◌≤◌, Bool, true, false, eqb, List, [], ◌∷◌, ◌++◌, length, take, drop, get_or, refl, sym, ap, subst, ◌∙◌, ⊎_elim, ◌⊎◌, inl, inr, append_assoc, add-one, arith, eqb-true, false≢true, append-nil, length-append, length-drop, take_at, drop_at, drop-drop, is_blank, is_space, begins_with, IsInLine, IsGap, space, comment, IsLastGap, count_by_more_yes, count_by_more_no, drop-cons, between, feeds, in_gap, behind_gap}
use Rattle.std.proofs.Common.{eq-eqb}
use Rattle.scan.specs.Gaps.{nothing}
use Rattle.scan.proofs.Fronts.{which, or_left}

not_ten : (b : ℕ) → eqb b 10 ≡ false → b ≢ 10
not_ten b e h = false≢true (sym e ∙ ap (λ c. eqb c 10) h)

-- what is skipped before the rest, where a comment is open at the start or not
abbrev SkipsGap : Bool → List ℕ → List ℕ → Type 0
SkipsGap false text rest = (gap : List ℕ) × IsGap gap × (text ≡ gap ++ rest)
SkipsGap true text rest = (line : List ℕ) × (gap : List ℕ) × IsInLine line × IsGap gap × (text ≡ (line ++ 10 ∷ gap) ++ rest)

skips : (in_comment : Bool) (text : List ℕ) (c : ℕ) (rest : List ℕ) → behind_gap in_comment text ≡ c ∷ rest → SkipsGap in_comment text (c ∷ rest)
skips in_comment [] c rest e = absurd cc
skips true (b ∷ text) c rest e = ⊎_elim
    (λ (h : eqb b 10 ≡ true).
    let g = skips false text c rest (rw h at e) in
    ([], g.0, tt, g.1, ap (λ (bs : List ℕ). b ∷ bs) g.2 ∙ ap (λ (n : ℕ). n ∷ (g.0 ++ c ∷ rest)) (eqb-true b 10 h)))
    (λ (h : eqb b 10 ≡ false).
    let g = skips true text c rest (rw h at e) in
    (b ∷ g.0, g.1, (not_ten b h, g.2), g.3, ap (λ (bs : List ℕ). b ∷ bs) g.4))
    (which (eqb b 10))
skips false (b ∷ text) c rest e = ⊎_elim
    (λ (h : eqb b 59 ≡ true).
    let g = skips true text c rest (rw h at e) in
    (59 ∷ (g.0 ++ 10 ∷ g.1), comment g.0 g.1 refl g.2 g.3, ap (λ (bs : List ℕ). b ∷ bs) g.4 ∙ ap (λ (n : ℕ). n ∷ ((g.0 ++ 10 ∷ g.1) ++ c ∷ rest)) (eqb-true b 59 h)))
    (λ (h : eqb b 59 ≡ false). ⊎_elim
    (λ (k : is_space b ≡ true).
    let g = skips false text c rest (rw (h, k) at e) in
    (b ∷ g.0, space k g.1, ap (λ (bs : List ℕ). b ∷ bs) g.2))
    (λ (k : is_space b ≡ false). let e' : b ∷ text ≡ c ∷ rest = rw (h, k) at e in ([], nothing, e'))
    (which (is_space b)))
    (which (eqb b 59))

-- what is skipped up to the end of the text
abbrev SkipsAll : Bool → List ℕ → Type 0
SkipsAll false text = IsLastGap text
SkipsAll true text = IsInLine text ⊎ ((line : List ℕ) × (gap : List ℕ) × IsInLine line × IsLastGap gap × (text ≡ line ++ 10 ∷ gap))

IsLastGap-space : (b : ℕ) (text : List ℕ) → is_space b ≡ true → IsLastGap text → IsLastGap (b ∷ text)
IsLastGap-space b text h (inl g) = inl (space h g)
IsLastGap-space b text h (inr p) = inr (b ∷ p.0, p.1, space h p.2, p.3, ap (λ (bs : List ℕ). b ∷ bs) p.4)

IsLastGap-comment : (line gap : List ℕ) → IsInLine line → IsLastGap gap → IsLastGap (59 ∷ (line ++ 10 ∷ gap))
IsLastGap-comment line gap h (inl g) = inl (comment line gap refl h g)
IsLastGap-comment line gap h (inr p) = inr (59 ∷ (line ++ 10 ∷ p.0), p.1, comment line p.0 refl h p.2, p.3, ap (λ (bs : List ℕ). 59 ∷ (line ++ 10 ∷ bs)) p.4 ∙ ap (λ (bs : List ℕ). 59 ∷ bs) (sym (append_assoc line (10 ∷ p.0) (59 ∷ p.1))))

skips_all : (in_comment : Bool) (text : List ℕ) → behind_gap in_comment text ≡ [] → SkipsAll in_comment text
skips_all true [] e = inl tt
skips_all false [] e = inl nothing
skips_all true (b ∷ text) e = ⊎_elim
    (λ (h : eqb b 10 ≡ true). inr ([], text, tt, skips_all false text (rw h at e), ap (λ (n : ℕ). n ∷ text) (eqb-true b 10 h)))
    (λ (h : eqb b 10 ≡ false). ⊎_elim
    (λ (g : IsInLine text). inl (not_ten b h, g))
    (λ (g : (line : List ℕ) × (gap : List ℕ) × IsInLine line × IsLastGap gap × (text ≡ line ++ 10 ∷ gap)). inr (b ∷ g.0, g.1, (not_ten b h, g.2), g.3, ap (λ (bs : List ℕ). b ∷ bs) g.4))
    (skips_all true text (rw h at e)))
    (which (eqb b 10))
skips_all false (b ∷ text) e = ⊎_elim
    (λ (h : eqb b 59 ≡ true). subst (λ (n : ℕ). IsLastGap (n ∷ text)) (sym (eqb-true b 59 h)) (⊎_elim
    (λ (g : IsInLine text). inr ([], text, nothing, g, refl))
    (λ (g : (line : List ℕ) × (gap : List ℕ) × IsInLine line × IsLastGap gap × (text ≡ line ++ 10 ∷ gap)). subst (λ (bs : List ℕ). IsLastGap (59 ∷ bs)) (sym g.4) (IsLastGap-comment g.0 g.1 g.2 g.3))
    (skips_all true text (rw h at e))))
    (λ (h : eqb b 59 ≡ false). ⊎_elim
    (λ (k : is_space b ≡ true). IsLastGap-space b text k (skips_all false text (rw (h, k) at e)))
    (λ (k : is_space b ≡ false). absurd (let e' : b ∷ text ≡ [] = rw (h, k) at e in cc))
    (which (is_space b)))
    (which (eqb b 59))

-- ---- gaps are skipped

differs : (b c : ℕ) → b ≢ c → eqb b c ≡ false
differs b c h = ⊎_elim (λ (e : eqb b c ≡ true). absurd (h (eqb-true b c e))) (λ (e : eqb b c ≡ false). e) (which (eqb b c))

is_ten : (b : ℕ) → b ≢ 10 → eqb b 10 ≡ false
is_ten b h = differs b 10 h

comment_skipped : (line rest : List ℕ) → IsInLine line → behind_gap true (line ++ 10 ∷ rest) ≡ behind_gap false rest
comment_skipped [] rest h = refl
comment_skipped (b ∷ line) rest h = rw (is_ten b h.0) (comment_skipped line rest h.1)

comment_ends : (line : List ℕ) → IsInLine line → behind_gap true line ≡ []
comment_ends [] h = refl
comment_ends (b ∷ line) h = rw (is_ten b h.0) (comment_ends line h.1)

space_no_comment : (b : ℕ) → is_space b ≡ true → eqb b 59 ≡ false
unfolding is_space is_blank
space_no_comment b h = ⊎_elim (λ (e : eqb b 59 ≡ true). absurd (false≢true (subst (λ (n : ℕ). is_space n ≡ true) (eqb-true b 59 e) h))) (λ (e : eqb b 59 ≡ false). e) (which (eqb b 59))

pub gap_skipped : {gap : List ℕ} → IsGap gap → (rest : List ℕ) → behind_gap false (gap ++ rest) ≡ behind_gap false rest
gap_skipped nothing rest = refl
gap_skipped (space {b} h g) rest = rw (space_no_comment b h, h) (gap_skipped g rest)
gap_skipped (comment line behind e h g) rest = rw e (ap (behind_gap true) (append_assoc line (10 ∷ behind) rest) ∙ comment_skipped line (behind ++ rest) h ∙ gap_skipped g rest)

pub last_gap_skipped : (text : List ℕ) → IsLastGap text → behind_gap false text ≡ []
last_gap_skipped text (inl g) = ap (behind_gap false) (sym (append-nil text)) ∙ gap_skipped g []
last_gap_skipped text (inr p) = ap (behind_gap false) p.4 ∙ gap_skipped p.2 (59 ∷ p.1) ∙ comment_ends p.1 p.3

-- behind a gap that was skipped no gap begins
pub behind_gap-visible : (in_comment : Bool) (text : List ℕ) → begins_with in_gap (behind_gap in_comment text) ≡ false
behind_gap-visible true [] = refl
behind_gap-visible false [] = refl
behind_gap-visible true (b ∷ text) = ⊎_elim
    (λ (h : eqb b 10 ≡ true). rw h (behind_gap-visible false text))
    (λ (h : eqb b 10 ≡ false). rw h (behind_gap-visible true text))
    (which (eqb b 10))
behind_gap-visible false (b ∷ text) = ⊎_elim
    (λ (h : eqb b 59 ≡ true). rw h (behind_gap-visible true text))
    (λ (h : eqb b 59 ≡ false). ⊎_elim
    (λ (k : is_space b ≡ true). rw (h, k) (behind_gap-visible false text))
    (λ (k : is_space b ≡ false). rw (h, k) (rw (k, h) refl))
    (which (is_space b)))
    (which (eqb b 59))

-- what stands before the rest is a gap
pub record Skipped (ahead rest : List ℕ) : Type 0 where
  pub gap : List ℕ
  pub is_gap : length rest ≢ 0 → IsGap gap
  pub is_last : length rest ≡ 0 → IsLastGap gap
  pub text_is : ahead ≡ gap ++ rest

pub skipped : (ahead : List ℕ) → Skipped ahead (behind_gap false ahead)
skipped ahead = from (behind_gap false ahead) refl
  where
    from : (rest : List ℕ) → behind_gap false ahead ≡ rest → Skipped ahead rest
    from [] e = record { gap = ahead; is_gap = λ some. absurd (some refl); is_last = λ none. skips_all false ahead e; text_is = sym (append-nil ahead) }
    from (c ∷ rest) e = let g = skips false ahead c rest e in record { gap = g.0; is_gap = λ some. g.1; is_last = λ none. inl g.1; text_is = g.2 }

-- the same by places in the text
pub record GapTo (text : List ℕ) (place start : ℕ) : Type 0 where
  pub order : (place ≤ start) × (start ≤ length text)
  pub gap : start < length text → IsGap (between text place start)
  pub last : start ≡ length text → IsLastGap (between text place start)
  pub whole : begins_with in_gap (drop start text) ≡ false

pub gap_to : (text : List ℕ) (place : ℕ) (rest : List ℕ) → place ≤ length text → rest ≡ behind_gap false (drop place text) → GapTo text place (length text - length rest)
gap_to text place rest h e = found (subst (Skipped (drop place text)) (sym e) (skipped (drop place text)))
  where
    found : Skipped (drop place text) rest → GapTo text place (length text - length rest)
    found s =
        let total : length text - place ≡ length s.gap + length rest = sym (length-drop place text) ∙ ap length s.text_is ∙ length-append s.gap rest in
        let far : length text - length rest - place ≡ length s.gap = omega arith in
        let gap_is : between text place (length text - length rest) ≡ s.gap = ap (λ (n : ℕ). take n (drop place text)) far ∙ ap (take (length s.gap)) s.text_is ∙ take_at s.gap rest (length s.gap) refl in
        let there : place + length s.gap ≡ length text - length rest = omega arith in
        let rest_is : drop (length text - length rest) text ≡ rest = ap (λ (n : ℕ). drop n text) (sym there) ∙ sym (drop-drop (length s.gap) place text) ∙ ap (drop (length s.gap)) s.text_is ∙ drop_at s.gap rest (length s.gap) refl in
        record {
          order = (omega arith, omega arith);
          gap = λ k. subst IsGap (sym gap_is) (s.is_gap (omega arith));
          last = λ k. subst IsLastGap (sym gap_is) (s.is_last (omega arith));
          whole = ap (begins_with in_gap) (rest_is ∙ e) ∙ behind_gap-visible false (drop place text);
        }

-- ---- a step of the loop over a gap

dropped : (text : List ℕ) (i : ℕ) → i < length text → drop i text ≡ get_or text i 0 ∷ drop (i + 1) text
dropped text i h = rw add-one (drop-cons text i 0 h)

-- one step of the loop, over the byte at place i, by what the step is over that byte alone
step : (now later : Bool) (text : List ℕ) (i : ℕ) → i < length text → behind_gap now (get_or text i 0 ∷ drop (i + 1) text) ≡ behind_gap later (drop (i + 1) text) → behind_gap later (drop (i + 1) text) ≡ behind_gap now (drop i text)
step now later text i h e = sym (ap (behind_gap now) (dropped text i h) ∙ e)

pub step_feed : (now : Bool) (text : List ℕ) (i : ℕ) → i < length text → get_or text i 0 ≡ 10 → behind_gap false (drop (i + 1) text) ≡ behind_gap now (drop i text)
unfolding is_space is_blank
step_feed now text i h e = step now false text i h (ap (λ (b : ℕ). behind_gap now (b ∷ drop (i + 1) text)) e ∙ feed now (drop (i + 1) text))
  where
    feed : (now : Bool) (bytes : List ℕ) → behind_gap now (10 ∷ bytes) ≡ behind_gap false bytes
    feed true bytes = refl
    feed false bytes = refl

pub step_comment : (text : List ℕ) (i : ℕ) → i < length text → get_or text i 0 ≢ 10 → behind_gap true (drop (i + 1) text) ≡ behind_gap true (drop i text)
step_comment text i h e = step true true text i h (rw (is_ten (get_or text i 0) e) refl)

pub step_opens : (now : Bool) (text : List ℕ) (i : ℕ) → i < length text → get_or text i 0 ≡ 59 → behind_gap true (drop (i + 1) text) ≡ behind_gap now (drop i text)
step_opens now text i h e = step now true text i h (ap (λ (b : ℕ). behind_gap now (b ∷ drop (i + 1) text)) e ∙ opens now (drop (i + 1) text))
  where
    opens : (now : Bool) (bytes : List ℕ) → behind_gap now (59 ∷ bytes) ≡ behind_gap true bytes
    opens true bytes = refl
    opens false bytes = refl

pub blank_no_feed : (b : ℕ) → is_blank b ≡ true → b ≢ 10
unfolding is_blank
blank_no_feed b blank e = false≢true (subst (λ (n : ℕ). is_blank n ≡ true) e blank)

pub step_blank : (now : Bool) (text : List ℕ) (i : ℕ) → i < length text → is_blank (get_or text i 0) ≡ true → behind_gap now (drop (i + 1) text) ≡ behind_gap now (drop i text)
unfolding is_space
step_blank now text i h blank = step now now text i h (over now (get_or text i 0) (drop (i + 1) text) blank)
  where
    over : (now : Bool) (b : ℕ) (bytes : List ℕ) → is_blank b ≡ true → behind_gap now (b ∷ bytes) ≡ behind_gap now bytes
    over true b bytes k = rw (is_ten b (blank_no_feed b k)) refl
    over false b bytes k = let space : is_space b ≡ true = or_left (is_blank b) (eqb b 10) k in rw (space_no_comment b space, space) refl

pub gap_ends : (text : List ℕ) (i : ℕ) → i < length text → get_or text i 0 ≢ 10 → get_or text i 0 ≢ 59 → is_blank (get_or text i 0) ≡ false → drop i text ≡ behind_gap false (drop i text)
unfolding is_space
gap_ends text i h feed opens blank = dropped text i h ∙ sym (ends (get_or text i 0) (drop (i + 1) text) feed opens blank) ∙ ap (behind_gap false) (sym (dropped text i h))
  where
    ends : (b : ℕ) (bytes : List ℕ) → b ≢ 10 → b ≢ 59 → is_blank b ≡ false → behind_gap false (b ∷ bytes) ≡ b ∷ bytes
    ends b bytes feed opens blank = rw (differs b 59 opens) (rw (blank, is_ten b feed) refl)

pub feeds_more : (text : List ℕ) (i : ℕ) → i < length text → get_or text i 0 ≡ 10 → feeds (take (i + 1) text) ≡ feeds (take i text) + 1
feeds_more text i h e = count_by_more_yes (λ b. eqb b 10) text i 0 h (eq-eqb (get_or text i 0) 10 e)

pub feeds_same : (text : List ℕ) (i : ℕ) → i < length text → get_or text i 0 ≢ 10 → feeds (take (i + 1) text) ≡ feeds (take i text)
feeds_same text i h e = count_by_more_no (λ b. eqb b 10) text i 0 h (is_ten (get_or text i 0) e)
