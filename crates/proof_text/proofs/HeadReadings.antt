-- How the lines are read that proofs begin with, and where that stops.
use Rattle.proof_text.proofs.Common.{◌≡◌, ◌≢◌, ℕ, ◌⊎◌, inl, inr, true, false, List, [], ◌∷◌, ◌++◌, codes, refl, ap, subst, sym, ◌∙◌, Option, Some, None, arith, AllByRecursion, MatchOption, IfNone, append-nil, append_cancel_left, nat_tests, is_digit, is_printable, is_blank, numeral, widths_text, head_text, in_name, IsName, AreWidths, GoesOn, StopsAt, Stops, Fixed, Lists, Heads, NotNext, EndsName, NoLine, NoWidths, NoParts, Lacks, line_text}
use Rattle.proof_text.proofs.Numerals.{numeral_digits, same, longer, shorter, split}
use Rattle.proof_text.proofs.Decodings.{no_digit_93, same_widths, lacks_bracket, head_whole, head_is, same_backs}
use Rattle.proof_text.proofs.Readings.{Next, stops_behind}

heads_first : Next Heads [] (Fixed (codes "proof "))
heads_first = record {
  into = λ word m.
      (codes " [" ++ (numeral 0 ++ codes "]\n"), ([], 0 ∷ [], tt, (λ (g : 0 ∷ [] ≡ []). absurd cc, (omega arith, tt)), ap (λ (k : List ℕ). k ++ (codes " [" ++ (numeral 0 ++ codes "]\n"))) m));
  out = λ behind word after l e.
      (codes "proof ", line_text l.0 l.1 ++ 10 ∷ after, refl, e ∙ ap (λ (k : List ℕ). k ++ after) l.4 ∙ head_is l.0 l.1 after);
}

pub word_stops : (text rest : List ℕ) → Stops (Fixed (codes "proof ")) text rest → Stops Heads text rest
word_stops text rest s = stops_behind Heads (Fixed (codes "proof ")) [] text text rest heads_first refl s

-- ---- bytes of lines

digit_in_name : (b : ℕ) → is_digit b ≡ true → in_name b ≡ true
unfolding is_digit in_name is_printable is_blank
digit_in_name b h = grind (arith, nat_tests)

digits_in_name : (cs : List ℕ) → AllByRecursion (λ b. is_digit b ≡ true) cs → IsName cs
digits_in_name [] h = tt
digits_in_name (c ∷ cs) h = (digit_in_name c h.0, digits_in_name cs h.1)

names_both : (one other : List ℕ) → IsName one → IsName other → IsName (one ++ other)
names_both [] other h k = k
names_both (b ∷ one) other h k = (h.0, names_both one other h.1 k)

in_name_32 : in_name 32 ≡ true
unfolding in_name is_printable is_blank
in_name_32 = refl

in_name_91 : in_name 91 ≡ true
unfolding in_name is_printable is_blank
in_name_91 = refl

in_name_93 : in_name 93 ≡ true
unfolding in_name is_printable is_blank
in_name_93 = refl

widths_in_name : (ns : List ℕ) → IsName (widths_text ns)
widths_in_name [] = tt
widths_in_name (n ∷ []) = digits_in_name (numeral n) (numeral_digits n)
widths_in_name (n ∷ m ∷ ns) = names_both (numeral n) (32 ∷ widths_text (m ∷ ns)) (digits_in_name (numeral n) (numeral_digits n)) (in_name_32, widths_in_name (m ∷ ns))

line_in_name : (name widths : List ℕ) → IsName name → IsName (line_text name widths)
line_in_name name widths h =
    names_both (name ++ 32 ∷ []) (91 ∷ (widths_text widths ++ 93 ∷ [])) (names_both name (32 ∷ []) h (in_name_32, tt))
    (in_name_91, names_both (widths_text widths) (93 ∷ []) (widths_in_name widths) (in_name_93, tt))

in_name_at : (name more : List ℕ) (b : ℕ) → IsName (name ++ b ∷ more) → in_name b ≡ true
in_name_at [] more b h = h.0
in_name_at (c ∷ name) more b h = in_name_at name more b h.1

-- ---- where the line stops

goes_on : (rest : List ℕ) → GoesOn rest rest
goes_on [] = refl
goes_on (b ∷ rest) = (rest, refl)

goes_with : (b : ℕ) (rest left : List ℕ) → rest ≡ b ∷ left → GoesOn rest (b ∷ left)
goes_with b [] left e = absurd cc
goes_with b (c ∷ rest) left e = (left, let f : c ≡ b = cc in ap (λ (k : ℕ). k ∷ left) (sym f))

passed_none : (w : ℕ) (rest left passed : List ℕ) → rest ≡ passed ++ left → StopsAt (Fixed (w ∷ [])) passed left → (rest ≡ left) × NotNext w rest
passed_none w rest left [] e s = (e, λ (more : List ℕ). λ (f : rest ≡ w ∷ more). s.none (w ∷ more) (w ∷ []) more (goes_with w left more (sym e ∙ f)) refl refl)
passed_none w rest left (p ∷ passed) e s =
    let f : p ∷ (passed ++ s.more) ≡ w ∷ [] = s.fits in
    let g : p ≡ w = cc in
    absurd (s.none left (w ∷ []) (passed ++ left) (goes_on left) refl (ap (λ (k : ℕ). k ∷ (passed ++ left)) g))

-- where a byte is not next nothing is passed
nothing_passed : (w : ℕ) (rest left : List ℕ) → Stops (Fixed (w ∷ [])) rest left → (rest ≡ left) × NotNext w rest
nothing_passed w rest left s = passed_none w rest left s.passed s.goes s.stops

not_in_name_10 : in_name 10 ≡ false
unfolding in_name is_printable is_blank
not_in_name_10 = refl

ends_in : (front more line : List ℕ) → line ≡ front ++ 10 ∷ more → IsName line → ⊥
ends_in front more line e h =
    let p : in_name 10 ≡ true = in_name_at front more 10 (subst IsName e h) in
    let q = not_in_name_10 in
    cc

not_in_name : (b : ℕ) → in_name b ≡ false → in_name b ≡ true → ⊥
not_in_name b p q = cc

whole_line : (line : List ℕ) (b : ℕ) (rest name widths : List ℕ) → NotNext 10 (b ∷ rest) ⊎ NoLine line → IsName name → AreWidths widths → line ≡ line_text name widths → b ≡ 10 → ⊥
whole_line line b rest name widths (inl deny) n w p q = deny rest (ap (λ (k : ℕ). k ∷ rest) q)
whole_line line b rest name widths (inr deny) n w p q = deny name widths n w p

-- the line's end is no line feed, or the line is none of a proof
no_word : (line rest behind name widths after : List ℕ) → IsName line → EndsName rest → NotNext 10 rest ⊎ NoLine line → IsName name → AreWidths widths → GoesOn rest behind → line ++ behind ≡ line_text name widths ++ 10 ∷ after → ⊥
no_word line [] behind name widths after h ends deny n w g e =
    let f : line ++ [] ≡ line_text name widths ++ 10 ∷ after = ap (λ (k : List ℕ). line ++ k) (sym g) ∙ e in
    let l : line ≡ line_text name widths ++ 10 ∷ after = sym (append-nil line) ∙ f in
    ends_in (line_text name widths) after line l h
no_word line (b ∷ rest) behind name widths after h ends deny n w g e =
    let f : line ++ b ∷ g.0 ≡ line_text name widths ++ 10 ∷ after = ap (λ (k : List ℕ). line ++ k) (sym g.1) ∙ e in
    elim (split line (line_text name widths) g.0 after b 10 f) [
      | same p q r ↦ whole_line line b rest name widths deny n w p q
      | longer zs p q ↦ not_in_name b ends.0 (in_name_at line zs b (subst IsName p (line_in_name name widths n)))
      | shorter zs p q ↦ ends_in (line_text name widths) zs line p h
    ]

pub line_stops : (text line rest : List ℕ) → text ≡ codes "proof " ++ (line ++ rest) → IsName line → EndsName rest → NotNext 10 rest ⊎ NoLine line → Stops Heads text rest
line_stops text line rest e h ends deny = record {
  passed = codes "proof " ++ line;
  goes = e;
  stops = record {
    more = codes " [" ++ (numeral 0 ++ codes "]\n");
    fits = (line, 0 ∷ [], h, (λ (g : 0 ∷ [] ≡ []). absurd cc, (omega arith, tt)), sym (head_whole line (0 ∷ [])));
    none = λ behind word after g l f.
        let whole : codes "proof " ++ (line ++ behind) ≡ codes "proof " ++ (line_text l.0 l.1 ++ 10 ∷ after) = f ∙ ap (λ (k : List ℕ). k ++ after) l.4 ∙ head_is l.0 l.1 after in
        let short = append_cancel_left (codes "proof ") (line ++ behind) (line_text l.0 l.1 ++ 10 ∷ after) whole in
        no_word line rest behind l.0 l.1 after h ends deny l.2 l.3 g short;
  };
}

whole_line_is : (text mid line rest : List ℕ) → text ≡ codes "proof " ++ mid → mid ≡ line ++ rest → text ≡ codes "proof " ++ (line ++ rest)
whole_line_is text mid line rest e f = e ∙ ap (λ (k : List ℕ). codes "proof " ++ k) f

pub other_line : (text mid line rest : List ℕ) → text ≡ codes "proof " ++ mid → mid ≡ line ++ rest → IsName line → EndsName rest → NoLine line → Stops Heads text rest
other_line text mid line rest e f h ends deny = line_stops text line rest (whole_line_is text mid line rest e f) h ends (inr deny)

pub feed_stops : (text mid line rest end : List ℕ) → text ≡ codes "proof " ++ mid → mid ≡ line ++ rest → IsName line → EndsName rest → Stops (Fixed (10 ∷ [])) rest end → Stops Heads text end
feed_stops text mid line rest end e f h ends s =
    let p = nothing_passed 10 rest end s in
    subst (λ (k : List ℕ). Stops Heads text k) p.0 (line_stops text line rest (whole_line_is text mid line rest e f) h ends (inl p.1))

pub head_read : (text mid line rest behind name widths : List ℕ) → text ≡ codes "proof " ++ mid → mid ≡ line ++ rest → line ≡ line_text name widths → rest ≡ 10 ∷ behind → text ≡ head_text name widths ++ behind
head_read text mid line rest behind name widths e f l r =
    whole_line_is text mid line rest e f ∙ ap (λ (k : List ℕ). codes "proof " ++ (k ++ rest)) l ∙ ap (λ (k : List ℕ). codes "proof " ++ (line_text name widths ++ k)) r ∙ sym (head_is name widths behind)

-- ---- widths

pub no_widths : (text rest ws : List ℕ) → Stops (Lists 93) text rest → AreWidths ws → text ≢ widths_text ws ++ 93 ∷ []
no_widths text rest ws s h e = s.stops.none rest (widths_text ws ++ 93 ∷ []) [] (goes_on rest) (ws, h, refl) (sym s.goes ∙ e ∙ sym (append-nil (widths_text ws ++ 93 ∷ [])))

pub not_all : (text rest vs ws : List ℕ) → AreWidths vs → text ≡ widths_text vs ++ 93 ∷ rest → rest ≢ [] → AreWidths ws → text ≢ widths_text ws ++ 93 ∷ []
not_all text rest vs ws h e some k f =
    let s = same_widths vs ws rest [] 93 no_digit_93 (λ (g : 93 ≡ 32). absurd (omega arith)) h.0 k.0 (sym e ∙ f) in
    some s.1

-- ---- parts of lines

pub no_parts : (line name widths : List ℕ) → NoParts line → line ≢ line_text name widths
no_parts line name widths deny e = deny name (widths_text widths ++ 93 ∷ []) (lacks_bracket widths) e

pub no_line : (line before behind name widths : List ℕ) → Lacks 91 behind → line ≡ (before ++ 32 ∷ []) ++ 91 ∷ behind → NoWidths behind → AreWidths widths → line ≢ line_text name widths
no_line line before behind name widths lacks e deny w f =
    let s = same_backs 91 (before ++ 32 ∷ []) (name ++ 32 ∷ []) behind (widths_text widths ++ 93 ∷ []) lacks (lacks_bracket widths) (sym e ∙ f) in
    deny widths w s.1

name_part : (before after : List ℕ) → IsName (before ++ after) → IsName before
name_part [] after h = tt
name_part (b ∷ before) after h = (h.0, name_part before after h.1)

pub line_read : (line before behind widths : List ℕ) → IsName line → line ≡ (before ++ 32 ∷ []) ++ 91 ∷ behind → behind ≡ widths_text widths ++ 93 ∷ [] → IsName before × (line ≡ line_text before widths)
line_read line before behind widths h e f =
    (name_part before (32 ∷ []) (name_part (before ++ 32 ∷ []) (91 ∷ behind) (subst IsName e h)), e ∙ ap (λ (k : List ℕ). (before ++ 32 ∷ []) ++ 91 ∷ k) f)

-- ---- the last bracket of a line

lacks_in : (x : ℕ) (front more : List ℕ) → Lacks x (front ++ x ∷ more) → ⊥
lacks_in x [] more h = h.0 refl
lacks_in x (b ∷ front) more h = lacks_in x front more h.1

pub lacks_parts : (line : List ℕ) → Lacks 91 line → NoParts line
lacks_parts line h name back k e = lacks_in 91 (name ++ 32 ∷ []) back (subst (λ (l : List ℕ). Lacks 91 l) e h)

pub other_part : (line front behind : List ℕ) → Lacks 91 behind → line ≡ front ++ 91 ∷ behind → ((name : List ℕ) → front ≢ name ++ 32 ∷ []) → NoParts line
other_part line front behind lacks e deny name back k f = deny name (same_backs 91 front (name ++ 32 ∷ []) behind back lacks k (sym e ∙ f)).0

pub parts_read : (line front name behind : List ℕ) → line ≡ front ++ 91 ∷ behind → front ≡ name ++ 32 ∷ [] → line ≡ (name ++ 32 ∷ []) ++ 91 ∷ behind
parts_read line front name behind e f = e ∙ ap (λ (k : List ℕ). k ++ 91 ∷ behind) f

pub none_is : {A : Type 0} (o : Option A) (P : Type 0) (Q : A → Type 0) → o ≡ None → MatchOption o P Q → P
none_is None P Q e h = h
none_is (Some x) P Q e h = absurd cc

pub if_none : {A : Type 0} (o : Option A) (P : Type 0) → P → IfNone o P
if_none None P h = h
if_none (Some x) P h = tt
