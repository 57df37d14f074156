-- How lists of numbers, literals, clauses, hints and steps are read, and where that stops.
use Rattle.proof_text.proofs.Common.{◌≡◌, ◌≢◌, ℕ, ◌≤◌, ◌⊎◌, inl, inr, Bool, true, false, if◌then◌else◌, List, [], ◌∷◌, ◌++◌, flat_map, codes, refl, ap, subst, sym, ◌∙◌, append_assoc, Result, Ok, Err, IfOk, arith, AllByRecursion, append-nil, IfErr, Refusal, is_digit, Lit, Step, most_number, most_variable, numeral, literal_text, clause_text, hints_text, widths_text, IsLiteral, IsNumber, AreWidths, Language, Stops, Fixed, Numbers, IsHeld, IsEnd, held, ReadsNumber, Lists, Literals, Clauses, Hints, Steps, NotNext, Takes, StopsIn}
use Rattle.proof_text.proofs.Lines.{flat_push}
use Rattle.proof_text.proofs.Decodings.{no_digit_32, no_digit_45, same_numbers, widths_cons, same_literals, no_literal, clause_cons, same_clauses, hints_cons, not_first}
use Rattle.proof_text.proofs.Readings.{Next, stops_behind, stops_in, same_first}

pub all_push : {X : Type 0} (P : X → Type 0) (xs : List X) (x : X) → AllByRecursion P xs → P x → AllByRecursion P (xs ++ x ∷ [])
all_push P [] x h p = (p, tt)
all_push P (y ∷ xs) x h p = (h.0, all_push P xs x h.1 p)

-- M stops, and L begins as M does or with a byte that is not next
pub stops_other : (L M : Language) (text rest : List ℕ) → Stops M text rest
    → ((word : List ℕ) → M word → (tail : List ℕ) × L (word ++ tail))
    → ((word : List ℕ) → L word → ((found : List ℕ) × (left : List ℕ) × M found × (word ≡ found ++ left)) ⊎ ((b : ℕ) × (more : List ℕ) × NotNext b text × (word ≡ b ∷ more)))
    → Stops L text rest
stops_other L M text rest s into out =
    let i = into (s.passed ++ s.stops.more) s.stops.fits in
    record {
      passed = s.passed;
      goes = s.goes;
      stops = record {
        more = s.stops.more ++ i.0;
        fits = subst L (append_assoc s.passed s.stops.more i.0) i.1;
        none = λ behind word after g w e. elim (out word w) [
          | inl f ↦ s.stops.none behind f.0 (f.1 ++ after) g f.2 (e ∙ ap (λ (k : List ℕ). k ++ after) f.3 ∙ append_assoc f.0 f.1 after)
          | inr f ↦
              let h = same_first s.passed rest behind (f.1 ++ after) f.0 g (e ∙ ap (λ (k : List ℕ). k ++ after) f.3) in
              f.2 h.0 (s.goes ∙ h.1)
        ];
      };
    }

-- ---- lists of numbers

joined : (ns : List ℕ) (n : ℕ) → widths_text (ns ++ n ∷ []) ≡ flat_map (λ x. numeral x ++ 32 ∷ []) ns ++ numeral n
joined [] n = refl
joined (m ∷ []) n = sym (ap (λ (k : List ℕ). k ++ numeral n) (append-nil (numeral m ++ 32 ∷ [])) ∙ append_assoc (numeral m) (32 ∷ []) (numeral n))
joined (m ∷ k ∷ ns) n =
    let t = flat_map (λ (x : ℕ). numeral x ++ 32 ∷ []) (k ∷ ns) in
    ap (λ (l : List ℕ). numeral m ++ 32 ∷ l) (joined (k ∷ ns) n)
    ∙ sym (append_assoc (numeral m ++ 32 ∷ []) t (numeral n) ∙ append_assoc (numeral m) (32 ∷ []) (t ++ numeral n))

is_number : (n : ℕ) → held n ≤ most_number → n ≤ most_number
is_number n h = omega arith

some_widths : (ns : List ℕ) (n : ℕ) → ns ++ n ∷ [] ≢ []
some_widths [] n e = cc
some_widths (m ∷ ns) n e = cc

widths_push : (ns : List ℕ) (n : ℕ) → AllByRecursion IsNumber ns → n ≤ most_number → AreWidths (ns ++ n ∷ [])
widths_push ns n h k = (some_widths ns n, all_push IsNumber ns n h k)

spaced_cons : (n : ℕ) (ns behind : List ℕ) → flat_map (λ x. numeral x ++ 32 ∷ []) (n ∷ ns) ++ behind ≡ numeral n ++ 32 ∷ (flat_map (λ x. numeral x ++ 32 ∷ []) ns ++ behind)
spaced_cons n ns behind =
    let t = flat_map (λ (x : ℕ). numeral x ++ 32 ∷ []) ns in
    append_assoc (numeral n ++ 32 ∷ []) t behind ∙ append_assoc (numeral n) (32 ∷ []) (t ++ behind)

number_within : (n : ℕ) → n ≤ most_number → IsHeld 0 most_number n
number_within n h = (omega arith, omega arith)

lists_into : (end : ℕ) (ns word : List ℕ) → AllByRecursion IsNumber ns → (n last : ℕ) → IsHeld 0 most_number n → IsEnd 32 end last → word ≡ numeral n ++ last ∷ []
    → (tail : List ℕ) × Lists end (flat_map (λ x. numeral x ++ 32 ∷ []) ns ++ (word ++ tail))
lists_into end ns word h n last k (inl e) w =
    let t = flat_map (λ (x : ℕ). numeral x ++ 32 ∷ []) ns in
    let ms = ns ++ n ∷ [] in (
      numeral 0 ++ end ∷ [],
      (
        ms ++ 0 ∷ [],
        widths_push ms 0 (all_push IsNumber ns n h (is_number n k.1)) (omega arith),
        ap (λ (l : List ℕ). t ++ (l ++ (numeral 0 ++ end ∷ []))) (w ∙ ap (λ (b : ℕ). numeral n ++ b ∷ []) e)
            ∙ sym (append_assoc t (numeral n ++ 32 ∷ []) (numeral 0 ++ end ∷ []))
            ∙ ap (λ (l : List ℕ). l ++ (numeral 0 ++ end ∷ [])) (sym (flat_push (λ (x : ℕ). numeral x ++ 32 ∷ []) ns n))
            ∙ sym (append_assoc (flat_map (λ (x : ℕ). numeral x ++ 32 ∷ []) ms) (numeral 0) (end ∷ []))
            ∙ ap (λ (l : List ℕ). l ++ end ∷ []) (sym (joined ms 0)),
      ),
    )
lists_into end ns word h n last k (inr e) w =
    let t = flat_map (λ (x : ℕ). numeral x ++ 32 ∷ []) ns in (
      [],
      (
        ns ++ n ∷ [],
        widths_push ns n h (is_number n k.1),
        ap (λ (l : List ℕ). t ++ l) (append-nil word ∙ w ∙ ap (λ (b : ℕ). numeral n ++ b ∷ []) e)
            ∙ sym (append_assoc t (numeral n) (end ∷ []))
            ∙ ap (λ (l : List ℕ). l ++ end ∷ []) (sym (joined ns n)),
      ),
    )

lists_out : (end : ℕ) → is_digit end ≡ false → end ≢ 32 → (ns ms behind after : List ℕ) → AreWidths ms → flat_map (λ x. numeral x ++ 32 ∷ []) ns ++ behind ≡ widths_text ms ++ end ∷ after
    → (found : List ℕ) × (left : List ℕ) × Numbers 0 most_number 32 end found × (behind ≡ found ++ left)
lists_out end deny no_blank ns [] behind after h e = absurd (h.0 refl)
lists_out end deny no_blank [] (m ∷ []) behind after h e =
    (numeral m ++ end ∷ [], after, (m, end, number_within m h.1.0, inr refl, refl), e ∙ sym (append_assoc (numeral m) (end ∷ []) after))
lists_out end deny no_blank [] (m ∷ k ∷ ms) behind after h e = (
  numeral m ++ 32 ∷ [],
  widths_text (k ∷ ms) ++ end ∷ after,
  (m, 32, number_within m h.1.0, inl refl, refl),
  e ∙ widths_cons m k ms (end ∷ after) ∙ sym (append_assoc (numeral m) (32 ∷ []) (widths_text (k ∷ ms) ++ end ∷ after)),
)
lists_out end deny no_blank (n ∷ ns) (m ∷ []) behind after h e =
    let s = same_numbers n m 32 end (flat_map (λ (x : ℕ). numeral x ++ 32 ∷ []) ns ++ behind) after no_digit_32 deny (sym (spaced_cons n ns behind) ∙ e) in
    absurd (no_blank (sym s.1))
lists_out end deny no_blank (n ∷ ns) (m ∷ k ∷ ms) behind after h e =
    let s = same_numbers n m 32 32 (flat_map (λ (x : ℕ). numeral x ++ 32 ∷ []) ns ++ behind) (widths_text (k ∷ ms) ++ end ∷ after) no_digit_32 no_digit_32 (sym (spaced_cons n ns behind) ∙ e ∙ widths_cons m k ms (end ∷ after)) in
    lists_out end deny no_blank ns (k ∷ ms) behind after (λ (f : k ∷ ms ≡ []). absurd cc, h.1.1) s.2

lists_next : (end : ℕ) (ns : List ℕ) → is_digit end ≡ false → end ≢ 32 → AllByRecursion IsNumber ns → Next (Lists end) (flat_map (λ x. numeral x ++ 32 ∷ []) ns) (Numbers 0 most_number 32 end)
lists_next end ns deny no_blank h = record {
  into = λ word m. lists_into end ns word h m.0 m.1 m.2 m.3 m.4;
  out = λ behind word after l e. lists_out end deny no_blank ns l.0 behind after l.1 (e ∙ ap (λ (k : List ℕ). k ++ after) l.2 ∙ append_assoc (widths_text l.0) (end ∷ []) after);
}

-- what was read of a list so far
pub record ListSoFar (text rest ns : List ℕ) : Type 0 where
  pub all : AllByRecursion IsNumber ns
  pub goes : text ≡ flat_map (λ x. numeral x ++ 32 ∷ []) ns ++ rest

pub list_stops : (end : ℕ) (text mid rest ns : List ℕ) → is_digit end ≡ false → end ≢ 32 → ListSoFar text mid ns → Stops (Numbers 0 most_number 32 end) mid rest → Stops (Lists end) text rest
list_stops end text mid rest ns deny no_blank f s = stops_behind (Lists end) (Numbers 0 most_number 32 end) (flat_map (λ (x : ℕ). numeral x ++ 32 ∷ []) ns) text mid rest (lists_next end ns deny no_blank f.all) f.goes s

the_number : (value number : ℕ) → value ≡ held number → held number ≤ most_number → number ≡ value
the_number value number e h = omega arith

pub list_done : (end value last : ℕ) (text mid rest ns : List ℕ) → ListSoFar text mid ns → ReadsNumber 0 most_number 32 end value last mid rest → last ≡ end → AreWidths (ns ++ value ∷ []) × (text ≡ widths_text (ns ++ value ∷ []) ++ end ∷ rest)
list_done end value last text mid rest ns f r is =
    let t = flat_map (λ (x : ℕ). numeral x ++ 32 ∷ []) ns in
    let n = the_number value r.number r.value_is r.is_held.1 in
    let within : value ≤ most_number = subst (λ (k : ℕ). k ≤ most_number) n (is_number r.number r.is_held.1) in (
      widths_push ns value f.all within,
      f.goes ∙ ap (λ (k : List ℕ). t ++ k) (r.goes ∙ ap (λ (k : ℕ). numeral k ++ last ∷ rest) n ∙ ap (λ (k : ℕ). numeral value ++ k ∷ rest) is)
          ∙ sym (append_assoc t (numeral value) (end ∷ rest)) ∙ ap (λ (k : List ℕ). k ++ end ∷ rest) (sym (joined ns value)),
    )

-- ---- literals

lit_fits : (l : Lit) → IsHeld 1 most_variable l.variable → IsLiteral l
lit_fits l h = (omega (arith, h.0), omega (arith, h.1))

the_blank : (last : ℕ) → IsEnd 32 32 last → last ≡ 32
the_blank last (inl e) = e
the_blank last (inr e) = e

abbrev make : Bool → ℕ → Lit
make negated variable = record { variable = variable; negated = negated }

signed_out : (negated : Bool) (variable : ℕ) (behind after : List ℕ) → (1 ≤ variable) × (variable ≤ most_variable) → 45 ∷ behind ≡ (((if negated then codes "-" else []) ++ numeral variable) ++ 32 ∷ []) ++ after
    → (found : List ℕ) × (left : List ℕ) × Numbers 1 most_variable 32 32 found × (behind ≡ found ++ left)
signed_out true variable behind after h e =
    let f : behind ≡ (numeral variable ++ 32 ∷ []) ++ after = cc in
    (numeral variable ++ 32 ∷ [], after, (variable, 32, (omega (arith, h.0, h.1), omega (arith, h.1)), inl refl, refl), f)
signed_out false variable behind after h e =
    absurd (not_first variable 45 (32 ∷ after) behind no_digit_45 (sym (e ∙ append_assoc (numeral variable) (32 ∷ []) after)))

negated_next : Next Literals (45 ∷ []) (Numbers 1 most_variable 32 32)
negated_next = record {
  into = λ word m.
      let l = make true m.0 in
      ([], (l, lit_fits l m.2, ap (λ (k : List ℕ). 45 ∷ k) (append-nil word ∙ m.4 ∙ ap (λ (k : ℕ). numeral m.0 ++ k ∷ []) (the_blank m.1 m.3))));
  out = λ behind word after l e. signed_out l.0.negated l.0.variable behind after l.1 (e ∙ ap (λ (k : List ℕ). k ++ after) l.2);
}

plain_out : (negated : Bool) (variable : ℕ) (text word : List ℕ) → (1 ≤ variable) × (variable ≤ most_variable) → NotNext 45 text → word ≡ ((if negated then codes "-" else []) ++ numeral variable) ++ 32 ∷ []
    → ((found : List ℕ) × (left : List ℕ) × Numbers 1 most_variable 32 32 found × (word ≡ found ++ left)) ⊎ ((b : ℕ) × (more : List ℕ) × NotNext b text × (word ≡ b ∷ more))
plain_out true variable text word h deny e = inr (45, numeral variable ++ 32 ∷ [], deny, e)
plain_out false variable text word h deny e =
    inl (numeral variable ++ 32 ∷ [], [], (variable, 32, (omega (arith, h.0, h.1), omega (arith, h.1)), inl refl, refl), e ∙ sym (append-nil (numeral variable ++ 32 ∷ [])))

pub literal_stops : (negated : Bool) (text mid rest : List ℕ) → Takes 45 negated text mid → Stops (Numbers 1 most_variable 32 32) mid rest → Stops Literals text rest
literal_stops true text mid rest t s = stops_behind Literals (Numbers 1 most_variable 32 32) (45 ∷ []) text mid rest negated_next t s
literal_stops false text mid rest t s =
    let same : Stops (Numbers 1 most_variable 32 32) text rest = subst (λ (k : List ℕ). Stops (Numbers 1 most_variable 32 32) k rest) t.0 s in
    stops_other Literals (Numbers 1 most_variable 32 32) text rest same
    (λ word m. let l = make false m.0 in ([], (l, lit_fits l m.2, append-nil word ∙ m.4 ∙ ap (λ (k : ℕ). numeral m.0 ++ k ∷ []) (the_blank m.1 m.3))))
    (λ word l. plain_out l.0.negated l.0.variable text word l.1 t.1 l.2)

-- ---- clauses

-- what was read of a clause so far
pub record ClauseSoFar (text rest : List ℕ) (clause : List Lit) : Type 0 where
  pub all : AllByRecursion IsLiteral clause
  pub goes : text ≡ flat_map (λ l. literal_text l ++ codes " ") clause ++ rest

-- a literal, or the end of the clause
abbrev Items : Language
Items word = Literals word ⊎ (word ≡ 58 ∷ [])

items_into : (clause : List Lit) (word : List ℕ) → AllByRecursion IsLiteral clause → Items word → (tail : List ℕ) × Clauses (flat_map (λ l. literal_text l ++ codes " ") clause ++ (word ++ tail))
items_into clause word h (inl l) =
    let t = flat_map (λ (x : Lit). literal_text x ++ codes " ") clause in (
      58 ∷ [],
      (
        clause ++ l.0 ∷ [],
        all_push IsLiteral clause l.0 h l.1,
        ap (λ (k : List ℕ). t ++ (k ++ 58 ∷ [])) l.2 ∙ sym (append_assoc t (literal_text l.0 ++ 32 ∷ []) (58 ∷ []))
            ∙ ap (λ (k : List ℕ). k ++ 58 ∷ []) (sym (flat_push (λ (x : Lit). literal_text x ++ codes " ") clause l.0)),
      ),
    )
items_into clause word h (inr e) =
    let t = flat_map (λ (x : Lit). literal_text x ++ codes " ") clause in
    ([], (clause, h, ap (λ (k : List ℕ). t ++ k) (append-nil word ∙ e)))

lits_cons : (l : Lit) (clause : List Lit) (rest : List ℕ) → flat_map (λ x. literal_text x ++ codes " ") (l ∷ clause) ++ rest ≡ literal_text l ++ 32 ∷ (flat_map (λ x. literal_text x ++ codes " ") clause ++ rest)
lits_cons l clause rest =
    let t = flat_map (λ (x : Lit). literal_text x ++ codes " ") clause in
    append_assoc (literal_text l ++ 32 ∷ []) t rest ∙ append_assoc (literal_text l) (32 ∷ []) (t ++ rest)

items_out : (clause other : List Lit) (behind after : List ℕ) → AllByRecursion IsLiteral other → flat_map (λ l. literal_text l ++ codes " ") clause ++ behind ≡ clause_text other ++ after
    → (found : List ℕ) × (left : List ℕ) × Items found × (behind ≡ found ++ left)
items_out [] [] behind after h e = (58 ∷ [], after, inr refl, e)
items_out [] (m ∷ d) behind after h e =
    (literal_text m ++ 32 ∷ [], clause_text d ++ after, inl (m, h.0, refl), e ∙ clause_cons m d after ∙ sym (append_assoc (literal_text m) (32 ∷ []) (clause_text d ++ after)))
items_out (l ∷ c) [] behind after h e = absurd (no_literal l (32 ∷ (flat_map (λ (x : Lit). literal_text x ++ codes " ") c ++ behind)) after (sym (lits_cons l c behind) ∙ e))
items_out (l ∷ c) (m ∷ d) behind after h e =
    let s = same_literals l m (flat_map (λ (x : Lit). literal_text x ++ codes " ") c ++ behind) (clause_text d ++ after) (sym (lits_cons l c behind) ∙ e ∙ clause_cons m d after) in
    items_out c d behind after h.1 s.1

items_next : (clause : List Lit) → AllByRecursion IsLiteral clause → Next Clauses (flat_map (λ l. literal_text l ++ codes " ") clause) Items
items_next clause h = record {
  into = λ word m. items_into clause word h m;
  out = λ behind word after l e. items_out clause l.0 behind after l.1 (e ∙ ap (λ (k : List ℕ). k ++ after) l.2);
}

item_of : (text word : List ℕ) → NotNext 58 text → Items word → ((found : List ℕ) × (left : List ℕ) × Literals found × (word ≡ found ++ left)) ⊎ ((b : ℕ) × (more : List ℕ) × NotNext b text × (word ≡ b ∷ more))
item_of text word deny (inl l) = inl (word, [], l, sym (append-nil word))
item_of text word deny (inr e) = inr (58, [], deny, e)

pub clause_stops : (text mid same rest : List ℕ) (clause : List Lit) → ClauseSoFar text mid clause → same ≡ mid → NotNext 58 mid → Stops Literals same rest → Stops Clauses text rest
clause_stops text mid same rest clause f e deny s =
    let t : Stops Literals mid rest = subst (λ (k : List ℕ). Stops Literals k rest) e s in
    let i : Stops Items mid rest = stops_other Items Literals mid rest t (λ word l. ([], subst Items (sym (append-nil word)) (inl l))) (λ word l. item_of mid word deny l) in
    stops_behind Clauses Items (flat_map (λ (x : Lit). literal_text x ++ codes " ") clause) text mid rest (items_next clause f.all) f.goes i

-- ---- hints

-- a list of numbers behind a space, as hints
as_hints : (n : ℕ) (ns : List ℕ) → 32 ∷ widths_text (n ∷ ns) ≡ flat_map (λ h. codes " " ++ numeral h) (n ∷ ns)
as_hints n [] = ap (λ (k : List ℕ). 32 ∷ k) (sym (append-nil (numeral n)))
as_hints n (m ∷ ns) = ap (λ (k : List ℕ). 32 ∷ (numeral n ++ k)) (as_hints m ns)

pub hints_list : (ns rest : List ℕ) → ns ≢ [] → 32 ∷ (widths_text ns ++ 10 ∷ rest) ≡ hints_text ns ++ rest
hints_list [] rest some = absurd (some refl)
hints_list (n ∷ ns) rest some = ap (λ (k : List ℕ). k ++ 10 ∷ rest) (as_hints n ns) ∙ sym (append_assoc (flat_map (λ (h : ℕ). codes " " ++ numeral h) (n ∷ ns)) (10 ∷ []) rest)

hint_out : (hints text word : List ℕ) → NotNext 10 text → word ≡ hints_text hints → ((found : List ℕ) × (left : List ℕ) × Fixed (32 ∷ []) found × (word ≡ found ++ left)) ⊎ ((b : ℕ) × (more : List ℕ) × NotNext b text × (word ≡ b ∷ more))
hint_out [] text word deny e = inr (10, [], deny, e)
hint_out (h ∷ hints) text word deny e = inl (32 ∷ [], numeral h ++ (hints_text hints ++ []), refl, e ∙ sym (append-nil (hints_text (h ∷ hints))) ∙ hints_cons h hints [])

pub blank_stops : (text same rest : List ℕ) → same ≡ text → NotNext 10 text → Stops (Fixed (32 ∷ [])) same rest → Stops Hints text rest
blank_stops text same rest q deny s = stops_other Hints (Fixed (32 ∷ [])) text rest (subst (λ (k : List ℕ). Stops (Fixed (32 ∷ [])) k rest) q s)
    (λ word m. (numeral 0 ++ 10 ∷ [], (0 ∷ [], (omega arith, tt), ap (λ (k : List ℕ). k ++ (numeral 0 ++ 10 ∷ [])) m ∙ ap (λ (k : List ℕ). 32 ∷ (k ++ 10 ∷ [])) (sym (append-nil (numeral 0))))))
    (λ word l. hint_out l.0 text word deny l.2)

hints_out : (hints behind after : List ℕ) → AllByRecursion IsNumber hints → 32 ∷ behind ≡ hints_text hints ++ after → (found : List ℕ) × (left : List ℕ) × Lists 10 found × (behind ≡ found ++ left)
hints_out [] behind after h e = absurd (let f : 32 ∷ behind ≡ 10 ∷ after = e in cc)
hints_out (n ∷ ns) behind after h e =
    let f : 32 ∷ behind ≡ 32 ∷ (widths_text (n ∷ ns) ++ 10 ∷ after) = e ∙ sym (hints_list (n ∷ ns) after (λ (g : n ∷ ns ≡ []). absurd cc)) in
    let g : behind ≡ widths_text (n ∷ ns) ++ 10 ∷ after = cc in
    (widths_text (n ∷ ns) ++ 10 ∷ [], after, (n ∷ ns, (λ (g : n ∷ ns ≡ []). absurd cc, h), refl), g ∙ sym (append_assoc (widths_text (n ∷ ns)) (10 ∷ []) after))

hints_next : Next Hints (32 ∷ []) (Lists 10)
hints_next = record {
  into = λ word m. ([], (m.0, m.1.1, ap (λ (k : List ℕ). 32 ∷ k) (append-nil word ∙ m.2) ∙ hints_list m.0 [] m.1.0 ∙ append-nil (hints_text m.0)));
  out = λ behind word after l e. hints_out l.0 behind after l.1 (e ∙ ap (λ (k : List ℕ). k ++ after) l.2);
}

pub hints_stop : (text mid rest : List ℕ) → text ≡ 32 ∷ mid → Stops (Lists 10) mid rest → Stops Hints text rest
hints_stop text mid rest e s = stops_behind Hints (Lists 10) (32 ∷ []) text mid rest hints_next e s

pub hints_ok : {E : Type 0} (r : Result (List ℕ) E) (text same mid rest : List ℕ) → same ≡ text → same ≡ 32 ∷ mid → IfOk r (λ ns. AreWidths ns × (mid ≡ widths_text ns ++ 10 ∷ rest)) → IfOk r (λ hs. AllByRecursion IsNumber hs × (text ≡ hints_text hs ++ rest))
hints_ok (Ok ns) text same mid rest q e h = (h.0.1, sym q ∙ e ∙ ap (λ (k : List ℕ). 32 ∷ k) h.1 ∙ hints_list ns rest h.0.0)
hints_ok (Err x) text same mid rest q e h = tt

pub hints_err : {T E : Type 0} (r : Result T (Refusal E)) (text same mid rest : List ℕ) → same ≡ text → same ≡ 32 ∷ mid → IfErr r (λ e. StopsIn (Lists 10) e mid rest) → IfErr r (λ e. StopsIn Hints e text rest)
hints_err (Ok x) text same mid rest q e h = tt
hints_err (Err x) text same mid rest q e h = stops_in Hints (Lists 10) x text mid rest (λ s. hints_stop text mid rest (sym q ∙ e) s) h

-- ---- steps

steps_first : Next Steps [] Clauses
steps_first = record {
  into = λ word m.
      let s : Step = record { clause = m.0; hints = [] } in
      (10 ∷ [], (s, (m.1, tt), ap (λ (k : List ℕ). k ++ 10 ∷ []) m.2));
  out = λ behind word after l e. (clause_text l.0.clause, hints_text l.0.hints ++ after, (l.0.clause, l.1.0, refl), e ∙ ap (λ (k : List ℕ). k ++ after) l.2 ∙ append_assoc (clause_text l.0.clause) (hints_text l.0.hints) after);
}

pub step_stops : (text rest : List ℕ) → Stops Clauses text rest → Stops Steps text rest
step_stops text rest s = stops_behind Steps Clauses [] text text rest steps_first refl s

steps_second : (clause : List Lit) → AllByRecursion IsLiteral clause → Next Steps (clause_text clause) Hints
steps_second clause h = record {
  into = λ word m.
      let s : Step = record { clause = clause; hints = m.0 } in
      ([], (s, (h, m.1), ap (λ (k : List ℕ). clause_text clause ++ k) (append-nil word ∙ m.2)));
  out = λ behind word after l e.
      let s = same_clauses clause l.0.clause behind (hints_text l.0.hints ++ after) (e ∙ ap (λ (k : List ℕ). k ++ after) l.2 ∙ append_assoc (clause_text l.0.clause) (hints_text l.0.hints) after) in
      (hints_text l.0.hints, after, (l.0.hints, l.1.1, refl), s.1);
}

pub step_stops_later : (clause : List Lit) (text mid rest : List ℕ) → AllByRecursion IsLiteral clause → text ≡ clause_text clause ++ mid → Stops Hints mid rest → Stops Steps text rest
step_stops_later clause text mid rest h e s = stops_behind Steps Hints (clause_text clause) text mid rest (steps_second clause h) e s
