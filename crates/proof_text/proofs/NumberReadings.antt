-- How numbers are read, and where that stops.
use Rattle.proof_text.proofs.Common.{◌≡◌, ◌≢◌, ℕ, zero, suc, ◌+◌, ◌*◌, ◌-◌, ◌<◌, ◌≤◌, inl, inr, true, false, List, [], ◌∷◌, ◌++◌, refl, ap, subst, sym, ◌∙◌, append_assoc, arith, append-nil, nat_tests, is_digit, numeral, GoesOn, Stops, Numbers, IsHeld, IsEnd, held, ReadsNumber, BeginsNoNumber, IsLonger, IsLongest}
use Rattle.proof_text.proofs.Numerals.{numeral_one, numeral_more, begins, one, on, two_numbers, digit_of_numeral}
use Rattle.proof_text.proofs.Readings.{same_first}

pub digit_range : (b : ℕ) → is_digit b ≡ true → (48 ≤ b) × (b ≤ 57)
unfolding is_digit
digit_range b h = grind (arith, nat_tests)

-- what was read of a number so far
pub record SoFar (least most value : ℕ) (text rest : List ℕ) : Type 0 where
  pub number : ℕ
  pub is_held : IsHeld least most number
  pub value_is : value ≡ held number
  pub goes : text ≡ numeral number ++ rest

pub first_so_far : (least most value : ℕ) (text rest : List ℕ) → least ≤ 1 → 10 ≤ most → least ≤ value → value < 10 → text ≡ (48 + value) ∷ rest → SoFar least most value text rest
first_so_far least most value text rest low high from below e = record {
  number = value;
  is_held = (omega arith, omega arith);
  value_is = omega arith;
  goes = e ∙ ap (λ (k : List ℕ). k ++ rest) (sym (numeral_one value below));
}

pub longer_so_far : (least most value byte more : ℕ) (text mid rest : List ℕ) → least ≤ 1 → SoFar least most value text mid → mid ≡ byte ∷ rest → IsLonger value byte most more → SoFar least most more text rest
longer_so_far least most value byte more text mid rest low s e l =
    let range = l.digit in
    let d = byte - 48 in
    let below : d < 10 = omega (arith, range.0, range.1) in
    let back : 48 + d ≡ byte = omega (arith, range.0) in
    let value_is : value ≡ held s.number = s.value_is in
    let longer_is : more ≡ held (value * 10 + d) = l.longer_is in
    let some : 0 < value = l.some in
    let within : more ≤ most = l.within in
    let some_number : 0 < s.number = omega arith in
    let more_is : more ≡ held (s.number * 10 + d) = omega arith in
    record {
      number = s.number * 10 + d;
      is_held = (omega arith, omega arith);
      value_is = more_is;
      goes = s.goes ∙ ap (λ (k : List ℕ). numeral s.number ++ k) e ∙ ap (λ (k : ℕ). numeral s.number ++ k ∷ rest) (sym back)
          ∙ sym (append_assoc (numeral s.number) ((48 + d) ∷ []) rest) ∙ ap (λ (k : List ℕ). k ++ rest) (sym (numeral_more s.number d some_number below));
    }

pub ended : (least most first other value byte : ℕ) (text mid rest : List ℕ) → SoFar least most value text mid → mid ≡ byte ∷ rest → IsEnd first other byte → ReadsNumber least most first other value byte text rest
ended least most first other value byte text mid rest s e end = record {
  number = s.number;
  is_held = s.is_held;
  value_is = s.value_is;
  ends = end;
  goes = s.goes ∙ ap (λ (k : List ℕ). numeral s.number ++ k) e;
}

-- ---- where the reading stops

least_digit : (least n first : ℕ) → least ≤ 1 → least ≤ held n → 48 ≤ first → (0 < n → first ≡ 48 → ⊥) → least ≤ first - 48
least_digit zero n first low h range deny = omega arith
least_digit (suc k) n first low h range deny =
    let some : 0 < n = omega arith in
    let not : first ≢ 48 = deny some in
    omega arith

no_end : (first other end : ℕ) → is_digit first ≡ false → is_digit other ≡ false → IsEnd first other end → is_digit end ≡ true → ⊥
no_end first other end no_first no_other (inl e) d = let f : is_digit end ≡ is_digit first = ap is_digit e in cc
no_end first other end no_first no_other (inr e) d = let f : is_digit end ≡ is_digit other = ap is_digit e in cc

end_no_digit : (first other end : ℕ) → is_digit first ≡ false → is_digit other ≡ false → IsEnd first other end → is_digit end ≡ false
end_no_digit first other end no_first no_other (inl e) = ap is_digit e ∙ no_first
end_no_digit first other end no_first no_other (inr e) = ap is_digit e ∙ no_other

not_end : (first other byte end : ℕ) → byte ≢ first → byte ≢ other → IsEnd first other end → byte ≡ end → ⊥
not_end first other byte end a b (inl e) f = a (f ∙ e)
not_end first other byte end a b (inr e) f = b (f ∙ e)

too_great : (n m value d most : ℕ) → value ≡ held n → 0 < n → n * 10 + d ≤ m → held m ≤ most → (0 < value → most < held (value * 10 + d)) → ⊥
too_great n m value d most v some more within deny =
    let p : 0 < value = omega arith in
    let q : most < held (value * 10 + d) = deny p in
    omega arith

pub no_number : (least most first other : ℕ) (text : List ℕ) → least ≤ 1 → 10 ≤ most → BeginsNoNumber least text → Stops (Numbers least most first other) text text
no_number least most first other text low high deny = record {
  passed = [];
  goes = refl;
  stops = record {
    more = numeral 1 ++ first ∷ [];
    fits = (1, first, (omega arith, omega arith), inl refl, refl);
    none = λ behind word after g l e.
        let n = l.0 in
        let b = begins n in
        let whole : behind ≡ b.first ∷ (b.others ++ l.1 ∷ after) = e ∙ ap (λ (k : List ℕ). k ++ after) l.4 ∙ append_assoc (numeral n) (l.1 ∷ []) after ∙ ap (λ (k : List ℕ). k ++ l.1 ∷ after) b.whole in
        let f = same_first [] text behind (b.others ++ l.1 ∷ after) b.first g whole in
        let range = digit_range b.first b.digit in
        let back : 48 + (b.first - 48) ≡ b.first = omega (arith, range.0) in
        let begins_so : text ≡ (48 + (b.first - 48)) ∷ f.0 = f.1 ∙ ap (λ (k : ℕ). k ∷ f.0) (sym back) in
        let below : b.first - 48 < 10 = omega (arith, range.0, range.1) in
        let is_least : least ≤ held n = l.2.0 in
        deny (b.first - 48) f.0 (least_digit least n b.first low is_least range.0 b.no_zero) below begins_so;
  };
}

pub number_ends : (least most first other value : ℕ) (text rest : List ℕ) → is_digit first ≡ false → is_digit other ≡ false → SoFar least most value text rest → rest ≡ [] → Stops (Numbers least most first other) text rest
number_ends least most first other value text rest no_first no_other s nil = record {
  passed = numeral s.number;
  goes = s.goes;
  stops = record {
    more = first ∷ [];
    fits = (s.number, first, s.is_held, inl refl, refl);
    none = λ behind word after g l e.
        let empty : behind ≡ [] = subst (λ (k : List ℕ). GoesOn k behind) nil g in
        let whole : numeral s.number ≡ numeral l.0 ++ l.1 ∷ after = sym (append-nil (numeral s.number)) ∙ ap (λ (k : List ℕ). numeral s.number ++ k) (sym empty) ∙ e ∙ ap (λ (k : List ℕ). k ++ after) l.4 ∙ append_assoc (numeral l.0) (l.1 ∷ []) after in
        no_end first other l.1 no_first no_other l.3 (digit_of_numeral s.number l.1 (numeral l.0) after whole);
  };
}

pub number_stops : (least most first other value byte : ℕ) (text rest behind : List ℕ) → is_digit first ≡ false → is_digit other ≡ false → SoFar least most value text rest → rest ≡ byte ∷ behind → byte ≢ first → byte ≢ other → IsLongest value byte most → Stops (Numbers least most first other) text rest
number_stops least most first other value byte text rest behind no_first no_other s e not_first not_other longest = record {
  passed = numeral s.number;
  goes = s.goes;
  stops = record {
    more = first ∷ [];
    fits = (s.number, first, s.is_held, inl refl, refl);
    none = λ next word after g l f.
        let h = subst (λ (k : List ℕ). GoesOn k next) e g in
        let whole : numeral s.number ++ byte ∷ h.0 ≡ numeral l.0 ++ l.1 ∷ after = ap (λ (k : List ℕ). numeral s.number ++ k) (sym h.1) ∙ f ∙ ap (λ (k : List ℕ). k ++ after) l.4 ∙ append_assoc (numeral l.0) (l.1 ∷ []) after in
        elim (two_numbers s.number l.0 byte l.1 h.0 after (end_no_digit first other l.1 no_first no_other l.3) whole) [
          | one p q r ↦ not_end first other byte l.1 not_first not_other l.3 q
          | on d some more ↦ too_great s.number l.0 value (byte - 48) most s.value_is some more l.2.1 (longest (digit_range byte d).0 (digit_range byte d).1)
        ];
  };
}
