-- How counts of uses change, operand by operand.
use Rattle.readers.proofs.Common.{◌≡◌, inl, inr, ℕ, ◌+◌, ◌<◌, ◌≤◌, cond, List, [], ◌∷◌, length, get_or, take, sym, ap, subst, ◌∙◌, arith, Contains, cond-true, cond-false, Contains-get_or, sum_by-cons, sum_by_more, sum_by_more_le, Operand, Register, HasNumber, count_of, Uses, AreCounted, HasNumbers, IsSetTo, names, times}
use Rattle.ir_core.specs.declared.operand.Operand.TheVariants as operands
use Rattle.readers.proofs.Naming.{is_same_register, names_not, names_self}

abbrev pub one_if : Register → Operand → ℕ
one_if r a = cond (names r a) 1 0

pub times_one : (r : Register) (a : Operand) → times r (a ∷ []) ≡ one_if r a
times_one r a = let h = sum_by-cons (one_if r) a [] in omega arith

pub times_named : (r : Register) (a : Operand) → a ≡ operands.Register r → times r (a ∷ []) ≡ 1
times_named r a is = times_one r a ∙ cond-true (names r a) 1 0 (names_self r a is)

pub times_other : (r : Register) (a : Operand) → ¬ (a ≡ operands.Register r) → times r (a ∷ []) ≡ 0
times_other r a other = times_one r a ∙ cond-false (names r a) 1 0 (names_not r a other)

pub times_more : (r : Register) (xs : List Operand) (i : ℕ) (d : Operand) → i < length xs → times r (take (i + 1) xs) ≡ times r (take i xs) + times r (get_or xs i d ∷ [])
times_more r xs i d within = let h = sum_by_more (one_if r) xs i d within in let one = times_one r (get_or xs i d) in omega arith

pub times_left : (r : Register) (xs : List Operand) (i : ℕ) (d : Operand) → i < length xs → times r (take i xs) + times r (get_or xs i d ∷ []) ≤ times r xs
times_left r xs i d within = let h = sum_by_more_le (one_if r) xs i d within in let one = times_one r (get_or xs i d) in omega arith

-- ---- one operand

named_apart : (r s : Register) (a : Operand) → a ≡ operands.Register s → ¬ (r ≡ s) → ¬ (a ≡ operands.Register r)
named_apart r s a is apart = λ e. apart cc

pub counted_register : (old new : Uses) (register : Register) (a : Operand) (n : ℕ) → a ≡ operands.Register register → n ≡ count_of old register + 1 → IsSetTo register n old new → AreCounted (a ∷ []) old new
counted_register old new register a n is one set = record {
  there = set.there;
  more = λ r. elim (is_same_register r register) [
    | inl same ↦
        let this : a ≡ operands.Register r = cc in
        let times_is = times_named r a this in
        let now : count_of new r ≡ n = ap (count_of new) same ∙ set.is in
        let was : count_of old r ≡ count_of old register = ap (count_of old) same in
        omega arith
    | inr apart ↦
        let times_is = times_other r a (named_apart r register a is apart) in
        let now = set.others r apart in
        omega arith
  ];
}

pub counted_other : (uses : Uses) (a : Operand) → ((r : Register) → a ≡ operands.Register r → ⊥) → AreCounted (a ∷ []) uses uses
counted_other uses a other = record {
  there = λ r. (λ h. h, λ h. h);
  more = λ r. let times_is = times_other r a (other r) in omega arith;
}

-- ---- operand by operand

pub counted_none : (uses : Uses) → AreCounted [] uses uses
counted_none uses = record { there = λ r. (λ h. h, λ h. h); more = λ r. omega arith }

pub counted_more : (xs : List Operand) (i : ℕ) (a : Operand) (old mid new : Uses) → i < length xs → a ≡ get_or xs i operands.Poison → AreCounted (take i xs) old mid → AreCounted (a ∷ []) mid new → AreCounted (take (i + 1) xs) old new
counted_more xs i a old mid new within here before one = record {
  there = λ r. (λ h. (one.there r).0 ((before.there r).0 h), λ h. (before.there r).1 ((one.there r).1 h));
  more = λ r.
      let step = times_more r xs i operands.Poison within in
      let same : times r (a ∷ []) ≡ times r (get_or xs i operands.Poison ∷ []) = ap (λ (x : Operand). times r (x ∷ [])) here in
      let first = before.more r in
      let after = one.more r in
      omega arith;
}

-- the same where the counts of the operands are taken back
pub forgotten_more : (xs : List Operand) (i : ℕ) (a : Operand) (old mid new : Uses) → i < length xs → a ≡ get_or xs i operands.Poison → AreCounted (take i xs) mid old → AreCounted (a ∷ []) new mid → AreCounted (take (i + 1) xs) new old
forgotten_more xs i a old mid new within here before one = record {
  there = λ r. (λ h. (before.there r).0 ((one.there r).0 h), λ h. (one.there r).1 ((before.there r).1 h));
  more = λ r.
      let step = times_more r xs i operands.Poison within in
      let same : times r (a ∷ []) ≡ times r (get_or xs i operands.Poison ∷ []) = ap (λ (x : Operand). times r (x ∷ [])) here in
      let first = before.more r in
      let after = one.more r in
      omega arith;
}

pub only_one : (a b : Operand) → Contains (a ∷ []) b → a ≡ b
only_one a b (k, within, is) = let first : k ≡ 0 = omega arith in subst (λ (j : ℕ). get_or (a ∷ []) j b ≡ b) first is

-- the next operand is one of the list
pub next_contained : (xs : List Operand) (i : ℕ) (a : Operand) → i < length xs → a ≡ get_or xs i operands.Poison → Contains xs a
next_contained xs i a within here = subst (λ (x : Operand). Contains xs x) (sym here) (Contains-get_or xs i operands.Poison within)

pub next_number : (xs : List Operand) (i : ℕ) (a : Operand) (old mid : Uses) → i < length xs → a ≡ get_or xs i operands.Poison → HasNumbers old xs → ((r : Register) → HasNumber old r → HasNumber mid r) → HasNumbers mid (a ∷ [])
next_number xs i a old mid within here has kept = λ r there.
    kept r (has r (subst (λ (x : Operand). Contains xs x) (only_one a (operands.Register r) there) (next_contained xs i a within here)))

pub next_counted : (xs : List Operand) (i : ℕ) (a : Operand) (old mid : Uses) (r : Register) → i < length xs → a ≡ get_or xs i operands.Poison → times r xs ≤ count_of old r → AreCounted (take i xs) mid old → times r (a ∷ []) ≤ count_of mid r
next_counted xs i a old mid r within here counted before =
    let same : times r (a ∷ []) ≡ times r (get_or xs i operands.Poison ∷ []) = ap (λ (x : Operand). times r (x ∷ [])) here in
    let left = times_left r xs i operands.Poison within in
    let first = before.more r in
    omega arith

pub contains_operand : (a : Operand) (r : Register) → a ≡ operands.Register r → Contains (a ∷ []) (operands.Register r)
contains_operand a r is = (0, omega arith, is)

-- one use of a register is taken back
pub forgotten_register : (old new : Uses) (register : Register) (a : Operand) (n : ℕ) → a ≡ operands.Register register → n + 1 ≡ count_of old register → IsSetTo register n old new → AreCounted (a ∷ []) new old
forgotten_register old new register a n is one set = record {
  there = λ r. ((set.there r).1, (set.there r).0);
  more = λ r. elim (is_same_register r register) [
    | inl same ↦
        let this : a ≡ operands.Register r = cc in
        let times_is = times_named r a this in
        let now : count_of new r ≡ n = ap (count_of new) same ∙ set.is in
        let was : count_of old r ≡ count_of old register = ap (count_of old) same in
        omega arith
    | inr apart ↦
        let times_is = times_other r a (named_apart r register a is apart) in
        let now = set.others r apart in
        omega arith
  ];
}
