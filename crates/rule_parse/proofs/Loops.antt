-- Loops that read one part after another, against readers that recurse.
use Rattle.rule_parse.proofs.Common.{◌≡◌, ℕ, zero, suc, ◌+◌, ◌-◌, ◌<◌, ◌≤◌, List, [], ◌∷◌, ◌++◌, length, drop, true, false, Some, Result, Ok, Err, refl, sym, ap, ◌∙◌, append_assoc, length-append, arith, append-nil, Flags, Flag, has_flag, with_flag, RuleFault, RuleError, Refused, NoMemory, Syntax, TooMany, Half, RawRule, RawStatement, Fails, ◌>>=◌, Read, fault, next_flag, flags_at, IsNoStatement, statement_at, statements_at, rule_at, rules_at, rules_of, Token, Line, Register, Version, Limits}
use Rattle.rule_parse.proofs.Readings.{rule_at-shorter}

module _ (limits : Limits) (version : Version) where
  -- what the recursion reads, with what the loop has read in front
  abbrev pub with_front : {A : Type 0} → List A → Read (List A) → Read (List A)
  with_front front (Ok x) = Ok (front ++ x.0, x.1)
  with_front front (Err e) = Err e

  -- an item that is read moves from the one to the other
  regroup : {A : Type 0} (front : List A) (x : A) (read : Read (List A)) → with_front front (read >>= λ others. Ok (x ∷ others.0, others.1)) ≡ with_front (front ++ x ∷ []) read
  regroup front x (Ok y) = ap (λ (xs : List _). Ok (xs, y.1)) (sym (append_assoc front (x ∷ []) y.0))
  regroup front x (Err e) = refl

  -- one statement more uses up one of the room
  room_more : (most n : ℕ) → n < most → most - n ≡ suc (most - (n + 1))
  room_more most n lt = omega arith

  pub statements-more : (most : ℕ) (front : List RawStatement) (half : Half) (line : ℕ) (name : List ℕ) (tokens rest : List Token) (x : RawStatement × List Token) (total : Read (List RawStatement)) → tokens ≡ Line line ∷ Register name ∷ rest → length front < most → statement_at limits version half line name rest ≡ Ok x
      → with_front front (statements_at limits version (most - length front) half tokens) ≡ total → with_front (front ++ x.0 ∷ []) (statements_at limits version (most - length (front ++ x.0 ∷ [])) half x.1) ≡ total
  unfolding statements_at
  statements-more most front half line name tokens rest x total begun lt s so_far =
      let one : statements_at limits version (most - length front) half tokens ≡ (statements_at limits version (most - (length front + 1)) half x.1 >>= λ others. Ok (x.0 ∷ others.0, others.1)) = rw (begun, room_more most (length front) lt, s) refl in
      rw (length-append front (x.0 ∷ [])) (sym (regroup front x.0 (statements_at limits version (most - (length front + 1)) half x.1)) ∙ ap (with_front front) (sym one) ∙ so_far)

  pub statements-fault : (most : ℕ) (front : List RawStatement) (half : Half) (line : ℕ) (name : List ℕ) (tokens rest : List Token) (total : Read (List RawStatement)) (e : RuleError) → tokens ≡ Line line ∷ Register name ∷ rest → length front < most → Fails e (statement_at limits version half line name rest)
      → with_front front (statements_at limits version (most - length front) half tokens) ≡ total → Fails e total
  unfolding statements_at
  statements-fault most front half line name tokens rest total NoMemory begun lt s so_far = tt
  statements-fault most front half line name tokens rest total (Refused f) begun lt s so_far =
      let one : statements_at limits version (most - length front) half tokens ≡ Err f = rw (begun, room_more most (length front) lt, s) refl in
      sym so_far ∙ ap (with_front front) one

  pub statements-full : (most : ℕ) (front : List RawStatement) (half : Half) (line : ℕ) (name : List ℕ) (tokens rest : List Token) (total : Read (List RawStatement)) → tokens ≡ Line line ∷ Register name ∷ rest → length front ≡ most
      → with_front front (statements_at limits version (most - length front) half tokens) ≡ total → total ≡ Err (fault line TooMany)
  unfolding statements_at
  statements-full most front half line name tokens rest total begun full so_far =
      let none : most - length front ≡ 0 = omega arith in
      let one : statements_at limits version (most - length front) half tokens ≡ Err (fault line TooMany) = rw (begun, none) refl in
      sym so_far ∙ ap (with_front front) one

  none_begun : (room : ℕ) (half : Half) (tokens : List Token) → IsNoStatement tokens → statements_at limits version room half tokens ≡ Ok ([], tokens)
  unfolding statements_at
  none_begun zero half (Line line ∷ Register name ∷ rest) none = absurd none
  none_begun (suc room) half (Line line ∷ Register name ∷ rest) none = absurd none
  none_begun zero half tokens none = refl
  none_begun (suc room) half tokens none = refl

  pub statements-done : (front : List RawStatement) (room : ℕ) (half : Half) (tokens behind : List Token) (total : Read (List RawStatement)) → IsNoStatement tokens → behind ≡ tokens → with_front front (statements_at limits version room half tokens) ≡ total → total ≡ Ok (front, behind)
  statements-done front room half tokens behind total none same so_far =
      sym so_far ∙ ap (with_front front) (none_begun room half tokens none) ∙ ap (λ (xs : List RawStatement). Ok (xs, tokens)) (append-nil front) ∙ ap (λ (ts : List Token). Ok (front, ts)) (sym same)

module _ (limits : Limits) where
  -- ---- flags

  pub flags-more : (taken : Flags) (line : ℕ) (before : Flags) (flag : Flag) (tokens : List Token) → next_flag taken tokens ≡ Some flag → has_flag before flag ≡ false → flags_at taken line before tokens ≡ flags_at taken line (with_flag before flag) (drop 1 tokens)
  unfolding flags_at
  flags-more taken line before flag [] next new = absurd cc
  flags-more taken line before flag (token ∷ rest) next new = rw (next, new) refl

  pub flags-again : (taken : Flags) (line : ℕ) (before : Flags) (flag : Flag) (tokens : List Token) → next_flag taken tokens ≡ Some flag → has_flag before flag ≡ true → flags_at taken line before tokens ≡ Err (fault line Syntax)
  unfolding flags_at
  flags-again taken line before flag [] next again = absurd cc
  flags-again taken line before flag (token ∷ rest) next again = rw (next, again) refl

module _ (limits : Limits) (version : Version) where
  -- ---- rules

  abbrev pub with_rules : List RawRule → Result (List RawRule) RuleFault → Result (List RawRule) RuleFault
  with_rules front (Ok rules) = Ok (front ++ rules)
  with_rules front (Err e) = Err e

  rules_same : {A B : Type 0} (r : Result A RuleFault) (f g : A → Result B RuleFault) → ((x : A) → r ≡ Ok x → f x ≡ g x) → (r >>= f) ≡ (r >>= g)
  rules_same (Ok x) f g h = h x refl
  rules_same (Err e) f g h = refl

  -- a bound of as many rules as there are tokens makes no difference
  rules_enough : (n m last : ℕ) (tokens : List Token) → length tokens ≤ n → length tokens ≤ m → rules_at limits version n last tokens ≡ rules_at limits version m last tokens
  unfolding rules_at
  rules_enough zero zero last [] p q = refl
  rules_enough zero (suc m) last [] p q = refl
  rules_enough (suc n) zero last [] p q = refl
  rules_enough (suc n) (suc m) last [] p q = refl
  rules_enough zero m last (token ∷ tokens) p q = absurd (omega arith)
  rules_enough (suc n) zero last (token ∷ tokens) p q = absurd (omega arith)
  rules_enough (suc n) (suc m) last (token ∷ tokens) p q =
      rules_same (rule_at limits version last (token ∷ tokens)) _ _
      (λ x e.
      let short : length x.1 < length (token ∷ tokens) = rule_at-shorter limits version last (token ∷ tokens) x e in
      ap (λ (r : Result (List RawRule) RuleFault). r >>= λ others. Ok (x.0 ∷ others)) (rules_enough n m last x.1 (omega arith) (omega arith)))

  rules_step : (last : ℕ) (tokens : List Token) → 0 < length tokens → rules_of limits version last tokens ≡ (rule_at limits version last tokens >>= λ first. (rules_of limits version last first.1 >>= λ others. Ok (first.0 ∷ others)))
  unfolding rules_at
  rules_step last [] some = absurd (omega arith)
  rules_step last (token ∷ tokens) some =
      rules_same (rule_at limits version last (token ∷ tokens)) _ _
      (λ x e.
      let short : length x.1 < length (token ∷ tokens) = rule_at-shorter limits version last (token ∷ tokens) x e in
      ap (λ (r : Result (List RawRule) RuleFault). r >>= λ others. Ok (x.0 ∷ others)) (rules_enough (length tokens) (length x.1) last x.1 (omega arith) (omega arith)))

  rules_grouped : (front : List RawRule) (rule : RawRule) (read : Result (List RawRule) RuleFault) → with_rules front (read >>= λ others. Ok (rule ∷ others)) ≡ with_rules (front ++ rule ∷ []) read
  rules_grouped front rule (Ok rules) = ap (λ (rs : List RawRule). Ok rs) (sym (append_assoc front (rule ∷ []) rules))
  rules_grouped front rule (Err e) = refl

  pub rules-more : (front : List RawRule) (last : ℕ) (tokens : List Token) (x : RawRule × List Token) (total : Result (List RawRule) RuleFault) → 0 < length tokens → rule_at limits version last tokens ≡ Ok x → with_rules front (rules_of limits version last tokens) ≡ total → with_rules (front ++ x.0 ∷ []) (rules_of limits version last x.1) ≡ total
  rules-more front last tokens x total some one so_far =
      let step : rules_of limits version last tokens ≡ (rules_of limits version last x.1 >>= λ others. Ok (x.0 ∷ others)) = rules_step last tokens some ∙ rw one refl in
      sym (rules_grouped front x.0 (rules_of limits version last x.1)) ∙ ap (with_rules front) (sym step) ∙ so_far

  pub rules-fault : (front : List RawRule) (last : ℕ) (tokens : List Token) (total : Result (List RawRule) RuleFault) (e : RuleError) → 0 < length tokens → Fails e (rule_at limits version last tokens) → with_rules front (rules_of limits version last tokens) ≡ total → Fails e total
  rules-fault front last tokens total NoMemory some one so_far = tt
  rules-fault front last tokens total (Refused f) some one so_far =
      let step : rules_of limits version last tokens ≡ Err f = rules_step last tokens some ∙ rw one refl in
      sym so_far ∙ ap (with_rules front) step

  pub rules-done : (front : List RawRule) (last : ℕ) (tokens : List Token) (total : Result (List RawRule) RuleFault) → length tokens ≡ 0 → with_rules front (rules_of limits version last tokens) ≡ total → total ≡ Ok front
  unfolding rules_at
  rules-done front last [] total none so_far = sym so_far ∙ ap (λ (rs : List RawRule). Ok rs) (append-nil front)
  rules-done front last (token ∷ tokens) total none so_far = absurd (omega arith)
