-- Members by what they begin with, and one level of nesting where one is left.
use Rattle.rule_terms.proofs.Common.{◌≡◌, ℕ, zero, suc, List, [], ◌∷◌, ◌++◌, length, drop, Result, Ok, Err, refl, ap, codes, RuleFault, RuleError, Refused, NoMemory, Fails, last_place, mark_at, ◌>>=◌, Token, ok_is, RawFormula, Turns, Encloses, Tests, Compares, Predicate, deeper, alternatives_of, turns_at, encloses_at, tests_at, compares_at, member_at, Limits}
use Rattle.rule_terms.specs.declared.raw.RawFormula.TheVariants.{Not}
use Rattle.rule_terms.specs.FormulaReaders.{opening_at}

module _ (limits : Limits) where
  pub member-turns : (nesting line inside : ℕ) (before : List RawFormula) (tokens : List Token) → Turns ≡ opening_at tokens → deeper line nesting ≡ Ok inside → member_at limits nesting line before tokens ≡ turns_at (member_at limits inside line) before (drop 1 tokens)
  unfolding member_at
  member-turns zero line inside before tokens o e = absurd cc
  member-turns (suc n) line inside before tokens o e = rw (← o) (ap (λ (k : ℕ). turns_at (member_at limits k line) before (drop 1 tokens)) (ok_is n inside e))

  pub member-encloses : (nesting line inside : ℕ) (before : List RawFormula) (tokens : List Token) → Encloses ≡ opening_at tokens → deeper line nesting ≡ Ok inside → member_at limits nesting line before tokens ≡ encloses_at line (member_at limits inside line) before (drop 1 tokens)
  unfolding member_at
  member-encloses zero line inside before tokens o e = absurd cc
  member-encloses (suc n) line inside before tokens o e = rw (← o) (ap (λ (k : ℕ). encloses_at line (member_at limits k line) before (drop 1 tokens)) (ok_is n inside e))

  pub member-tests : (nesting line : ℕ) (predicate : Predicate) (before : List RawFormula) (tokens : List Token) → Tests predicate ≡ opening_at tokens → member_at limits nesting line before tokens ≡ tests_at limits predicate nesting line before (drop 1 tokens)
  unfolding member_at
  member-tests zero line predicate before tokens o = rw (← o) refl
  member-tests (suc n) line predicate before tokens o = rw (← o) refl

  pub member-compares : (nesting line : ℕ) (before : List RawFormula) (tokens : List Token) → Compares ≡ opening_at tokens → member_at limits nesting line before tokens ≡ compares_at limits nesting line before tokens
  unfolding member_at
  member-compares zero line before tokens o = rw (← o) refl
  member-compares (suc n) line before tokens o = rw (← o) refl

  -- no level of nesting is left
  pub turns-too_deep : (nesting line : ℕ) (before : List RawFormula) (tokens : List Token) (f : RuleFault) → Turns ≡ opening_at tokens → deeper line nesting ≡ Err f → member_at limits nesting line before tokens ≡ Err f
  unfolding member_at
  turns-too_deep zero line before tokens f o e = rw (← o) cc
  turns-too_deep (suc n) line before tokens f o e = absurd cc

  pub encloses-too_deep : (nesting line : ℕ) (before : List RawFormula) (tokens : List Token) (f : RuleFault) → Encloses ≡ opening_at tokens → deeper line nesting ≡ Err f → member_at limits nesting line before tokens ≡ Err f
  unfolding member_at
  encloses-too_deep zero line before tokens f o e = rw (← o) cc
  encloses-too_deep (suc n) line before tokens f o e = absurd cc

  -- ---- what a member gives, from what is read inside it

  pub turned-fault : (nesting line inside : ℕ) (before : List RawFormula) (tokens behind : List Token) (e : RuleError) → Turns ≡ opening_at tokens → deeper line nesting ≡ Ok inside → behind ≡ drop 1 tokens
      → Fails e (member_at limits inside line before behind) → Fails e (member_at limits nesting line before tokens)
  turned-fault nesting line inside before tokens behind NoMemory o d b h = tt
  turned-fault nesting line inside before tokens behind (Refused f) o d b h = rw (member-turns nesting line inside before tokens o d, ← b, h) refl

  pub turned : (nesting line inside : ℕ) (before : List RawFormula) (tokens behind : List Token) (x : List RawFormula × List Token) → Turns ≡ opening_at tokens → deeper line nesting ≡ Ok inside → behind ≡ drop 1 tokens
      → member_at limits inside line before behind ≡ Ok x → member_at limits nesting line before tokens ≡ Ok (x.0 ++ Not (last_place (length x.0)) ∷ [], x.1)
  turned nesting line inside before tokens behind x o d b h = rw (member-turns nesting line inside before tokens o d, ← b, h) refl

  pub enclosed-fault : (nesting line inside : ℕ) (before : List RawFormula) (tokens behind : List Token) (e : RuleError) → Encloses ≡ opening_at tokens → deeper line nesting ≡ Ok inside → behind ≡ drop 1 tokens
      → Fails e (alternatives_of (member_at limits inside line) before behind) → Fails e (member_at limits nesting line before tokens)
  enclosed-fault nesting line inside before tokens behind NoMemory o d b h = tt
  enclosed-fault nesting line inside before tokens behind (Refused f) o d b h = rw (member-encloses nesting line inside before tokens o d, ← b, h) refl

  pub enclosed : (nesting line inside : ℕ) (before : List RawFormula) (tokens behind : List Token) (x : List RawFormula × List Token) (closed : Result (List Token) RuleFault) → Encloses ≡ opening_at tokens → deeper line nesting ≡ Ok inside → behind ≡ drop 1 tokens
      → alternatives_of (member_at limits inside line) before behind ≡ Ok x → mark_at (codes ")") line x.1 ≡ closed → member_at limits nesting line before tokens ≡ (closed >>= λ rest. Ok (x.0, rest))
  enclosed nesting line inside before tokens behind x closed o d b h m = rw (member-encloses nesting line inside before tokens o d, ← b, h, m) refl
