-- What the parsers of small parts do: of types, of the end of a line, and of chains by a mark.
use Rattle.rule_viable_prefixes.proofs.Common.{◌≡◌, ℕ, zero, suc, ◌<◌, ◌≤◌, Bool, true, false, List, [], ◌∷◌, ◌++◌, length, Option, Some, None, Result, Ok, Err, refl, sym, ap, subst, arith, inr, codes, drop, bytes_eq, is_digit, Syntax, Refused, RuleFault, ◌>>=◌, type_in, Part, Nothing, ◌⨾◌, fault, unexpected, misplaced_word, type_at, line_end, SpellsType, Token, Line, Word, Mark, EndsLine, line_end-of, type_in-is, next_is, next_is-is, Fitting, NounFits, Limits}
use Rattle.rule_terms.specs.Chains.{Reader as Behind, chain_at}
use Rattle.rule_terms.proofs.ChainLemmas.{Shortens, chain-more, chain-fault, chain-done}
use Rattle.rule_viable_prefixes.specs.Misfits as kinds
use Rattle.rule_viable_prefixes.proofs.Nouns.{noun_other}
use Rattle.rule_viable_prefixes.proofs.Outcomes.{Lack, Akin, same_next, noun_next, ended_next, Takes, Alike, same, ended, Spelling, Sample, Shape, pair, bare, Reader, IsErrOn, Outcome, Good, then_at, then, refused_here, passed, led, Branch, takes, refuses, by_token, with_none, then_done}
use Rattle.rule_viable_prefixes.proofs.Tolds.{says_misplaced, says_unexpected}

module _ (limits : Limits) where
  -- ---- parts, whatever value they spell

  abbrev pub Spelled : Part → {A : Type 0} → Spelling limits A
  Spelled P x own = P own

  pub then_seq : {A B X Y : Type 0} {s : Shape limits A X} {t : Shape limits B Y} {R : Reader limits X} (S : X → Result Y RuleFault) {P Q : Part} {line : ℕ} → Good limits s R (Spelled P) line → ((x : A) → Good limits t (λ ts. S (s x ts)) (Spelled Q) line) → Good limits t (λ ts. R ts >>= S) (Spelled (P ⨾ Q)) line
  then_seq {A} {B} {X} {Y} {s} {t} {R} S {P} {Q} {line} one two = then limits {s = s} {t = t} {R = R} S {L = Spelled P} {M = λ x. Spelled Q} {N = Spelled (P ⨾ Q)} (λ x y front back p q. (front, back, p, q, refl)) one two

  -- ---- the end of the line

  pub ends_alike : (tokens more : List Token) → Alike tokens more → EndsLine tokens → EndsLine more
  ends_alike tokens more (same (Line number) a b) ends = tt
  ends_alike tokens more (same token a b) ends = absurd ends
  ends_alike tokens more (ended a b p q) ends = q

  pub ends_akin : (tokens more : List Token) → Akin tokens more → EndsLine tokens → EndsLine more
  ends_akin tokens more (same_next (Line number) a b) ends = tt
  ends_akin tokens more (same_next token a b) ends = absurd ends
  ends_akin tokens more (noun_next word noun a b is) ends = absurd ends
  ends_akin tokens more (ended_next a b p q) ends = q

  -- where a token that isn't the end of the line is next, it is next in all tokens with the same lookahead
  only_same : {X : Type 0} (R : Reader limits X) (fits : Fitting) (none : List ℕ → Type 0) (line : ℕ) (token : Token) (rest : List Token) → (EndsLine (token ∷ rest) → ⊥) → ((more : List Token) → IsErrOn limits fits none line (token ∷ more) (R (token ∷ more)))
      → (more : List Token) → Alike (token ∷ rest) more → IsErrOn limits fits none line more (R more)
  only_same R fits none line token rest going h more (same t a b) = h b
  only_same R fits none line token rest going h more (ended a b p q) = absurd (going p)

  -- the first token is refused, whatever is behind it
  pub refused_token : {A X : Type 0} (shape : Shape limits A X) (R : Reader limits X) (L : Spelling limits A) (line : ℕ) (token : Token) (rest : List Token) → Sample limits L → (EndsLine (token ∷ rest) → ⊥)
      → ((more : List Token) → IsErrOn limits (Takes limits L []) (Lack limits R []) line (token ∷ more) (R (token ∷ more))) → Outcome limits shape R L line (token ∷ rest) (R (token ∷ rest))
  refused_token shape R L line token rest sample going h = refused_here limits shape R L line (token ∷ rest) sample (only_same R (Takes limits L []) (Lack limits R []) line token rest going h)

  pub line_end_good : (line : ℕ) → Good limits (bare limits) (line_end line) (Spelled Nothing) line
  line_end_good line = record { sample = (tt, [], refl); outcome = outcome }
    where
      ending : (tokens : List Token) → EndsLine tokens → Outcome limits (bare limits) (line_end line) (Spelled Nothing) line tokens (line_end line tokens)
      ending tokens ends = passed limits (bare limits) (line_end line) (Spelled Nothing) line tokens tt refl (λ more alike. line_end-of line more (ends_akin tokens more alike ends))

      outcome : (tokens : List Token) → Outcome limits (bare limits) (line_end line) (Spelled Nothing) line tokens (line_end line tokens)
      outcome [] = ending [] tt
      outcome (Line number ∷ rest) = ending (Line number ∷ rest) tt
      outcome (token ∷ rest) = refused_token (bare limits) (line_end line) (Spelled Nothing) line token rest (tt, [], refl) (λ p. p) (λ more. (unexpected line (token ∷ more), refl, refl, says_unexpected limits line token more (λ word is. inr (inr (λ noun is_noun others. (unexpected line (Word noun ∷ others), refl))))))

  -- a part, and behind it the end of the line
  pub then_end : {A B : Type 0} {R : Reader limits (A × List Token)} (S : A × List Token → Result (B × List Token) RuleFault) {P : Part} {line : ℕ} (f : A → B)
      → ((x : A) (rest : List Token) → S (x, rest) ≡ (line_end line rest >>= λ behind. Ok (f x, behind))) → Good limits (pair limits) R (Spelled P) line → Good limits (pair limits) (λ ts. R ts >>= S) (Spelled P) line
  then_end {A} {B} {R} S {P} {line} f is good =
      then limits {s = (pair limits)} {t = (pair limits)} {R = R} S {L = Spelled P} {M = λ x. Spelled Nothing} {N = Spelled P} (λ x y front back p none. with_none limits P front back none p) good
      (λ x. as_ends x (λ rest. is x rest))
    where
      as_ends : (x : A) → ((rest : List Token) → S (x, rest) ≡ (line_end line rest >>= λ behind. Ok (f x, behind))) → Good limits (pair limits) (λ ts. S (x, ts)) (Spelled Nothing) line
      as_ends x h =
          let good = then_done limits {s = (bare limits)} {L = Spelled Nothing} {N = Spelled Nothing} (λ u. f x) (λ behind. Ok (f x, behind)) (λ u rest. refl) (λ u own none. none) (line_end_good line) in
          record {
            sample = (f x, [], refl);
            outcome = λ tokens. Rattle.rule_viable_prefixes.proofs.Outcomes.same_as limits (pair limits) (λ ts. S (x, ts)) (λ ts. line_end line ts >>= λ behind. Ok (f x, behind)) (Spelled Nothing) line tokens h (good.outcome tokens);
          }

  -- ---- types

  abbrev pub IsType : Part
  IsType own = (width : ℕ) × SpellsType width own

  type_fits : NounFits (Takes limits (Spelled IsType {A = ℕ}) [])
  unfolding type_in is_digit
  type_fits =
      let written = type_in-is (codes "i8") 8 refl in
      (codes "i8", kinds.type 8 written, (8, [], (8, (codes "i8", written, refl))))

  type_branch : (line : ℕ) (token : Token) → Branch limits (pair limits) (type_at line) (Spelled IsType) line token
  unfolding type_at
  type_branch line (Word word) = by (type_in word) refl
    where
      by : (found : Option ℕ) → type_in word ≡ found → Branch limits (pair limits) (type_at line) (Spelled IsType) line (Word word)
      by (Some width) t = takes width (noun_other word (kinds.type width (type_in-is word width t))) (width, (word, type_in-is word width t, refl)) (λ more. rw t refl)
      by None t = refuses (λ more. (misplaced_word line word, rw t refl, refl, says_misplaced limits type_fits line word more))
  type_branch line token = refuses (λ more. (unexpected line (token ∷ more), refl, refl, says_unexpected limits line token more (λ word is. absurd cc)))

  pub type_good : (line : ℕ) → Good limits (pair limits) (type_at line) (Spelled IsType) line
  unfolding type_at type_in is_digit
  type_good line = by_token limits (8, Word (codes "i8") ∷ [], (8, (codes "i8", type_in-is (codes "i8") 8 refl, refl))) (type_branch line) (fault line Syntax, refl, refl, refl)

  -- ---- chains of parts by a mark

  -- how the parts behind the mark spell the chain
  pub record Joined (mark : List ℕ) (P G : Part) : Type 0 where
    pub none : G []
    pub more : (front back : List Token) → P front → G back → G (Mark mark ∷ front ++ back)

  no_next : (mark : List ℕ) (tokens more : List Token) → Akin tokens more → next_is mark tokens ≡ false → next_is mark more ≡ false
  no_next mark tokens more (same_next (Mark found) a b) none = none
  no_next mark tokens more (same_next token a b) none = refl
  no_next mark tokens more (noun_next word noun a b is) none = refl
  no_next mark tokens more (ended_next a [] p q) none = refl
  no_next mark tokens more (ended_next a (Line number ∷ b) p q) none = refl
  no_next mark tokens more (ended_next a b p q) none = absurd q

  chain_step : {A : Type 0} (mark : List ℕ) (part : Behind A) (before : A) (more : List Token) → Shortens part → bytes_eq mark mark ≡ true → chain_at mark part before (Mark mark ∷ more) ≡ (part before more >>= λ x. chain_at mark part x.0 x.1)
  chain_step {A} mark part before more shortens is = by (part before more) refl
    where
      by : (r : Result (A × List Token) RuleFault) → part before more ≡ r → chain_at mark part before (Mark mark ∷ more) ≡ (r >>= λ x. chain_at mark part x.0 x.1)
      by (Ok x) e = chain-more part shortens mark before (Mark mark ∷ more) x is e
      by (Err f) e = chain-fault part mark before (Mark mark ∷ more) _ (Refused f) is e refl

  chain_by : {A : Type 0} (mark : List ℕ) (part : Behind A) (P G : Part) (line : ℕ) → bytes_eq mark mark ≡ true → Shortens part → Joined mark P G → ((before : A) → Good limits (pair limits) (part before) (Spelled P) line)
      → (before : A) (tokens : List Token) → ((b : A) (ts : List Token) → length ts < length tokens → Outcome limits (pair limits) (chain_at mark part b) (Spelled G) line ts (chain_at mark part b ts))
      → (found : Bool) → next_is mark tokens ≡ found → Outcome limits (pair limits) (chain_at mark part before) (Spelled G) line tokens (chain_at mark part before tokens)
  chain_by mark part P G line is shortens join good before tokens further false e =
      passed limits (pair limits) (chain_at mark part before) (Spelled G) line tokens before join.none (λ more alike. chain-done part mark before more (no_next mark tokens more alike e))
  chain_by mark part P G line is shortens join good before tokens further true e =
      let whole = next_is-is mark tokens e in
      subst (λ (ts : List Token). Outcome limits (pair limits) (chain_at mark part before) (Spelled G) line ts (chain_at mark part before ts)) (sym whole)
      (led limits (pair limits) (chain_at mark part before) (λ ts. part before ts >>= λ x. chain_at mark part x.0 x.1) (Spelled G) line (Mark mark) (drop 1 tokens) tt (λ more. chain_step mark part before more shortens is)
      (then_at limits (pair limits) (pair limits) (part before) (λ x. chain_at mark part x.0 x.1) (Spelled P) (λ x. Spelled G) (λ x own. G (Mark mark ∷ own)) line (drop 1 tokens)
      (λ x y front back p g. join.more front back p g) (λ x own p. (before, [], join.none)) ((good before).outcome (drop 1 tokens))
      (λ x rest r.
      let fewer : length rest ≤ length (drop 1 tokens) = shortens before (drop 1 tokens) (x, rest) r in
      further x rest (omega (arith, ap length whole)))))

  chain_outcome : {A : Type 0} (mark : List ℕ) (part : Behind A) (P G : Part) (line : ℕ) → bytes_eq mark mark ≡ true → Shortens part → Joined mark P G → ((before : A) → Good limits (pair limits) (part before) (Spelled P) line)
      → (fuel : ℕ) (before : A) (tokens : List Token) → length tokens < fuel → Outcome limits (pair limits) (chain_at mark part before) (Spelled G) line tokens (chain_at mark part before tokens)
  chain_outcome mark part P G line is shortens join good zero before tokens few = absurd (omega arith)
  chain_outcome mark part P G line is shortens join good (suc fuel) before tokens few =
      chain_by mark part P G line is shortens join good before tokens (λ b ts fewer. chain_outcome mark part P G line is shortens join good fuel b ts (omega arith)) (next_is mark tokens) refl

  pub chain_good : {A : Type 0} (mark : List ℕ) (part : Behind A) (P G : Part) (line : ℕ) → bytes_eq mark mark ≡ true → Shortens part → Joined mark P G → ((before : A) → Good limits (pair limits) (part before) (Spelled P) line) → (before : A) → Good limits (pair limits) (chain_at mark part before) (Spelled G) line
  chain_good mark part P G line is shortens join good before = record {
    sample = (before, [], join.none);
    outcome = λ tokens. chain_outcome mark part P G line is shortens join good (suc (length tokens)) before tokens (omega arith);
  }
