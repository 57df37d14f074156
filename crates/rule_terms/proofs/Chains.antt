-- The loops that read operators of one level.
use Rattle.rule_terms.proofs.Common.{◌≡◌, ℕ, zero, suc, ◌<◌, List, length, Option, Some, None, Result, Ok, Err, refl, sym, ap, ◌∙◌, arith, Opcode, RuleFault, RuleError, Refused, NoMemory, Fails, Gives, ◌>>=◌, Read, Token, TermPlace, RawNode, Start, start_at, operator_at, join, joined_or_end, whole_chain_at, behind_at, operand_at, shallow_in, primary_at, Limits}
use Rattle.rule_terms.specs.TermReaders.{Reader, chain_at, begun_at}
use Rattle.rule_terms.proofs.Meanings.{operator_at-is}

module _ (limits : Limits) where
  -- the parser leaves fewer tokens than there were
  abbrev pub Shortens : Reader → Type 0
  Shortens read = (before : List RawNode) (tokens : List Token) (x : List RawNode × List Token) → read before tokens ≡ Ok x → length x.1 < length tokens

  same_behind : {A B : Type 0} (r : Result A RuleFault) (f g : A → Result B RuleFault) → ((x : A) → r ≡ Ok x → f x ≡ g x) → (r >>= f) ≡ (r >>= g)
  same_behind (Ok x) f g h = h x refl
  same_behind (Err e) f g h = refl

  joined_same : (operand : Reader) (level : ℕ) (f g : Reader) (left : List RawNode) (tokens : List Token) → Shortens operand → (found : Option (Opcode × List Token)) → operator_at level tokens ≡ found
      → ((ls : List RawNode) (ts : List Token) → length ts < length tokens → f ls ts ≡ g ls ts) → joined_or_end operand f left tokens found ≡ joined_or_end operand g left tokens found
  joined_same operand level f g left tokens short None is same = refl
  joined_same operand level f g left tokens short (Some next) is same =
      let n = operator_at-is level tokens next is in
      same_behind (operand left next.1) _ _ (λ both e.
      let fewer : length both.1 < length next.1 = short left next.1 both e in
      same (join next.0 left both.0) both.1 (omega (arith, ap length n.whole)))

  -- a bound above the number of tokens makes no difference
  chain_enough : (operand : Reader) (level n m : ℕ) (left : List RawNode) (tokens : List Token) → Shortens operand → length tokens < n → length tokens < m → chain_at operand level n left tokens ≡ chain_at operand level m left tokens
  unfolding chain_at
  chain_enough operand level zero m left tokens short p q = absurd (omega arith)
  chain_enough operand level (suc n) zero left tokens short p q = absurd (omega arith)
  chain_enough operand level (suc n) (suc m) left tokens short p q =
      joined_same operand level (λ ls ts. chain_at operand level n ls ts) (λ ls ts. chain_at operand level m ls ts) left tokens short (operator_at level tokens) refl
      (λ ls ts fewer. chain_enough operand level n m ls ts short (omega arith) (omega arith))

  pub chain-more : (operand : Reader) (level : ℕ) (left : List RawNode) (tokens : List Token) (next : Opcode × List Token) (both : List RawNode × List Token) → Shortens operand → operator_at level tokens ≡ Some next → operand left next.1 ≡ Ok both
      → whole_chain_at operand level left tokens ≡ whole_chain_at operand level (join next.0 left both.0) both.1
  unfolding chain_at
  chain-more operand level left tokens next both short found e =
      let is = operator_at-is level tokens next found in
      let fewer : length both.1 < length next.1 = short left next.1 both e in
      rw (found, e) (chain_enough operand level (length tokens) (suc (length both.1)) (join next.0 left both.0) both.1 short (omega (arith, ap length is.whole)) (omega arith))

  pub chain-fault : (operand : Reader) (level : ℕ) (left : List RawNode) (tokens : List Token) (next : Opcode × List Token) (total : Read (List RawNode)) (e : RuleError) → operator_at level tokens ≡ Some next → Fails e (operand left next.1) → whole_chain_at operand level left tokens ≡ total → Fails e total
  unfolding chain_at
  chain-fault operand level left tokens next total NoMemory found fails so_far = tt
  chain-fault operand level left tokens next total (Refused f) found fails so_far =
      let one : whole_chain_at operand level left tokens ≡ Err f = rw (found, fails) refl in sym so_far ∙ one

  pub chain-done : (operand : Reader) (level : ℕ) (left : List RawNode) (tokens : List Token) → operator_at level tokens ≡ None → whole_chain_at operand level left tokens ≡ Ok (left, tokens)
  unfolding chain_at
  chain-done operand level left tokens none = rw none refl

  -- ---- one level of operators more, and one level of nesting more

  pub behind_at-tightest : (primary : Reader) (level : ℕ) (left : List RawNode) (tokens : List Token) → level ≡ 0 → behind_at primary level left tokens ≡ Ok (left, tokens)
  unfolding behind_at
  behind_at-tightest primary zero left tokens e = refl
  behind_at-tightest primary (suc level) left tokens e = absurd (omega arith)

  pub behind_at-step : (primary : Reader) (level : ℕ) (left : List RawNode) (tokens : List Token) (tighter : ℕ) → level ≡ suc tighter → behind_at primary level left tokens ≡ (behind_at primary tighter left tokens >>= λ first. whole_chain_at (operand_at primary tighter) level first.0 first.1)
  unfolding behind_at
  behind_at-step primary level left tokens tighter e = rw e refl

  pub behind-begun : (primary : Reader) (level : ℕ) (left : List RawNode) (tokens : List Token) (tighter : ℕ) (first : List RawNode × List Token) → level ≡ suc tighter → behind_at primary tighter left tokens ≡ Ok first → whole_chain_at (operand_at primary tighter) level first.0 first.1 ≡ behind_at primary level left tokens
  behind-begun primary level left tokens tighter first more e = rw (behind_at-step primary level left tokens tighter more, e) refl

  pub behind-fault : (primary : Reader) (level : ℕ) (left : List RawNode) (tokens : List Token) (tighter : ℕ) (e : RuleError) → level ≡ suc tighter → Fails e (behind_at primary tighter left tokens) → Fails e (behind_at primary level left tokens)
  behind-fault primary level left tokens tighter NoMemory more fails = tt
  behind-fault primary level left tokens tighter (Refused f) more fails = rw (behind_at-step primary level left tokens tighter more, fails) refl

  pub primary-fault : (place : TermPlace) (line nesting : ℕ) (before : List RawNode) (tokens : List Token) (e : RuleError) → Fails e (start_at limits place line tokens) → Fails e (primary_at limits place line nesting before tokens)
  unfolding primary_at
  primary-fault place line nesting before tokens NoMemory fails = tt
  primary-fault place line zero before tokens (Refused f) fails = rw fails refl
  primary-fault place line (suc nesting) before tokens (Refused f) fails = rw fails refl

  pub primary-begun : (place : TermPlace) (line nesting : ℕ) (before : List RawNode) (tokens : List Token) (left : ℕ) (start : Start) (rest : List Token) → nesting ≡ suc left → start_at limits place line tokens ≡ Ok (start, rest) → primary_at limits place line nesting before tokens ≡ begun_at limits line (primary_at limits place line left) before start rest
  unfolding primary_at
  primary-begun place line nesting before tokens left start rest more e = rw (more, e) refl

  -- what an operand gives where no level of nesting is left
  pub primary-shallow : {X : Type 0} (place : TermPlace) (line nesting : ℕ) (before after : List RawNode) (tokens : List Token) (start : Start) (rest : List Token) (r : Result X RuleError) → nesting ≡ 0 → start_at limits place line tokens ≡ Ok (start, rest) → Gives (λ _. after) r (shallow_in line before start)
      → Gives (λ _. (after, rest)) r (primary_at limits place line nesting before tokens)
  unfolding primary_at
  primary-shallow place line nesting before after tokens start rest (Ok x) none e gives = rw (none, e, gives) refl
  primary-shallow place line nesting before after tokens start rest (Err NoMemory) none e gives = tt
  primary-shallow place line nesting before after tokens start rest (Err (Refused f)) none e gives = rw (none, e, gives) refl
