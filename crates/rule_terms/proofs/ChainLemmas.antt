-- Chains of parts joined by a mark: one part more.
use Rattle.rule_terms.proofs.Common.{◌≡◌, ℕ, zero, suc, ◌<◌, ◌≤◌, Bool, true, false, cond, List, [], ◌∷◌, length, drop, Result, Ok, Err, refl, sym, ap, subst, ◌∙◌, arith, RuleFault, RuleError, Refused, NoMemory, Fails, ◌>>=◌, Read, Token, Mark, mark_is, next_is, chain_of}
use Rattle.rule_terms.specs.Chains.{Reader, chain_at}

pub next_is-is : (mark : List ℕ) (tokens : List Token) → next_is mark tokens ≡ true → tokens ≡ Mark mark ∷ drop 1 tokens
next_is-is mark (Mark found ∷ tokens) e = mark_is mark found tokens e
next_is-is mark tokens e = absurd cc

-- the parser leaves no more tokens than there were
abbrev pub Shortens : {A : Type 0} → Reader A → Type 0
Shortens {A} part = (before : A) (tokens : List Token) (x : A × List Token) → part before tokens ≡ Ok x → length x.1 ≤ length tokens

same_behind : {A B : Type 0} (r : Result A RuleFault) (f g : A → Result B RuleFault) → ((x : A) → r ≡ Ok x → f x ≡ g x) → (r >>= f) ≡ (r >>= g)
same_behind (Ok x) f g h = h x refl
same_behind (Err e) f g h = refl

cond_same : {A : Type 0} (b : Bool) (x y z : A) → x ≡ y → cond b x z ≡ cond b y z
cond_same true x y z e = e
cond_same false x y z e = refl

-- a bound of as many parts as there are tokens makes no difference
chain_enough : {A : Type 0} (part : Reader A) → Shortens part → (mark : List ℕ) (n m : ℕ) (before : A) (tokens : List Token) → length tokens ≤ n → length tokens ≤ m → chain_of n mark part before tokens ≡ chain_of m mark part before tokens
unfolding chain_of
chain_enough part short mark zero zero before tokens p q = refl
chain_enough part short mark zero (suc m) before [] p q = refl
chain_enough part short mark (suc n) zero before [] p q = refl
chain_enough part short mark zero (suc m) before (token ∷ tokens) p q = absurd (omega arith)
chain_enough part short mark (suc n) zero before (token ∷ tokens) p q = absurd (omega arith)
chain_enough part short mark (suc n) (suc m) before [] p q = refl
chain_enough part short mark (suc n) (suc m) before (token ∷ tokens) p q =
    cond_same (next_is mark (token ∷ tokens)) _ _ _
    (same_behind (part before tokens) _ _ (λ x e.
    let fewer : length x.1 ≤ length tokens = short before tokens x e in
    chain_enough part short mark n m x.0 x.1 (omega arith) (omega arith)))

-- one part behind the mark, and the rest of the chain
pub chain-more : {A : Type 0} (part : Reader A) → Shortens part → (mark : List ℕ) (before : A) (tokens : List Token) (x : A × List Token) → next_is mark tokens ≡ true → part before (drop 1 tokens) ≡ Ok x → chain_at mark part before tokens ≡ chain_at mark part x.0 x.1
unfolding chain_of
chain-more part short mark before [] x next e = absurd cc
chain-more part short mark before (token ∷ tokens) x next e =
    let fewer : length x.1 ≤ length tokens = short before tokens x e in
    rw (next, e) (chain_enough part short mark (length tokens) (length x.1) x.0 x.1 fewer (omega arith))

pub chain-fault : {A : Type 0} (part : Reader A) (mark : List ℕ) (before : A) (tokens : List Token) (total : Read A) (e : RuleError) → next_is mark tokens ≡ true → Fails e (part before (drop 1 tokens)) → chain_at mark part before tokens ≡ total → Fails e total
unfolding chain_of
chain-fault part mark before tokens total NoMemory next fails so_far = tt
chain-fault part mark before [] total (Refused f) next fails so_far = absurd cc
chain-fault part mark before (token ∷ tokens) total (Refused f) next fails so_far =
    let one : chain_at mark part before (token ∷ tokens) ≡ Err f = rw (next, fails) refl in sym so_far ∙ one

pub chain-done : {A : Type 0} (part : Reader A) (mark : List ℕ) (before : A) (tokens : List Token) → next_is mark tokens ≡ false → chain_at mark part before tokens ≡ Ok (before, tokens)
unfolding chain_of
chain-done part mark before [] none = refl
chain-done part mark before (token ∷ tokens) none = rw none refl

-- ---- loops that take the mark as long as it is next

taken_drops : (tokens behind : List Token) (taken : Bool) → taken ≡ true → behind ≡ cond taken (drop 1 tokens) tokens → behind ≡ drop 1 tokens
taken_drops tokens behind true t goes = goes
taken_drops tokens behind false t goes = absurd cc

pub taken-more : {A : Type 0} (part : Reader A) → Shortens part → (mark : List ℕ) (before after : A) (tokens behind rest : List Token) (taken : Bool) (total : Read A) → taken ≡ next_is mark tokens → taken ≡ true → behind ≡ cond taken (drop 1 tokens) tokens → part before behind ≡ Ok (after, rest)
    → chain_at mark part before tokens ≡ total → chain_at mark part after rest ≡ total
taken-more part short mark before after tokens behind rest taken total is t goes read so_far =
    let next : next_is mark tokens ≡ true = sym is ∙ t in
    let one : part before (drop 1 tokens) ≡ Ok (after, rest) = ap (part before) (sym (taken_drops tokens behind taken t goes)) ∙ read in
    sym (chain-more part short mark before tokens (after, rest) next one) ∙ so_far

pub taken-fault : {A : Type 0} (part : Reader A) (mark : List ℕ) (before : A) (tokens behind : List Token) (taken : Bool) (total : Read A) (e : RuleError) → taken ≡ next_is mark tokens → taken ≡ true → behind ≡ cond taken (drop 1 tokens) tokens → Fails e (part before behind)
    → chain_at mark part before tokens ≡ total → Fails e total
taken-fault part mark before tokens behind taken total e is t goes fails so_far =
    chain-fault part mark before tokens total e (sym is ∙ t) (subst (λ (ts : List Token). Fails e (part before ts)) (taken_drops tokens behind taken t goes) fails) so_far

pub taken-done : {A : Type 0} (part : Reader A) (mark : List ℕ) (before : A) (tokens behind : List Token) (taken : Bool) (total : Read A) → taken ≡ next_is mark tokens → taken ≡ false → behind ≡ cond taken (drop 1 tokens) tokens → chain_at mark part before tokens ≡ total → total ≡ Ok (before, behind)
taken-done part mark before tokens behind true total is t goes so_far = absurd cc
taken-done part mark before tokens behind false total is t goes so_far = sym so_far ∙ chain-done part mark before tokens (sym is) ∙ ap (λ (ts : List Token). Ok (before, ts)) (sym goes)

pub taken-smaller : {A : Type 0} (part : Reader A) → Shortens part → (mark : List ℕ) (before after : A) (tokens behind rest : List Token) (taken : Bool) → taken ≡ next_is mark tokens → taken ≡ true → behind ≡ cond taken (drop 1 tokens) tokens → part before behind ≡ Ok (after, rest) → length rest < length tokens
taken-smaller part short mark before after tokens behind rest taken is t goes read =
    let fewer : length rest ≤ length behind = short before behind (after, rest) read in
    omega (arith, ap length (taken_drops tokens behind taken t goes), ap length (next_is-is mark tokens (sym is ∙ t)))
