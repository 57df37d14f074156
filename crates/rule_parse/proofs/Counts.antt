-- The tokens with the limit end with the first one with which more than 256 count in a rule.
use Rattle.rule_parse.proofs.Common.{◌≡◌, ℕ, zero, suc, ◌+◌, ◌≤◌, Bool, true, false, List, [], ◌∷◌, ◌++◌, Option, Some, None, inl, inr, refl, sym, ap, subst, ◌∙◌, arith, ◌⊎◌, ◌||◌, if◌then◌else◌, list_any, Token, Line, counted, last_rule, counted_at_end, IsWithinLimit, IsCut, TokensAreKeptUpToTheLimit, is_counted, ends_before_line, begins_rule, one_less, room_behind, or_excess, limited_to, most_nodes}
use Rattle.rule_tokens.specs.Tokens.{Excess}

-- ---- counting token by token

-- the count behind a token, where it was n before: a token that begins a rule sets it to 0
abbrev counted_behind : Bool → Bool → ℕ → ℕ
counted_behind head counts n = if head then 0 else ((if counts then 1 else 0) + n)

-- the count in the last rule behind these tokens, where it was n before
abbrev counted_along : ℕ → Bool → List Token → ℕ
counted_along n begins [] = n
counted_along n begins (token ∷ tokens) = counted_along (counted_behind (begins_rule token) (is_counted begins token) n) (ends_before_line token) tokens

abbrev counted_from : Bool → List Token → ℕ
counted_from begins [] = 0
counted_from begins (token ∷ tokens) = (if is_counted begins token then 1 else 0) + counted_from (ends_before_line token) tokens

from-counted : (number : ℕ) (tokens : List Token) → (counted_from false tokens ≡ counted tokens) × (counted_from true tokens ≡ counted (Line number ∷ tokens))
from-counted number [] = (refl, refl)
from-counted number (Line m ∷ tokens) = let more = from-counted m tokens in (omega (arith, more.1), omega (arith, more.1))
from-counted number (token ∷ tokens) = let more = from-counted number tokens in (omega (arith, more.0), omega (arith, more.0))

head-ends : (token : Token) → begins_rule token ≡ true → ends_before_line token ≡ false
head-ends (Line number) e = absurd cc
head-ends token e = refl

no-rule : (tokens : List Token) → list_any begins_rule tokens ≡ false → last_rule tokens ≡ tokens
no-rule [] none = refl
no-rule (token ∷ tokens) none = first (begins_rule token) (list_any begins_rule tokens) none
  where
    first : (head some : Bool) → (head || some) ≡ false → (if some then last_rule tokens else (if head then tokens else token ∷ tokens)) ≡ token ∷ tokens
    first true some e = absurd cc
    first false true e = absurd cc
    first false false e = refl

along-step : (n : ℕ) (begins : Bool) (token : Token) (tokens : List Token) (head some : Bool) → begins_rule token ≡ head
    → (if some then counted (last_rule tokens) else counted_behind head (is_counted begins token) n + counted_from (ends_before_line token) tokens)
    ≡ (if (head || some) then counted (if some then last_rule tokens else (if head then tokens else token ∷ tokens)) else n + counted_from begins (token ∷ tokens))
along-step n begins token tokens true true is = refl
along-step n begins token tokens false true is = refl
along-step n begins token tokens true false is =
    let more : counted_from false tokens ≡ counted tokens = (from-counted 0 tokens).0 in
    rw (head-ends token is) (omega (arith, more))
along-step n begins token tokens false false is = omega arith

along : (n : ℕ) (begins : Bool) (tokens : List Token) → counted_along n begins tokens ≡ (if list_any begins_rule tokens then counted (last_rule tokens) else n + counted_from begins tokens)
along n begins [] = omega arith
along n begins (token ∷ tokens) =
    along (counted_behind (begins_rule token) (is_counted begins token) n) (ends_before_line token) tokens
    ∙ along-step n begins token tokens (begins_rule token) (list_any begins_rule tokens) refl

along-is : (tokens : List Token) → counted_along 0 false tokens ≡ counted_at_end tokens
along-is tokens = along 0 false tokens ∙ whole (list_any begins_rule tokens) refl
  where
    whole : (some : Bool) → list_any begins_rule tokens ≡ some → (if some then counted (last_rule tokens) else 0 + counted_from false tokens) ≡ counted_at_end tokens
    whole true is = refl
    whole false is =
        let more : counted_from false tokens ≡ counted tokens = (from-counted 0 tokens).0 in
        let same : counted_at_end tokens ≡ counted tokens = ap counted (no-rule tokens is) in
        omega (arith, more, same)

-- ---- where the limit is passed, from a count on

abbrev IsWithinFrom : ℕ → Bool → List Token → Type 0
IsWithinFrom n begins tokens = (front back : List Token) → tokens ≡ front ++ back → counted_along n begins front ≤ most_nodes

record IsCutFrom (n : ℕ) (begins : Bool) (tokens kept : List Token) : Type 0 where
  front : List Token
  token : Token
  rest : List Token
  whole : tokens ≡ front ++ token ∷ rest
  within : IsWithinFrom n begins front
  full : counted_along n begins front ≡ most_nodes
  passed : counted_along n begins (front ++ token ∷ []) ≡ most_nodes + 1
  cut : kept ≡ front ++ token ∷ Excess ∷ []

abbrev IsKeptFrom : ℕ → Bool → List Token → List Token → Type 0
IsKeptFrom n begins tokens kept = (IsWithinFrom n begins tokens × (kept ≡ tokens)) ⊎ IsCutFrom n begins tokens kept

nothing-within : (n : ℕ) (begins : Bool) → n ≤ most_nodes → IsWithinFrom n begins []
nothing-within n begins le [] back e = le
nothing-within n begins le (token ∷ front) back e = absurd cc

one-within : (n : ℕ) (begins : Bool) (token : Token) (tokens : List Token) → n ≤ most_nodes
    → IsWithinFrom (counted_behind (begins_rule token) (is_counted begins token) n) (ends_before_line token) tokens → IsWithinFrom n begins (token ∷ tokens)
one-within n begins token tokens le within [] back e = le
one-within n begins token tokens le within (t ∷ front) back e =
    let same : token ≡ t = cc in
    let others : tokens ≡ front ++ back = cc in
    subst (λ (x : Token). counted_along n begins (x ∷ front) ≤ most_nodes) same (within front back others)

one-kept : (n : ℕ) (begins : Bool) (token : Token) (tokens kept : List Token) → n ≤ most_nodes
    → IsKeptFrom (counted_behind (begins_rule token) (is_counted begins token) n) (ends_before_line token) tokens kept → IsKeptFrom n begins (token ∷ tokens) (token ∷ kept)
one-kept n begins token tokens kept le (inl (within, same)) = inl (one-within n begins token tokens le within, ap (λ (ts : List Token). token ∷ ts) same)
one-kept n begins token tokens kept le (inr c) =
    inr (record {
      front = token ∷ c.front;
      token = c.token;
      rest = c.rest;
      whole = ap (λ (ts : List Token). token ∷ ts) c.whole;
      within = one-within n begins token c.front le c.within;
      full = c.full;
      passed = c.passed;
      cut = ap (λ (ts : List Token). token ∷ ts) c.cut;
    })

-- what is left of the room: the count behind the token and the room add up to the limit, or the token passed it
abbrev Leaves : ℕ → ℕ → Option ℕ → Type 0
Leaves n more None = (n ≡ most_nodes) × (more ≡ most_nodes + 1)
Leaves n more (Some left) = more + left ≡ most_nodes

leaves : (head counts : Bool) (n room : ℕ) → n + room ≡ most_nodes
    → Leaves n (counted_behind head counts n) (if head then Some most_nodes else (if counts then one_less room else Some room))
leaves true counts n room e = refl
leaves false true n zero e = (omega arith, omega arith)
leaves false true n (suc room) e = omega arith
leaves false false n room e = omega arith

one-limited : (n : ℕ) (begins : Bool) (token : Token) (tokens : List Token) (found : Option ℕ) → n ≤ most_nodes
    → Leaves n (counted_behind (begins_rule token) (is_counted begins token) n) found
    → ((left : ℕ) → counted_behind (begins_rule token) (is_counted begins token) n + left ≡ most_nodes
    → IsKeptFrom (counted_behind (begins_rule token) (is_counted begins token) n) (ends_before_line token) tokens (limited_to left (ends_before_line token) tokens))
    → IsKeptFrom n begins (token ∷ tokens) (or_excess token found (λ left. limited_to left (ends_before_line token) tokens))
one-limited n begins token tokens None le (full, passed) behind =
    inr (record { front = []; token = token; rest = tokens; whole = refl; within = nothing-within n begins le; full = full; passed = passed; cut = refl })
one-limited n begins token tokens (Some left) le fits behind = one-kept n begins token tokens (limited_to left (ends_before_line token) tokens) le (behind left fits)

all-limited : (room n : ℕ) (begins : Bool) (tokens : List Token) → n + room ≡ most_nodes → IsKeptFrom n begins tokens (limited_to room begins tokens)
unfolding limited_to
all-limited room n begins [] e = inl (nothing-within n begins (omega arith), refl)
all-limited room n begins (token ∷ tokens) e =
    one-limited n begins token tokens (room_behind room begins token) (omega arith) (leaves (begins_rule token) (is_counted begins token) n room e)
    (λ left fits. all-limited left (counted_behind (begins_rule token) (is_counted begins token) n) (ends_before_line token) tokens fits)

-- a line's number doesn't count
line-along : (n : ℕ) (begins : Bool) (front : List Token) (number : ℕ) → counted_along n begins (front ++ Line number ∷ []) ≡ counted_along n begins front
line-along n begins [] number = omega arith
line-along n begins (token ∷ front) number = line-along (counted_behind (begins_rule token) (is_counted begins token) n) (ends_before_line token) front number

-- ---- from the first token of a text on

-- so the token that passes the limit is no line's number
pub passed_by_no_line : (tokens kept : List Token) (c : IsCut tokens kept) (number : ℕ) → c.token ≡ Line number → ⊥
passed_by_no_line tokens kept c number is =
    let stays : counted_at_end (c.front ++ Line number ∷ []) ≡ counted_at_end c.front = sym (along-is (c.front ++ Line number ∷ [])) ∙ line-along 0 false c.front number ∙ along-is c.front in
    let same : counted_at_end (c.front ++ c.token ∷ []) ≡ counted_at_end (c.front ++ Line number ∷ []) = ap (λ (t : Token). counted_at_end (c.front ++ t ∷ [])) is in
    omega (arith, stays, same, c.full, c.passed)

within-is : (tokens : List Token) → IsWithinFrom 0 false tokens → IsWithinLimit tokens
within-is tokens within front back e = rw (along-is front) at (within front back e)

pub kept_up_to_the_limit : TokensAreKeptUpToTheLimit
kept_up_to_the_limit tokens =
    elim (all-limited most_nodes 0 false tokens refl) [
      | inl (within, same) ↦ inl (within-is tokens within, same)
      | inr c ↦ inr (record {
        front = c.front;
        token = c.token;
        rest = c.rest;
        whole = c.whole;
        within = within-is c.front c.within;
        full = sym (along-is c.front) ∙ c.full;
        passed = sym (along-is (c.front ++ c.token ∷ [])) ∙ c.passed;
        cut = c.cut;
      })
    ]
