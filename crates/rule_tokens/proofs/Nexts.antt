-- At each place of a text the lexer has an answer: a token, the end, or a byte that may not stand.
use Rattle.rule_tokens.proofs.Common.{◌≡◌, ◌≢◌, ℕ, zero, suc, ◌+◌, ◌-◌, ◌<◌, ◌≤◌, Bool, true, false, List, Option, Some, None, Result, Ok, Err, length, take, drop, refl, ap, ◌∙◌, ⊎_elim, ◌⊎◌, inl, inr, arith, nil_from_length, RuleKind, End, Other, Number, RuleToken, BadByte, begins_with, is_bad, IsNext, between, feeds, IsLongestOf, kind_of, Begins, line_at, in_operator_place, behind_gap, in_gap, which, GapTo, gap_to, begins_token, begins_other, Behind, next_bad, next_token}

-- ---- the longest prefix of a kind

-- no prefix of up to k bytes is longer
record LongestUpTo (f : List ℕ → List ℕ → Option RuleKind) (text : List ℕ) (k : ℕ) : Type 0 where
  kind : RuleKind
  n : ℕ
  within : n ≤ k
  found : 0 < n → f (take n text) (drop n text) ≡ Some kind
  longest : (m : ℕ) → m ≤ k → f (take m text) (drop m text) ≢ None → m ≤ n

below_or_same : (m k : ℕ) → m ≤ suc k → (m ≤ k) ⊎ (m ≡ suc k)
below_or_same m k le = grind arith

longest_up_to : (f : List ℕ → List ℕ → Option RuleKind) (text : List ℕ) (k : ℕ) → LongestUpTo f text k
longest_up_to f text zero = record { kind = Number; n = 0; within = omega arith; found = λ some. absurd (omega arith); longest = λ m le other. le }
longest_up_to f text (suc k) = at_most (f (take (suc k) text) (drop (suc k) text)) refl (longest_up_to f text k)
  where
    at_most : (o : Option RuleKind) → f (take (suc k) text) (drop (suc k) text) ≡ o → LongestUpTo f text k → LongestUpTo f text (suc k)
    at_most (Some kind) e shorter = record { kind = kind; n = suc k; within = omega arith; found = λ some. e; longest = λ m le other. le }
    at_most None e shorter = record {
      kind = shorter.kind;
      n = shorter.n;
      within = let le = shorter.within in omega arith;
      found = shorter.found;
      longest = λ m le other. ⊎_elim
          (λ (below : m ≤ k). shorter.longest m below other)
          (λ (same : m ≡ suc k). absurd (other (ap (λ (i : ℕ). f (take i text) (drop i text)) same ∙ e)))
          (below_or_same m k le);
    }

-- ---- what a text without a gap in front begins with

zero_or_more : (n : ℕ) → (n ≡ 0) ⊎ (n ≢ 0)
zero_or_more zero = inl refl
zero_or_more (suc n) = inr (omega arith)

begun : (operator : Bool) (text : List ℕ) → begins_with in_gap text ≡ false → (begins_with is_bad text ≡ true) ⊎ ((kind : RuleKind) × (n : ℕ) × Begins operator text kind n)
begun operator text no_gap = ⊎_elim
    (λ (empty : length text ≡ 0). inr (End, 0, (nil_from_length text empty, refl)))
    (λ (some : length text ≢ 0). ⊎_elim
    (λ (bad : begins_with is_bad text ≡ true). inl bad)
    (λ (good : begins_with is_bad text ≡ false).
    let l : LongestUpTo (kind_of operator) text (length text) = longest_up_to (kind_of operator) text (length text) in
    let whole : IsLongestOf (kind_of operator) text l.kind l.n = record { within = l.within; found = l.found; longest = l.longest } in
    ⊎_elim
    (λ (none : l.n ≡ 0). inr (Other, 1, begins_other operator text l.kind l.n whole none some good no_gap))
    (λ (more : l.n ≢ 0). inr (l.kind, l.n, begins_token operator text l.kind l.n whole more))
    (zero_or_more l.n))
    (which (begins_with is_bad text)))
    (zero_or_more (length text))

-- ---- what comes behind the gap at a place

pub next_exists : (operator : Bool) (text : List ℕ) (at : ℕ) → at ≤ length text → (r : Result RuleToken BadByte) × IsNext operator text at r
next_exists operator text at le =
    let start : ℕ = length text - length (behind_gap false (drop at text)) in
    let gap : GapTo text at start = gap_to text at (behind_gap false (drop at text)) le refl in
    let behind : Behind text at start = record { order = gap.order; gap = gap.gap; last = gap.last } in
    let front : Bool = in_operator_place operator (between text at start) in
    ⊎_elim
    (λ (bad : begins_with is_bad (drop start text) ≡ true). (
      Err (record { line = feeds (take at text) + feeds (between text at start) + 1 }),
      next_bad text at start (feeds (take at text)) (feeds (between text at start)) behind refl refl bad,
    ))
    (λ (b : (kind : RuleKind) × (n : ℕ) × Begins front (drop start text) kind n). (
      Ok (record { kind = b.0; line = line_at b.0 text start; span = record { start = start; end = start + b.1 } }),
      next_token operator front text at start b.1 (line_at b.0 text start) b.0 behind refl b.2 refl,
    ))
    (begun front (drop start text) gap.whole)
