-- At each place of a text there is a token or a fault.
use Rattle.ir_tokens.proofs.Common.{◌≡◌, ◌≢◌, ℕ, zero, suc, ◌+◌, ◌-◌, ◌<◌, ◌≤◌, Bool, true, false, eqb, List, Result, Ok, Err, length, take, drop, refl, sym, ap, ◌∙◌, ⊎_elim, ◌⊎◌, inl, inr, arith, list_any, false≢true, length-take, nil_from_length, BadByte, TokenKind, Token, begins_with, is_bad, Begins, BeginsBadly, HoldsZero, IsLongestFront, IsLongestToken, line_at, spells, IsNextOfModule, feeds, in_quotes, unquoted, behind_gap, in_gap, which, GapTo, gap_to, next_bad, next_token, begins_other, begins_token, longest_token, short_holds_none, Behind, zero_contained, zero_found}
use Rattle.scan.specs.declared.ir.token.TokenKind.TheVariants as kinds

-- ---- the longest prefix that is a token

-- bytes are a token of some kind, or of none
abbrev SomeKind : (TokenKind → Bool) → Type 0
SomeKind is = ((kind : TokenKind) × (is kind ≡ true)) ⊎ ((kind : TokenKind) → is kind ≡ false)

unless : (is : TokenKind → Bool) (kind : TokenKind) → (is kind ≡ false → SomeKind is) → SomeKind is
unless is kind others = ⊎_elim (λ (yes : is kind ≡ true). inl (kind, yes)) others (which (is kind))

some_kind : (is : TokenKind → Bool) → SomeKind is
some_kind is =
    unless is kinds.End (λ end. unless is kinds.Other (λ other. unless is kinds.Label (λ label. unless is kinds.Word (λ word. unless is kinds.Number (λ number.
    unless is kinds.Register (λ register. unless is kinds.Function (λ function. unless is kinds.Group (λ group. unless is kinds.Metadata (λ metadata.
    unless is kinds.Quoted (λ quoted. unless is kinds.Mark (λ mark. inr (λ kind. elim kind as (λ k. is k ≡ false) [
      | kinds.End ↦ end
      | kinds.Other ↦ other
      | kinds.Label ↦ label
      | kinds.Word ↦ word
      | kinds.Number ↦ number
      | kinds.Register ↦ register
      | kinds.Function ↦ function
      | kinds.Group ↦ group
      | kinds.Metadata ↦ metadata
      | kinds.Quoted ↦ quoted
      | kinds.Mark ↦ mark
    ]))))))))))))

-- the longest prefix of at most k bytes that is a token
record LongestUpTo (text : List ℕ) (k : ℕ) : Type 0 where
  kind : TokenKind
  n : ℕ
  within : n ≤ k
  found : 0 < n → spells kind (take n text) (drop n text) ≡ true
  longest : (other : TokenKind) (m : ℕ) → m ≤ k → spells other (take m text) (drop m text) ≡ true → m ≤ n

below_or_same : (m k : ℕ) → m ≤ suc k → (m ≤ k) ⊎ (m ≡ suc k)
below_or_same m k le = grind arith

longest_up_to : (text : List ℕ) (k : ℕ) → LongestUpTo text k
longest_up_to text zero = record { kind = kinds.Mark; n = 0; within = omega arith; found = λ some. absurd (omega arith); longest = λ other m le is. le }
longest_up_to text (suc k) = let shorter : LongestUpTo text k = longest_up_to text k in ⊎_elim
    (λ (h : (kind : TokenKind) × (spells kind (take (suc k) text) (drop (suc k) text) ≡ true)).
    record { kind = h.0; n = suc k; within = omega arith; found = λ some. h.1; longest = λ other m le is. le })
    (λ (none : (kind : TokenKind) → spells kind (take (suc k) text) (drop (suc k) text) ≡ false). record {
      kind = shorter.kind;
      n = shorter.n;
      within = let le = shorter.within in omega arith;
      found = shorter.found;
      longest = λ other m le is. ⊎_elim
          (λ (below : m ≤ k). shorter.longest other m below is)
          (λ (same : m ≡ suc k). absurd (false≢true (sym (none other) ∙ ap (λ (i : ℕ). spells other (take i text) (drop i text)) (sym same) ∙ is)))
          (below_or_same m k le);
    })
    (some_kind (λ kind. spells kind (take (suc k) text) (drop (suc k) text)))

abbrev Longest : List ℕ → Type 0
Longest text = (kind : TokenKind) × (n : ℕ) × IsLongestFront text kind n

longest : (text : List ℕ) → Longest text
longest text = let l : LongestUpTo text (length text) = longest_up_to text (length text) in (l.kind, l.n, record { within = l.within; found = l.found; longest = l.longest })

-- ---- what a text that does not begin with a gap begins with

holds_or_not : (bytes : List ℕ) → HoldsZero bytes ⊎ ¬ HoldsZero bytes
holds_or_not bytes = ⊎_elim
    (λ (e : list_any (λ b. eqb b 0) (unquoted (in_quotes bytes)) ≡ true). inl (zero_contained (unquoted (in_quotes bytes)) e))
    (λ (e : list_any (λ b. eqb b 0) (unquoted (in_quotes bytes)) ≡ false). inr (λ h. false≢true (sym e ∙ zero_found (unquoted (in_quotes bytes)) h)))
    (which (list_any (λ b. eqb b 0) (unquoted (in_quotes bytes))))

-- the text begins badly, or with a token, a byte that begins none, or its end
abbrev Begun : List ℕ → Type 0
Begun text = BeginsBadly text ⊎ ((kind : TokenKind) × (n : ℕ) × Begins text kind n × ¬ HoldsZero (take n text))

zero_or_more : (n : ℕ) → (n ≡ 0) ⊎ (n ≢ 0)
zero_or_more zero = inl refl
zero_or_more (suc n) = inr (omega arith)

begun_with : (text : List ℕ) (kind : TokenKind) (n : ℕ) → IsLongestToken text kind n → Begun text
begun_with text kind n h = ⊎_elim
    (λ (zero : HoldsZero (take n text)). inl (inr (kind, n, h, zero)))
    (λ (none : ¬ HoldsZero (take n text)). inr (kind, n, begins_token text kind n h, none))
    (holds_or_not (take n text))

begun : (text : List ℕ) → begins_with in_gap text ≡ false → Begun text
begun text no_gap = ⊎_elim
    (λ (empty : length text ≡ 0). inr (kinds.End, 0, (nil_from_length text empty, refl), short_holds_none (take 0 text) (omega (arith, length-take 0 text))))
    (λ (some : length text ≢ 0). ⊎_elim
    (λ (bad : begins_with is_bad text ≡ true). inl (inl bad))
    (λ (good : begins_with is_bad text ≡ false). let l : Longest text = longest text in ⊎_elim
    (λ (none : l.1 ≡ 0). inr (kinds.Other, 1, begins_other text l.0 l.1 l.2 none some good no_gap, short_holds_none (take 1 text) (omega (arith, length-take 1 text))))
    (λ (more : l.1 ≢ 0). begun_with text l.0 l.1 (longest_token text l.0 l.1 l.2 more))
    (zero_or_more l.1))
    (which (begins_with is_bad text)))
    (zero_or_more (length text))

-- ---- what stands behind the gap from a place on

pub next_exists : (text : List ℕ) (at : ℕ) → at ≤ length text → (next : Result Token BadByte) × IsNextOfModule text at next
next_exists text at le =
    let start : ℕ = length text - length (behind_gap false (drop at text)) in
    let gap : GapTo text at start = gap_to text at (behind_gap false (drop at text)) le refl in
    let behind : Behind text at start = record { order = gap.order; gap = gap.gap; last = gap.last } in
    ⊎_elim
    (λ (bad : BeginsBadly (drop start text)). (Err (record { line = feeds (take start text) + 1 }), next_bad text at start (feeds (take start text)) behind refl bad))
    (λ (b : (kind : TokenKind) × (n : ℕ) × Begins (drop start text) kind n × ¬ HoldsZero (take n (drop start text))). (
      Ok (record { kind = b.0; line = line_at b.0 text start; span = record { start = start; end = start + b.1 } }),
      next_token text at start b.1 (line_at b.0 text start) b.0 behind b.2 b.3 refl,
    ))
    (begun (drop start text) gap.whole)
