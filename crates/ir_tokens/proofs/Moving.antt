-- A token that isn't the last has at least one byte, and ends within the text.
use Rattle.ir_tokens.proofs.Common.{◌≡◌, ◌≢◌, ℕ, ◌+◌, ◌-◌, ◌<◌, ◌≤◌, Bool, false, not, eqb, List, [], ◌∷◌, length, drop, sym, ap, ◌∙◌, ◌⊎◌, ⊎_elim, arith, false≢true, length-take, length-drop, length-append, prefix_len-le-length, length-prefix_len, TokenKind, Span, Begins, BeginsNoToken, IsLongestToken, IsGroup, rest_to_feed, between, longest_some, Section, AtEntry, InHeader, InBody, Extent, HasExtent, IsTokenAt, itself, kept_line, kept_group, unclosed, bad_byte, begins_kept, extent_of, Placed, token_of, is_last}
use Rattle.scan.specs.declared.ir.token.TokenKind.TheVariants as kinds
use Rattle.scan.specs.declared.ir.token.Token.{Token as Scanned}
use Rattle.scan.proofs.ModulePlaces.{seen}
use Rattle.ir_tokens.specs.declared.place.Extent.TheVariants as extents

-- ---- a token by itself

begins_some : (text bytes : List ℕ) (kind : TokenKind) (n : ℕ) → is_last (token_of kind bytes) ≡ false → Begins text kind n → 0 < n
begins_some text bytes kind n more h = ⊎_elim
    (λ (t : IsLongestToken text kind n). longest_some text kind n t)
    (λ (o : ((kind ≡ kinds.Other) × BeginsNoToken text × (n ≡ 1)) ⊎ ((kind ≡ kinds.End) × (text ≡ []) × (n ≡ 0))). ⊎_elim
    (λ (x : (kind ≡ kinds.Other) × BeginsNoToken text × (n ≡ 1)). omega (arith, x.2))
    (λ (x : (kind ≡ kinds.End) × (text ≡ []) × (n ≡ 0)). absurd (false≢true (sym more ∙ ap (λ (k : TokenKind). is_last (token_of k bytes)) x.0)))
    o)
    (seen text kind n h)

-- ---- a token that extends further

between_some : (text : List ℕ) (start end : ℕ) → 0 < length (between text start end) → start < end
between_some text start end some = omega (arith, length-take (end - start) (drop start text))

goes_on : (place : Section) (number : ℕ) (bytes : List ℕ) (extent : Extent) → extent_of place number bytes ≡ extent → extent ≢ extents.Itself → 0 < length bytes
unfolding extent_of begins_kept
goes_on (AtEntry before) number [] extent e other = absurd (other (sym e))
goes_on (InHeader word) number [] extent e other = absurd (other (sym e))
goes_on (InBody word) number [] extent e other = absurd (other (sym e))
goes_on place number (b ∷ bytes) extent e other = omega arith

extent_moves : (text : List ℕ) (place : Section) (t : Scanned) (extent : Extent) → HasExtent text place t extent → extent ≢ extents.Itself → t.span.start < t.span.end
extent_moves text place t extent h other = between_some text t.span.start t.span.end (goes_on place t.line (between text t.span.start t.span.end) extent h other)

line_within : (text : List ℕ) (at : ℕ) → at ≤ length text → at + length (rest_to_feed text at) ≤ length text
line_within text at le =
    let in_line : ℕ → Bool = λ b. not (eqb b 10) in omega (arith, length-prefix_len in_line (drop at text), prefix_len-le-length in_line (drop at text), length-drop at text)

group_moves : (text : List ℕ) (at : ℕ) (rest : Span) → IsGroup text at rest → at < rest.end
group_moves text at rest h = between_some text at rest.end (omega (arith, ap length h.bytes, length-append h.content (41 ∷ [])))

-- ---- a token

pub token_within : {text : List ℕ} {place : Section} {at end : ℕ} {t : Placed} → at ≤ length text → IsTokenAt text place at t end → end ≤ length text
token_within le (itself t next extent) = next.order.2
token_within {text} le (kept_line t rest next extent kept) = line_within text t.span.end next.order.2
token_within le (kept_group t rest next extent kept) = kept.within
token_within le (unclosed t next extent none) = next.order.2
token_within le (bad_byte line is) = le

pub token_moves : {text : List ℕ} {place : Section} {at end : ℕ} {t : Placed} → IsTokenAt text place at t end → is_last t.1 ≡ false → at < end
token_moves {text} (itself t next extent) more = let some : 0 < t.span.end - t.span.start = begins_some _ _ t.kind _ more next.token in omega (arith, next.order.0)
token_moves {text} {place} (kept_line t rest next extent kept) more = let some = extent_moves text place t extents.Line extent (λ e. cc) in omega (arith, next.order.0)
token_moves {text} {place} (kept_group t rest next extent kept) more =
    let some = extent_moves text place t extents.Group extent (λ e. cc) in omega (arith, next.order.0, group_moves text t.span.end rest kept)
token_moves (unclosed t next extent none) more = absurd (false≢true (sym more))
token_moves (bad_byte line is) more = absurd (false≢true (sym more))
