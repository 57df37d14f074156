-- The tokens of a text in order.
use Rattle.std.specs.Prelude.{◌≡◌, ℕ, ◌+◌, true, false, List, [], ◌∷◌, length, None}
use Rattle.scan.specs.declared.ir.token.Token.{Token as Scanned}
use Rattle.scan.specs.declared.span.Span.{Span}
use Rattle.scan.specs.IrTokens.{IsNextToken, IsBadToken}
use Rattle.scan.specs.Kept.{IsKeptLine, IsGroup, HasNoGroup, rest_to_feed}
use Rattle.scan.specs.Lines.{between}
use Rattle.ir_tokens.specs.declared.place.Section.{Section}
use Rattle.ir_tokens.specs.declared.place.Section.TheVariants.{AtEntry}
use Rattle.ir_tokens.specs.declared.place.Extent.{Extent}
use Rattle.ir_tokens.specs.declared.place.Extent.TheVariants as extents
use Rattle.ir_tokens.specs.Places.{extent_of, place_behind}
use Rattle.ir_tokens.specs.Tokens.{Placed, Kept, KeptGroup, Other, Bad, token_of, is_last}

-- the token that the scan finds next in the text extends so far
abbrev pub HasExtent : List ℕ → Section → Scanned → Extent → Type 0
HasExtent text place t extent = extent_of place t.line (between text t.span.start t.span.end) ≡ extent

-- A token of a text in a context, read from byte offset `at` on, where a gap may come first; and the offset behind it.
pub data IsTokenAt (text : List ℕ) (place : Section) (at : ℕ) : Placed → ℕ → Type 0 where
  -- a token by itself
  itself : (t : Scanned) → IsNextToken text at t → HasExtent text place t extents.Itself
      → IsTokenAt text place at (t.line, token_of t.kind (between text t.span.start t.span.end)) t.span.end
  -- a kept line
  kept_line : (t : Scanned) (rest : Span) → IsNextToken text at t → HasExtent text place t extents.Line → IsKeptLine text t.span.end rest
      → IsTokenAt text place at (t.line, Kept (between text t.span.start rest.end)) (t.span.end + length (rest_to_feed text t.span.end))
  -- a kept group
  kept_group : (t : Scanned) (rest : Span) → IsNextToken text at t → HasExtent text place t extents.Group → IsGroup text t.span.end rest
      → IsTokenAt text place at (t.line, KeptGroup (between text t.span.start rest.end)) rest.end
  -- the `(` of a kept group that isn't closed on its line
  unclosed : (t : Scanned) → IsNextToken text at t → HasExtent text place t extents.Group → HasNoGroup text t.span.end
      → IsTokenAt text place at (t.line, Other) t.span.end
  -- an invalid byte
  bad_byte : (line : ℕ) → IsBadToken text at line → IsTokenAt text place at (line, Bad) at

-- the tokens of a text from byte offset `at` on, in a context
pub data TokensFrom (text : List ℕ) : Section → ℕ → List Placed → Type 0 where
  last : {place : Section} {at end : ℕ} {t : Placed} → IsTokenAt text place at t end → is_last t.1 ≡ true → TokensFrom text place at (t ∷ [])
  token : {place : Section} {at end : ℕ} {t : Placed} {tokens : List Placed} → IsTokenAt text place at t end → is_last t.1 ≡ false
      → TokensFrom text (place_behind place t) end tokens → TokensFrom text place at (t ∷ tokens)

-- the tokens of a text, up to its end or to the first that the grammar allows nowhere
abbrev pub AreTokens : List ℕ → List Placed → Type 0
AreTokens text tokens = TokensFrom text (AtEntry None) 0 tokens
