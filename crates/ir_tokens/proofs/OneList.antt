-- A text has no two lists of tokens.
use Rattle.ir_tokens.proofs.Common.{◌≡◌, ℕ, ◌+◌, ◌≤◌, true, false, List, [], ◌∷◌, Result, Ok, Err, length, refl, sym, ap, subst, ◌∙◌, ◌⊎◌, inl, inr, false≢true, BadByte, Span, IsKeptLine, IsGroup, HasNoGroup, rest_to_feed, IsNextOfModule, OneModuleTokenAtAPlace, OneGroupAtAPlace, between, Section, Extent, IsTokenAt, itself, kept_line, kept_group, unclosed, bad_byte, TokensFrom, last, token, extent_of, place_behind, Placed, Kept, KeptGroup, Other, Bad, token_of, is_last}
use Rattle.scan.specs.declared.ir.token.Token.{Token as Scanned}
use Rattle.ir_tokens.specs.declared.place.Extent.TheVariants as extents
use Rattle.ir_tokens.proofs.Moving.{token_within}

-- ---- one token at a place

-- the token that this token of the scan is read as, by how far it extends, and where that ends
abbrev IsReadAs : Extent → List ℕ → Scanned → Placed → ℕ → Type 0
IsReadAs extents.Itself text s t end = (t ≡ (s.line, token_of s.kind (between text s.span.start s.span.end))) × (end ≡ s.span.end)
IsReadAs extents.Line text s t end = (rest : Span)
    × IsKeptLine text s.span.end rest × (t ≡ (s.line, Kept (between text s.span.start rest.end))) × (end ≡ s.span.end + length (rest_to_feed text s.span.end))
IsReadAs extents.Group text s t end =
    ((rest : Span) × IsGroup text s.span.end rest × (t ≡ (s.line, KeptGroup (between text s.span.start rest.end))) × (end ≡ rest.end))
    ⊎ (HasNoGroup text s.span.end × (t ≡ (s.line, Other)) × (end ≡ s.span.end))

-- the token that the result of the scan is read as
abbrev IsRead : List ℕ → Section → ℕ → Result Scanned BadByte → Placed → ℕ → Type 0
IsRead text place at (Ok s) t end = IsReadAs (extent_of place s.line (between text s.span.start s.span.end)) text s t end
IsRead text place at (Err e) t end = (t ≡ (e.line, Bad)) × (end ≡ at)

record Found (text : List ℕ) (place : Section) (at : ℕ) (t : Placed) (end : ℕ) : Type 0 where
  next : Result Scanned BadByte
  is_next : IsNextOfModule text at next
  read : IsRead text place at next t end

abbrev read_so : (text : List ℕ) (place : Section) (at : ℕ) (s : Scanned) (t : Placed) (end : ℕ) (extent : Extent) → IsNextOfModule text at (Ok s) → extent_of place s.line (between text s.span.start s.span.end) ≡ extent → IsReadAs extent text s t end → Found text place at t end
read_so text place at s t end extent next e read = record { next = Ok s; is_next = next; read = subst (λ (x : Extent). IsReadAs x text s t end) (sym e) read }

found : {text : List ℕ} {place : Section} {at end : ℕ} {t : Placed} → IsTokenAt text place at t end → Found text place at t end
found {text} {place} {at} (itself s next extent) = read_so text place at s _ _ extents.Itself next extent (refl, refl)
found {text} {place} {at} (kept_line s rest next extent kept) = read_so text place at s _ _ extents.Line next extent (rest, kept, refl, refl)
found {text} {place} {at} (kept_group s rest next extent kept) = read_so text place at s _ _ extents.Group next extent (inl (rest, kept, refl, refl))
found {text} {place} {at} (unclosed s next extent none) = read_so text place at s _ _ extents.Group next extent (inr (none, refl, refl))
found (bad_byte line is) = record { next = Err (record { line = line }); is_next = is; read = (refl, refl) }

read_once : OneGroupAtAPlace → (extent : Extent) (text : List ℕ) (s : Scanned) (t u : Placed) (end other : ℕ) → s.span.end ≤ length text → IsReadAs extent text s t end → IsReadAs extent text s u other → (t ≡ u) × (end ≡ other)
read_once one extents.Itself text s t u end other le h k = (h.0 ∙ sym k.0, h.1 ∙ sym k.1)
read_once one extents.Line text s t u end other le h k =
    let same : h.0.end ≡ k.0.end = h.1.end ∙ sym k.1.end in
    (h.2 ∙ ap (λ (n : ℕ). (s.line, Kept (between text s.span.start n))) same ∙ sym k.2, h.3 ∙ sym k.3)
read_once one extents.Group text s t u end other le (inl h) (inl k) =
    let same : h.0.end ≡ k.0.end = ap (λ (rest : Span). rest.end) (one text s.span.end h.0 k.0 le h.1 k.1) in
    (h.2 ∙ ap (λ (n : ℕ). (s.line, KeptGroup (between text s.span.start n))) same ∙ sym k.2, h.3 ∙ same ∙ sym k.3)
read_once one extents.Group text s t u end other le (inl h) (inr k) = absurd (k.0 h.0 h.1)
read_once one extents.Group text s t u end other le (inr h) (inl k) = absurd (h.0 k.0 k.1)
read_once one extents.Group text s t u end other le (inr h) (inr k) = (h.1 ∙ sym k.1, h.2 ∙ sym k.2)

next_once : OneGroupAtAPlace → (text : List ℕ) (place : Section) (at : ℕ) (next : Result Scanned BadByte) (t u : Placed) (end other : ℕ) → IsNextOfModule text at next → IsRead text place at next t end → IsRead text place at next u other → (t ≡ u) × (end ≡ other)
next_once one text place at (Ok s) t u end other is h k = read_once one _ text s t u end other is.order.2 h k
next_once one text place at (Err e) t u end other is h k = (h.0 ∙ sym k.0, h.1 ∙ sym k.1)

one_token : OneModuleTokenAtAPlace → OneGroupAtAPlace → (text : List ℕ) (place : Section) (at : ℕ) (t u : Placed) (end other : ℕ) → at ≤ length text → IsTokenAt text place at t end → IsTokenAt text place at u other → (t ≡ u) × (end ≡ other)
one_token one_next one_group text place at t u end other le h k =
    let a : Found text place at t end = found h in
    let b : Found text place at u other = found k in
    let same : a.next ≡ b.next = one_next text at a.next b.next le a.is_next b.is_next in
    next_once one_group text place at b.next t u end other b.is_next (subst (λ (r : Result Scanned BadByte). IsRead text place at r t end) same a.read) b.read

-- ---- one list

not_last : (t u : Placed) → t ≡ u → is_last t.1 ≡ true → is_last u.1 ≡ false → ⊥
not_last t u same h k = false≢true (sym k ∙ ap (λ (x : Placed). is_last x.1) (sym same) ∙ h)

pub one_list : OneModuleTokenAtAPlace → OneGroupAtAPlace → {text : List ℕ} {place : Section} {at : ℕ} {tokens : List Placed} → at ≤ length text → TokensFrom text place at tokens → (others : List Placed) → TokensFrom text place at others → tokens ≡ others
one_list one_next one_group {text} le (last {place} {at} {end} {t} h is) others (last {end = other} {t = u} k is') =
    ap (λ (x : Placed). x ∷ []) (one_token one_next one_group text place at t u end other le h k).0
one_list one_next one_group {text} le (last {place} {at} {end} {t} h is) others (token {end = other} {t = u} k more behind) =
    absurd (not_last t u (one_token one_next one_group text place at t u end other le h k).0 is more)
one_list one_next one_group {text} le (token {place} {at} {end} {t} h more behind) others (last {end = other} {t = u} k is) =
    absurd (not_last u t (one_token one_next one_group text place at u t other end le k h).0 is more)
one_list one_next one_group {text} le (token {place} {at} {end} {t} {tokens} h more behind) others (token {end = other} {t = u} {tokens = tokens'} k more' behind') =
    let same = one_token one_next one_group text place at t u end other le h k in
    let moved : TokensFrom text (place_behind place t) end tokens' = subst (λ (x : Placed). TokensFrom text (place_behind place x) end tokens') (sym same.0) (subst (λ (n : ℕ). TokensFrom text (place_behind place u) n tokens') (sym same.1) behind') in
    ap (λ (x : Placed). x ∷ tokens) same.0 ∙ ap (λ (ts : List Placed). u ∷ ts) (one_list one_next one_group (token_within le h) behind tokens' moved)
