-- A text has a list of tokens.
use Rattle.ir_tokens.proofs.Common.{◌≡◌, ℕ, zero, suc, ◌+◌, ◌-◌, ◌<◌, ◌≤◌, true, false, List, [], ◌∷◌, Option, Some, None, Result, Ok, Err, length, drop, refl, ⊎_elim, ◌⊎◌, inl, inr, arith, BadByte, Span, IsNextToken, IsGroup, HasNoGroup, rest_to_feed, IsNextOfModule, blanks_behind, which, closing, closed, not_closed, group_at, no_group_at, Section, Extent, HasExtent, IsTokenAt, itself, kept_line, kept_group, unclosed, bad_byte, TokensFrom, last, token, place_behind, Placed, is_last}
use Rattle.scan.specs.declared.ir.token.Token.{Token as Scanned}
use Rattle.ir_tokens.specs.declared.place.Extent.TheVariants as extents
use Rattle.ir_tokens.proofs.Moving.{token_moves, token_within}
use Rattle.ir_tokens.proofs.Nexts.{next_exists}

-- ---- a token at a place

-- a bracket is closed on its line, or isn't
group_or_none : (text : List ℕ) (at : ℕ) → at ≤ length text → ((rest : Span) × IsGroup text at rest) ⊎ HasNoGroup text at
group_or_none text at le = answered (closing false 0 (drop at text)) refl
  where
    answered : (o : Option (List ℕ)) → closing false 0 (drop at text) ≡ o → ((rest : Span) × IsGroup text at rest) ⊎ HasNoGroup text at
    answered (Some rest) e = let h = closed (drop at text) rest e in inl (_, group_at text at h.0 rest le h.1 h.2)
    answered None e = inr (no_group_at text at (λ content rest balanced is. not_closed (drop at text) content rest e balanced is))

record Reading (text : List ℕ) (place : Section) (at : ℕ) : Type 0 where
  token : Placed
  end : ℕ
  is : IsTokenAt text place at token end

reading : (text : List ℕ) (place : Section) (at : ℕ) (t : Scanned) → IsNextToken text at t → (extent : Extent) → HasExtent text place t extent → Reading text place at
reading text place at t next extents.Itself e = record { token = _; end = _; is = itself t next e }
reading text place at t next extents.Line e =
    let rest : Span = record { start = t.span.end; end = t.span.end + (length (rest_to_feed text t.span.end) - blanks_behind (rest_to_feed text t.span.end)) } in
    record { token = _; end = _; is = kept_line t rest next e (record { start = refl; end = refl }) }
reading text place at t next extents.Group e = ⊎_elim
    (λ (h : (rest : Span) × IsGroup text t.span.end rest). record { token = _; end = _; is = kept_group t h.0 next e h.1 })
    (λ (none : HasNoGroup text t.span.end). record { token = _; end = _; is = unclosed t next e none })
    (group_or_none text t.span.end next.order.2)

some_token : (text : List ℕ) (place : Section) (at : ℕ) (next : Result Scanned BadByte) → IsNextOfModule text at next → Reading text place at
some_token text place at (Ok t) next = reading text place at t next _ refl
some_token text place at (Err e) next = record { token = _; end = _; is = bad_byte e.line next }

-- ---- a list

pub some_list : (n : ℕ) (text : List ℕ) (place : Section) (at : ℕ) → length text - at < n → at ≤ length text → (tokens : List Placed) × TokensFrom text place at tokens
some_list zero text place at short le = absurd (omega arith)
some_list (suc n) text place at short le =
    let next : (next : Result Scanned BadByte) × IsNextOfModule text at next = next_exists text at le in
    let r : Reading text place at = some_token text place at next.0 next.1 in
    let within : r.end ≤ length text = token_within le r.is in
    ⊎_elim
    (λ (end : is_last r.token.1 ≡ true). (r.token ∷ [], last r.is end))
    (λ (more : is_last r.token.1 ≡ false).
    let moves : at < r.end = token_moves r.is more in
    let behind : (tokens : List Placed) × TokensFrom text (place_behind place r.token) r.end tokens = some_list n text (place_behind place r.token) r.end (omega arith) within in
    (r.token ∷ behind.0, token r.is more behind.1))
    (which (is_last r.token.1))
