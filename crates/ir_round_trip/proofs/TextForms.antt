-- The tokens of a text of bytes have their forms.
use Rattle.ir_round_trip.proofs.Common.{◌≡◌, ◌≤◌, ℕ, ◌-◌, false, List, [], ◌∷◌, length, take, drop, refl, sym, subst, arith, false≢true, take-append-drop, TokenKind, between, Section, IsTokenAt, itself, kept_line, kept_group, unclosed, bad_byte, TokensFrom, last, Placed, Token, End, Other, Bad, Kept, KeptGroup, Label, Word, Group, Metadata, Quoted, Mark, mark_of, token_of, bytes_of, HasItsForm, token_form, is_kept, none_kept}
use Rattle.scan.specs.declared.ir.token.TokenKind.TheVariants as kinds
use Rattle.ir_tokens.specs.Order.{token}
use Rattle.ir_tokens.specs.Tokens.{Number, Register, Function}
use Rattle.ir_round_trip.proofs.Every.{every_append, every_left, every_right}
use Rattle.ir_round_trip.proofs.KeptForms.{kept_alone, kept_text}
use Rattle.ir_round_trip.proofs.NameForms.{AreBytes, called_formed}
use Rattle.ir_round_trip.proofs.TokenForms.{Formed, TokenFormed}

-- ---- the bytes of tokens are among those of the text

take_bytes : (n : ℕ) (text : List ℕ) → AreBytes text → AreBytes (take n text)
take_bytes n text all = every_left (λ b. b ≤ 255) (take n text) (drop n text) (subst AreBytes (sym (take-append-drop n text)) all)

drop_bytes : (n : ℕ) (text : List ℕ) → AreBytes text → AreBytes (drop n text)
drop_bytes n text all = every_right (λ b. b ≤ 255) (take n text) (drop n text) (subst AreBytes (sym (take-append-drop n text)) all)

pub between_bytes : (text : List ℕ) (start end : ℕ) → AreBytes text → AreBytes (between text start end)
between_bytes text start end all = take_bytes (end - start) (drop start text) (drop_bytes start text all)

mark_bytes : (bytes : List ℕ) → AreBytes bytes → AreBytes (bytes_of (mark_of bytes))
mark_bytes [] all = tt
mark_bytes (b ∷ bytes) all = (all.0, tt)

token_bytes : (kind : TokenKind) (bytes : List ℕ) → AreBytes bytes → AreBytes (bytes_of (token_of kind bytes))
token_bytes kinds.End bytes all = tt
token_bytes kinds.Other bytes all = tt
token_bytes kinds.Label bytes all = every_append (λ b. b ≤ 255) (take (length bytes - 1) bytes) (58 ∷ []) (take_bytes (length bytes - 1) bytes all) (omega arith, tt)
token_bytes kinds.Word bytes all = all
token_bytes kinds.Number bytes all = all
token_bytes kinds.Register bytes all = (omega arith, drop_bytes 1 bytes all)
token_bytes kinds.Function bytes all = (omega arith, drop_bytes 1 bytes all)
token_bytes kinds.Group bytes all = all
token_bytes kinds.Metadata bytes all = (omega arith, drop_bytes 1 bytes all)
token_bytes kinds.Quoted bytes all = all
token_bytes kinds.Mark bytes all = mark_bytes bytes all

pub bytes_at : {text : List ℕ} {place : Section} {at end : ℕ} {t : Placed} → AreBytes text → IsTokenAt text place at t end → AreBytes (bytes_of t.1)
bytes_at {text} all (itself t next extent) = token_bytes t.kind (between text t.span.start t.span.end) (between_bytes text t.span.start t.span.end all)
bytes_at {text} all (kept_line t rest next extent kept) = between_bytes text t.span.start rest.end all
bytes_at {text} all (kept_group t rest next extent kept) = between_bytes text t.span.start rest.end all
bytes_at all (unclosed t next extent none) = tt
bytes_at all (bad_byte line is) = tt

-- ---- the tokens of a text of bytes have their forms

token_by : (t : Token) → HasItsForm t → is_kept t ≡ false → AreBytes (bytes_of t) → TokenFormed t
token_by End form other bytes = tt
token_by Other form other bytes = tt
token_by Bad form other bytes = tt
token_by (Kept text) form other bytes = absurd (false≢true (sym other))
token_by (KeptGroup text) form other bytes = form refl refl
token_by (Label name) form other bytes = called_formed name (form refl refl) (every_left (λ b. b ≤ 255) name (58 ∷ []) bytes)
token_by (Word text) form other bytes = form refl refl
token_by (Number text) form other bytes = form refl refl
token_by (Register name) form other bytes = called_formed name (form refl refl) bytes.1
token_by (Function name) form other bytes = called_formed name (form refl refl) bytes.1
token_by (Group text) form other bytes = form refl refl
token_by (Metadata name) form other bytes = tt
token_by (Quoted text) form other bytes = form refl refl
token_by (Mark byte) form other bytes = tt

token_formed : {text : List ℕ} {place : Section} {at end : ℕ} {t : Placed} → AreBytes text → IsTokenAt text place at t end → TokenFormed t.1
token_formed {text} all (itself t next extent) =
    let bytes : List ℕ = between text t.span.start t.span.end in
    token_by (token_of t.kind bytes) (token_form (itself t next extent)) (none_kept t.kind bytes) (bytes_at all (itself t next extent))
token_formed {text} {place} {at} all (kept_line t rest next extent kept) = kept_text (between text t.span.start rest.end) (kept_alone text place at t rest next extent kept)
token_formed all (kept_group t rest next extent kept) = token_form (kept_group t rest next extent kept) refl refl
token_formed all (unclosed t next extent none) = tt
token_formed all (bad_byte line is) = tt

pub tokens_formed : {text : List ℕ} {place : Section} {at : ℕ} {tokens : List Placed} → AreBytes text → TokensFrom text place at tokens → Formed tokens
tokens_formed all (last h is) = (token_formed all h, tt)
tokens_formed all (token h more behind) = (token_formed all h, tokens_formed all behind)
