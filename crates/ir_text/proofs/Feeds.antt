-- The bytes of a token have no line feed.
use Rattle.ir_text.proofs.Common.{◌≡◌, ℕ, ◌-◌, Bool, true, false, List, [], ◌∷◌, ◌++◌, length, take, drop, refl, sym, ap, ◌∙◌, take-append-drop, arith, list_all, take-length, take_all, TokenKind, IsBalanced, feeds, is_quotable, and_both, run_passes, group_feeds, feeds_append, no_feeds, Token, End, Other, Bad, Kept, KeptGroup, Label, Word, Group, Metadata, Quoted, Mark, HasForm, bytes_of, goes_on}
use Rattle.ir_tokens.specs.Tokens.{Number, Register, Function}
use Rattle.ir_text.proofs.KeptLines.{IsKeptAlone, alone, in_line}
use Rattle.ir_text.proofs.Shapes.{IsShaped, feed_goes_not_on, feed_no_lead, is_lead, is_lone, is_sigil, lone, quoted, run, shape, sigiled}
use Rattle.ir_text.proofs.Spelled.{IsSpelled, function_spelled, group_spelled, label_spelled, mark_spelled, metadata_spelled, number_spelled, quoted_spelled, register_spelled, word_spelled}

-- a byte that passes a test which a line feed doesn't pass
one : (p : ℕ → Bool) (b : ℕ) → p 10 ≡ false → p b ≡ true → feeds (b ∷ []) ≡ 0
one p b fails e = no_feeds p (b ∷ []) fails (and_both (p b) true e refl)

shaped : {bytes : List ℕ} → IsShaped bytes → feeds bytes ≡ 0
unfolding is_quotable
shaped (run b more e lead all single) =
    ap feeds e ∙ feeds_append (b ∷ []) more ∙ omega (arith, one is_lead b feed_no_lead lead, no_feeds goes_on more feed_goes_not_on all)
shaped (lone b e is) = ap feeds e ∙ one is_lone b refl is
shaped (quoted inner behind e all on) =
    ap feeds e ∙ feeds_append (34 ∷ inner) (34 ∷ behind) ∙ omega (arith, feeds_append (34 ∷ []) inner, feeds_append (34 ∷ []) behind, no_feeds is_quotable inner refl all, no_feeds goes_on behind feed_goes_not_on on)
shaped (sigiled b inner e sigil all) =
    ap feeds e ∙ feeds_append (b ∷ 34 ∷ inner) (34 ∷ []) ∙ omega (arith, feeds_append (b ∷ []) (34 ∷ inner), feeds_append (34 ∷ []) inner, no_feeds is_quotable inner refl all, one is_sigil b refl sigil)

spelled : {token : Token} {kind : TokenKind} → IsSpelled token kind → feeds (bytes_of token) ≡ 0
spelled {token} {kind} s = shaped (shape kind (bytes_of token) [] s.spelled)

pub kept : (bytes : List ℕ) → IsKeptAlone bytes → feeds bytes ≡ 0
kept bytes k =
    let front : feeds (take k.n bytes) ≡ 0 = shaped (shape k.kind (take k.n bytes) (drop k.n bytes) k.longest.of_kind) in
    let behind : feeds (drop k.n bytes) ≡ 0 = no_feeds in_line (drop k.n bytes) refl (ap (list_all in_line) (sym k.in_line) ∙ run_passes in_line (drop k.n bytes)) in
    ap feeds (sym (take-append-drop k.n bytes)) ∙ feeds_append (take k.n bytes) (drop k.n bytes) ∙ omega arith

group : (content : List ℕ) → IsBalanced content → feeds (content ++ 41 ∷ []) ≡ 0
group content balanced =
    let text : List ℕ = content ++ 41 ∷ [] in
    ap feeds (sym (take-length text)) ∙ group_feeds text 0 (record { start = 0; end = length text }) (omega arith)
    (record { start = refl; within = omega arith; content = content; balanced = balanced; bytes = take_all (length text - 0) text (omega arith) })

pub no_feed : (token : Token) → HasForm token → feeds (bytes_of token) ≡ 0
no_feed (Kept text) form = kept text (alone text form)
no_feed (KeptGroup text) form = ap feeds form.2 ∙ feeds_append (40 ∷ []) (form.0 ++ 41 ∷ []) ∙ omega (arith, group form.0 form.1)
no_feed (Label name) form = spelled (label_spelled name form)
no_feed (Word text) form = spelled (word_spelled text form)
no_feed (Number text) form = spelled (number_spelled text form)
no_feed (Register name) form = spelled (register_spelled name form)
no_feed (Function name) form = spelled (function_spelled name form)
no_feed (Group text) form = spelled (group_spelled text form)
no_feed (Metadata name) form = spelled (metadata_spelled name form)
no_feed (Quoted text) form = spelled (quoted_spelled text form)
no_feed (Mark byte) form = spelled (mark_spelled byte form)
no_feed End form = absurd form
no_feed Other form = absurd form
no_feed Bad form = absurd form
