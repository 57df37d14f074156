-- The text of lexemes is lexed as their tokens.
use Rattle.ir_text.proofs.Common.{◌≡◌, ℕ, ◌+◌, ◌-◌, Bool, true, false, not, List, [], ◌∷◌, ◌++◌, length, take, refl, sym, ap, subst, ◌∙◌, append_assoc, arith, list_all, drop-length, false≢true, take_all, is_space, IsLastGap, feeds, last_line, feeds_append, Section, AtEntry, InHeader, InBody, IsTokenAt, TokensFrom, itself, last, token, begins_kept, extent_of, place_behind, Token, End, Other, Bad, Kept, KeptGroup, Label, Word, Group, Metadata, Quoted, Mark, is_last, AreLexemes, HasForm, Lexeme, MayStand, bytes_of, line_behind, placed_from, spelled, LexemesAreTokens}
use Rattle.std.proofs.Common.{length-append}
use Rattle.scan.specs.declared.ir.token.TokenKind.TheVariants as kinds
use Rattle.ir_tokens.specs.declared.place.Extent.TheVariants as extents
use Rattle.ir_tokens.specs.Tokens.{Number, Register, Function}
use Rattle.ir_text.proofs.Feeds.{no_feed}
use Rattle.ir_text.proofs.KeptLines.{alone, line_stands}
use Rattle.ir_text.proofs.Spelled.{function_spelled, group_spelled, label_spelled, metadata_spelled, number_spelled, quoted_spelled, register_spelled, word_spelled}
use Rattle.ir_text.proofs.Standing.{end_is_next, ended_stands, gap_is, group_stands, mark_stands}

not_true : (b : Bool) → not b ≡ true → b ≡ false
not_true true e = absurd (false≢true e)
not_true false e = refl

-- a lexeme in a text is lexed as its token
lexeme_stands : (text before gap rest : List ℕ) (place : Section) (line : ℕ) (t : Token) → text ≡ before ++ (gap ++ (bytes_of t ++ rest)) → list_all is_space gap ≡ true → HasForm t
    → MayStand place (line + feeds gap) t rest → line ≡ feeds before + 1 → IsTokenAt text place (length before) (line + feeds gap, t) (length before + length gap + length (bytes_of t))
lexeme_stands text before gap rest place line (Kept bytes) e h form may l = line_stands text before gap rest bytes place line (alone bytes form) e (gap_is gap h) may.0 may.1 l
lexeme_stands text before gap rest place line (KeptGroup bytes) e h form may l = group_stands text before gap rest bytes form.0 place line form.1 form.2 e (gap_is gap h) may l
lexeme_stands text before gap rest place line (Label name) e h form may l = ended_stands text before gap rest place line (Label name) kinds.Label (label_spelled name form) e (gap_is gap h) (not_true _ may.1) may.0 l
lexeme_stands text before gap rest place line (Word bytes) e h form may l = ended_stands text before gap rest place line (Word bytes) kinds.Word (word_spelled bytes form) e (gap_is gap h) (not_true _ may.1) may.0 l
lexeme_stands text before gap rest place line (Number bytes) e h form may l = ended_stands text before gap rest place line (Number bytes) kinds.Number (number_spelled bytes form) e (gap_is gap h) (not_true _ may.1) may.0 l
lexeme_stands text before gap rest place line (Register name) e h form may l = ended_stands text before gap rest place line (Register name) kinds.Register (register_spelled name form) e (gap_is gap h) (not_true _ may.1) may.0 l
lexeme_stands text before gap rest place line (Function name) e h form may l = ended_stands text before gap rest place line (Function name) kinds.Function (function_spelled name form) e (gap_is gap h) (not_true _ may.1) may.0 l
lexeme_stands text before gap rest place line (Group bytes) e h form may l = ended_stands text before gap rest place line (Group bytes) kinds.Group (group_spelled bytes form) e (gap_is gap h) (not_true _ may.1) may.0 l
lexeme_stands text before gap rest place line (Metadata name) e h form may l = ended_stands text before gap rest place line (Metadata name) kinds.Metadata (metadata_spelled name form) e (gap_is gap h) (not_true _ may.1) may.0 l
lexeme_stands text before gap rest place line (Quoted bytes) e h form may l = ended_stands text before gap rest place line (Quoted bytes) kinds.Quoted (quoted_spelled bytes form) e (gap_is gap h) (not_true _ may.1) may.0 l
lexeme_stands text before gap rest place line (Mark byte) e h form may l = mark_stands text before gap rest place line byte form e (gap_is gap h) may.1 may.0 l
lexeme_stands text before gap rest place line End e h form may l = absurd form
lexeme_stands text before gap rest place line Other e h form may l = absurd form
lexeme_stands text before gap rest place line Bad e h form may l = absurd form

-- reading does not end with a token that has a form
not_last : (t : Token) → HasForm t → is_last t ≡ false
not_last (Kept text) form = refl
not_last (KeptGroup text) form = refl
not_last (Label name) form = refl
not_last (Word text) form = refl
not_last (Number text) form = refl
not_last (Register name) form = refl
not_last (Function name) form = refl
not_last (Group text) form = refl
not_last (Metadata name) form = refl
not_last (Quoted text) form = refl
not_last (Mark byte) form = refl
not_last End form = absurd form
not_last Other form = absurd form
not_last Bad form = absurd form

pub none_extends : (place : Section) (line : ℕ) → extent_of place line [] ≡ extents.Itself
unfolding extent_of begins_kept
none_extends (AtEntry before) line = refl
none_extends (InHeader word) line = refl
none_extends (InBody word) line = refl

tokens_from : (lexemes : List Lexeme) (text before gap : List ℕ) (place : Section) (line : ℕ) → text ≡ before ++ (spelled lexemes ++ gap) → AreLexemes place line lexemes gap → IsLastGap gap
    → line ≡ feeds before + 1 → TokensFrom text place (length before) (placed_from line lexemes ++ (last_line text, End) ∷ [])
tokens_from [] text before gap place line e all h l =
    last (itself _ (end_is_next text before gap e h) (ap (λ (t : List ℕ). extent_of place (last_line text) (take (length text + 0 - length text) t)) (drop-length text) ∙ ap (extent_of place (last_line text)) (take_all (length text + 0 - length text) [] (omega arith)) ∙ none_extends place (last_line text))) refl
tokens_from (x ∷ lexemes) text before gap place line e all h l =
    let bytes : List ℕ = bytes_of x.token in
    let rest : List ℕ = spelled lexemes ++ gap in
    let behind : List ℕ = (before ++ x.gap) ++ bytes in
    let split : text ≡ before ++ (x.gap ++ (bytes ++ rest)) =
    e ∙ ap (λ (t : List ℕ). before ++ t) (append_assoc (x.gap ++ bytes) (spelled lexemes) gap ∙ append_assoc x.gap bytes rest) in
    let there : text ≡ behind ++ rest = split ∙ sym (append_assoc before x.gap (bytes ++ rest)) ∙ sym (append_assoc (before ++ x.gap) bytes rest) in
    let end : length behind ≡ length before + length x.gap + length bytes = omega (arith, length-append (before ++ x.gap) bytes, length-append before x.gap) in
    let next : line_behind line x ≡ feeds behind + 1 = omega (arith, feeds_append (before ++ x.gap) bytes, feeds_append before x.gap, no_feed x.token all.1) in
    token (lexeme_stands text before x.gap rest place line x.token split all.0 all.1 all.2 l) (not_last x.token all.1)
    (subst (λ (i : ℕ). TokensFrom text (place_behind place (line_behind line x, x.token)) i (placed_from (line_behind line x) lexemes ++ (last_line text, End) ∷ [])) end
    (tokens_from lexemes text behind gap (place_behind place (line_behind line x, x.token)) (line_behind line x) there all.3 h next))

pub lexemes_are_tokens : LexemesAreTokens
lexemes_are_tokens place lexemes gap all h = tokens_from lexemes (spelled lexemes ++ gap) [] gap place 1 refl all h refl
