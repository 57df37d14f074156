-- Texts in a context with the tokens that they are lexed as, and how a gap or a token is put in front of one.
use Rattle.ir_text.proofs.Common.{◌≡◌, ℕ, ◌+◌, true, List, [], ◌∷◌, ◌++◌, refl, sym, ap, subst, ◌∙◌, append_assoc, add-zero, list_all, add_assoc, list_all-append, sum_by-append, is_space, feeds, Section, place_behind, Placed, Token, End, Lexeme, bytes_of, spelled, placed_from, HasForm, MayStand, AreLexemes}

-- In this context, where the text before it ends on this line, the text is lexed as these tokens. The last is the end,
-- on the line `last`.
pub record Streams (last : ℕ) (place : Section) (line : ℕ) (text : List ℕ) (tokens : List Placed) : Type 0 where
  pub lexemes : List Lexeme
  pub gap : List ℕ
  pub are : AreLexemes place line lexemes gap
  pub spaces : list_all is_space gap ≡ true
  pub text_is : text ≡ spelled lexemes ++ gap
  pub tokens_are : tokens ≡ placed_from line lexemes ++ (last, End) ∷ []

-- the same for an equal text
pub streams_as : {last : ℕ} {place : Section} {line : ℕ} {text other : List ℕ} {tokens : List Placed} → other ≡ text → Streams last place line text tokens → Streams last place line other tokens
streams_as same s = record { lexemes = s.lexemes; gap = s.gap; are = s.are; spaces = s.spaces; text_is = same ∙ s.text_is; tokens_are = s.tokens_are }

-- the empty text
pub streams_end : (last : ℕ) (place : Section) (line : ℕ) → Streams last place line [] ((last, End) ∷ [])
streams_end last place line = record { lexemes = []; gap = []; are = tt; spaces = refl; text_is = refl; tokens_are = refl }

-- spaces before spaces are spaces
all_spaces : (xs ys : List ℕ) → list_all is_space xs ≡ true → list_all is_space ys ≡ true → list_all is_space (xs ++ ys) ≡ true
all_spaces xs ys all others = rw (list_all-append is_space xs ys, all) others

-- the line behind a gap of two parts
line_behind_gap : (line : ℕ) (xs ys : List ℕ) → (line + feeds xs) + feeds ys ≡ line + feeds (xs ++ ys)
line_behind_gap line xs ys = add_assoc line (feeds xs) (feeds ys) ∙ ap (λ (n : ℕ). line + n) (sym (sum_by-append _ xs ys))

behind_gap_of : (last : ℕ) (place : Section) (line : ℕ) (g : List ℕ) (lexemes : List Lexeme) (gap : List ℕ) → list_all is_space g ≡ true → AreLexemes place (line + feeds g) lexemes gap → list_all is_space gap ≡ true
    → Streams last place line (g ++ (spelled lexemes ++ gap)) (placed_from (line + feeds g) lexemes ++ (last, End) ∷ [])
behind_gap_of last place line g [] gap all are spaces = record { lexemes = []; gap = g ++ gap; are = tt; spaces = all_spaces g gap all spaces; text_is = refl; tokens_are = refl }
behind_gap_of last place line g (l ∷ lexemes) gap all are spaces =
    let same : (line + feeds g) + feeds l.gap ≡ line + feeds (g ++ l.gap) = line_behind_gap line g l.gap in
    record {
      lexemes = record { gap = g ++ l.gap; token = l.token } ∷ lexemes;
      gap = gap;
      are = (
        all_spaces g l.gap all are.0,
        are.1,
        subst (λ (n : ℕ). MayStand place n l.token (spelled lexemes ++ gap)) same are.2,
        subst (λ (n : ℕ). AreLexemes (place_behind place (n, l.token)) n lexemes gap) same are.3,
      );
      spaces = spaces;
      text_is = simp append_assoc;
      tokens_are = ap (λ (n : ℕ). (n, l.token) ∷ (placed_from n lexemes ++ (last, End) ∷ [])) same;
    }

-- a gap in front of a text
pub behind_gap : {last : ℕ} {place : Section} {line : ℕ} {text : List ℕ} {tokens : List Placed} (g : List ℕ) → list_all is_space g ≡ true → Streams last place (line + feeds g) text tokens → Streams last place line (g ++ text) tokens
behind_gap {last} {place} {line} {text} {tokens} g all s =
    let of_lexemes = behind_gap_of last place line g s.lexemes s.gap all s.are s.spaces in
    let here : Streams last place line (g ++ (spelled s.lexemes ++ s.gap)) tokens = subst (λ (ts : List Placed). Streams last place line (g ++ (spelled s.lexemes ++ s.gap)) ts) (sym s.tokens_are) of_lexemes in
    streams_as (ap (λ (t : List ℕ). g ++ t) s.text_is) here

-- a token in front of a text
pub with_token : {last : ℕ} {place : Section} {line : ℕ} {text : List ℕ} {tokens : List Placed} (token : Token) → HasForm token → MayStand place line token text → Streams last (place_behind place (line, token)) line text tokens
    → Streams last place line (bytes_of token ++ text) ((line, token) ∷ tokens)
with_token {last} {place} {line} {text} {tokens} token form stands s =
    let same : line ≡ line + 0 = sym (add-zero line) in
    let there : MayStand place line token (spelled s.lexemes ++ s.gap) = subst (λ (t : List ℕ). MayStand place line token t) s.text_is stands in
    record {
      lexemes = record { gap = []; token = token } ∷ s.lexemes;
      gap = s.gap;
      are = (
        refl,
        form,
        subst (λ (n : ℕ). MayStand place n token (spelled s.lexemes ++ s.gap)) same there,
        subst (λ (n : ℕ). AreLexemes (place_behind place (n, token)) n s.lexemes s.gap) same s.are,
      );
      spaces = s.spaces;
      text_is = ap (λ (t : List ℕ). bytes_of token ++ t) s.text_is ∙ sym (append_assoc (bytes_of token) (spelled s.lexemes) s.gap);
      tokens_are = ap (λ (ts : List Placed). (line, token) ∷ ts) s.tokens_are ∙ ap (λ (n : ℕ). (n, token) ∷ (placed_from n s.lexemes ++ (last, End) ∷ [])) same;
    }
