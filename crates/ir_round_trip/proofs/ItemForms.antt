-- The text of an item that was read has the form of an item: read alone, it is the same item.
use Rattle.ir_round_trip.proofs.Common.{◌≡◌, ℕ, Bool, true, false, not, List, [], ◌∷◌, ◌++◌, None, refl, sym, ap, subst, ◌∙◌, inl, codes, IsTrue, bytes_eq, append-nil, begins_with, begins_name, is_digit, is_letter, is_name_byte, nothing, is_word, last_line, InHeader, TokensFrom, extent_of, Placed, Token, End, KeptGroup, Word, Group, Quoted, Mark, Is, LexemesAreTokens, Lexeme, HasForm, IsGroupText, AreLexemes, bytes_of, goes_on, placed_from, spelled, is_item_word, SpellsItem, of_word, of_word_and_group, of_number, of_group, of_quoted, of_key_and_value, IsItem}
use Rattle.ir_tokens.specs.declared.place.Extent.TheVariants as extents
use Rattle.ir_tokens.specs.Tokens.{Number}
use Rattle.ir_instructions.specs.Punctuation as marks
use Rattle.ir_round_trip.proofs.StatementForms.{Yields, on_line}

-- a token with no gap before it
abbrev alone : Token → Lexeme
alone t = record { gap = []; token = t }

-- in a header, with no word before it, a token extends no further
no_word : (line : ℕ) (bytes : List ℕ) → extent_of (InHeader None) line bytes ≡ extents.Itself
unfolding extent_of
no_word line bytes = by (bytes_eq bytes (codes "(")) refl
  where
    by : (b : Bool) → bytes_eq bytes (codes "(") ≡ b → extent_of (InHeader None) line bytes ≡ extents.Itself
    by true is = rw is refl
    by false is = rw is refl

-- neither `(` nor `=` continues a token
bracket_ends : (group : List ℕ) → IsGroupText group → not (begins_with goes_on ((group ++ []) ++ [])) ≡ true
unfolding is_name_byte begins_name is_letter is_digit
bracket_ends group (content, balanced, is) = subst (λ g. not (begins_with goes_on ((g ++ []) ++ [])) ≡ true) (sym is) refl

equals_ends : (rest : List ℕ) → not (begins_with goes_on (61 ∷ rest)) ≡ true
unfolding is_name_byte begins_name is_letter is_digit
equals_ends rest = refl

module _ (law : LexemesAreTokens) where
  -- the tokens of a text that is written by these lexemes
  tokens_alone : (text : List ℕ) (lexemes : List Lexeme) → spelled lexemes ++ [] ≡ text → AreLexemes (InHeader None) 1 lexemes []
      → (line : ℕ) × TokensFrom text (InHeader None) 0 (placed_from 1 lexemes ++ (line, End) ∷ [])
  tokens_alone text lexemes is are =
      let tokens = law (InHeader None) lexemes [] are (inl nothing) in
      let line : ℕ = last_line (spelled lexemes ++ []) in
      (line, subst (λ t. TokensFrom t (InHeader None) 0 (placed_from 1 lexemes ++ (line, End) ∷ [])) is tokens)

  -- one token
  one_token : (text : List ℕ) (t : Token) → bytes_of t ≡ text → AreLexemes (InHeader None) 1 (alone t ∷ []) [] → ((tokens rest : List Placed) → Is t tokens rest → SpellsItem text tokens rest) → IsItem text
  one_token text t is are spells =
      let (line, tokens) = tokens_alone text (alone t ∷ []) (append-nil (bytes_of t ++ []) ∙ append-nil (bytes_of t) ∙ is) are in
      (_, [], tokens, ((line, End) ∷ [], spells _ _ (_, refl), (line, refl)))

  word_and_group : (text name group : List ℕ) → IsTrue (is_item_word name) → text ≡ name ++ group → is_word name ≡ true → IsGroupText group → IsItem text
  word_and_group text name group is same form group_form =
      let spelling : spelled (alone (Word name) ∷ alone (KeptGroup group) ∷ []) ++ [] ≡ text = append-nil (name ++ (group ++ [])) ∙ ap (λ g. name ++ g) (append-nil group) ∙ sym same in
      let (line, tokens) = tokens_alone text (alone (Word name) ∷ alone (KeptGroup group) ∷ []) spelling
      (refl, form, (no_word _ name, bracket_ends group group_form), (refl, group_form, refl, tt)) in
      (_, [], tokens, ((line, End) ∷ [], of_word_and_group name group is same (_, (_, refl), (_, refl)), (line, refl)))

  key_and_value : (text key value : List ℕ) → text ≡ key ++ marks.equals ∷ value → HasForm (Quoted key) → HasForm (Quoted value) → IsItem text
  key_and_value text key value same key_form value_form =
      let lexemes : List Lexeme = alone (Quoted key) ∷ alone (Mark marks.equals) ∷ alone (Quoted value) ∷ [] in
      let spelling : spelled lexemes ++ [] ≡ text = append-nil (key ++ marks.equals ∷ (value ++ [])) ∙ ap (λ v. key ++ marks.equals ∷ v) (append-nil value) ∙ sym same in
      let (line, tokens) = tokens_alone text lexemes spelling
      (refl, key_form, (no_word _ key, equals_ends ((value ++ []) ++ [])), (refl, refl, (no_word _ (codes "="), refl), (refl, value_form, (no_word _ value, refl), tt))) in
      (_, [], tokens, ((line, End) ∷ [], of_key_and_value key value same (_, (_, refl), (_, (_, refl), (_, refl))), (line, refl)))

  pub item : (text : List ℕ) → Yields (SpellsItem text) (IsItem text)
  item text tokens rest (of_word is (line, one)) formed =
      let h = on_line line (Word text) tokens rest one formed in
      (h.1, one_token text (Word text) refl (refl, h.0, (no_word _ text, refl), tt) (λ ts r t. of_word is t))
  item text tokens rest (of_word_and_group name group is same (middle, (line, one), (line', two))) formed =
      let h = on_line line (Word name) tokens middle one formed in
      let k = on_line line' (KeptGroup group) middle rest two h.1 in
      (k.1, word_and_group text name group is same h.0 k.0)
  item text tokens rest (of_number (line, one)) formed =
      let h = on_line line (Number text) tokens rest one formed in
      (h.1, one_token text (Number text) refl (refl, h.0, (no_word _ text, refl), tt) (λ ts r t. of_number t))
  item text tokens rest (of_group (line, one)) formed =
      let h = on_line line (Group text) tokens rest one formed in
      (h.1, one_token text (Group text) refl (refl, h.0, (no_word _ text, refl), tt) (λ ts r t. of_group t))
  item text tokens rest (of_quoted (line, one)) formed =
      let h = on_line line (Quoted text) tokens rest one formed in
      (h.1, one_token text (Quoted text) refl (refl, h.0, (no_word _ text, refl), tt) (λ ts r t. of_quoted t))
  item text tokens rest (of_key_and_value key value same (middle, (line, one), (behind, (line', two), (line'', three)))) formed =
      let h = on_line line (Quoted key) tokens middle one formed in
      let k = on_line line' (Mark marks.equals) middle behind two h.1 in
      let l = on_line line'' (Quoted value) behind rest three k.1 in
      (l.1, key_and_value text key value same h.0 l.0)
