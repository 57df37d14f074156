-- What is read is what the grammar spells with the tokens that were taken.
use Rattle.rule_tokens.proofs.Common.{◌≡◌, ℕ, ◌≤◌, true, leb, List, [], ◌∷◌, ◌++◌, length, Option, Some, None, Ok, refl, sym, ap, subst, ◌∙◌, append_assoc, bytes_eq, leb-true, same_word, TooMany, Limits, type_in, Part, Is, Nothing, ◌⨾◌, Maybe, fault, name_within, type_at, type_or_word, maybe_type, line_end, SpellsType, Token, Line, Word, Mark}
use Rattle.rule_tokens.proofs.Steps.{ok_is, tested, not_left_out}
use Rattle.rule_tokens.proofs.Types.{type_in-is}

-- the tokens are some that spell the part, and the rest
pub record Takes (Spells : Part) (tokens rest : List Token) : Type 0 where
  pub own : List Token
  pub is_own : Spells own
  pub whole : tokens ≡ own ++ rest

pub taken_to : {P : Part} {tokens middle rest : List Token} → Takes P tokens middle → middle ≡ rest → Takes P tokens rest
taken_to p same = record { own = p.own; is_own = p.is_own; whole = p.whole ∙ ap (λ (ts : List Token). p.own ++ ts) same }

pub both : {P Q : Part} {tokens middle rest : List Token} → Takes P tokens middle → Takes Q middle rest → Takes (P ⨾ Q) tokens rest
both {rest = rest} p q = record {
  own = p.own ++ q.own;
  is_own = (p.own, q.own, p.is_own, q.is_own, refl);
  whole = p.whole ∙ ap (λ (ts : List Token). p.own ++ ts) q.whole ∙ sym (append_assoc p.own q.own rest);
}

pub nothing : (tokens : List Token) → Takes Nothing tokens tokens
nothing tokens = record { own = []; is_own = refl; whole = refl }

-- a part of one token
pub one : {P : Part} (token : Token) (rest : List Token) → P (token ∷ []) → Takes P (token ∷ rest) rest
one token rest is = record { own = token ∷ []; is_own = is; whole = refl }

pub word_as : (word wanted : List ℕ) (rest : List Token) → word ≡ wanted → Takes (Is (Word wanted)) (Word word ∷ rest) rest
word_as word wanted rest same = one (Word word) rest (ap (λ (w : List ℕ). Word w ∷ []) same)

pub name_within-is : (limits : Limits) (line : ℕ) (name held : List ℕ) → name_within limits line name ≡ Ok held → (length held ≤ limits.name_bytes) × (name ≡ held)
unfolding name_within
name_within-is limits line name held e =
    let t = tested (leb (length name) limits.name_bytes) name held (fault line TooMany) e in
    (subst (λ (n : List ℕ). length n ≤ limits.name_bytes) t.1 (leb-true (length name) limits.name_bytes t.0), t.1)

pub type_at-is : (line : ℕ) (tokens : List Token) (x : ℕ × List Token) → type_at line tokens ≡ Ok x → Takes (SpellsType x.0) tokens x.1
unfolding type_at
type_at-is line (Word word ∷ rest) x e =
    let n = not_left_out line word (type_in word) rest x e in
    taken_to (one (Word word) rest (word, type_in-is word x.0 n.0, refl)) n.1
type_at-is line tokens x e = absurd cc

pub type_or_word-is : (word : List ℕ) (found : Option ℕ) (rest : List Token) → type_in word ≡ found → Takes (Maybe SpellsType (type_or_word word found rest).0) (Word word ∷ rest) (type_or_word word found rest).1
type_or_word-is word (Some width) rest t = one (Word word) rest (word, type_in-is word width t, refl)
type_or_word-is word None rest t = nothing (Word word ∷ rest)

pub maybe_type-is : (tokens : List Token) → Takes (Maybe SpellsType (maybe_type tokens).0) tokens (maybe_type tokens).1
unfolding maybe_type
maybe_type-is (Word word ∷ rest) = type_or_word-is word (type_in word) rest refl
maybe_type-is tokens = nothing tokens

pub mark_is : (wanted mark : List ℕ) (rest : List Token) → bytes_eq mark wanted ≡ true → Mark mark ∷ rest ≡ Mark wanted ∷ rest
mark_is wanted mark rest e = ap (λ (m : List ℕ). Mark m ∷ rest) (same_word mark wanted e)

pub line_end-is : (line : ℕ) (tokens rest : List Token) → line_end line tokens ≡ Ok rest → tokens ≡ rest
line_end-is line [] rest e = ok_is _ _ e
line_end-is line (Line next ∷ behind) rest e = ok_is _ _ e
line_end-is line tokens rest e = absurd cc
