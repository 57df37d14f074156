-- What the kind of a fault says of the token that it is at, on a line with this many marks that may open a level.
use Rattle.rule_viable_prefixes.proofs.Common.{◌≡◌, ◌≢◌, ℕ, ◌≤◌, Bool, true, false, cond, List, [], ◌∷◌, refl, sym, ap, subst, ◌∙◌, ◌⊎◌, inl, inr, arith, codes, bytes_eq, RuleFaultKind, BadByte, Syntax, LeftOut, TooMany, Limits, unexpected, misplaced_word, left_out, BitFact, Token, Line, Head, Name, Register, Word, Fact, Number, Arrow, Mark, Bad, Excess, same_word, Fitting, NounFits}
use Rattle.rule_tokens.specs.Tokens.{Opcode, Other}
use Rattle.rule_viable_prefixes.proofs.Reasons.{IsTooDeep, IsTooMany, name, register, constant, choice, statement, nesting, Says, kind_at, IsMisfit, itself, read_on}

module _ (limits : Limits) where
  -- why a word is told as `Syntax`, whatever the marks before it
  abbrev pub Excuse : ℕ → Fitting → List ℕ → Type 0
  Excuse opened fits word = (word ≡ codes "hasOneUse") ⊎ IsTooDeep limits opened fits (Word word)

  -- what the kind says of a token, where these others fit; `none` says why a word is told as `Syntax`
  pub record Told (opened : ℕ) (fits : Fitting) (none : List ℕ → Type 0) (token : Token) (behind : List Token) (kind : RuleFaultKind) : Type 0 where
    pub misfit : token ≢ Excess → IsMisfit limits opened fits token behind kind
    -- `Excess` is told as `TooMany`
    pub excess : token ≡ Excess → kind ≡ TooMany
    pub lacks : kind ≡ Syntax → (word : List ℕ) → token ≡ Word word → Excuse opened fits word ⊎ none word

  -- the same of the first of these tokens
  abbrev pub SaysFirst : ℕ → Fitting → (List ℕ → Type 0) → List Token → RuleFaultKind → Type 0
  SaysFirst opened fits none [] kind = kind ≡ Syntax
  SaysFirst opened fits none (token ∷ tokens) kind = Told opened fits none token tokens kind

  -- ---- what kinds say

  -- the token is no word, no byte that may not stand, and not `Excess`
  abbrev pub IsPlain : Token → Type 0
  IsPlain Bad = ⊥
  IsPlain Excess = ⊥
  IsPlain (Word word) = ⊥
  IsPlain token = Unit {0}

  no_bad : (token : Token) → IsPlain token → token ≡ Bad → ⊥
  no_bad token plain is = subst IsPlain is plain

  no_excess : (token : Token) → IsPlain token → token ≡ Excess → ⊥
  no_excess token plain is = subst IsPlain is plain

  no_word : (token : Token) (word : List ℕ) → IsPlain token → token ≡ Word word → ⊥
  no_word token word plain is = subst IsPlain is plain

  pub says_syntax : {opened : ℕ} {fits : Fitting} {none : List ℕ → Type 0} (token : Token) (more : List Token) → IsPlain token → Told opened fits none token more Syntax
  says_syntax token more plain = record { misfit = λ read. itself (no_bad token plain); excess = λ is. absurd (no_excess token plain is); lacks = λ kind word is. absurd (no_word token word plain is) }

  pub says_word : {opened : ℕ} {fits : Fitting} {none : List ℕ → Type 0} (word : List ℕ) (more : List Token) → Excuse opened fits word ⊎ none word → Told opened fits none (Word word) more Syntax
  says_word {opened} {fits} {none} word more why = record { misfit = λ read. itself (λ e. absurd cc); excess = λ is. absurd cc; lacks = λ kind other is. subst (λ (w : List ℕ). Excuse opened fits w ⊎ none w) (let equal = is in cc) why }

  pub says_too_many : {opened : ℕ} {fits : Fitting} {none : List ℕ → Type 0} (token : Token) (more : List Token) → IsTooMany limits opened fits token → Told opened fits none token more TooMany
  says_too_many token more is = record { misfit = λ read. itself is; excess = λ e. refl; lacks = λ kind word same_token. absurd cc }

  -- a word that isn't expected is told as `Syntax` for the reason that is given
  pub says_unexpected : {opened : ℕ} {fits : Fitting} {none : List ℕ → Type 0} (line : ℕ) (token : Token) (more : List Token) → ((word : List ℕ) → token ≡ Word word → Excuse opened fits word ⊎ none word) → Told opened fits none token more (unexpected line (token ∷ more)).kind
  says_unexpected line Bad more why = record { misfit = λ read. itself refl; excess = λ is. absurd cc; lacks = λ kind word is. absurd cc }
  says_unexpected line Excess more why = record { misfit = λ read. absurd (read refl); excess = λ is. refl; lacks = λ kind word is. absurd cc }
  says_unexpected line (Line number) more why = says_syntax (Line number) more tt
  says_unexpected line (Head text) more why = says_syntax (Head text) more tt
  says_unexpected line (Name text) more why = says_syntax (Name text) more tt
  says_unexpected line (Register text) more why = says_syntax (Register text) more tt
  says_unexpected line (Word text) more why = says_word text more (why text refl)
  says_unexpected line (Opcode text) more why = says_syntax (Opcode text) more tt
  says_unexpected line (Fact fact) more why = says_syntax (Fact fact) more tt
  says_unexpected line (Number text) more why = says_syntax (Number text) more tt
  says_unexpected line Arrow more why = says_syntax Arrow more tt
  says_unexpected line (Mark text) more why = says_syntax (Mark text) more tt
  says_unexpected line Other more why = says_syntax Other more tt

  pub says_misplaced : {opened : ℕ} {fits : Fitting} {none : List ℕ → Type 0} → NounFits fits → (line : ℕ) (word : List ℕ) (more : List Token) → Told opened fits none (Word word) more (misplaced_word line word).kind
  says_misplaced {opened} {fits} {none} noun line word more = by (bytes_eq word (codes "hasOneUse")) refl
    where
      by : (b : Bool) → bytes_eq word (codes "hasOneUse") ≡ b → Told opened fits none (Word word) more (cond b Syntax (LeftOut word))
      by true h = says_word word more (inl (inl (same_word word (codes "hasOneUse") h)))
      by false h =
          let other : word ≢ codes "hasOneUse" = λ same_word_. let is = ap (λ (w : List ℕ). bytes_eq w (codes "hasOneUse")) same_word_ in let both = sym h ∙ is in absurd cc in
          record { misfit = λ read. itself (refl, other, noun); excess = λ is. absurd cc; lacks = λ kind other is. absurd cc }

  pub says_left_out : {opened : ℕ} {fits : Fitting} {none : List ℕ → Type 0} → NounFits fits → (line : ℕ) (token : Token) (more : List Token) → Told opened fits none token more (left_out line (token ∷ more)).kind
  says_left_out noun line (Word word) more = says_misplaced noun line word more
  says_left_out noun line Bad more = says_unexpected line Bad more (λ word is. absurd cc)
  says_left_out noun line Excess more = says_unexpected line Excess more (λ word is. absurd cc)
  says_left_out noun line (Line number) more = says_syntax (Line number) more tt
  says_left_out noun line (Head text) more = says_syntax (Head text) more tt
  says_left_out noun line (Name text) more = says_syntax (Name text) more tt
  says_left_out noun line (Register text) more = says_syntax (Register text) more tt
  says_left_out noun line (Opcode text) more = says_syntax (Opcode text) more tt
  says_left_out noun line (Fact fact) more = says_syntax (Fact fact) more tt
  says_left_out noun line (Number text) more = says_syntax (Number text) more tt
  says_left_out noun line Arrow more = says_syntax Arrow more tt
  says_left_out noun line (Mark text) more = says_syntax (Mark text) more tt
  says_left_out noun line Other more = says_syntax Other more tt

  -- the kind of the first token, `Excess` included
  abbrev pub kind_first : List Token → RuleFaultKind
  kind_first (Excess ∷ tokens) = TooMany
  kind_first tokens = kind_at tokens

  -- a word that is nested too deep is told so, or by the token in the place of its `(`
  abbrev pub IsTold : List Token → RuleFaultKind → Type 0
  IsTold tokens kind = (kind ≡ TooMany) ⊎ (((more : List Token) → tokens ≡ Mark (codes "(") ∷ more → ⊥) × (kind ≡ kind_first tokens))

  pub says_deep : {opened : ℕ} {fits : Fitting} {none : List ℕ → Type 0} (word : List ℕ) → IsTooDeep limits opened fits (Word word) → (tokens : List Token) (kind : RuleFaultKind) → IsTold tokens kind → Told opened fits none (Word word) tokens kind
  says_deep {opened} {fits} {none} word deep tokens kind (inl is) = subst (Told opened fits none (Word word) tokens) (sym is) (says_too_many (Word word) tokens (nesting (Word word) deep))
  says_deep {opened} {fits} {none} word deep (Excess ∷ tokens) kind (inr (none_, is)) = subst (Told opened fits none (Word word) (Excess ∷ tokens)) (sym is) (says_too_many (Word word) (Excess ∷ tokens) (nesting (Word word) deep))
  says_deep {opened} {fits} {none} word deep tokens kind (inr (none_, is)) = record {
    misfit = λ read. read_on (tt, deep, none_, is);
    excess = λ is_excess. absurd cc;
    lacks = λ kind_ other is_other. inl (subst (Excuse opened fits) (let equal = is_other in cc) (inr deep));
  }

  pub says_deep_fact : {opened : ℕ} {fits : Fitting} {none : List ℕ → Type 0} (fact : BitFact) → IsTooDeep limits opened fits (Fact fact) → (tokens : List Token) (kind : RuleFaultKind) → IsTold tokens kind → Told opened fits none (Fact fact) tokens kind
  says_deep_fact {opened} {fits} {none} fact deep tokens kind (inl is) = subst (Told opened fits none (Fact fact) tokens) (sym is) (says_too_many (Fact fact) tokens (nesting (Fact fact) deep))
  says_deep_fact {opened} {fits} {none} fact deep (Excess ∷ tokens) kind (inr (none_, is)) = subst (Told opened fits none (Fact fact) (Excess ∷ tokens)) (sym is) (says_too_many (Fact fact) (Excess ∷ tokens) (nesting (Fact fact) deep))
  says_deep_fact {opened} {fits} {none} fact deep tokens kind (inr (none_, is)) = record { misfit = λ read. read_on (tt, deep, none_, is); excess = λ is_excess. absurd cc; lacks = λ kind_ other is_other. absurd cc }

-- ---- the same where more tokens fit, and behind more such marks

module _ (inner limits : Limits) (a b : ℕ) (bytes : inner.name_bytes ≡ limits.name_bytes) (deep : inner.nested ≤ a → limits.nested ≤ b) (P Q : Fitting) (f : (token : Token) → P token → Q token) where
  many_carried : (token : Token) → IsTooMany inner a P token → IsTooMany limits b Q token
  many_carried token (name text (short, long, le, sort, of_sort, is)) = name text (short, omega (arith, bytes, long), omega (arith, bytes, le), sort, of_sort, f (Name short) is)
  many_carried token (register text (short, long, le, sort, of_sort, is)) = register text (short, omega (arith, bytes, long), omega (arith, bytes, le), sort, of_sort, f (Register short) is)
  many_carried token (constant text (short, long, le, sort, of_sort, is)) = constant text (short, omega (arith, bytes, long), omega (arith, bytes, le), sort, of_sort, f (Word short) is)
  many_carried token (choice text (short, long, le, sort, of_sort, is)) = choice text (short, omega (arith, bytes, long), omega (arith, bytes, le), sort, of_sort, f (Word short) is)
  many_carried token (statement text (inl is)) = statement text (inl (f Arrow is))
  many_carried token (statement text (inr is)) = statement text (inr (f (Head (codes "Name:")) is))
  many_carried token (nesting t (far, nests, is)) = nesting t (deep far, nests, f (Number (codes "0")) is)

  pub kind_carried : (token : Token) (kind : RuleFaultKind) → Says inner a P token kind → Says limits b Q token kind
  kind_carried token BadByte is = is
  kind_carried token TooMany is = many_carried token is
  kind_carried token (LeftOut left) (is, other, (noun, is_noun, fits)) = (is, other, (noun, is_noun, f (Word noun) fits))
  kind_carried token Syntax is = is
  kind_carried token kind is = absurd is

  pub misfit_carried : (token : Token) (tokens : List Token) (kind : RuleFaultKind) → IsMisfit inner a P token tokens kind → IsMisfit limits b Q token tokens kind
  misfit_carried token tokens kind (itself is) = itself (kind_carried token kind is)
  misfit_carried token tokens kind (read_on (applied, (far, nests, fits), none, told)) = read_on (applied, (deep far, nests, f (Number (codes "0")) fits), none, told)

  pub says_carried : {C D : List ℕ → Type 0} (tokens : List Token) → ((word : List ℕ) (rest : List Token) → tokens ≡ Word word ∷ rest → C word → D word)
      → (kind : RuleFaultKind) → SaysFirst inner a P C tokens kind → SaysFirst limits b Q D tokens kind
  says_carried [] g kind is = is
  says_carried {C} {D} (token ∷ tokens) g kind is = record { misfit = λ read. misfit_carried token tokens kind (is.misfit read); excess = is.excess; lacks = λ syntax_ word is_word. by word is_word (is.lacks syntax_ word is_word) }
    where
      by : (word : List ℕ) → token ≡ Word word → Excuse inner a P word ⊎ C word → Excuse limits b Q word ⊎ D word
      by word is_word (inl (inl one)) = inl (inl one)
      by word is_word (inl (inr (far, nests, fits))) = inl (inr (deep far, nests, f (Number (codes "0")) fits))
      by word is_word (inr none) = inr (g word tokens (ap (λ (t : Token). t ∷ tokens) is_word) none)

module _ (limits : Limits) (a b : ℕ) (le : a ≤ b) where
  pub says_wider : {C D : List ℕ → Type 0} (P Q : Fitting) → ((token : Token) → P token → Q token) → (tokens : List Token) → ((word : List ℕ) (rest : List Token) → tokens ≡ Word word ∷ rest → C word → D word)
      → (kind : RuleFaultKind) → SaysFirst limits a P C tokens kind → SaysFirst limits b Q D tokens kind
  says_wider P Q f tokens g kind is = says_carried limits limits a b refl (λ far. omega (arith, le, far)) P Q f tokens g kind is
