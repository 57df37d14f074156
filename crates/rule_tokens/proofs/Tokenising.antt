-- The tokens of a text from a place on: one step of the loop.
use Rattle.rule_tokens.proofs.Common.{◌≡◌, ◌≢◌, ℕ, zero, suc, ◌+◌, ◌-◌, ◌<◌, ◌≤◌, Bool, true, false, cond, eqb, List, [], ◌∷◌, ◌++◌, length, refl, sym, ap, subst, ◌∙◌, append_assoc, None, arith, codes, bytes_eq, append-nil, prefix_len-le-length, is_blank, RuleKind, RuleToken, Span, IsNameNext, rest_of_line, IsNextRuleToken, IsBadNext, Begins, kind_of, IsLongestToken, kind_of-empty, rest_within, Context, at_start, context_behind, behind_name, Token, Line, Bad, Place, AtName, AtToken, token_on, token_of, token_at, is_called, place_behind, bytes_at, IsNameToken, TokensFrom, ends, token, name, bad_token}
use Rattle.scan.specs.declared.rule_token.RuleKind.TheVariants as kinds

-- a token other than the end has a byte
longest_some : (operator : Bool) (text : List ℕ) (kind : RuleKind) (n : ℕ) → IsLongestToken operator text kind n → 0 < n
longest_some operator text kind zero h = let none : kind_of operator [] text ≡ None = kind_of-empty operator text in let some = h.of_kind in absurd cc
longest_some operator text kind (suc n) h = omega arith

begins_some : (operator : Bool) (text : List ℕ) (kind : RuleKind) (n : ℕ) → kind ≢ kinds.End → Begins operator text kind n → 0 < n
begins_some operator text kinds.End n other h = absurd (other refl)
begins_some operator text kinds.Other n other h = let one : n ≡ 1 = h.1 in omega arith
begins_some operator text kinds.Head n other h = longest_some operator text kinds.Head n h
begins_some operator text kinds.Register n other h = longest_some operator text kinds.Register n h
begins_some operator text kinds.Word n other h = longest_some operator text kinds.Word n h
begins_some operator text kinds.Number n other h = longest_some operator text kinds.Number n h
begins_some operator text kinds.Arrow n other h = longest_some operator text kinds.Arrow n h
begins_some operator text kinds.Mark n other h = longest_some operator text kinds.Mark n h

pub token_moves : (operator : Bool) (text : List ℕ) (at : ℕ) (t : RuleToken) → IsNextRuleToken operator text at t → t.kind ≢ kinds.End → at < t.span.end
token_moves operator text at t h other = let some : 0 < t.span.end - t.span.start = begins_some _ _ t.kind _ other h.token in omega (arith, h.order.0, h.order.1)

-- a name lies within the text
pub name_within_text : (text : List ℕ) (at : ℕ) (span : Span) → at ≤ length text → IsNameNext text at span → (span.start ≤ span.end) × (span.end ≤ length text)
name_within_text text at span le h =
    (omega (arith, h.start, h.end), omega (arith, h.start, h.end, rest_within text at le, prefix_len-le-length is_blank (rest_of_line text at)))

added_on : (front : List Token) (same : Bool) (line : ℕ) (t : Token) (tokens : List Token) → (front ++ cond same (t ∷ []) (Line line ∷ t ∷ [])) ++ tokens ≡ front ++ cond same (t ∷ tokens) (Line line ∷ t ∷ tokens)
added_on front true line t tokens = append_assoc front (t ∷ []) tokens
added_on front false line t tokens = append_assoc front (Line line ∷ t ∷ []) tokens

-- a token is appended to those in front
pub added : (front : List Token) (before line : ℕ) (t : Token) (tokens : List Token) → (front ++ token_on before line t []) ++ tokens ≡ front ++ token_on before line t tokens
added front before line t tokens = added_on front (eqb line before) line t tokens

-- the loop: with any tokens of the text from this place on, those in front are tokens of the whole text
abbrev pub SoFar : List ℕ → Place → ℕ → ℕ → List Token → Type 0
SoFar text place at before front = (tokens : List Token) (last : ℕ) → TokensFrom text place at before tokens last → TokensFrom text (AtToken at_start) 0 0 (front ++ tokens) last

pub token_read : (source text : List ℕ) (c : Context) (at at' before : ℕ) (front front' : List Token) (t : RuleToken) (found : Token) (bytes : List ℕ) (called : Bool) (place : Place) → source ≡ text → SoFar text (AtToken c) at before front → IsNextRuleToken c.operator source at t → t.kind ≢ kinds.End
    → bytes ≡ bytes_at text t.span → called ≡ is_called text t.span.end → found ≡ token_of c called t.kind bytes → place_behind c t.kind bytes ≡ place → front' ≡ front ++ token_on before t.line found [] → at' ≡ t.span.end → SoFar text place at' t.line front'
token_read source text c at at' before front front' t found bytes called place same so_far next other is call token_is place_is made goes tokens last h =
    let next' : IsNextRuleToken c.operator text at t = subst (λ (s : List ℕ). IsNextRuleToken c.operator s at t) same next in
    let found_is : found ≡ token_at text c t = token_is ∙ ap (λ (bs : List ℕ). token_of c called t.kind bs) is ∙ ap (λ (b : Bool). token_of c b t.kind (bytes_at text t.span)) call in
    let behind : place ≡ place_behind c t.kind (bytes_at text t.span) = sym place_is ∙ ap (place_behind c t.kind) is in
    let step : TokensFrom text (AtToken c) at before (token_on before t.line (token_at text c t) tokens) last
    = token t next' other (subst (λ (p : Place). TokensFrom text p t.span.end t.line tokens last) behind (subst (λ (i : ℕ). TokensFrom text place i t.line tokens last) goes h)) in
    let whole : front' ++ tokens ≡ front ++ token_on before t.line (token_at text c t) tokens
    = ap (λ (ts : List Token). ts ++ tokens) made ∙ added front before t.line found tokens ∙ ap (λ (f : Token). front ++ token_on before t.line f tokens) found_is in
    subst (λ (ts : List Token). TokensFrom text (AtToken at_start) 0 0 ts last) (sym whole) (so_far _ last step)

pub name_read : (text : List ℕ) (c : Context) (at line : ℕ) (front : List Token) (found : Token) → SoFar text (AtName c) at line front → IsNameToken text at found → SoFar text (AtToken (behind_name c)) (at + length (rest_of_line text at)) line (front ++ found ∷ [])
name_read text c at line front found so_far is tokens last h =
    subst (λ (ts : List Token). TokensFrom text (AtToken at_start) 0 0 ts last) (sym (append_assoc front (found ∷ []) tokens)) (so_far (found ∷ tokens) last (name is h))

pub end_read : (source text : List ℕ) (c : Context) (at before : ℕ) (front : List Token) (t : RuleToken) → source ≡ text → SoFar text (AtToken c) at before front → IsNextRuleToken c.operator source at t → t.kind ≡ kinds.End → TokensFrom text (AtToken at_start) 0 0 front t.line
end_read source text c at before front t same so_far next end =
    subst (λ (ts : List Token). TokensFrom text (AtToken at_start) 0 0 ts t.line) (append-nil front) (so_far [] t.line (ends t (subst (λ (s : List ℕ). IsNextRuleToken c.operator s at t) same next) end refl))

pub bad_read : (source text : List ℕ) (c : Context) (at before line : ℕ) (front front' : List Token) → source ≡ text → SoFar text (AtToken c) at before front → IsBadNext source at line → front' ≡ front ++ token_on before line Bad [] → TokensFrom text (AtToken at_start) 0 0 front' line
bad_read source text c at before line front front' same so_far bad made =
    subst (λ (ts : List Token). TokensFrom text (AtToken at_start) 0 0 ts line) (sym made) (so_far _ line (bad_token (subst (λ (s : List ℕ). IsBadNext s at line) same bad)))

pub place_name : (c : Context) (kind : RuleKind) (bytes : List ℕ) → bytes_eq bytes (codes "Name:") ≡ true → place_behind c kind bytes ≡ AtName c
place_name c kind bytes e = rw e refl

pub place_token : (c d : Context) (kind : RuleKind) (bytes : List ℕ) → bytes_eq bytes (codes "Name:") ≡ false → d ≡ context_behind c kind bytes → place_behind c kind bytes ≡ AtToken d
place_token c d kind bytes e is = rw e (ap AtToken (sym is))
