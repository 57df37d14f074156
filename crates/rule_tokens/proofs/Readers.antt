-- Each text has exactly one list of tokens.
use Rattle.rule_tokens.proofs.Common.{◌≡◌, ◌≢◌, ℕ, zero, suc, ◌+◌, ◌-◌, ◌<◌, ◌≤◌, max, Bool, true, false, List, [], ◌∷◌, Result, Ok, Err, length, refl, sym, ap, subst, ◌∙◌, ⊎_elim, ◌⊎◌, inl, inr, arith, codes, bytes_eq, list_any, false≢true, RuleKind, RuleToken, BadByte, Span, is_bad, IsNext, OneTokenAtAPlace, line_of, rest_of_line, blanks_before, blanks_behind, IsNextRuleToken, IsBadNext, which, rest_within, Context, at_start, context_behind, behind_name, Token, Name, Bad, Place, AtName, AtToken, token_on, token_at, place_behind, bytes_at, IsNameToken, TokensFrom, AreTokens, ends, token, name, bad_token, bad_name}
use Rattle.scan.specs.declared.rule_token.RuleKind.TheVariants as kinds
use Rattle.rule_tokens.proofs.Nexts.{next_exists}
use Rattle.rule_tokens.proofs.Tokenising.{token_moves, place_name, place_token}

-- ---- no two lists

abbrev ok_of : RuleToken → Result RuleToken BadByte
ok_of t = Ok t

abbrev err_of : BadByte → Result RuleToken BadByte
err_of e = Err e

abbrev bad_on : ℕ → BadByte
bad_on line = record { line = line }

same_tokens : OneTokenAtAPlace → (operator : Bool) (text : List ℕ) (at : ℕ) (t u : RuleToken) → at ≤ length text → IsNextRuleToken operator text at t → IsNextRuleToken operator text at u → t ≡ u
same_tokens one operator text at t u le h k = let e : ok_of t ≡ ok_of u = one operator text at (Ok t) (Ok u) le h k in cc

no_both : OneTokenAtAPlace → (operator : Bool) (text : List ℕ) (at : ℕ) (t : RuleToken) (line : ℕ) → at ≤ length text → IsNextRuleToken operator text at t → IsBadNext text at line → ⊥
no_both one operator text at t line le h k = let e : ok_of t ≡ err_of (bad_on line) = one operator text at (Ok t) (Err (bad_on line)) le h k in cc

same_lines : OneTokenAtAPlace → (operator : Bool) (text : List ℕ) (at line other : ℕ) → at ≤ length text → IsBadNext text at line → IsBadNext text at other → line ≡ other
same_lines one operator text at line other le h k =
    let e : err_of (bad_on line) ≡ err_of (bad_on other) = one operator text at (Err (bad_on line)) (Err (bad_on other)) le h k in
    let same : bad_on line ≡ bad_on other = cc in ap (λ (b : BadByte). b.line) same

abbrev span_of : ℕ → ℕ → Span
span_of start end = record { start = start; end = end }

same_names : (text : List ℕ) (at : ℕ) (a b : Token) → IsNameToken text at a → IsNameToken text at b → a ≡ b
same_names text at a b (span, h, is) (span', h', is') =
    let start : span.start ≡ span'.start = h.start ∙ sym h'.start in
    let end : span.end ≡ span'.end = h.end ∙ ap (λ (s : ℕ). max s (at + (length (rest_of_line text at) - blanks_behind (rest_of_line text at)))) start ∙ sym h'.end in
    let same : span ≡ span' = ap (λ (s : ℕ). span_of s span.end) start ∙ ap (λ (e : ℕ). span_of span'.start e) end in
    is ∙ ap (λ (s : Span). Name (bytes_at text s)) same ∙ sym is'

-- a token that is the same in both, and the lists behind it
same_behind : (text : List ℕ) (c : Context) (line : ℕ) (t u : RuleToken) (tokens others : List Token) (last end : ℕ) → t ≡ u → TokensFrom text (place_behind c u.kind (bytes_at text u.span)) u.span.end u.line others end
    → ((b : List Token) (e : ℕ) → TokensFrom text (place_behind c t.kind (bytes_at text t.span)) t.span.end t.line b e → (tokens ≡ b) × (last ≡ e))
    → (token_on line t.line (token_at text c t) tokens ≡ token_on line u.line (token_at text c u) others) × (last ≡ end)
same_behind text c line t u tokens others last end same h one =
    let r = one others end (subst (λ (v : RuleToken). TokensFrom text (place_behind c v.kind (bytes_at text v.span)) v.span.end v.line others end) (sym same) h) in (
      ap (λ (ts : List Token). token_on line t.line (token_at text c t) ts) r.0
          ∙ ap (λ (v : RuleToken). token_on line v.line (token_at text c v) others) same,
      r.1,
    )

pub one_reading : OneTokenAtAPlace → (text : List ℕ) {place : Place} {at line last : ℕ} {tokens : List Token} → TokensFrom text place at line tokens last → at ≤ length text → (others : List Token) (end : ℕ) → TokensFrom text place at line others end → (tokens ≡ others) × (last ≡ end)
one_reading one text (ends {c} {at} {line} {last} t h is line_is) le others end (ends u k is' line_is') = (refl, line_is ∙ ap (λ (v : RuleToken). v.line) (same_tokens one c.operator text at t u le h k) ∙ sym line_is')
one_reading one text (ends {c} {at} {line} {last} t h is line_is) le others end (token u k other behind) = absurd (other (ap (λ (v : RuleToken). v.kind) (sym (same_tokens one c.operator text at t u le h k)) ∙ is))
one_reading one text (ends {c} {at} {line} {last} t h is line_is) le others end (bad_token k) = absurd (no_both one c.operator text at t _ le h k)
one_reading one text (token {c} {at} {line} {last} {tokens} t h other behind) le others end (ends u k is line_is) = absurd (other (ap (λ (v : RuleToken). v.kind) (same_tokens one c.operator text at t u le h k) ∙ is))
one_reading one text (token {c} {at} {line} {last} {tokens} t h other behind) le others end (token {tokens = tokens'} u k other' behind') =
    same_behind text c line t u tokens tokens' last end (same_tokens one c.operator text at t u le h k) behind' (λ b e d. one_reading one text behind h.order.2 b e d)
one_reading one text (token {c} {at} {line} {last} {tokens} t h other behind) le others end (bad_token k) = absurd (no_both one c.operator text at t _ le h k)
one_reading one text (bad_token {c} {at} {line} {last} h) le others end (ends u k is line_is) = absurd (no_both one c.operator text at u _ le k h)
one_reading one text (bad_token {c} {at} {line} {last} h) le others end (token u k other behind) = absurd (no_both one c.operator text at u _ le k h)
one_reading one text (bad_token {c} {at} {line} {last} h) le others end (bad_token k) =
    let same : last ≡ end = same_lines one c.operator text at last end le h k in
    (ap (λ (l : ℕ). token_on line l Bad []) same, same)
one_reading one text (name {c} {at} {line} {last} {found} {tokens} h behind) le others end (name {found = found'} {tokens = tokens'} k behind') =
    let r = one_reading one text behind (rest_within text at le) tokens' end behind' in
    (ap (λ (f : Token). f ∷ tokens) (same_names text at found found' h k) ∙ ap (λ (ts : List Token). found' ∷ ts) r.0, r.1)
one_reading one text (name {c} {at} {line} {last} {found} {tokens} h behind) le others end (bad_name k) = absurd (false≢true (sym h.1.printable ∙ k.bad))
one_reading one text (bad_name {c} {at} {line} {last} h) le others end (name k behind) = absurd (false≢true (sym k.1.printable ∙ h.bad))
one_reading one text (bad_name {c} {at} {line} {last} h) le others end (bad_name k) = (refl, h.line_is ∙ sym k.line_is)

-- ---- some list

record Reading (text : List ℕ) (place : Place) (at line : ℕ) : Type 0 where
  tokens : List Token
  last : ℕ
  are : TokensFrom text place at line tokens last

end_or_other : (kind : RuleKind) → (kind ≡ kinds.End) ⊎ (kind ≢ kinds.End)
end_or_other kinds.End = inl refl
end_or_other kind = inr (λ e. cc)

name_reading : (text : List ℕ) (c : Context) (at line : ℕ) → Reading text (AtToken (behind_name c)) (at + length (rest_of_line text at)) line → Reading text (AtName c) at line
name_reading text c at line behind = ⊎_elim
    (λ (bad : list_any is_bad (rest_of_line text at) ≡ true). record { tokens = Bad ∷ []; last = line_of text at; are = bad_name (record { bad = bad; line_is = refl }) })
    (λ (good : list_any is_bad (rest_of_line text at) ≡ false).
    let start : ℕ = at + blanks_before (rest_of_line text at) in
    let span : Span = record { start = start; end = max start (at + (length (rest_of_line text at) - blanks_behind (rest_of_line text at))) } in
    record { tokens = Name (bytes_at text span) ∷ behind.tokens; last = behind.last; are = name (span, record { printable = good; start = refl; end = refl }, refl) behind.are })
    (which (list_any is_bad (rest_of_line text at)))

token_reading : (text : List ℕ) (c : Context) (at line : ℕ) (t : RuleToken) → IsNextRuleToken c.operator text at t → t.kind ≢ kinds.End → Reading text (place_behind c t.kind (bytes_at text t.span)) t.span.end t.line → Reading text (AtToken c) at line
token_reading text c at line t h other behind = record { tokens = token_on line t.line (token_at text c t) behind.tokens; last = behind.last; are = token t h other behind.are }

behind_it : (text : List ℕ) (c : Context) (at : ℕ) (t : RuleToken) → at < t.span.end → t.span.end ≤ length text → ((d : Context) (next line : ℕ) → at < next → next ≤ length text → Reading text (AtToken d) next line) → Reading text (place_behind c t.kind (bytes_at text t.span)) t.span.end t.line
behind_it text c at t more within others = ⊎_elim
    (λ (e : bytes_eq (bytes_at text t.span) (codes "Name:") ≡ true).
    let rest : t.span.end + length (rest_of_line text t.span.end) ≤ length text = rest_within text t.span.end within in
    subst (λ (p : Place). Reading text p t.span.end t.line) (sym (place_name c t.kind (bytes_at text t.span) e))
    (name_reading text c t.span.end t.line (others (behind_name c) (t.span.end + length (rest_of_line text t.span.end)) t.line (omega arith) rest)))
    (λ (e : bytes_eq (bytes_at text t.span) (codes "Name:") ≡ false).
    subst (λ (p : Place). Reading text p t.span.end t.line) (sym (place_token c (context_behind c t.kind (bytes_at text t.span)) t.kind (bytes_at text t.span) e refl))
    (others (context_behind c t.kind (bytes_at text t.span)) t.span.end t.line more within))
    (which (bytes_eq (bytes_at text t.span) (codes "Name:")))

reading_step : (text : List ℕ) (c : Context) (at line : ℕ) → (r : Result RuleToken BadByte) → IsNext c.operator text at r → ((d : Context) (next line : ℕ) → at < next → next ≤ length text → Reading text (AtToken d) next line) → Reading text (AtToken c) at line
reading_step text c at line (Err e) h others = record { tokens = token_on line e.line Bad []; last = e.line; are = bad_token h }
reading_step text c at line (Ok t) h others = ⊎_elim
    (λ (is : t.kind ≡ kinds.End). record { tokens = []; last = t.line; are = ends t h is refl })
    (λ (other : t.kind ≢ kinds.End). token_reading text c at line t h other (behind_it text c at t (token_moves c.operator text at t h other) h.order.2 others))
    (end_or_other t.kind)

some_reading : (n : ℕ) (text : List ℕ) (c : Context) (at line : ℕ) → length text - at < n → at ≤ length text → Reading text (AtToken c) at line
some_reading zero text c at line short le = absurd (omega arith)
some_reading (suc n) text c at line short le =
    let r = next_exists c.operator text at le in
    reading_step text c at line r.0 r.1 (λ d next l more within. some_reading n text d next l (omega arith) within)

pub has_tokens : (text : List ℕ) → (tokens : List Token) × (last : ℕ) × AreTokens text tokens last
has_tokens text = let r : Reading text (AtToken at_start) 0 0 = some_reading (suc (length text)) text at_start 0 0 (omega arith) (omega arith) in (r.tokens, r.last, r.are)
