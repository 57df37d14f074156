-- There is at most one token, or one fault, behind the gap at a place of a module.
use Rattle.scan.proofs.Common.{◌≡◌, ℕ, ◌-◌, ◌<◌, ◌≤◌, true, false, List, [], Ok, Err, length, take, drop, refl, sym, ap, subst, ◌∙◌, ⊎_elim, ◌⊎◌, inl, inr, arith, false≢true, length-drop, TokenKind, Label, Function, Group, Metadata, Quoted, Token, is_bad, begins_with, IsGap, IsLastGap, OneModuleTokenAtAPlace, between, line_of, in_gap, spells, BeginsBadly, HoldsZero, IsNextToken, IsBadToken}
use Rattle.scan.specs.declared.ir.token.TokenKind.TheVariants.{End, Other, Word, Number, Register, Mark}
use Rattle.scan.specs.IrTokens.{IsLongestToken, BeginsNoToken, Begins, IsGapBefore, line_at}
use Rattle.scan.proofs.ModuleKinds.{one_kind, token_good}
use Rattle.scan.proofs.ModuleTokens.{begins_token}
use Rattle.scan.proofs.ModulePlaces.{seen, longest_some, bad_some}
use Rattle.scan.proofs.LawLemmas.{is_good, good_front, good_is, bad_no_gap, bad_on, Stood, starts, one_start}

-- ---- the first byte of what stands there is valid and in no gap

longest_good : (text : List ℕ) (kind : TokenKind) (n : ℕ) → IsLongestToken text kind n → begins_with is_good text ≡ true
longest_good text kind n h = good_front is_good text n (token_good kind (take n text) (drop n text) h.of_kind)

seen_good : (text : List ℕ) (kind : TokenKind) (n : ℕ) → Begins text kind n → (begins_with is_good text ≡ true) ⊎ ((kind ≡ End) × (text ≡ []))
unfolding is_good
seen_good text kind n h = ⊎_elim
    (λ (t : IsLongestToken text kind n). inl (longest_good text kind n t))
    (λ (o : ((kind ≡ Other) × BeginsNoToken text × (n ≡ 1)) ⊎ ((kind ≡ End) × (text ≡ []) × (n ≡ 0))). ⊎_elim
    (λ (x : (kind ≡ Other) × BeginsNoToken text × (n ≡ 1)). inl (x.1.visible))
    (λ (x : (kind ≡ End) × (text ≡ []) × (n ≡ 0)). inr (x.0, x.1))
    o)
    (seen text kind n h)

gap_of : (kind : TokenKind) (gap : List ℕ) → IsGapBefore kind gap → IsGap gap ⊎ (IsLastGap gap × (kind ≡ End))
gap_of End gap h = inr (h, refl)
gap_of Other gap h = inl h
gap_of Label gap h = inl h
gap_of Word gap h = inl h
gap_of Number gap h = inl h
gap_of Register gap h = inl h
gap_of Function gap h = inl h
gap_of Group gap h = inl h
gap_of Metadata gap h = inl h
gap_of Quoted gap h = inl h
gap_of Mark gap h = inl h

end_is : (text : List ℕ) (kind : TokenKind) (n : ℕ) → Begins text kind n → kind ≡ End → text ≡ []
end_is text kind n h e = (subst (λ (k : TokenKind). Begins text k n) e h).0

stood_token : (text : List ℕ) (place : ℕ) (t : Token) → IsNextToken text place t → Stood text place t.span.start
stood_token text place t h =
    let within : t.span.start ≤ length text = omega (arith, h.order.1, h.order.2) in
    record {
      within = within;
      behind = starts text place t.span.start h.order.0 within
          (⊎_elim
          (λ (g : begins_with is_good (drop t.span.start text) ≡ true). (good_is (drop t.span.start text) g).0)
          (λ (e : (t.kind ≡ End) × (drop t.span.start text ≡ [])). ap (begins_with in_gap) e.1)
          (seen_good (drop t.span.start text) t.kind (t.span.end - t.span.start) h.token))
          (⊎_elim
          (λ (g : IsGap (between text place t.span.start)). inl g)
          (λ (g : IsLastGap (between text place t.span.start) × (t.kind ≡ End)). inr (g.0, end_is (drop t.span.start text) t.kind (t.span.end - t.span.start) h.token g.1))
          (gap_of t.kind (between text place t.span.start) h.gap));
    }

stood_bad : (text : List ℕ) (place line : ℕ) (h : IsBadToken text place line) → Stood text place h.start
stood_bad text place line h =
    let some : 0 < length (drop h.start text) = bad_some (drop h.start text) h.bad in
    let within : h.start ≤ length text = omega (arith, length-drop h.start text) in
    record { within = within; behind = starts text place h.start h.order within (whole (drop h.start text) h.bad) (inl h.gap) }
  where
    whole : (rest : List ℕ) → BeginsBadly rest → begins_with in_gap rest ≡ false
    whole rest (inl e) = bad_no_gap rest e
    whole rest (inr t) = (good_is rest (longest_good rest t.0 t.1 t.2)).0

-- ---- only one thing stands there

begins_one : (text : List ℕ) (a b : TokenKind) (n m : ℕ) → Begins text a n → Begins text b m → (a ≡ b) × (n ≡ m)
begins_one text a b n m h k = ⊎_elim
    (λ (s : IsLongestToken text a n). ⊎_elim
    (λ (t : IsLongestToken text b m). both s t)
    (λ (t : ((b ≡ Other) × BeginsNoToken text × (m ≡ 1)) ⊎ ((b ≡ End) × (text ≡ []) × (m ≡ 0))). absurd (not_longest a n s b m t))
    (seen text b m k))
    (λ (s : ((a ≡ Other) × BeginsNoToken text × (n ≡ 1)) ⊎ ((a ≡ End) × (text ≡ []) × (n ≡ 0))). ⊎_elim
    (λ (t : IsLongestToken text b m). absurd (not_longest b m t a n s))
    (λ (t : ((b ≡ Other) × BeginsNoToken text × (m ≡ 1)) ⊎ ((b ≡ End) × (text ≡ []) × (m ≡ 0))). others s t)
    (seen text b m k))
    (seen text a n h)
  where
    both : IsLongestToken text a n → IsLongestToken text b m → (a ≡ b) × (n ≡ m)
    both s t =
        let le : n ≤ m = t.longest a n s.within s.of_kind in
        let ge : m ≤ n = s.longest b m t.within t.of_kind in
        let same : n ≡ m = omega arith in
        (one_kind a b (take m text) (drop m text) (subst (λ (i : ℕ). spells a (take i text) (drop i text) ≡ true) same s.of_kind) t.of_kind, same)

    not_longest : (c : TokenKind) (i : ℕ) → IsLongestToken text c i → (d : TokenKind) (j : ℕ) → ((d ≡ Other) × BeginsNoToken text × (j ≡ 1)) ⊎ ((d ≡ End) × (text ≡ []) × (j ≡ 0)) → ⊥
    not_longest c i s d j (inl t) = false≢true (sym (t.1.no_token c i s.within) ∙ s.of_kind)
    not_longest c i s d j (inr t) = omega (arith, longest_some text c i s, s.within, ap length t.1)

    others : ((a ≡ Other) × BeginsNoToken text × (n ≡ 1)) ⊎ ((a ≡ End) × (text ≡ []) × (n ≡ 0)) → ((b ≡ Other) × BeginsNoToken text × (m ≡ 1)) ⊎ ((b ≡ End) × (text ≡ []) × (m ≡ 0)) → (a ≡ b) × (n ≡ m)
    others (inl s) (inl t) = (s.0 ∙ sym t.0, s.2 ∙ sym t.2)
    others (inr s) (inr t) = (s.0 ∙ sym t.0, s.2 ∙ sym t.2)
    others (inl s) (inr t) = absurd (false≢true (sym (ap (begins_with _) t.1) ∙ s.1.visible))
    others (inr s) (inl t) = absurd (false≢true (sym (ap (begins_with _) s.1) ∙ t.1.visible))

abbrev token_of : TokenKind → ℕ → ℕ → ℕ → Token
token_of kind line start end = record { kind = kind; line = line; span = record { start = start; end = end } }

same_token : (t u : Token) → t.kind ≡ u.kind → t.line ≡ u.line → t.span.start ≡ u.span.start → t.span.end ≡ u.span.end → t ≡ u
same_token t u k l s e =
    ap (λ (x : TokenKind). token_of x t.line t.span.start t.span.end) k ∙ ap (λ (x : ℕ). token_of u.kind x t.span.start t.span.end) l
    ∙ ap (λ (x : ℕ). token_of u.kind u.line x t.span.end) s ∙ ap (λ (x : ℕ). token_of u.kind u.line u.span.start x) e

-- a text can't begin badly and also with a token that holds no byte 0 in quotes
begins_not_both : (text : List ℕ) (kind : TokenKind) (n : ℕ) → Begins text kind n → (HoldsZero (take n text) → ⊥) → BeginsBadly text → ⊥
begins_not_both text kind n h no_zero (inl bad) = ⊎_elim
    (λ (g : begins_with is_good text ≡ true). false≢true (sym (good_is text g).1 ∙ bad))
    (λ (e : (kind ≡ End) × (text ≡ [])). false≢true (sym (ap (begins_with is_bad) e.1) ∙ bad))
    (seen_good text kind n h)
begins_not_both text kind n h no_zero (inr t) =
    let one : (t.0 ≡ kind) × (t.1 ≡ n) = begins_one text t.0 kind t.1 n (begins_token text t.0 t.1 t.2) h in
    no_zero (subst (λ (i : ℕ). HoldsZero (take i text)) one.1 t.3)

not_both : (text : List ℕ) (place : ℕ) (t : Token) (line : ℕ) → IsNextToken text place t → IsBadToken text place line → ⊥
not_both text place t line h k =
    let start : t.span.start ≡ k.start = one_start text place t.span.start k.start (stood_token text place t h) (stood_bad text place line k) in
    begins_not_both (drop t.span.start text) t.kind (t.span.end - t.span.start) h.token h.no_zero (subst (λ (i : ℕ). BeginsBadly (drop i text)) (sym start) k.bad)

pub one_module_token : OneModuleTokenAtAPlace
one_module_token text place (Ok t) (Ok u) within h k = ap Ok (same_tokens t u h k)
  where
    same_tokens : (t u : Token) → IsNextToken text place t → IsNextToken text place u → t ≡ u
    same_tokens t u h k =
        let start : t.span.start ≡ u.span.start = one_start text place t.span.start u.span.start (stood_token text place t h) (stood_token text place u k) in
        let moved : Begins (drop t.span.start text) u.kind (u.span.end - u.span.start) = subst (λ (i : ℕ). Begins (drop i text) u.kind (u.span.end - u.span.start)) (sym start) k.token in
        let one : (t.kind ≡ u.kind) × (t.span.end - t.span.start ≡ u.span.end - u.span.start) = begins_one (drop t.span.start text) t.kind u.kind _ _ h.token moved in
        same_token t u one.0 (h.line ∙ ap (λ (k : TokenKind). line_at k text t.span.start) one.0 ∙ ap (line_at u.kind text) start ∙ sym k.line) start (omega (arith, one.1, h.order.1, k.order.1))
one_module_token text place (Ok t) (Err e) within h k = absurd (not_both text place t e.line h k)
one_module_token text place (Err e) (Ok t) within h k = absurd (not_both text place t e.line k h)
one_module_token text place (Err e) (Err f) within h k =
    ap Err (ap bad_on (h.line_is ∙ ap (line_of text) (one_start text place h.start k.start (stood_bad text place e.line h) (stood_bad text place f.line k)) ∙ sym k.line_is))
