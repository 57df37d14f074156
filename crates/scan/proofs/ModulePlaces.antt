-- Places in the text of a module, and what stands behind the gap there.
use Rattle.scan.proofs.Common.{◌≡◌, ◌≢◌, ℕ, zero, suc, ◌+◌, ◌-◌, ◌<◌, ◌≤◌, List, [], length, take, drop, refl, sym, ap, subst, ◌∙◌, ⊎_elim, ◌⊎◌, inl, inr, arith, false≢true, length-drop, TokenKind, Label, Function, Group, Metadata, Quoted, is_bad, IsGap, IsLastGap, between, feeds, spells, BeginsBadly, HoldsZero, IsNextToken, IsBadToken}
use Rattle.scan.specs.declared.ir.token.TokenKind.TheVariants.{End, Other, Word, Number, Register, Mark}
use Rattle.scan.specs.IrTokens.{IsLongestToken, BeginsNoToken, Begins, IsGapBefore, line_at}
use Rattle.scan.proofs.ModuleTokens.{spells-empty}
use Rattle.scan.proofs.PlaceLemmas.{Behind, begins_some}

-- ---- what a text begins with

-- a token, or a byte that begins none, or the end
abbrev pub IsSeen : List ℕ → TokenKind → ℕ → Type 0
IsSeen text kind n = IsLongestToken text kind n ⊎ (((kind ≡ Other) × BeginsNoToken text × (n ≡ 1)) ⊎ ((kind ≡ End) × (text ≡ []) × (n ≡ 0)))

pub seen : (text : List ℕ) (kind : TokenKind) (n : ℕ) → Begins text kind n → IsSeen text kind n
seen text End n h = inr (inr (refl, h.0, h.1))
seen text Other n h = inr (inl (refl, h.0, h.1))
seen text Label n h = inl h
seen text Word n h = inl h
seen text Number n h = inl h
seen text Register n h = inl h
seen text Function n h = inl h
seen text Group n h = inl h
seen text Metadata n h = inl h
seen text Quoted n h = inl h
seen text Mark n h = inl h

-- a token is not the end of the text, and has at least one byte
pub no_end : (text : List ℕ) (kind : TokenKind) (n : ℕ) → IsLongestToken text kind n → kind ≢ End
no_end text kind n h e = false≢true (ap (λ (k : TokenKind). spells k (take n text) (drop n text)) (sym e) ∙ h.of_kind)

pub longest_some : (text : List ℕ) (kind : TokenKind) (n : ℕ) → IsLongestToken text kind n → 0 < n
longest_some text kind zero h = absurd (false≢true (sym (spells-empty kind text) ∙ h.of_kind))
longest_some text kind (suc n) h = omega arith

pub end_or_not : (text : List ℕ) (kind : TokenKind) (n : ℕ) → Begins text kind n → (n ≤ length text) × (((kind ≢ End) × (0 < length text)) ⊎ ((kind ≡ End) × (length text ≡ 0)))
end_or_not text kind n h = ⊎_elim
    (λ (t : IsLongestToken text kind n). (t.within, inl (no_end text kind n t, omega (arith, t.within, longest_some text kind n t))))
    (λ (o : ((kind ≡ Other) × BeginsNoToken text × (n ≡ 1)) ⊎ ((kind ≡ End) × (text ≡ []) × (n ≡ 0))). ⊎_elim
    (λ (x : (kind ≡ Other) × BeginsNoToken text × (n ≡ 1)).
    let some : 0 < length text = begins_some _ text x.1.visible in
    (omega (arith, x.2), inl (λ e. let other : Other ≡ End = sym x.0 ∙ e in cc, some)))
    (λ (x : (kind ≡ End) × (text ≡ []) × (n ≡ 0)). (omega (arith, x.2), inr (x.0, ap length x.1)))
    o)
    (seen text kind n h)

gap_before : (kind : TokenKind) (gap : List ℕ) → (kind ≢ End → IsGap gap) → (kind ≡ End → IsLastGap gap) → IsGapBefore kind gap
gap_before End gap g l = l refl
gap_before Other gap g l = g (λ e. cc)
gap_before Label gap g l = g (λ e. cc)
gap_before Word gap g l = g (λ e. cc)
gap_before Number gap g l = g (λ e. cc)
gap_before Register gap g l = g (λ e. cc)
gap_before Function gap g l = g (λ e. cc)
gap_before Group gap g l = g (λ e. cc)
gap_before Metadata gap g l = g (λ e. cc)
gap_before Quoted gap g l = g (λ e. cc)
gap_before Mark gap g l = g (λ e. cc)

-- ---- at a place

-- what stands there is within the text, and is the end of the text or not
pub ends_or_not : (text : List ℕ) (start : ℕ) (kind : TokenKind) (n : ℕ) → start ≤ length text → Begins (drop start text) kind n → (start + n ≤ length text) × (((kind ≢ End) × (start < length text)) ⊎ ((kind ≡ End) × (start ≡ length text)))
ends_or_not text start kind n l h =
    let e = end_or_not (drop start text) kind n h in (
      omega (arith, e.0, length-drop start text),
      ⊎_elim
          (λ (a : (kind ≢ End) × (0 < length (drop start text))). inl (a.0, omega (arith, a.1, length-drop start text)))
          (λ (a : (kind ≡ End) × (length (drop start text) ≡ 0)). inr (a.0, omega (arith, a.1, length-drop start text)))
          e.1,
    )

-- a text that begins badly has at least one byte
pub bad_some : (text : List ℕ) → BeginsBadly text → 0 < length text
bad_some text (inl e) = begins_some is_bad text e
bad_some text (inr t) = omega (arith, t.2.within, longest_some text t.0 t.1 t.2)

pub next_bad : (text : List ℕ) (place start before : ℕ) → Behind text place start → before ≡ feeds (take start text) → BeginsBadly (drop start text) → IsBadToken text place (before + 1)
next_bad text place start before b e bad = record {
  start = start;
  order = b.order.0;
  gap = b.gap (omega (arith, bad_some (drop start text) bad, length-drop start text));
  bad = bad;
  line_is = omega (arith, e);
}

pub next_token : (text : List ℕ) (place start n line : ℕ) (kind : TokenKind) → Behind text place start → Begins (drop start text) kind n → (HoldsZero (take n (drop start text)) → ⊥) → line ≡ line_at kind text start → IsNextToken text place (record { kind = kind; line = line; span = record { start = start; end = start + n } })
next_token text place start n line kind b h no_zero l = record {
  order = (b.order.0, omega arith, ends.0);
  gap = gap_before kind (between text place start)
      (λ other. b.gap (⊎_elim (λ (a : (kind ≢ End) × (start < length text)). a.1) (λ (a : (kind ≡ End) × (start ≡ length text)). absurd (other a.0)) ends.1))
      (λ end. b.last (⊎_elim (λ (a : (kind ≢ End) × (start < length text)). absurd (a.0 end)) (λ (a : (kind ≡ End) × (start ≡ length text)). a.1) ends.1));
  token = subst (λ (m : ℕ). Begins (drop start text) kind m) count h;
  no_zero = λ holds. no_zero (subst (λ (m : ℕ). HoldsZero (take m (drop start text))) (sym count) holds);
  line = l;
}
  where
    ends : (start + n ≤ length text) × (((kind ≢ End) × (start < length text)) ⊎ ((kind ≡ End) × (start ≡ length text)))
    ends = ends_or_not text start kind n b.order.1 h

    count : n ≡ start + n - start
    count = omega arith
