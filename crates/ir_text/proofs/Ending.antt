-- A token that is the longest prefix of a text stays so before bytes that don't continue it.
use Rattle.ir_text.proofs.Common.{◌≡◌, ℕ, zero, suc, ◌+◌, ◌-◌, ◌<◌, ◌≤◌, Bool, true, false, not, ◌&&◌, ◌||◌, List, [], ◌∷◌, ◌++◌, length, take, drop, refl, sym, ap, subst, ◌∙◌, ◌⊎◌, ⊎_elim, append_assoc, take-append-drop, arith, list_all, drop-length, take-append-add, take-length, false≢true, drop-append-le, take-append-le, list_all-append, TokenKind, begins_with, is_digit, is_name_byte, is_run, IsLongestToken, marks, spells, is_among, is_negative, and_left, and_right, which, goes_on}
use Rattle.std.proofs.Common.{length-append}
use Rattle.scan.specs.declared.ir.token.TokenKind.TheVariants as kinds
use Rattle.scan.specs.IrTokens.{is_number}
use Rattle.ir_text.proofs.Shapes.{is_lone, lone_ends, longer_by, name_goes_on, shape}

-- ---- what stands behind a token

no_name_byte : (after : List ℕ) → begins_with goes_on after ≡ false → begins_with is_name_byte after ≡ false
no_name_byte [] e = refl
no_name_byte (b ∷ after) e = ⊎_elim
    (λ (h : is_name_byte b ≡ true). absurd (false≢true (sym e ∙ name_goes_on b h)))
    (λ (h : is_name_byte b ≡ false). h)
    (which (is_name_byte b))

no_other_byte : (rest after : List ℕ) → begins_with goes_on after ≡ false → begins_with is_name_byte (rest ++ after) ≡ begins_with is_name_byte rest
no_other_byte [] after e = no_name_byte after e
no_other_byte (b ∷ rest) after e = refl

-- whether bytes are a token of a kind doesn't depend on such bytes further behind
spells_before : (kind : TokenKind) (bytes rest after : List ℕ) → begins_with goes_on after ≡ false → spells kind bytes (rest ++ after) ≡ spells kind bytes rest
unfolding is_number
spells_before kinds.End bytes rest after e = refl
spells_before kinds.Other bytes rest after e = refl
spells_before kinds.Label bytes rest after e = refl
spells_before kinds.Word bytes rest after e = refl
spells_before kinds.Number bytes rest after e = ap (λ (b : Bool). (is_run is_digit bytes || is_negative bytes) && not b) (no_other_byte rest after e)
spells_before kinds.Register bytes rest after e = refl
spells_before kinds.Function bytes rest after e = refl
spells_before kinds.Group bytes rest after e = refl
spells_before kinds.Metadata bytes rest after e = refl
spells_before kinds.Quoted bytes rest after e = refl
spells_before kinds.Mark bytes rest after e = refl

-- ---- the longest token

spells_front : (kind : TokenKind) (text after : List ℕ) (m : ℕ) → m ≤ length text → begins_with goes_on after ≡ false → spells kind (take m (text ++ after)) (drop m (text ++ after)) ≡ spells kind (take m text) (drop m text)
spells_front kind text after m le e =
    ap (λ (front : List ℕ). spells kind front (drop m (text ++ after))) (take-append-le m text after le)
    ∙ ap (spells kind (take m text)) (drop-append-le m text after le) ∙ spells_before kind (take m text) (drop m text) after e

-- a prefix of bytes that would all continue a token is empty, if the first doesn't
none_go_on : (front after : List ℕ) (k : ℕ) → 0 < k → k ≤ length after → begins_with goes_on after ≡ false → list_all goes_on (front ++ take k after) ≡ true → ⊥
none_go_on front [] k some le e all = omega arith
none_go_on front (b ∷ after) (suc k) some le e all =
    let behind : list_all goes_on (take (suc k) (b ∷ after)) ≡ true = and_right (list_all goes_on front) _ (sym (list_all-append goes_on front (take (suc k) (b ∷ after))) ∙ all) in
    false≢true (sym e ∙ and_left (goes_on b) (list_all goes_on (take k after)) behind)
none_go_on front (b ∷ after) zero some le e all = omega arith

pub longest_within : (text after : List ℕ) (kind : TokenKind) (n : ℕ) → IsLongestToken text kind n → begins_with goes_on after ≡ false → IsLongestToken (text ++ after) kind n
longest_within text after kind n h e = record {
  within = omega (arith, h.within, length-append text after);
  of_kind = spells_front kind text after n h.within e ∙ h.of_kind;
  longest = λ other m le is. ⊎_elim
      (λ (inside : m ≤ length text). h.longest other m inside (sym (spells_front other text after m inside e) ∙ is))
      (λ (past : length text < m). absurd (longer other m le is past))
      (split m (length text));
}
  where
    split : (a b : ℕ) → (a ≤ b) ⊎ (b < a)
    split a b = grind arith

    longer : (other : TokenKind) (m : ℕ) → m ≤ length (text ++ after) → spells other (take m (text ++ after)) (drop m (text ++ after)) ≡ true → length text < m → ⊥
    longer other m le is past =
        let count : m ≡ length text + (m - length text) = omega arith in
        let whole : take m (text ++ after) ≡ take n text ++ (drop n text ++ take (m - length text) after) =
        ap (λ (i : ℕ). take i (text ++ after)) count ∙ take-append-add text after (m - length text)
        ∙ ap (λ (front : List ℕ). front ++ take (m - length text) after) (sym (take-append-drop n text)) ∙ append_assoc (take n text) (drop n text) (take (m - length text) after) in
        none_go_on (drop n text) after (m - length text) (omega arith) (omega (arith, length-append text after)) e
        (longer_by (take n text) (drop n text ++ take (m - length text) after) (shape other _ (drop m (text ++ after)) (subst (λ (front : List ℕ). spells other front (drop m (text ++ after)) ≡ true) whole is)) (shape kind (take n text) (drop n text) h.of_kind))

-- bytes that are a token by themselves, with nothing behind them
pub whole_token : (kind : TokenKind) (bytes : List ℕ) → spells kind bytes [] ≡ true → IsLongestToken bytes kind (length bytes)
whole_token kind bytes e = record {
  within = omega arith;
  of_kind = ap (λ (front : List ℕ). spells kind front (drop (length bytes) bytes)) (take-length bytes) ∙ ap (spells kind bytes) (drop-length bytes) ∙ e;
  longest = λ other m le is. le;
}

-- a mark that ends by itself
pub lone_token : (b : ℕ) (rest : List ℕ) → is_lone b ≡ true → is_among marks (b ∷ []) ≡ true → IsLongestToken (b ∷ rest) kinds.Mark 1
lone_token b rest lone mark = record {
  within = omega arith;
  of_kind = mark;
  longest = λ kind m le is. shorter rest kind m le is;
}
  where
    shorter : (rest : List ℕ) (other : TokenKind) (m : ℕ) → m ≤ length (b ∷ rest) → spells other (take m (b ∷ rest)) (drop m (b ∷ rest)) ≡ true → m ≤ 1
    shorter rest kind zero le is = omega arith
    shorter rest kind (suc zero) le is = omega arith
    shorter [] kind (suc (suc m)) le is = absurd (omega arith)
    shorter (c ∷ rest) kind (suc (suc m)) le is = absurd (lone_ends b c (take m rest) lone (shape kind _ (drop m rest) is))
