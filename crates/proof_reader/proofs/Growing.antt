-- The proofs so far are good, and one more is tested.
use Rattle.proof_reader.proofs.Common.{◌≡◌, inl, inr, ℕ, zero, suc, ◌+◌, ◌<◌, ◌≤◌, List, [], ◌∷◌, ◌++◌, length, take, Some, refl, sym, ap, subst, ◌∙◌, arith, slice_get, AllByRecursion, take-append_seam, cases_lt, take-append-le, same_Some, slice_get_within, feeds, Rule, Proof, LogFault, IsTextOf, most_bytes, text_of, IsWellFormed, IsGood, AreGood, IsAtProof, RefusesProof}
use Rattle.std.proofs.lemmas.List.{append_assoc}
use Rattle.proof_reader.proofs.Lines.{lines_more, lines_few}

stands_at : {X : Type 0} (xs : List X) (x : X) (ys : List X) → slice_get (xs ++ x ∷ ys) (length xs) ≡ Some x
stands_at [] x ys = refl
stands_at (z ∷ xs) x ys = stands_at xs x ys

stood_before : {X : Type 0} (xs ys : List X) (k : ℕ) (x : X) → k < length xs → slice_get (xs ++ ys) k ≡ Some x → slice_get xs k ≡ Some x
stood_before [] ys k x within at = absurd (omega arith)
stood_before (z ∷ xs) ys zero x within at = at
stood_before (z ∷ xs) ys (suc k) x within at = stood_before xs ys k x (omega arith) at

stood_last : {X : Type 0} (xs : List X) (last : X) (k : ℕ) (x : X) → length xs ≤ k → slice_get (xs ++ last ∷ []) k ≡ Some x → (k ≡ length xs) × (x ≡ last)
stood_last [] last zero x past at = (refl, sym (same_Some last x at))
stood_last [] last (suc k) x past at = absurd (let none : k < 0 = slice_get_within [] k x at in omega arith)
stood_last (z ∷ xs) last zero x past at = absurd (omega arith)
stood_last (z ∷ xs) last (suc k) x past at = let rest = stood_last xs last k x (omega arith) at in (ap suc rest.0, rest.1)

pub none_good : (rules : List Rule) → AreGood rules []
none_good rules place proof at = absurd (let none : place < 0 = slice_get_within [] place proof at in omega arith)

pub good_more : (rules : List Rule) (earlier : List Proof) (proof : Proof) → AreGood rules earlier → IsGood rules earlier proof → AreGood rules (earlier ++ proof ∷ [])
good_more rules earlier proof good more place at_place at = elim (cases_lt place (length earlier)) [
  | inl before ↦
      let front : take place (earlier ++ proof ∷ []) ≡ take place earlier = take-append-le place earlier (proof ∷ []) (omega arith) in
      rw front (good place at_place (stood_before earlier (proof ∷ []) place at_place before at))
  | inr after ↦
      let last = stood_last earlier proof place at_place (omega arith) at in
      let front : take place (earlier ++ proof ∷ []) ≡ earlier = ap (λ (n : ℕ). take n (earlier ++ proof ∷ [])) last.0 ∙ take-append_seam earlier (proof ∷ []) in
      rw front (subst (IsGood rules earlier) (sym last.1) more)
]

-- a bad proof behind good ones gives the text's fault
pub bad_next : (rules : List Rule) (earlier rest : List Proof) (proof : Proof) (line : ℕ) (fault : LogFault) → AreGood rules earlier → line ≡ feeds (text_of earlier) + 1
    → RefusesProof rules earlier proof line fault → IsAtProof rules (earlier ++ proof ∷ rest) fault
bad_next rules earlier rest proof line fault good line_is bad =
    let front : take (length earlier) (earlier ++ proof ∷ rest) ≡ earlier = take-append_seam earlier (proof ∷ rest) in
    record {
      place = length earlier;
      proof = proof;
      is = stands_at earlier proof rest;
      before = rw front good;
      bad = rw front bad.bad;
      line = rw front (bad.line_is ∙ line_is);
    }

pub well_formed_at : (earlier rest : List Proof) (proof : Proof) → AllByRecursion IsWellFormed (earlier ++ proof ∷ rest) → IsWellFormed proof
well_formed_at [] rest proof all = all.0
well_formed_at (p ∷ earlier) rest proof all = well_formed_at earlier rest proof all.1

-- the next proof's line is behind those of this one
pub next_line : (text : List ℕ) (earlier rest : List Proof) (proof : Proof) (line : ℕ) → IsTextOf text (earlier ++ proof ∷ rest) → line ≡ feeds (text_of earlier) + 1
    → line + (2 + length proof.log) ≡ feeds (text_of (earlier ++ proof ∷ [])) + 1
next_line text earlier rest proof line is line_is =
    let more = lines_more earlier proof (well_formed_at earlier rest proof is.1) in omega arith

-- a text has no more lines than bytes
pub few_lines : (text : List ℕ) (earlier rest : List Proof) (proof : Proof) (line : ℕ) → IsTextOf text (earlier ++ proof ∷ rest) → line ≡ feeds (text_of earlier) + 1
    → line + (2 + length proof.log) ≤ most_bytes + 1
few_lines text earlier rest proof line is line_is =
    let next = next_line text earlier rest proof line is line_is in
    let all : (earlier ++ proof ∷ []) ++ rest ≡ earlier ++ proof ∷ rest = append_assoc earlier (proof ∷ []) rest in
    let few : feeds (text_of (earlier ++ proof ∷ [])) ≤ length (text_of (earlier ++ proof ∷ rest)) = rw all at (lines_few (earlier ++ proof ∷ []) rest) in
    let size : length text ≡ length (text_of (earlier ++ proof ∷ rest)) = ap (λ (l : List ℕ). length l) is.2 in
    omega (arith, is.0)
