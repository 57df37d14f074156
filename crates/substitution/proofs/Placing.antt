-- The indices of instructions in a rewritten function.
use Rattle.substitution.proofs.Common.{◌≡◌, ◌≢◌, ℕ, zero, suc, ◌+◌, ◌-◌, ◌<◌, ◌≤◌, ◌==◌, Bool, true, false, cond, ◌⊎◌, inl, inr, List, [], ◌∷◌, ◌++◌, length, Some, refl, sym, ap, subst, ◌∙◌, arith, slice_get, option_map, nat_lt, cases_eq, cases_lt, eq-eqb, ne_eqb, lt-ltb, le-ltb, and_from, and_right, length-append, same_Some, slice_get_within, IsBlock, IsInst, Function, Block, Inst, substituted_inst, Rewrite, is_root, moved_place, stands_for, rewritten_insts, rewritten_block, rewritten_blocks, rewritten_function}
use Rattle.ir_core.specs.declared.operand.Operand.TheVariants as operands
use Rattle.ir_core.specs.declared.operand.Register.TheVariants as registers
use Rattle.substitution.proofs.Pieces.{mapped, get_left, get_right, get_cases}
use Rattle.substitution.proofs.Arriving.{and_left, same_or_other}

-- instruction k of block b is the root, or another
abbrev pub IsTheRoot : Rewrite → ℕ → ℕ → Type 0
IsTheRoot w b k = (b ≡ w.block) × (k ≡ w.place)

pub root_is : (w : Rewrite) (b k : ℕ) → IsTheRoot w b k → is_root w b k ≡ true
root_is w b k h = and_from (b == w.block) (k == w.place) (eq-eqb b w.block h.0) (eq-eqb k w.place h.1)

pub other_is : (w : Rewrite) (b k : ℕ) → ¬ IsTheRoot w b k → is_root w b k ≡ false
other_is w b k other =
    elim (cases_eq b w.block) [
      | inr ne ↦ and_left (b == w.block) (k == w.place) (ne_eqb b w.block ne)
      | inl same ↦ elim (cases_eq k w.place) [
        | inr ne ↦ and_right (b == w.block) (k == w.place) (ne_eqb k w.place ne)
        | inl e ↦ absurd (other (same, e))
      ]
    ]

-- ---- the new indices of places

abbrev IsBehind : Rewrite → ℕ → ℕ → Type 0
IsBehind w b k = (b ≡ w.block) × (w.place < k) × (moved_place w b k ≡ k - 1 + length w.put)

abbrev IsUnmoved : Rewrite → ℕ → ℕ → Type 0
IsUnmoved w b k = (b ≡ w.block → k ≤ w.place) × (moved_place w b k ≡ k)

behind_or : (w : Rewrite) (b k : ℕ) → IsBehind w b k ⊎ IsUnmoved w b k
behind_or w b k =
    elim (cases_eq b w.block) [
      | inr ne ↦ inr (λ same. absurd (ne same), ap (λ c. cond c (k - 1 + length w.put) k) (and_left (b == w.block) (nat_lt w.place k) (ne_eqb b w.block ne)))
      | inl same ↦ elim (cases_lt w.place k) [
        | inl lt ↦ inl (same, lt, ap (λ c. cond c (k - 1 + length w.put) k) (and_from (b == w.block) (nat_lt w.place k) (eq-eqb b w.block same) (lt-ltb w.place k lt)))
        | inr le ↦ inr (λ same. le, ap (λ c. cond c (k - 1 + length w.put) k) (and_right (b == w.block) (nat_lt w.place k) (le-ltb w.place k le)))
      ]
    ]

-- what the new index m of a place is, by whether it is behind the root
pub record IsMoved (w : Rewrite) (b k m : ℕ) : Type 0 where
  pub behind : (b ≡ w.block) → w.place < k → m ≡ k - 1 + length w.put
  pub unmoved : (b ≡ w.block) → k ≤ w.place → m ≡ k
  pub elsewhere : b ≢ w.block → m ≡ k

pub is_moved : (w : Rewrite) (b k : ℕ) → IsMoved w b k (moved_place w b k)
is_moved w b k =
    elim (behind_or w b k) [
      | inl h ↦ let lt : w.place < k = h.1 in record { behind = λ same low. h.2; unmoved = λ same le. absurd (omega arith); elsewhere = λ ne. absurd (ne h.0) }
      | inr h ↦ record { behind = λ same low. let le : k ≤ w.place = h.0 same in absurd (omega arith); unmoved = λ same le. h.1; elsewhere = λ ne. h.1 }
    ]

-- the next place behind an instruction other than the root
next_of : (w : Rewrite) (b k m n : ℕ) → ¬ IsTheRoot w b k → IsMoved w b k m → IsMoved w b (suc k) n → n ≡ suc m
next_of w b k m n other p q =
    elim (cases_eq b w.block) [
      | inr ne ↦ q.elsewhere ne ∙ ap suc (sym (p.elsewhere ne))
      | inl same ↦ elim (cases_lt w.place k) [
        | inl lt ↦ let x : m ≡ k - 1 + length w.put = p.behind same lt in let y : n ≡ suc k - 1 + length w.put = q.behind same (omega arith) in omega arith
        | inr le ↦ elim (cases_eq k w.place) [
          | inl here ↦ absurd (other (same, here))
          | inr ne ↦ let x : m ≡ k = p.unmoved same le in let y : n ≡ suc k = q.unmoved same (omega arith) in omega arith
        ]
      ]
    ]

pub moved_next : (w : Rewrite) (b k : ℕ) → ¬ IsTheRoot w b k → moved_place w b (suc k) ≡ suc (moved_place w b k)
moved_next w b k other = next_of w b k (moved_place w b k) (moved_place w b (suc k)) other (is_moved w b k) (is_moved w b (suc k))

pub moved_first : (w : Rewrite) (b : ℕ) → moved_place w b 0 ≡ 0
moved_first w b = elim (cases_eq b w.block) [ inr ne ↦ (is_moved w b 0).elsewhere ne | inl same ↦ (is_moved w b 0).unmoved same (omega arith) ]

pub moved_root : (w : Rewrite) (b k : ℕ) → IsTheRoot w b k → moved_place w b k ≡ k
moved_root w b k h = let e : k ≡ w.place = h.1 in (is_moved w b k).unmoved h.0 (omega arith)

pub moved_unmoved : (w : Rewrite) (b k : ℕ) → b ≡ w.block → k ≤ w.place → moved_place w b k ≡ k
moved_unmoved w b k same le = (is_moved w b k).unmoved same le

pub moved_behind_root : (w : Rewrite) (b k : ℕ) → IsTheRoot w b k → moved_place w b (suc k) ≡ k + length w.put
moved_behind_root w b k h =
    let e : k ≡ w.place = h.1 in
    let x : moved_place w b (suc k) ≡ suc k - 1 + length w.put = (is_moved w b (suc k)).behind h.0 (omega arith) in
    let y : suc k - 1 + length w.put ≡ k + length w.put = omega arith in
    x ∙ y

-- instructions keep their order
below : (w : Rewrite) (b j k m n : ℕ) → j < k → ¬ IsTheRoot w b j → IsMoved w b j m → IsMoved w b k n → m < n
below w b j k m n lt other p q =
    elim (cases_eq b w.block) [
      | inr ne ↦ let x : m ≡ j = p.elsewhere ne in let y : n ≡ k = q.elsewhere ne in omega arith
      | inl same ↦ elim (cases_lt w.place j) [
        | inl behind ↦ let x : m ≡ j - 1 + length w.put = p.behind same behind in let y : n ≡ k - 1 + length w.put = q.behind same (omega arith) in omega arith
        | inr le ↦
            let x : m ≡ j = p.unmoved same le in
            let ne : j ≢ w.place = λ e. other (same, e) in
            elim (cases_lt w.place k) [
              | inl behind ↦ let y : n ≡ k - 1 + length w.put = q.behind same behind in omega arith
              | inr low ↦ let y : n ≡ k = q.unmoved same low in omega arith
            ]
      ]
    ]

pub moved_below : (w : Rewrite) (b j k : ℕ) → j < k → ¬ IsTheRoot w b j → moved_place w b j < moved_place w b k
moved_below w b j k lt other = below w b j k (moved_place w b j) (moved_place w b k) lt other (is_moved w b j) (is_moved w b k)

pub moved_up : (w : Rewrite) (b j k : ℕ) → j ≤ k → moved_place w b j ≤ moved_place w b k
moved_up w b j k le = by (moved_place w b j) (moved_place w b k) (is_moved w b j) (is_moved w b k)
  where
    by : (m n : ℕ) → IsMoved w b j m → IsMoved w b k n → m ≤ n
    by m n p q =
        elim (cases_eq b w.block) [
          | inr ne ↦ let x : m ≡ j = p.elsewhere ne in let y : n ≡ k = q.elsewhere ne in omega arith
          | inl same ↦ elim (cases_lt w.place j) [
            | inl behind ↦ let x : m ≡ j - 1 + length w.put = p.behind same behind in let y : n ≡ k - 1 + length w.put = q.behind same (omega arith) in omega arith
            | inr low ↦
                let x : m ≡ j = p.unmoved same low in
                elim (cases_lt w.place k) [
                  | inl behind ↦ let y : n ≡ k - 1 + length w.put = q.behind same behind in omega arith
                  | inr under ↦ let y : n ≡ k = q.unmoved same under in omega arith
                ]
          ]
        ]

-- what is put comes before what was behind the root
pub put_below : (w : Rewrite) (b k l : ℕ) → b ≡ w.block → w.place < k → l < length w.put → w.place + l < moved_place w b k
put_below w b k l same behind within = let y : moved_place w b k ≡ k - 1 + length w.put = (is_moved w b k).behind same behind in by (moved_place w b k) y
  where
    by : (m : ℕ) → m ≡ k - 1 + length w.put → w.place + l < m
    by m y = omega arith

-- two instructions other than the root have different new indices
pub moved_apart : (w : Rewrite) (b j k : ℕ) → ¬ IsTheRoot w b j → ¬ IsTheRoot w b k → moved_place w b j ≡ moved_place w b k → j ≡ k
moved_apart w b j k at_j at_k same =
    elim (cases_lt j k) [
      | inl less ↦ let lt : moved_place w b j < moved_place w b k = moved_below w b j k less at_j in absurd (by (moved_place w b j) (moved_place w b k) lt same)
      | inr more ↦ elim (cases_lt k j) [
        | inl less ↦ let lt : moved_place w b k < moved_place w b j = moved_below w b k j less at_k in absurd (by (moved_place w b k) (moved_place w b j) lt (sym same))
        | inr least ↦ omega arith
      ]
    ]
  where
    by : (m n : ℕ) → m < n → m ≡ n → ⊥
    by m n lt e = omega arith

-- no instruction other than the root has the new index of one that is put
pub moved_no_put : (w : Rewrite) (b k l : ℕ) → ¬ IsTheRoot w b k → b ≡ w.block → l < length w.put → moved_place w b k ≡ w.place + l → ⊥
moved_no_put w b k l other same within e = by (moved_place w b k) (is_moved w b k) e
  where
    by : (m : ℕ) → IsMoved w b k m → m ≡ w.place + l → ⊥
    by m p e =
        let ne : k ≢ w.place = λ e. other (same, e) in
        elim (cases_lt w.place k) [
          | inl behind ↦ let x : m ≡ k - 1 + length w.put = p.behind same behind in omega arith
          | inr low ↦ let x : m ≡ k = p.unmoved same low in omega arith
        ]

-- ---- substitutes for registers

pub stands_root : (w : Rewrite) (b k : ℕ) → IsTheRoot w b k → stands_for w (registers.Result b k) ≡ w.result
stands_root w b k h = ap (λ c. cond c w.result (operands.Register (registers.Result b (moved_place w b k)))) (root_is w b k h)

pub stands_other : (w : Rewrite) (b k : ℕ) → ¬ IsTheRoot w b k → stands_for w (registers.Result b k) ≡ operands.Register (registers.Result b (moved_place w b k))
stands_other w b k h = ap (λ c. cond c w.result (operands.Register (registers.Result b (moved_place w b k)))) (other_is w b k h)

-- ---- the instructions of a block

abbrev pub all_stand : Rewrite → ℕ → ℕ → Bool → Inst → List Inst → List Inst
all_stand w b k first inst insts = cond first w.put (substituted_inst (stands_for w) inst ∷ []) ++ rewritten_insts w b (suc k) insts

pub insts_root : (w : Rewrite) (b k : ℕ) (inst : Inst) (insts : List Inst) → IsTheRoot w b k → rewritten_insts w b k (inst ∷ insts) ≡ w.put ++ rewritten_insts w b (suc k) insts
insts_root w b k inst insts h = ap (λ c. all_stand w b k c inst insts) (root_is w b k h)

pub insts_other : (w : Rewrite) (b k : ℕ) (inst : Inst) (insts : List Inst) → ¬ IsTheRoot w b k → rewritten_insts w b k (inst ∷ insts) ≡ substituted_inst (stands_for w) inst ∷ rewritten_insts w b (suc k) insts
insts_other w b k inst insts h = ap (λ c. all_stand w b k c inst insts) (other_is w b k h)

-- the place of an instruction in the rest of a list
step : (k j : ℕ) → suc k + j ≡ k + suc j
step k j = omega arith

none_more : (m : ℕ) → 0 + m ≡ m
none_more m = omega arith

-- Rewritten instructions that begin at the new index of their first place end at that of the place behind them.
pub length-rewritten : (w : Rewrite) (b k : ℕ) (insts : List Inst) → length (rewritten_insts w b k insts) + moved_place w b k ≡ moved_place w b (k + length insts)
length-rewritten w b k [] = let e : k ≡ k + 0 = omega arith in none_more (moved_place w b k) ∙ ap (moved_place w b) e
length-rewritten w b k (i ∷ insts) =
    let rest : length (rewritten_insts w b (suc k) insts) + moved_place w b (suc k) ≡ moved_place w b (suc k + length insts) = length-rewritten w b (suc k) insts in
    let next : moved_place w b (suc k + length insts) ≡ moved_place w b (k + suc (length insts)) = ap (moved_place w b) (step k (length insts)) in
    elim (same_or_other b k w.block w.place) [
      | inl here ↦
          let more : length (rewritten_insts w b k (i ∷ insts)) ≡ length w.put + length (rewritten_insts w b (suc k) insts) = ap length (insts_root w b k i insts here) ∙ length-append w.put (rewritten_insts w b (suc k) insts) in
          sums (length (rewritten_insts w b k (i ∷ insts))) (length (rewritten_insts w b (suc k) insts)) (moved_place w b k) (moved_place w b (suc k)) _ _ more (moved_root w b k here) (moved_behind_root w b k here) rest next
      | inr other ↦
          let more : length (rewritten_insts w b k (i ∷ insts)) ≡ suc (length (rewritten_insts w b (suc k) insts)) = ap length (insts_other w b k i insts other) in
          steps (length (rewritten_insts w b k (i ∷ insts))) (length (rewritten_insts w b (suc k) insts)) (moved_place w b k) (moved_place w b (suc k)) _ _ more (moved_next w b k other) rest next
    ]
  where
    sums : (all more m n end last : ℕ) → all ≡ length w.put + more → m ≡ k → n ≡ k + length w.put → more + n ≡ end → end ≡ last → all + m ≡ last
    sums all more m n end last p q r s t = omega arith

    steps : (all more m n end last : ℕ) → all ≡ suc more → n ≡ suc m → more + n ≡ end → end ≡ last → all + m ≡ last
    steps all more m n end last p r s t = omega arith

-- an instruction other than the root stands at its new index
pub stays_at : (w : Rewrite) (b k : ℕ) (insts : List Inst) (j n : ℕ) (i : Inst) → slice_get insts j ≡ Some i → ¬ IsTheRoot w b (k + j) → n + moved_place w b k ≡ moved_place w b (k + j)
    → slice_get (rewritten_insts w b k insts) n ≡ Some (substituted_inst (stands_for w) i)
stays_at w b k [] j n i h other at = absurd cc
stays_at w b k (x ∷ insts) zero n i h other at =
    let here : k + 0 ≡ k = omega arith in
    let none : n ≡ 0 = by (moved_place w b k) (moved_place w b (k + 0)) at (ap (moved_place w b) here) in
    let not_root : ¬ IsTheRoot w b k = subst (λ (p : ℕ). ¬ IsTheRoot w b p) here other in
    subst (λ p. slice_get (rewritten_insts w b k (x ∷ insts)) p ≡ Some (substituted_inst (stands_for w) i)) (sym none)
    (ap (λ l. slice_get l 0) (insts_other w b k x insts not_root) ∙ ap (λ y. Some (substituted_inst (stands_for w) y)) (same_Some x i h))
  where
    by : (m p : ℕ) → n + m ≡ p → p ≡ m → n ≡ 0
    by m p at same = omega arith
stays_at w b k (x ∷ insts) (suc j) n i h other at =
    let not_root : ¬ IsTheRoot w b (suc k + j) = subst (λ (p : ℕ). ¬ IsTheRoot w b p) (sym (step k j)) other in
    let there : moved_place w b (suc k + j) ≡ moved_place w b (k + suc j) = ap (moved_place w b) (step k j) in
    let rest : (d : ℕ) → d + moved_place w b (suc k) ≡ moved_place w b (suc k + j) → slice_get (rewritten_insts w b (suc k) insts) d ≡ Some (substituted_inst (stands_for w) i) = λ d e. stays_at w b (suc k) insts j d i h not_root e in
    elim (same_or_other b k w.block w.place) [
      | inl root ↦
          let low : moved_place w b (suc k + j) ≡ suc k + j - 1 + length w.put = (is_moved w b (suc k + j)).behind root.0 (let e : k ≡ w.place = root.1 in omega arith) in
          let d : (d : ℕ) × (d + moved_place w b (suc k) ≡ moved_place w b (suc k + j)) × (n ≡ length w.put + d) = behind (moved_place w b k) (moved_place w b (suc k)) (moved_place w b (suc k + j)) (moved_place w b (k + suc j)) (moved_root w b k root) (moved_behind_root w b k root) low there at in
          ap (λ l. slice_get l n) (insts_root w b k x insts root) ∙ get_right w.put (rewritten_insts w b (suc k) insts) d.0 n (substituted_inst (stands_for w) i) (rest d.0 d.1) d.2
      | inr first ↦
          let d : (d : ℕ) × (d + moved_place w b (suc k) ≡ moved_place w b (suc k + j)) × (n ≡ 1 + d) = later (moved_place w b k) (moved_place w b (suc k)) (moved_place w b (suc k + j)) (moved_place w b (k + suc j)) (moved_next w b k first) (moved_up w b (suc k) (suc k + j) (omega arith)) there at in
          ap (λ l. slice_get l n) (insts_other w b k x insts first) ∙ get_right (substituted_inst (stands_for w) x ∷ []) (rewritten_insts w b (suc k) insts) d.0 n (substituted_inst (stands_for w) i) (rest d.0 d.1) d.2
    ]
  where
    behind : (m p q r : ℕ) → m ≡ k → p ≡ k + length w.put → q ≡ suc k + j - 1 + length w.put → q ≡ r → n + m ≡ r → (d : ℕ) × (d + p ≡ q) × (n ≡ length w.put + d)
    behind m p q r a c e f g = (j, omega arith, omega arith)

    later : (m p q r : ℕ) → p ≡ suc m → p ≤ q → q ≡ r → n + m ≡ r → (d : ℕ) × (d + p ≡ q) × (n ≡ 1 + d)
    later m p q r a c e g = (n - 1, omega arith, omega arith)

-- and so does each instruction that is put
pub put_at : (w : Rewrite) (b k : ℕ) (insts : List Inst) (l n : ℕ) (i : Inst) → b ≡ w.block → k ≤ w.place → w.place < k + length insts → slice_get w.put l ≡ Some i → n + k ≡ w.place + l
    → slice_get (rewritten_insts w b k insts) n ≡ Some i
put_at w b k [] l n i same low high h at = absurd (omega arith)
put_at w b k (x ∷ insts) l n i same low high h at =
    elim (cases_eq k w.place) [
      | inl here ↦
          let is : l ≡ n = omega arith in
          ap (λ p. slice_get p n) (insts_root w b k x insts (same, here)) ∙ get_left w.put (rewritten_insts w b (suc k) insts) n i (subst (λ p. slice_get w.put p ≡ Some i) is h)
      | inr ne ↦
          ap (λ p. slice_get p n) (insts_other w b k x insts (λ root. ne root.1))
          ∙ get_right (substituted_inst (stands_for w) x ∷ []) (rewritten_insts w b (suc k) insts) (n - 1) n i (put_at w b (suc k) insts l (n - 1) i same (omega arith) (omega arith) h (omega arith)) (omega arith)
    ]

-- an instruction of the new function is one of the old function with its operands substituted
pub record Stayed (w : Rewrite) (b k : ℕ) (insts : List Inst) (n : ℕ) (new : Inst) : Type 0 where
  pub place : ℕ
  pub inst : Inst
  pub at : slice_get insts place ≡ Some inst
  pub other : ¬ IsTheRoot w b (k + place)
  pub count : n + moved_place w b k ≡ moved_place w b (k + place)
  pub is : substituted_inst (stands_for w) inst ≡ new

-- or it is one that is put
pub record WasPut (w : Rewrite) (b k n : ℕ) (new : Inst) : Type 0 where
  pub place : ℕ
  pub block : b ≡ w.block
  pub is_put : slice_get w.put place ≡ Some new
  pub count : n + moved_place w b k ≡ w.place + place

stayed_later : (w : Rewrite) (b k : ℕ) (x : Inst) (insts : List Inst) (d n : ℕ) (new : Inst) → n + moved_place w b k ≡ d + moved_place w b (suc k) → Stayed w b (suc k) insts d new → Stayed w b k (x ∷ insts) n new
stayed_later w b k x insts d n new same h = record {
  place = suc h.place;
  inst = h.inst;
  at = h.at;
  other = subst (λ (p : ℕ). ¬ IsTheRoot w b p) (step k h.place) h.other;
  count = same ∙ h.count ∙ ap (moved_place w b) (step k h.place);
  is = h.is;
}

put_later : (w : Rewrite) (b k d n : ℕ) (new : Inst) → n + moved_place w b k ≡ d + moved_place w b (suc k) → WasPut w b (suc k) d new → WasPut w b k n new
put_later w b k d n new same h = record { place = h.place; block = h.block; is_put = h.is_put; count = same ∙ h.count }

pub insts_back : (w : Rewrite) (b k : ℕ) (insts : List Inst) (n : ℕ) (new : Inst) → slice_get (rewritten_insts w b k insts) n ≡ Some new → Stayed w b k insts n new ⊎ WasPut w b k n new
insts_back w b k [] n new h = absurd cc
insts_back w b k (x ∷ insts) n new h =
    elim (same_or_other b k w.block w.place) [
      | inl root ↦ elim (get_cases w.put (rewritten_insts w b (suc k) insts) n new (ap (λ l. slice_get l n) (sym (insts_root w b k x insts root)) ∙ h)) [
        | inl there ↦ inr (record { place = n; block = root.0; is_put = there; count = first (moved_place w b k) (moved_root w b k root) root.1 })
        | inr later ↦
            let same : n + moved_place w b k ≡ later.0 + moved_place w b (suc k) = behind later.0 (moved_place w b k) (moved_place w b (suc k)) later.1 (moved_root w b k root) (moved_behind_root w b k root) in
            rest later.0 n same (insts_back w b (suc k) insts later.0 new later.2)
      ]
      | inr other ↦ by other n (ap (λ l. slice_get l n) (sym (insts_other w b k x insts other)) ∙ h) (λ d. insts_back w b (suc k) insts d new)
    ]
  where
    first : (m : ℕ) → m ≡ k → k ≡ w.place → n + m ≡ w.place + n
    first m p q = omega arith

    behind : (d m p : ℕ) → n ≡ length w.put + d → m ≡ k → p ≡ k + length w.put → n + m ≡ d + p
    behind d m p a c e = omega arith

    next : (d m p : ℕ) → p ≡ suc m → suc d + m ≡ d + p
    next d m p e = omega arith

    rest : (d n : ℕ) → n + moved_place w b k ≡ d + moved_place w b (suc k) → Stayed w b (suc k) insts d new ⊎ WasPut w b (suc k) d new → Stayed w b k (x ∷ insts) n new ⊎ WasPut w b k n new
    rest d n same (inl s) = inl (stayed_later w b k x insts d n new same s)
    rest d n same (inr p) = inr (put_later w b k d n new same p)

    by : ¬ IsTheRoot w b k → (n : ℕ) → slice_get (substituted_inst (stands_for w) x ∷ rewritten_insts w b (suc k) insts) n ≡ Some new
        → ((d : ℕ) → slice_get (rewritten_insts w b (suc k) insts) d ≡ Some new → Stayed w b (suc k) insts d new ⊎ WasPut w b (suc k) d new) → Stayed w b k (x ∷ insts) n new ⊎ WasPut w b k n new
    by other zero h back =
        let here : k ≡ k + 0 = omega arith in
        inl (record { place = 0; inst = x; at = refl; other = subst (λ (p : ℕ). ¬ IsTheRoot w b p) here other; count = none_more (moved_place w b k) ∙ ap (moved_place w b) here; is = same_Some (substituted_inst (stands_for w) x) new h })
    by other (suc d) h back = rest d (suc d) (next d (moved_place w b k) (moved_place w b (suc k)) (moved_next w b k other)) (back d h)

-- ---- blocks

get_blocks : (w : Rewrite) (b : ℕ) (blocks : List Block) (n : ℕ) → slice_get (rewritten_blocks w b blocks) n ≡ option_map (rewritten_block w (b + n)) (slice_get blocks n)
get_blocks w b [] n = refl
get_blocks w b (x ∷ blocks) zero = let here : b ≡ b + 0 = omega arith in ap (λ c. Some (rewritten_block w c x)) here
get_blocks w b (x ∷ blocks) (suc n) = get_blocks w (suc b) blocks n ∙ ap (λ c. option_map (rewritten_block w c) (slice_get blocks n)) (step b n)

pub get_block : (w : Rewrite) (f : Function) (b : ℕ) → slice_get (rewritten_blocks w 0 f.blocks) b ≡ option_map (rewritten_block w b) (slice_get f.blocks b)
get_block w f b = let same : 0 + b ≡ b = omega arith in get_blocks w 0 f.blocks b ∙ ap (λ c. option_map (rewritten_block w c) (slice_get f.blocks b)) same

pub block_at : (w : Rewrite) (f : Function) (b : ℕ) (block : Block) → IsBlock f b block → IsBlock (rewritten_function w f) b (rewritten_block w b block)
block_at w f b block h = get_block w f b ∙ ap (option_map (rewritten_block w b)) h

pub block_back : (w : Rewrite) (f : Function) (b : ℕ) (new : Block) → IsBlock (rewritten_function w f) b new → (block : Block) × IsBlock f b block × (rewritten_block w b block ≡ new)
block_back w f b new h = mapped (rewritten_block w b) (slice_get f.blocks b) new (sym (get_block w f b) ∙ h)

-- the terminator of a block stands at its new index
pub length-block : (w : Rewrite) (b : ℕ) (block : Block) → length (rewritten_insts w b 0 block.insts) ≡ moved_place w b (length block.insts)
length-block w b block = by (moved_place w b 0) (moved_place w b (0 + length block.insts)) (moved_first w b) (length-rewritten w b 0 block.insts) ∙ ap (moved_place w b) none
  where
    none : 0 + length block.insts ≡ length block.insts
    none = omega arith

    by : (m n : ℕ) → m ≡ 0 → length (rewritten_insts w b 0 block.insts) + m ≡ n → length (rewritten_insts w b 0 block.insts) ≡ n
    by m n p q = omega arith

-- ---- instructions

pub inst_on : (w : Rewrite) (f : Function) (b k : ℕ) (inst : Inst) → IsInst f b k inst → ¬ IsTheRoot w b k → IsInst (rewritten_function w f) b (moved_place w b k) (substituted_inst (stands_for w) inst)
inst_on w f b k inst h other =
    let same : k ≡ 0 + k = omega arith in
    record {
      block = rewritten_block w b h.block;
      is_block = block_at w f b h.block h.is_block;
      is_inst = stays_at w b 0 h.block.insts k (moved_place w b k) inst h.is_inst (subst (λ (p : ℕ). ¬ IsTheRoot w b p) same other) (by (moved_place w b 0) (moved_first w b) ∙ ap (moved_place w b) same);
    }
  where
    by : (m : ℕ) → m ≡ 0 → moved_place w b k + m ≡ moved_place w b k
    by m p = omega arith

pub put_on : (w : Rewrite) (f : Function) (root : Inst) (l : ℕ) (inst : Inst) → IsInst f w.block w.place root → slice_get w.put l ≡ Some inst → IsInst (rewritten_function w f) w.block (w.place + l) inst
put_on w f root l inst h is_put =
    let within : w.place < length h.block.insts = slice_get_within h.block.insts w.place root h.is_inst in
    record {
      block = rewritten_block w w.block h.block;
      is_block = block_at w f w.block h.block h.is_block;
      is_inst = put_at w w.block 0 h.block.insts l (w.place + l) inst refl (omega arith) (omega arith) is_put (omega arith);
    }

-- an instruction of the new function that is one of the old function with its operands substituted
pub record InstStayed (f : Function) (w : Rewrite) (b n : ℕ) (new : Inst) : Type 0 where
  pub place : ℕ
  pub inst : Inst
  pub is_inst : IsInst f b place inst
  pub other : ¬ IsTheRoot w b place
  pub count : n ≡ moved_place w b place
  pub is : substituted_inst (stands_for w) inst ≡ new

pub record InstPut (w : Rewrite) (b n : ℕ) (new : Inst) : Type 0 where
  pub place : ℕ
  pub block : b ≡ w.block
  pub is_put : slice_get w.put place ≡ Some new
  pub count : n ≡ w.place + place

pub inst_in : (w : Rewrite) (f : Function) (b n : ℕ) (block : Block) (new : Inst) → IsBlock f b block → slice_get (rewritten_insts w b 0 block.insts) n ≡ Some new → InstStayed f w b n new ⊎ InstPut w b n new
inst_in w f b n block new at h =
    elim (insts_back w b 0 block.insts n new h) [
      | inl s ↦
          let same : 0 + s.place ≡ s.place = omega arith in
          inl (record {
            place = s.place;
            inst = s.inst;
            is_inst = record { block = block; is_block = at; is_inst = s.at };
            other = subst (λ (p : ℕ). ¬ IsTheRoot w b p) same s.other;
            count = by (moved_place w b 0) (moved_place w b (0 + s.place)) (moved_first w b) s.count ∙ ap (moved_place w b) same;
            is = s.is;
          })
      | inr p ↦ inr (record { place = p.place; block = p.block; is_put = p.is_put; count = by (moved_place w b 0) (w.place + p.place) (moved_first w b) p.count })
    ]
  where
    by : (m p : ℕ) → m ≡ 0 → n + m ≡ p → n ≡ p
    by m p a c = omega arith

pub inst_back : (w : Rewrite) (f : Function) (b n : ℕ) (new : Inst) → IsInst (rewritten_function w f) b n new → InstStayed f w b n new ⊎ InstPut w b n new
inst_back w f b n new h =
    let was : (block : Block) × IsBlock f b block × (rewritten_block w b block ≡ h.block) = block_back w f b h.block h.is_block in
    inst_in w f b n was.0 new was.1 (subst (λ (x : Block). slice_get x.insts n ≡ Some new) (sym was.2) h.is_inst)
