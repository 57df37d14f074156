-- The new indices of kept instructions, by counts of marks.
use Rattle.needed.proofs.Common.{◌≡◌, ℕ, zero, suc, ◌+◌, ◌<◌, ◌≤◌, Bool, true, false, List, [], ◌∷◌, ◌++◌, length, take, drop, Some, refl, sym, ap, subst, ◌∙◌, ◌⊎◌, inl, inr, arith, get_or, count_by, slice_get, drop-cons, cases_eq, get_or_from_slice_get, length_push, count_by_more_yes, count_by_more_no, Register, KeptMarks, kept_before, moved_register, number_of, marks_by, IsNumbered, AreCounts}
use Rattle.ir_core.specs.declared.operand.Operand.TheVariants as operands
use Rattle.ir_core.specs.declared.operand.Register.TheVariants as registers
use Rattle.needed.proofs.Counting.{count-kept, count-dropped}
use Rattle.needed.proofs.MarkLemmas.{get_or-read}

-- how many of the first i instructions are marked
abbrev pub marked_before : List Bool → ℕ → ℕ
marked_before marks i = count_by (λ mark. mark) (take i marks)

-- ---- the counts

get_before_push : (xs : List ℕ) (x k y : ℕ) → slice_get xs k ≡ Some y → slice_get (xs ++ x ∷ []) k ≡ Some y
get_before_push [] x k y h = absurd cc
get_before_push (z ∷ xs) x zero y h = h
get_before_push (z ∷ xs) x (suc k) y h = get_before_push xs x k y h

get_pushed : (xs : List ℕ) (x : ℕ) → slice_get (xs ++ x ∷ []) (length xs) ≡ Some x
get_pushed [] x = refl
get_pushed (z ∷ xs) x = get_pushed xs x

-- the counts of the first i instructions are known, and how many of those are marked
pub record Counted (marks : List Bool) (i : ℕ) (counts : List ℕ) (count : ℕ) : Type 0 where
  pub length_is : length counts ≡ i
  pub at : (k : ℕ) → k < i → slice_get counts k ≡ Some (marked_before marks k)
  pub count_is : count ≡ marked_before marks i
  pub low : count ≤ i

counted_more : (marks : List Bool) (i : ℕ) (counts : List ℕ) (count next : ℕ) → Counted marks i counts count → next ≡ marked_before marks (i + 1) → next ≤ i + 1 → Counted marks (i + 1) (counts ++ count ∷ []) next
counted_more marks i counts count next c e le = record {
  length_is = length_push counts count ∙ ap (λ x. x + 1) c.length_is;
  at = λ k lt. by k (cases_eq k i) lt;
  count_is = e;
  low = le;
}
  where
    by : (k : ℕ) → (k ≡ i) ⊎ (k ≡ i → ⊥) → k < i + 1 → slice_get (counts ++ count ∷ []) k ≡ Some (marked_before marks k)
    by k (inl same) lt =
        let place : length counts ≡ k = c.length_is ∙ sym same in
        subst (λ x. slice_get (counts ++ count ∷ []) x ≡ Some count) place (get_pushed counts count) ∙ ap (λ x. Some x) (c.count_is ∙ ap (marked_before marks) (sym same))
    by k (inr ne) lt = get_before_push counts count k (marked_before marks k) (c.at k (omega arith))

pub counted_marked : (marks : List Bool) (i : ℕ) (counts : List ℕ) (count : ℕ) (d : Bool) → Counted marks i counts count → i < length marks → get_or marks i d ≡ true → Counted marks (i + 1) (counts ++ count ∷ []) (count + 1)
counted_marked marks i counts count d c within is =
    let low : count ≤ i = c.low in
    counted_more marks i counts count (count + 1) c (ap (λ x. x + 1) c.count_is ∙ sym (count_by_more_yes (λ mark. mark) marks i d within is)) (omega arith)

pub counted_other : (marks : List Bool) (i : ℕ) (counts : List ℕ) (count : ℕ) (d : Bool) → Counted marks i counts count → i < length marks → get_or marks i d ≡ false → Counted marks (i + 1) (counts ++ count ∷ []) count
counted_other marks i counts count d c within is =
    let low : count ≤ i = c.low in
    counted_more marks i counts count count c (c.count_is ∙ sym (count_by_more_no (λ mark. mark) marks i d within is)) (omega arith)

-- ---- the new index as the difference of two counts

count-place : (firsts : List ℕ) (marks : List Bool) (b k : ℕ) → number_of firsts b k ≤ length marks → marked_before marks (number_of firsts b k) ≡ marked_before marks (get_or firsts b 0) + kept_before (marks_by firsts marks) b k
count-place firsts marks b zero le = let none : number_of firsts b 0 ≡ get_or firsts b 0 = omega arith in let same = ap (marked_before marks) none in same ∙ omega arith
count-place firsts marks b (suc k) le =
    let within : number_of firsts b k < length marks = omega arith in
    let next : number_of firsts b (suc k) ≡ number_of firsts b k + 1 = omega arith in
    by (marks_by firsts marks b k) refl within (ap (marked_before marks) next) (count-place firsts marks b k (omega arith))
  where
    by : (keep : Bool) → marks_by firsts marks b k ≡ keep → number_of firsts b k < length marks → marked_before marks (number_of firsts b (suc k)) ≡ marked_before marks (number_of firsts b k + 1)
        → marked_before marks (number_of firsts b k) ≡ marked_before marks (get_or firsts b 0) + kept_before (marks_by firsts marks) b k
        → marked_before marks (number_of firsts b (suc k)) ≡ marked_before marks (get_or firsts b 0) + kept_before (marks_by firsts marks) b (suc k)
    by true e within next before = omega (arith, next, before, count_by_more_yes (λ mark. mark) marks (number_of firsts b k) false within e, count-kept (marks_by firsts marks) b k e)
    by false e within next before = omega (arith, next, before, count_by_more_no (λ mark. mark) marks (number_of firsts b k) false within e, count-dropped (marks_by firsts marks) b k e)

count_read : (marks : List Bool) (counts : List ℕ) (i v : ℕ) → AreCounts marks counts → i < length marks → v ≡ get_or counts i v → v ≡ marked_before marks i
count_read marks counts i v c within here = here ∙ get_or_from_slice_get counts i (marked_before marks i) v (c.at i within)

-- the two counts that are read for a register: at its number, and at the first number of its block
pub place_read : (firsts counts : List ℕ) (marks : List Bool) (register : Register) (b k first all before : ℕ) → AreCounts marks counts → register ≡ registers.Result b k → IsNumbered firsts (length marks) (operands.Register register)
    → first ≡ get_or firsts b first → all ≡ get_or counts (first + k) all → before ≡ get_or counts first before → all ≡ before + kept_before (marks_by firsts marks) b k
place_read firsts counts marks register b k first all before c is numbered here all_here before_here =
    let in_table : IsNumbered firsts (length marks) (operands.Register (registers.Result b k)) = subst (λ r. IsNumbered firsts (length marks) (operands.Register r)) is numbered in
    let same : get_or firsts b 0 ≡ first = get_or-read firsts b first 0 in_table.0 here in
    let below : number_of firsts b k < length marks = in_table.1 in
    let at_all : all ≡ marked_before marks (first + k) = count_read marks counts (first + k) all c (omega arith) all_here in
    let at_first : before ≡ marked_before marks first = count_read marks counts first before c (omega arith) before_here in
    let number : number_of firsts b k ≡ first + k = ap (λ x. x + k) same in
    omega (arith, at_all, at_first, count-place firsts marks b k (omega arith), ap (marked_before marks) number, ap (marked_before marks) same)

pub place_is : (kept : KeptMarks) (register : Register) (b k place : ℕ) → register ≡ registers.Result b k → place ≡ kept_before kept b k → registers.Result b place ≡ moved_register kept register
place_is kept register b k place is e = ap (λ x. registers.Result b x) e ∙ sym (ap (moved_register kept) is)

-- ---- a list that is changed item by item

-- The items before the index are changed, and those from there on are as they were. F i is the change to a list whose
-- first item has index i.
pub record Written {A : Type 0} (F : ℕ → List A → List A) (all : List A) (i : ℕ) (items : List A) : Type 0 where
  pub written : take i items ++ F i (drop i items) ≡ F 0 all
  pub rest : drop i items ≡ drop i all
  pub size : length items ≡ length all

-- the next item is still the old one
pub next_as_before : {A : Type 0} (F : ℕ → List A → List A) (all : List A) (i : ℕ) (items : List A) (x : A) → Written F all i items → i < length items → x ≡ get_or items i x → x ≡ get_or all i x
next_as_before F all i items x w within here =
    let size = w.size in
    let same : get_or items i x ∷ drop (suc i) items ≡ get_or all i x ∷ drop (suc i) all = sym (drop-cons items i x within) ∙ w.rest ∙ drop-cons all i x (omega arith) in
    let heads : get_or items i x ≡ get_or all i x = cc in
    here ∙ heads

-- the mark that is read is that of instruction k of block b
pub mark_read : (firsts : List ℕ) (marks : List Bool) (b k first : ℕ) (mark : Bool) → b < length firsts → number_of firsts b k < length marks → first ≡ get_or firsts b first → mark ≡ get_or marks (first + k) mark → marks_by firsts marks b k ≡ mark
mark_read firsts marks b k first mark inside within here read =
    let same : get_or firsts b 0 ≡ first = get_or-read firsts b first 0 inside here in
    let at : number_of firsts b k ≡ first + k = ap (λ x. x + k) same in
    ap (λ i. get_or marks i false) at ∙ get_or-read marks (first + k) mark false (omega arith) read
