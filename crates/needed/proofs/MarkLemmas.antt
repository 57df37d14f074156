-- Marking the instructions that define operands, one by one.
use Rattle.needed.proofs.Common.{◌≡◌, ℕ, zero, suc, ◌+◌, ◌<◌, Bool, true, false, cond, ◌⊎◌, inl, inr, List, [], ◌∷◌, ◌++◌, length, take, get_or, Some, refl, sym, ap, subst, ◌∙◌, arith, All, Contains, append_assoc, append-nil, count_by, length-append, map, slice_get, option_map, set, length-set, cases_eq, get_or-set_same, get_or-set_other, take_more, map-append, All-get_or, Contains-append_left, Contains-append_right, Contains-append_cases, sum_by-set, same_Some, slice_get-get_or, slice_get-map, slice_get_within, slice_get_read, get_or_from_slice_get, Operand, Search, number_of, IsNumbered, IsMarked, unmarked, Marked}
use Rattle.ir_core.specs.declared.operand.Operand.TheVariants as operands
use Rattle.ir_core.specs.declared.operand.Register.TheVariants as registers
use Rattle.needed.proofs.Counting.{contained_at, contains_first}

abbrev pub result_of : ℕ → ℕ → Operand
result_of b k = operands.Register (registers.Result b k)

only_at : {A : Type 0} (x y : A) (i : ℕ) → slice_get (x ∷ []) i ≡ Some y → x ≡ y
only_at x y zero e = same_Some x y e
only_at x y (suc i) e = absurd cc

pub only_one : {A : Type 0} (x y : A) → Contains (x ∷ []) y → x ≡ y
only_one x y h = let at : (i : ℕ) × (slice_get (x ∷ []) i ≡ Some y) = contained_at (x ∷ []) y h in only_at x y at.0 at.1

pub contains_none : {A : Type 0} (y : A) → Contains [] y → ⊥
contains_none y h = let lt : h.0 < 0 = h.1 in omega arith

-- all are marked already
pub marked_same : (firsts : List ℕ) (reads : List Operand) (s : Search) → ((b k : ℕ) → Contains reads (result_of b k) → IsMarked s (number_of firsts b k)) → Marked firsts reads s s
marked_same firsts reads s h = record {
  count = refl;
  more = [];
  work = sym (append-nil s.work.items);
  read = λ x c. absurd (contains_none x c);
  stays = λ i m. m;
  new_marks = λ i m. inl m;
  marks = h;
  unmarked_less = omega arith;
}

-- one more is marked
pub marked_one : (firsts : List ℕ) (b k : ℕ) (operand : Operand) (old new : Search) → operand ≡ result_of b k → number_of firsts b k < length old.marks.items → get_or old.marks.items (number_of firsts b k) false ≡ false
    → new.marks.items ≡ set old.marks.items (number_of firsts b k) true → new.work.items ≡ old.work.items ++ (b, k) ∷ [] → Marked firsts (operand ∷ []) old new
marked_one firsts b k operand old new is within unset marks_are work_is = record {
  count = ap length marks_are ∙ length-set old.marks.items n true;
  more = (b, k) ∷ [];
  work = work_is;
  read = λ x c. let same : (b, k) ≡ x = only_one (b, k) x c in subst (λ (x : ℕ × ℕ). Contains (operand ∷ []) (operands.Register (registers.Result x.0 x.1))) same (subst (Contains (operand ∷ [])) is (contains_first operand []));
  stays = stays;
  new_marks = λ i m. new_marks i (cases_eq n i) m;
  marks = λ d j c. let same : result_of b k ≡ result_of d j = sym is ∙ only_one operand (result_of d j) c in
      let block : b ≡ d = cc in
      let place : k ≡ j = cc in
      subst (λ d. IsMarked new (number_of firsts d j)) block (subst (λ j. IsMarked new (number_of firsts b j)) place here);
  unmarked_less = less;
}
  where
    n : ℕ
    n = number_of firsts b k

    here : IsMarked new n
    here = ap (λ l. get_or l n false) marks_are ∙ get_or-set_same old.marks.items n true false within

    other : (i : ℕ) → (n ≡ i → ⊥) → get_or new.marks.items i false ≡ get_or old.marks.items i false
    other i ne = ap (λ l. get_or l i false) marks_are ∙ get_or-set_other old.marks.items n i true false (λ e. ne (sym e))

    stays : (i : ℕ) → IsMarked old i → IsMarked new i
    stays i m =
        elim (cases_eq n i) [
          | inl e ↦ absurd (let clash : true ≡ false = sym m ∙ ap (λ j. get_or old.marks.items j false) (sym e) ∙ unset in cc)
          | inr ne ↦ other i ne ∙ m
        ]

    new_marks : (i : ℕ) → (n ≡ i) ⊎ (n ≡ i → ⊥) → IsMarked new i → IsMarked old i ⊎ ((x : ℕ × ℕ) × Contains ((b, k) ∷ []) x × (number_of firsts x.0 x.1 ≡ i))
    new_marks i (inl e) m = inr ((b, k), contains_first (b, k) [], e)
    new_marks i (inr ne) m = inl (sym (other i ne) ∙ m)

    less : unmarked new + 1 ≡ unmarked old
    less =
        let one : ℕ = 1 in
        let was : cond (cond (get_or old.marks.items n false) false true) one 0 ≡ one = ap (λ c. cond (cond c false true) one 0) unset in
        let changed : unmarked new ≡ count_by (λ mark. cond mark false true) (set old.marks.items n true) = ap (count_by (λ mark. cond mark false true)) marks_are in
        omega (arith, sum_by-set (λ mark. cond (cond mark false true) 1 0) old.marks.items n true false within, was, changed)

-- first those of some operands are marked, and then those of others
pub marked_then : (firsts : List ℕ) (xs ys : List Operand) (s t u : Search) → Marked firsts xs s t → Marked firsts ys t u → Marked firsts (xs ++ ys) s u
marked_then firsts xs ys s t u p q = record {
  count = q.count ∙ p.count;
  more = p.more ++ q.more;
  work = q.work ∙ ap (λ l. l ++ q.more) p.work ∙ append_assoc s.work.items p.more q.more;
  read = λ x c. elim (Contains-append_cases p.more q.more x c) [
    | inl a ↦ Contains-append_left xs ys (result_of x.0 x.1) (p.read x a)
    | inr b ↦ Contains-append_right xs ys (result_of x.0 x.1) (q.read x b)
  ];
  stays = λ i m. q.stays i (p.stays i m);
  new_marks = λ i m. elim (q.new_marks i m) [
    | inl was ↦ elim (p.new_marks i was) [
      | inl before ↦ inl before
      | inr x ↦ inr (x.0, Contains-append_left p.more q.more x.0 x.1, x.2)
    ]
    | inr x ↦ inr (x.0, Contains-append_right p.more q.more x.0 x.1, x.2)
  ];
  marks = λ b k c. elim (Contains-append_cases xs ys (result_of b k) c) [
    | inl a ↦ q.stays (number_of firsts b k) (p.marks b k a)
    | inr d ↦ q.marks b k d
  ];
  unmarked_less = omega (arith, p.unmarked_less, q.unmarked_less, length-append p.more q.more);
}

pub marked_next : (firsts : List ℕ) (reads : List Operand) (i : ℕ) (operand : Operand) (s t u : Search) → Marked firsts (take i reads) s t → i < length reads → operand ≡ get_or reads i operand → Marked firsts (operand ∷ []) t u → Marked firsts (take (i + 1) reads) s u
marked_next firsts reads i operand s t u p lt here q =
    let next : take (i + 1) reads ≡ take i reads ++ operand ∷ [] = take_more reads i operand lt ∙ ap (λ (o : Operand). take i reads ++ o ∷ []) (sym here) in
    subst (λ l. Marked firsts l s u) (sym next) (marked_then firsts (take i reads) (operand ∷ []) s t u p q)

-- the operands of entries
abbrev pub values_of : List (Operand × ℕ) → List Operand
values_of entries = map (λ (e : Operand × ℕ). e.0) entries

pub marked_next_entry : (firsts : List ℕ) (entries : List (Operand × ℕ)) (i : ℕ) (entry : Operand × ℕ) (s t u : Search) → Marked firsts (values_of (take i entries)) s t → i < length entries → entry ≡ get_or entries i entry → Marked firsts (entry.0 ∷ []) t u → Marked firsts (values_of (take (i + 1) entries)) s u
marked_next_entry firsts entries i entry s t u p lt here q =
    let next : take (i + 1) entries ≡ take i entries ++ entry ∷ [] = take_more entries i entry lt ∙ ap (λ (e : Operand × ℕ). take i entries ++ e ∷ []) (sym here) in
    subst (λ l. Marked firsts l s u) (sym (ap values_of next ∙ map-append (λ (e : Operand × ℕ). e.0) (take i entries) (entry ∷ []))) (marked_then firsts (values_of (take i entries)) (entry.0 ∷ []) s t u p q)

-- an operand keeps its number while marks are set
pub numbered_at : (firsts : List ℕ) (reads : List Operand) (i : ℕ) (operand : Operand) (n m : ℕ) → All (IsNumbered firsts n) reads → m ≡ n → i < length reads → operand ≡ get_or reads i operand → IsNumbered firsts m operand
numbered_at firsts reads i operand n m h same lt here = subst (λ n. IsNumbered firsts n operand) (sym same) (subst (IsNumbered firsts n) (sym here) (All-get_or (IsNumbered firsts n) reads i operand lt h))

pub numbered_entry : (firsts : List ℕ) (entries : List (Operand × ℕ)) (i : ℕ) (entry : Operand × ℕ) (n m : ℕ) → All (IsNumbered firsts n) (values_of entries) → m ≡ n → i < length entries → entry ≡ get_or entries i entry → IsNumbered firsts m entry.0
numbered_entry firsts entries i entry n m h same lt here =
    let at : slice_get entries i ≡ Some entry = slice_get-get_or entries i entry lt ∙ ap (λ (e : Operand × ℕ). Some e) (sym here) in
    let value : slice_get (values_of entries) i ≡ Some entry.0 = slice_get-map (λ (e : Operand × ℕ). e.0) entries i ∙ ap (option_map (λ (e : Operand × ℕ). e.0)) at in
    numbered_at firsts (values_of entries) i entry.0 n m h same (slice_get_within (values_of entries) i entry.0 value) (sym (get_or_from_slice_get (values_of entries) i entry.0 entry.0 value))

-- a lookup within the list gives the item, whatever the default
pub get_or-read : {A : Type 0} (xs : List A) (i : ℕ) (x d : A) → i < length xs → x ≡ get_or xs i x → get_or xs i d ≡ x
get_or-read xs i x d lt here = get_or_from_slice_get xs i x d (slice_get_read xs (length xs) i x refl lt here)

-- the sum of the block's first number, as it was read, and the place is the instruction's number
number_read : (firsts : List ℕ) (operand : Operand) (b k first n : ℕ) → operand ≡ result_of b k → IsNumbered firsts n operand → first ≡ get_or firsts b first → (number_of firsts b k ≡ first + k) × (number_of firsts b k < n)
number_read firsts operand b k first n is numbered here =
    let in_table : IsNumbered firsts n (result_of b k) = subst (IsNumbered firsts n) is numbered in
    (ap (λ x. x + k) (get_or-read firsts b first 0 in_table.0 here), in_table.1)

-- the defining instruction is marked already
pub mark_again : (firsts : List ℕ) (operand : Operand) (b k first : ℕ) (mark : Bool) (s : Search) → operand ≡ result_of b k → IsNumbered firsts (length s.marks.items) operand
    → first ≡ get_or firsts b first → mark ≡ get_or s.marks.items (first + k) mark → mark ≡ true → Marked firsts (operand ∷ []) s s
mark_again firsts operand b k first mark s is numbered here read set =
    let n : (number_of firsts b k ≡ first + k) × (number_of firsts b k < length s.marks.items) = number_read firsts operand b k first (length s.marks.items) is numbered here in
    let within : first + k < length s.marks.items = omega arith in
    let marked : IsMarked s (number_of firsts b k) = ap (λ i. get_or s.marks.items i false) n.0 ∙ get_or-read s.marks.items (first + k) mark false within read ∙ set in
    marked_same firsts (operand ∷ []) s (λ d j c.
    let same : result_of b k ≡ result_of d j = sym is ∙ only_one operand (result_of d j) c in
    let block : b ≡ d = cc in
    let place : k ≡ j = cc in
    subst (λ d. IsMarked s (number_of firsts d j)) block (subst (λ j. IsMarked s (number_of firsts b j)) place marked))

-- the defining instruction is not marked yet
pub mark_anew : (firsts : List ℕ) (operand : Operand) (b k first : ℕ) (mark : Bool) (old new : Search) → operand ≡ result_of b k → IsNumbered firsts (length old.marks.items) operand
    → first ≡ get_or firsts b first → mark ≡ get_or old.marks.items (first + k) mark → mark ≡ false
    → new.marks.items ≡ set old.marks.items (first + k) true → new.work.items ≡ old.work.items ++ (b, k) ∷ [] → Marked firsts (operand ∷ []) old new
mark_anew firsts operand b k first mark old new is numbered here read unset marks_are work_is =
    let n : (number_of firsts b k ≡ first + k) × (number_of firsts b k < length old.marks.items) = number_read firsts operand b k first (length old.marks.items) is numbered here in
    let within : first + k < length old.marks.items = omega arith in
    marked_one firsts b k operand old new is n.1
    (ap (λ i. get_or old.marks.items i false) n.0 ∙ get_or-read old.marks.items (first + k) mark false within read ∙ unset)
    (marks_are ∙ ap (λ i. set old.marks.items i true) (sym n.0)) work_is
