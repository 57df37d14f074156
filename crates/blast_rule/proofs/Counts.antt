-- Bounds on how many gates there are.
use Rattle.blast_rule.proofs.Common.{◌≡◌, ℕ, zero, suc, ◌+◌, ◌-◌, ◌*◌, ◌^◌, ◌<◌, ◌≤◌, max, List, [], ◌∷◌, ◌++◌, length, map, Some, refl, sym, ap, subst, ◌∙◌, arith, get_or, slice_get, slice_index, sum_by, flat_map, Contains, option_map, All, fold, select_gates, mul-le-mul_left, mul-le-mul, All-nil, All-cons, All-head, All-tail, All-map, All-weaker, All-contains_itself, Contains-append_left, sum_by-cons, sum_by-le, slice_get-get_or, slice_get_within, slice_get-map, get_or_from_slice_get, same_Some, Add, Sub, Mul, UDiv, SDiv, URem, SRem, Shl, LShr, AShr, And, Or, Xor, UMin, UMax, SMin, SMax, Abs, CtPop, CtLz, CtTz, Trunc, ZExt, SExt, Rule, Statement, Operand, Op, Binary, Compare, Unary, Select, Convert, Freeze, Copy, IsTyping, IsRule, MayBeFormula, Term, Not, Formula, operands_of, terms_in, classes_of_statement, classes_of_term, IsStatementOf, IsTermOf, Contains-from_get, Contains-flat_map, source_statement, target_statement, term_class_stands, constant_term, witness_term, few_terms, few_formulas, shift-few, count-few, op_gates, statement_gates, widths_of_terms, widths_of_witness, refusal_gates, root_width, most_gates, greatest_width, op_bound, statement_bound, rule_bound, formula_gates, fact_gates, term_bound, formula_bound, choice_bound, ReadsTerms, GatesAreFew, GatesAreBelow, few_choices, node-low, terms-few}
use Rattle.rule_core.specs.declared.rule.Node.TheVariants as nodes
use Rattle.rule_core.specs.declared.rule.Formula.TheVariants as formulas_of

square_mono : (n k : ℕ) → n ≤ k → n * n ≤ k * k
square_mono n k h = mul-le-mul h h

-- The bound of an operation leaves gates for the comparison of effects at the end, where K is at least the width of its
-- result and those of its operands.
op-few : (typing : List ℕ) (N K : ℕ) (op : Op) → 1 ≤ N → N ≤ 64 → N ≤ K → All (λ M. M ≤ K) (map (slice_index typing) (map (λ (o : Operand). o.class) (operands_of op))) → op_gates typing N op + (2 * N + 7) ≤ op_bound op K
op-few typing N K (Binary Add flags a b) some low below all = omega arith
op-few typing N K (Binary Sub flags a b) some low below all = omega arith
op-few typing N K (Binary Mul flags a b) some low below all = let fewer : N - 1 ≤ N = omega arith in omega (arith, mul-le-mul_left (3 * N) fewer, square_mono N K below)
op-few typing N K (Binary UDiv flags a b) some low below all = omega (arith, square_mono N K below)
op-few typing N K (Binary SDiv flags a b) some low below all = omega (arith, square_mono N K below)
op-few typing N K (Binary URem flags a b) some low below all = omega (arith, square_mono N K below)
op-few typing N K (Binary SRem flags a b) some low below all = omega (arith, square_mono N K below)
op-few typing N K (Binary Shl flags a b) some low below all = omega (arith, shift-few N low)
op-few typing N K (Binary LShr flags a b) some low below all = omega (arith, shift-few N low)
op-few typing N K (Binary AShr flags a b) some low below all = omega (arith, shift-few N low)
op-few typing N K (Binary And flags a b) some low below all = omega arith
op-few typing N K (Binary Or flags a b) some low below all = omega arith
op-few typing N K (Binary Xor flags a b) some low below all = omega arith
op-few typing N K (Binary UMin flags a b) some low below all = omega arith
op-few typing N K (Binary UMax flags a b) some low below all = omega arith
op-few typing N K (Binary SMin flags a b) some low below all = omega arith
op-few typing N K (Binary SMax flags a b) some low below all = omega arith
op-few typing N K (Compare pred samesign a b) some low below all = omega (arith, all 0 0 (omega arith))
op-few typing N K (Unary Abs truth a) some low below all = omega arith
op-few typing N K (Unary CtPop truth a) some low below all = omega (arith, count-few N low)
op-few typing N K (Unary CtLz truth a) some low below all = omega (arith, count-few N low)
op-few typing N K (Unary CtTz truth a) some low below all = omega (arith, count-few N low)
op-few typing N K (Select c a b) some low below all = omega arith
op-few typing N K (Convert Trunc flags a to) some low below all = omega (arith, all 0 0 (omega arith))
op-few typing N K (Convert ZExt flags a to) some low below all = omega arith
op-few typing N K (Convert SExt flags a to) some low below all = omega arith
op-few typing N K (Freeze a k) some low below all = omega arith
op-few typing N K (Copy a) some low below all = omega arith

bound-few : (N : ℕ) (op : Op) → N ≤ 64 → op_bound op N ≤ 266240
bound-few N op low =
    let square : N * N ≤ 64 * 64 = mul-le-mul low low in
    elim op as (λ o. op_bound o N ≤ 266240) [
      | Binary op flags a b ↦ elim op as (λ o. op_bound (Binary o flags a b) N ≤ 266240) [
        | Mul ↦ omega arith
        | UDiv ↦ omega arith
        | SDiv ↦ omega arith
        | URem ↦ omega arith
        | SRem ↦ omega arith
        | _ ↦ omega arith
      ]
      | _ ↦ omega arith
    ]

unit_term : Term
unit_term = record { class = 0; node = nodes.Constant 0 }

-- the number at a place of a list, or 0 past its end, is at most each bound of the list
index-low : (m : ℕ) (xs : List ℕ) (k : ℕ) → All (λ x. x ≤ m) xs → slice_index xs k ≤ m
index-low m [] zero all = omega arith
index-low m [] (suc k) all = omega arith
index-low m (x ∷ xs) zero all = All-head (λ x. x ≤ m) x xs all
index-low m (x ∷ xs) (suc k) all = index-low m xs k (All-tail (λ x. x ≤ m) x xs all)

-- the greatest of some numbers, as a fold: it is at least each of them, and, below, at most each bound of them
fold-above : (a : ℕ) (xs : List ℕ) → (a ≤ fold max a xs) × All (λ x. x ≤ fold max a xs) xs
fold-above a [] = (omega arith, All-nil (λ x. x ≤ a))
fold-above a (y ∷ xs) =
    let rest = fold-above (max a y) xs in
    (omega (arith, rest.0), All-cons (λ x. x ≤ fold max (max a y) xs) y xs (omega (arith, rest.0)) rest.1)

fold-least : (a m : ℕ) (xs : List ℕ) → a ≤ m → All (λ x. x ≤ m) xs → fold max a xs ≤ m
fold-least a m [] low all = low
fold-least a m (y ∷ xs) low all = fold-least (max a y) m xs (omega (arith, All-head (λ x. x ≤ m) y xs all)) (All-tail (λ x. x ≤ m) y xs all)

-- a sum of greater terms is greater; below, by as much as one of the terms is
sum-le : {X : Type 0} (f g : X → ℕ) (xs : List X) → All (λ x. f x ≤ g x) xs → sum_by f xs ≤ sum_by g xs
sum-le f g [] le = omega arith
sum-le f g (x ∷ xs) le = omega (arith, sum_by-cons f x xs, sum_by-cons g x xs, le 0 x (omega arith), sum-le f g xs (All-tail (λ y. f y ≤ g y) x xs le))

-- and of two sums at once
sums-le : {X : Type 0} (f h g : X → ℕ) (xs : List X) → All (λ x. f x + h x ≤ g x) xs → sum_by f xs + sum_by h xs ≤ sum_by g xs
sums-le f h g [] le = omega arith
sums-le f h g (x ∷ xs) le = omega (arith, sum_by-cons f x xs, sum_by-cons h x xs, sum_by-cons g x xs, le 0 x (omega arith), sums-le f h g xs (All-tail (λ y. f y + h y ≤ g y) x xs le))

sum-room : {X : Type 0} (f g : X → ℕ) (k : ℕ) (xs : List X) (i : ℕ) (x : X) → All (λ x. f x ≤ g x) xs → slice_get xs i ≡ Some x → f x + k ≤ g x → sum_by f xs + k ≤ sum_by g xs
sum-room f g k [] i x le at room = absurd (omega (arith, slice_get_within [] i x at))
sum-room f g k (y ∷ xs) zero x le at room =
    let here : f y + k ≤ g y = subst (λ z. f z + k ≤ g z) (sym (same_Some y x at)) room in
    omega (arith, sum_by-cons f y xs, sum_by-cons g y xs, sum-le f g xs (All-tail (λ z. f z ≤ g z) y xs le))
sum-room f g k (y ∷ xs) (suc i) x le at room =
    omega (arith, sum_by-cons f y xs, sum_by-cons g y xs, le 0 y (omega arith), sum-room f g k xs i x (All-tail (λ z. f z ≤ g z) y xs le) at room)

-- each class of a statement has a width
abbrev pub HaveWidths : List ℕ → Statement → Type 0
HaveWidths typing s = All (λ class. class < length typing) (classes_of_statement s)

pub have_widths-at : (typing : List ℕ) (statements : List Statement) (i : ℕ) (s : Statement) → All (HaveWidths typing) statements → i < length statements → s ≡ get_or statements i s → HaveWidths typing s
have_widths-at typing statements i s all within is = subst (HaveWidths typing) (sym is) (all i s within)

module _ (rule : Rule) (typing : List ℕ) (checked : IsRule rule) (typed : IsTyping rule typing) where
  class_within : (s : Statement) → IsStatementOf rule s → HaveWidths typing s
  class_within s stands =
      All-weaker (Contains (classes_of_statement s)) (λ class. class < length typing)
      (λ class among. typed.classes class (Contains-append_left (flat_map classes_of_statement (rule.source ++ rule.target)) (flat_map classes_of_term (terms_in rule)) class (Contains-flat_map classes_of_statement (rule.source ++ rule.target) s class stands among)))
      (classes_of_statement s) (All-contains_itself (classes_of_statement s))

  class_width : (class : ℕ) → class < length typing → (1 ≤ slice_index typing class) × (slice_index typing class ≤ 64)
  class_width class within = typed.widths (slice_index typing class) (Contains-from_get typing class (slice_index typing class) (slice_get-get_or typing class 0 within))

  statement_width : (s : Statement) → IsStatementOf rule s → (1 ≤ slice_index typing s.class) × (slice_index typing s.class ≤ 64)
  statement_width s stands = class_width s.class (class_within s stands 0 0 (omega arith))

  -- the greatest width of a statement is at least that of its result and of each operand, and at most 64
  widths-below : (s : Statement) → All (λ N. N ≤ greatest_width typing s) (map (slice_index typing) (classes_of_statement s))
  widths-below s = (fold-above 0 (map (slice_index typing) (classes_of_statement s))).1

  statement-room : (s : Statement) → IsStatementOf rule s → statement_gates typing s + refusal_gates (slice_index typing s.class) + 2 ≤ statement_bound typing s
  statement-room s stands =
      let w = statement_width s stands in
      let operands = All-tail (λ M. M ≤ greatest_width typing s) (slice_index typing s.class) (map (slice_index typing) (map (λ (o : Operand). o.class) (operands_of s.op))) (widths-below s) in
      omega (arith, op-few typing (slice_index typing s.class) (greatest_width typing s) s.op w.0 w.1 (widths-below s 0 0 (omega arith)) operands)

  statement-few : (s : Statement) → IsStatementOf rule s → statement_gates typing s ≤ statement_bound typing s
  statement-few s stands = omega (arith, statement-room s stands)

  statement-bound : (s : Statement) → IsStatementOf rule s → statement_bound typing s ≤ 266240
  statement-bound s stands =
      let low = All-weaker (λ class. class < length typing) (λ class. slice_index typing class ≤ 64) (λ class within. (class_width class within).1) (classes_of_statement s) (class_within s stands) in
      bound-few (greatest_width typing s) s.op (fold-least 0 64 (map (slice_index typing) (classes_of_statement s)) (omega arith) (All-map (λ N. N ≤ 64) (slice_index typing) (classes_of_statement s) low))

  in_source : (P : Statement → Type 0) → ((s : Statement) → IsStatementOf rule s → P s) → All P rule.source
  in_source P all k d within = all (get_or rule.source k d) (source_statement rule k (get_or rule.source k d) (slice_get-get_or rule.source k d within))

  in_target : (P : Statement → Type 0) → ((s : Statement) → IsStatementOf rule s → P s) → All P rule.target
  in_target P all k d within = all (get_or rule.target k d) (target_statement rule k (get_or rule.target k d) (slice_get-get_or rule.target k d within))

  pub classes_in_source : All (HaveWidths typing) rule.source
  classes_in_source = in_source (HaveWidths typing) class_within

  pub classes_in_target : All (HaveWidths typing) rule.target
  classes_in_target = in_target (HaveWidths typing) class_within

  pub root_width-is : (s : Statement) → slice_get rule.source (length rule.source - 1) ≡ Some s → root_width rule typing ≡ slice_index typing s.class
  root_width-is s at = rw at refl

  some_root : (statements : List Statement) → 0 < length statements → (s : Statement) × (slice_get statements (length statements - 1) ≡ Some s)
  some_root [] some = absurd (omega arith)
  some_root (s ∷ rest) some = (get_or (s ∷ rest) (length (s ∷ rest) - 1) s, slice_get-get_or (s ∷ rest) (length (s ∷ rest) - 1) s (omega arith))

  term_width : (t : Term) → IsTermOf rule t → (1 ≤ slice_index typing t.class) × (slice_index typing t.class ≤ 64)
  term_width t stands = class_width t.class (typed.classes t.class (term_class_stands rule t stands))

  constant_terms : (P : Term → Type 0) → ((t : Term) → IsTermOf rule t → P t) → All P rule.terms
  constant_terms P all k d within = all (get_or rule.terms k d) (constant_term rule k (get_or rule.terms k d) (slice_get-get_or rule.terms k d within))

  witness_terms : (P : Term → Type 0) → ((t : Term) → IsTermOf rule t → P t) → All P rule.witness_terms
  witness_terms P all k d within = all (get_or rule.witness_terms k d) (witness_term rule k (get_or rule.witness_terms k d) (slice_get-get_or rule.witness_terms k d within))

  formulas : (P : Formula → Type 0) → ((n : ℕ) (f : Formula) → MayBeFormula rule n f → P f) → All P rule.precondition
  formulas P all k d within = all k (get_or rule.precondition k d) (checked.precondition k (get_or rule.precondition k d) (slice_get-get_or rule.precondition k d within))

  -- the classes of terms have widths, and what reads terms reads ones that there are
  pub terms_within : All (λ t. t.class < length typing) rule.terms
  terms_within = constant_terms (λ t. t.class < length typing) (λ t stands. typed.classes t.class (term_class_stands rule t stands))

  pub expressions_within : All (λ t. t.class < length typing) rule.witness_terms
  expressions_within = witness_terms (λ t. t.class < length typing) (λ t stands. typed.classes t.class (term_class_stands rule t stands))

  reads_terms : (n : ℕ) (f : Formula) → MayBeFormula rule n f → ReadsTerms (length rule.terms) f
  reads_terms n (formulas_of.Compare pred a b) may = may.0
  reads_terms n (formulas_of.IsPowerOfTwo a) may = may
  reads_terms n (formulas_of.IsSignBit a) may = may
  reads_terms n (formulas_of.HasOneUse j) may = tt
  reads_terms n (formulas_of.MaskedValueIsZero r a) may = may.1
  reads_terms n (formulas_of.IsKnownNonZero r) may = tt
  reads_terms n (formulas_of.Not a) may = tt
  reads_terms n (formulas_of.And a b) may = tt
  reads_terms n (formulas_of.Or a b) may = tt

  pub formulas_read : All (ReadsTerms (length rule.terms)) rule.precondition
  formulas_read = formulas (ReadsTerms (length rule.terms)) reads_terms

  pub places_within : All (λ n. n < length rule.witness_terms) rule.witnesses
  places_within k d within = checked.witnesses_there k (get_or rule.witnesses k d) (slice_get-get_or rule.witnesses k d within)

  -- the width of the term at a place is from 1 to 64
  pub width_there : (a : ℕ) → a < length rule.terms → (1 ≤ slice_index (widths_of_terms rule typing) a) × (slice_index (widths_of_terms rule typing) a ≤ 64)
  width_there a within =
      let w : Term → ℕ = λ t. slice_index typing t.class in
      let t : Term = get_or rule.terms a unit_term in
      let at : slice_get rule.terms a ≡ Some t = slice_get-get_or rule.terms a unit_term within in
      let told : slice_index (widths_of_terms rule typing) a ≡ w t = get_or_from_slice_get (widths_of_terms rule typing) a (w t) 0 (slice_get-map w rule.terms a ∙ ap (option_map w) at) in
      let width = term_width t (constant_term rule a t at) in
      (omega (arith, width.0, told), omega (arith, width.1, told))

  formula_few : (n : ℕ) (f : Formula) → MayBeFormula rule n f → formula_gates (widths_of_terms rule typing) f + fact_gates (widths_of_terms rule typing) f ≤ formula_bound (widths_of_terms rule typing) f
  formula_few n (formulas_of.Compare pred a b) may = let w = width_there a may.0 in omega (arith, w.0)
  formula_few n (formulas_of.IsPowerOfTwo a) may = let w = width_there a may in omega (arith, w.0)
  formula_few n (formulas_of.IsSignBit a) may = let w = width_there a may in omega (arith, w.0)
  formula_few n (formulas_of.HasOneUse j) may = omega arith
  formula_few n (formulas_of.MaskedValueIsZero r a) may = let w = width_there a may.1 in omega (arith, w.0)
  formula_few n (formulas_of.IsKnownNonZero r) may = omega arith
  formula_few n (formulas_of.Not a) may = omega arith
  formula_few n (formulas_of.And a b) may = omega arith
  formula_few n (formulas_of.Or a b) may = omega arith

  formula_low : (n : ℕ) (f : Formula) → MayBeFormula rule n f → formula_bound (widths_of_terms rule typing) f ≤ 4096
  formula_low n (formulas_of.Compare pred a b) may = let w = width_there a may.0 in omega (arith, w.1)
  formula_low n (formulas_of.IsPowerOfTwo a) may = let w = width_there a may in omega (arith, w.1)
  formula_low n (formulas_of.IsSignBit a) may = let w = width_there a may in omega (arith, w.1)
  formula_low n (formulas_of.HasOneUse j) may = omega arith
  formula_low n (formulas_of.MaskedValueIsZero r a) may = let w = width_there a may.1 in omega (arith, w.1)
  formula_low n (formulas_of.IsKnownNonZero r) may = omega arith
  formula_low n (formulas_of.Not a) may = omega arith
  formula_low n (formulas_of.And a b) may = omega arith
  formula_low n (formulas_of.Or a b) may = omega arith

  few_in_rule : most_gates rule typing ≤ rule_bound rule typing
  few_in_rule =
      let root = some_root rule.source checked.source_root in
      let width = root_width-is root.0 root.1 in
      let stands = source_statement rule (length rule.source - 1) root.0 root.1 in
      let source = sum-room (statement_gates typing) (statement_bound typing) (refusal_gates (root_width rule typing) + 2) rule.source (length rule.source - 1) root.0
      (in_source (λ s. statement_gates typing s ≤ statement_bound typing s) statement-few) root.1 (rw width (omega (arith, statement-room root.0 stands))) in
      let target = sum-le (statement_gates typing) (statement_bound typing) rule.target (in_target (λ s. statement_gates typing s ≤ statement_bound typing s) statement-few) in
      let terms = terms-few typing rule.terms (constant_terms (λ t. (1 ≤ slice_index typing t.class) × (slice_index typing t.class ≤ 64)) term_width) in
      let expressions = terms-few typing rule.witness_terms (witness_terms (λ t. (1 ≤ slice_index typing t.class) × (slice_index typing t.class ≤ 64)) term_width) in
      let precondition = sums-le (formula_gates (widths_of_terms rule typing)) (fact_gates (widths_of_terms rule typing)) (formula_bound (widths_of_terms rule typing)) rule.precondition
      (formulas (λ f. formula_gates (widths_of_terms rule typing) f + fact_gates (widths_of_terms rule typing) f ≤ formula_bound (widths_of_terms rule typing) f) formula_few) in
      let choices = sum-le (λ n. select_gates (slice_index (widths_of_witness rule typing) n)) (choice_bound (widths_of_witness rule typing)) rule.witnesses (λ k d below. omega arith) in
      omega arith

  below_in_rule : most_gates rule typing < 2 ^ 27
  below_in_rule =
      let source = sum_by-le (statement_bound typing) 266240 rule.source (in_source (λ s. statement_bound typing s ≤ 266240) statement-bound) in
      let target = sum_by-le (statement_bound typing) 266240 rule.target (in_target (λ s. statement_bound typing s ≤ 266240) statement-bound) in
      let low : (t : Term) → IsTermOf rule t → term_bound typing t ≤ 266240 = λ t stands. node-low (slice_index typing t.class) t.node (term_width t stands).1 in
      let terms = sum_by-le (term_bound typing) 266240 rule.terms (constant_terms (λ t. term_bound typing t ≤ 266240) low) in
      let expressions = sum_by-le (term_bound typing) 266240 rule.witness_terms (witness_terms (λ t. term_bound typing t ≤ 266240) low) in
      let precondition = sum_by-le (formula_bound (widths_of_terms rule typing)) 4096 rule.precondition (formulas (λ f. formula_bound (widths_of_terms rule typing) f ≤ 4096) formula_low) in
      let all_low = witness_terms (λ t. slice_index typing t.class ≤ 64) (λ t stands. (term_width t stands).1) in
      let choices = sum_by-le (choice_bound (widths_of_witness rule typing)) 4096 rule.witnesses (λ k d below. let w = index-low 64 (widths_of_witness rule typing) (get_or rule.witnesses k d) (All-map (λ N. N ≤ 64) (λ (t : Term). slice_index typing t.class) rule.witness_terms all_low) in omega arith) in
      omega (arith, few_in_rule, checked.few_in_source, checked.few_in_target, few_terms rule checked, few_formulas rule checked, few_choices rule.source, checked.witnesses)

pub gates_are_few : GatesAreFew
gates_are_few rule typing checked typed = few_in_rule rule typing checked typed

pub gates_are_below : GatesAreBelow
gates_are_below rule typing checked typed = below_in_rule rule typing checked typed

-- the width of the root is that of the last statement of the source
pub root_class : (rule : Rule) (typing : List ℕ) (d : Statement) → 0 < length rule.source → slice_index typing (get_or rule.source (length rule.source - 1) d).class ≡ root_width rule typing
root_class rule typing d some =
    let at : slice_get rule.source (length rule.source - 1) ≡ Some (get_or rule.source (length rule.source - 1) d) = slice_get-get_or rule.source (length rule.source - 1) d (omega arith) in
    rw at refl
