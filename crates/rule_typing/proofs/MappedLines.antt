-- The constraints of a rule whose classes are mapped by f are those of the rule, under f.
use Rattle.rule_typing.proofs.Common.{◌≡◌, inl, inr, ℕ, ◌+◌, ◌-◌, ◌==◌, if◌then◌else◌, List, [], ◌∷◌, ◌++◌, length, map, Bool, true, false, Option, None, Some, refl, sym, ap, subst, ◌∙◌, arith, Contains, slice_get, option_map, option_and_then, length-map, map-append, slice_get-map, Contains-append_left, Contains-append_right, Rule, Statement, Op, Binary, Compare, Unary, Select, Convert, Freeze, Copy, Operand, Argument, Choice, Register, Name, Term, Node, Formula, operands_of, operands_among, operands_in, choices_of, choices_among, terms_in, classes_of, IsTermOf, Names, reads, reads_constant, chooses, source_assigns, target_assigns, assigns_root, term_register, term_constant, term_choice, measures, TermLine, unary, left, right, Line, binary_left, binary_right, compared, one_operand, select_true, select_false, freeze, copy, name, term, witness_term, compared_terms, masked, witness, source_statement, target_statement, class_stands, operand_class_stands, term_class_stands, measured_class_stands, constant_term, choice_opens, reads_undef, freezes, Half, mapped_op, mapped_statement, mapped_node, mapped_term, mapped, paired, op_pairs, statement_pairs, node_class, chosen_class, term_class, operand_pairs, choice_pairs, node_pairs, term_pairs, formula_pairs, PairOf, name_of, operand_naming, choice_naming, node_naming, term_naming, formula_naming, NamingOf, assigned_class, last_class, root_class}
use Rattle.rule_core.specs.declared.rule.Argument.TheVariants as arguments
use Rattle.rule_core.specs.declared.rule.Register.TheVariants as registers
use Rattle.rule_core.specs.declared.rule.Name.TheVariants as names
use Rattle.rule_core.specs.declared.rule.Node.TheVariants as nodes
use Rattle.rule_core.specs.declared.rule.Formula.TheVariants as formulas
use Rattle.rule_core.specs.Positions.{operand}
use Rattle.rule_core.proofs.Members.{witness_term as witness_node}
use Rattle.rule_typing.specs.declared.half.Half.TheVariants as halves
use Rattle.rule_typing.proofs.Images.{Contains-map, from_map, from_option_map, from_flat_map}
use Rattle.rule_typing.proofs.Relabelled.{mapped_operand, mapped_choice, statements_mapped, terms_mapped, operands-mapped, choices-mapped}
use Rattle.rule_typing.proofs.NameLines.{statements_of, half_statement, IsNamed, read, assigned, root, named_cases, names_of_named}
use Rattle.rule_typing.proofs.LineParts.{OnLine, by_statement, by_operand, by_choice, by_term, by_witness, by_comparison, by_mask, by_name, line_of, line_cases}

-- ---- both classes of a constraint are classes of the rule

pub operand_class : (rule : Rule) (o : Operand) → Contains (operands_in rule) o → Contains (classes_of rule) o.class
operand_class rule o among =
    let (s, stands, here) = from_flat_map (λ (t : Statement). operands_of t.op) (rule.source ++ rule.target) o among in operand_class_stands rule s o stands here

choice_class : (rule : Rule) (half : Half) (choice : Choice) → Contains (choices_among (statements_of rule half)) choice → Contains (classes_of rule) choice.class
choice_class rule half choice among =
    let (s, here, inside) = from_flat_map choices_of (statements_of rule half) choice among in
    let stands = half_statement rule half s here in
    elim (choice_opens s choice inside) [
      | reads_undef o there is same ↦ subst (λ c. Contains (classes_of rule) c) same (operand_class_stands rule s o stands there)
      | freezes a is same ↦ subst (λ c. Contains (classes_of rule) c) same (class_stands rule s stands)
    ]

named_class : (rule : Rule) (n : Name) (c : ℕ) → Names rule n c → Contains (classes_of rule) c
named_class rule n c (reads {o} among is) = operand_class rule o among
named_class rule n c (reads_constant {o} among is) = operand_class rule o among
named_class rule n c (chooses {k} {c = d} among) = choice_class rule halves.Target (record { place = k; class = d }) among
named_class rule n c (source_assigns {k} {s} at) = class_stands rule s (source_statement rule k s at)
named_class rule n c (target_assigns {k} {s} at) = class_stands rule s (target_statement rule k s at)
named_class rule n c (assigns_root {j} {k} {s} last last' at) = class_stands rule s (target_statement rule k s at)
named_class rule n c (term_register {t} stands is) = term_class_stands rule t stands
named_class rule n c (term_constant {t} stands is) = term_class_stands rule t stands
named_class rule n c (term_choice {t} stands is) = term_class_stands rule t stands
named_class rule n c (measures {t} {r} {c = d} stands is) = measured_class_stands rule t r d stands is

-- the operands of an operation, by number
first_of : (rule : Rule) (s : Statement) (op : Op) (o : Operand) → Contains (rule.source ++ rule.target) s → s.op ≡ op → Contains (operands_of op) o → Contains (classes_of rule) o.class
first_of rule s op o stands is among = operand_class_stands rule s o stands (subst (λ x. Contains (operands_of x) o) (sym is) among)

at : (xs : List Operand) (o : Operand) → Contains (o ∷ xs) o
at xs o = (0, omega arith, refl)

behind : (x o : Operand) (xs : List Operand) → Contains (x ∷ o ∷ xs) o
behind x o xs = (1, omega arith, refl)

term_ends : (rule : Rule) (terms : List Term) (c d : ℕ) → ((t : Term) → Contains terms t → IsTermOf rule t) → ((n : ℕ) (t : Term) → slice_get terms n ≡ Some t → IsTermOf rule t) → TermLine terms c d → Contains (classes_of rule) c × Contains (classes_of rule) d
term_ends rule terms c d stands placed (unary {t} {x} {function} {a} among is there) = (term_class_stands rule t (stands t among), term_class_stands rule x (placed a x there))
term_ends rule terms c d stands placed (left {t} {x} {op} {a} {b} among is there) = (term_class_stands rule t (stands t among), term_class_stands rule x (placed a x there))
term_ends rule terms c d stands placed (right {t} {x} {op} {a} {b} among is there) = (term_class_stands rule t (stands t among), term_class_stands rule x (placed b x there))

pub line_classes : (rule : Rule) (c d : ℕ) → Line rule c d → Contains (classes_of rule) c × Contains (classes_of rule) d
line_classes rule c d (binary_left {s} {op} {flags} {a} {b} stands is) = (class_stands rule s stands, first_of rule s (Binary op flags a b) a stands is (at (b ∷ []) a))
line_classes rule c d (binary_right {s} {op} {flags} {a} {b} stands is) = (class_stands rule s stands, first_of rule s (Binary op flags a b) b stands is (behind a b []))
line_classes rule c d (compared {s} {pred} {samesign} {a} {b} stands is) = (first_of rule s (Compare pred samesign a b) a stands is (at (b ∷ []) a), first_of rule s (Compare pred samesign a b) b stands is (behind a b []))
line_classes rule c d (one_operand {s} {op} {truth} {a} stands is) = (class_stands rule s stands, first_of rule s (Unary op truth a) a stands is (at [] a))
line_classes rule c d (select_true {s} {c = z} {a} {b} stands is) = (class_stands rule s stands, first_of rule s (Select z a b) a stands is (behind z a (b ∷ [])))
line_classes rule c d (select_false {s} {c = z} {a} {b} stands is) = (class_stands rule s stands, first_of rule s (Select z a b) b stands is (2, omega arith, refl))
line_classes rule c d (freeze {s} {a} {k} stands is) = (class_stands rule s stands, first_of rule s (Freeze a k) a stands is (at [] a))
line_classes rule c d (copy {s} {a} stands is) = (class_stands rule s stands, first_of rule s (Copy a) a stands is (at [] a))
line_classes rule c d (name {n} p q) = (named_class rule n c p, named_class rule n d q)
line_classes rule c d (term on) = term_ends rule rule.terms c d (λ t among. Contains-append_left rule.terms rule.witness_terms t among) (constant_term rule) on
line_classes rule c d (witness_term on) = term_ends rule rule.witness_terms c d (λ t among. Contains-append_right rule.terms rule.witness_terms t among) (witness_node rule) on
line_classes rule c d (operand {o} {n} {t} among is there) = (operand_class rule o among, term_class_stands rule t (constant_term rule n t there))
line_classes rule c d (compared_terms {pred} {a} {b} {x} {y} among there there') = (term_class_stands rule x (constant_term rule a x there), term_class_stands rule y (constant_term rule b y there'))
line_classes rule c d (masked {r} {a} {c = e} {t} among there q) = (term_class_stands rule t (constant_term rule a t there), named_class rule (names.Register r) e q)
line_classes rule c d (witness {k} {c = e} {n} {t} among chosen there) = (choice_class rule halves.Source (record { place = k; class = e }) among, term_class_stands rule t (witness_node rule n t there))

-- ---- pairs under f

abbrev both : (ℕ → ℕ) → ℕ × ℕ → ℕ × ℕ
both f p = (f p.0, f p.1)

module _ (f : ℕ → ℕ) where
  paired-map : (a b : Option ℕ) → paired (option_map f a) (option_map f b) ≡ map (both f) (paired a b)
  paired-map None b = refl
  paired-map (Some c) None = refl
  paired-map (Some c) (Some d) = refl

  op_pairs-mapped : (r : ℕ) (op : Op) → op_pairs (f r) (mapped_op f op) ≡ map (both f) (op_pairs r op)
  op_pairs-mapped r (Binary op flags a b) = refl
  op_pairs-mapped r (Compare pred samesign a b) = refl
  op_pairs-mapped r (Unary op truth a) = refl
  op_pairs-mapped r (Select z a b) = refl
  op_pairs-mapped r (Convert cast flags a to) = refl
  op_pairs-mapped r (Freeze a k) = refl
  op_pairs-mapped r (Copy a) = refl

  term_option : (o : Option Term) → option_map (λ t. t.class) (option_map (mapped_term f) o) ≡ option_map f (option_map (λ t. t.class) o)
  term_option None = refl
  term_option (Some t) = refl

  node_class-mapped : (terms : List Term) (n : ℕ) → node_class (map (mapped_term f) terms) n ≡ option_map f (node_class terms n)
  node_class-mapped terms n = ap (λ o. option_map (λ (t : Term). t.class) o) (slice_get-map (mapped_term f) terms n) ∙ term_option (slice_get terms n)

  chosen_option : (terms : List Term) (o : Option ℕ) → option_and_then (node_class (map (mapped_term f) terms)) o ≡ option_map f (option_and_then (node_class terms) o)
  chosen_option terms None = refl
  chosen_option terms (Some n) = node_class-mapped terms n

  term_class-mapped : (rule : Rule) (value : Argument) → term_class (mapped f rule) value ≡ option_map f (term_class rule value)
  term_class-mapped rule (arguments.Term n) = node_class-mapped rule.terms n
  term_class-mapped rule (arguments.Undef k) = refl
  term_class-mapped rule (arguments.Register r) = refl
  term_class-mapped rule (arguments.Literal z) = refl
  term_class-mapped rule (arguments.Truth b) = refl
  term_class-mapped rule (arguments.Constant k) = refl

  operand_pairs-mapped : (rule : Rule) (o : Operand) → operand_pairs (mapped f rule) (mapped_operand f o) ≡ map (both f) (operand_pairs rule o)
  operand_pairs-mapped rule o = ap (paired (Some (f o.class))) (term_class-mapped rule o.value) ∙ paired-map (Some o.class) (term_class rule o.value)

  choice_pairs-mapped : (rule : Rule) (half : Half) (choice : Choice) → choice_pairs (mapped f rule) half (mapped_choice f choice) ≡ map (both f) (choice_pairs rule half choice)
  choice_pairs-mapped rule halves.Source choice =
      ap (paired (Some (f choice.class))) (chosen_option rule.witness_terms (slice_get rule.witnesses choice.place)) ∙ paired-map (Some choice.class) (chosen_class rule choice.place)
  choice_pairs-mapped rule halves.Target choice = refl

  pairs-node : (terms : List Term) (c n : ℕ) → paired (Some (f c)) (node_class (map (mapped_term f) terms) n) ≡ map (both f) (paired (Some c) (node_class terms n))
  pairs-node terms c n = ap (paired (Some (f c))) (node_class-mapped terms n) ∙ paired-map (Some c) (node_class terms n)

  node_pairs-mapped : (terms : List Term) (c : ℕ) (node : Node) → node_pairs (map (mapped_term f) terms) (f c) (mapped_node f node) ≡ map (both f) (node_pairs terms c node)
  node_pairs-mapped terms c (nodes.Unary function a) = pairs-node terms c a
  node_pairs-mapped terms c (nodes.Binary op a b) =
      ap (λ l. l ++ paired (Some (f c)) (node_class (map (mapped_term f) terms) b)) (pairs-node terms c a) ∙ ap (λ l. map (both f) (paired (Some c) (node_class terms a)) ++ l) (pairs-node terms c b)
      ∙ sym (map-append (both f) (paired (Some c) (node_class terms a)) (paired (Some c) (node_class terms b)))
  node_pairs-mapped terms c (nodes.Literal z) = refl
  node_pairs-mapped terms c (nodes.Constant k) = refl
  node_pairs-mapped terms c (nodes.Register r) = refl
  node_pairs-mapped terms c (nodes.Choice k) = refl
  node_pairs-mapped terms c (nodes.Width r d) = refl

  formula_pairs-mapped : (terms : List Term) (x : Formula) → formula_pairs (map (mapped_term f) terms) x ≡ map (both f) (formula_pairs terms x)
  formula_pairs-mapped terms (formulas.Compare pred a b) =
      ap (λ o. paired o (node_class (map (mapped_term f) terms) b)) (node_class-mapped terms a) ∙ ap (paired (option_map f (node_class terms a))) (node_class-mapped terms b) ∙ paired-map (node_class terms a) (node_class terms b)
  formula_pairs-mapped terms (formulas.IsPowerOfTwo a) = refl
  formula_pairs-mapped terms (formulas.IsSignBit a) = refl
  formula_pairs-mapped terms (formulas.HasOneUse j) = refl
  formula_pairs-mapped terms (formulas.MaskedValueIsZero r a) = refl
  formula_pairs-mapped terms (formulas.IsKnownNonZero r) = refl
  formula_pairs-mapped terms (formulas.Not a) = refl
  formula_pairs-mapped terms (formulas.And a b) = refl
  formula_pairs-mapped terms (formulas.Or a b) = refl

  -- the pairs of mapped elements are the mapped pairs
  pair_map : {X Y : Type 0} (g : X → Y) (pairs : X → List (ℕ × ℕ)) (pairs' : Y → List (ℕ × ℕ)) → ((x : X) → pairs' (g x) ≡ map (both f) (pairs x)) → (xs : List X) (c d : ℕ) → PairOf pairs xs c d → PairOf pairs' (map g xs) (f c) (f d)
  pair_map g pairs pairs' same xs c d (x, among, pair) = (g x, Contains-map g xs x among, subst (λ l. Contains l (f c, f d)) (sym (same x)) (Contains-map (both f) (pairs x) (c, d) pair))

  abbrev Came : (ℕ → ℕ → Type 0) → ℕ → ℕ → Type 0
  Came P c d = (p : ℕ) × (q : ℕ) × P p q × (c ≡ f p) × (d ≡ f q)

  from_image : (pairs : List (ℕ × ℕ)) (c d : ℕ) → Contains (map (both f) pairs) (c, d) → Came (λ p q. Contains pairs (p, q)) c d
  from_image pairs c d among = let ((p, q), inside, is) = from_map (both f) pairs (c, d) among in (p, q, inside, ap (λ (x : ℕ × ℕ). x.0) is, ap (λ (x : ℕ × ℕ). x.1) is)

  from_pair_map : {X Y : Type 0} (g : X → Y) (pairs : X → List (ℕ × ℕ)) (pairs' : Y → List (ℕ × ℕ)) → ((x : X) → pairs' (g x) ≡ map (both f) (pairs x)) → (xs : List X) (c d : ℕ) → PairOf pairs' (map g xs) c d → Came (PairOf pairs xs) c d
  from_pair_map g pairs pairs' same xs c d (y, among, pair) =
      let (x, stands, e) = from_map g xs y among in
      let (p, q, inside, is, is') = from_image (pairs x) c d (subst (λ l. Contains l (c, d)) (same x) (subst (λ z. Contains (pairs' z) (c, d)) e pair)) in
      (p, q, (x, stands, inside), is, is')

  -- ---- names under f

  abbrev moved : Name × ℕ → Name × ℕ
  moved p = (p.0, f p.1)

  naming_option : (c : ℕ) (o : Option Name) → option_map {U = Name × ℕ} (λ n. (n, f c)) o ≡ option_map moved (option_map {U = Name × ℕ} (λ n. (n, c)) o)
  naming_option c None = refl
  naming_option c (Some n) = refl

  operand_naming-mapped : (o : Operand) → operand_naming (mapped_operand f o) ≡ option_map moved (operand_naming o)
  operand_naming-mapped o = naming_option o.class (name_of o.value)

  choice_naming-mapped : (half : Half) (choice : Choice) → choice_naming half (mapped_choice f choice) ≡ option_map moved (choice_naming half choice)
  choice_naming-mapped halves.Source choice = refl
  choice_naming-mapped halves.Target choice = refl

  node_naming-mapped : (c : ℕ) (node : Node) → node_naming (f c) (mapped_node f node) ≡ option_map moved (node_naming c node)
  node_naming-mapped c (nodes.Literal z) = refl
  node_naming-mapped c (nodes.Constant k) = refl
  node_naming-mapped c (nodes.Register r) = refl
  node_naming-mapped c (nodes.Choice k) = refl
  node_naming-mapped c (nodes.Width r d) = refl
  node_naming-mapped c (nodes.Unary function a) = refl
  node_naming-mapped c (nodes.Binary op a b) = refl

  masked_option : (r : Register) (o : Option ℕ) → option_map {U = Name × ℕ} (λ c. (names.Register r, c)) (option_map f o) ≡ option_map moved (option_map {U = Name × ℕ} (λ c. (names.Register r, c)) o)
  masked_option r None = refl
  masked_option r (Some c) = refl

  formula_naming-mapped : (terms : List Term) (x : Formula) → formula_naming (map (mapped_term f) terms) x ≡ option_map moved (formula_naming terms x)
  formula_naming-mapped terms (formulas.MaskedValueIsZero r a) = ap (λ o. option_map {U = Name × ℕ} (λ c. (names.Register r, c)) o) (node_class-mapped terms a) ∙ masked_option r (node_class terms a)
  formula_naming-mapped terms (formulas.Compare pred a b) = refl
  formula_naming-mapped terms (formulas.IsPowerOfTwo a) = refl
  formula_naming-mapped terms (formulas.IsSignBit a) = refl
  formula_naming-mapped terms (formulas.HasOneUse j) = refl
  formula_naming-mapped terms (formulas.IsKnownNonZero r) = refl
  formula_naming-mapped terms (formulas.Not a) = refl
  formula_naming-mapped terms (formulas.And a b) = refl
  formula_naming-mapped terms (formulas.Or a b) = refl

  naming_map : {X : Type 0} (g : X → X) (naming : X → Option (Name × ℕ)) → ((x : X) → naming (g x) ≡ option_map moved (naming x)) → (xs : List X) (n : Name) (c : ℕ) → NamingOf naming xs n c → NamingOf naming (map g xs) n (f c)
  naming_map g naming same xs n c (x, among, e) = (g x, Contains-map g xs x among, same x ∙ ap (λ o. option_map moved o) e)

  from_naming_map : {X : Type 0} (g : X → X) (naming : X → Option (Name × ℕ)) → ((x : X) → naming (g x) ≡ option_map moved (naming x)) → (xs : List X) (n : Name) (c : ℕ) → NamingOf naming (map g xs) n c → (p : ℕ) × NamingOf naming xs n p × (c ≡ f p)
  from_naming_map g naming same xs n c (y, among, e) =
      let (x, stands, is) = from_map g xs y among in
      let ((m, p), there, equal) = from_option_map moved (naming x) (n, c) (sym (same x) ∙ ap naming (sym is) ∙ e) in
      (p, (x, stands, there ∙ ap (λ z. Some (z, p)) (ap (λ (q : Name × ℕ). q.0) equal)), sym (ap (λ (q : Name × ℕ). q.1) equal))

  class_option : (o : Option Statement) → option_map (λ s. s.class) (option_map (mapped_statement f) o) ≡ option_map f (option_map (λ s. s.class) o)
  class_option None = refl
  class_option (Some s) = refl

  result-mapped : (xs : List Statement) (k : ℕ) → option_map (λ s. s.class) (slice_get (map (mapped_statement f) xs) k) ≡ option_map f (option_map (λ s. s.class) (slice_get xs k))
  result-mapped xs k = ap (λ o. option_map (λ (s : Statement). s.class) o) (slice_get-map (mapped_statement f) xs k) ∙ class_option (slice_get xs k)

  last-mapped : (xs : List Statement) → last_class (map (mapped_statement f) xs) ≡ option_map f (last_class xs)
  last-mapped xs = ap (λ n. option_map (λ (s : Statement). s.class) (slice_get (map (mapped_statement f) xs) (n - 1))) (length-map xs (mapped_statement f)) ∙ result-mapped xs (length xs - 1)

  chosen-map : (b : Bool) (o : Option ℕ) → (if b then option_map f o else None) ≡ option_map f (if b then o else None)
  chosen-map true o = refl
  chosen-map false o = refl

  module _ (rule : Rule) where
    assigned-mapped : (n : Name) → assigned_class (mapped f rule) n ≡ option_map f (assigned_class rule n)
    assigned-mapped (names.Register (registers.Input k)) = refl
    assigned-mapped (names.Register (registers.Source k)) = result-mapped rule.source k
    assigned-mapped (names.Register (registers.Target k)) = result-mapped rule.target k
    assigned-mapped (names.Constant k) = refl
    assigned-mapped (names.Choice k) = refl

    root-mapped : (n : Name) → root_class (mapped f rule) n ≡ option_map f (root_class rule n)
    root-mapped (names.Register (registers.Input k)) = refl
    root-mapped (names.Register (registers.Source k)) =
        ap (λ m. if k + 1 == m then last_class (map (mapped_statement f) rule.target) else None) (length-map rule.source (mapped_statement f))
        ∙ ap (λ o. if k + 1 == length rule.source then o else None) (last-mapped rule.target) ∙ chosen-map (k + 1 == length rule.source) (last_class rule.target)
    root-mapped (names.Register (registers.Target k)) = refl
    root-mapped (names.Constant k) = refl
    root-mapped (names.Choice k) = refl

    operands_map : (half : Half) → operands_among (statements_of (mapped f rule) half) ≡ map (mapped_operand f) (operands_among (statements_of rule half))
    operands_map halves.Source = operands-mapped f rule.source
    operands_map halves.Target = operands-mapped f rule.target

    choices_map : (half : Half) → choices_among (statements_of (mapped f rule) half) ≡ map (mapped_choice f) (choices_among (statements_of rule half))
    choices_map halves.Source = choices-mapped f rule.source
    choices_map halves.Target = choices-mapped f rule.target

    reads_map : (half : Half) (n : Name) (c : ℕ) → NamingOf operand_naming (operands_among (statements_of rule half)) n c → NamingOf operand_naming (operands_among (statements_of (mapped f rule) half)) n (f c)
    reads_map half n c h =
        subst (λ l. NamingOf operand_naming l n (f c)) (sym (operands_map half)) (naming_map (mapped_operand f) operand_naming operand_naming-mapped (operands_among (statements_of rule half)) n c h)

    chooses_map : (half : Half) (n : Name) (c : ℕ) → NamingOf (choice_naming half) (choices_among (statements_of rule half)) n c → NamingOf (choice_naming half) (choices_among (statements_of (mapped f rule) half)) n (f c)
    chooses_map half n c h =
        subst (λ l. NamingOf (choice_naming half) l n (f c)) (sym (choices_map half)) (naming_map (mapped_choice f) (choice_naming half) (choice_naming-mapped half) (choices_among (statements_of rule half)) n c h)

    named_map : (n : Name) (c : ℕ) → IsNamed rule n c → IsNamed (mapped f rule) n (f c)
    named_map n c (read (inl h)) = read (inl (reads_map halves.Source n c h))
    named_map n c (read (inr (inl h))) = read (inr (inl (reads_map halves.Target n c h)))
    named_map n c (read (inr (inr (inl h)))) = read (inr (inr (inl (chooses_map halves.Target n c h))))
    named_map n c (read (inr (inr (inr h)))) =
        read (inr (inr (inr (subst (λ l. NamingOf term_naming l n (f c)) (sym (terms_mapped f rule)) (naming_map (mapped_term f) term_naming (λ t. node_naming-mapped t.class t.node) (terms_in rule) n c h)))))
    named_map n c (assigned h) = assigned (assigned-mapped n ∙ ap (λ o. option_map f o) h)
    named_map n c (root h) = root (root-mapped n ∙ ap (λ o. option_map f o) h)

    names_map : (n : Name) (c : ℕ) → Names rule n c → Names (mapped f rule) n (f c)
    names_map n c h = names_of_named (mapped f rule) n (f c) (named_map n c (named_cases rule n c h))

    parts_map : (c d : ℕ) → OnLine rule c d → OnLine (mapped f rule) (f c) (f d)
    parts_map c d (by_statement h) =
        by_statement (subst (λ l. PairOf statement_pairs l (f c) (f d)) (sym (statements_mapped f rule)) (pair_map (mapped_statement f) statement_pairs statement_pairs (λ s. op_pairs-mapped s.class s.op) (rule.source ++ rule.target) c d h))
    parts_map c d (by_operand half h) =
        by_operand half (subst (λ l. PairOf (operand_pairs (mapped f rule)) l (f c) (f d)) (sym (operands_map half)) (pair_map (mapped_operand f) (operand_pairs rule) (operand_pairs (mapped f rule)) (operand_pairs-mapped rule) (operands_among (statements_of rule half)) c d h))
    parts_map c d (by_choice half h) =
        by_choice half (subst (λ l. PairOf (choice_pairs (mapped f rule) half) l (f c) (f d)) (sym (choices_map half)) (pair_map (mapped_choice f) (choice_pairs rule half) (choice_pairs (mapped f rule) half) (choice_pairs-mapped rule half) (choices_among (statements_of rule half)) c d h))
    parts_map c d (by_term h) = by_term (pair_map (mapped_term f) (term_pairs rule.terms) (term_pairs (map (mapped_term f) rule.terms)) (λ t. node_pairs-mapped rule.terms t.class t.node) rule.terms c d h)
    parts_map c d (by_witness h) =
        by_witness (pair_map (mapped_term f) (term_pairs rule.witness_terms) (term_pairs (map (mapped_term f) rule.witness_terms)) (λ t. node_pairs-mapped rule.witness_terms t.class t.node) rule.witness_terms c d h)
    parts_map c d (by_comparison (x, among, pair)) =
        by_comparison (x, among, subst (λ l. Contains l (f c, f d)) (sym (formula_pairs-mapped rule.terms x)) (Contains-map (both f) (formula_pairs rule.terms x) (c, d) pair))
    parts_map c d (by_mask n (x, among, e) q) = by_mask n (x, among, formula_naming-mapped rule.terms x ∙ ap (λ o. option_map moved o) e) (names_map n d q)
    parts_map c d (by_name n p q) = by_name n (names_map n c p) (names_map n d q)

    pub line_map : (c d : ℕ) → Line rule c d → Line (mapped f rule) (f c) (f d)
    line_map c d on = line_of (mapped f rule) (f c) (f d) (parts_map c d (line_cases rule c d on))

    -- ---- from the mapped rule back

    from_reads : (half : Half) (n : Name) (c : ℕ) → NamingOf operand_naming (operands_among (statements_of (mapped f rule) half)) n c → (p : ℕ) × NamingOf operand_naming (operands_among (statements_of rule half)) n p × (c ≡ f p)
    from_reads half n c h =
        from_naming_map (mapped_operand f) operand_naming operand_naming-mapped (operands_among (statements_of rule half)) n c (subst (λ l. NamingOf operand_naming l n c) (operands_map half) h)

    from_chooses : (half : Half) (n : Name) (c : ℕ) → NamingOf (choice_naming half) (choices_among (statements_of (mapped f rule) half)) n c → (p : ℕ) × NamingOf (choice_naming half) (choices_among (statements_of rule half)) n p × (c ≡ f p)
    from_chooses half n c h =
        from_naming_map (mapped_choice f) (choice_naming half) (choice_naming-mapped half) (choices_among (statements_of rule half)) n c (subst (λ l. NamingOf (choice_naming half) l n c) (choices_map half) h)

    from_named : (n : Name) (c : ℕ) → IsNamed (mapped f rule) n c → (p : ℕ) × IsNamed rule n p × (c ≡ f p)
    from_named n c (read (inl h)) = let (p, there, is) = from_reads halves.Source n c h in (p, read (inl there), is)
    from_named n c (read (inr (inl h))) = let (p, there, is) = from_reads halves.Target n c h in (p, read (inr (inl there)), is)
    from_named n c (read (inr (inr (inl h)))) = let (p, there, is) = from_chooses halves.Target n c h in (p, read (inr (inr (inl there))), is)
    from_named n c (read (inr (inr (inr h)))) =
        let (p, there, is) = from_naming_map (mapped_term f) term_naming (λ t. node_naming-mapped t.class t.node) (terms_in rule) n c (subst (λ l. NamingOf term_naming l n c) (terms_mapped f rule) h) in (p, read (inr (inr (inr there))), is)
    from_named n c (assigned h) = let (p, there, is) = from_option_map f (assigned_class rule n) c (sym (assigned-mapped n) ∙ h) in (p, assigned there, sym is)
    from_named n c (root h) = let (p, there, is) = from_option_map f (root_class rule n) c (sym (root-mapped n) ∙ h) in (p, root there, sym is)

    from_names : (n : Name) (c : ℕ) → Names (mapped f rule) n c → (p : ℕ) × Names rule n p × (c ≡ f p)
    from_names n c h = let (p, there, is) = from_named n c (named_cases (mapped f rule) n c h) in (p, names_of_named rule n p there, is)

    from_parts : (c d : ℕ) → OnLine (mapped f rule) c d → Came (OnLine rule) c d
    from_parts c d (by_statement h) =
        let (p, q, there, is, is') = from_pair_map (mapped_statement f) statement_pairs statement_pairs (λ s. op_pairs-mapped s.class s.op) (rule.source ++ rule.target) c d (subst (λ l. PairOf statement_pairs l c d) (statements_mapped f rule) h) in
        (p, q, by_statement there, is, is')
    from_parts c d (by_operand half h) =
        let (p, q, there, is, is') = from_pair_map (mapped_operand f) (operand_pairs rule) (operand_pairs (mapped f rule)) (operand_pairs-mapped rule) (operands_among (statements_of rule half)) c d
        (subst (λ l. PairOf (operand_pairs (mapped f rule)) l c d) (operands_map half) h) in
        (p, q, by_operand half there, is, is')
    from_parts c d (by_choice half h) =
        let (p, q, there, is, is') = from_pair_map (mapped_choice f) (choice_pairs rule half) (choice_pairs (mapped f rule) half) (choice_pairs-mapped rule half) (choices_among (statements_of rule half)) c d
        (subst (λ l. PairOf (choice_pairs (mapped f rule) half) l c d) (choices_map half) h) in
        (p, q, by_choice half there, is, is')
    from_parts c d (by_term h) =
        let (p, q, there, is, is') = from_pair_map (mapped_term f) (term_pairs rule.terms) (term_pairs (map (mapped_term f) rule.terms)) (λ t. node_pairs-mapped rule.terms t.class t.node) rule.terms c d h in
        (p, q, by_term there, is, is')
    from_parts c d (by_witness h) =
        let (p, q, there, is, is') = from_pair_map (mapped_term f) (term_pairs rule.witness_terms) (term_pairs (map (mapped_term f) rule.witness_terms)) (λ t. node_pairs-mapped rule.witness_terms t.class t.node) rule.witness_terms c d h in
        (p, q, by_witness there, is, is')
    from_parts c d (by_comparison (x, among, pair)) =
        let (p, q, inside, is, is') = from_image (formula_pairs rule.terms x) c d (subst (λ l. Contains l (c, d)) (formula_pairs-mapped rule.terms x) pair) in
        (p, q, by_comparison (x, among, inside), is, is')
    from_parts c d (by_mask n (x, among, e) k) =
        let ((m, p), there, equal) = from_option_map moved (formula_naming rule.terms x) (n, c) (sym (formula_naming-mapped rule.terms x) ∙ e) in
        let (q, named, is) = from_names n d k in
        (p, q, by_mask n (x, among, there ∙ ap (λ z. Some (z, p)) (ap (λ (y : Name × ℕ). y.0) equal)) named, sym (ap (λ (y : Name × ℕ). y.1) equal), is)
    from_parts c d (by_name n h k) =
        let (p, named, is) = from_names n c h in
        let (q, named', is') = from_names n d k in
        (p, q, by_name n named named', is, is')

    -- a constraint of the mapped rule on c and d is one of the old rule on p and q, with f p = c and f q = d
    pub from_line_map : (c d : ℕ) → Line (mapped f rule) c d → (p : ℕ) × (q : ℕ) × Line rule p q × (c ≡ f p) × (d ≡ f q)
    from_line_map c d on = let (p, q, there, is, is') = from_parts c d (line_cases (mapped f rule) c d on) in (p, q, line_of rule p q there, is, is')
