-- Whether some constraint asks two different classes to have one width is decided.
use Rattle.rule_typing.proofs.Common.{◌≡◌, ◌≢◌, ◌⊎◌, inl, inr, ℕ, ◌-◌, List, ◌++◌, length, Option, None, Some, refl, sym, ap, subst, ◌∙◌, arith, Contains, map_dec, same_Some, Rule, Register, Name, operands_among, choices_among, terms_in, Names, Line, name, statement_pairs, operand_pairs, choice_pairs, term_pairs, formula_pairs, PairOf, operand_naming, choice_naming, term_naming, formula_naming, NamingOf, assigned_class, root_class, RootLine, IsRead}
use Rattle.rule_core.specs.declared.rule.Register.TheVariants as registers
use Rattle.rule_core.specs.declared.rule.Name.TheVariants as names
use Rattle.rule_typing.specs.declared.half.Half.TheVariants as halves
use Rattle.rule_typing.proofs.NameLines.{read_names, root_is_last, IsNamed, read, assigned, root, named_cases, names_of_named}
use Rattle.rule_typing.proofs.LineParts.{OnLine, by_statement, by_operand, by_choice, by_term, by_witness, by_comparison, by_mask, by_name, line_of, line_cases}
use Rattle.rule_typing.proofs.SplitLines.{root_line}
use Rattle.rule_typing.proofs.Deciding.{dec_both, dec_either, dec_not, stable, dec_number, dec_one}

-- ---- pairs

-- one of the elements has such a pair
abbrev Split : (ℕ → ℕ → Type 0) → Type 0
Split P = (c : ℕ) × (d : ℕ) × P c d × (c ≢ d)

dec_pairs : {X : Type 0} (pairs : X → List (ℕ × ℕ)) (xs : List X) → Dec (Split (PairOf pairs xs))
dec_pairs pairs xs =
    map_dec (λ (x, among, (p, inside, apart)). (p.0, p.1, (x, among, inside), apart)) (λ (c, d, (x, among, inside), apart). (x, among, ((c, d), inside, apart)))
    (dec_one (λ x. (p : ℕ × ℕ) × Contains (pairs x) p × (p.0 ≢ p.1)) xs (λ x. dec_one (λ (p : ℕ × ℕ). p.0 ≢ p.1) (pairs x) (λ p. dec_not (dec_number p.0 p.1))))

-- ---- names

dec_register : (r s : Register) → Dec (r ≡ s)
dec_register (registers.Input j) (registers.Input k) = map_dec (λ e. ap (λ n. registers.Input n) e) (λ e. cc) (dec_number j k)
dec_register (registers.Source j) (registers.Source k) = map_dec (λ e. ap (λ n. registers.Source n) e) (λ e. cc) (dec_number j k)
dec_register (registers.Target j) (registers.Target k) = map_dec (λ e. ap (λ n. registers.Target n) e) (λ e. cc) (dec_number j k)
dec_register (registers.Input j) (registers.Source k) = no (λ e. cc)
dec_register (registers.Input j) (registers.Target k) = no (λ e. cc)
dec_register (registers.Source j) (registers.Input k) = no (λ e. cc)
dec_register (registers.Source j) (registers.Target k) = no (λ e. cc)
dec_register (registers.Target j) (registers.Input k) = no (λ e. cc)
dec_register (registers.Target j) (registers.Source k) = no (λ e. cc)

dec_name : (m n : Name) → Dec (m ≡ n)
dec_name (names.Register r) (names.Register s) = map_dec (λ e. ap (λ x. names.Register x) e) (λ e. cc) (dec_register r s)
dec_name (names.Constant j) (names.Constant k) = map_dec (λ e. ap (λ x. names.Constant x) e) (λ e. cc) (dec_number j k)
dec_name (names.Choice j) (names.Choice k) = map_dec (λ e. ap (λ x. names.Choice x) e) (λ e. cc) (dec_number j k)
dec_name (names.Register r) (names.Constant k) = no (λ e. cc)
dec_name (names.Register r) (names.Choice k) = no (λ e. cc)
dec_name (names.Constant j) (names.Register r) = no (λ e. cc)
dec_name (names.Constant j) (names.Choice k) = no (λ e. cc)
dec_name (names.Choice j) (names.Register r) = no (λ e. cc)
dec_name (names.Choice j) (names.Constant k) = no (λ e. cc)

-- whether Q holds of what an option holds is decided
dec_held : {X : Type 0} (Q : X → Type 0) → ((x : X) → Dec (Q x)) → (o : Option X) → Dec ((x : X) × (o ≡ Some x) × Q x)
dec_held Q each None = no (λ (x, e, q). cc)
dec_held Q each (Some x) = map_dec (λ q. (x, refl, q)) (λ (y, e, q). subst Q (sym (same_Some x y e)) q) (each x)

module _ (rule : Rule) where
  -- whether Q holds of what some element names is decided
  dec_naming : {X : Type 0} (naming : X → Option (Name × ℕ)) (Q : Name → ℕ → Type 0) → ((n : Name) (c : ℕ) → Dec (Q n c)) → (xs : List X) → Dec ((n : Name) × (c : ℕ) × NamingOf naming xs n c × Q n c)
  dec_naming {X} naming Q each xs =
      map_dec (λ (x, among, (p, e, q)). (p.0, p.1, (x, among, e), q)) (λ (n, c, (x, among, e), q). (x, among, ((n, c), e, q)))
      (dec_one (λ x. (p : Name × ℕ) × (naming x ≡ Some p) × Q p.0 p.1) xs (λ x. dec_held (λ (p : Name × ℕ). Q p.0 p.1) (λ p. each p.0 p.1) (naming x)))

  dec_read : (Q : Name → ℕ → Type 0) → ((n : Name) (c : ℕ) → Dec (Q n c)) → Dec ((n : Name) × (c : ℕ) × IsRead rule n c × Q n c)
  dec_read Q each =
      map_dec (λ one. elim one [
        | inl (n, c, h, q) ↦ (n, c, inl h, q)
        | inr rest ↦ elim rest [
          | inl (n, c, h, q) ↦ (n, c, inr (inl h), q)
          | inr others ↦ elim others [ inl (n, c, h, q) ↦ (n, c, inr (inr (inl h)), q) | inr (n, c, h, q) ↦ (n, c, inr (inr (inr h)), q) ]
        ]
      ]) (λ (n, c, h, q). elim h [
        | inl left ↦ inl (n, c, left, q)
        | inr rest ↦ elim rest [
          | inl middle ↦ inr (inl (n, c, middle, q))
          | inr others ↦ elim others [ inl choice ↦ inr (inr (inl (n, c, choice, q))) | inr right ↦ inr (inr (inr (n, c, right, q))) ]
        ]
      ])
      (dec_either (dec_naming operand_naming Q each (operands_among rule.source))
      (dec_either (dec_naming operand_naming Q each (operands_among rule.target))
      (dec_either (dec_naming (choice_naming halves.Target) Q each (choices_among rule.target)) (dec_naming term_naming Q each (terms_in rule)))))

  -- another position with the name has another class
  Other : Name → ℕ → Type 0
  Other n c = (d : ℕ) × Names rule n d × (c ≢ d)

  by_parts : (n : Name) (c d : ℕ) → c ≢ d → IsNamed rule n d
      → ((m : Name) × (e : ℕ) × IsRead rule m e × ((m ≡ n) × (c ≢ e))) ⊎ (((e : ℕ) × (assigned_class rule n ≡ Some e) × (c ≢ e)) ⊎ ((e : ℕ) × (root_class rule n ≡ Some e) × (c ≢ e)))
  by_parts n c d apart (read h) = inl (n, d, h, (refl, apart))
  by_parts n c d apart (assigned h) = inr (inl (d, h, apart))
  by_parts n c d apart (root h) = inr (inr (d, h, apart))

  dec_other : (n : Name) (c : ℕ) → Dec (Other n c)
  unfolding Other
  dec_other n c =
      map_dec (λ one. elim one [
        | inl (m, d, h, (same, apart)) ↦ (d, subst (λ x. Names rule x d) same (read_names rule m d h), apart)
        | inr rest ↦ elim rest [ inl (d, h, apart) ↦ (d, names_of_named rule n d (assigned h), apart) | inr (d, h, apart) ↦ (d, names_of_named rule n d (root h), apart) ]
      ]) (λ (d, h, apart). by_parts n c d apart (named_cases rule n d h))
      (dec_either (dec_read (λ m d. (m ≡ n) × (c ≢ d)) (λ m d. dec_both (dec_name m n) (dec_not (dec_number c d))))
      (dec_either (dec_held (λ d. c ≢ d) (λ d. dec_not (dec_number c d)) (assigned_class rule n)) (dec_held (λ d. c ≢ d) (λ d. dec_not (dec_number c d)) (root_class rule n))))

  -- the two results that assign the root have different classes
  dec_root : Dec (Split (RootLine rule))
  dec_root =
      let n : Name = names.Register (registers.Source (length rule.source - 1)) in
      map_dec (λ (c, h, (d, k, apart)). (c, d, (n, h, k), apart))
      (λ (c, d, (m, h, k), apart).
      let (j, named, end, class) = root_is_last rule m d k in
      let place : j ≡ length rule.source - 1 = omega arith in
      let same : m ≡ n = named ∙ ap (λ i. names.Register (registers.Source i)) place in
      (c, subst (λ x. assigned_class rule x ≡ Some c) same h, (d, subst (λ x. root_class rule x ≡ Some d) same k, apart)))
      (dec_held (λ c. (d : ℕ) × (root_class rule n ≡ Some d) × (c ≢ d)) (λ c. dec_held (λ d. c ≢ d) (λ d. dec_not (dec_number c d)) (root_class rule n)) (assigned_class rule n))

  -- ---- all constraints

  abbrev Found : Type 0
  Found =
      Split (PairOf statement_pairs (rule.source ++ rule.target))
      ⊎ (Split (PairOf (operand_pairs rule) (operands_among rule.source))
      ⊎ (Split (PairOf (operand_pairs rule) (operands_among rule.target))
      ⊎ (Split (PairOf (choice_pairs rule halves.Source) (choices_among rule.source))
      ⊎ (Split (PairOf (choice_pairs rule halves.Target) (choices_among rule.target))
      ⊎ (Split (PairOf (term_pairs rule.terms) rule.terms)
      ⊎ (Split (PairOf (term_pairs rule.witness_terms) rule.witness_terms)
      ⊎ (Split (PairOf (formula_pairs rule.terms) rule.precondition)
      ⊎ (((n : Name) × (c : ℕ) × IsRead rule n c × Other n c)
      ⊎ (Split (RootLine rule)
      ⊎ ((n : Name) × (c : ℕ) × NamingOf (formula_naming rule.terms) rule.precondition n c × Other n c))))))))))

  dec_found : Dec Found
  dec_found =
      dec_either (dec_pairs statement_pairs (rule.source ++ rule.target))
      (dec_either (dec_pairs (operand_pairs rule) (operands_among rule.source))
      (dec_either (dec_pairs (operand_pairs rule) (operands_among rule.target))
      (dec_either (dec_pairs (choice_pairs rule halves.Source) (choices_among rule.source))
      (dec_either (dec_pairs (choice_pairs rule halves.Target) (choices_among rule.target))
      (dec_either (dec_pairs (term_pairs rule.terms) rule.terms)
      (dec_either (dec_pairs (term_pairs rule.witness_terms) rule.witness_terms)
      (dec_either (dec_pairs (formula_pairs rule.terms) rule.precondition)
      (dec_either (dec_read Other dec_other)
      (dec_either dec_root (dec_naming (formula_naming rule.terms) Other dec_other rule.precondition))))))))))

  found_line : Found → Split (Line rule)
  unfolding Other
  found_line (inl (c, d, h, apart)) = (c, d, line_of rule c d (by_statement h), apart)
  found_line (inr (inl (c, d, h, apart))) = (c, d, line_of rule c d (by_operand halves.Source h), apart)
  found_line (inr (inr (inl (c, d, h, apart)))) = (c, d, line_of rule c d (by_operand halves.Target h), apart)
  found_line (inr (inr (inr (inl (c, d, h, apart))))) = (c, d, line_of rule c d (by_choice halves.Source h), apart)
  found_line (inr (inr (inr (inr (inl (c, d, h, apart)))))) = (c, d, line_of rule c d (by_choice halves.Target h), apart)
  found_line (inr (inr (inr (inr (inr (inl (c, d, h, apart))))))) = (c, d, line_of rule c d (by_term h), apart)
  found_line (inr (inr (inr (inr (inr (inr (inl (c, d, h, apart)))))))) = (c, d, line_of rule c d (by_witness h), apart)
  found_line (inr (inr (inr (inr (inr (inr (inr (inl (c, d, h, apart))))))))) = (c, d, line_of rule c d (by_comparison h), apart)
  found_line (inr (inr (inr (inr (inr (inr (inr (inr (inl (n, c, h, (d, q, apart))))))))))) = (c, d, name (read_names rule n c h) q, apart)
  found_line (inr (inr (inr (inr (inr (inr (inr (inr (inr (inl (c, d, h, apart))))))))))) = (c, d, root_line rule c d h, apart)
  found_line (inr (inr (inr (inr (inr (inr (inr (inr (inr (inr (n, c, h, (d, q, apart)))))))))))) = (c, d, line_of rule c d (by_mask n h q), apart)

  apart_names : (n : Name) (c d : ℕ) → c ≢ d → Names rule n c → Names rule n d → IsNamed rule n c → IsNamed rule n d → Found
  unfolding Other
  apart_names n c d apart p q (read h) k = inr (inr (inr (inr (inr (inr (inr (inr (inl (n, c, h, (d, q, apart))))))))))
  apart_names n c d apart p q (assigned h) (read k) = inr (inr (inr (inr (inr (inr (inr (inr (inl (n, d, k, (c, p, λ e. apart (sym e)))))))))))
  apart_names n c d apart p q (assigned h) (assigned k) = absurd (apart (same_Some c d (sym h ∙ k)))
  apart_names n c d apart p q (assigned h) (root k) = inr (inr (inr (inr (inr (inr (inr (inr (inr (inl (c, d, (n, h, k), apart))))))))))
  apart_names n c d apart p q (root h) (read k) = inr (inr (inr (inr (inr (inr (inr (inr (inl (n, d, k, (c, p, λ e. apart (sym e)))))))))))
  apart_names n c d apart p q (root h) (assigned k) = inr (inr (inr (inr (inr (inr (inr (inr (inr (inl (d, c, (n, k, h), λ e. apart (sym e)))))))))))
  apart_names n c d apart p q (root h) (root k) = absurd (apart (same_Some c d (sym h ∙ k)))

  line_found : (c d : ℕ) → c ≢ d → OnLine rule c d → Found
  unfolding Other
  line_found c d apart (by_statement h) = inl (c, d, h, apart)
  line_found c d apart (by_operand halves.Source h) = inr (inl (c, d, h, apart))
  line_found c d apart (by_operand halves.Target h) = inr (inr (inl (c, d, h, apart)))
  line_found c d apart (by_choice halves.Source h) = inr (inr (inr (inl (c, d, h, apart))))
  line_found c d apart (by_choice halves.Target h) = inr (inr (inr (inr (inl (c, d, h, apart)))))
  line_found c d apart (by_term h) = inr (inr (inr (inr (inr (inl (c, d, h, apart))))))
  line_found c d apart (by_witness h) = inr (inr (inr (inr (inr (inr (inl (c, d, h, apart)))))))
  line_found c d apart (by_comparison h) = inr (inr (inr (inr (inr (inr (inr (inl (c, d, h, apart))))))))
  line_found c d apart (by_mask n h q) = inr (inr (inr (inr (inr (inr (inr (inr (inr (inr (n, c, h, (d, q, apart)))))))))))
  line_found c d apart (by_name n p q) = apart_names n c d apart p q (named_cases rule n c p) (named_cases rule n d q)

-- some constraint asks it of two different classes, or each of equal ones
pub split_or_joined : (rule : Rule) → ((c : ℕ) × (d : ℕ) × Line rule c d × (c ≢ d)) ⊎ ((c d : ℕ) → Line rule c d → c ≡ d)
split_or_joined rule = elim (dec_found rule) [
  | yes found ↦ inl (found_line rule found)
  | no none ↦ inr (λ c d on. stable (dec_number c d) (λ apart. none (line_found rule c d apart (line_cases rule c d on))))
]
