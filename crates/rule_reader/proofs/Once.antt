-- A rule as written determines its inputs, its constants, and the rule with its classes that it means.
use Rattle.rule_reader.proofs.Common.{◌≡◌, ◌⊎◌, inl, inr, ℕ, zero, suc, ◌+◌, ◌<◌, List, [], ◌∷◌, ◌++◌, length, length-append, append_assoc, Some, refl, sym, ap, subst, ◌∙◌, arith, slice_get, Contains, map, flat_map, AllZip, slice_get_within, same_Some, length-map, append-nil, flat_map-append, RawRule, RawStatement, RawOp, RawOperand, RawArgument, RawNode, RawFormula, Rule, Statement, Op, Operand, Argument, Node, Formula, classes_of_statement, classes_of_node, classes_of_term, classes_of, Contains-from_get, Joined, SameClass, IsClassified, numbered_op, numbered_statement, numbered_statements, numbered_node, numbered_term, numbered_terms, numbered, Names, Counts, UseSite, arguments_of, terms_of, expressions_of, formula_of, target_terms, terms_of_formula, nodes_in, past, past_all, counted_of, no_counts, with_counts, with_nodes, with_terms, GivenAt, AreFirstGiven, GivesInput, GivesConstant, IsRoot, AreNames, ArgumentMeans, OperandMeans, OpMeans, StatementMeans, NodeMeans, FormulaMeans, HalfMeans, TermsMean, PreconditionMeans, Means, names_of_rule, Each, MayUse, ArgumentIsBound, NodeIsBound, TermIsBound, FormulaIsBound}
use Rattle.rule_parse.specs.declared.raw.RawOp.TheVariants as raw_ops
use Rattle.rule_parse.specs.declared.raw.RawArgument.TheVariants as raw_arguments
use Rattle.rule_terms.specs.declared.raw.RawNode.TheVariants as raw_nodes
use Rattle.rule_terms.specs.declared.raw.RawFormula.TheVariants as raw_formulas
use Rattle.rule_core.specs.declared.rule.Op.TheVariants as ops
use Rattle.rule_core.specs.declared.rule.Argument.TheVariants as arguments
use Rattle.rule_core.specs.declared.rule.Term.{Term}
use Rattle.rule_core.specs.declared.rule.Node.TheVariants as nodes
use Rattle.rule_core.specs.declared.rule.Formula.TheVariants as formulas
use Rattle.rule_core.specs.Positions.{operands_of as operands_meant}
use Rattle.rule_reader.specs.declared.place.UseSite.TheVariants as places
use Rattle.rule_reader.proofs.Places.{order, somewhere, there}
use Rattle.rule_reader.proofs.Members.{each_in, each_at}
use Rattle.rule_reader.proofs.Nodes.{node_at}
use Rattle.rule_reader.proofs.OneRegister.{IsPlain, one_place, one_register, not_root_in_source, not_root_before}
use Rattle.rule_reader.proofs.There.{term_there}
use Rattle.rule_reader.proofs.Checked.{IsBound}

-- ---- names

module _ (Gives : RawArgument → List ℕ → Type 0) (os : List RawArgument) where
  -- m is first given before n
  abbrev GivenBefore : List ℕ → List ℕ → Type 0
  GivenBefore m n = ((q : ℕ) × GivenAt Gives os q n) × ((q : ℕ) → GivenAt Gives os q n → (p : ℕ) × (p < q) × GivenAt Gives os p m)

  descend : (m n : List ℕ) → GivenBefore m n → GivenBefore n m → (fuel q : ℕ) → q < fuel → GivenAt Gives os q n → ⊥
  descend m n before after zero q lt given = absurd (omega arith)
  descend m n before after (suc fuel) q lt given =
      let (p, less, given') = before.1 q given in
      let (r, less', given'') = after.1 p given' in
      descend m n before after fuel r (omega arith) given''

  not_both : (m n : List ℕ) → GivenBefore m n → GivenBefore n m → ⊥
  not_both m n before after = descend m n before after (suc before.0.0) before.0.0 (omega arith) before.0.1

  abbrev InOrder : List (List ℕ) → Type 0
  InOrder names = (h i : ℕ) (m n : List ℕ) → h < i → slice_get names h ≡ Some m → slice_get names i ≡ Some n → GivenBefore m n

  same_lists : (xs ys : List (List ℕ)) → InOrder xs → InOrder ys → ((x : List ℕ) → Contains xs x → Contains ys x) → ((x : List ℕ) → Contains ys x → Contains xs x) → xs ≡ ys
  same_lists [] [] p q f g = refl
  same_lists [] (y ∷ ys) p q f g = absurd (let (k, within, is) = g y (Contains-from_get (y ∷ ys) 0 y refl) in let lt : k < 0 = within in omega arith)
  same_lists (x ∷ xs) [] p q f g = absurd (let (k, within, is) = f x (Contains-from_get (x ∷ xs) 0 x refl) in let lt : k < 0 = within in omega arith)
  same_lists (x ∷ xs) (y ∷ ys) p q f g =
      let first : x ≡ y = first_same (somewhere (y ∷ ys) x (f x (Contains-from_get (x ∷ xs) 0 x refl))) (somewhere (x ∷ xs) y (g y (Contains-from_get (y ∷ ys) 0 y refl))) in
      let rest : xs ≡ ys = same_lists xs ys (λ h i m n lt at at'. p (suc h) (suc i) m n (omega arith) at at') (λ h i m n lt at at'. q (suc h) (suc i) m n (omega arith) at at')
      (λ z among. let (k, at) = somewhere xs z among in
      let (j, at') = somewhere (y ∷ ys) z (f z (Contains-from_get (x ∷ xs) (suc k) z at)) in
      elim j as (λ i. slice_get (y ∷ ys) i ≡ Some z → Contains ys z) [
        | zero ↦ λ e. let same : z ≡ x = cc in let self : GivenBefore x x = subst (λ w. GivenBefore x w) same (p 0 (suc k) x z (omega arith) refl at) in absurd (not_both x x self self)
        | suc i ↦ λ e. Contains-from_get ys i z e
      ] at')
      (λ z among. let (k, at) = somewhere ys z among in
      let (j, at') = somewhere (x ∷ xs) z (g z (Contains-from_get (y ∷ ys) (suc k) z at)) in
      elim j as (λ i. slice_get (x ∷ xs) i ≡ Some z → Contains xs z) [
        | zero ↦ λ e. let same : z ≡ y = cc in let self : GivenBefore y y = subst (λ w. GivenBefore y w) same (q 0 (suc k) y z (omega arith) refl at) in absurd (not_both y y self self)
        | suc i ↦ λ e. Contains-from_get xs i z e
      ] at') in
      cc
    where
      first_same : ((k : ℕ) × (slice_get (y ∷ ys) k ≡ Some x)) → ((k : ℕ) × (slice_get (x ∷ xs) k ≡ Some y)) → x ≡ y
      first_same (zero, e) b = sym (same_Some y x e)
      first_same (suc k, e) (zero, e') = same_Some x y e'
      first_same (suc k, e) (suc j, e') = absurd (not_both y x (q 0 (suc k) y x (omega arith) refl e) (p 0 (suc j) x y (omega arith) refl e'))

  in_order : (names : List (List ℕ)) → AreFirstGiven Gives os names → InOrder names
  in_order names first h i m n lt at at' = ((first.each n).0 (Contains-from_get names i n at'), λ q given. first.in_order h i q m n lt at at' given)

  one_given : (a b : List (List ℕ)) → AreFirstGiven Gives os a → AreFirstGiven Gives os b → a ≡ b
  one_given a b p q = same_lists a b (in_order a p) (in_order b q) (λ x among. (q.each x).1 ((p.each x).0 among)) (λ x among. (p.each x).1 ((q.each x).0 among))

one_names : (source : List RawStatement) (a b : Names) → AreNames source a → AreNames source b → a ≡ b
one_names source a b p q =
    let inputs = one_given (GivesInput source) _ a.inputs b.inputs p.inputs q.inputs in
    let constants = one_given GivesConstant _ a.constants b.constants p.constants q.constants in
    let same : ◌≡◌ {A = Names} (record { inputs = a.inputs; constants = a.constants }) (record { inputs = b.inputs; constants = b.constants }) = cc in
    same

-- ---- the rule that is meant, without its classes

-- the operand with this class in place of its own
abbrev at_class : Operand → ℕ → Operand
at_class a n = record a { class = n }

-- the register that an operand or a node names is not the root
abbrev Rootless : RawRule → RawArgument → Type 0
Rootless raw w = (name : List ℕ) → w ≡ raw_arguments.Register name → ¬ IsRoot raw.source name

abbrev NodeRootless : RawRule → RawNode → Type 0
NodeRootless raw w = (name : List ℕ) → (w ≡ raw_nodes.Register name) ⊎ (w ≡ raw_nodes.Width name) → ¬ IsRoot raw.source name

-- and none of whose bits a node of a formula speaks
abbrev FormulaRootless : RawRule → RawFormula → Type 0
FormulaRootless raw (raw_formulas.MaskedValueIsZero name a) = ¬ IsRoot raw.source name
FormulaRootless raw (raw_formulas.IsKnownNonZero name) = ¬ IsRoot raw.source name
FormulaRootless raw w = Unit {0}

module _ (raw : RawRule) (names : Names) (plain : IsPlain raw) (are : AreNames raw.source names) where
  one_argument : (u : Counts) (w : RawArgument) (a b : Argument) → Rootless raw w → ArgumentMeans raw names u w a → ArgumentMeans raw names u w b → a ≡ b
  one_argument u (raw_arguments.Register name) (arguments.Register r) (arguments.Register s) free p q = ap (λ x. arguments.Register x) (one_register raw names plain are r s name (free name refl) p q)
  one_argument u (raw_arguments.Literal z) (arguments.Literal x) (arguments.Literal y) free p q = ap (λ n. arguments.Literal n) (p ∙ sym q)
  one_argument u (raw_arguments.Truth b) (arguments.Truth x) (arguments.Truth y) free p q = ap (λ n. arguments.Truth n) (p ∙ sym q)
  one_argument u (raw_arguments.Constant name) (arguments.Constant j) (arguments.Constant k) free p q = ap (λ n. arguments.Constant n) (are.constants.once j k name p q)
  one_argument u raw_arguments.Undef (arguments.Undef j) (arguments.Undef k) free p q = ap (λ n. arguments.Undef n) (p ∙ sym q)
  one_argument u (raw_arguments.Term t) (arguments.Term j) (arguments.Term k) free p q = ap (λ n. arguments.Term n) (let e : j ≡ k = omega (arith, p, q) in e)
  one_argument u (raw_arguments.Register name) (arguments.Register r) b free p q = absurd q
  one_argument u (raw_arguments.Literal z) (arguments.Literal x) b free p q = absurd q
  one_argument u (raw_arguments.Truth b) (arguments.Truth x) c free p q = absurd q
  one_argument u (raw_arguments.Constant name) (arguments.Constant j) b free p q = absurd q
  one_argument u raw_arguments.Undef (arguments.Undef j) b free p q = absurd q
  one_argument u (raw_arguments.Term t) (arguments.Term j) b free p q = absurd q
  one_argument u w a b free p q = absurd p

  one_operand : (n : ℕ) (u : Counts) (w : RawOperand) (a b : Operand) → Rootless raw w.value → OperandMeans raw names u w a → OperandMeans raw names u w b → at_class a n ≡ at_class b n
  one_operand n u w a b free means means' =
      let value : a.value ≡ b.value = one_argument u w.value a.value b.value free means.1 means'.1 in
      let type : a.written ≡ b.written = means.0 ∙ sym means'.0 in
      cc

  one_op : (n : ℕ) (u : Counts) (w : RawOp) (p q : Op) → Each (Rootless raw) (arguments_of w) → OpMeans raw names u w p → OpMeans raw names u w q → (numbered_op n p ≡ numbered_op n q) × (length (operands_meant p) ≡ length (operands_meant q))
  one_op n u (raw_ops.Binary op flags a b) (ops.Binary o f x y) (ops.Binary o' f' x' y') free p q =
      let lefts = one_operand n u a x x' free.0 p.2 q.2 in
      let rights = one_operand (n + 1) (past u a.value) b y y' free.1.0 p.3 q.3 in
      let opcodes : o ≡ o' = p.0 ∙ sym q.0 in
      let same_flags : f ≡ f' = p.1 ∙ sym q.1 in
      (cc, refl)
  one_op n u (raw_ops.Compare pred samesign a b) (ops.Compare o s x y) (ops.Compare o' s' x' y') free p q =
      let lefts = one_operand n u a x x' free.0 p.2 q.2 in
      let rights = one_operand (n + 1) (past u a.value) b y y' free.1.0 p.3 q.3 in
      let predicates : o ≡ o' = p.0 ∙ sym q.0 in
      let signs : s ≡ s' = p.1 ∙ sym q.1 in
      (cc, refl)
  one_op n u (raw_ops.Unary op truth a) (ops.Unary o t x) (ops.Unary o' t' x') free p q =
      let operands = one_operand n u a x x' free.0 p.2 q.2 in
      let intrinsics : o ≡ o' = p.0 ∙ sym q.0 in
      let truths : t ≡ t' = p.1 ∙ sym q.1 in
      (cc, refl)
  one_op n u (raw_ops.Select c a b) (ops.Select z x y) (ops.Select z' x' y') free p q =
      let conditions = one_operand n u c z z' free.0 p.0 q.0 in
      let arms = one_operand (n + 1) (past u c.value) a x x' free.1.0 p.1 q.1 in
      let others = one_operand (n + 2) (past (past u c.value) a.value) b y y' free.1.1.0 p.2 q.2 in
      (cc, refl)
  one_op n u (raw_ops.Convert cast flags a to) (ops.Convert o f x t) (ops.Convert o' f' x' t') free p q =
      let operands = one_operand n u a x x' free.0 p.2 q.2 in
      let casts : o ≡ o' = p.0 ∙ sym q.0 in
      let same_flags : f ≡ f' = p.1 ∙ sym q.1 in
      let types : t ≡ t' = p.3 ∙ sym q.3 in
      (cc, refl)
  one_op n u (raw_ops.Freeze a) (ops.Freeze x j) (ops.Freeze x' j') free p q =
      let frozen = one_operand n u a x x' free.0 p.0 q.0 in
      let places : j ≡ j' = p.1 ∙ sym q.1 in
      (cc, refl)
  one_op n u (raw_ops.Copy a) (ops.Copy x) (ops.Copy x') free p q = (ap (λ z. ops.Copy z) (one_operand n u a x x' free.0 p q), refl)
  one_op n u (raw_ops.Binary op flags a b) (ops.Binary o f x y) q' free p q = absurd q
  one_op n u (raw_ops.Compare pred samesign a b) (ops.Compare o s x y) q' free p q = absurd q
  one_op n u (raw_ops.Unary op truth a) (ops.Unary o t x) q' free p q = absurd q
  one_op n u (raw_ops.Select c a b) (ops.Select z x y) q' free p q = absurd q
  one_op n u (raw_ops.Convert cast flags a to) (ops.Convert o f x t) q' free p q = absurd q
  one_op n u (raw_ops.Freeze a) (ops.Freeze x j) q' free p q = absurd q
  one_op n u (raw_ops.Copy a) (ops.Copy x) q' free p q = absurd q
  one_op n u w p' q' free p q = absurd p

  abbrev From : Counts → List RawStatement → List Statement → Type 0
  From u ws ss = AllZip (λ w s. StatementMeans raw names w.0 w.1 s) (with_counts u ws) ss

  one_list : (n : ℕ) (u : Counts) (ws : List RawStatement) (ss ts : List Statement) → ((k : ℕ) (w : RawStatement) → slice_get ws k ≡ Some w → Each (Rootless raw) (arguments_of w.op)) → From u ws ss → From u ws ts
      → (numbered_statements n ss ≡ numbered_statements n ts) × (length (flat_map classes_of_statement ss) ≡ length (flat_map classes_of_statement ts))
  one_list n u [] [] [] free p q = (refl, refl)
  one_list n u [] [] (t ∷ ts) free p q = absurd q
  one_list n u [] (s ∷ ss) ts free p q = absurd p
  one_list n u (w ∷ ws) [] ts free p q = absurd p
  one_list n u (w ∷ ws) (s ∷ ss) [] free p q = absurd q
  one_list n u (w ∷ ws) (s ∷ ss) (t ∷ ts) free p q =
      let (op, many) = one_op (n + 1) u w.op s.op t.op (free 0 w refl) p.0.1 q.0.1 in
      let name : s.name ≡ t.name = p.0.0 ∙ sym q.0.0 in
      let long : length (classes_of_statement s) ≡ length (classes_of_statement t) = simp length-map (ap suc many) in
      let (rest, rest_long) = one_list (n + length (classes_of_statement s)) (past_all u (counted_of w.op)) ws ss ts (λ k v at. free (suc k) v at) p.1 q.1 in
      let rest' : numbered_statements (n + length (classes_of_statement s)) ss ≡ numbered_statements (n + length (classes_of_statement t)) ts = rest ∙ ap (λ m. numbered_statements (n + m) ts) long in
      let first : numbered_statement n s ≡ numbered_statement n t = cc in
      (cc, length-append (classes_of_statement s) (flat_map classes_of_statement ss) ∙ ap (λ m. m + length (flat_map classes_of_statement ss)) long ∙ ap (λ m. length (classes_of_statement t) + m) rest_long ∙ sym (length-append (classes_of_statement t) (flat_map classes_of_statement ts)))

  -- ---- terms

  one_node : (n b : ℕ) (w : RawNode) (x y : Node) → NodeRootless raw w → NodeMeans raw names b w x → NodeMeans raw names b w y → (numbered_node n x ≡ numbered_node n y) × (length (classes_of_node 0 x) ≡ length (classes_of_node 0 y))
  one_node n b (raw_nodes.Literal z) (nodes.Literal x) (nodes.Literal y) free p q = (ap (λ m. nodes.Literal m) (p ∙ sym q), refl)
  one_node n b (raw_nodes.Constant name) (nodes.Constant j) (nodes.Constant k) free p q = (ap (λ m. nodes.Constant m) (are.constants.once j k name p q), refl)
  one_node n b (raw_nodes.Register name) (nodes.Register r) (nodes.Register s) free p q = (ap (λ m. nodes.Register m) (one_register raw names plain are r s name (free name (inl refl)) p q), refl)
  one_node n b (raw_nodes.Choice i) (nodes.Choice j) (nodes.Choice k) free p q = (ap (λ m. nodes.Choice m) (p ∙ sym q), refl)
  one_node n b (raw_nodes.Width name) (nodes.Width r c) (nodes.Width s d) free p q = (ap (λ m. nodes.Width m n) (one_register raw names plain are r s name (free name (inr refl)) p q), refl)
  one_node n b (raw_nodes.Unary f a) (nodes.Unary g x) (nodes.Unary h y) free p q = let e : g ≡ h = p.0 ∙ sym q.0 in let e' : x ≡ y = p.1 ∙ sym q.1 in (cc, refl)
  one_node n b (raw_nodes.Binary op a c) (nodes.Binary g x y) (nodes.Binary h x' y') free p q =
      let e : g ≡ h = p.0 ∙ sym q.0 in
      let e' : x ≡ x' = p.1 ∙ sym q.1 in
      let e'' : y ≡ y' = p.2 ∙ sym q.2 in
      (cc, refl)
  one_node n b (raw_nodes.Literal z) (nodes.Literal x) y free p q = absurd q
  one_node n b (raw_nodes.Constant name) (nodes.Constant j) y free p q = absurd q
  one_node n b (raw_nodes.Register name) (nodes.Register r) y free p q = absurd q
  one_node n b (raw_nodes.Choice i) (nodes.Choice j) y free p q = absurd q
  one_node n b (raw_nodes.Width name) (nodes.Width r c) y free p q = absurd q
  one_node n b (raw_nodes.Unary f a) (nodes.Unary g x) y free p q = absurd q
  one_node n b (raw_nodes.Binary op a c) (nodes.Binary g x y) z free p q = absurd q
  one_node n b w x y free p q = absurd p

  any_class : (c d : ℕ) (x : Node) → length (classes_of_node c x) ≡ length (classes_of_node d x)
  any_class c d (nodes.Literal z) = refl
  any_class c d (nodes.Constant k) = refl
  any_class c d (nodes.Register r) = refl
  any_class c d (nodes.Choice k) = refl
  any_class c d (nodes.Width r e) = refl
  any_class c d (nodes.Unary f a) = refl
  any_class c d (nodes.Binary op a b) = refl

  one_terms : (n : ℕ) (ws : List (ℕ × RawNode)) (ss ts : List Term) → ((k : ℕ) (w : ℕ × RawNode) → slice_get ws k ≡ Some w → NodeRootless raw w.1) → AllZip (λ w t. NodeMeans raw names w.0 w.1 t.node) ws ss → AllZip (λ w t. NodeMeans raw names w.0 w.1 t.node) ws ts
      → (numbered_terms n ss ≡ numbered_terms n ts) × (length (flat_map classes_of_term ss) ≡ length (flat_map classes_of_term ts))
  one_terms n [] [] [] free p q = (refl, refl)
  one_terms n [] [] (t ∷ ts) free p q = absurd q
  one_terms n [] (s ∷ ss) ts free p q = absurd p
  one_terms n (w ∷ ws) [] ts free p q = absurd p
  one_terms n (w ∷ ws) (s ∷ ss) [] free p q = absurd q
  one_terms n (w ∷ ws) (s ∷ ss) (t ∷ ts) free p q =
      let (node, many) = one_node (n + 1) w.0 w.1 s.node t.node (free 0 w refl) p.0 q.0 in
      let long : length (classes_of_term s) ≡ length (classes_of_term t) = any_class s.class 0 s.node ∙ many ∙ any_class 0 t.class t.node in
      let (rest, rest_long) = one_terms (n + length (classes_of_term s)) ws ss ts (λ k v at. free (suc k) v at) p.1 q.1 in
      let rest' : numbered_terms (n + length (classes_of_term s)) ss ≡ numbered_terms (n + length (classes_of_term t)) ts = rest ∙ ap (λ m. numbered_terms (n + m) ts) long in
      let first : numbered_term n s ≡ numbered_term n t = cc in
      (cc, length-append (classes_of_term s) (flat_map classes_of_term ss) ∙ ap (λ m. m + length (flat_map classes_of_term ss)) long ∙ ap (λ m. length (classes_of_term t) + m) rest_long ∙ sym (length-append (classes_of_term t) (flat_map classes_of_term ts)))

  one_formula : (b : ℕ) (w : RawFormula) (f g : Formula) → FormulaRootless raw w → FormulaMeans raw names b w f → FormulaMeans raw names b w g → f ≡ g
  one_formula b (raw_formulas.Compare pred u v) (formulas.Compare o x y) (formulas.Compare o' x' y') free p q =
      let e : o ≡ o' = p.0 ∙ sym q.0 in
      let e' : x ≡ x' = omega (arith, p.1, q.1) in
      let e'' : y ≡ y' = omega (arith, p.2, q.2) in
      cc
  one_formula b (raw_formulas.IsPowerOfTwo u) (formulas.IsPowerOfTwo x) (formulas.IsPowerOfTwo y) free p q = ap (λ m. formulas.IsPowerOfTwo m) (let e : x ≡ y = omega (arith, p, q) in e)
  one_formula b (raw_formulas.IsSignBit u) (formulas.IsSignBit x) (formulas.IsSignBit y) free p q = ap (λ m. formulas.IsSignBit m) (let e : x ≡ y = omega (arith, p, q) in e)
  one_formula b (raw_formulas.HasOneUse name) (formulas.HasOneUse j) (formulas.HasOneUse k) free p q = ap (λ m. formulas.HasOneUse m) (one_place raw.source plain.source_once j k name p q)
  one_formula b (raw_formulas.MaskedValueIsZero name u) (formulas.MaskedValueIsZero r x) (formulas.MaskedValueIsZero s y) free p q =
      let e : r ≡ s = one_register raw names plain are r s name free p.0 q.0 in
      let e' : x ≡ y = omega (arith, p.1, q.1) in
      cc
  one_formula b (raw_formulas.IsKnownNonZero name) (formulas.IsKnownNonZero r) (formulas.IsKnownNonZero s) free p q = ap (λ m. formulas.IsKnownNonZero m) (one_register raw names plain are r s name free p q)
  one_formula b (raw_formulas.Not a) (formulas.Not x) (formulas.Not y) free p q = ap (λ m. formulas.Not m) (p ∙ sym q)
  one_formula b (raw_formulas.And a c) (formulas.And x y) (formulas.And x' y') free p q = let e : x ≡ x' = p.0 ∙ sym q.0 in let e' : y ≡ y' = p.1 ∙ sym q.1 in cc
  one_formula b (raw_formulas.Or a c) (formulas.Or x y) (formulas.Or x' y') free p q = let e : x ≡ x' = p.0 ∙ sym q.0 in let e' : y ≡ y' = p.1 ∙ sym q.1 in cc
  one_formula b (raw_formulas.Compare pred u v) (formulas.Compare o x y) g free p q = absurd q
  one_formula b (raw_formulas.IsPowerOfTwo u) (formulas.IsPowerOfTwo x) g free p q = absurd q
  one_formula b (raw_formulas.IsSignBit u) (formulas.IsSignBit x) g free p q = absurd q
  one_formula b (raw_formulas.HasOneUse name) (formulas.HasOneUse j) g free p q = absurd q
  one_formula b (raw_formulas.MaskedValueIsZero name u) (formulas.MaskedValueIsZero r x) g free p q = absurd q
  one_formula b (raw_formulas.IsKnownNonZero name) (formulas.IsKnownNonZero r) g free p q = absurd q
  one_formula b (raw_formulas.Not a) (formulas.Not x) g free p q = absurd q
  one_formula b (raw_formulas.And a c) (formulas.And x y) g free p q = absurd q
  one_formula b (raw_formulas.Or a c) (formulas.Or x y) g free p q = absurd q
  one_formula b w f g free p q = absurd p

  one_precondition : (n : ℕ) (ws : List RawFormula) (fs gs : List Formula) → ((k : ℕ) (w : RawFormula) → slice_get ws k ≡ Some w → FormulaRootless raw w) → AllZip (λ w f. FormulaMeans raw names w.0 w.1 f) (with_terms n ws) fs → AllZip (λ w f. FormulaMeans raw names w.0 w.1 f) (with_terms n ws) gs → fs ≡ gs
  one_precondition n [] [] [] free p q = refl
  one_precondition n [] [] (g ∷ gs) free p q = absurd q
  one_precondition n [] (f ∷ fs) gs free p q = absurd p
  one_precondition n (w ∷ ws) [] gs free p q = absurd p
  one_precondition n (w ∷ ws) (f ∷ fs) [] free p q = absurd q
  one_precondition n (w ∷ ws) (f ∷ fs) (g ∷ gs) free p q =
      let first : f ≡ g = one_formula n w f g (free 0 w refl) p.0 q.0 in
      let rest : fs ≡ gs = one_precondition (n + nodes_in (terms_of_formula w)) ws fs gs (λ k v at. free (suc k) v at) p.1 q.1 in
      cc

-- ---- the root may not be used

rootless : (raw : RawRule) (place : UseSite) (w : RawArgument) → ((name : List ℕ) → MayUse raw place name → ¬ IsRoot raw.source name) → ArgumentIsBound raw place w → Rootless raw w
rootless raw place (raw_arguments.Register other) free bound name e root = let same : other ≡ name = cc in free other bound (subst (IsRoot raw.source) (sym same) root)
rootless raw place (raw_arguments.Literal z) free bound name e root = cc
rootless raw place (raw_arguments.Truth b) free bound name e root = cc
rootless raw place (raw_arguments.Constant other) free bound name e root = cc
rootless raw place raw_arguments.Undef free bound name e root = cc
rootless raw place (raw_arguments.Term t) free bound name e root = cc

all_rootless : (raw : RawRule) (place : UseSite) (ws : List RawArgument) → ((name : List ℕ) → MayUse raw place name → ¬ IsRoot raw.source name) → Each (ArgumentIsBound raw place) ws → Each (Rootless raw) ws
all_rootless raw place [] free bound = tt
all_rootless raw place (w ∷ ws) free bound = (rootless raw place w free bound.0, all_rootless raw place ws free bound.1)

node_rootless : (raw : RawRule) (place : UseSite) (w : RawNode) → ((name : List ℕ) → MayUse raw place name → ¬ IsRoot raw.source name) → NodeIsBound raw place w → NodeRootless raw w
node_rootless raw place (raw_nodes.Register other) free bound name e root = elim e [
  | inl same ↦ let is : other ≡ name = cc in free other bound (subst (IsRoot raw.source) (sym is) root)
  | inr other ↦ cc
]
node_rootless raw place (raw_nodes.Width other) free bound name e root = elim e [
  | inl other ↦ cc
  | inr same ↦ let is : other ≡ name = cc in free other bound (subst (IsRoot raw.source) (sym is) root)
]
node_rootless raw place (raw_nodes.Literal z) free bound name e root = elim e [ inl same ↦ cc | inr same ↦ cc ]
node_rootless raw place (raw_nodes.Constant other) free bound name e root = elim e [ inl same ↦ cc | inr same ↦ cc ]
node_rootless raw place (raw_nodes.Choice k) free bound name e root = elim e [ inl same ↦ cc | inr same ↦ cc ]
node_rootless raw place (raw_nodes.Unary f a) free bound name e root = elim e [ inl same ↦ cc | inr same ↦ cc ]
node_rootless raw place (raw_nodes.Binary op a b) free bound name e root = elim e [ inl same ↦ cc | inr same ↦ cc ]

module _ (raw : RawRule) (names : Names) (bound : IsBound raw) (are : AreNames raw.source names) where
  free_in_source : (k : ℕ) (w : RawStatement) → slice_get raw.source k ≡ Some w → Each (Rootless raw) (arguments_of w.op)
  free_in_source k w at = all_rootless raw (places.Source k) (arguments_of w.op) (λ name may. not_root_in_source raw names bound.plain are k name (slice_get_within raw.source k w at) may) (bound.there.source k w at)

  free_in_target : (k : ℕ) (w : RawStatement) → slice_get raw.target k ≡ Some w → Each (Rootless raw) (arguments_of w.op)
  free_in_target k w at = all_rootless raw (places.Target k) (arguments_of w.op) (λ name may. may.0) (bound.there.target k w at)

  free_before : (w : RawNode) → NodeIsBound raw places.Heading w → NodeRootless raw w
  free_before w named = node_rootless raw places.Heading w (λ name may. not_root_before raw names bound.plain are name may) named

  formula_rootless : (w : RawFormula) → FormulaIsBound raw w → FormulaRootless raw w
  formula_rootless (raw_formulas.MaskedValueIsZero name a) (may, term) = not_root_before raw names bound.plain are name may
  formula_rootless (raw_formulas.IsKnownNonZero name) may = not_root_before raw names bound.plain are name may
  formula_rootless w named = tt

  free_in_formula : (k : ℕ) (w : RawFormula) → slice_get (formula_of raw) k ≡ Some w → FormulaRootless raw w
  free_in_formula k w at = formula_rootless w (each_at (FormulaIsBound raw) (formula_of raw) k w bound.there.precondition at)

  free_in_terms : (q : ℕ) (w : ℕ × RawNode) → slice_get (with_nodes 0 (terms_of raw)) q ≡ Some w → NodeRootless raw w.1
  free_in_terms q w at =
      let (t, among, (k, spot, sum)) = node_at 0 (terms_of raw) q w at in
      elim (term_there raw bound.there t w.1 among (Contains-from_get t k w.1 spot)) [
        | inl (j, lt, named) ↦ node_rootless raw (places.Target j) w.1 (λ name may. may.0) named
        | inr named ↦ free_before w.1 named
      ]

  free_in_witness : (q : ℕ) (w : ℕ × RawNode) → slice_get (with_nodes 0 (expressions_of raw)) q ≡ Some w → NodeRootless raw w.1
  free_in_witness q w at =
      let (t, among, (k, spot, sum)) = node_at 0 (expressions_of raw) q w at in
      free_before w.1 (each_in (NodeIsBound raw places.Heading) t w.1 (each_in (TermIsBound raw places.Heading) (expressions_of raw) t bound.there.witness among) (Contains-from_get t k w.1 spot))

-- two rules that one rule as written means differ in nothing but their classes
pub one_meaning : (raw : RawRule) (rule other : Rule) → IsBound raw → Means raw rule → Means raw other → numbered rule ≡ numbered other
one_meaning raw rule other bound p q =
    let own = names_of_rule rule in
    let same : names_of_rule rule ≡ names_of_rule other = one_names raw.source (names_of_rule rule) (names_of_rule other) p.names q.names in
    let inputs : rule.inputs ≡ other.inputs = ap (λ (n : Names). n.inputs) same in
    let constants : rule.constants ≡ other.constants = ap (λ (n : Names). n.constants) same in
    let q_source = subst (λ i. HalfMeans raw i raw.source other.source) (sym same) q.source in
    let q_target = subst (λ i. HalfMeans raw i raw.target other.target) (sym same) q.target in
    let q_terms = subst (λ i. TermsMean raw i (terms_of raw) other.terms) (sym same) q.terms in
    let q_witness = subst (λ i. TermsMean raw i (expressions_of raw) other.witness_terms) (sym same) q.witness_terms in
    let q_formula = subst (λ i. PreconditionMeans raw i (formula_of raw) other.precondition) (sym same) q.precondition in
    let (sources, long) = one_list raw own bound.plain p.names 0 no_counts raw.source rule.source other.source (free_in_source raw own bound p.names) p.source q_source in
    let (targets, longer) = one_list raw own bound.plain p.names (length (flat_map classes_of_statement rule.source)) no_counts raw.target rule.target other.target (free_in_target raw own bound p.names) p.target q_target in
    let (terms, longest) = one_terms raw own bound.plain p.names (length (flat_map classes_of_statement rule.source) + length (flat_map classes_of_statement rule.target)) (with_nodes 0 (terms_of raw)) rule.terms other.terms (free_in_terms raw own bound p.names) p.terms q_terms in
    let (witness, _) = one_terms raw own bound.plain p.names (length (flat_map classes_of_statement rule.source) + length (flat_map classes_of_statement rule.target) + length (flat_map classes_of_term rule.terms)) (with_nodes 0 (expressions_of raw)) rule.witness_terms other.witness_terms
    (free_in_witness raw own bound p.names) p.witness_terms q_witness in
    let formula : rule.precondition ≡ other.precondition = one_precondition raw own bound.plain p.names (nodes_in (target_terms raw)) (formula_of raw) rule.precondition other.precondition (free_in_formula raw own bound p.names) p.precondition q_formula in
    let names : rule.name ≡ other.name = p.name ∙ sym q.name in
    let witnesses : rule.witnesses ≡ other.witnesses = p.witnesses ∙ sym q.witnesses in
    let first : length (flat_map classes_of_statement rule.source) ≡ length (flat_map classes_of_statement other.source) = long in
    let second : length (flat_map classes_of_statement rule.target) ≡ length (flat_map classes_of_statement other.target) = longer in
    let third : length (flat_map classes_of_term rule.terms) ≡ length (flat_map classes_of_term other.terms) = longest in
    cc

-- ---- classes

same_class_of : (rule other : Rule) (p q : ℕ) → numbered rule ≡ numbered other → SameClass rule p q → SameClass other p q
same_class_of rule other p q e h = subst (λ r. Joined r p q) e h

-- at each place both have the same class, by induction over the places
same_number_at : (rule other : Rule) → numbered rule ≡ numbered other → IsClassified rule → IsClassified other → length (classes_of rule) ≡ length (classes_of other) → (fuel p c d : ℕ) → p < fuel → slice_get (classes_of rule) p ≡ Some c → slice_get (classes_of other) p ≡ Some d → c ≡ d
same_number_at rule other e one two long zero p c d lt at at' = absurd (omega arith)
same_number_at rule other e one two long (suc fuel) p c d lt at at' = elim (order c d) [
  | inl less ↦
      let (q, before, there') = two.numbers p d c at' less in
      let (b, here) = there (classes_of rule) q (let within : p < length (classes_of rule) = slice_get_within (classes_of rule) p c at in omega arith) in
      let same : b ≡ c = same_number_at rule other e one two long fuel q b c (omega arith) here there' in
      let joined : SameClass rule q p = (one.classes q p b c here at).0 same in
      (two.classes q p c d there' at').1 (same_class_of rule other q p e joined)
  | inr (inl same) ↦ same
  | inr (inr more) ↦
      let (q, before, here) = one.numbers p c d at more in
      let (b, there') = there (classes_of other) q (let within : p < length (classes_of other) = slice_get_within (classes_of other) p d at' in omega arith) in
      let same : d ≡ b = same_number_at rule other e one two long fuel q d b (omega arith) here there' in
      let joined : SameClass other q p = (two.classes q p b d there' at').0 (sym same) in
      sym ((one.classes q p d c here at).1 (same_class_of other rule q p (sym e) joined))
]

lists_at : (xs ys : List ℕ) → length xs ≡ length ys → ((k c d : ℕ) → slice_get xs k ≡ Some c → slice_get ys k ≡ Some d → c ≡ d) → xs ≡ ys
lists_at [] [] long same = refl
lists_at [] (y ∷ ys) long same = absurd (omega arith)
lists_at (x ∷ xs) [] long same = absurd (omega arith)
lists_at (x ∷ xs) (y ∷ ys) long same =
    let first : x ≡ y = same 0 x y refl refl in
    let rest : xs ≡ ys = lists_at xs ys (omega arith) (λ k c d at at'. same (suc k) c d at at') in
    cc

same_operand : (x y : Operand) (m n : ℕ) → at_class x m ≡ at_class y n → x.class ≡ y.class → x ≡ y
same_operand x y m n e same =
    let value : x.value ≡ y.value = ap (λ (z : Operand). z.value) e in
    let type : x.written ≡ y.written = ap (λ (z : Operand). z.written) e in
    let whole : ◌≡◌ {A = Operand} (record { value = x.value; written = x.written; class = x.class }) (record { value = y.value; written = y.written; class = y.class }) = cc in
    whole

same_statement : (s t : Statement) → s.name ≡ t.name → s.class ≡ t.class → s.op ≡ t.op → s ≡ t
same_statement s t p q r =
    let e : ◌≡◌ {A = Statement} (record { name = s.name; class = s.class; op = s.op }) (record { name = t.name; class = t.class; op = t.op }) = cc in e

abbrev op_classes : Op → List ℕ
op_classes op = map (λ o. o.class) (operands_meant op)

-- an operation is determined by itself without its classes, and by these
same_op : (m n : ℕ) (p q : Op) (xs ys : List ℕ) → numbered_op m p ≡ numbered_op n q → op_classes p ++ xs ≡ op_classes q ++ ys → (p ≡ q) × (xs ≡ ys)
same_op m n (ops.Binary o f x y) (ops.Binary o' f' x' y') xs ys e classes =
    let left : x ≡ x' = same_operand x x' m n (cc) (cc) in
    let right : y ≡ y' = same_operand y y' (m + 1) (n + 1) (cc) (cc) in
    let opcodes : o ≡ o' = cc in
    let flags : f ≡ f' = cc in
    (cc, cc)
same_op m n (ops.Compare o s x y) (ops.Compare o' s' x' y') xs ys e classes =
    let left : x ≡ x' = same_operand x x' m n (cc) (cc) in
    let right : y ≡ y' = same_operand y y' (m + 1) (n + 1) (cc) (cc) in
    let predicates : o ≡ o' = cc in
    let signs : s ≡ s' = cc in
    (cc, cc)
same_op m n (ops.Unary o t x) (ops.Unary o' t' x') xs ys e classes =
    let operand : x ≡ x' = same_operand x x' m n (cc) (cc) in
    let intrinsics : o ≡ o' = cc in
    let truths : t ≡ t' = cc in
    (cc, cc)
same_op m n (ops.Select z x y) (ops.Select z' x' y') xs ys e classes =
    let condition : z ≡ z' = same_operand z z' m n (cc) (cc) in
    let arm : x ≡ x' = same_operand x x' (m + 1) (n + 1) (cc) (cc) in
    let other : y ≡ y' = same_operand y y' (m + 2) (n + 2) (cc) (cc) in
    (cc, cc)
same_op m n (ops.Convert o f x t) (ops.Convert o' f' x' t') xs ys e classes =
    let converted : x ≡ x' = same_operand x x' m n (cc) (cc) in
    let casts : o ≡ o' = cc in
    let same_flags : f ≡ f' = cc in
    let types : t ≡ t' = cc in
    (cc, cc)
same_op m n (ops.Freeze x j) (ops.Freeze x' j') xs ys e classes =
    let frozen : x ≡ x' = same_operand x x' m n (cc) (cc) in
    let places : j ≡ j' = cc in
    (cc, cc)
same_op m n (ops.Copy x) (ops.Copy x') xs ys e classes = let copied : x ≡ x' = same_operand x x' m n (cc) (cc) in (cc, cc)
same_op m n p q xs ys e classes = absurd (cc)

same_statements : (m n : ℕ) (ss ts : List Statement) (xs ys : List ℕ) → numbered_statements m ss ≡ numbered_statements n ts → flat_map classes_of_statement ss ++ xs ≡ flat_map classes_of_statement ts ++ ys → (ss ≡ ts) × (xs ≡ ys)
same_statements m n [] [] xs ys e classes = (refl, classes)
same_statements m n [] (t ∷ ts) xs ys e classes = absurd (cc)
same_statements m n (s ∷ ss) [] xs ys e classes = absurd (cc)
same_statements m n (s ∷ ss) (t ∷ ts) xs ys e classes =
    let first : numbered_statement m s ≡ numbered_statement n t = cc in
    let later : numbered_statements (m + length (classes_of_statement s)) ss ≡ numbered_statements (n + length (classes_of_statement t)) ts = cc in
    let all : s.class ∷ (op_classes s.op ++ (flat_map classes_of_statement ss ++ xs)) ≡ t.class ∷ (op_classes t.op ++ (flat_map classes_of_statement ts ++ ys))
    = sym (append_assoc (classes_of_statement s) (flat_map classes_of_statement ss) xs) ∙ classes ∙ append_assoc (classes_of_statement t) (flat_map classes_of_statement ts) ys in
    let result : s.class ≡ t.class = cc in
    let behind : op_classes s.op ++ (flat_map classes_of_statement ss ++ xs) ≡ op_classes t.op ++ (flat_map classes_of_statement ts ++ ys) = cc in
    let (op, rest) = same_op (m + 1) (n + 1) s.op t.op (flat_map classes_of_statement ss ++ xs) (flat_map classes_of_statement ts ++ ys) (ap (λ (z : Statement). z.op) first) behind in
    let (others, left) = same_statements (m + length (classes_of_statement s)) (n + length (classes_of_statement t)) ss ts xs ys later rest in
    let own : s ≡ t = same_statement s t (ap (λ (z : Statement). z.name) first) result op in
    (cc, left)

-- rules that differ in nothing but their classes have as many positions
as_many_of : (m n : ℕ) (p q : Op) → numbered_op m p ≡ numbered_op n q → length (op_classes p) ≡ length (op_classes q)
as_many_of m n (ops.Binary o f x y) (ops.Binary o' f' x' y') e = refl
as_many_of m n (ops.Compare o s x y) (ops.Compare o' s' x' y') e = refl
as_many_of m n (ops.Unary o t x) (ops.Unary o' t' x') e = refl
as_many_of m n (ops.Select z x y) (ops.Select z' x' y') e = refl
as_many_of m n (ops.Convert o f x t) (ops.Convert o' f' x' t') e = refl
as_many_of m n (ops.Freeze x j) (ops.Freeze x' j') e = refl
as_many_of m n (ops.Copy x) (ops.Copy x') e = refl
as_many_of m n p q e = absurd (cc)

as_many : (m n : ℕ) (ss ts : List Statement) → numbered_statements m ss ≡ numbered_statements n ts → length (flat_map classes_of_statement ss) ≡ length (flat_map classes_of_statement ts)
as_many m n [] [] e = refl
as_many m n [] (t ∷ ts) e = absurd (cc)
as_many m n (s ∷ ss) [] e = absurd (cc)
as_many m n (s ∷ ss) (t ∷ ts) e =
    let first : numbered_statement m s ≡ numbered_statement n t = cc in
    let later : numbered_statements (m + length (classes_of_statement s)) ss ≡ numbered_statements (n + length (classes_of_statement t)) ts = cc in
    let own : length (op_classes s.op) ≡ length (op_classes t.op) = as_many_of (m + 1) (n + 1) s.op t.op (ap (λ (z : Statement). z.op) first) in
    let rest = as_many (m + length (classes_of_statement s)) (n + length (classes_of_statement t)) ss ts later in
    length-append (classes_of_statement s) (flat_map classes_of_statement ss) ∙ ap (λ k. suc k + length (flat_map classes_of_statement ss)) own ∙ ap (λ k. length (classes_of_statement t) + k) rest
    ∙ sym (length-append (classes_of_statement t) (flat_map classes_of_statement ts))

node_same : (m n c d : ℕ) (x y : Node) (xs ys : List ℕ) → numbered_node m x ≡ numbered_node n y → classes_of_node c x ++ xs ≡ classes_of_node d y ++ ys → (c ≡ d) × (x ≡ y) × (xs ≡ ys)
node_same m n c d (nodes.Literal z) (nodes.Literal z') xs ys e classes = (cc, e, cc)
node_same m n c d (nodes.Constant k) (nodes.Constant k') xs ys e classes = (cc, e, cc)
node_same m n c d (nodes.Register r) (nodes.Register r') xs ys e classes = (cc, e, cc)
node_same m n c d (nodes.Choice k) (nodes.Choice k') xs ys e classes = (cc, e, cc)
node_same m n c d (nodes.Width r i) (nodes.Width r' j) xs ys e classes = let same : r ≡ r' = cc in let class : i ≡ j = cc in (cc, cc, cc)
node_same m n c d (nodes.Unary f x) (nodes.Unary f' x') xs ys e classes = (cc, e, cc)
node_same m n c d (nodes.Binary op x y) (nodes.Binary op' x' y') xs ys e classes = (cc, e, cc)
node_same m n c d x y xs ys e classes = absurd (cc)

term_same : (m n : ℕ) (s t : Term) (xs ys : List ℕ) → numbered_term m s ≡ numbered_term n t → classes_of_term s ++ xs ≡ classes_of_term t ++ ys → (s ≡ t) × (xs ≡ ys)
term_same m n s t xs ys e classes =
    let (class, node, rest) = node_same (m + 1) (n + 1) s.class t.class s.node t.node xs ys (ap (λ (z : Term). z.node) e) classes in
    let same : ◌≡◌ {A = Term} (record { class = s.class; node = s.node }) (record { class = t.class; node = t.node }) = cc in
    (same, rest)

terms_same : (m n : ℕ) (ss ts : List Term) (xs ys : List ℕ) → numbered_terms m ss ≡ numbered_terms n ts → flat_map classes_of_term ss ++ xs ≡ flat_map classes_of_term ts ++ ys → (ss ≡ ts) × (xs ≡ ys)
terms_same m n [] [] xs ys e classes = (refl, classes)
terms_same m n [] (t ∷ ts) xs ys e classes = absurd (cc)
terms_same m n (s ∷ ss) [] xs ys e classes = absurd (cc)
terms_same m n (s ∷ ss) (t ∷ ts) xs ys e classes =
    let first : numbered_term m s ≡ numbered_term n t = cc in
    let later : numbered_terms (m + length (classes_of_term s)) ss ≡ numbered_terms (n + length (classes_of_term t)) ts = cc in
    let all : classes_of_term s ++ (flat_map classes_of_term ss ++ xs) ≡ classes_of_term t ++ (flat_map classes_of_term ts ++ ys)
    = sym (append_assoc (classes_of_term s) (flat_map classes_of_term ss) xs) ∙ classes ∙ append_assoc (classes_of_term t) (flat_map classes_of_term ts) ys in
    let (own, rest) = term_same m n s t (flat_map classes_of_term ss ++ xs) (flat_map classes_of_term ts ++ ys) first all in
    let (others, left) = terms_same (m + length (classes_of_term s)) (n + length (classes_of_term t)) ss ts xs ys later rest in
    (cc, left)

node_long : (m n c d : ℕ) (x y : Node) → numbered_node m x ≡ numbered_node n y → length (classes_of_node c x) ≡ length (classes_of_node d y)
node_long m n c d (nodes.Literal z) (nodes.Literal z') e = refl
node_long m n c d (nodes.Constant k) (nodes.Constant k') e = refl
node_long m n c d (nodes.Register r) (nodes.Register r') e = refl
node_long m n c d (nodes.Choice k) (nodes.Choice k') e = refl
node_long m n c d (nodes.Width r i) (nodes.Width r' j) e = refl
node_long m n c d (nodes.Unary f x) (nodes.Unary f' x') e = refl
node_long m n c d (nodes.Binary op x y) (nodes.Binary op' x' y') e = refl
node_long m n c d x y e = absurd (cc)

terms_long : (m n : ℕ) (ss ts : List Term) → numbered_terms m ss ≡ numbered_terms n ts → length (flat_map classes_of_term ss) ≡ length (flat_map classes_of_term ts)
terms_long m n [] [] e = refl
terms_long m n [] (t ∷ ts) e = absurd (cc)
terms_long m n (s ∷ ss) [] e = absurd (cc)
terms_long m n (s ∷ ss) (t ∷ ts) e =
    let first : numbered_term m s ≡ numbered_term n t = cc in
    let later : numbered_terms (m + length (classes_of_term s)) ss ≡ numbered_terms (n + length (classes_of_term t)) ts = cc in
    let own = node_long (m + 1) (n + 1) s.class t.class s.node t.node (ap (λ (z : Term). z.node) first) in
    let rest = terms_long (m + length (classes_of_term s)) (n + length (classes_of_term t)) ss ts later in
    length-append (classes_of_term s) (flat_map classes_of_term ss) ∙ ap (λ k. k + length (flat_map classes_of_term ss)) own ∙ ap (λ k. length (classes_of_term t) + k) rest ∙ sym (length-append (classes_of_term t) (flat_map classes_of_term ts))

-- the classes of a rule, part by part
abbrev in_parts : Rule → List ℕ → List ℕ
in_parts rule xs = flat_map classes_of_statement rule.source ++ (flat_map classes_of_statement rule.target ++ (flat_map classes_of_term rule.terms ++ (flat_map classes_of_term rule.witness_terms ++ xs)))

all_parts : (rule : Rule) → classes_of rule ≡ in_parts rule []
all_parts rule =
    let S = flat_map classes_of_statement rule.source in
    let T = flat_map classes_of_statement rule.target in
    let U = flat_map classes_of_term rule.terms in
    let V = flat_map classes_of_term rule.witness_terms in
    let halves : flat_map classes_of_statement (rule.source ++ rule.target) ≡ S ++ T = flat_map-append classes_of_statement rule.source rule.target in
    let terms : flat_map classes_of_term (rule.terms ++ rule.witness_terms) ≡ U ++ V = flat_map-append classes_of_term rule.terms rule.witness_terms in
    let whole : classes_of rule ≡ (S ++ T) ++ (U ++ V) = cc in
    whole ∙ append_assoc S T (U ++ V) ∙ ap (λ l. S ++ (T ++ (U ++ l))) (sym (append-nil V))

parts_length : (rule : Rule) → length (classes_of rule) ≡ length (flat_map classes_of_statement rule.source) + (length (flat_map classes_of_statement rule.target) + (length (flat_map classes_of_term rule.terms) + length (flat_map classes_of_term rule.witness_terms)))
parts_length rule =
    let S = flat_map classes_of_statement rule.source in
    let T = flat_map classes_of_statement rule.target in
    let U = flat_map classes_of_term rule.terms in
    let V = flat_map classes_of_term rule.witness_terms in
    omega (arith, ap length (all_parts rule), length-append S (T ++ (U ++ (V ++ []))), length-append T (U ++ (V ++ [])), length-append U (V ++ []), ap length (append-nil V))

-- the classes of a classified rule are determined by the rule without them
pub one_classified : (rule other : Rule) → numbered rule ≡ numbered other → IsClassified rule → IsClassified other → rule ≡ other
one_classified rule other e one two =
    let sources = ap (λ (r : Rule). r.source) e in
    let targets = ap (λ (r : Rule). r.target) e in
    let terms = ap (λ (r : Rule). r.terms) e in
    let witness = ap (λ (r : Rule). r.witness_terms) e in
    let long : length (classes_of rule) ≡ length (classes_of other) =
    omega (arith, parts_length rule, parts_length other, as_many _ _ rule.source other.source sources, as_many _ _ rule.target other.target targets, terms_long _ _ rule.terms other.terms terms, terms_long _ _ rule.witness_terms other.witness_terms witness) in
    let classes : classes_of rule ≡ classes_of other = lists_at (classes_of rule) (classes_of other) long (λ k c d at at'. same_number_at rule other e one two long (suc k) k c d (omega arith) at at') in
    let parts : in_parts rule [] ≡ in_parts other [] = sym (all_parts rule) ∙ classes ∙ all_parts other in
    let (source, behind) = same_statements _ _ rule.source other.source _ _ sources parts in
    let (target, behind') = same_statements _ _ rule.target other.target _ _ targets behind in
    let (constant, behind'') = terms_same _ _ rule.terms other.terms _ _ terms behind' in
    let (choice, _) = terms_same _ _ rule.witness_terms other.witness_terms [] [] witness behind'' in
    let names : rule.name ≡ other.name = ap (λ (r : Rule). r.name) e in
    let inputs : rule.inputs ≡ other.inputs = ap (λ (r : Rule). r.inputs) e in
    let constants : rule.constants ≡ other.constants = ap (λ (r : Rule). r.constants) e in
    let precondition : rule.precondition ≡ other.precondition = ap (λ (r : Rule). r.precondition) e in
    let witnesses : rule.witnesses ≡ other.witnesses = ap (λ (r : Rule). r.witnesses) e in
    let same : ◌≡◌ {A = Rule} (record { name = rule.name; inputs = rule.inputs; constants = rule.constants; source = rule.source; target = rule.target; terms = rule.terms; precondition = rule.precondition; witness_terms = rule.witness_terms; witnesses = rule.witnesses })
    (record { name = other.name; inputs = other.inputs; constants = other.constants; source = other.source; target = other.target; terms = other.terms; precondition = other.precondition; witness_terms = other.witness_terms; witnesses = other.witnesses }) = cc in
    same

-- so a rule as written means one rule with its classes
pub one_rule : (raw : RawRule) (rule other : Rule) → IsBound raw → Means raw rule → IsClassified rule → Means raw other → IsClassified other → rule ≡ other
one_rule raw rule other bound p one q two = one_classified rule other (one_meaning raw rule other bound p q) one two
