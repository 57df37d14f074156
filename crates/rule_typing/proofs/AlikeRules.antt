-- What makes a rule an `IsRule` doesn't speak of its classes: of two rules that differ in nothing else, the second is
-- one where the first is.
use Rattle.rule_typing.proofs.Common.{◌≡◌, ℕ, suc, ◌≤◌, List, [], ◌∷◌, ◌++◌, length, map, Some, refl, sym, ap, subst, ◌∙◌, arith, slice_get, Contains, flat_map, sum_by, range_with_len, sum_by-cons, length-map, map-append, Rule, Statement, Op, Binary, Compare, Unary, Select, Convert, Freeze, Copy, Operand, Argument, Choice, Register, Term, Node, Formula, operands_of, operands_among, operands_in, terms_in, choices_among, IsRule, SourceMayRead, TargetMayRead, IsBeforeRoot, HasKnownWidth, MayBeTerm, MayBeWitness, MayBeFormula, FlagsFitOp, MayStandInSource, ReadsNoUndefAlone, ChoicesInOrder, TargetMayMeasure, FormulaMayMeasure, argument_weight, node_weight, term_weight, formula_weight, weight_of, names_of, ReadsOnly, StandsAt, AreDistinct, joint_of, OuterIsOutermost, IsOperandOf, StandsIn, NamesWidth, OwnsOperands, AreLastNodes, mapped_op, mapped_statement, mapped_node, mapped_term}
use Rattle.rule_core.specs.declared.rule.Argument.TheVariants as arguments
use Rattle.rule_core.specs.declared.rule.Register.TheVariants as registers
use Rattle.rule_core.specs.declared.rule.Node.TheVariants as nodes
use Rattle.rule_core.specs.declared.rule.Formula.TheVariants as formulas
use Rattle.rule_core.specs.TermNodes.{itself, operand}
use Rattle.rule_typing.proofs.Images.{map-map, same_get, same_among}
use Rattle.rule_typing.proofs.Relabelled.{AreAlike, mapped_operand, mapped_choice, operands-mapped_op, operands-mapped, choices-mapped}

-- a statement with class 0 throughout: two that differ in nothing but classes are equal so
abbrev pub bare_statement : Statement → Statement
bare_statement s = mapped_statement (λ c. 0) s

abbrev pub HalvesAlike : List Statement → List Statement → Type 0
HalvesAlike xs ys = map bare_statement xs ≡ map bare_statement ys

abbrev pub bare_operand : Operand → Operand
bare_operand o = mapped_operand (λ c. 0) o

same_length : {X Y : Type 0} (f : X → Y) (xs ys : List X) → map f xs ≡ map f ys → length xs ≡ length ys
same_length f xs ys same = sym (length-map xs f) ∙ ap length same ∙ length-map ys f

names-bare : (xs : List Statement) → names_of (map bare_statement xs) ≡ names_of xs
names-bare [] = refl
names-bare (s ∷ xs) = ap (λ l. s.name ∷ l) (names-bare xs)

same_names : (xs ys : List Statement) → HalvesAlike xs ys → names_of xs ≡ names_of ys
same_names xs ys same = sym (names-bare xs) ∙ ap names_of same ∙ names-bare ys

same_operands : (xs ys : List Statement) → HalvesAlike xs ys → map bare_operand (flat_map (λ s. operands_of s.op) xs) ≡ map bare_operand (flat_map (λ s. operands_of s.op) ys)
same_operands xs ys same = sym (operands-mapped (λ c. 0) xs) ∙ ap (flat_map (λ (s : Statement). operands_of s.op)) same ∙ operands-mapped (λ c. 0) ys

same_operands_of : (s t : Statement) → bare_statement s ≡ bare_statement t → map bare_operand (operands_of s.op) ≡ map bare_operand (operands_of t.op)
same_operands_of s t same = sym (operands-mapped_op (λ c. 0) s.op) ∙ ap (λ (x : Statement). operands_of x.op) same ∙ operands-mapped_op (λ c. 0) t.op

source_op : (rule : Rule) (k : ℕ) (f : ℕ → ℕ) (op : Op) → MayStandInSource rule k (mapped_op f op) ≡ MayStandInSource rule k op
source_op rule k f (Binary op flags a b) = refl
source_op rule k f (Compare pred samesign a b) = refl
source_op rule k f (Unary op truth a) = refl
source_op rule k f (Select z a b) = refl
source_op rule k f (Convert cast flags a to) = refl
source_op rule k f (Freeze a j) = refl
source_op rule k f (Copy a) = refl

flags_op : (f : ℕ → ℕ) (op : Op) → FlagsFitOp (mapped_op f op) ≡ FlagsFitOp op
flags_op f (Binary op flags a b) = refl
flags_op f (Compare pred samesign a b) = refl
flags_op f (Unary op truth a) = refl
flags_op f (Select z a b) = refl
flags_op f (Convert cast flags a to) = refl
flags_op f (Freeze a j) = refl
flags_op f (Copy a) = refl

-- what is said of each operation and its place, and doesn't depend on classes, carries over from one half to the other
ops_carry : (May May' : ℕ → Op → Type 0) → ((k : ℕ) (f : ℕ → ℕ) (op : Op) → May k (mapped_op f op) ≡ May k op) → ((k : ℕ) (op : Op) → May k op → May' k op) → (xs ys : List Statement) → HalvesAlike xs ys
    → ((k : ℕ) (s : Statement) → slice_get xs k ≡ Some s → May k s.op) → (k : ℕ) (s : Statement) → slice_get ys k ≡ Some s → May' k s.op
ops_carry May May' blind weaker xs ys same holds k t at =
    let (s, there, e) = same_get bare_statement xs ys k t same at in
    let across : May k s.op ≡ May k t.op = sym (blind k (λ c. 0) s.op) ∙ ap (λ (x : Statement). May k x.op) e ∙ blind k (λ c. 0) t.op in
    weaker k t.op (subst (λ X. X) across (holds k s there))

-- likewise what is said of each operation alone
carries : (P : Op → Type 0) → ((f : ℕ → ℕ) (op : Op) → P (mapped_op f op) ≡ P op) → (xs ys : List Statement) → HalvesAlike xs ys
    → ((k : ℕ) (s : Statement) → slice_get xs k ≡ Some s → P s.op) → (k : ℕ) (s : Statement) → slice_get ys k ≡ Some s → P s.op
carries P blind xs ys same holds = ops_carry (λ k. P) (λ k. P) (λ k. blind) (λ k op may. may) xs ys same holds

-- likewise what is said of the arguments of operands
reads_carry : (May May' : ℕ → Argument → Type 0) → ((k : ℕ) (v : Argument) → May k v → May' k v) → (xs ys : List Statement) → HalvesAlike xs ys → ReadsOnly May xs → ReadsOnly May' ys
reads_carry May May' weaker xs ys same holds k t o at among =
    let (s, there, e) = same_get bare_statement xs ys k t same at in
    let (o', among', e') = same_among bare_operand (operands_of s.op) (operands_of t.op) o (same_operands_of s t e) among in
    let values : o'.value ≡ o.value = ap (λ (x : Operand). x.value) (sym e') in
    weaker k o.value (subst (May k) values (holds k s o' there among'))

stands_at : (r s : Rule) → AreAlike r s → (q : ℕ) (argument : Argument) → StandsAt r q argument → StandsAt s q argument
stands_at r s same q argument (o, at, is) =
    let halves : HalvesAlike s.source r.source = ap (λ (x : Rule). x.source) (sym same) in
    let (o', at', e) = same_get bare_operand (operands_among s.source) (operands_among r.source) q o (same_operands s.source r.source halves) at in
    (o', at', ap (λ (x : Operand). x.value) e ∙ is)

copies_op : (f : ℕ → ℕ) (op : Op) → ReadsNoUndefAlone (mapped_op f op) ≡ ReadsNoUndefAlone op
copies_op f (Binary op flags a b) = refl
copies_op f (Compare pred samesign a b) = refl
copies_op f (Unary op truth a) = refl
copies_op f (Select z a b) = refl
copies_op f (Convert cast flags a to) = refl
copies_op f (Freeze a j) = refl
copies_op f (Copy a) = refl

-- sums and lists over elements are those over their images, where each element and its image give the same
sum_image : {X : Type 0} (weight : X → ℕ) (g : X → X) → ((x : X) → weight (g x) ≡ weight x) → (xs : List X) → sum_by weight (map g xs) ≡ sum_by weight xs
sum_image weight g same [] = refl
sum_image weight g same (x ∷ xs) = sum_by-cons weight (g x) (map g xs) ∙ omega (arith, same x, sum_image weight g same xs, sum_by-cons weight x xs)

same_sum : {X : Type 0} (weight : X → ℕ) (g : X → X) → ((x : X) → weight (g x) ≡ weight x) → (xs ys : List X) → map g xs ≡ map g ys → sum_by weight xs ≡ sum_by weight ys
same_sum weight g same xs ys alike = sym (sum_image weight g same xs) ∙ ap (sum_by weight) alike ∙ sum_image weight g same ys

-- a choice with class 0
abbrev pub bare_choice : Choice → Choice
bare_choice choice = mapped_choice (λ c. 0) choice

abbrev places : List Choice → List ℕ
places choices = map (λ c. c.place) choices

same_choices : (xs ys : List Statement) → HalvesAlike xs ys → map bare_choice (choices_among xs) ≡ map bare_choice (choices_among ys)
same_choices xs ys same = sym (choices-mapped (λ c. 0) xs) ∙ ap choices_among same ∙ choices-mapped (λ c. 0) ys

count_choices : (xs ys : List Statement) → HalvesAlike xs ys → length (choices_among xs) ≡ length (choices_among ys)
count_choices xs ys same = same_length bare_choice (choices_among xs) (choices_among ys) (same_choices xs ys same)

same_places : (xs ys : List Statement) → HalvesAlike xs ys → places (choices_among xs) ≡ places (choices_among ys)
same_places xs ys same =
    sym (map-map (λ (c : Choice). c.place) bare_choice (choices_among xs)) ∙ ap places (same_choices xs ys same) ∙ map-map (λ (c : Choice). c.place) bare_choice (choices_among ys)

in_order_too : (xs ys : List Statement) → HalvesAlike xs ys → ChoicesInOrder xs → ChoicesInOrder ys
in_order_too xs ys same order = sym (same_places xs ys same) ∙ order ∙ ap (range_with_len 0) (count_choices xs ys same)

-- a node with class 0
abbrev pub bare_term : Term → Term
bare_term t = mapped_term (λ c. 0) t

node_weighs : (f : ℕ → ℕ) (node : Node) → node_weight (mapped_node f node) ≡ node_weight node
node_weighs f (nodes.Literal z) = refl
node_weighs f (nodes.Constant k) = refl
node_weighs f (nodes.Register r) = refl
node_weighs f (nodes.Choice k) = refl
node_weighs f (nodes.Width r c) = refl
node_weighs f (nodes.Unary function a) = refl
node_weighs f (nodes.Binary op a b) = refl

may_be_term : (rule : Rule) (n : ℕ) (f : ℕ → ℕ) (node : Node) → MayBeTerm rule n (mapped_node f node) ≡ MayBeTerm rule n node
may_be_term rule n f (nodes.Literal z) = refl
may_be_term rule n f (nodes.Constant k) = refl
may_be_term rule n f (nodes.Register r) = refl
may_be_term rule n f (nodes.Choice k) = refl
may_be_term rule n f (nodes.Width r c) = refl
may_be_term rule n f (nodes.Unary function a) = refl
may_be_term rule n f (nodes.Binary op a b) = refl

may_be_witness : (rule : Rule) (n : ℕ) (f : ℕ → ℕ) (node : Node) → MayBeWitness rule n (mapped_node f node) ≡ MayBeWitness rule n node
may_be_witness rule n f (nodes.Literal z) = refl
may_be_witness rule n f (nodes.Constant k) = refl
may_be_witness rule n f (nodes.Register r) = refl
may_be_witness rule n f (nodes.Choice k) = refl
may_be_witness rule n f (nodes.Width r c) = refl
may_be_witness rule n f (nodes.Unary function a) = refl
may_be_witness rule n f (nodes.Binary op a b) = refl

nodes_carry : (May May' : ℕ → Node → Type 0) → ((n : ℕ) (f : ℕ → ℕ) (node : Node) → May n (mapped_node f node) ≡ May n node) → ((n : ℕ) (node : Node) → May n node → May' n node) → (xs ys : List Term) → map bare_term xs ≡ map bare_term ys
    → ((n : ℕ) (t : Term) → slice_get xs n ≡ Some t → May n t.node) → (n : ℕ) (t : Term) → slice_get ys n ≡ Some t → May' n t.node
nodes_carry May May' blind weaker xs ys same holds n t at =
    let (s, there, e) = same_get bare_term xs ys n t same at in
    let across : May n s.node ≡ May n t.node = sym (blind n (λ c. 0) s.node) ∙ ap (λ (x : Term). May n x.node) e ∙ blind n (λ c. 0) t.node in
    weaker n t.node (subst (λ X. X) across (holds n s there))

-- which nodes are in a term, and the widths that it names, don't depend on classes
operand_blind : (a : ℕ) (f : ℕ → ℕ) (node : Node) → IsOperandOf a (mapped_node f node) ≡ IsOperandOf a node
operand_blind a f (nodes.Literal z) = refl
operand_blind a f (nodes.Constant k) = refl
operand_blind a f (nodes.Register r) = refl
operand_blind a f (nodes.Choice k) = refl
operand_blind a f (nodes.Width r c) = refl
operand_blind a f (nodes.Unary function b) = refl
operand_blind a f (nodes.Binary op b c) = refl

operand_across : (a : ℕ) (s t : Term) → bare_term s ≡ bare_term t → IsOperandOf a s.node → IsOperandOf a t.node
operand_across a s t e = let across : IsOperandOf a s.node ≡ IsOperandOf a t.node = sym (operand_blind a (λ c. 0) s.node) ∙ ap (λ (x : Term). IsOperandOf a x.node) e ∙ operand_blind a (λ c. 0) t.node in subst (λ X. X) across

measured : (node : Node) (r : Register) (c : ℕ) → nodes.Width r c ≡ mapped_node (λ c. 0) node → (d : ℕ) × (node ≡ nodes.Width r d)
measured (nodes.Width x d) r c e = (d, let same : r ≡ x = cc in ap (λ y. nodes.Width y d) (sym same))
measured (nodes.Literal z) r c e = absurd cc
measured (nodes.Constant k) r c e = absurd cc
measured (nodes.Register x) r c e = absurd cc
measured (nodes.Choice k) r c e = absurd cc
measured (nodes.Unary function a) r c e = absurd cc
measured (nodes.Binary op a b) r c e = absurd cc

module _ (xs ys : List Term) (same : map bare_term xs ≡ map bare_term ys) where
  stands_across : (m n : ℕ) → StandsIn ys m n → StandsIn xs m n
  stands_across m n itself = itself
  stands_across m n (operand a t at is more) =
      let (s, there, e) = same_get bare_term xs ys n t same at in
      operand a s there (operand_across a t s (sym e) is) (stands_across m a more)

  names_across : (n : ℕ) (r : Register) → NamesWidth ys n r → NamesWidth xs n r
  names_across n r (m, c, t, stands, at, is) =
      let (s, there, e) = same_get bare_term xs ys m t same at in
      let width : nodes.Width r 0 ≡ mapped_node (λ c. 0) s.node = ap (mapped_node (λ c. 0)) (sym is) ∙ ap (λ (x : Term). x.node) (sym e) in
      let (d, found) = measured s.node r 0 width in
      (m, d, s, stands_across m n stands, there, found)

  owns_across : (first last : ℕ) → OwnsOperands xs first last → OwnsOperands ys first last
  owns_across first last owns n a t from to at is =
      let (s, there, e) = same_get bare_term xs ys n t same at in
      owns n a s from to there (operand_across a t s (sym e) is)

  last_nodes_across : (first : ℕ) (ends : List ℕ) → AreLastNodes xs first ends → AreLastNodes ys first ends
  last_nodes_across first [] are = are ∙ same_length bare_term xs ys same
  last_nodes_across first (last ∷ ends) (le, owns, more) = (le, owns_across first last owns, last_nodes_across (suc last) ends more)

-- What may be read in the one rule may be read in the other, where both have as many inputs, constants, statements,
-- nodes and choices.
module _ (r s : Rule) (inputs : length r.inputs ≡ length s.inputs) (constants : length r.constants ≡ length s.constants) (source : length r.source ≡ length s.source) (target : length r.target ≡ length s.target)
    (terms : length r.terms ≡ length s.terms) (choices : length (choices_among r.target) ≡ length (choices_among s.target)) where
  source_reads : (k : ℕ) (v : Argument) → SourceMayRead r k v → SourceMayRead s k v
  source_reads k (arguments.Register (registers.Input i)) may = omega arith
  source_reads k (arguments.Register (registers.Source j)) may = may
  source_reads k (arguments.Register (registers.Target j)) may = may
  source_reads k (arguments.Literal z) may = may
  source_reads k (arguments.Truth b) may = may
  source_reads k (arguments.Constant j) may = omega arith
  source_reads k (arguments.Undef j) may = omega arith
  source_reads k (arguments.Term n) may = may

  target_reads : (k : ℕ) (v : Argument) → TargetMayRead r k v → TargetMayRead s k v
  target_reads k (arguments.Register (registers.Input i)) may = omega arith
  target_reads k (arguments.Register (registers.Source j)) may = omega arith
  target_reads k (arguments.Register (registers.Target j)) may = may
  target_reads k (arguments.Literal z) may = may
  target_reads k (arguments.Truth b) may = may
  target_reads k (arguments.Constant j) may = omega arith
  target_reads k (arguments.Undef j) may = may
  target_reads k (arguments.Term n) may = omega arith

  target_measures : ((n : ℕ) (x : Register) → NamesWidth s.terms n x → NamesWidth r.terms n x) → (k : ℕ) (v : Argument) → TargetMayMeasure r k v → TargetMayMeasure s k v
  target_measures across k (arguments.Term n) may = λ x names. target_reads k (arguments.Register x) (may x (across n x names))
  target_measures across k v may = tt

  before_root : (x : Register) → IsBeforeRoot r x → IsBeforeRoot s x
  before_root (registers.Input i) may = omega arith
  before_root (registers.Source j) may = omega arith
  before_root (registers.Target j) may = may

  formula_measures : ((n : ℕ) (x : Register) → NamesWidth s.terms n x → NamesWidth r.terms n x) → (f : Formula) → FormulaMayMeasure r f → FormulaMayMeasure s f
  formula_measures across (formulas.Compare pred a b) may = ((λ x names. before_root x (may.0 x (across a x names))), λ x names. before_root x (may.1 x (across b x names)))
  formula_measures across (formulas.IsPowerOfTwo a) may = λ x names. before_root x (may x (across a x names))
  formula_measures across (formulas.IsSignBit a) may = λ x names. before_root x (may x (across a x names))
  formula_measures across (formulas.MaskedValueIsZero y a) may = λ x names. before_root x (may x (across a x names))
  formula_measures across f may = tt

  source_ops : (k : ℕ) (op : Op) → MayStandInSource r k op → MayStandInSource s k op
  source_ops k (Freeze a j) may = omega arith
  source_ops k (Copy a) may = may
  source_ops k op may = tt

  has_width : (x : Register) → HasKnownWidth r x → HasKnownWidth s x
  has_width (registers.Input i) may = omega arith
  has_width (registers.Source j) may = omega arith
  has_width (registers.Target j) may = omega arith

  as_term : (n : ℕ) (node : Node) → MayBeTerm r n node → MayBeTerm s n node
  as_term n (nodes.Literal z) may = may
  as_term n (nodes.Constant k) may = omega arith
  as_term n (nodes.Register x) may = may
  as_term n (nodes.Choice k) may = may
  as_term n (nodes.Width x c) may = has_width x may
  as_term n (nodes.Unary function a) may = may
  as_term n (nodes.Binary op a b) may = may

  as_witness : (n : ℕ) (node : Node) → MayBeWitness r n node → MayBeWitness s n node
  as_witness n (nodes.Literal z) may = may
  as_witness n (nodes.Constant k) may = omega arith
  as_witness n (nodes.Register x) may = before_root x may
  as_witness n (nodes.Choice k) may = omega arith
  as_witness n (nodes.Width x c) may = before_root x may
  as_witness n (nodes.Unary function a) may = may
  as_witness n (nodes.Binary op a b) may = may

  as_formula : (n : ℕ) (f : Formula) → MayBeFormula r n f → MayBeFormula s n f
  as_formula n (formulas.Compare pred a b) (left, right) = (omega arith, omega arith)
  as_formula n (formulas.IsPowerOfTwo a) may = omega arith
  as_formula n (formulas.IsSignBit a) may = omega arith
  as_formula n (formulas.HasOneUse j) may = omega arith
  as_formula n (formulas.MaskedValueIsZero x a) (known, there) = (before_root x known, omega arith)
  as_formula n (formulas.IsKnownNonZero x) may = before_root x may
  as_formula n (formulas.Not a) may = may
  as_formula n (formulas.And a b) may = may
  as_formula n (formulas.Or a b) may = may

pub IsRule-alike : (r s : Rule) → AreAlike r s → IsRule r → IsRule s
IsRule-alike r s same checked =
    let name : r.name ≡ s.name = ap (λ (x : Rule). x.name) same in
    let inputs : r.inputs ≡ s.inputs = ap (λ (x : Rule). x.inputs) same in
    let constants : r.constants ≡ s.constants = ap (λ (x : Rule). x.constants) same in
    let source : HalvesAlike r.source s.source = ap (λ (x : Rule). x.source) same in
    let target : HalvesAlike r.target s.target = ap (λ (x : Rule). x.target) same in
    let sources : length r.source ≡ length s.source = same_length bare_statement r.source s.source source in
    let targets : length r.target ≡ length s.target = same_length bare_statement r.target s.target target in
    let source_names = same_names r.source s.source source in
    let target_names = same_names r.target s.target target in
    let counts : length r.inputs ≡ length s.inputs = ap length inputs in
    let halves : HalvesAlike (r.source ++ r.target) (s.source ++ s.target)
    = map-append bare_statement r.source r.target ∙ ap (λ l. l ++ map bare_statement r.target) source ∙ ap (λ l. map bare_statement s.source ++ l) target ∙ sym (map-append bare_statement s.source s.target) in
    let operands : map bare_operand (operands_in r) ≡ map bare_operand (operands_in s) = same_operands (r.source ++ r.target) (s.source ++ s.target) halves in
    let terms : map bare_term r.terms ≡ map bare_term s.terms = ap (λ (x : Rule). x.terms) same in
    let witness_terms : map bare_term r.witness_terms ≡ map bare_term s.witness_terms = ap (λ (x : Rule). x.witness_terms) same in
    let all_terms : map bare_term (terms_in r) ≡ map bare_term (terms_in s)
    = map-append bare_term r.terms r.witness_terms ∙ ap (λ l. l ++ map bare_term r.witness_terms) terms ∙ ap (λ l. map bare_term s.terms ++ l) witness_terms ∙ sym (map-append bare_term s.terms s.witness_terms) in
    let precondition : r.precondition ≡ s.precondition = ap (λ (x : Rule). x.precondition) same in
    let witnesses : r.witnesses ≡ s.witnesses = ap (λ (x : Rule). x.witnesses) same in
    let constant_counts : length r.constants ≡ length s.constants = ap length constants in
    let term_counts : length r.terms ≡ length s.terms = same_length bare_term r.terms s.terms terms in
    let source_counts : length (choices_among r.source) ≡ length (choices_among s.source) = count_choices r.source s.source source in
    let choice_counts : length (choices_among r.target) ≡ length (choices_among s.target) = count_choices r.target s.target target in
    let weights : weight_of r ≡ weight_of s
    = let first = same_sum (λ (o : Operand). argument_weight o.value) bare_operand (λ o. refl) (operands_in r) (operands_in s) operands in
    let second = same_sum term_weight bare_term (λ t. node_weighs (λ c. 0) t.node) (terms_in r) (terms_in s) all_terms in
    let third = ap (sum_by formula_weight) precondition in
    omega (arith, first, second, third) in
    record {
      few_in_source = omega (arith, checked.few_in_source);
      few_in_target = omega (arith, checked.few_in_target);
      few_nodes = omega (arith, weights, checked.few_nodes);
      short_name = subst (λ n. length n ≤ 200) name checked.short_name;
      short_inputs = subst (λ l. (n : List ℕ) → Contains l n → length n ≤ 200) inputs checked.short_inputs;
      short_constants = subst (λ l. (n : List ℕ) → Contains l n → length n ≤ 200) constants checked.short_constants;
      short_in_source = subst (λ l. (n : List ℕ) → Contains l n → length n ≤ 200) source_names checked.short_in_source;
      short_in_target = subst (λ l. (n : List ℕ) → Contains l n → length n ≤ 200) target_names checked.short_in_target;
      source_names = subst AreDistinct source_names checked.source_names;
      target_names = subst AreDistinct target_names checked.target_names;
      source_reads = reads_carry (SourceMayRead r) (SourceMayRead s) (source_reads r s counts constant_counts sources targets term_counts choice_counts) r.source s.source source checked.source_reads;
      target_reads = reads_carry (TargetMayRead r) (TargetMayRead s) (target_reads r s counts constant_counts sources targets term_counts choice_counts) r.target s.target target checked.target_reads;
      inputs_distinct = subst AreDistinct inputs checked.inputs_distinct;
      inputs_not_assigned = λ n among assigned. checked.inputs_not_assigned n (subst (λ l. Contains l n) (sym inputs) among) (subst (λ l. Contains l n) (sym source_names) assigned);
      inputs_read = λ i within. let h = checked.inputs_read i (omega arith) in (h.0, stands_at r s same h.0 (arguments.Register (registers.Input i)) h.1);
      inputs_in_order = λ h i q less at. let e = checked.inputs_in_order h i q less (stands_at s r (sym same) q (arguments.Register (registers.Input i)) at) in (e.0, e.1, stands_at r s same e.0 (arguments.Register (registers.Input h)) e.2);
      constants_distinct = subst AreDistinct constants checked.constants_distinct;
      constants_read = λ k within. let h = checked.constants_read k (omega arith) in (h.0, stands_at r s same h.0 (arguments.Constant k) h.1);
      constants_in_order = λ h k q less at. let e = checked.constants_in_order h k q less (stands_at s r (sym same) q (arguments.Constant k) at) in (e.0, e.1, stands_at r s same e.0 (arguments.Constant h) e.2);
      terms = nodes_carry (MayBeTerm r) (MayBeTerm s) (may_be_term r) (as_term r s counts constant_counts sources targets term_counts choice_counts) r.terms s.terms terms checked.terms;
      witness_terms = nodes_carry (MayBeWitness r) (MayBeWitness s) (may_be_witness r) (as_witness r s counts constant_counts sources targets term_counts choice_counts) r.witness_terms s.witness_terms witness_terms checked.witness_terms;
      precondition = λ n f at. as_formula r s counts constant_counts sources targets term_counts choice_counts n f (checked.precondition n f (subst (λ l. slice_get l n ≡ Some f) (sym precondition) at));
      target_widths = reads_carry (TargetMayMeasure r) (TargetMayMeasure s) (target_measures r s counts constant_counts sources targets term_counts choice_counts (names_across r.terms s.terms terms)) r.target s.target target checked.target_widths;
      precondition_widths = λ n f at. formula_measures r s counts constant_counts sources targets term_counts choice_counts (names_across r.terms s.terms terms) f (checked.precondition_widths n f (subst (λ l. slice_get l n ≡ Some f) (sym precondition) at));
      source_root = omega (arith, checked.source_root);
      target_root = omega (arith, checked.target_root);
      root = λ j k u v last at last' at'.
          let (u', there, e) = same_get bare_statement r.source s.source j u source at in
          let (v', there', e') = same_get bare_statement r.target s.target k v target at' in
          ap (λ (x : Statement). x.name) (sym e') ∙ checked.root j k u' v' (omega arith) there (omega arith) there' ∙ ap (λ (x : Statement). x.name) e;
      inputs_stay = λ n among assigned. checked.inputs_stay n (subst (λ l. Contains l n) (sym inputs) among) (subst (λ l. Contains l n) (sym target_names) assigned);
      temporaries_stay = λ j u less at assigned.
          let (u', there, e) = same_get bare_statement r.source s.source j u source at in
          checked.temporaries_stay j u' (omega arith) there (subst (λ l. Contains l u'.name) (sym target_names) (subst (λ n. Contains (names_of s.target) n) (ap (λ (x : Statement). x.name) (sym e)) assigned));
      temporaries_read = λ j less. let h = checked.temporaries_read j (omega arith) in (h.0, stands_at r s same h.0 (arguments.Register (registers.Source j)) h.1);
      outer = subst (λ l. OuterIsOutermost (map joint_of l)) precondition checked.outer;
      source_ops = ops_carry (MayStandInSource r) (MayStandInSource s) (source_op r) (source_ops r s counts constant_counts sources targets term_counts choice_counts) r.source s.source source checked.source_ops;
      source_flags = carries FlagsFitOp flags_op r.source s.source source checked.source_flags;
      target_flags = carries FlagsFitOp flags_op r.target s.target target checked.target_flags;
      source_choices = in_order_too r.source s.source source checked.source_choices;
      target_choices = in_order_too r.target s.target target checked.target_choices;
      source_undefs = carries ReadsNoUndefAlone copies_op r.source s.source source checked.source_undefs;
      target_undefs = carries ReadsNoUndefAlone copies_op r.target s.target target checked.target_undefs;
      witnesses = sym (ap length witnesses) ∙ checked.witnesses ∙ source_counts;
      witnesses_there = λ k n at. let less = checked.witnesses_there k n (subst (λ l. slice_get l k ≡ Some n) (sym witnesses) at) in omega (arith, same_length bare_term r.witness_terms s.witness_terms witness_terms);
      witnesses_last = subst (AreLastNodes s.witness_terms 0) witnesses (last_nodes_across r.witness_terms s.witness_terms witness_terms 0 r.witnesses checked.witnesses_last);
    }
