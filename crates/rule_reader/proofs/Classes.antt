-- Rules that differ in nothing but their classes have one meaning, and the numbers of classes are determined.
use Rattle.rule_reader.proofs.Common.{◌≡◌, ℕ, ◌+◌, List, [], ◌∷◌, length, sym, ap, subst, ◌∙◌, AllZip, RawRule, RawStatement, RawOp, RawOperand, RawNode, Rule, Statement, Op, Operand, Node, classes_of_statement, classes_of_term, numbered_op, numbered_statement, numbered_statements, numbered_node, numbered_term, numbered_terms, numbered, Names, Counts, terms_of, expressions_of, formula_of, past, past_all, counted_of, no_counts, with_counts, with_nodes, AreNames, ArgumentMeans, OperandMeans, OpMeans, StatementMeans, NodeMeans, PreconditionMeans, HalfMeans, TermsMean, Means, names_of_rule}
use Rattle.rule_parse.specs.declared.raw.RawOp.TheVariants as raw_ops
use Rattle.rule_terms.specs.declared.raw.RawNode.TheVariants as raw_nodes
use Rattle.rule_core.specs.declared.rule.Op.TheVariants as ops
use Rattle.rule_core.specs.declared.rule.Register.{Register}
use Rattle.rule_core.specs.declared.rule.Term.{Term}
use Rattle.rule_core.specs.declared.rule.Node.TheVariants as nodes

-- an operand with this class in place of its own
abbrev with_class : Operand → ℕ → Operand
with_class a n = record a { class = n }

module _ (raw : RawRule) (names : Names) where
  -- operands that differ in nothing but their classes mean the same
  same_operand : (u : Counts) (w : RawOperand) (a b : Operand) (m n : ℕ) → with_class a m ≡ with_class b n → OperandMeans raw names u w a → OperandMeans raw names u w b
  same_operand u w a b m n e means =
      (sym (ap (λ (z : Operand). z.written) e) ∙ means.0, subst (ArgumentMeans raw names u w.value) (ap (λ (z : Operand). z.value) e) means.1)

  same_op : (u : Counts) (m n : ℕ) (w : RawOp) (p q : Op) → numbered_op m p ≡ numbered_op n q → OpMeans raw names u w p → OpMeans raw names u w q
  same_op u m n (raw_ops.Binary op flags a b) (ops.Binary o f x y) (ops.Binary o' f' x' y') e means =
      let opcodes : o ≡ o' = cc in
      let flags : f ≡ f' = cc in
      (sym opcodes ∙ means.0, sym flags ∙ means.1, same_operand u a x x' m n (cc) means.2, same_operand (past u a.value) b y y' (m + 1) (n + 1) (cc) means.3)
  same_op u m n (raw_ops.Compare pred samesign a b) (ops.Compare o s x y) (ops.Compare o' s' x' y') e means =
      let predicates : o ≡ o' = cc in
      let signs : s ≡ s' = cc in
      (sym predicates ∙ means.0, sym signs ∙ means.1, same_operand u a x x' m n (cc) means.2, same_operand (past u a.value) b y y' (m + 1) (n + 1) (cc) means.3)
  same_op u m n (raw_ops.Unary op truth a) (ops.Unary o t x) (ops.Unary o' t' x') e means =
      let intrinsics : o ≡ o' = cc in
      let truths : t ≡ t' = cc in
      (sym intrinsics ∙ means.0, sym truths ∙ means.1, same_operand u a x x' m n (cc) means.2)
  same_op u m n (raw_ops.Select c a b) (ops.Select z x y) (ops.Select z' x' y') e means =
      (same_operand u c z z' m n (cc) means.0, same_operand (past u c.value) a x x' (m + 1) (n + 1) (cc) means.1, same_operand (past (past u c.value) a.value) b y y' (m + 2) (n + 2) (cc) means.2)
  same_op u m n (raw_ops.Convert cast flags a to) (ops.Convert o f x t) (ops.Convert o' f' x' t') e means =
      let casts : o ≡ o' = cc in
      let same_flags : f ≡ f' = cc in
      let types : t ≡ t' = cc in
      (sym casts ∙ means.0, sym same_flags ∙ means.1, same_operand u a x x' m n (cc) means.2, sym types ∙ means.3)
  same_op u m n (raw_ops.Freeze a) (ops.Freeze x j) (ops.Freeze x' j') e means =
      let places : j ≡ j' = cc in
      (same_operand u a x x' m n (cc) means.0, sym places ∙ means.1)
  same_op u m n (raw_ops.Copy a) (ops.Copy x) (ops.Copy x') e means = same_operand u a x x' m n (cc) means
  same_op u m n (raw_ops.Binary op flags a b) (ops.Binary o f x y) q e means = absurd (cc)
  same_op u m n (raw_ops.Compare pred samesign a b) (ops.Compare o s x y) q e means = absurd (cc)
  same_op u m n (raw_ops.Unary op truth a) (ops.Unary o t x) q e means = absurd (cc)
  same_op u m n (raw_ops.Select c a b) (ops.Select z x y) q e means = absurd (cc)
  same_op u m n (raw_ops.Convert cast flags a to) (ops.Convert o f x t) q e means = absurd (cc)
  same_op u m n (raw_ops.Freeze a) (ops.Freeze x j) q e means = absurd (cc)
  same_op u m n (raw_ops.Copy a) (ops.Copy x) q e means = absurd (cc)
  same_op u m n w p q e means = absurd means

  abbrev From : Counts → List RawStatement → List Statement → Type 0
  From u ws ss = AllZip (λ w s. StatementMeans raw names w.0 w.1 s) (with_counts u ws) ss

  same_statements : (u : Counts) (m n : ℕ) (ws : List RawStatement) (ss ts : List Statement) → numbered_statements m ss ≡ numbered_statements n ts → From u ws ss → From u ws ts
  same_statements u m n [] [] [] e all = tt
  same_statements u m n [] [] (t ∷ ts) e all = absurd (cc)
  same_statements u m n [] (s ∷ ss) ts e all = absurd all
  same_statements u m n (w ∷ ws) [] ts e all = absurd all
  same_statements u m n (w ∷ ws) (s ∷ ss) [] e all = absurd (cc)
  same_statements u m n (w ∷ ws) (s ∷ ss) (t ∷ ts) e all =
      let first : numbered_statement m s ≡ numbered_statement n t = cc in
      let rest : numbered_statements (m + length (classes_of_statement s)) ss ≡ numbered_statements (n + length (classes_of_statement t)) ts = cc in
      let name : s.name ≡ t.name = ap (λ (z : Statement). z.name) first in
      let op : numbered_op (m + 1) s.op ≡ numbered_op (n + 1) t.op = ap (λ (z : Statement). z.op) first in
      ((sym name ∙ all.0.0, same_op u (m + 1) (n + 1) w.op s.op t.op op all.0.1), same_statements (past_all u (counted_of w.op)) (m + length (classes_of_statement s)) (n + length (classes_of_statement t)) ws ss ts rest all.1)

  -- the class that `width( )` keeps of its register has no part in what is meant
  any_class : (b : ℕ) (w : RawNode) (r : Register) (c c' : ℕ) → NodeMeans raw names b w (nodes.Width r c) → NodeMeans raw names b w (nodes.Width r c')
  any_class b (raw_nodes.Width name) r c c' means = means
  any_class b w r c c' means = absurd means

  -- nodes that differ in nothing but that class mean the same
  same_node : (b m n : ℕ) (w : RawNode) (x y : Node) → numbered_node m x ≡ numbered_node n y → NodeMeans raw names b w x → NodeMeans raw names b w y
  same_node b m n w (nodes.Literal z) (nodes.Literal z') e means = subst (NodeMeans raw names b w) e means
  same_node b m n w (nodes.Constant k) (nodes.Constant k') e means = subst (NodeMeans raw names b w) e means
  same_node b m n w (nodes.Register r) (nodes.Register r') e means = subst (NodeMeans raw names b w) e means
  same_node b m n w (nodes.Choice k) (nodes.Choice k') e means = subst (NodeMeans raw names b w) e means
  same_node b m n w (nodes.Width r c) (nodes.Width r' c') e means = let same : r ≡ r' = cc in subst (λ q. NodeMeans raw names b w (nodes.Width q c')) same (any_class b w r c c' means)
  same_node b m n w (nodes.Unary f x) (nodes.Unary f' x') e means = subst (NodeMeans raw names b w) e means
  same_node b m n w (nodes.Binary op x y) (nodes.Binary op' x' y') e means = subst (NodeMeans raw names b w) e means
  same_node b m n w x y e means = absurd (cc)

  same_terms : (m n : ℕ) (ws : List (ℕ × RawNode)) (ss ts : List Term) → numbered_terms m ss ≡ numbered_terms n ts → AllZip (λ w t. NodeMeans raw names w.0 w.1 t.node) ws ss → AllZip (λ w t. NodeMeans raw names w.0 w.1 t.node) ws ts
  same_terms m n [] [] [] e all = tt
  same_terms m n [] [] (t ∷ ts) e all = absurd (cc)
  same_terms m n [] (s ∷ ss) ts e all = absurd all
  same_terms m n (w ∷ ws) [] ts e all = absurd all
  same_terms m n (w ∷ ws) (s ∷ ss) [] e all = absurd (cc)
  same_terms m n (w ∷ ws) (s ∷ ss) (t ∷ ts) e all =
      let first : numbered_term m s ≡ numbered_term n t = cc in
      let rest : numbered_terms (m + length (classes_of_term s)) ss ≡ numbered_terms (n + length (classes_of_term t)) ts = cc in
      (same_node w.0 (m + 1) (n + 1) w.1 s.node t.node (ap (λ (z : Term). z.node) first) all.0, same_terms (m + length (classes_of_term s)) (n + length (classes_of_term t)) ws ss ts rest all.1)

-- where two rules differ in nothing but their classes, both are meant by a rule as written, or neither
pub same_meaning : (raw : RawRule) (rule other : Rule) → numbered rule ≡ numbered other → Means raw rule → Means raw other
same_meaning raw rule other e means =
    let inputs : rule.inputs ≡ other.inputs = ap (λ (r : Rule). r.inputs) e in
    let constants : rule.constants ≡ other.constants = ap (λ (r : Rule). r.constants) e in
    let own : names_of_rule rule ≡ names_of_rule other = cc in
    let name : rule.name ≡ other.name = ap (λ (r : Rule). r.name) e in
    let formula : rule.precondition ≡ other.precondition = ap (λ (r : Rule). r.precondition) e in
    let witnesses : rule.witnesses ≡ other.witnesses = ap (λ (r : Rule). r.witnesses) e in
    let names = names_of_rule other in
    record {
      name = sym name ∙ means.name;
      names = subst (AreNames raw.source) own means.names;
      source = same_statements raw names no_counts _ _ raw.source rule.source other.source (ap (λ (r : Rule). r.source) e) (subst (λ i. HalfMeans raw i raw.source rule.source) own means.source);
      target = same_statements raw names no_counts _ _ raw.target rule.target other.target (ap (λ (r : Rule). r.target) e) (subst (λ i. HalfMeans raw i raw.target rule.target) own means.target);
      terms = same_terms raw names _ _ (with_nodes 0 (terms_of raw)) rule.terms other.terms (ap (λ (r : Rule). r.terms) e) (subst (λ i. TermsMean raw i (terms_of raw) rule.terms) own means.terms);
      precondition = subst (PreconditionMeans raw names (formula_of raw)) formula (subst (λ i. PreconditionMeans raw i (formula_of raw) rule.precondition) own means.precondition);
      witness_terms = same_terms raw names _ _ (with_nodes 0 (expressions_of raw)) rule.witness_terms other.witness_terms (ap (λ (r : Rule). r.witness_terms) e) (subst (λ i. TermsMean raw i (expressions_of raw) rule.witness_terms) own means.witness_terms);
      witnesses = sym witnesses ∙ means.witnesses;
    }
