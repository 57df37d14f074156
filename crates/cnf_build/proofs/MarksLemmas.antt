-- Which nodes a pass over the gates, from the last to the first, marks.
use Rattle.cnf_build.proofs.Common.{◌≡◌, ℕ, ◌+◌, ◌<◌, ◌≤◌, ◌⊎◌, true, false, List, length, get_or, set, Some, refl, sym, ap, ◌∙◌, subst, inl, inr, arith, length-set, get_or-set_same, get_or-set_other, slice_get, cases_eq, true≢false, same_Some, Node, Input, Output, Literal, Gate, IsAmong, OperandsAmong, NeededMarks, OutputBelow, OperandsBelow, IsMarked, IsCovered, with_node, with_operands, IsOperand, IsAskedFor, AreNeeded}
use Rattle.aig.specs.declared.literal.Node.TheVariants.{One}
use Rattle.aig.specs.declared.gate.Gate.TheVariants.{And, Xor, Mux}

-- a node of a graph is no gate, or one of the graph's
pub OutputBelow-from_IsAmong : (inputs count : ℕ) (node : Node) → IsAmong inputs count node → OutputBelow count node
OutputBelow-from_IsAmong inputs count One own = tt
OutputBelow-from_IsAmong inputs count (Input k) own = tt
OutputBelow-from_IsAmong inputs count (Output k) own = own

pub OperandsBelow-from_OperandsAmong : (inputs count : ℕ) (gate : Gate) → OperandsAmong inputs count gate → OperandsBelow count gate
OperandsBelow-from_OperandsAmong inputs count (And a b) own =
    (OutputBelow-from_IsAmong inputs count a.node own.0, OutputBelow-from_IsAmong inputs count b.node own.1)
OperandsBelow-from_OperandsAmong inputs count (Xor a b) own =
    (OutputBelow-from_IsAmong inputs count a.node own.0, OutputBelow-from_IsAmong inputs count b.node own.1)
OperandsBelow-from_OperandsAmong inputs count (Mux c a b) own = (
  OutputBelow-from_IsAmong inputs count c.node own.0,
  OutputBelow-from_IsAmong inputs count a.node own.1,
  OutputBelow-from_IsAmong inputs count b.node own.2,
)

OutputBelow-more : (k n : ℕ) → k ≤ n → (node : Node) → OutputBelow k node → OutputBelow n node
OutputBelow-more k n le One own = tt
OutputBelow-more k n le (Input j) own = tt
OutputBelow-more k n le (Output j) own = omega arith

pub OperandsBelow-more : (k n : ℕ) → k ≤ n → (gate : Gate) → OperandsBelow k gate → OperandsBelow n gate
OperandsBelow-more k n le (And a b) own = (OutputBelow-more k n le a.node own.0, OutputBelow-more k n le b.node own.1)
OperandsBelow-more k n le (Xor a b) own = (OutputBelow-more k n le a.node own.0, OutputBelow-more k n le b.node own.1)
OperandsBelow-more k n le (Mux c a b) own =
    (OutputBelow-more k n le c.node own.0, OutputBelow-more k n le a.node own.1, OutputBelow-more k n le b.node own.2)

operand_below : (k : ℕ) (node : Node) (gate : Gate) → OperandsBelow k gate → IsOperand node gate → OutputBelow k node
operand_below k node (And a b) own is =
    elim is [ inl e ↦ subst (OutputBelow k) e own.0 | inr e ↦ subst (OutputBelow k) e own.1 ]
operand_below k node (Xor a b) own is =
    elim is [ inl e ↦ subst (OutputBelow k) e own.0 | inr e ↦ subst (OutputBelow k) e own.1 ]
operand_below k node (Mux c a b) own is =
    elim is [
      | inl e ↦ subst (OutputBelow k) e own.0
      | inr rest ↦ elim rest [ inl e ↦ subst (OutputBelow k) e own.1 | inr e ↦ subst (OutputBelow k) e own.2 ]
    ]

-- the new marks are the old ones and those of these nodes
pub record Adds (nodes : Node → Type 0) (old new : NeededMarks) : Type 0 where
  pub count : length new.gates ≡ length old.gates
  pub kept : (node : Node) → IsMarked old node → IsMarked new node
  pub added : (node : Node) → nodes node → IsCovered new node
  pub only : (node : Node) → IsMarked new node → IsMarked old node ⊎ nodes node

covered_kept : (old new : NeededMarks) → ((node : Node) → IsMarked old node → IsMarked new node) → (node : Node) → IsCovered old node → IsCovered new node
covered_kept old new kept One is = kept One is
covered_kept old new kept (Input k) is = tt
covered_kept old new kept (Output k) is = kept (Output k) is

added_here : (marks : NeededMarks) (node : Node) → OutputBelow (length marks.gates) node → IsCovered (with_node marks node) node
added_here marks One below = refl
added_here marks (Input k) below = tt
added_here marks (Output k) below = get_or-set_same marks.gates k true false below

kept_with : (marks : NeededMarks) (x : Node) → OutputBelow (length marks.gates) x → (node : Node) → IsMarked marks node → IsMarked (with_node marks x) node
kept_with marks One below One is = refl
kept_with marks One below (Input j) is = is
kept_with marks One below (Output j) is = is
kept_with marks (Input k) below node is = is
kept_with marks (Output k) below One is = is
kept_with marks (Output k) below (Input j) is = is
kept_with marks (Output k) below (Output j) is =
    elim (cases_eq j k) [
      | inl e ↦ subst (λ i. get_or (set marks.gates k true) i false ≡ true) (sym e) (get_or-set_same marks.gates k true false below)
      | inr ne ↦ get_or-set_other marks.gates k j true false ne ∙ is
    ]

only_with : (marks : NeededMarks) (x node : Node) → IsMarked (with_node marks x) node → IsMarked marks node ⊎ (x ≡ node)
only_with marks One One is = inr refl
only_with marks One (Input j) is = inl is
only_with marks One (Output j) is = inl is
only_with marks (Input k) node is = inl is
only_with marks (Output k) One is = inl is
only_with marks (Output k) (Input j) is = inl is
only_with marks (Output k) (Output j) is =
    elim (cases_eq j k) [
      | inl e ↦ inr (ap Output (sym e))
      | inr ne ↦ inl (sym (get_or-set_other marks.gates k j true false ne) ∙ is)
    ]

count_with : (marks : NeededMarks) (x : Node) → length (with_node marks x).gates ≡ length marks.gates
count_with marks One = refl
count_with marks (Input k) = refl
count_with marks (Output k) = length-set marks.gates k true

pub Adds-node : (marks : NeededMarks) (x : Node) → OutputBelow (length marks.gates) x → Adds (λ node. x ≡ node) marks (with_node marks x)
Adds-node marks x below =
    record {
      count = count_with marks x;
      kept = kept_with marks x below;
      added = λ node e. subst (IsCovered (with_node marks x)) e (added_here marks x below);
      only = only_with marks x;
    }

Adds-both : (P Q : Node → Type 0) (a b c : NeededMarks) → Adds P a b → Adds Q b c → Adds (λ node. P node ⊎ Q node) a c
Adds-both P Q a b c p q =
    record {
      count = q.count ∙ p.count;
      kept = λ node is. q.kept node (p.kept node is);
      added = λ node is.
          elim is [
            | inl h ↦ covered_kept b c q.kept node (p.added node h)
            | inr h ↦ q.added node h
          ];
      only = λ node is.
          elim (q.only node is) [
            | inl before ↦ elim (p.only node before) [ inl first ↦ inl first | inr h ↦ inr (inl h) ]
            | inr h ↦ inr (inr h)
          ];
    }

below_with : (marks : NeededMarks) (x node : Node) → OutputBelow (length marks.gates) node → OutputBelow (length (with_node marks x).gates) node
below_with marks x node below = subst (λ k. OutputBelow k node) (sym (count_with marks x)) below

two_nodes : (marks : NeededMarks) (x y : Node) → OutputBelow (length marks.gates) x → OutputBelow (length marks.gates) y → Adds (λ node. (x ≡ node) ⊎ (y ≡ node)) marks (with_node (with_node marks x) y)
two_nodes marks x y p q =
    let first = with_node marks x in
    Adds-both (λ node. x ≡ node) (λ node. y ≡ node) marks first (with_node first y) (Adds-node marks x p)
    (Adds-node first y (below_with marks x y q))

pub Adds-operands : (marks : NeededMarks) (gate : Gate) → OperandsBelow (length marks.gates) gate → Adds (λ node. IsOperand node gate) marks (with_operands marks gate)
Adds-operands marks (And a b) own = two_nodes marks a.node b.node own.0 own.1
Adds-operands marks (Xor a b) own = two_nodes marks a.node b.node own.0 own.1
Adds-operands marks (Mux c a b) own =
    let first = with_node marks c.node in
    Adds-both (λ node. c.node ≡ node) (λ node. (a.node ≡ node) ⊎ (b.node ≡ node)) marks first
    (with_node (with_node first a.node) b.node) (Adds-node marks c.node own.0)
    (two_nodes first a.node b.node (below_with marks c.node a.node own.1) (below_with marks c.node b.node own.2))

-- the pass over the gates

-- the gates from this place on are done: the operands of each marked one of them are covered
pub record MarkedFrom (gates : List Gate) (root : Literal) (from : ℕ) (marks : NeededMarks) : Type 0 where
  pub count : length marks.gates ≡ length gates
  pub root_covered : IsCovered marks root.node
  pub closed :
      (k : ℕ) (gate : Gate) → from ≤ k → slice_get gates k ≡ Some gate → IsMarked marks (Output k) →
      (node : Node) → IsOperand node gate → IsCovered marks node
  pub asked_for : (node : Node) → IsMarked marks node → IsAskedFor gates root marks node

asked_more : (gates : List Gate) (root : Literal) (old new : NeededMarks) → ((node : Node) → IsMarked old node → IsMarked new node) → (node : Node) → IsAskedFor gates root old node → IsAskedFor gates root new node
asked_more gates root old new kept node is =
    elim is [
      | inl e ↦ inl e
      | inr w ↦ inr (w.0, w.1, w.2, kept (Output w.0) w.3, w.4)
    ]

pub MarkedFrom-marked : (gates : List Gate) (root : Literal) (k : ℕ) (gate : Gate) (old new : NeededMarks) → slice_get gates k ≡ Some gate → OperandsBelow k gate → IsMarked old (Output k) → MarkedFrom gates root (k + 1) old → Adds (λ node. IsOperand node gate) old new → MarkedFrom gates root k new
MarkedFrom-marked gates root k gate old new at below marked m adds =
    record {
      count = adds.count ∙ m.count;
      root_covered = covered_kept old new adds.kept root.node m.root_covered;
      closed = λ i other from at' is node operand.
          elim (cases_eq i k) [
            | inl e ↦
                let same : other ≡ gate = same_Some other gate (sym at' ∙ ap (slice_get gates) e ∙ at) in
                adds.added node (subst (IsOperand node) same operand)
            | inr ne ↦
                elim (adds.only (Output i) is) [
                  | inl before ↦
                      let later : k + 1 ≤ i = omega arith in
                      covered_kept old new adds.kept node (m.closed i other later at' before node operand)
                  | inr own ↦ absurd (let less : i < k = operand_below k (Output i) gate below own in omega arith)
                ]
          ];
      asked_for = λ node is.
          elim (adds.only node is) [
            | inl before ↦ asked_more gates root old new adds.kept node (m.asked_for node before)
            | inr own ↦ inr (k, gate, at, adds.kept (Output k) marked, own)
          ];
    }

pub MarkedFrom-skipped : (gates : List Gate) (root : Literal) (k : ℕ) (marks : NeededMarks) → get_or marks.gates k false ≡ false → MarkedFrom gates root (k + 1) marks → MarkedFrom gates root k marks
MarkedFrom-skipped gates root k marks free m =
    record {
      count = m.count;
      root_covered = m.root_covered;
      closed = λ i gate from at is.
          elim (cases_eq i k) [
            | inl e ↦ absurd (true≢false (sym is ∙ ap (λ j. get_or marks.gates j false) e ∙ free))
            | inr ne ↦ let later : k + 1 ≤ i = omega arith in m.closed i gate later at is
          ];
      asked_for = m.asked_for;
    }

pub AreNeeded-from : (gates : List Gate) (root : Literal) (marks : NeededMarks) → MarkedFrom gates root 0 marks → AreNeeded gates root marks
AreNeeded-from gates root marks m =
    record {
      count = m.count;
      root_covered = m.root_covered;
      closed = λ k gate at is. let from : 0 ≤ k = omega arith in m.closed k gate from at is;
      asked_for = m.asked_for;
    }
