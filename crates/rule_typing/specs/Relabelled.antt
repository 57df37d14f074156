-- A rule with other class numbers.
use Rattle.std.specs.Prelude.{◌≡◌, ℕ, ◌+◌, ◌==◌, if◌then◌else◌, List, [], ◌∷◌, length, map, flat_map}
use Rattle.rule_core.specs.declared.rule.Rule.{Rule}
use Rattle.rule_core.specs.declared.rule.Statement.{Statement}
use Rattle.rule_core.specs.declared.rule.Op.{Op}
use Rattle.rule_core.specs.declared.rule.Op.TheVariants.{Binary, Compare, Unary, Select, Convert, Freeze, Copy}
use Rattle.rule_core.specs.declared.rule.Term.{Term}
use Rattle.rule_core.specs.declared.rule.Node.{Node}
use Rattle.rule_core.specs.declared.rule.Node.TheVariants as nodes
use Rattle.rule_typing.specs.declared.relabelling.Renaming.{Renaming}
use Rattle.rule_typing.specs.declared.relabelling.Renaming.TheVariants.{Merge, Swap}
use Rattle.rule_core.specs.Positions.{classes_of_statement, classes_of_term}

-- the operation with class f c in place of each class c
abbrev pub mapped_op : (ℕ → ℕ) → Op → Op
mapped_op f (Binary op flags a b) = Binary op flags (record a { class = f a.class }) (record b { class = f b.class })
mapped_op f (Compare pred samesign a b) = Compare pred samesign (record a { class = f a.class }) (record b { class = f b.class })
mapped_op f (Unary op truth a) = Unary op truth (record a { class = f a.class })
mapped_op f (Select c a b) = Select (record c { class = f c.class }) (record a { class = f a.class }) (record b { class = f b.class })
mapped_op f (Convert cast flags a to) = Convert cast flags (record a { class = f a.class }) to
mapped_op f (Freeze a k) = Freeze (record a { class = f a.class }) k
mapped_op f (Copy a) = Copy (record a { class = f a.class })

abbrev pub mapped_statement : (ℕ → ℕ) → Statement → Statement
mapped_statement f s = record s { class = f s.class; op = mapped_op f s.op }

abbrev pub mapped_node : (ℕ → ℕ) → Node → Node
mapped_node f (nodes.Literal z) = nodes.Literal z
mapped_node f (nodes.Constant k) = nodes.Constant k
mapped_node f (nodes.Register r) = nodes.Register r
mapped_node f (nodes.Choice k) = nodes.Choice k
mapped_node f (nodes.Width r c) = nodes.Width r (f c)
mapped_node f (nodes.Unary function a) = nodes.Unary function a
mapped_node f (nodes.Binary op a b) = nodes.Binary op a b

abbrev pub mapped_term : (ℕ → ℕ) → Term → Term
mapped_term f t = record t { class = f t.class; node = mapped_node f t.node }

abbrev pub mapped : (ℕ → ℕ) → Rule → Rule
mapped f rule =
    record rule {
      source = map (mapped_statement f) rule.source;
      target = map (mapped_statement f) rule.target;
      terms = map (mapped_term f) rule.terms;
      witness_terms = map (mapped_term f) rule.witness_terms;
    }

-- the operation with the classes of its operands numbered in order, from n on
abbrev pub numbered_op : ℕ → Op → Op
numbered_op n (Binary op flags a b) = Binary op flags (record a { class = n }) (record b { class = n + 1 })
numbered_op n (Compare pred samesign a b) = Compare pred samesign (record a { class = n }) (record b { class = n + 1 })
numbered_op n (Unary op truth a) = Unary op truth (record a { class = n })
numbered_op n (Select c a b) = Select (record c { class = n }) (record a { class = n + 1 }) (record b { class = n + 2 })
numbered_op n (Convert cast flags a to) = Convert cast flags (record a { class = n }) to
numbered_op n (Freeze a k) = Freeze (record a { class = n }) k
numbered_op n (Copy a) = Copy (record a { class = n })

abbrev pub numbered_statement : ℕ → Statement → Statement
numbered_statement n s = record s { class = n; op = numbered_op (n + 1) s.op }

abbrev pub numbered_node : ℕ → Node → Node
numbered_node n (nodes.Literal z) = nodes.Literal z
numbered_node n (nodes.Constant k) = nodes.Constant k
numbered_node n (nodes.Register r) = nodes.Register r
numbered_node n (nodes.Choice k) = nodes.Choice k
numbered_node n (nodes.Width r c) = nodes.Width r n
numbered_node n (nodes.Unary function a) = nodes.Unary function a
numbered_node n (nodes.Binary op a b) = nodes.Binary op a b

abbrev pub numbered_term : ℕ → Term → Term
numbered_term n t = record t { class = n; node = numbered_node (n + 1) t.node }

-- elements numbered one after the other: each from the first number behind those of the positions of the elements
-- before it
abbrev pub numbered_from : {X : Type 0} → (X → List ℕ) → (ℕ → X → X) → ℕ → List X → List X
numbered_from classes number n [] = []
numbered_from classes number n (x ∷ xs) = number n x ∷ numbered_from classes number (n + length (classes x)) xs

abbrev pub numbered_statements : ℕ → List Statement → List Statement
numbered_statements n statements = numbered_from classes_of_statement numbered_statement n statements

abbrev pub numbered_terms : ℕ → List Term → List Term
numbered_terms n terms = numbered_from classes_of_term numbered_term n terms

-- how many positions statements have, and how many terms have
abbrev pub positions_of : List Statement → ℕ
positions_of statements = length (flat_map classes_of_statement statements)

abbrev pub positions_among : List Term → ℕ
positions_among terms = length (flat_map classes_of_term terms)

-- the rule in which each position is a class of its own, whose number is the position's
abbrev pub numbered : Rule → Rule
numbered rule =
    record rule {
      source = numbered_statements 0 rule.source;
      target = numbered_statements (positions_of rule.source) rule.target;
      terms = numbered_terms (positions_of rule.source + positions_of rule.target) rule.terms;
      witness_terms = numbered_terms (positions_of rule.source + positions_of rule.target + positions_among rule.terms) rule.witness_terms;
    }

-- the new rule has other numbers for the same classes: no two get one number
pub record IsRenumbered (old new : Rule) : Type 0 where
  pub to : ℕ → ℕ
  pub is : new ≡ mapped to old
  pub apart : (c d : ℕ) → to c ≡ to d → c ≡ d

-- the new number of a class: `Merge` gives the first class the second's number, and `Swap` exchanges the numbers of two
abbrev pub renamed : Renaming → ℕ → ℕ
renamed (Merge from to) c = if c == from then to else c
renamed (Swap a b) c = if c == a then b else (if c == b then a else c)
