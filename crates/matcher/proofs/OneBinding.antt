-- A rule matches at an instruction with one binding at most.
use Rattle.matcher.proofs.Common.{◌≡◌, inl, inr, ℕ, zero, suc, ◌+◌, ◌<◌, ◌≤◌, List, length, Some, sym, ap, subst, ◌∙◌, arith, slice_get, cases_eq, slice_get_cases, slice_get_within, same_Some, IsInst, IsRead, Function, Inst, Register, Number, IsRule, SourceMayRead, Fixed, operands_of, Argument, Rule, Statement, Contains-from_get, IsNamedInSource, HasNoFault, MatchesHaveOneBinding, Knowledge, MatchesWhere, StandsFor, OperandMatches, StatementMatches, Binding, same_block, same_place, SourceOperand, source_operand, met_at, place_of, same_list, same_inst}
use Rattle.ir_core.specs.Reads.{Read}
use Rattle.ir_core.specs.declared.operand.Operand.{Operand}
use Rattle.ir_core.specs.declared.operand.Operand.TheVariants as operands
use Rattle.ir_core.specs.declared.operand.Register.TheVariants as registers
use Rattle.rule_core.specs.declared.rule.Argument.TheVariants as arguments
use Rattle.rule_core.specs.declared.rule.Operand.{Operand as RuleOperand}
use Rattle.rule_core.specs.declared.rule.Register.TheVariants as names
use Rattle.matcher.proofs.Candidates.{root_bound}
use Rattle.matcher.proofs.Widths.{as_many, stable}

one_register : (a : Operand) (r q : Register) → a ≡ operands.Register r → a ≡ operands.Register q → r ≡ q
one_register a r q is_r is_q = let e : operands.Register r ≡ operands.Register q = sym is_r ∙ is_q in cc

one_number : (a : Operand) (n k : Number) → a ≡ operands.Number n → a ≡ operands.Number k → n ≡ k
one_number a n k is_n is_k = let e : operands.Number n ≡ operands.Number k = sym is_n ∙ is_k in cc

-- equal arguments stand for the same
stands_as : (z : Binding) (N : ℕ) (a c : Argument) (o : Operand) → a ≡ c → StandsFor z N a o → StandsFor z N c o
stands_as z N a c o is stands = subst (λ (d : Argument). StandsFor z N d o) is stands

some_width : (typing : List ℕ) (c : ℕ) → c < length typing → (N : ℕ) × (slice_get typing c ≡ Some N)
some_width typing c within = elim (slice_get_cases typing c).1 [
  | inl (N, lt, at, is) ↦ (N, at)
  | inr (past, none) ↦ absurd (omega arith)
]

made : (block place : ℕ) (statements : List Register) (inputs : List Operand) (constants : List Number) (typing : List ℕ) → Binding
made block place statements inputs constants typing =
    record { block = block; place = place; statements = statements; inputs = inputs; constants = constants; typing = typing }

same_binding : (x y : Binding) → x.block ≡ y.block → x.place ≡ y.place → x.statements ≡ y.statements → x.inputs ≡ y.inputs → x.constants ≡ y.constants → x.typing ≡ y.typing → x ≡ y
unfolding made
same_binding x y block place statements inputs constants typing =
    ap (λ v. made v x.place x.statements x.inputs x.constants x.typing) block
    ∙ ap (λ v. made y.block v x.statements x.inputs x.constants x.typing) place
    ∙ ap (λ v. made y.block y.place v x.inputs x.constants x.typing) statements
    ∙ ap (λ v. made y.block y.place y.statements v x.constants x.typing) inputs
    ∙ ap (λ v. made y.block y.place y.statements y.inputs v x.typing) constants
    ∙ ap (λ v. made y.block y.place y.statements y.inputs y.constants v) typing

module _ (Before : ℕ → ℕ → ℕ → ℕ → Type 0) (known : Knowledge) (f : Function) (b p : ℕ) (rule : Rule) (is_rule : IsRule rule) (x y : Binding) (is_x : MatchesWhere Before known f b p rule x) (is_y : MatchesWhere Before known f b p rule y) where
  -- both bindings have one register for statement j
  abbrev Agree : ℕ → Type 0
  Agree j = slice_get x.statements j ≡ slice_get y.statements j

  -- and so one instruction
  one_there : (j : ℕ) (s : Statement) → slice_get rule.source j ≡ Some s → Agree j → (m : StatementMatches f rule x j s) → (n : StatementMatches f rule y j s) → (m.block ≡ n.block) × (m.place ≡ n.place)
  one_there j s at agree m n =
      let one : registers.Result m.block m.place ≡ registers.Result n.block n.place = same_Some (registers.Result m.block m.place) (registers.Result n.block n.place) (sym m.bound ∙ agree ∙ n.bound) in
      (same_block m.block n.block m.place n.place one, same_place m.block n.block m.place n.place one)

  one_inst : (j : ℕ) (s : Statement) → slice_get rule.source j ≡ Some s → Agree j → (m : StatementMatches f rule x j s) → (n : StatementMatches f rule y j s) → m.inst ≡ n.inst
  one_inst j s at agree m n =
      let (block, place) = one_there j s at agree m n in
      same_inst f n.block n.place m.inst n.inst
      (subst (λ (k : ℕ). IsInst f n.block k m.inst) place (subst (λ (d : ℕ). IsInst f d m.place m.inst) block m.is_inst)) n.is_inst

  -- an operand of the source matches the same operand of an instruction under both bindings
  record BothRead (o : RuleOperand) : Type 0 where
    read : Read
    in_x : OperandMatches x o read
    in_y : OperandMatches y o read

  both_read : (o : RuleOperand) → (stands : SourceOperand rule o) → Agree stands.j → BothRead o
  both_read o stands agree =
      let m = is_x.statements stands.j stands.s stands.statement in
      let n = is_y.statements stands.j stands.s stands.statement in
      let (block, place) = one_there stands.j stands.s stands.statement agree m n in
      let met_x = met_at f rule x stands.j stands.s m stands.i o stands.operand in
      let met_y = met_at f rule y stands.j stands.s n stands.i o stands.operand in
      let moved : IsRead f n.block n.place stands.i met_x.read = subst (λ (k : ℕ). IsRead f n.block k stands.i met_x.read) place (subst (λ (d : ℕ). IsRead f d m.place stands.i met_x.read) block met_x.is_read) in
      let one : met_y.read ≡ met_x.read = same_Some met_y.read met_x.read (sym met_y.is_read ∙ moved) in
      record { read = met_x.read; in_x = met_x.matches; in_y = subst (λ (r : Read). OperandMatches y o r) one met_y.matches }

  on_temporary : (j : ℕ) (o : RuleOperand) → o.value ≡ arguments.Register (names.Source j) → BothRead o → Agree j
  on_temporary j o is both =
      let (r, at_x, is_r) = stands_as x both.read.width o.value (arguments.Register (names.Source j)) both.read.operand is both.in_x.value in
      let (q, at_y, is_q) = stands_as y both.read.width o.value (arguments.Register (names.Source j)) both.read.operand is both.in_y.value in
      at_x ∙ ap (λ (t : Register). Some t) (one_register both.read.operand r q is_r is_q) ∙ sym at_y

  on_input : (i : ℕ) (o : RuleOperand) → o.value ≡ arguments.Register (names.Input i) → BothRead o → slice_get x.inputs i ≡ slice_get y.inputs i
  on_input i o is both =
      stands_as x both.read.width o.value (arguments.Register (names.Input i)) both.read.operand is both.in_x.value
      ∙ sym (stands_as y both.read.width o.value (arguments.Register (names.Input i)) both.read.operand is both.in_y.value)

  on_constant : (k : ℕ) (o : RuleOperand) → o.value ≡ arguments.Constant k → BothRead o → slice_get x.constants k ≡ slice_get y.constants k
  on_constant k o is both =
      let (r, at_x, fits_x, is_r) = stands_as x both.read.width o.value (arguments.Constant k) both.read.operand is both.in_x.value in
      let (q, at_y, fits_y, is_q) = stands_as y both.read.width o.value (arguments.Constant k) both.read.operand is both.in_y.value in
      at_x ∙ ap (λ (t : Number). Some t) (one_number both.read.operand r q is_r is_q) ∙ sym at_y

  on_root : (j : ℕ) → j + 1 ≡ length rule.source → Agree j
  on_root j last = root_bound f b p rule x is_x j last ∙ sym (root_bound f b p rule y is_y j last)

  -- from the root down, by how many statements are behind
  from_root : (n j : ℕ) → j < length rule.source → length rule.source ≤ j + n + 1 → Agree j
  from_root zero j within near = on_root j (omega arith)
  from_root (suc n) j within near = elim (cases_eq (j + 1) (length rule.source)) [
    | inl last ↦ on_root j last
    | inr earlier ↦
        let (q, (o, at, is)) = is_rule.temporaries_read j (omega arith) in
        let stands = source_operand rule q o at in
        let may : SourceMayRead rule stands.j o.value = is_rule.source_reads stands.j stands.s o stands.statement (Contains-from_get (operands_of stands.s.op) stands.i o stands.operand) in
        let less : j < stands.j = subst (λ (a : Argument). SourceMayRead rule stands.j a) is may in
        on_temporary j o is (both_read o stands (from_root n stands.j (slice_get_within rule.source stands.j stands.s stands.statement) (omega arith)))
  ]

  all_agree : (j : ℕ) → j < length rule.source → Agree j
  all_agree j within = from_root (length rule.source) j within (omega arith)

  read_of : (o : RuleOperand) → SourceOperand rule o → BothRead o
  read_of o stands = both_read o stands (all_agree stands.j (slice_get_within rule.source stands.j stands.s stands.statement))

  -- the widths of classes
  on_named : (c : ℕ) → IsNamedInSource rule c → slice_get x.typing c ≡ slice_get y.typing c
  on_named c (s, among, inl result) =
      let (k, at) = place_of rule.source s among in
      let m = is_x.statements k s at in
      let n = is_y.statements k s at in
      let inst : m.inst ≡ n.inst = one_inst k s at (all_agree k (slice_get_within rule.source k s at)) m n in
      subst (λ (d : ℕ). slice_get x.typing d ≡ slice_get y.typing d) result (m.matches.width ∙ ap (λ (i : Inst). Some i.width) inst ∙ sym n.matches.width)
  on_named c (s, among, inr (o, reads, (class, name))) =
      let (k, at) = place_of rule.source s among in
      let (i, at_i) = place_of (operands_of s.op) o reads in
      let both = read_of o (record { j = k; s = s; i = i; statement = at; operand = at_i }) in
      subst (λ (d : ℕ). slice_get x.typing d ≡ slice_get y.typing d) class (both.in_x.width ∙ sym both.in_y.width)

  on_fixed : (c N : ℕ) → Fixed rule c N → slice_get x.typing c ≡ slice_get y.typing c
  on_fixed c N is = is_x.typing.fixed c N is ∙ sym (is_y.typing.fixed c N is)

  same_count : length x.typing ≡ length y.typing
  same_count = as_many rule y.typing (length x.typing) is_y.typing (λ c. (is_x.typing.classes c, is_x.typing.no_more c))

  on_class : HasNoFault rule → (c : ℕ) → c < length x.typing → slice_get x.typing c ≡ slice_get y.typing c
  on_class no_fault c within =
      let (N, at) = some_width y.typing c (omega (arith, same_count)) in
      let is : slice_get x.typing c ≡ Some N = stable (slice_get x.typing c) N (λ refused.
      no_fault.closed (c, is_x.typing.no_more c within, (λ named. refused (on_named c named ∙ at), λ M fixed. refused (on_fixed c M fixed ∙ at)))) in
      is ∙ sym at

  pub one_binding : HasNoFault rule → x ≡ y
  one_binding no_fault = same_binding x y (is_x.block ∙ sym is_y.block) (is_x.place ∙ sym is_y.place)
      (same_list x.statements y.statements (is_x.statement_count ∙ sym is_y.statement_count) (λ j lt. all_agree j (omega (arith, is_x.statement_count))))
      (same_list x.inputs y.inputs (is_x.input_count ∙ sym is_y.input_count) (λ i lt.
      let (q, (o, at, read)) = is_rule.inputs_read i (omega (arith, is_x.input_count)) in on_input i o read (read_of o (source_operand rule q o at))))
      (same_list x.constants y.constants (is_x.constant_count ∙ sym is_y.constant_count) (λ k lt.
      let (q, (o, at, read)) = is_rule.constants_read k (omega (arith, is_x.constant_count)) in on_constant k o read (read_of o (source_operand rule q o at))))
      (same_list x.typing y.typing same_count (on_class no_fault))

-- whatever is asked of the order of instructions
pub one_in_any_order : {Before : ℕ → ℕ → ℕ → ℕ → Type 0} {known : Knowledge} (f : Function) (b k : ℕ) (rule : Rule) (x y : Binding) → IsRule rule → HasNoFault rule → MatchesWhere Before known f b k rule x → MatchesWhere Before known f b k rule y → x ≡ y
one_in_any_order {Before = Before} {known = known} f b k rule x y is_rule no_fault is_x is_y = one_binding Before known f b k rule is_rule x y is_x is_y no_fault

pub matches_have_one_binding : MatchesHaveOneBinding
matches_have_one_binding across f b k rule x y is_rule no_fault is_x is_y = one_in_any_order f b k rule x y is_rule no_fault is_x is_y
