-- What a match names is assigned at its root, since that reads from each through a chain of operands; so temporaries
-- stand before the root.
use Rattle.bindings.proofs.Common.{◌≡◌, inl, inr, ℕ, zero, suc, ◌+◌, ◌<◌, ◌≤◌, Bool, false, true, length, Some, refl, sym, ap, subst, ◌∙◌, arith, Contains, flat_map, option_map, slice_get, cases_lt, same_Some, slice_get_within, IsAssigned, HasInst, IsPhi, MeetsChecks, IsReached, Function, Op, Operand, Register, contains_at, place_in, IsBeforeRoot, IsRule, SourceMayRead, operands_of, Argument, Name, Rule, Statement, flat_map-from, IsAvailable, IsMatch, Knowledge, MatchesInAnyOrder, MatchesWhere, StandsFor, IsSameOperation, StatementMatches, Binding, AssignmentIsTransitive, NotBothAreAssigned, NamedRegistersAreAssigned, OperandsAreAssigned, TemporariesStandBefore, known_in, operand_for}
use Rattle.ir_core.specs.declared.instruction.Op.TheVariants as ops
use Rattle.ir_core.specs.declared.operand.Operand.TheVariants as operands
use Rattle.ir_core.specs.declared.operand.Register.TheVariants as registers
use Rattle.rule_core.specs.declared.rule.Argument.TheVariants as arguments
use Rattle.rule_core.specs.declared.rule.Op.{Op as RuleOp}
use Rattle.rule_core.specs.declared.rule.Op.TheVariants as rule_ops
use Rattle.rule_core.specs.declared.rule.Operand.{Operand as RuleOperand}
use Rattle.rule_core.specs.declared.rule.Register.TheVariants as names
use Rattle.bindings.proofs.Before.{before_in_block, read_assigned}
use Rattle.bindings.proofs.Bound.{is_bound, statement_at}
use Rattle.bindings.proofs.Reading.{has_inst_at, is_read}

-- an instruction that a statement matches is no phi
pub no_phi : (s : RuleOp) (i : Op) → IsSameOperation s i → ¬ IsPhi i
no_phi (rule_ops.Binary opcode flags a d) (ops.Binary opcode' flags' x y) same = λ phi. phi
no_phi (rule_ops.Compare pred samesign a d) (ops.Compare pred' samesign' width x y) same = λ phi. phi
no_phi (rule_ops.Unary op truth a) (ops.Unary op' truth' x) same = λ phi. phi
no_phi (rule_ops.Select c a d) (ops.Select z x y) same = λ phi. phi
no_phi (rule_ops.Convert cast flags a to) (ops.Convert cast' flags' from x) same = λ phi. phi
no_phi (rule_ops.Freeze a j) (ops.Freeze x) same = λ phi. phi
no_phi s i same = absurd same

-- what a name is bound to is what it stands for
pub given_for : (m : Binding) (name : Name) (x a : Operand) (N : ℕ) → operand_for m name ≡ Some x → StandsFor m N (arguments.Register name) a → a ≡ x
given_for m (names.Input i) x a N bound stands = same_Some a x (sym stands ∙ bound)
given_for m (names.Source j) x a N bound (reg, at, is_a) = is_a ∙ same_Some (operands.Register reg) x (sym (ap (option_map operands.Register) at) ∙ bound)
given_for m (names.Target j) x a N bound stands = absurd stands

module _ (transitive : AssignmentIsTransitive) {Before : ℕ → ℕ → ℕ → ℕ → Type 0} {known : Knowledge} (f : Function) (b k : ℕ) (rule : Rule) (m : Binding) (checks : MeetsChecks f) (good : IsRule rule) (is : MatchesWhere Before known f b k rule m) where
  -- a register that a statement names is assigned at the instruction to which the statement is bound
  named_there : (name : Name) (reg : Register) (i : ℕ) (s : Statement) (o : RuleOperand) (h : StatementMatches f rule m i s) → Contains (operands_of s.op) o → o.value ≡ arguments.Register name
      → operand_for m name ≡ Some (operands.Register reg) → IsAssigned f reg h.block h.place
  named_there name reg i s o h among names_it bound =
      let (n, there) = place_in (operands_of s.op) o among in
      let (r, read_there) = is_read f h.block h.place h.inst s.op h.is_inst h.matches.operation n o there in
      let matched = h.matches.operands n o r there read_there in
      let stands : StandsFor m r.width (arguments.Register name) r.operand = subst (λ (a : Argument). StandsFor m r.width a r.operand) names_it matched.value in
      read_assigned f h.block h.place n h.inst r reg checks h.is_inst (no_phi s.op h.inst.op h.matches.operation) read_there (given_for m name (operands.Register reg) r.operand r.width bound stands)

  -- what is assigned at the root's instruction
  here : (i : ℕ) (s : Statement) → length rule.source ≤ suc i → slice_get rule.source i ≡ Some s → (h : StatementMatches f rule m i s) → (reg : Register) → IsAssigned f reg h.block h.place → IsAssigned f reg m.block m.place
  here i s last is_statement h reg assigned =
      let within : i < length rule.source = slice_get_within rule.source i s is_statement in
      let root = h.matches.root (omega (arith, within, last)) in
      subst (λ (p : ℕ). IsAssigned f reg m.block p) root.1 (subst (λ (d : ℕ). IsAssigned f reg d h.place) root.0 assigned)

  -- what is assigned at the instruction of one of the last n + 1 statements is so at the root
  at_root : (n i : ℕ) (s : Statement) → length rule.source ≤ n + suc i → slice_get rule.source i ≡ Some s → (h : StatementMatches f rule m i s) → (reg : Register) → IsAssigned f reg h.block h.place → IsAssigned f reg m.block m.place
  at_root zero i s few is_statement h reg assigned = here i s (omega (arith, few)) is_statement h reg assigned
  at_root (suc n) i s few is_statement h reg assigned = elim (cases_lt (suc i) (length rule.source)) [
    | inr last ↦ here i s last is_statement h reg assigned
    | inl less ↦
        let (q, (o, at_q, names_it)) = good.temporaries_read i less in
        let (l, t, is_later, among) = flat_map-from (λ (x : Statement). operands_of x.op) rule.source o (contains_at (flat_map (λ (x : Statement). operands_of x.op) rule.source) q o at_q) in
        let later : i < l = subst (SourceMayRead rule l) names_it (good.source_reads l t o is_later among) in
        let g = is.statements l t is_later in
        let own : IsAssigned f (registers.Result h.block h.place) g.block g.place = named_there (names.Source i) (registers.Result h.block h.place) l t o g among names_it (ap (option_map operands.Register) h.bound) in
        at_root n l t (omega (arith, few, later)) is_later g reg (transitive f reg h.block h.place g.block g.place assigned own)
  ]

  -- a register that some operand of the source names
  read_as : (name : Name) (reg : Register) (q : ℕ) (o : RuleOperand) → slice_get (flat_map (λ (s : Statement). operands_of s.op) rule.source) q ≡ Some o → o.value ≡ arguments.Register name
      → operand_for m name ≡ Some (operands.Register reg) → IsAssigned f reg m.block m.place
  read_as name reg q o at_q names_it bound =
      let (i, s, is_statement, among) = flat_map-from (λ (x : Statement). operands_of x.op) rule.source o (contains_at (flat_map (λ (x : Statement). operands_of x.op) rule.source) q o at_q) in
      let h = is.statements i s is_statement in
      at_root (length rule.source) i s (omega arith) is_statement h reg (named_there name reg i s o h among names_it bound)

  pub named_assigned : (name : Name) (reg : Register) → IsBeforeRoot rule name → operand_for m name ≡ Some (operands.Register reg) → IsAssigned f reg m.block m.place
  named_assigned (names.Input i) reg before bound = let (q, (o, at_q, names_it)) = good.inputs_read i before in read_as (names.Input i) reg q o at_q names_it bound
  named_assigned (names.Source j) reg before bound = let (q, (o, at_q, names_it)) = good.temporaries_read j before in read_as (names.Source j) reg q o at_q names_it bound
  named_assigned (names.Target j) reg before bound = absurd before

pub named_registers : AssignmentIsTransitive → NamedRegistersAreAssigned
named_registers transitive across known f b k rule m name r checks good is before bound = named_assigned transitive f b k rule m checks good is name r before bound

pub operands_assigned : AssignmentIsTransitive → OperandsAreAssigned
operands_assigned transitive across known f b k rule m j s o name r q c l checks good is is_statement at among names_it bound assigned =
    let h = is.statements j s is_statement in
    let one : r ≡ registers.Result h.block h.place = is_bound f rule m j s r at h in
    transitive f q h.block h.place c l (named_there transitive f b k rule m checks good is name q j s o h among names_it bound) (subst (λ (t : Register). IsAssigned f t c l) one assigned)

-- ---- temporaries

module _ (not_both : NotBothAreAssigned) (named : NamedRegistersAreAssigned) (f : Function) (b k : ℕ) (rule : Rule) (m : Binding) (checks : MeetsChecks f) (good : IsRule rule) where
  module _ (across : Bool) (is : MatchesInAnyOrder across (known_in f) f b k rule m) where
    reached : IsReached f m.block
    reached = subst (IsReached f) (sym is.block) is.reached

    root_has : HasInst f m.block m.place
    root_has =
        let some = good.source_root in
        let (j, last) : (j : ℕ) × (suc j ≡ length rule.source) = last_of (length rule.source) some in
        let (s, at) = statement_at rule j (omega (arith, last)) in
        let h = is.statements j s at in
        let root = h.matches.root last in
        subst (λ (d : ℕ). HasInst f d m.place) root.0 (subst (λ (p : ℕ). HasInst f h.block p) root.1 (has_inst_at f h.block h.place h.inst h.is_inst))
      where
        last_of : (n : ℕ) → 0 < n → (j : ℕ) × (suc j ≡ n)
        last_of zero some = absurd (omega arith)
        last_of (suc j) some = (j, refl)

    assigned : (j d p : ℕ) → suc j < length rule.source → slice_get m.statements j ≡ Some (registers.Result d p) → IsAssigned f (registers.Result d p) m.block m.place
    assigned j d p less at = named across (known_in f) f b k rule m (names.Source j) (registers.Result d p) checks good is less (ap (option_map operands.Register) at)

    in_its_block : (d p : ℕ) → d ≡ m.block → IsAssigned f (registers.Result d p) m.block m.place → p < m.place
    in_its_block d p same is_assigned = before_in_block not_both f m.block p m.place reached root_has (subst (λ (c : ℕ). IsAssigned f (registers.Result c p) m.block m.place) same is_assigned)

    with_order : ((j d p : ℕ) → suc j < length rule.source → slice_get m.statements j ≡ Some (registers.Result d p) → IsAvailable across f d p m.block m.place) → IsMatch across f b k rule m
    with_order available = record {
      block = is.block;
      place = is.place;
      reached = is.reached;
      statement_count = is.statement_count;
      statements = is.statements;
      before = available;
      input_count = is.input_count;
      no_undef = is.no_undef;
      constant_count = is.constant_count;
      typing = is.typing;
      precondition = is.precondition;
      one_use = is.one_use;
      facts = is.facts;
    }

  in_order : (across : Bool) → MatchesInAnyOrder across (known_in f) f b k rule m → IsMatch across f b k rule m
  in_order true is = with_order true is (assigned true is)
  in_order false is = with_order false is (λ j d p less at. let same : d ≡ m.block = is.before j d p less at in (same, in_its_block false is d p same (assigned false is j d p less at)))

pub temporaries_before : NotBothAreAssigned → NamedRegistersAreAssigned → TemporariesStandBefore
temporaries_before not_both named across f b k rule m checks good is = in_order not_both named f b k rule m checks good across is
