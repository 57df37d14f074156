-- A chain of operands leads from the root of a match to the instruction of every statement.
use Rattle.draft_steps.proofs.Common.{◌≡◌, inl, inr, ℕ, zero, suc, ◌+◌, ◌<◌, ◌≤◌, Bool, length, Some, sym, ap, subst, ◌∙◌, arith, flat_map, slice_get, cases_lt, same_Some, slice_get_within, IsInst, Read, IsRead, Function, Inst, Operand, Register, IsBeforeRoot, IsRule, SourceMayRead, Argument, Rule, Statement, flat_map-from, Knowledge, operand_for, IsInScope, MatchesInAnyOrder, MatchesWhere, given_for, in_scope, scope_between, StandsFor, IsSameOperation, StatementMatches, Binding, is_read}
use Rattle.rule_core.specs.declared.rule.Register.{Register as Name}
use Rattle.ir_core.specs.declared.operand.Operand.TheVariants as operands
use Rattle.ir_core.specs.declared.operand.Register.TheVariants as registers
use Rattle.ir_meaning.proofs.Pieces.{contains_at, place_in}
use Rattle.rule_core.specs.Positions.{operands_of}
use Rattle.rule_core.specs.declared.rule.Argument.TheVariants as arguments
use Rattle.rule_core.specs.declared.rule.Op.{Op as RuleOp}
use Rattle.rule_core.specs.declared.rule.Operand.{Operand as RuleOperand}
use Rattle.rule_core.specs.declared.rule.Register.TheVariants as names
use Rattle.moved_matches.proofs.Staying.{some_at}

module _ {Before : ℕ → ℕ → ℕ → ℕ → Type 0} {known : Knowledge} (f : Function) (rule : Rule) (m : Binding) (good : IsRule rule) (is : MatchesWhere Before known f m.block m.place rule m) where
  -- a statement is bound to one instruction
  bound_place : (j d p : ℕ) (s : Statement) → (h : StatementMatches f rule m j s) → slice_get m.statements j ≡ Some (registers.Result d p) → (h.block ≡ d) × (h.place ≡ p)
  bound_place j d p s h at =
      let same : registers.Result h.block h.place ≡ registers.Result d p = same_Some (registers.Result h.block h.place) (registers.Result d p) (sym h.bound ∙ at) in
      let block : h.block ≡ d = cc in
      let place : h.place ≡ p = cc in
      (block, place)

  pub bound_inst : (j d p : ℕ) → slice_get m.statements j ≡ Some (registers.Result d p) → (inst : Inst) × IsInst f d p inst
  bound_inst j d p at =
      let within : j < length m.statements = slice_get_within m.statements j (registers.Result d p) at in
      let (s, is_statement) = some_at rule.source j (omega (arith, within, is.statement_count)) in
      let h = is.statements j s is_statement in
      let (block, place) = bound_place j d p s h at in
      (h.inst, subst (λ (k : ℕ). IsInst f d k h.inst) place (subst (λ (c : ℕ). IsInst f c h.place h.inst) block h.is_inst))

  -- what a statement is bound to
  pub bound_there : (j : ℕ) (r : Register) → slice_get m.statements j ≡ Some r → (d p : ℕ) × (r ≡ registers.Result d p) × (slice_get m.statements j ≡ Some (registers.Result d p))
  bound_there j r at =
      let within : j < length m.statements = slice_get_within m.statements j r at in
      let (s, is_statement) = some_at rule.source j (omega (arith, within, is.statement_count)) in
      let h = is.statements j s is_statement in
      (h.block, h.place, same_Some r (registers.Result h.block h.place) (sym at ∙ h.bound), h.bound)

  -- what the binding gives for a name before the root is read by an instruction that a statement is bound to
  pub record NamedRead (x : Operand) : Type 0 where
    pub i : ℕ
    pub s : Statement
    pub is_statement : slice_get rule.source i ≡ Some s
    pub matched : StatementMatches f rule m i s
    pub n : ℕ
    pub r : Read
    pub is_read_there : IsRead f matched.block matched.place n r
    pub reads : r.operand ≡ x

  read_as : (name : Name) (x : Operand) (q : ℕ) (o : RuleOperand) → slice_get (flat_map (λ (s : Statement). operands_of s.op) rule.source) q ≡ Some o → o.value ≡ arguments.Register name → operand_for m name ≡ Some x → NamedRead x
  read_as name x q o at_q names_it bound =
      let (i, s, is_statement, among) = flat_map-from (λ (s : Statement). operands_of s.op) rule.source o (contains_at (flat_map (λ (s : Statement). operands_of s.op) rule.source) q o at_q) in
      let h = is.statements i s is_statement in
      let (n, there) = place_in (operands_of s.op) o among in
      let (r, read_there) = is_read f h.block h.place h.inst s.op h.is_inst h.matches.operation n o there in
      let matched = h.matches.operands n o r there read_there in
      let stands : StandsFor m r.width (arguments.Register name) r.operand = subst (λ (a : Argument). StandsFor m r.width a r.operand) names_it matched.value in
      record { i = i; s = s; is_statement = is_statement; matched = h; n = n; r = r; is_read_there = read_there; reads = given_for m name x r.operand r.width bound stands }

  pub named_read : (name : Name) (x : Operand) → IsBeforeRoot rule name → operand_for m name ≡ Some x → NamedRead x
  named_read (names.Input i) x before bound = let (q, (o, at_q, names_it)) = good.inputs_read i before in read_as (names.Input i) x q o at_q names_it bound
  named_read (names.Source j) x before bound = let (q, (o, at_q, names_it)) = good.temporaries_read j before in read_as (names.Source j) x q o at_q names_it bound
  named_read (names.Target j) x before bound = absurd before

module _ (across : Bool) {known : Knowledge} (f : Function) (rule : Rule) (m : Binding) (good : IsRule rule) (is : MatchesInAnyOrder across known f m.block m.place rule m) where
  -- a later statement reads it
  record ReadBy (d p : ℕ) : Type 0 where
    i : ℕ
    s : Statement
    is_statement : slice_get rule.source i ≡ Some s
    matched : StatementMatches f rule m i s
    n : ℕ
    r : Read
    is_read_there : IsRead f matched.block matched.place n r
    reads : r.operand ≡ operands.Register (registers.Result d p)
    scope : IsInScope across d p matched.block matched.place

  read_by : (j d p : ℕ) → suc j < length rule.source → slice_get m.statements j ≡ Some (registers.Result d p) → (by : ReadBy d p) × (j < by.i)
  read_by j d p less at =
      let (q, (o, at_q, names_it)) = good.temporaries_read j less in
      let (i, s, is_statement, among) = flat_map-from (λ (s : Statement). operands_of s.op) rule.source o (contains_at (flat_map (λ (s : Statement). operands_of s.op) rule.source) q o at_q) in
      let earlier : j < i = subst (SourceMayRead rule i) names_it (good.source_reads i s o is_statement among) in
      let h = is.statements i s is_statement in
      let (n, there) = place_in (operands_of s.op) o among in
      let (r, read_there) = is_read f h.block h.place h.inst s.op h.is_inst h.matches.operation n o there in
      let matched = h.matches.operands n o r there read_there in
      let (reg, bound, reads) : StandsFor m r.width (arguments.Register (names.Source j)) r.operand = subst (λ (a : Argument). StandsFor m r.width a r.operand) names_it matched.value in
      let same : reg ≡ registers.Result d p = same_Some reg (registers.Result d p) (sym bound ∙ at) in
      let scope = scope_between across d p h.block h.place m.block m.place (in_scope across f m.block m.place rule m is j d p at) (in_scope across f m.block m.place rule m is i h.block h.place h.bound) in
      (record { i = i; s = s; is_statement = is_statement; matched = h; n = n; r = r; is_read_there = read_there; reads = reads ∙ ap operands.Register same; scope = scope }, earlier)

  -- A property by distance, which the root has at 0, and which passes from an instruction to those that it reads from,
  -- one further, is one of every instruction that a statement is bound to.
  module _ (G : ℕ → ℕ → ℕ → Type 0) (root : G 0 m.block m.place)
      (step : (t d p e q i : ℕ) (s : RuleOp) (inst : Inst) (r : Read) → suc t < length rule.source → G t d p → IsInst f d p inst → IsSameOperation s inst.op → IsRead f d p i r
      → r.operand ≡ operands.Register (registers.Result e q) → IsInScope across e q d p → G (suc t) e q) where
    abbrev Come : ℕ → ℕ → ℕ → Type 0
    Come j d p = (t : ℕ) × (t + suc j ≤ length rule.source) × G t d p

    at_root : (j d p : ℕ) → length rule.source ≤ suc j → slice_get m.statements j ≡ Some (registers.Result d p) → Come j d p
    at_root j d p last at =
        let within : j < length m.statements = slice_get_within m.statements j (registers.Result d p) at in
        let (s, is_statement) = some_at rule.source j (omega (arith, within, is.statement_count)) in
        let h = is.statements j s is_statement in
        let here = h.matches.root (omega (arith, within, is.statement_count)) in
        let there = bound_place f rule m good is j d p s h at in
        (0, omega (arith, within, is.statement_count), subst (λ (c : ℕ). G 0 c p) (sym here.0 ∙ there.0) (subst (G 0 m.block) (sym here.1 ∙ there.1) root))

    -- it is one of the last n + 1 statements
    from_root : (n j d p : ℕ) → length rule.source ≤ n + suc j → slice_get m.statements j ≡ Some (registers.Result d p) → Come j d p
    from_root zero j d p few at = at_root j d p (omega (arith, few)) at
    from_root (suc n) j d p few at = elim (cases_lt (suc j) (length rule.source)) [
      | inr last ↦ at_root j d p last at
      | inl less ↦
          let (by, later) = read_by j d p less at in
          let (t, near, holds) = from_root n by.i by.matched.block by.matched.place (omega (arith, few, later)) by.matched.bound in
          (suc t, omega (arith, near, later), step t by.matched.block by.matched.place d p by.n by.s.op by.matched.inst by.r (omega (arith, near, later)) holds by.matched.is_inst by.matched.matches.operation by.is_read_there by.reads by.scope)
    ]

    pub each_come : (j d p : ℕ) → slice_get m.statements j ≡ Some (registers.Result d p) → (t : ℕ) × (t + suc j ≤ length rule.source) × G t d p
    each_come j d p at = from_root (length rule.source) j d p (omega arith) at
