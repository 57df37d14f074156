-- The equation of each statement of a match holds wherever its register is assigned.
use Rattle.rewriter.proofs.Common.{◌≡◌, ◌<◌, ℕ, Some, sym, subst, ◌∙◌, arith, length, slice_get, same_Some, slice_get_within, some_at, IsInst, IsPhi, Function, Inst, Rule, Knowledge, MatchesWhere, StatementMatches, Binding, one_inst, EquationsHoldWhereAssigned, EquationsOfStatementsHold}
use Rattle.ir_core.specs.declared.operand.Register.TheVariants as registers
use Rattle.rewriter.proofs.Matched.{computed_no_phi, same_is_computed}

-- the instruction that a statement is bound to is no phi
bound_no_phi : {Before : ℕ → ℕ → ℕ → ℕ → Type 0} {known : Knowledge} (f : Function) (b k : ℕ) (rule : Rule) (binding : Binding) (j d p : ℕ) (inst : Inst) → MatchesWhere Before known f b k rule binding
    → slice_get binding.statements j ≡ Some (registers.Result d p) → IsInst f d p inst → ¬ IsPhi inst.op
bound_no_phi f b k rule binding j d p inst match at is =
    let (s, is_statement) = some_at rule.source j (let within : j < length binding.statements = slice_get_within binding.statements j (registers.Result d p) at in omega (arith, within, match.statement_count)) in
    let h : StatementMatches f rule binding j s = match.statements j s is_statement in
    let same : registers.Result h.block h.place ≡ registers.Result d p = same_Some (registers.Result h.block h.place) (registers.Result d p) (sym h.bound ∙ at) in
    let block : h.block ≡ d = cc in
    let place : h.place ≡ p = cc in
    let one : h.inst ≡ inst = one_inst f d p h.inst inst (subst (λ n. IsInst f d n h.inst) place (subst (λ c. IsInst f c h.place h.inst) block h.is_inst)) is in
    subst (λ (i : Inst). ¬ IsPhi i.op) one (computed_no_phi h.inst.op (same_is_computed s.op h.inst.op h.matches.operation))

pub equations_hold : EquationsHoldWhereAssigned → EquationsOfStatementsHold
equations_hold hold across f args m before b k rule binding j d p inst meets history match at is assigned =
    hold f args m before meets.assigned history d p inst is (bound_no_phi f b k rule binding j d p inst match at is) assigned
