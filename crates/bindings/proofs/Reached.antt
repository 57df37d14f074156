-- What a match is bound to stands in reached blocks, and is no phi.
use Rattle.bindings.proofs.Common.{◌≡◌, inl, inr, ℕ, suc, ◌<◌, Bool, false, true, List, [], ◌∷◌, length, sym, subst, ◌∙◌, arith, Contains, cases_lt, slice_get_within, IsAssigned, IsReached, IsWalk, Function, cases_in, not_in_empty, IsAvailable, MatchedInstsAreReached}
use Rattle.ir_core.specs.declared.operand.Register.TheVariants as registers
use Rattle.bindings.proofs.Bound.{is_bound, matched_there, same_block, statement_at}
use Rattle.bindings.proofs.TemporariesBefore.{no_phi}

-- a walk has come through blocks that are reached
behind : (f : Function) (b c : ℕ) (before : List ℕ) → IsWalk f (c ∷ before) → Contains before b → IsReached f b
behind f b c [] walk has = absurd (not_in_empty b has)
behind f b c (d ∷ rest) walk has = elim (cases_in d rest b has) [
  | inl is ↦ subst (IsReached f) is (rest, walk.1)
  | inr earlier ↦ behind f b d rest walk.1 earlier
]

-- so what is assigned in a reached block is a result of one
assigned_reached : (f : Function) (d p b k : ℕ) → IsReached f b → IsAssigned f (registers.Result d p) b k → IsReached f d
assigned_reached f d p b k reached assigned = elim (assigned.1 reached.0 reached.1) [
  | inl passed ↦ behind f d b reached.0 reached.1 passed
  | inr here ↦ subst (IsReached f) (sym here.0) reached
]

available_reached : (across : Bool) (f : Function) (d p b k : ℕ) → IsReached f b → IsAvailable across f d p b k → IsReached f d
available_reached false f d p b k reached is = subst (IsReached f) (sym is.0) reached
available_reached true f d p b k reached is = assigned_reached f d p b k reached is

pub matched_reached : MatchedInstsAreReached
matched_reached across f b k rule m j d p inst is at is_inst =
    let within : j < length m.statements = slice_get_within m.statements j (registers.Result d p) at in
    let (s, is_statement) = statement_at rule j (omega (arith, within, is.statement_count)) in
    let h = is.statements j s is_statement in
    let reached : IsReached f m.block = subst (IsReached f) (sym is.block) is.reached in (
      elim (cases_lt (suc j) (length rule.source)) [
        | inl less ↦ available_reached across f d p m.block m.place reached (is.before j d p less at)
        | inr last ↦
            let root : h.block ≡ m.block = (h.matches.root (omega (arith, within, is.statement_count, last))).0 in
            let there : d ≡ h.block = same_block d h.block p h.place (is_bound f rule m j s (registers.Result d p) at h) in
            subst (IsReached f) (sym (there ∙ root)) reached
      ],
      no_phi s.op inst.op (matched_there f rule m j d p s inst at is_inst h).operation,
    )
