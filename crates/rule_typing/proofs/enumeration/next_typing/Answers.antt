use Rattle.rule_typing.proofs.Common.{◌≡◌, ◌-◌, inl, inr, ℕ, arith, sym, subst, slice_index, cases_eq}
use Rattle.rule_typing.proofs.Raised.{same_bound}
use Rattle.rule_typing.proofs.Next.{Behind, beginning_has, next_at, none_next}
use Rattle.rule_typing.proofs.enumeration.next_typing.Goals as goal
use Rattle.rule_typing.proofs.enumeration.next_typing.Goals.{After-bits-bound}

pub least_typing-requires-clause-beginning : goal.least_typing-requires-clause-beginning
least_typing-requires-clause-beginning c = beginning_has c.args.rule.now c.args.sets.now c.args.typing.now c.requires.solves (c.loop-place.place - 1)

bound : (c : After-bits-bound) → c.bits-bound.result ≡ slice_index c.args.typing.now (c.loop-place.place - 1)
bound c = same_bound c.args.typing.now (c.loop-place.place - 1) c.bits-bound.result c.index-typing-place.result (omega (arith, c.loop-place.auto.place, c.loop-place-test.true)) c.bits-bound.ensures.bits c.index-typing-place.is

pub returns-in-Some : goal.returns-in-Some
returns-in-Some c =
    let place : ℕ = c.loop-place.place - 1 in
    let bound_is = bound (goal.at.returns-in-Some c).After-bits-bound in
    next_at c.args.rule.now c.args.sets.now c.args.typing.now c.requires.solves place c.in-Some.next (omega (arith, c.loop-place.auto.place, c.loop-place-test.true)) (rw (c.in-Some.is, bound_is) at c.in_ok-next.ensures)
    (λ q other later. c.loop-place.invariant q other (omega arith))

pub loop-place-preserved : goal.loop-place-preserved
loop-place-preserved c p other most within =
    let place : ℕ = c.loop-place.place - 1 in
    let bound_is = bound (goal.at.loop-place-preserved c).After-bits-bound in
    elim (cases_eq p place) [
      | inl same ↦ subst (λ k. ¬ Behind c.args.rule.now c.args.sets.now c.args.typing.now c.requires.solves k other) (sym same) ((rw (c.in_default.is, bound_is) at c.in_ok-next.ensures) other)
      | inr apart ↦ c.loop-place.invariant p other (omega arith) within
    ]

pub returns : goal.returns
returns c = none_next c.args.rule.now c.args.sets.now c.args.typing.now c.requires.solves (λ q other within. c.loop-place.invariant q other (omega (arith, c.loop-place-test.false)) within)
