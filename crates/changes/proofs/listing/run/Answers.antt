use Rattle.changes.proofs.Common.{◌≡◌, ◌+◌, ◌<◌, ◌≤◌, ℕ, inl, inr, refl, subst, arith, cases_eq, AreAscending}
use Rattle.changes.proofs.Ascending.{one_more}
use Rattle.changes.proofs.listing.run.Goals as goal

-- the places of a block from one on, as many
abbrev IsAmong : ℕ → ℕ → ℕ → ℕ → ℕ → Type 0
IsAmong block first end b k = (b ≡ block) × (first ≤ k) × (k < end)

pub loop-index-preserved : goal.loop-index-preserved
loop-index-preserved c =
    let block = c.args.block in
    let first = c.args.first in
    let i = c.loop-index.index in
    one_more (IsAmong block first (first + i)) (IsAmong block first (first + (i + 1))) c.loop-index.places c.push.new.self block (first + i) c.in_ok-push.ensures.ok c.loop-index.invariant
    (λ b k p. inr (p.0, p.2))
    (λ b k p. let (same, low, high) = p in (same, low, omega arith))
    (refl, omega arith, omega arith)
    (λ b k q. let (same, low, high) = q in elim (cases_eq k (first + i)) [
      | inl e ↦ inr (same, e)
      | inr apart ↦ inl (same, low, omega arith)
    ])

pub returns : goal.returns
returns c =
    let test = c.loop-index-test.false in
    let most = c.loop-index.auto.index-end in
    let all : c.loop-index.index ≡ c.args.count = omega arith in
    subst (λ (n : ℕ). AreAscending (IsAmong c.args.block c.args.first (c.args.first + n)) c.loop-index.places) all c.loop-index.invariant
