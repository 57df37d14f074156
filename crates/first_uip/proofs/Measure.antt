-- A number that falls with each decision and each conflict, so that the search ends.
use Rattle.first_uip.proofs.Common.{◌≡◌, ℕ, zero, suc, ◌+◌, ◌-◌, ◌<◌, ◌≤◌, ap, arith}

-- for each conflict up to the limit, as many steps as there are variables, and one
abbrev pub rounds : ℕ → ℕ → ℕ
rounds zero room = 0
rounds (suc left) room = rounds left room + (room + 1)

abbrev pub work_left : ℕ → ℕ → ℕ → ℕ → ℕ
work_left limit learned room held = rounds (limit - learned) room + (room - held)

pub fewer_rounds : (m n room : ℕ) → n ≡ suc m → rounds m room + (room + 1) ≤ rounds n room
fewer_rounds m zero room is = omega (arith, is)
fewer_rounds m (suc n) room is = same_rounds m n room (omega (arith, is))
  where
    same_rounds : (m n room : ℕ) → m ≡ n → rounds m room + (room + 1) ≤ rounds n room + (room + 1)
    same_rounds m n room e = omega (arith, ap (λ k. rounds k room) e)

pub less_after_decision : (limit learned room before after : ℕ) → before < after → after ≤ room → work_left limit learned room after < work_left limit learned room before
less_after_decision limit learned room before after more within = omega arith

pub less_after_conflict : (limit learned more room before after : ℕ) → more ≡ learned + 1 → learned < limit → work_left limit more room after < work_left limit learned room before
less_after_conflict limit learned more room before after is within =
    let fewer = fewer_rounds (limit - more) (limit - learned) room (omega (arith, is, within)) in omega (arith, fewer)
