-- What a walk along a clause's literals finds of it.
use Rattle.depth_first.proofs.Common.{◌≡◌, ℕ, ◌<◌, Bool, true, List, length, get_or, sym, ◌∙◌, slice_get-get_or, Lit, IsWithin, IsVariable, is_held, IsUnit, unit_stands, IsPropagated}
use Rattle.depth_first.proofs.HeldLists.{Consistent, held_at}
use Rattle.depth_first.proofs.Open.{IsPropagated-from_held, variable_within}

-- a clause with a literal that is held is propagated
pub propagated_by_held : (held clause : List Lit) (k : ℕ) (d : Lit) (answer : Bool) → Consistent held → k < length clause → answer ≡ is_held held (get_or clause k d) → answer ≡ true → IsPropagated held clause
propagated_by_held held clause k d answer ok within is holds =
    IsPropagated-from_held held clause (get_or clause k d) ok (held_at clause k (get_or clause k d) (slice_get-get_or clause k d within)) (sym is ∙ holds)

-- the variable of a unit literal is one of the set's
pub forced_variable : (count : ℕ) (held clause : List Lit) (l : Lit) → IsWithin count clause → IsUnit held clause l → IsVariable count l.variable
forced_variable count held clause l within unit = variable_within count clause l within (unit_stands held clause l unit)
