-- Runs of statements, one by one.
use Rattle.rule_core.proofs.Common.{◌≡◌, ℕ, suc, ◌+◌, ◌<◌, ◌≤◌, List, ◌∷◌, length, drop, take, Some, sym, ap, ◌∙◌, arith, get_or, drop-cons, add-one, slice_get, length-take, get_or-take, get_or_from_slice_get, Value, Effect, Statement, Held, Given, Ending, GoesOn, StatementGives, Follows}

-- a run from statement i on: the statement has its effect, and the run from the next one follows
pub Follows-step : (typing : List ℕ) (given : Given) (holding : Held → Value → Held) (statements : List Statement) (i : ℕ) (s : Statement) (held : Held) (e : Effect) (end : Ending)
    → i < length statements → s ≡ get_or statements i s → StatementGives typing given held s e
    → GoesOn (λ v. Follows typing given holding (drop (i + 1) statements) (holding held v) end) e end
    → Follows typing given holding (drop i statements) held end
Follows-step typing given holding statements i s held e end within is gives goes =
    let parts : drop i statements ≡ s ∷ drop (i + 1) statements = rw add-one (drop-cons statements i s within ∙ ap (λ x. x ∷ drop (suc i) statements) (sym is)) in
    rw parts (e, gives, goes)

-- the same where only the first `count` statements of the list are run
pub Follows-step-take : (typing : List ℕ) (given : Given) (holding : Held → Value → Held) (statements : List Statement) (count i : ℕ) (s : Statement) (held : Held) (e : Effect) (end : Ending)
    → i < count → count ≤ length statements → slice_get statements i ≡ Some s → StatementGives typing given held s e
    → GoesOn (λ v. Follows typing given holding (drop (i + 1) (take count statements)) (holding held v) end) e end
    → Follows typing given holding (drop i (take count statements)) held end
Follows-step-take typing given holding statements count i s held e end before within at gives goes =
    let inside : i < length (take count statements) = simp length-take (omega arith) in
    let is : s ≡ get_or (take count statements) i s = sym (get_or-take count statements i s before ∙ get_or_from_slice_get statements i s s at) in
    Follows-step typing given holding (take count statements) i s held e end inside is gives goes
