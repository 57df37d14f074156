use Rattle.fold_branch.proofs.Common.{◌<◌, ◌∷◌, [], length, All, sym, subst, on_ok_weaker, targets_of, Terminator, Switch, ComesTo}
use Rattle.fold_branch.proofs.Walking.{blocks_of, come_then, switch_within}
use Rattle.fold_branch.proofs.walk.Walk.come_to_all.Goals as goal

pub come_to_cases-requires : goal.come_to_cases-requires
come_to_cases-requires c =
    let w = c.in-Switch in
    let n = length c.args.self.now.reached.items in
    let all : All (λ b. b < n) (targets_of (Switch w.field-0 w.field-1 w.other w.cases)) = subst (λ (t : Terminator). All (λ b. b < n) (targets_of t)) w.is c.requires in
    let rest : All (λ b. b < n) (blocks_of w.cases) = (switch_within w.other w.cases n all).1 in
    subst (λ l. All (λ b. b < length c.come_to.new.self.reached.items) (blocks_of l)) (sym c.as_slice.ensures)
    (subst (λ m. All (λ b. b < m) (blocks_of w.cases)) (sym c.in_ok-come_to-in-Switch.ensures.count) rest)

pub returns-in_ok-come_to-in-Switch : goal.returns-in_ok-come_to-in-Switch
returns-in_ok-come_to-in-Switch c =
    let w = c.in-Switch in
    let old = c.args.self.now in
    let new = c.come_to_cases.new.self in
    on_ok_weaker c.come_to_cases.result
    (λ (came : ComesTo (blocks_of c.as_slice.result.now) c.come_to.new.self new).
    subst (λ (t : Terminator). ComesTo (targets_of t) old new) (sym w.is)
    (subst (λ l. ComesTo (w.other ∷ blocks_of l) old new) c.as_slice.ensures
    (come_then (w.other ∷ []) (blocks_of c.as_slice.result.now) old c.come_to.new.self new c.in_ok-come_to-in-Switch.ensures came)))
    c.come_to_cases.ensures
