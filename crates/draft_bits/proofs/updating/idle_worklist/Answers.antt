use Rattle.draft_bits.proofs.Common.{IfSome, sym, subst, ◌∙◌, IsIdle}
use Rattle.draft_bits.proofs.updating.idle_worklist.Goals as goal

pub returns-in-Some : goal.returns-in-Some
returns-in-Some c = subst (λ o. IfSome o (IsIdle c.args.blocks)) (sym c.take.ensures.value ∙ c.in-Some.is) c.requires

pub returns : goal.returns
returns c =
    let none = c.in_ok-waiting.ensures in
    record { as_many = none.blocks; unmarked = none.marks; none = none.heap }
