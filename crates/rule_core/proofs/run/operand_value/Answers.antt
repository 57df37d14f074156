use Rattle.rule_core.proofs.Common.{◌≡◌, ◌∙◌, sym, arith, same_Some}
use Rattle.rule_core.proofs.run.operand_value.Goals as goal
use Rattle.rule_core.proofs.run.operand_value.Goals.{then-truth, else-truth}

pub fitting-requires-in-Truth : goal.fitting-requires-in-Truth
fitting-requires-in-Truth c =
    let ready = rw c.in-Truth.is at c.requires.1.1 in
    let one : c.width_of-width.result ≡ 1 = same_Some _ _ (sym c.width_of-width.ensures ∙ c.requires.1.0) ∙ ready in
    rw one (elim c.if-truth.branch [ then-truth w ↦ omega arith | else-truth w ↦ omega arith ])
