use Rattle.strategy.proofs.Common.{◌≡◌, ◌-◌, Some, List, length, sym, subst, ◌∙◌, slice_get, get_or_from_slice_get, Statement, GivesNoNumber}
use Rattle.strategy.proofs.folding.may_put_number.Goals as goal

pub returns : goal.returns
returns c none last at =
    let target = c.as_slice-target.result.now in
    let there : slice_get target (length target - 1) ≡ Some last = subst (λ (l : List Statement). slice_get l (length l - 1) ≡ Some last) (sym c.as_slice-target.ensures) at in
    subst (λ (s : Statement). GivesNoNumber c.args.binding.now s.op) (c.index-target-target.is ∙ get_or_from_slice_get target (length target - 1) last c.index-target-target.result there) (c.may_give_number.ensures none)
