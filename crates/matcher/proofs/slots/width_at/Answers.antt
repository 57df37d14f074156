use Rattle.matcher.proofs.Common.{sym, ◌∙◌, no_width, width_of_inst}
use Rattle.matcher.proofs.slots.width_at.Goals as goal

pub returns-in_err-inst : goal.returns-in_err-inst
returns-in_err-inst c = c.from_residual.ensures ∙ sym (no_width c.args.f.now c.args.block c.args.place c.in_err-inst.ensures.none)

pub returns : goal.returns
returns c = sym (width_of_inst c.args.f.now c.args.block c.args.place c.in_ok-inst.inst.now c.in_ok-inst.ensures.some)
