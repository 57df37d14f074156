use Rattle.command_line.proofs.Common.{◌∙◌, ap, sym, ◌++◌, ◌∷◌, [], filter, is_in_some}
use Rattle.command_line.proofs.WidthLemmas.{filter-up_to, filter-up_to_none}
use Rattle.command_line.proofs.widths.widths_in.Goals as goal

pub loop-bits-init : goal.loop-bits-init
loop-bits-init c = c.new-widths.ensures ∙ sym (filter-up_to_none (is_in_some c.args.spans.now))

pub loop-bits-preserved : goal.loop-bits-preserved
loop-bits-preserved c = c.in_ok-push_if_named.ensures ∙ (ap (λ ws. ws ++ filter (is_in_some c.args.spans.now) (c.loop-bits.bits ∷ [])) c.loop-bits.invariant
    ∙ sym (filter-up_to (is_in_some c.args.spans.now) c.loop-bits.bits c.loop-bits.auto.bits))
