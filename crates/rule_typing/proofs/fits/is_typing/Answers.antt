use Rattle.rule_typing.proofs.Common.{◌≡◌, ◌∙◌, length, ap, sym}
use Rattle.rule_typing.proofs.Among.{both, not_both}
use Rattle.rule_typing.proofs.Typed.{both_tests, count_widths}
use Rattle.rule_typing.proofs.fits.is_typing.Goals as goal

pub returns-then-widths-class_count : goal.returns-then-widths-class_count
returns-then-widths-class_count c =
    let count : length c.as_slice-widths.result.now ≡ length c.args.widths.now = ap length c.as_slice-widths.ensures in
    (λ h. cc, λ typing. absurd (c.if-widths-class_count.true (count ∙ count_widths c.args.rule.now c.args.widths.now c.class_count.result c.class_count.ensures typing)))

pub returns-then-classes_fit : goal.returns-then-classes_fit
returns-then-classes_fit c =
    both c.classes_fit.result c.casts_fit.result (rw c.as_slice-widths.ensures at c.classes_fit.ensures) (rw c.as_slice-widths.ensures at c.casts_fit.ensures)
    (both_tests c.args.rule.now c.args.widths.now c.class_count.result c.requires c.class_count.ensures (ap length (sym c.as_slice-widths.ensures) ∙ c.if-widths-class_count.false)) c.if-classes_fit.true

pub returns-else-classes_fit : goal.returns-else-classes_fit
returns-else-classes_fit c =
    not_both c.classes_fit.result (rw c.as_slice-widths.ensures at c.classes_fit.ensures)
    (both_tests c.args.rule.now c.args.widths.now c.class_count.result c.requires c.class_count.ensures (ap length (sym c.as_slice-widths.ensures) ∙ c.if-widths-class_count.false)) c.if-classes_fit.false
