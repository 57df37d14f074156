use Rattle.ir_instructions.proofs.Common.{◌∙◌, sym, refl, err_from_is_err_and, seen, tail_attachment_at, tail_at}
use Rattle.ir_instructions.specs.InstructionReaders.{is_mark}
use Rattle.ir_instructions.specs.Punctuation as marks
use Rattle.ir_instructions.proofs.Loops.{repeat-more, repeat-fault, repeat-done}
use Rattle.ir_instructions.proofs.Takings.{tail-takes}
use Rattle.ir_instructions.proofs.attachment.tail.Goals as goal

pub attachments-smaller : goal.attachments-smaller
attachments-smaller c = tail-takes (seen c.attachments.rest.now) (tt, seen c.tail_attachment.new.tokens.now) (sym c.is_mark.ensures ∙ c.attachments-test.true) c.in_ok-tail_attachment.ensures

pub attachments-preserved : goal.attachments-preserved
attachments-preserved c =
    sym (repeat-more (is_mark marks.comma) (λ before. tail_attachment_at) (λ before. tail-takes) tt (seen c.attachments.rest.now) (tt, seen c.tail_attachment.new.tokens.now) (sym c.is_mark.ensures ∙ c.attachments-test.true) c.in_ok-tail_attachment.ensures) ∙ c.attachments.invariant

pub returns-in_err-tail_attachment : goal.returns-in_err-tail_attachment
unfolding tail_at
returns-in_err-tail_attachment c =
    let p = err_from_is_err_and c.from_residual.result c.from_residual.ensures.1 in
    record {
      read = rw (p.1, p.2) (sym c.attachments.invariant ∙ repeat-fault (is_mark marks.comma) (λ before. tail_attachment_at) tt (seen c.attachments.rest.now) c.in_err-tail_attachment.field-0.0 (sym c.is_mark.ensures ∙ c.attachments-test.true) c.in_err-tail_attachment.ensures);
      unmoved = rw p.1 refl;
    }

pub returns : goal.returns
unfolding tail_at
returns c = record { read = sym c.attachments.invariant ∙ repeat-done (is_mark marks.comma) (λ before. tail_attachment_at) tt (seen c.attachments.rest.now) (sym c.is_mark.ensures ∙ c.attachments-test.false); unmoved = tt }
