use Rattle.ir_instructions.proofs.Common.{◌∙◌, sym, refl, err_from_is_err_and, seen, is_metadata, attachment_at, attachments_at}
use Rattle.ir_instructions.proofs.Loops.{repeat-more, repeat-fault, repeat-done}
use Rattle.ir_instructions.proofs.Takings.{attachment-takes}
use Rattle.ir_instructions.proofs.attachment.attachments.Goals as goal

pub attachments-smaller : goal.attachments-smaller
attachments-smaller c = attachment-takes (seen c.attachments.rest.now) (tt, seen c.attachment.new.tokens.now) (sym c.is_metadata.ensures ∙ c.attachments-test.true) c.in_ok-attachment.ensures

pub attachments-preserved : goal.attachments-preserved
attachments-preserved c =
    sym (repeat-more is_metadata (λ before. attachment_at) (λ before. attachment-takes) tt (seen c.attachments.rest.now) (tt, seen c.attachment.new.tokens.now) (sym c.is_metadata.ensures ∙ c.attachments-test.true) c.in_ok-attachment.ensures) ∙ c.attachments.invariant

pub returns-in_err-attachment : goal.returns-in_err-attachment
unfolding attachments_at
returns-in_err-attachment c =
    let p = err_from_is_err_and c.from_residual.result c.from_residual.ensures.1 in
    record {
      read = rw (p.1, p.2) (sym c.attachments.invariant ∙ repeat-fault is_metadata (λ before. attachment_at) tt (seen c.attachments.rest.now) c.in_err-attachment.field-0.0 (sym c.is_metadata.ensures ∙ c.attachments-test.true) c.in_err-attachment.ensures);
      unmoved = rw p.1 refl;
    }

pub returns : goal.returns
unfolding attachments_at
returns c = record { read = sym c.attachments.invariant ∙ repeat-done is_metadata (λ before. attachment_at) tt (seen c.attachments.rest.now) (sym c.is_metadata.ensures ∙ c.attachments-test.false); unmoved = tt }
