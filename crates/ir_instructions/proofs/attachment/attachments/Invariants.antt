use Rattle.ir_instructions.proofs.Common.{◌≡◌, length, seen, is_metadata, attachment_at, repeat_at}
use Rattle.ir_instructions.proofs.attachment.attachments.Given as goal

abbrev pub invariant-attachments : goal.invariant-attachments
invariant-attachments l = repeat_at is_metadata (λ before. attachment_at) tt (seen l.rest) ≡ repeat_at is_metadata (λ before. attachment_at) tt (seen l.fn.tokens.now)

abbrev pub decreases-attachments : goal.decreases-attachments
decreases-attachments l = length (seen l.rest)
