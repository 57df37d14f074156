use Rattle.ir_instructions.proofs.Common.{◌≡◌, length, seen, tail_attachment_at, repeat_at}
use Rattle.ir_instructions.specs.InstructionReaders.{is_mark}
use Rattle.ir_instructions.specs.Punctuation as marks
use Rattle.ir_instructions.proofs.attachment.tail.Given as goal

abbrev pub invariant-attachments : goal.invariant-attachments
invariant-attachments l = repeat_at (is_mark marks.comma) (λ before. tail_attachment_at) tt (seen l.rest) ≡ repeat_at (is_mark marks.comma) (λ before. tail_attachment_at) tt (seen l.fn.tokens.now)

abbrev pub decreases-attachments : goal.decreases-attachments
decreases-attachments l = length (seen l.rest)
