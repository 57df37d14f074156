-- Each production that may be repeated takes at least one token.
use Rattle.ir_parse.proofs.Common.{is_mark, TakesSome, is_label, block_at, further_parameter_at, begins_entry, entry_at}
use Rattle.ir_instructions.specs.Punctuation as marks
use Rattle.ir_parse.proofs.FunctionReadings.{block_is_labelled, further_parameter_at-is, entry_at-is}
use Rattle.ir_parse.proofs.ShorterParts.{block-shorter, further_parameter-shorter, entry-shorter}

pub block-takes : TakesSome is_label block_at
block-takes tokens x next e = block-shorter x.0 tokens x.1 (block_is_labelled tokens x next e)

pub parameter-takes : TakesSome (is_mark marks.comma) further_parameter_at
parameter-takes tokens x next e = further_parameter-shorter x.0 tokens x.1 (further_parameter_at-is tokens x e)

pub entry-takes : TakesSome begins_entry entry_at
entry-takes tokens x next e = entry-shorter x.0 tokens x.1 (entry_at-is tokens x e)
