-- Each production that may be repeated takes at least one token.
use Rattle.ir_instructions.proofs.Common.{◌≡◌, ℕ, Bool, true, false, cond, List, ◌∷◌, Option, Some, None, Ok, Err, refl, arith, Flags, Flag, has_flag, with_flag, flag_in, Placed, Word, Syntax, is_register, is_metadata, attachment_at, tail_attachment_at, is_flag, add_flag, flag_at, begins_incoming, further_incoming_at, inst_at, begins_case, case_at, begins_inner_item, begins_late_item, late_item_at, item_at, TakesSome, fault}
use Rattle.ir_instructions.specs.InstructionReaders.{is_mark}
use Rattle.ops.proofs.FlagSets.{both}
use Rattle.ir_instructions.proofs.CallReadings.{late_item-is}
use Rattle.ir_instructions.proofs.ItemSizes.{item-shorter, item-takes}
use Rattle.ir_instructions.specs.Punctuation as marks
use Rattle.ir_instructions.proofs.OpReadings.{further_incoming_at-is, inst_at-is}
use Rattle.ir_instructions.proofs.Readings.{attachment_at-is, tail_attachment_at-is}
use Rattle.ir_instructions.proofs.Shorter.{attachment-shorter, tail_attachment-shorter, further_incoming-shorter, inst-shorter, case-shorter}
use Rattle.ir_instructions.proofs.Steps.{read_as}
use Rattle.ir_instructions.proofs.TerminatorReadings.{case_at-is}

pub attachment-takes : TakesSome is_metadata attachment_at
attachment-takes tokens x next e = attachment-shorter tokens x.1 (attachment_at-is tokens x e)

pub tail-takes : TakesSome (is_mark marks.comma) tail_attachment_at
tail-takes tokens x next e = tail_attachment-shorter tokens x.1 (tail_attachment_at-is tokens x e)

added_takes : (before : Flags) (line : ℕ) (found : Option Flag) (rest : List Placed) (x : Flags × List Placed) → add_flag before line found rest ≡ Ok x → rest ≡ x.1
added_takes before line (Some flag) rest x e = added (has_flag before flag) e
  where
    added : (b : Bool) → cond b (Err (fault line Syntax)) (Ok (with_flag before flag, rest)) ≡ Ok x → rest ≡ x.1
    added true e = absurd cc
    added false e = read_as (λ y. rest ≡ y.1) (with_flag before flag, rest) x e refl
added_takes before line None rest x e = absurd cc

pub flag-takes : (taken before : Flags) → TakesSome (is_flag taken) (flag_at taken before)
unfolding flag_at
flag-takes taken before ((line, Word word) ∷ rest) x next e = rw (added_takes before line (flag_in taken word) rest x e) (omega arith)
flag-takes taken before tokens x next e = absurd cc

pub incoming-takes : (width : ℕ) → TakesSome begins_incoming (further_incoming_at width)
incoming-takes width tokens x next e = further_incoming-shorter width x.0 tokens x.1 (further_incoming_at-is width tokens x e)

pub inst-takes : TakesSome is_register inst_at
inst-takes tokens x next e = inst-shorter x.0 tokens x.1 (inst_at-is tokens x e)

pub case-takes : TakesSome begins_case case_at
case-takes tokens x next e = case-shorter x.0 tokens x.1 (case_at-is tokens x e)

pub inner-takes : TakesSome begins_inner_item item_at
inner-takes tokens x next e = let first = both _ _ next in item-takes tokens x first.0 e

pub late-takes : (line : ℕ) → TakesSome (begins_late_item line) (late_item_at line)
late-takes line tokens x next e = let one = late_item-is line tokens x next e in item-shorter one.0 tokens x.1 one.2
