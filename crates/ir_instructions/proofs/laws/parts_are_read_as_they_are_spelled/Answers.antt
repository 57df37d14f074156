use Rattle.ir_instructions.proofs.Readings.{mark_at-is, keyword_at-is, register_at-is, target_at-is, type_at-is, operand_at-is, case_value_at-is, typed_at-is, attachments_at-is, tail_at-is}
use Rattle.ir_instructions.proofs.Spellings.{mark_at-of, keyword_at-of, register_at-of, target_at-of, type_at-of, operand_at-of, case_value_at-of, typed_at-of, attachments_at-of, tail_at-of}
use Rattle.ir_instructions.proofs.OpReadings.{insts_at-is}
use Rattle.ir_instructions.proofs.OpSpellings.{insts_at-of, terminator_at-of}
use Rattle.ir_instructions.proofs.TerminatorReadings.{terminator_at-is}
use Rattle.ir_instructions.proofs.laws.parts_are_read_as_they_are_spelled.Goals as goal

pub returns : goal.returns
returns c = record {
  mark = λ byte tokens rest x. (λ read. mark_at-is byte tokens (x, rest) read, λ spelled. mark_at-of byte tokens rest spelled);
  keyword = λ word tokens rest x. (λ read. keyword_at-is word tokens (x, rest) read, λ spelled. keyword_at-of word tokens rest spelled);
  register = λ tokens rest x. (λ read. register_at-is tokens (x, rest) read, λ spelled. register_at-of x tokens rest spelled);
  target = λ tokens rest x. (λ read. target_at-is tokens (x, rest) read, λ spelled. target_at-of x tokens rest spelled);
  type_of = λ tokens rest x. (λ read. type_at-is tokens (x, rest) read, λ spelled. type_at-of x tokens rest spelled);
  operand = λ width tokens rest x. (λ read. operand_at-is width tokens (x, rest) read, λ spelled. operand_at-of width x tokens rest spelled);
  case_value = λ width tokens rest x. (λ read. case_value_at-is width tokens (x, rest) read, λ (case, spelled). case_value_at-of width x tokens rest case spelled);
  typed = λ tokens rest x. (λ read. typed_at-is tokens (x, rest) read, λ spelled. typed_at-of x tokens rest spelled);
  attachments = λ tokens rest x. (λ read. attachments_at-is tokens (x, rest) read, λ none spelled. attachments_at-of tokens rest spelled none);
  tail = λ tokens rest x. (λ read. tail_at-is tokens (x, rest) read, λ none spelled. tail_at-of tokens rest spelled none);
  insts = λ tokens rest x. (λ read. insts_at-is tokens (x, rest) read, λ none spelled. insts_at-of x tokens rest spelled none.0 (none.1, none.2));
  terminator = λ tokens rest x. (λ read. terminator_at-is tokens (x, rest) read, λ spelled. terminator_at-of x.0 x.1 tokens rest spelled);
}
