use Rattle.ops.proofs.Widths.{IsEffectOf-instruction, IsValueOf-comparison, IsValueOf-conversion, IsValueOf-unary, IsValueOf-selection}
use Rattle.ops.proofs.laws.instructions_keep_widths.Goals as goal

pub returns : goal.returns
returns c = record {
  evaluate = IsEffectOf-instruction;
  compare = IsValueOf-comparison;
  convert = IsValueOf-conversion;
  unary = IsValueOf-unary;
  choose = IsValueOf-selection;
}
