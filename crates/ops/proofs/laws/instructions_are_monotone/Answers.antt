use Rattle.ops.proofs.Monotone.{instruction-monotone, comparison-monotone, conversion-monotone, unary-monotone, selection-monotone}
use Rattle.ops.proofs.laws.instructions_are_monotone.Goals as goal

pub returns : goal.returns
returns c = record {
  evaluate = instruction-monotone;
  compare = comparison-monotone;
  convert = conversion-monotone;
  unary = unary-monotone;
  choose = selection-monotone;
}
