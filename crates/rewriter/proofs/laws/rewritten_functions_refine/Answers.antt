use Rattle.rewriter.proofs.Rewriting.{new_refines}
use Rattle.rewriter.proofs.laws.rewritten_functions_refine.Goals as goal

pub returns : goal.returns
returns c = new_refines
