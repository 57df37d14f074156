use Rattle.load_gen.proofs.Entries.{numbers_fit}
use Rattle.load_gen.proofs.laws.generated_numbers_fit.Goals as goal

pub returns : goal.returns
returns c = numbers_fit
