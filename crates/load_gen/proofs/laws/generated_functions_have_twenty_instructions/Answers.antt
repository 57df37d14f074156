use Rattle.load_gen.proofs.Entries.{counted, entries_of_twenty, functions_are_small}
use Rattle.load_gen.proofs.laws.generated_functions_have_twenty_instructions.Goals as goal

pub returns : goal.returns
returns c = record { entries = entries_of_twenty; count = counted; small = functions_are_small }
