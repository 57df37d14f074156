use Rattle.load_gen.proofs.Entries.{modules_meet_checks}
use Rattle.load_gen.proofs.laws.generated_modules_meet_checks.Goals as goal

pub returns : goal.returns
returns c = modules_meet_checks
