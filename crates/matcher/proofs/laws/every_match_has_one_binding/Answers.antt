use Rattle.matcher.proofs.OneBinding.{matches_have_one_binding}
use Rattle.matcher.proofs.laws.every_match_has_one_binding.Goals as goal

pub returns : goal.returns
returns c = matches_have_one_binding
