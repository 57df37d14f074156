use Rattle.first_uip.proofs.Common.{◌+◌, ◌*◌}
use Rattle.first_uip.proofs.minimisation.+redundancy.Given as goal

abbrev pub decreases-is_redundant : goal.decreases-is_redundant
decreases-is_redundant l = 2 * l.depth

abbrev pub decreases-all_implied : goal.decreases-all_implied
decreases-all_implied l = 2 * l.depth + 1
