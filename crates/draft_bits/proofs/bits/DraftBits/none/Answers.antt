use Rattle.draft_bits.proofs.Common.{None, ap, Facts}
use Rattle.draft_bits.proofs.Made.{no_bits, no_results}
use Rattle.draft_bits.proofs.bits.DraftBits.none.Goals as goal

pub returns-clause-results : goal.returns-clause-results
returns-clause-results c = no_results (record { blocks = c.new.result; none = c.nothing.result; waiting = None }) c.new.ensures.items (ap (λ (x : Facts). x.results) c.nothing.ensures)

pub returns-clause-few : goal.returns-clause-few
returns-clause-few c = no_bits (record { blocks = c.new.result; none = c.nothing.result; waiting = None }) c.new.ensures.items (ap (λ (x : Facts). x.results) c.nothing.ensures)
