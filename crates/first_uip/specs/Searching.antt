-- The state of a search between two steps.
use Rattle.std.specs.Prelude.{ℕ, List}
use Rattle.clauses.specs.declared.cnf.Cnf.{Cnf}
use Rattle.clauses.specs.declared.step.Step.{Step}
use Rattle.clauses.specs.ClauseSet.{clauses_with}
use Rattle.depth_first.specs.declared.trail.Entry.{Entry}
use Rattle.depth_first.specs.DepthFirst.{IsLearned}
use Rattle.depth_first.specs.TrailEntries.{EachForced}
use Rattle.first_uip.specs.declared.watches.Watches.{Watches}
use Rattle.first_uip.specs.Watching.{IsWatchingUpTo}

-- What was learned follows and is new; each entry with a reason was forced by it, by what was held before; each level
-- before the last is closed under unit propagation, and the last one as far as its entries were propagated.
pub record IsSearching (set : Cnf) (log : List Step) (watches : Watches) (entries : List Entry) (head : ℕ) : Type 0 where
  pub learned : IsLearned set log
  pub forced : EachForced (clauses_with set log) entries
  pub watching : IsWatchingUpTo (clauses_with set log) watches entries head
