use Rattle.draft_steps.proofs.Common.{put-keeps, keeps-twice}
use Rattle.draft_steps.proofs.WorklistLaws.{worklist-stays}
use Rattle.draft_steps.proofs.laws.orders_are_kept.Goals as goal

pub returns-clause-put : goal.returns-clause-put
returns-clause-put c = put-keeps

pub returns-clause-twice : goal.returns-clause-twice
returns-clause-twice c = keeps-twice

pub returns-clause-queues : goal.returns-clause-queues
returns-clause-queues c = worklist-stays
