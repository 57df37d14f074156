use Rattle.draft_steps.proofs.Common.{on_ok_weaker, block_pushed}
use Rattle.draft_steps.proofs.inserting.push_inst.Goals as goal

pub returns : goal.returns
returns c = on_ok_weaker c.push.result (λ is. block_pushed c.args.blocks.now c.args.block c.args.inst c.get_mut.result.now c.push.new.self c.requires c.get_mut.ensures.value is) c.push.ensures.ok
