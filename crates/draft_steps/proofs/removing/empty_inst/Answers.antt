use Rattle.draft_steps.proofs.Common.{refl, gone, block_with}
use Rattle.draft_steps.proofs.removing.empty_inst.Goals as goal

pub returns : goal.returns
returns c = block_with c.args.blocks.now c.args.at.block c.args.at.number gone c.get_mut.result.now c.get_mut-inst.result.now _ c.requires c.get_mut.ensures.value c.get_mut-inst.ensures.value refl
