use Rattle.substitution.proofs.Common.{◌<◌, ◌∙◌, ap, sym, length, arith, Inst, stands_for, OpHasRoom, substituted_inst}
use Rattle.substitution.proofs.Mapping.{next_holds, map_more}
use Rattle.substitution.proofs.operands.substituted_insts.Goals as goal

pub substitute_inst-requires : goal.substitute_inst-requires
substitute_inst-requires c =
    let l = c.loop-inst in
    let test = c.loop-inst-test.true in
    let same = l.auto.inst-items in
    let size = l.invariant.size in
    let within : l.inst-index < length l.inst-items = omega arith in
    next_holds (λ (i : Inst). OpHasRoom c.args.rewrite.now i.op) (substituted_inst (stands_for c.args.rewrite.now)) c.args.insts l.inst-index l.inst-items c.inst-item.result c.requires l.invariant within c.inst-item.is

pub loop-inst-preserved : goal.loop-inst-preserved
loop-inst-preserved c =
    let l = c.loop-inst in
    let test = c.loop-inst-test.true in
    let same = l.auto.inst-items in
    let size = l.invariant.size in
    let within : l.inst-index < length l.inst-items = omega arith in
    map_more (substituted_inst (stands_for c.args.rewrite.now)) c.args.insts l.inst-index l.inst-items c.inst-item.result c.substitute_inst.new.inst l.invariant within c.inst-item.is (c.substitute_inst.ensures ∙ ap (substituted_inst (stands_for c.args.rewrite.now)) (sym c.inst-item.is))
