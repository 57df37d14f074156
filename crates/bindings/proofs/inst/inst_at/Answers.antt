use Rattle.bindings.proofs.Common.{IsBlock}
use Rattle.bindings.proofs.Lists.{if_none, lent}
use Rattle.bindings.proofs.Reading.{lent_inst, no_block, not_lent}
use Rattle.bindings.proofs.inst.inst_at.Goals as goal

pub returns-in_err-written_in-clause-none : goal.returns-in_err-written_in-clause-none
returns-in_err-written_in-clause-none c =
    if_none c.from_residual.result _ (no_block c.args.f.now c.args.block c.args.place c.as_slice.result.now c.as_slice.ensures c.in_err-written_in.ensures.lookup.3)

pub returns-clause-some : goal.returns-clause-some
returns-clause-some c =
    let is : IsBlock c.args.f.now c.args.block c.in_ok-written_in.written_in.now =
    lent c.as_slice.result.now _ c.args.block c.in_ok-written_in.written_in.now c.as_slice.ensures c.in_ok-written_in.ensures.lookup.3.0 c.in_ok-written_in.ensures.lookup.3.1 in
    lent_inst c.args.f.now c.args.block c.args.place c.in_ok-written_in.written_in.now c.as_slice-2.result.now c.get-2.result is c.as_slice-2.ensures c.get-2.ensures.lookup

pub returns-clause-none : goal.returns-clause-none
returns-clause-none c =
    let is : IsBlock c.args.f.now c.args.block c.in_ok-written_in.written_in.now =
    lent c.as_slice.result.now _ c.args.block c.in_ok-written_in.written_in.now c.as_slice.ensures c.in_ok-written_in.ensures.lookup.3.0 c.in_ok-written_in.ensures.lookup.3.1 in
    not_lent c.args.f.now c.args.block c.args.place c.in_ok-written_in.written_in.now c.as_slice-2.result.now c.get-2.result is c.as_slice-2.ensures c.get-2.ensures.lookup
