use Rattle.ir_resolve.proofs.Common.{◌≢◌, None, arith, literal_of, IsUnknownBlock, CaseMeans, known_by, CallsIn}
use Rattle.ir_resolve.proofs.Zips.{zip_more, zip_all, each_at, each_seen_at}
use Rattle.ir_resolve.proofs.building.terminator.cases.Goals as goal

pub number-requires : goal.number-requires
number-requires c = each_at (λ x. literal_of x.value.value ≢ None) c.args.written.now c.loop-written.written-index c.written-item.result (omega arith) c.written-item.is c.requires.numbers

pub target-requires : goal.target-requires
target-requires c = each_seen_at (λ x. x.target) (λ w. ¬ IsUnknownBlock (CallsIn (known_by c.args.names.now)) w.identifier) c.args.written.now c.loop-written.written-index c.written-item.result (omega arith) c.written-item.is c.requires.blocks

pub loop-written-preserved : goal.loop-written-preserved
loop-written-preserved c = zip_more (CaseMeans (CallsIn (known_by c.args.names.now))) c.args.written.now c.loop-written.cases _ c.loop-written.written-index c.written-item.result _ (omega arith) c.written-item.is c.loop-written.invariant c.in_ok-push.ensures.ok (c.number.ensures, c.target.ensures)

pub returns : goal.returns
returns c = zip_all (CaseMeans (CallsIn (known_by c.args.names.now))) c.args.written.now _ _ (omega arith) c.loop-written.invariant
